-- How many bytes items come to.
use Rattle.std.proofs.Common.{◌≡◌, ◌≤◌, ◌<◌, ◌-◌, ◌^◌, ℕ, List, [], ◌∷◌, length, take, refl, ap, arith, length-append}
use Rattle.std.specs.Prelude.{min, nat_lt, IsTrue, ◌↔◌}
use Rattle.std.specs.List.{sum_by}
use Rattle.std.proofs.lemmas.Bool.Decides.{nat_tests}
use Rattle.std.proofs.lemmas.List.{take_all}
use Rattle.std.proofs.lemmas.List.Sums.{sum_by-cons}
use Rattle.ix_items.specs.Spelling.{item_bytes, body_bytes}
use Rattle.ix_items.specs.declared.items.Item.{Item}

abbrev long : Item → ℕ
long x = length (item_bytes x)

body_sum : (xs : List Item) → length (body_bytes xs) ≡ sum_by long xs
body_sum [] = refl
body_sum (x ∷ xs) =
    let a = length-append (item_bytes x) (body_bytes xs) in
    let b = body_sum xs in
    let c = sum_by-cons long x xs in
    omega (arith, a, b, c)

pub room_told : (total i : ℕ) (list : List Item) → total ≡ min (sum_by (λ (x : Item). length (item_bytes x)) (take i list)) (2 ^ 64 - 1) →
    length list ≤ i →
    IsTrue (nat_lt total (2 ^ 32 - 64)) ↔ length (body_bytes list) < 2 ^ 32 - 64
room_told total i list is end =
    let whole = ap (sum_by long) (take_all i list end) in
    let sum = body_sum list in
    (λ t. grind (arith, nat_tests), λ l. grind (arith, nat_tests))
