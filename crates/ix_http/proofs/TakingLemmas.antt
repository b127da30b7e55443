-- What is taken behind a head, piece by piece.
use Rattle.std.proofs.Common.{◌≡◌, ℕ, ◌+◌, ◌-◌, ◌<◌, ◌≤◌, List, [], ◌++◌, length, take, drop, refl, sym, ap, ◌∙◌, arith, append_assoc}
use Rattle.std.proofs.Common.{length-append}
use Rattle.std.proofs.lemmas.List.{append-nil, length-take-le}
use Rattle.std.specs.Prelude.{Option, Some, None, IfSome}
use Rattle.std.proofs.lemmas.List.{take-append-drop, take-append-le}
use Rattle.std.proofs.lemmas.Grind.{common_steps}
use Rattle.ix_heads.proofs.FrontLemmas.{take_over}
use Rattle.ix_base.specs.Told.{Told, Took}
use Rattle.ix_heads.specs.Heads.{TakesSome}
use Rattle.ix_http.specs.Behind.{EndsBefore, TakesCount, TakesPart}

pub part_nothing : (n : ℕ) (x : Option (List ℕ)) → Told (TakesPart n n) x x
part_nothing n None = tt
part_nothing n (Some x) = ([], refl, omega arith)

-- one more piece
pub part_more : (n rest k : ℕ) (piece : List ℕ) → k ≤ length piece → k ≤ rest → (old mid new : List ℕ) → TakesPart n rest old mid →
    Took (take k piece) mid new → TakesPart n (rest - k) old new
part_more n rest k piece inside fits old mid new part took =
    let size = length-append part.0 (take k piece) in
    let len = length-take-le k piece inside in (
      part.0 ++ take k piece,
      part.1 ∙ ap (λ t. part.0 ++ t) took ∙ sym (append_assoc part.0 (take k piece) new),
      omega (arith, size, len, part.2, fits),
    )

pub part_whole : (n rest : ℕ) → rest ≡ 0 → (old new : List ℕ) → TakesPart n rest old new → TakesCount n old new
part_whole n rest none old new part = (part.0, (part.1, omega (arith, part.2, none)))

pub part_some : (n rest : ℕ) (old new : List ℕ) → TakesPart n rest old new → TakesSome old new
part_some n rest old new part = (part.0, part.1)

-- the link ended behind what was taken
pub part_cut : (n rest : ℕ) → 0 < rest → (x y z : Option (List ℕ)) → Told (TakesPart n rest) x y → IfSome y (λ bytes. bytes ≡ []) →
    Told (Took []) y z → Told (EndsBefore n) x z
part_cut n rest some None None None p q r = tt
part_cut n rest some None None (Some z) p q r = absurd r
part_cut n rest some None (Some y) z p q r = absurd p
part_cut n rest some (Some x) None z p q r = absurd p
part_cut n rest some (Some x) (Some y) None p q r = absurd r
part_cut n rest some (Some x) (Some y) (Some z) p q r =
    let len = ap length (p.1 ∙ ap (λ t. p.0 ++ t) q ∙ append-nil p.0) in
    (omega (arith, len, p.2, some), sym r ∙ q)

-- the same of a buffer
pub fill_cut : (part : List ℕ) (n : ℕ) → length part < n → (x y z : Option (List ℕ)) → Told (Took part) x y →
    IfSome y (λ bytes. bytes ≡ []) → Told (Took []) y z → Told (EndsBefore n) x z
fill_cut part n less None None None p q r = tt
fill_cut part n less None None (Some z) p q r = absurd r
fill_cut part n less None (Some y) z p q r = absurd p
fill_cut part n less (Some x) None z p q r = absurd p
fill_cut part n less (Some x) (Some y) None p q r = absurd r
fill_cut part n less (Some x) (Some y) (Some z) p q r =
    let len = ap length (p ∙ ap (λ t. part ++ t) q ∙ append-nil part) in
    (omega (arith, len, less), sym r ∙ q)

pub took_more : (part piece both old mid new : List ℕ) → both ≡ part ++ piece → Took part old mid → Took piece mid new → Took both old new
took_more part piece both old mid new is p q =
    p ∙ ap (λ t. part ++ t) q ∙ sym (append_assoc part piece new) ∙ ap (λ t. t ++ new) (sym is)

pub took_some : (part old new : List ℕ) → Took part old new → TakesSome old new
took_some part old new took = (part, took)

-- ---- a part of a buffer that was read into: `whole` is the buffer behind that

part_len : (a : ℕ) (xs ys whole : List ℕ) → a ≤ length xs → take (a + length ys) whole ≡ take a xs ++ ys →
    length (take (a + length ys) whole) ≡ a + length ys
part_len a xs ys whole inside is =
    let text = ap length is in
    let size = length-append (take a xs) ys in
    let front = length-take-le a xs inside in
    omega (arith, text, size, front)

pub filled : (a k : ℕ) (xs ys whole : List ℕ) → a ≤ length xs → k ≤ length ys → take (a + length ys) whole ≡ take a xs ++ ys →
    take (a + k) whole ≡ take a xs ++ take k ys
filled a k xs ys whole inside fits is =
    let m : ℕ = a + length ys in
    let front = length-take-le a xs inside in
    let len = part_len a xs ys whole inside is in
    ap (take (a + k)) (sym (take-append-drop m whole))
    ∙ take-append-le (a + k) (take m whole) (drop m whole) (omega (arith, len, fits))
    ∙ ap (take (a + k)) is
    ∙ take_over (take a xs) ys (a + k) (omega (arith, front))
    ∙ ap (λ n. take a xs ++ take n ys) (omega (arith, front))

pub fill_inside : (a k : ℕ) (xs ys whole : List ℕ) → a ≤ length xs → k ≤ length ys → take (a + length ys) whole ≡ take a xs ++ ys →
    a + k ≤ length whole
fill_inside a k xs ys whole inside fits is =
    let len = part_len a xs ys whole inside is in
    let size = length-append (take (a + length ys) whole) (drop (a + length ys) whole) in
    let all = ap length (take-append-drop (a + length ys) whole) in
    omega (arith, len, size, all, fits)

-- no more than a part of it
pub cut_len : (n k : ℕ) (xs : List ℕ) → k ≤ length (take n xs) → k ≤ n
cut_len n k xs fits = grind (arith, common_steps)
