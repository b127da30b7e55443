-- What freezes comes into the ledger, each bucket's entry once.
use Rattle.std.proofs.Common.{◌≡◌, ◌<◌, ◌≤◌, ℕ, zero, suc, ◌+◌, ◌-◌, ℤ, Bool, true, false, List, [], ◌∷◌, ◌++◌, refl, sym, ap, ◌∙◌, arith}
use Rattle.std.proofs.Common.{subst}
use Rattle.std.specs.Prelude.{Option, Some, None, ◌==◌, ◌||◌, ◌&&◌, if◌then◌else◌, nat_le, slice_get, option_to_list, filter, take, drop}
use Rattle.std.specs.List.{sum_by, flat_map}
use Rattle.std.proofs.lemmas.Bool.Decides.{Decides-eqb, nat_tests}
use Rattle.std.proofs.lemmas.List.Filters.{sum_by-filter_both}
use Rattle.std.proofs.lemmas.List.Sums.{sum_by-cons, sum_by-append, sum_by-take-drop, sum_by-take-le}
use Rattle.ix_base.specs.declared.events.Event.{Event}
use Rattle.ix_items.specs.declared.items.Bucket.{Bucket}
use Rattle.ix_items.specs.declared.items.Entry.{Entry}
use Rattle.ix_items.specs.declared.items.Rule.{Rule}
use Rattle.ix_items.specs.declared.items.Rule.TheVariants as rules
use Rattle.ix_items.specs.declared.items.State.{State as BucketState}
use Rattle.ix_items.specs.declared.items.State.TheVariants as states
use Rattle.ix_life.specs.Housekeeping as house
use Rattle.ix_life.specs.Housekeeping.{has_state_cold, has_state_warm, is_unused, by_rule}
use Rattle.ix_life.specs.Order as order
use Rattle.ix_life.specs.Placing.{takes_events}
use Rattle.ix_life.specs.declared.picks.Policy.{Policy}
use Rattle.ix_model.specs.Balance.{stored_by}
use Rattle.ix_model.specs.Buckets.{Standing, live, frozen, Slot, listed, entered, buckets}
use Rattle.ix_model.specs.Keeping.{turned, turned_by, file_behind, all_turned, entered_at, entries_of}
use Rattle.ix_catalog.specs.Buckets.{Turn, rule_of}
use Rattle.ix_model.specs.Sums.{IsStandingOf, AreSoundFrom}
use Rattle.ix_model.proofs.Named.{by_test, sum_put}

none_some : {X : Type 0} {x : X} → None ≡ Some x → ⊥
none_some e = cc

true-false : true ≡ false → ⊥
true-false e = cc

-- ---- sums

zero_sum : {X : Type 0} (f : X → ℕ) → ((x : X) → f x ≡ 0) → (xs : List X) → sum_by f xs ≡ 0
zero_sum f z [] = refl
zero_sum f z (x ∷ xs) = let a = sum_by-cons f x xs in let b = z x in let c = zero_sum f z xs in omega (arith, a, b, c)

pub flat_sum : {X Y : Type 0} (g : Y → ℕ) (f : X → List Y) (xs : List X) → sum_by g (flat_map f xs) ≡ sum_by (λ (x : X). sum_by g (f x)) xs
flat_sum g f [] = refl
flat_sum {X = X} g f (x ∷ xs) =
    let a = sum_by-append g (f x) (flat_map f xs) in
    let b = sum_by-cons (λ (y : X). sum_by g (f y)) x xs in
    let c = flat_sum g f xs in
    omega (arith, a, b, c)

sorted_sum : {X : Type 0} (g : X → ℕ) (before : X → X → Bool) (xs : List X) → sum_by g (order.sorted_by before xs) ≡ sum_by g xs
sorted_sum g before [] = refl
sorted_sum g before (x ∷ xs) =
    let a = sum_put before g x (order.sorted_by before xs) in
    let b = sorted_sum g before xs in
    let c = sum_by-cons g x xs in
    omega (arith, a, b, c)

pub filter_sum : {X : Type 0} (f : X → ℕ) (p : X → Bool) (xs : List X) →
    sum_by f (filter p xs) ≡ sum_by (λ (x : X). if p x then f x else 0) xs
filter_sum f p [] = refl
filter_sum {X = X} f p (x ∷ xs) =
    let c = sum_by-cons (λ (y : X). if p y then f y else 0) x xs in
    let d = filter_sum f p xs in
    let e = by (p x) in
    omega (arith, c, d, e)
  where
    by : (b : Bool) → sum_by f (if b then x ∷ filter p xs else filter p xs) ≡ (if b then f x else 0) + sum_by f (filter p xs)
    by true = sum_by-cons f x (filter p xs)
    by false = omega arith

filter_both_sum : {X : Type 0} (f : X → ℕ) (p : X → Bool) (xs ys : List X) →
    sum_by f (filter p (xs ++ ys)) ≡ sum_by f (filter p xs) + sum_by f (filter p ys)
filter_both_sum {X = X} f p xs ys =
    let a = filter_sum f p (xs ++ ys) in
    let b = filter_sum f p xs in
    let c = filter_sum f p ys in
    let d = sum_by-append (λ (x : X). if p x then f x else 0) xs ys in
    omega (arith, a, b, c, d)

two_most : {X : Type 0} (f g h : X → ℕ) → ((x : X) → f x + g x ≤ h x) → (xs : List X) → sum_by f xs + sum_by g xs ≤ sum_by h xs
two_most f g h k [] = omega arith
two_most f g h k (x ∷ xs) =
    let a = sum_by-cons f x xs in
    let b = sum_by-cons g x xs in
    let c = sum_by-cons h x xs in
    let d = k x in
    let e = two_most f g h k xs in
    omega (arith, a, b, c, d, e)

-- ---- a turn freezes a live bucket once at most, and no other

ruled_sum : (h : ℕ → ℕ) (rule : Rule) (bs : List Bucket) →
    sum_by (λ (x : ℕ × Rule). h x.0) (by_rule rule bs) ≡ sum_by (λ (b : Bucket). h b.id) bs
ruled_sum h rule [] = refl
ruled_sum h rule (b ∷ bs) =
    let a = sum_by-cons (λ (x : ℕ × Rule). h x.0) (b.id, rule) (by_rule rule bs) in
    let c = sum_by-cons (λ (x : Bucket). h x.id) b bs in
    let d = ruled_sum h rule bs in
    omega (arith, a, c, d)

frozen_most : (p : Policy) (hot : ℕ) (cold warm : List Bucket) (h : ℕ → ℕ) →
    sum_by (λ (x : ℕ × Rule). h x.0) (house.frozen p hot cold warm) ≤ sum_by (λ (b : Bucket). h b.id) cold + sum_by (λ (b : Bucket). h b.id)
    warm
frozen_most p hot cold warm h =
    let by_id = (λ (b : Bucket). h b.id) in
    let young_cold = filter (house.is_young p) cold in
    let young_warm = filter (house.is_young p) warm in
    let old = filter (house.is_old p) (cold ++ warm) in
    let n = house.going (house.cold_cap p.limits) young_cold in
    let left = drop n young_cold ++ young_warm in
    let k = house.going (house.total_cap p.limits hot) left in
    let a = sum_by-append (λ (x : ℕ × Rule). h x.0) (by_rule rules.Age (order.ordered old)) (by_rule rules.Cold (take n young_cold)
    ++ by_rule rules.Total (take k left)) in
    let b = sum_by-append (λ (x : ℕ × Rule). h x.0) (by_rule rules.Cold (take n young_cold)) (by_rule rules.Total (take k left)) in
    let c = ruled_sum h rules.Age (order.ordered old) in
    let d = ruled_sum h rules.Cold (take n young_cold) in
    let e = ruled_sum h rules.Total (take k left) in
    let f = sorted_sum by_id order.is_before old in
    let g = sum_by-filter_both (house.is_old p) (house.is_young p) (λ x. refl) by_id (cold ++ warm) in
    let i = sum_by-append by_id cold warm in
    let j = filter_both_sum by_id (house.is_young p) cold warm in
    let l = sum_by-take-drop by_id young_cold n in
    let m = sum_by-append by_id (drop n young_cold) young_warm in
    let o = sum_by-take-le by_id left k in
    omega (arith, a, b, c, d, e, f, g, i, j, l, m, o)

-- what is warm, cold or idle is not thawed, and no two of these
by_state : (s : BucketState) (unused : Bool) (n : ℕ) →
    (if has_state_cold s then n else 0) + (if has_state_warm s || (takes_events s && unused) then n else 0) ≤ stored_by s n
by_state states.Hot true n = omega arith
by_state states.Hot false n = omega arith
by_state states.Quarantine true n = omega arith
by_state states.Quarantine false n = omega arith
by_state states.Warm unused n = omega arith
by_state states.Cold unused n = omega arith
by_state states.Thawed unused n = omega arith

pub housed : (p : Policy) (bs : List Bucket) (h : ℕ → ℕ) →
    sum_by (λ (x : ℕ × Rule). h x.0) (house.moves p bs).frozen ≤ sum_by (λ (b : Bucket). stored_by b.state (h b.id)) bs
housed p bs h =
    let by_id = (λ (b : Bucket). h b.id) in
    let warm_test = (λ (b : Bucket). house.is_warm b || house.is_idle p b) in
    let a = frozen_most p (house.hot_bytes p bs) (house.cold p bs) (house.still_warm p bs) h in
    let b = sorted_sum by_id order.is_before (filter house.is_cold bs ++ house.cooled p bs) in
    let c = sum_by-append by_id (filter house.is_cold bs) (house.cooled p bs) in
    let d = sum_by-take-drop by_id (house.warm p bs) (house.cooling p bs) in
    let e = sorted_sum by_id order.is_before (filter warm_test bs) in
    let f = filter_sum by_id house.is_cold bs in
    let g = filter_sum by_id warm_test bs in
    let i = two_most (λ (x : Bucket). if house.is_cold x then h x.id else 0)
    (λ (x : Bucket). if house.is_warm x || house.is_idle p x then h x.id else 0)
    (λ (x : Bucket). stored_by x.state (h x.id)) (λ x. by_state x.state (is_unused p x) (h x.id)) bs in
    omega (arith, a, b, c, d, e, f, g, i)

-- ---- how often a number stands among those that freeze

abbrev pub hits : ℕ → ℕ → List (ℕ × Rule) → ℕ
hits c id xs = sum_by (λ (x : ℕ × Rule). if x.0 == id then c else 0) xs

hits_zero : (id : ℕ) (xs : List (ℕ × Rule)) → hits 0 id xs ≡ 0
hits_zero id xs = zero_sum (λ (x : ℕ × Rule). if x.0 == id then 0 else 0) (λ x. by_test (x.0 == id) (λ t. rw t refl) (λ t. rw t refl)) xs

hits_none : (c id : ℕ) (xs : List (ℕ × Rule)) → hits 1 id xs ≤ 0 → hits c id xs ≡ 0
hits_none c id [] h = refl
hits_none c id (x ∷ xs) h =
    sum_by-cons (λ (y : ℕ × Rule). if y.0 == id then c else 0) x xs
    ∙ by (x.0 == id) (hits_none c id xs) (subst (λ (n : ℕ). n ≤ 0) (sum_by-cons (λ (y : ℕ × Rule). if y.0 == id then 1 else 0) x xs) h)
  where
    by : (b : Bool) → (hits 1 id xs ≤ 0 → hits c id xs ≡ 0) → (if b then 1 else 0) + hits 1 id xs ≤ 0 →
        (if b then c else 0) + hits c id xs ≡ 0
    by true rest k = absurd (omega (arith, k))
    by false rest k = let q = rest (omega (arith, k)) in omega (arith, q)

hits_once : (c id : ℕ) (xs : List (ℕ × Rule)) (r : Rule) → rule_of xs id ≡ Some r → hits 1 id xs ≤ 1 → hits c id xs ≡ c
hits_once c id [] r e h = absurd (none_some e)
hits_once c id (x ∷ xs) r e h =
    sum_by-cons (λ (y : ℕ × Rule). if y.0 == id then c else 0) x xs
    ∙ by (x.0 == id) (hits_once c id xs r) e (subst (λ (n : ℕ). n ≤ 1) (sum_by-cons (λ (y : ℕ × Rule). if y.0 == id then 1 else 0) x xs) h)
  where
    by : (b : Bool) → (rule_of xs id ≡ Some r → hits 1 id xs ≤ 1 → hits c id xs ≡ c) → (if b then Some x.1 else rule_of xs id) ≡ Some r →
        (if b then 1 else 0) + hits 1 id xs ≤ 1 → (if b then c else 0) + hits c id xs ≡ c
    by true rest e k = let q = hits_none c id xs (omega (arith, k)) in omega (arith, q)
    by false rest e k = let q = rest e (omega (arith, k)) in omega (arith, q)

-- ---- sums over the numbers from one on

abbrev from : ℕ → (ℕ → ℕ) → ℕ → ℕ
from a w n = if nat_le a n then w n else 0

from_zero : (w : ℕ → ℕ) (n : ℕ) → from 0 w n ≡ w n
from_zero w n = grind (arith, nat_tests)

split_one : (a : ℕ) (w : ℕ → ℕ) (n : ℕ) → from a w n ≡ (if n == a then w a else 0) + from (suc a) w n
split_one a w n = grind (arith, nat_tests)

split_sum : (a : ℕ) (w : ℕ → ℕ) (xs : List (ℕ × Rule)) →
    sum_by (λ (x : ℕ × Rule). from a w x.0) xs ≡ hits (w a) a xs + sum_by (λ (x : ℕ × Rule). from (suc a) w x.0) xs
split_sum a w [] = refl
split_sum a w (x ∷ xs) =
    let b = sum_by-cons (λ (y : ℕ × Rule). from a w y.0) x xs in
    let c = sum_by-cons (λ (y : ℕ × Rule). if y.0 == a then w a else 0) x xs in
    let d = sum_by-cons (λ (y : ℕ × Rule). from (suc a) w y.0) x xs in
    let e = split_one a w x.0 in
    let f = split_sum a w xs in
    omega (arith, b, c, d, e, f)

le_of : (a n : ℕ) → nat_le a n ≡ true → a ≤ n
le_of a n t = grind (arith, nat_tests, t)

from_none : (a : ℕ) (w : ℕ → ℕ) → ((n j : ℕ) → n ≡ a + j → w n ≡ 0) → (n : ℕ) → from a w n ≡ 0
from_none a w z n = by_test (nat_le a n)
    (λ t. rw t (let l = le_of a n t in z n (n - a) (omega (arith, l))))
    (λ t. rw t refl)

-- ---- the buckets of an index behind a turn

abbrev pub gain : (Entry → ℕ) → Standing → ℕ
gain g standing = sum_by g (option_to_list (entered standing))

abbrev pub gained : (Entry → ℕ) → Slot → ℕ
gained g s = gain g s.standing

abbrev pub gain_at : (Entry → ℕ) → Option Slot → ℕ
gain_at g o = sum_by g (option_to_list (entered_at o))

abbrev pub live_one : Standing → ℕ
live_one (live b) = 1
live_one (frozen e other) = 0

abbrev pub live_at : Option Slot → ℕ
live_at None = 0
live_at (Some s) = live_one s.standing

one_turned : (g : Entry → ℕ) (t : Turn) (index : List ℕ) (file a : ℕ) (events : List Event) (standing : Standing) (c : ℕ) →
    IsStandingOf index a events standing →
    c ≡ gain g (turned t file standing) → hits 1 a t.moves.frozen ≤ live_one standing →
    gain g (turned t file standing) ≡ gain g standing + hits c a t.moves.frozen
one_turned g t index file a events (live b) c s e h = by (rule_of t.moves.frozen b.id) refl e
  where
    by : (o : Option Rule) → rule_of t.moves.frozen b.id ≡ o → c ≡ gain g (turned_by t file b o) →
        gain g (turned_by t file b o) ≡ 0 + hits c a t.moves.frozen
    by None f k = let z = ap (λ (n : ℕ). hits n a t.moves.frozen) k ∙ hits_zero a t.moves.frozen in omega (arith, z)
    by (Some rule) f k =
        let z = hits_once c a t.moves.frozen rule (subst (λ (n : ℕ). rule_of t.moves.frozen n ≡ Some rule) s.is_of.id_is f) h in
        omega (arith, z, k)
one_turned g t index file a events (frozen e other) c s f h = let z = hits_none c a t.moves.frozen h in omega (arith, z)

turn_adds : (g : Entry → ℕ) (t : Turn) (index : List ℕ) (file a : ℕ) (slots : List Slot) (w : ℕ → ℕ) → AreSoundFrom index a slots →
    ((n j : ℕ) → n ≡ a + j → w n ≡ gain_at g (slice_get (all_turned t file slots) j)) →
    ((n j : ℕ) → n ≡ a + j → hits 1 n t.moves.frozen ≤ live_at (slice_get slots j)) →
    sum_by (gained g) (all_turned t file slots) ≡ sum_by (gained g) slots + sum_by (λ (x : ℕ × Rule). from a w x.0) t.moves.frozen
turn_adds g t index file a [] w s at once =
    let z = zero_sum (λ (x : ℕ × Rule). from a w x.0) (λ x. from_none a w at x.0) t.moves.frozen in omega (arith, z)
turn_adds g t index file a (x ∷ slots) w s at once =
    let next = file_behind t file x.standing in
    let b = sum_by-cons (gained g) (record { events = x.events; standing = turned t file x.standing }) (all_turned t next slots) in
    let c = sum_by-cons (gained g) x slots in
    let d = split_sum a w t.moves.frozen in
    let e = one_turned g t index file a x.events x.standing (w a) s.0 (at a 0 (omega arith)) (once a 0 (omega arith)) in
    let f = turn_adds g t index next (suc a) slots w s.1 (λ n j p. at n (suc j) (omega (arith, p)))
    (λ n j p. once n (suc j) (omega (arith, p))) in
    omega (arith, b, c, d, e, f)

-- ---- how often a number stands among those of the live buckets

abbrev once_of : ℕ → Bucket → ℕ
once_of n b = stored_by b.state (if b.id == n then 1 else 0)

stored_le : (s : BucketState) (k : ℕ) → stored_by s k ≤ k
stored_le states.Hot k = omega arith
stored_le states.Quarantine k = omega arith
stored_le states.Warm k = omega arith
stored_le states.Cold k = omega arith
stored_le states.Thawed k = omega arith

one_le : (b : Bool) → (if b then 1 else 0) ≤ 1
one_le true = omega arith
one_le false = omega arith

one_most : (index : List ℕ) (id n : ℕ) (events : List Event) (standing : Standing) → IsStandingOf index id events standing →
    sum_by (once_of n) (option_to_list (listed standing)) ≤ live_one standing
one_most index id n events (live b) h = let p = stored_le b.state (if b.id == n then 1 else 0) in let q = one_le (b.id == n) in
    omega (arith, p, q)
one_most index id n events (frozen e None) h = omega arith
one_most index id n events (frozen e (Some b)) h =
    let p : once_of n b ≡ 0 = ap (λ (x : BucketState). stored_by x (if b.id == n then 1 else 0)) h.1.state_is in omega (arith, p)

other_none : (m n : ℕ) → (m ≡ n → ⊥) → (if m == n then 1 else 0) ≤ 0
other_none m n d = by_test (m == n) (λ t. absurd (d ((Decides-eqb m n).0 t))) (λ t. rw t (omega arith))

one_none : (index : List ℕ) (id n : ℕ) (events : List Event) (standing : Standing) → IsStandingOf index id events standing → (id ≡ n → ⊥) →
    sum_by (once_of n) (option_to_list (listed standing)) ≤ 0
one_none index id n events (live b) h d =
    let p = stored_le b.state (if b.id == n then 1 else 0) in
    let q = other_none b.id n (λ e. d (sym h.is_of.id_is ∙ e)) in
    omega (arith, p, q)
one_none index id n events (frozen e None) h d = omega arith
one_none index id n events (frozen e (Some b)) h d =
    let p : once_of n b ≡ 0 = ap (λ (x : BucketState). stored_by x (if b.id == n then 1 else 0)) h.1.state_is in omega (arith, p)

none_behind : (index : List ℕ) (id n : ℕ) (slots : List Slot) → AreSoundFrom index id slots → n < id →
    sum_by (once_of n) (buckets slots) ≤ 0
none_behind index id n [] h l = omega arith
none_behind index id n (s ∷ slots) h l =
    let a = sum_by-append (once_of n) (option_to_list (listed s.standing)) (buckets slots) in
    let b = one_none index id n s.events s.standing h.0 (λ e. omega (arith, e, l)) in
    let c = none_behind index (suc id) n slots h.1 (omega (arith, l)) in
    omega (arith, a, b, c)

pub most_at : (index : List ℕ) (id n j : ℕ) (slots : List Slot) → AreSoundFrom index id slots → n ≡ id + j →
    sum_by (once_of n) (buckets slots) ≤ live_at (slice_get slots j)
most_at index id n j [] h e = omega arith
most_at index id n zero (s ∷ slots) h e =
    let a = sum_by-append (once_of n) (option_to_list (listed s.standing)) (buckets slots) in
    let b = one_most index id n s.events s.standing h.0 in
    let c = none_behind index (suc id) n slots h.1 (omega (arith, e)) in
    omega (arith, a, b, c)
most_at index id n (suc j) (s ∷ slots) h e =
    let a = sum_by-append (once_of n) (option_to_list (listed s.standing)) (buckets slots) in
    let b = one_none index id n s.events s.standing h.0 (λ f. omega (arith, e, f)) in
    let c = most_at index (suc id) n j slots h.1 (omega (arith, e)) in
    omega (arith, a, b, c)

-- ---- a turn adds the entries of what freezes

entries_sum : (g : Entry → ℕ) (slots : List Slot) (xs : List (ℕ × Rule)) →
    sum_by g (flat_map (λ (x : ℕ × Rule). option_to_list (entered_at (slice_get slots x.0))) xs)
    ≡ sum_by (λ (x : ℕ × Rule). from 0 (λ (n : ℕ). gain_at g (slice_get slots n)) x.0) xs
entries_sum g slots [] = refl
entries_sum g slots (x ∷ xs) =
    let a = sum_by-append g (option_to_list (entered_at (slice_get slots x.0)))
    (flat_map (λ (y : ℕ × Rule). option_to_list (entered_at (slice_get slots y.0))) xs) in
    let b = sum_by-cons (λ (y : ℕ × Rule). from 0 (λ (n : ℕ). gain_at g (slice_get slots n)) y.0) x xs in
    let c = from_zero (λ (n : ℕ). gain_at g (slice_get slots n)) x.0 in
    let d = entries_sum g slots xs in
    omega (arith, a, b, c, d)

pub house_adds : (g : Entry → ℕ) (index : List ℕ) (archive : Bool) (moment : ℤ) (p : Policy) (file : ℕ) (slots : List Slot) →
    AreSoundFrom index 0 slots →
    let t : Turn = record { index = index; archive = archive; moment = moment; moves = house.moves p (buckets slots) } in
    sum_by (gained g) (all_turned t file slots) ≡ sum_by (gained g) slots + sum_by g (entries_of t (all_turned t file slots))
house_adds g index archive moment p file slots h =
    let t : Turn = record { index = index; archive = archive; moment = moment; moves = house.moves p (buckets slots) } in
    let behind = all_turned t file slots in
    let a = turn_adds g t index file 0 slots (λ (n : ℕ). gain_at g (slice_get behind n)) h
    (λ n j e. ap (λ (k : ℕ). gain_at g (slice_get behind k)) (let k : n ≡ j = omega (arith, e) in k))
    (λ n j e. (let b = housed p (buckets slots) (λ (id : ℕ). if id == n then 1 else 0) in
    let c = most_at index 0 n j slots h e in
    omega (arith, b, c))) in
    let d = entries_sum g behind t.moves.frozen in
    omega (arith, a, d)
