-- A pattern's attempts, as a way of looking for breaks.
use Rattle.std.proofs.Common.{◌≡◌, ℕ, zero, suc, ◌+◌, ◌-◌, ◌<◌, ◌≤◌, Bool, true, false, List, [], ◌∷◌, ◌++◌, length, take, drop, get_or}
use Rattle.std.proofs.Common.{Option, Some, None, if◌then◌else◌, refl, sym, ◌∙◌, ap, subst, arith, ◌⊎◌, inl, inr, nat_le}
use Rattle.std.specs.Prelude.{slice_get, replicate, take_while, not}
use Rattle.std.specs.List.{prefix_len}
use Rattle.std.proofs.lemmas.List.{length-take}
use Rattle.std.proofs.lemmas.Bool.{leb-false}
use Rattle.ix_pattern.specs.Piece.{IsSound, least_length, in_set}
use Rattle.ix_pattern.specs.Ways.{Text, Reached, Way, ends_at, edge, sight, ways}
use Rattle.ix_pattern.specs.Rows.{Shape, tree}
use Rattle.ix_pattern.specs.Laws.{Continues, Refines, AllInOrder}
use Rattle.ix_pattern.proofs.Ends.{EachEnd, Within, ways-ends}
use Rattle.ix_pattern.proofs.Refining.{Refines-refl, sight-improves, edges-replaced}
use Rattle.ix_pattern.proofs.Spans.{Ordered, ways-keeps}
use Rattle.ix_match.specs.Attempt.{reach, attempt}
use Rattle.ix_match.specs.Starts.{AreStarts}
use Rattle.ix_match.proofs.ClosedLemmas.{Known, all-known}
use Rattle.ix_match.proofs.StartLemmas.{others-begin-nothing}
use Rattle.ix_lines.specs.Walk.{match, no_match, more}
use Rattle.ix_lines.specs.Breaks.{break_of, look_at, breaks_by}
use Rattle.ix_lines.specs.Laws.{IsStable, BeginsBy, WaitsWithin}
use Rattle.ix_lines.proofs.SeekLemmas.{Sought, sought-first, rest-is}

-- where an attempt begins
abbrev pub at_start : Shape → Reached
at_start p = record { place = 0; groups = replicate p.groups None }

-- the head stays, unless it was an edge
head-stays : (xs ys : List Way) → Refines xs ys → (look_at (slice_get xs 0) ≡ more) ⊎ (slice_get ys 0 ≡ slice_get xs 0)
head-stays [] ys p = inr (ap (λ l. slice_get l 0) p)
head-stays (ends_at r ∷ xs) ys p = inr (ap (λ l. slice_get l 0) p.1)
head-stays (edge ∷ xs) ys p = inl refl

refined : (p : Shape) → IsSound (tree p.rows) → (text longer : Text) → Continues text longer → Refines (attempt p text) (attempt p longer)
refined p sound text longer c =
    elim (sight-improves reach text longer c) [
      | inl e ↦ subst (λ (t : Text). Refines (attempt p text) (ways (tree p.rows) t (at_start p))) e (Refines-refl (attempt p text))
      | inr d ↦ edges-replaced (tree p.rows) sound (sight reach text) (sight reach longer) d (at_start p) (omega arith)
    ]

stays : (p : Shape) → IsSound (tree p.rows) → (before : Option ℕ) (bytes later : List ℕ) (u : Bool) →
    (breaks_by p before bytes true ≡ more) ⊎ (breaks_by p before (bytes ++ later) u ≡ breaks_by p before bytes true)
stays p sound before bytes later u =
    let text : Text = record { before = before; bytes = bytes; unfinished = true } in
    let longer : Text = record { before = before; bytes = bytes ++ later; unfinished = u } in
    elim (head-stays (attempt p text) (attempt p longer)
    (refined p sound text longer (record { unfinished = refl; before = refl; more = later; bytes = refl }))) [
      | inl e ↦ inl e
      | inr e ↦ inr (ap look_at e)
    ]

none-set : (count : ℕ) → AllInOrder 0 (replicate count None)
none-set zero = tt
none-set (suc n) = (tt, none-set n)

break-in-order : (place : ℕ) (groups : List (Option (ℕ × ℕ))) → AllInOrder place groups → ((break_of groups).0 ≤ (break_of groups).1)
    × ((break_of groups).1 ≤ place)
break-in-order place [] all = (omega arith, omega arith)
break-in-order place (None ∷ groups) all = break-in-order place groups all.1
break-in-order place (Some span ∷ groups) all = all.0

more-ne : (a b c : ℕ) → more ≡ match a b c → ⊥
more-ne a b c e = grind arith

none-ne : (a b c : ℕ) → no_match ≡ match a b c → ⊥
none-ne a b c e = grind arith

more-ne-none : more ≡ no_match → ⊥
more-ne-none e = grind arith

sized-head : (text : Text) (l from to n : ℕ) (xs : List Way) → 0 < l → EachEnd (Within text (0 + l)) xs → EachEnd (Ordered 0) xs →
    look_at (slice_get xs 0) ≡ match from to n → (from ≤ to) × (to ≤ n) × (0 < n) × (n ≤ length text.bytes)
sized-head text l from to n [] some w o e = absurd (none-ne from to n e)
sized-head text l from to n (edge ∷ xs) some w o e = absurd (more-ne from to n e)
sized-head text l from to n (ends_at r ∷ xs) some w o e =
    let b = break-in-order r.place r.groups o.0.spans in
    let f : (break_of r.groups).0 ≡ from = cc in
    let t : (break_of r.groups).1 ≡ to = cc in
    let p : r.place ≡ n = cc in
    (omega (arith, b.0), omega (arith, b.1), omega (arith, w.0.low), omega (arith, w.0.high))

sight-length : (n : ℕ) (text : Text) → length (sight n text).bytes ≤ length text.bytes
sight-length n text = by (nat_le n (length text.bytes))
  where
    by : (b : Bool) → length (if b then record text { bytes = take n text.bytes; unfinished = false } else text).bytes ≤ length text.bytes
    by true = omega (arith, length-take n text.bytes)
    by false = omega arith

pub breaks-stable : (p : Shape) → IsSound (tree p.rows) → 0 < least_length (tree p.rows) → IsStable (breaks_by p)
breaks-stable p sound some = record {
  sized = λ before bytes u from to n e.
      let text : Text = record { before = before; bytes = bytes; unfinished = u } in
      let s = sized-head (sight reach text) (least_length (tree p.rows)) from to n (attempt p text) some
      (ways-ends (tree p.rows) (sight reach text) (at_start p) (omega arith))
      (ways-keeps (tree p.rows) (sight reach text) (at_start p) (none-set p.groups)) e in
      (s.0, s.1, s.2, omega (arith, s.3, sight-length reach text));
  match_stays = λ before bytes later u from to n e.
      elim (stays p sound before bytes later u) [
        | inl f ↦ absurd (more-ne from to n (sym f ∙ e))
        | inr f ↦ f ∙ e
      ];
  none_stays = λ before bytes later u some e.
      elim (stays p sound before bytes later u) [
        | inl f ↦ absurd (more-ne-none (sym f ∙ e))
        | inr f ↦ f ∙ e
      ];
}

-- no match begins with a byte of which the table says no
pub breaks-begin : (p : Shape) (starts : List Bool) → AreStarts p starts → BeginsBy (breaks_by p) (λ b. in_set starts b)
breaks-begin p starts are before b bytes u low other =
    ap (λ xs. look_at (slice_get xs 0)) (others-begin-nothing p before b bytes u (sym (are b low) ∙ other))

-- an attempt that has all the bytes that it can see knows its answer
known-look : (xs : List Way) → Known xs → look_at (slice_get xs 0) ≡ more → ⊥
known-look [] k e = grind arith
known-look (edge ∷ xs) k e = k
known-look (ends_at r ∷ xs) k e = grind arith

pub breaks-wait : (p : Shape) → WaitsWithin (breaks_by p) reach
breaks-wait p before bytes u e = by (nat_le reach (length bytes)) refl e
  where
    text : Text
    text = record { before = before; bytes = bytes; unfinished = u }

    near : Text
    near = record { before = before; bytes = take reach bytes; unfinished = false }

    by : (b : Bool) → nat_le reach (length bytes) ≡ b →
        look_at (slice_get (ways (tree p.rows) (if b then near else text) (at_start p)) 0) ≡ more → length bytes < reach
    by true f g = absurd (known-look (ways (tree p.rows) near (at_start p)) (all-known (tree p.rows) near refl (at_start p)) g)
    by false f g = leb-false reach (length bytes) f

-- the code's search for the next byte with which a match may begin
pub sought-over : (p q : Shape) (starts : List Bool) (u : Bool) (before : Option ℕ) (bytes : List ℕ) (at n : ℕ) → AreStarts q starts →
    q ≡ p →
    ((k : ℕ) → get_or bytes k 0 < 256) → Sought (breaks_by p) u before bytes at →
    n ≡ length (take_while (λ b. not (in_set starts b)) (take (length bytes - at) (drop at bytes))) →
    Sought (breaks_by p) u before bytes (at + n)
sought-over p q starts u before bytes at n are same low s e =
    sought-first (breaks_by p) (λ b. in_set starts b) (breaks-begin p starts (subst (λ (r : Shape). AreStarts r starts) same are)) u before
    bytes at n
    (take (length bytes - at) (drop at bytes)) low (rest-is bytes at) s e

pub over-within : (test : ℕ → Bool) (bytes : List ℕ) (at n : ℕ) → at ≤ length bytes →
    n ≡ length (take_while test (take (length bytes - at) (drop at bytes))) →
    at + n ≤ length bytes
over-within test bytes at n h e =
    let hay = take (length bytes - at) (drop at bytes) in
    omega (arith, length-take (prefix_len test hay) hay, length-take (length bytes - at) (drop at bytes))
