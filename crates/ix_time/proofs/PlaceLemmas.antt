-- The end of the first match.
use Rattle.std.proofs.Common.{◌≡◌, inl, inr, ℕ, zero, suc, ◌+◌, ◌≤◌, ◌<◌, List, [], length, Some, None, refl, subst, arith}
use Rattle.std.proofs.lemmas.Bool.Decides.{leb_tells}
use Rattle.std.specs.Prelude.{slice_get}
use Rattle.ix_pattern.specs.Rows.{Shape}
use Rattle.ix_pattern.specs.Ways.{Reached, ends_at}
use Rattle.ix_match.specs.Matches.{ways_from}
use Rattle.ix_time.specs.Window.{FirstMatchEnds, end_at, first_end}

-- where no way begins
no_end : (p : Shape) (text : List ℕ) (place : ℕ) → ways_from p text place ≡ [] → end_at p text place ≡ None
unfolding end_at
no_end p text place none = rw none refl

-- where the preferred way ends
an_end : (p : Shape) (text : List ℕ) (place : ℕ) (r : Reached) → slice_get (ways_from p text place) 0 ≡ Some (ends_at r) →
    end_at p text place ≡ Some r.place
unfolding end_at
an_end p text place r way = rw way refl

first_end-none : (p : Shape) (text : List ℕ) (from more : ℕ) →
    ((place : ℕ) → from ≤ place → place ≤ from + more → ways_from p text place ≡ []) → first_end p text from more ≡ None
unfolding first_end
first_end-none p text from zero none = no_end p text from (none from (omega arith) (omega arith))
first_end-none p text from (suc more) none =
    rw (no_end p text from (none from (omega arith) (omega arith)))
    (first_end-none p text (from + 1) more (λ place low high. none place (omega arith) (omega arith)))

first_end-some : (p : Shape) (text : List ℕ) (from more start end : ℕ) → from ≤ start → start ≤ from + more →
    ((place : ℕ) → from ≤ place → place < start → ways_from p text place ≡ []) → end_at p text start ≡ Some end →
    first_end p text from more ≡ Some end
unfolding first_end
first_end-some p text from zero start end low high none there =
    let same : start ≡ from = omega arith in
    subst (λ place. end_at p text place ≡ Some end) same there
first_end-some p text from (suc more) start end low high none there =
    elim (leb_tells start from) [
      | inl small ↦
          let same : start ≡ from = let h = small.1 in omega arith in
          let here : end_at p text from ≡ Some end = subst (λ place. end_at p text place ≡ Some end) same there in
          rw here refl
      | inr big ↦
          let far = big.1 in
          rw (no_end p text from (none from (omega arith) (omega arith)))
          (first_end-some p text (from + 1) more start end (omega arith) (omega arith) (λ place above below. none place (omega arith) below)
          there)
    ]

-- the place behind the first match is where that match ends
pub match_ends : FirstMatchEnds
match_ends p text None first within = first_end-none p text 0 (length text) (λ place low high. first place low (omega arith))
match_ends p text (Some found) first within =
    first_end-some p text 0 (length text) found.start found.end (omega arith) (omega arith) first.0 (an_end p text found.start _ first.1.1)
