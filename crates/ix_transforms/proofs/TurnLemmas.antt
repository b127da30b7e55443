-- The matches of a pattern are the first ones from where the search comes to.
use Rattle.std.proofs.Common.{◌≡◌, ℕ, zero, suc, ◌+◌, ◌-◌, ◌≤◌, List, [], ◌∷◌, length, Option, Some, None, refl, sym, ap, subst, arith}
use Rattle.std.proofs.Common.{inl, inr}
use Rattle.std.specs.Prelude.{slice_get}
use Rattle.std.specs.Option.{option_or}
use Rattle.std.proofs.lemmas.Bool.{cases_lt}
use Rattle.ix_pattern.specs.Ways.{Way, ends_at, edge}
use Rattle.ix_pattern.specs.Rows.{Shape}
use Rattle.ix_match.specs.declared.first.Found.{Found}
use Rattle.ix_match.specs.Matches.{ways_from, IsFirst}
use Rattle.ix_match.proofs.ClosedLemmas.{first-known}
use Rattle.ix_transforms.specs.Matches.{preferred, first_of, first, behind, and_on, matches_up_to, matches}
use Rattle.ix_transforms.specs.Laws.{AreInTurn, MatchesAreInTurn}

-- the first match from a place on, and where it begins
abbrev Begins : Shape → List ℕ → ℕ → Option Found → Type 0
Begins p text from None = IsFirst p text from None
Begins p text from (Some f) = (from ≤ f.start) × IsFirst p text from (Some f)

no-way : (place : ℕ) (ways : List Way) → (slice_get ways 0 ≡ Some edge → ⊥) → preferred place ways ≡ None → ways ≡ []
no-way place [] whole e = refl
no-way place (ends_at r ∷ ways) whole e = cc
no-way place (edge ∷ ways) whole e = absurd (whole refl)

starts-here : (place : ℕ) (ways : List Way) (f : Found) → preferred place ways ≡ Some f → f.start ≡ place
starts-here place [] f e = cc
starts-here place (ends_at r ∷ ways) f e =
    let g : Found = record { start = place; end = r.place; groups = r.groups } in
    let same : g ≡ f = cc in sym (ap (λ (x : Found). x.start) same)
starts-here place (edge ∷ ways) f e = cc

head-is : (place : ℕ) (ways : List Way) (f : Found) → preferred place ways ≡ Some f →
    slice_get ways 0 ≡ Some (ends_at (record { place = f.end; groups = f.groups }))
head-is place [] f e = cc
head-is place (ends_at r ∷ ways) f e =
    let g : Found = record { start = place; end = r.place; groups = r.groups } in
    let same : g ≡ f = cc in ap (λ (x : Found). Some (ends_at (record { place = x.end; groups = x.groups }))) same
head-is place (edge ∷ ways) f e = cc

nothing-at : (p : Shape) (text : List ℕ) (place q : ℕ) → ways_from p text place ≡ [] → place ≤ q →
    (place + 1 ≤ q → ways_from p text q ≡ []) → ways_from p text q ≡ []
nothing-at p text place q none low later =
    elim (cases_lt place q) [
      | inl below ↦ later (omega arith)
      | inr above ↦ let same : place ≡ q = omega arith in subst (λ x. ways_from p text x ≡ []) same none
    ]

begins-later : (p : Shape) (text : List ℕ) (place : ℕ) (found : Option Found) → ways_from p text place ≡ [] →
    Begins p text (place + 1) found → Begins p text place found
begins-later p text place None none b = λ q low high. nothing-at p text place q none low (λ further. b q further high)
begins-later p text place (Some f) none b =
    let low : place + 1 ≤ f.start = b.0 in
    (omega arith, (λ q low' high. nothing-at p text place q none low' (λ further. b.1.0 q further high), b.1.1))

begins-here : (p : Shape) (text : List ℕ) (place : ℕ) (f : Found) → preferred place (ways_from p text place) ≡ Some f →
    Begins p text place (Some f)
begins-here p text place f e =
    let start : f.start ≡ place = starts-here place (ways_from p text place) f e in (
      omega arith,
      (
        λ q low high. absurd (omega arith),
        (
          refl,
          subst (λ x. slice_get (ways_from p text x) 0 ≡ Some (ends_at (record { place = f.end; groups = f.groups }))) (sym start)
              (head-is place (ways_from p text place) f e),
        ),
      ),
    )

first_of-begins : (n : ℕ) (p : Shape) (text : List ℕ) (place : ℕ) → length text + 1 ≤ place + n →
    Begins p text place (first_of n p text place)
unfolding first_of
first_of-begins zero p text place room = λ q low high. absurd (omega arith)
first_of-begins (suc n) p text place room =
    elim (preferred place (ways_from p text place)) as (λ x. preferred place (ways_from p text place) ≡ x →
    Begins p text place (option_or x (first_of n p text (place + 1)))) [
      | None ↦ λ e. begins-later p text place (first_of n p text (place + 1))
          (no-way place (ways_from p text place) (first-known p text place) e)
          (first_of-begins n p text (place + 1) (omega arith))
      | Some f ↦ λ e. begins-here p text place f e
    ] refl

first-begins : (p : Shape) (text : List ℕ) (from : ℕ) → Begins p text from (first p text from)
unfolding first
first-begins p text from = first_of-begins (length text + 1 - from) p text from (omega arith)

up_to-in-turn : (n : ℕ) (p : Shape) (text : List ℕ) (from : ℕ) → length text + 1 ≤ n + from →
    AreInTurn p text from (matches_up_to n p text from)
unfolding matches_up_to
up_to-in-turn zero p text from room = λ q low high. absurd (omega arith)
up_to-in-turn (suc n) p text from room =
    elim (first p text from) as (λ x. Begins p text from x → AreInTurn p text from (and_on (λ q. matches_up_to n p text q) x)) [
      | None ↦ λ b. b
      | Some f ↦ λ b.
          let low : from ≤ f.start = b.0 in
          (b.0, b.1, up_to-in-turn n p text (behind f) (omega arith))
    ] (first-begins p text from)

pub matches-in-turn : MatchesAreInTurn
unfolding matches
matches-in-turn p text from = up_to-in-turn (length text + 1) p text from (omega arith)
