-- The first match and those behind it, step by step.
use Rattle.std.proofs.Common.{◌≡◌, ℕ, zero, suc, ◌+◌, ◌-◌, ◌<◌, ◌≤◌, List, [], ◌∷◌, length, Option, Some, None, refl, sym, ◌∙◌, ap, arith}
use Rattle.std.proofs.Common.{inl, inr, add-one}
use Rattle.std.specs.Prelude.{slice_get, IfSome}
use Rattle.std.proofs.lemmas.Bool.{cases_lt}
use Rattle.std.specs.Option.{option_or}
use Rattle.ix_pattern.specs.Ways.{Way, Reached, ends_at, edge}
use Rattle.ix_pattern.specs.Rows.{Shape}
use Rattle.ix_match.specs.declared.first.Found.{Found}
use Rattle.ix_match.specs.Matches.{ways_from, MatchesAt, IsFirst, LiesIn}
use Rattle.ix_transforms.specs.Matches.{preferred, first_of, first, behind, and_on, matches_up_to, matches}

abbrev found_at : ℕ → Reached → Found
found_at place r = record { start = place; end = r.place; groups = r.groups }

preferred-head : (place : ℕ) (ways : List Way) (r : Reached) → slice_get ways 0 ≡ Some (ends_at r) →
    preferred place ways ≡ Some (found_at place r)
preferred-head place [] r h = cc
preferred-head place (ends_at s ∷ ways) r h = let same : s ≡ r = cc in ap (λ (x : Reached). Some (found_at place x)) same
preferred-head place (edge ∷ ways) r h = cc

preferred-start : (place : ℕ) (ways : List Way) (f : Found) → preferred place ways ≡ Some f → f.start ≡ place
preferred-start place [] f h = cc
preferred-start place (ends_at s ∷ ways) f h = let same : found_at place s ≡ f = cc in sym (ap (λ (x : Found). x.start) same)
preferred-start place (edge ∷ ways) f h = cc

first_of-none : (n : ℕ) (p : Shape) (text : List ℕ) (place : ℕ) → place + n ≤ length text + 1 →
    ((q : ℕ) → place ≤ q → q ≤ length text → ways_from p text q ≡ []) → first_of n p text place ≡ None
unfolding first_of
first_of-none zero p text place room none = refl
first_of-none (suc n) p text place room none =
    ap (λ x. option_or (preferred place x) (first_of n p text (place + 1))) (none place (omega arith) (omega arith))
    ∙ first_of-none n p text (place + 1) (omega arith) (λ q low high. none q (omega arith) high)

first_of-some : (n : ℕ) (p : Shape) (text : List ℕ) (place : ℕ) (f : Found) → place ≤ f.start → f.start < place + n →
    ((q : ℕ) → place ≤ q → q < f.start → ways_from p text q ≡ []) → MatchesAt p text f.start (Some f) → first_of n p text place ≡ Some f
unfolding first_of
first_of-some zero p text place f low high none here = absurd (omega arith)
first_of-some (suc n) p text place f low high none here =
    elim (cases_lt place f.start) [
      | inr above ↦
          let e : place ≡ f.start = omega arith in
          let at : preferred f.start (ways_from p text f.start) ≡ Some f =
          preferred-head f.start (ways_from p text f.start) (record { place = f.end; groups = f.groups }) here.1 in
          ap (λ q. option_or (preferred q (ways_from p text q)) (first_of n p text (place + 1))) e
          ∙ ap (λ x. option_or x (first_of n p text (place + 1))) at
      | inl below ↦
          ap (λ x. option_or (preferred place x) (first_of n p text (place + 1))) (none place (omega arith) below)
          ∙ first_of-some n p text (place + 1) f (omega arith) (omega arith) (λ q low' high'. none q (omega arith) high') here
    ]

-- what a search finds is the first match
pub first-is : (p : Shape) (text : List ℕ) (from : ℕ) (found : Option Found) → from ≤ length text → IsFirst p text from found →
    IfSome found (λ f. LiesIn text from p.groups f) → found ≡ first p text from
unfolding first
first-is p text from None here none lies = sym (first_of-none (length text + 1 - from) p text from (omega arith) none)
first-is p text from (Some f) here some lies =
    let low = lies.begins in
    let high = lies.order in
    let within = lies.within in
    sym (first_of-some (length text + 1 - from) p text from f low (omega arith) some.0 some.1)

pub first-past : (p : Shape) (text : List ℕ) (from : ℕ) → length text < from → None ≡ first p text from
unfolding first
first-past p text from far =
    let none : length text + 1 - from ≡ 0 = omega arith in
    sym (ap (λ n. first_of n p text from) none ∙ unfold first_of in refl)

first_of-start : (n : ℕ) (p : Shape) (text : List ℕ) (place : ℕ) (f : Found) → first_of n p text place ≡ Some f → place ≤ f.start
unfolding first_of
first_of-start zero p text place f h = cc
first_of-start (suc n) p text place f h =
    elim (preferred place (ways_from p text place)) as (λ x. preferred place (ways_from p text place) ≡ x →
    option_or x (first_of n p text (place + 1)) ≡ Some f → place ≤ f.start) [
      | None ↦ λ e g. let later = first_of-start n p text (place + 1) f g in omega arith
      | Some k ↦ λ e g.
          let same : k ≡ f = cc in
          let at : k.start ≡ place = preferred-start place (ways_from p text place) k e in
          let at' : f.start ≡ place = ap (λ (x : Found). x.start) (sym same) ∙ at in
          omega arith
    ] refl h

first-start : (p : Shape) (text : List ℕ) (from : ℕ) (f : Found) → first p text from ≡ Some f → from ≤ f.start
unfolding first
first-start p text from f h = first_of-start (length text + 1 - from) p text from f h

-- as many as are enough
up_to-enough : (n m : ℕ) (p : Shape) (text : List ℕ) (from : ℕ) → length text + 1 ≤ n + from → length text + 1 ≤ m + from →
    matches_up_to n p text from ≡ matches_up_to m p text from
unfolding matches_up_to
up_to-enough zero zero p text from h g = refl
up_to-enough zero (suc m) p text from h g = sym (ap (and_on (λ q. matches_up_to m p text q)) (sym (first-past p text from (omega arith))))
up_to-enough (suc n) zero p text from h g = ap (and_on (λ q. matches_up_to n p text q)) (sym (first-past p text from (omega arith)))
up_to-enough (suc n) (suc m) p text from h g =
    elim (first p text from) as (λ x. first p text from ≡ x →
    and_on (λ q. matches_up_to n p text q) x ≡ and_on (λ q. matches_up_to m p text q) x) [
      | None ↦ λ e. refl
      | Some f ↦ λ e.
          let low = first-start p text from f e in
          ap (λ l. f ∷ l) (up_to-enough n m p text (behind f) (omega arith) (omega arith))
    ] refl

up_to-step : (n : ℕ) (p : Shape) (text : List ℕ) (from : ℕ) → length text ≤ n →
    matches_up_to (suc n) p text from ≡ and_on (λ q. matches_up_to (suc n) p text q) (first p text from)
unfolding matches_up_to
up_to-step n p text from h =
    elim (first p text from) as (λ x. first p text from ≡ x →
    and_on (λ q. matches_up_to n p text q) x ≡ and_on (λ q. matches_up_to (suc n) p text q) x) [
      | None ↦ λ e. refl
      | Some f ↦ λ e.
          let low = first-start p text from f e in
          ap (λ l. f ∷ l) (up_to-enough n (suc n) p text (behind f) (omega arith) (omega arith))
    ] refl

-- the first match, and those from where the search goes on
pub matches-step : (p : Shape) (text : List ℕ) (from : ℕ) → matches p text from ≡ and_on (λ q. matches p text q) (first p text from)
unfolding matches
matches-step p text from = rw add-one (up_to-step (length text) p text from (omega arith))

pub matches-none : (p : Shape) (text : List ℕ) (from : ℕ) → first p text from ≡ None → matches p text from ≡ []
matches-none p text from e = matches-step p text from ∙ ap (and_on (λ q. matches p text q)) e

pub matches-some : (p : Shape) (text : List ℕ) (from : ℕ) (f : Found) → first p text from ≡ Some f → matches p text from ≡ f
    ∷ matches p text (behind f)
matches-some p text from f e = matches-step p text from ∙ ap (and_on (λ q. matches p text q)) e

-- the first of the matches is the first match
pub nth-first : (p : Shape) (text : List ℕ) (from : ℕ) → slice_get (matches p text from) 0 ≡ first p text from
nth-first p text from =
    ap (λ l. slice_get l 0) (matches-step p text from)
    ∙ (elim (first p text from) as (λ x. slice_get (and_on (λ q. matches p text q) x) 0 ≡ x) [
      | None ↦ refl
      | Some f ↦ refl
    ])

pub nth-none : (p : Shape) (text : List ℕ) (from k : ℕ) → first p text from ≡ None → slice_get (matches p text from) k ≡ None
nth-none p text from k e = ap (λ l. slice_get l k) (matches-none p text from e)

pub nth-more : (p : Shape) (text : List ℕ) (from k : ℕ) (f : Found) → first p text from ≡ Some f →
    slice_get (matches p text from) (suc k) ≡ slice_get (matches p text (behind f)) k
nth-more p text from k f e = ap (λ l. slice_get l (suc k)) (matches-some p text from f e)
