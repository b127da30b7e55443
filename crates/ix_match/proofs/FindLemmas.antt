-- From the head of the list of ways to the match.
use Rattle.std.proofs.Common.{◌≡◌, ℕ, ◌≤◌, ◌<◌, Bool, true, false, nat_lt, refl, List, [], length, ◌+◌, Option, Some, None, ◌∙◌, ap, arith}
use Rattle.std.proofs.Common.{◌⊎◌, inl, inr}
use Rattle.std.specs.Prelude.{slice_get, IfSome}
use Rattle.ix_pattern.specs.Ways.{ends_at}
use Rattle.ix_pattern.specs.Rows.{Shape, tree}
use Rattle.ix_pikevm.specs.declared.run.Outcome.{Outcome}
use Rattle.ix_pikevm.specs.declared.run.Outcome.TheVariants.{No, More}
use Rattle.ix_pikevm.specs.Outcomes.{head_of}
use Rattle.ix_match.specs.Matches.{closed, ways_from, MatchesAt, IsFirst, LiesIn}
use Rattle.ix_match.specs.declared.first.Found.{Found}
use Rattle.ix_match.proofs.ClosedLemmas.{head-lies, first-known, no-head}

pub end-lies : (p : Shape) (text : List ℕ) (place end : ℕ) (groups kept : List (Option (ℕ × ℕ))) → place ≤ length text → kept ≡ groups →
    slice_get (ways_from p text place) 0 ≡ Some (ends_at (record { place = end; groups = groups })) →
    LiesIn text place p.groups (record { start = place; end = end; groups = kept })
end-lies p text place end groups kept h same e =
    let l = head-lies (tree p.rows) (closed text) p.groups place (record { place = end; groups = groups }) h e in
    rw same (record { begins = omega arith; order = l.order; within = l.within; groups = l.groups; spans = l.spans })

pub none-here : (p : Shape) (text : List ℕ) (place : ℕ) (out : Outcome) → slice_get (ways_from p text place) 0 ≡ head_of out →
    (out ≡ No) ⊎ (out ≡ More) → ways_from p text place ≡ []
none-here p text place out h is =
    elim is [
      | inl e ↦ no-head (ways_from p text place) (h ∙ ap head_of e)
      | inr e ↦ absurd (first-known p text place (h ∙ ap head_of e))
    ]

-- a place more without a way, or places up to the next candidate
pub none-joined : (p : Shape) (text : List ℕ) (from place at : ℕ) → ((k : ℕ) → from ≤ k → k < place → ways_from p text k ≡ []) →
    ((k : ℕ) → place ≤ k → k < at → ways_from p text k ≡ []) → (k : ℕ) → from ≤ k → k < at → ways_from p text k ≡ []
none-joined p text from place at before behind k low high = by (nat_lt k place) refl
  where
    by : (t : Bool) → nat_lt k place ≡ t → ways_from p text k ≡ []
    by true e = before k low (let lt : k < place = grind (arith, e) in lt)
    by false e = behind k (let le : place ≤ k = grind (arith, e) in le) high

none-apart : (p : Shape) (text : List ℕ) (from at : ℕ) → ((k : ℕ) → from ≤ k → k < at → ways_from p text k ≡ []) →
    ((k : ℕ) → at ≤ k → k ≤ length text → ways_from p text k ≡ []) → (k : ℕ) → from ≤ k → k ≤ length text → ways_from p text k ≡ []
none-apart p text from at before behind k low high = by (nat_lt k at) refl
  where
    by : (t : Bool) → nat_lt k at ≡ t → ways_from p text k ≡ []
    by true e = before k low (let lt : k < at = grind (arith, e) in lt)
    by false e = behind k (let le : at ≤ k = grind (arith, e) in le) high

-- the first match from a later place on, before which none begins
pub first-joined : (p : Shape) (text : List ℕ) (from at : ℕ) (found : Option Found) →
    ((k : ℕ) → from ≤ k → k < at → ways_from p text k ≡ []) →
    IsFirst p text at found → IsFirst p text from found
first-joined p text from at None before first = none-apart p text from at before first
first-joined p text from at (Some f) before first = (none-joined p text from at f.start before first.0, first.1)

pub lies-joined : (text : List ℕ) (from at count : ℕ) (found : Option Found) → from ≤ at → IfSome found (λ f. LiesIn text at count f) →
    IfSome found (λ f. LiesIn text from count f)
lies-joined text from at count None h l = tt
lies-joined text from at count (Some f) h l = record {
  begins = omega (arith, h, l.begins);
  order = l.order;
  within = l.within;
  groups = l.groups;
  spans = l.spans;
}

-- a match at this place, before which none begins
pub first-here : (p : Shape) (text : List ℕ) (from at : ℕ) (f : Found) → ((k : ℕ) → from ≤ k → k < at → ways_from p text k ≡ []) →
    MatchesAt p text at (Some f) → IsFirst p text from (Some f)
first-here p text from at f before m =
    (λ k low high. before k low (omega (arith, high, m.0)), (refl, ap (λ s. slice_get (ways_from p text s) 0) m.0 ∙ m.1))

-- none begins at this place either
pub none-past : (p : Shape) (text : List ℕ) (from at : ℕ) → ((k : ℕ) → from ≤ k → k < at → ways_from p text k ≡ []) →
    ways_from p text at ≡ [] →
    (k : ℕ) → from ≤ k → k < at + 1 → ways_from p text k ≡ []
none-past p text from at before here =
    none-joined p text from at (at + 1) before (λ k low high. (let e : k ≡ at = omega (arith, low, high) in ap (ways_from p text) e ∙ here))
