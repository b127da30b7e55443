-- The marks behind one line more.
use Rattle.std.proofs.Common.{◌≡◌, Bool, true, false, cond, not, ◌&&◌, ◌||◌, List, [], ◌∷◌, ◌++◌, Option, Some, refl, ◌∙◌, ap}
use Rattle.std.specs.Option.{option_map_or}
use Rattle.ix_merge.specs.Starts.{MarkedLine, last_that, is_forced, is_held}
use Rattle.ix_merge.proofs.ListLemmas.{last-more, last_that-more}

pub forced-more : (lines : List MarkedLine) (m : MarkedLine) → is_forced (lines ++ m ∷ []) ≡ m.marks.forces
forced-more lines m = ap (λ o. option_map_or (λ (n : MarkedLine). n.marks.forces) o false) (last-more lines m)

pub held-more : (lines : List MarkedLine) (m : MarkedLine) →
    is_held (lines ++ m ∷ []) ≡ (not m.marks.forces && (m.marks.holds || is_held lines))
held-more lines m =
    ap (λ o. option_map_or (λ (n : MarkedLine). not n.marks.forces) o false)
    (last_that-more (λ (n : MarkedLine). n.marks.forces || n.marks.holds) lines m)
    ∙ by m.marks.forces m.marks.holds refl (last_that (λ (n : MarkedLine). n.marks.forces || n.marks.holds) lines)
  where
    by : (f h : Bool) → m.marks.forces ≡ f → (o : Option MarkedLine) →
        option_map_or (λ (n : MarkedLine). not n.marks.forces) (cond (f || h) (Some m) o) false
        ≡ (not f && (h || option_map_or (λ (n : MarkedLine). not n.marks.forces) o false))
    by true true e o = ap not e
    by true false e o = ap not e
    by false true e o = ap not e
    by false false e o = refl
