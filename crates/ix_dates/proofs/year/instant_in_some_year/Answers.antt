use Rattle.std.proofs.Common.{FitsSigned, w64, rules, sym, ◌∙◌}
use Rattle.std.proofs.lemmas.Int.{to_z-of_z}
use Rattle.ix_dates.proofs.YearLemmas.{greatest-from, greatest-found, greatest-if, greatest-is, greatest-less, greatest-zero}
use Rattle.ix_dates.proofs.year.instant_in_some_year.Goals as goal

pub loop-year-init : goal.loop-year-init
loop-year-init c = record {
  bound = c.last_year-year.ensures.high;
  rest = greatest-from _ _ 9999 c.last_year-year.ensures.high (λ y late.
      c.last_year-year.ensures.enough c.args.offset c.args.civil y late);
}

pub loop-year-preserved : goal.loop-year-preserved
loop-year-preserved c = record {
  bound = search rules;
  rest = c.loop-year.invariant.rest ∙ greatest-less _ _ (search rules) (sym c.in_default.ensures);
}

pub returns-in-Some-clause-value : goal.returns-in-Some-clause-value
returns-in-Some-clause-value c =
    let fit : FitsSigned w64 c.args.arrival = c.ranges.arrival in
    let fits : FitsSigned w64 c.in-Some.found = search rules in
    let rest = simp to_z-of_z at c.loop-year.invariant.rest in
    let here = simp to_z-of_z at c.in-Some.ensures in
    simp to_z-of_z (sym (rest ∙ greatest-found _ _ _ (sym here)))

pub returns-in-Some-clause-greatest : goal.returns-in-Some-clause-greatest
returns-in-Some-clause-greatest c =
    let fit : FitsSigned w64 c.args.arrival = c.ranges.arrival in
    let fits : FitsSigned w64 c.in-Some.found = search rules in
    let rest = simp to_z-of_z at c.loop-year.invariant.rest in
    let here = simp to_z-of_z at c.in-Some.ensures in
    simp to_z-of_z (greatest-is _ 9999 c.in-Some.found (rest ∙ greatest-found _ _ _ (sym here)))

pub returns-clause-value : goal.returns-clause-value
returns-clause-value c =
    let fit : FitsSigned w64 c.args.arrival = c.ranges.arrival in
    let rest = simp to_z-of_z at c.loop-year.invariant.rest in
    let here = simp to_z-of_z at c.in_year-2.ensures in
    here ∙ sym (rest ∙ greatest-zero _ _ c.loop-year-test.false)

pub returns-clause-greatest : goal.returns-clause-greatest
returns-clause-greatest c =
    let fit : FitsSigned w64 c.args.arrival = c.ranges.arrival in
    let rest = simp to_z-of_z at c.loop-year.invariant.rest in
    let here = simp to_z-of_z at c.in_year-2.ensures in
    greatest-if _ 9999 _ (here ∙ sym (rest ∙ greatest-zero _ _ c.loop-year-test.false))
