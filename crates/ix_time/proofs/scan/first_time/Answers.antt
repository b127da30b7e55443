use Rattle.std.proofs.Common.{FitsSigned, w64, sym, ◌∙◌, rules}
use Rattle.std.proofs.lemmas.Int.{to_z-of_z}
use Rattle.ix_time.proofs.ScanLemmas.{at_end, found_here, found_later, passed_over}
use Rattle.ix_time.proofs.scan.first_time.Goals as goal

pub loop-rest-init : goal.loop-rest-init
loop-rest-init c = sym (passed_over _ _ _ _ c.skip_quiet-rest.ensures)

pub returns-in-Some : goal.returns-in-Some
returns-in-Some c =
    let fit : FitsSigned w64 c.args.arrival = c.ranges.arrival in
    let fits : FitsSigned w64 c.in-Some.found = search rules in
    let start = simp to_z-of_z at c.loop-rest.invariant in
    let here = simp to_z-of_z at c.in-Some.ensures in
    let step = found_here _ _ c.loop-rest.rest.now _ c.in-len1-up.len_at_least here in
    simp to_z-of_z (sym step ∙ start)

pub loop-rest-preserved : goal.loop-rest-preserved
loop-rest-preserved c =
    found_later _ _ _ _ c.in-len1-up.len_at_least c.in_default-at_front.ensures c.skip_quiet-rest-in-len1-up.ensures ∙ c.loop-rest.invariant

pub returns : goal.returns
returns c =
    let fit : FitsSigned w64 c.args.arrival = c.ranges.arrival in
    let start = simp to_z-of_z at c.loop-rest.invariant in
    sym (at_end _ _ _ c.in_default.len_below) ∙ start
