use Rattle.std.proofs.Common.{◌≤◌, length, sym, arith}
use Rattle.std.specs.Prelude.{Some, None}
use Rattle.ix_time.proofs.PlaceLemmas.{match_ends}
use Rattle.ix_time.proofs.window.place_of.Goals as goal

pub returns-in-Some-2-clause-value : goal.returns-in-Some-2-clause-value
returns-in-Some-2-clause-value c =
    let first = rw c.in-Some-2.is at c.in_ok-found.ensures.first in
    let lies = rw c.in-Some-2.is at c.in_ok-found.ensures.lies in
    let within : c.in-Some-2.found.start ≤ length c.args.text.now = let order = lies.order in let end = lies.within in omega arith in
    rw c.in-Some.is (sym (match_ends c.in-Some.finder c.args.text.now (Some c.in-Some-2.found) first within))

pub returns-in-None-clause-value : goal.returns-in-None-clause-value
returns-in-None-clause-value c =
    let first = rw c.in-None.is at c.in_ok-found.ensures.first in
    rw c.in-Some.is (sym (match_ends c.in-Some.finder c.args.text.now None first tt))
