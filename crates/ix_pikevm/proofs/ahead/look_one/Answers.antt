use Rattle.std.proofs.Common.{◌+◌, ◌≤◌, [], length, sym, ◌∙◌, subst, arith}
use Rattle.ix_pattern.specs.Ways.{ways}
use Rattle.ix_pattern.specs.Rows.{piece_at}
use Rattle.ix_pattern.proofs.Refining.{sight-room}
use Rattle.ix_pikevm.specs.Leaf.{text_of, at}
use Rattle.ix_pikevm.specs.Ran.{IsOf}
use Rattle.ix_pikevm.proofs.ProgramLemmas.{program-head}
use Rattle.ix_pikevm.proofs.LookLemmas.{look-is}
use Rattle.ix_pikevm.proofs.ahead.look_one.Goals as goal

pub run-requires-clause-within : goal.run-requires-clause-within
run-requires-clause-within g c =
    subst (λ u. c.args.place ≤ length u.bytes) (sym c.in_sight-seen.ensures)
    (sight-room (c.args.place + 255) (text_of c.args.input) c.args.place (omega arith) c.requires.within)

pub returns-clause-same : goal.returns-clause-same
returns-clause-same g c = λ rows ask t.
    let within = subst (λ u. c.args.place ≤ length u.bytes) (sym c.in_sight-seen.ensures)
    (sight-room (c.args.place + 255) (text_of c.args.input) c.args.place (omega arith) c.requires.within) in
    sym (c.leaf_of.ensures (at c.args.place []) (ways ask.inside (text_of c.in_sight-seen.result) (at c.args.place [])) []
    c.run.new.work.cells.items
    (program-head (IsOf c.args.tests.pattern.now.rows) rows ask.inside c.args.inner.now (text_of c.in_sight-seen.result) c.args.ask.start
    c.args.place c.run.new.work.cells.items c.in_ok-best.best [] ask.program t within c.in_ok-best.ensures.head))
    ∙ look-is (piece_at rows c.args.ask.piece) ask.inside c.args.ask.wanted (text_of c.args.input) (text_of c.in_sight-seen.result)
    c.args.place ask.is c.in_sight-seen.ensures
