use Rattle.ix_merge.proofs.Adding.{adds}
use Rattle.ix_merge.proofs.merging.Merge.add.Goals as goal

pub returns-clause-ok : goal.returns-clause-ok
returns-clause-ok c = λ lines.
    let inside = c.self.inside in
    adds lines (record { line = c.args.line; marks = c.args.marks }) c.args.self.now inside.on inside.max_lines inside.parts inside.broken
    c.take_in.new.self c.in_ok-ended.ended c.self.view_is c.if-not-self.false (c.in_ok-ended.ensures.takes lines)
