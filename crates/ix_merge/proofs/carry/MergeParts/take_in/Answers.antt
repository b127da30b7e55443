use Rattle.std.proofs.Common.{◌∙◌, sym, ap, subst, Bool}
use Rattle.ix_merge.specs.Place.{Takes, placed}
use Rattle.ix_merge.specs.declared.carry.MergeParts.{MergeParts}
use Rattle.ix_merge.proofs.Adding.{taken}
use Rattle.ix_merge.proofs.carry.MergeParts.take_in.Goals as goal

pub returns-clause-takes : goal.returns-clause-takes
returns-clause-takes c = λ lines is.
    subst (λ (p : MergeParts). Takes c.args.max_lines lines (record { line = c.args.line; marks = c.args.marks }) p c.in_ok-ended.ended)
    (sym c.pass.ensures)
    (taken c.args.max_lines lines (record { line = c.args.line; marks = c.args.marks }) c.args.self.now c.place.new.event
    c.in_ok-ended.ended is
    (ap (λ (b : Bool). placed c.args.max_lines b c.args.self.now.event c.args.line) (sym c.starts-begins.ensures) ∙ c.in_ok-ended.ensures))
