use Rattle.std.proofs.Common.{◌≡◌, false, subst, sym, ◌∙◌}
use Rattle.std.specs.Prelude.{All}
use Rattle.std.proofs.lemmas.List.{take_all}
use Rattle.std.proofs.lemmas.List.Elements.{All-more}
use Rattle.ix_base.specs.declared.files.File.{File}
use Rattle.ix_replay.specs.Covering.{has}
use Rattle.ix_replay.proofs.Covered.{none_held}
use Rattle.ix_replay.proofs.file_numbers.FileNumbers.spare.Goals as goal

pub loop-file-preserved : goal.loop-file-preserved
loop-file-preserved c = All-more (λ (f : File). has c.args.self.now.held f.number ≡ false) c.args.removed.now c.loop-file.file-index _
    c.loop-file-test.true c.loop-file.invariant (sym c.contains.ensures ∙ c.if-contains.false)

pub returns : goal.returns
returns c = λ yes items covers. none_held c.args.self.now c.args.removed.now items
    (subst (All (λ (f : File). has c.args.self.now.held f.number ≡ false))
    (take_all c.loop-file.file-index c.args.removed.now c.loop-file-test.false) c.loop-file.invariant) covers
