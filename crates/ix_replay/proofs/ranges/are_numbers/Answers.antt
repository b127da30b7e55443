use Rattle.std.proofs.Common.{rules, subst}
use Rattle.std.specs.Prelude.{All}
use Rattle.std.proofs.lemmas.List.{take_all}
use Rattle.std.proofs.lemmas.List.Elements.{All-more}
use Rattle.ix_replay.specs.Bounds.{IsFileNumber}
use Rattle.ix_replay.proofs.ranges.are_numbers.Goals as goal

pub loop-file-preserved : goal.loop-file-preserved
loop-file-preserved c = All-more IsFileNumber c.args.files.now c.loop-file.file-index _ c.loop-file-test.true c.loop-file.invariant
    c.if-file-ge-NUMBERS.false

pub returns : goal.returns
returns c = (
  (λ yes. subst (All IsFileNumber) (take_all c.loop-file.file-index c.args.files.now c.loop-file-test.false)
      c.loop-file.invariant),
  (λ all. search rules),
)
