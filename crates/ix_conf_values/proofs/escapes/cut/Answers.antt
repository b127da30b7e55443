use Rattle.std.proofs.Common.{◌∙◌, sym}
use Rattle.ix_conf_values.proofs.EscapeLemmas.{cut_goes_on}
use Rattle.ix_conf_values.proofs.escapes.cut.Goals as goal

pub loop-at-preserved : goal.loop-at-preserved
loop-at-preserved c =
    sym (cut_goes_on c.args.text.now c.loop-at.at c.loop-at.escaped c.loop-at-test.true c.if-escaped-byte.false) ∙ c.loop-at.invariant
