use Rattle.std.proofs.Common.{sym, ap}
use Rattle.ix_pikevm.specs.Aims.{choice_of}
use Rattle.ix_pikevm.proofs.compile.choice.Goals as goal

pub returns-then-lazy : goal.returns-then-lazy
returns-then-lazy c = sym (ap (λ lazy. choice_of lazy c.args.more c.args.stop) c.if-lazy.true)

pub returns-else-lazy : goal.returns-else-lazy
returns-else-lazy c = sym (ap (λ lazy. choice_of lazy c.args.more c.args.stop) c.if-lazy.false)
