use Rattle.std.proofs.Common.{rules}
use Rattle.ix_pikevm.proofs.input.in_sight.Goals as goal

pub returns-then-place-bytes : goal.returns-then-place-bytes
returns-then-place-bytes c = search rules
