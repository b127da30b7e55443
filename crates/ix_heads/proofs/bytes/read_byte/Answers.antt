use Rattle.std.proofs.Common.{rules}
use Rattle.ix_heads.proofs.bytes.read_byte.Goals as goal

pub returns-clause-taken : goal.returns-clause-taken
returns-clause-taken g c = search rules
