use Rattle.std.proofs.Common.{arith}
use Rattle.ix_manifest.proofs.Renaming.{size_without}
use Rattle.ix_manifest.proofs.slots.size_at.Goals as goal

pub returns : goal.returns
returns c = omega (arith, c.len.ensures, size_without c.args.slots.now c.args.at c.index-slots-at.result c.requires c.index-slots-at.is)
