use Rattle.std.proofs.Common.{subst, sym}
use Rattle.ix_transforms.specs.Sizes.{HasSizes, HasMoments}
use Rattle.ix_transforms.proofs.SizeLemmas.{changed-sizes, changed-moments}
use Rattle.ix_transforms.proofs.changes.Changer.apply.Goals as goal

pub returns-clause-sizes : goal.returns-clause-sizes
returns-clause-sizes c = subst (HasSizes c.args.event) (sym c.in_ok-routed.ensures)
    (changed-sizes c.args.self.now.seds c.args.self.now.transforms c.args.event)

pub returns-clause-moments : goal.returns-clause-moments
returns-clause-moments c = subst (HasMoments c.args.event) (sym c.in_ok-routed.ensures)
    (changed-moments c.args.self.now.seds c.args.self.now.transforms c.args.event)
