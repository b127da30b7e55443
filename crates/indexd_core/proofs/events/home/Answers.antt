use Rattle.std.proofs.Common.{◌∙◌, ap, sym}
use Rattle.indexd_core.specs.Texts.{home_by}
use Rattle.indexd_core.proofs.events.home.Goals as goal

pub returns-in-Nowhere : goal.returns-in-Nowhere
returns-in-Nowhere c = ap (home_by c.args.limits.now c.args.index.now) (sym c.in-Nowhere.is ∙ c.route.ensures)
