use Rattle.std.proofs.Common.{List, ℕ, subst, Ok}
use Rattle.indexd_settings.specs.Layers.{layers_read, ReadAs}
use Rattle.indexd_settings.specs.declared.layers.SettingsFile.TheVariants.{Zones}
use Rattle.indexd_settings.proofs.MergedLemmas.{are-zones}
use Rattle.indexd_settings.proofs.merged.merge_zones.Goals as goal

pub returns-clause-ok : goal.returns-clause-ok
returns-clause-ok g c =
    let files = g.T.Tree.files c.args.tree.now in
    are-zones files c.args.folders.now c.in_ok-layers.layers c.push_built_in.new.layers c.in_ok-own.own c.in_ok-all.all
    (subst (λ (f : List (List ℕ)). ReadAs files (λ all. layers_read all Zones f) (Ok c.in_ok-layers.layers)) c.as_slice.ensures
    c.in_ok-layers.ensures.reads)
    c.in_ok-layers.ensures.texts c.in_ok-own.ensures c.in_ok-push_built_in.ensures c.in_ok-all.ensures
