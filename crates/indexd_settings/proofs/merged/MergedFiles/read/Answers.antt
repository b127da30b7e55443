use Rattle.std.proofs.Common.{le_trans, ◌∙◌}
use Rattle.std.proofs.lemmas.Result.{err_from_is_err_and}
use Rattle.indexd_settings.specs.declared.layers.SettingsFile.TheVariants.{Props, Transforms, Indexes, Inputs, Zones}
use Rattle.indexd_settings.proofs.MergedLemmas.{all-stop, is-sound, stops-told, is-read, zones-read, are-read}
use Rattle.indexd_settings.proofs.merged.MergedFiles.read.Goals as goal

pub returns-in_err-props : goal.returns-in_err-props
returns-in_err-props g c =
    let p = err_from_is_err_and c.from_residual-in_err-props.result c.from_residual-in_err-props.ensures.1 in
    let told = c.in_ok-folders.ensures.folders in
    let props = c.layer_folders.ensures.same in
    let before_props = c.layer_folders.ensures.later in
    let missed_props = c.layer_folders.ensures.later_missing in
    record {
      ok = rw p.1 tt;
      stopped = rw (p.1, p.2) (all-stop Props c.in_err-props.field-0.0 (g.T.Tree.faults c.args.tree.now)
          (g.T.Tree.faults c.layer_folders.new.tree)
          (g.T.Tree.faults c.read_file.new.tree) (g.T.Tree.files c.args.tree.now) before_props tt
          (stops-told _ _ Props _ _ _ _ props told c.in_err-props.ensures.stopped));
      same = c.read_file.ensures.same ∙ props;
      later = le_trans before_props c.read_file.ensures.later;
      later_missing = le_trans missed_props c.read_file.ensures.later_missing;
    }

pub returns-in_err-transforms : goal.returns-in_err-transforms
returns-in_err-transforms g c =
    let p = err_from_is_err_and c.from_residual-in_err-transforms.result c.from_residual-in_err-transforms.ensures.1 in
    let told = c.in_ok-folders.ensures.folders in
    let props = c.layer_folders.ensures.same in
    let before_props = c.layer_folders.ensures.later in
    let missed_props = c.layer_folders.ensures.later_missing in
    let transforms = c.read_file.ensures.same ∙ props in
    let before_transforms = le_trans before_props c.read_file.ensures.later in
    let missed_transforms = le_trans missed_props c.read_file.ensures.later_missing in
    record {
      ok = rw p.1 tt;
      stopped = rw (p.1, p.2) (all-stop Transforms c.in_err-transforms.field-0.0 (g.T.Tree.faults c.args.tree.now)
          (g.T.Tree.faults c.read_file.new.tree)
          (g.T.Tree.faults c.read_file-2.new.tree) (g.T.Tree.files c.args.tree.now) before_transforms
          (is-sound _ _ Props _ _ props told c.in_ok-props.ensures.ok)
          (stops-told _ _ Transforms _ _ _ _ transforms told c.in_err-transforms.ensures.stopped));
      same = c.read_file-2.ensures.same ∙ transforms;
      later = le_trans before_transforms c.read_file-2.ensures.later;
      later_missing = le_trans missed_transforms c.read_file-2.ensures.later_missing;
    }

pub returns-in_err-indexes : goal.returns-in_err-indexes
returns-in_err-indexes g c =
    let p = err_from_is_err_and c.from_residual-in_err-indexes.result c.from_residual-in_err-indexes.ensures.1 in
    let told = c.in_ok-folders.ensures.folders in
    let props = c.layer_folders.ensures.same in
    let before_props = c.layer_folders.ensures.later in
    let missed_props = c.layer_folders.ensures.later_missing in
    let transforms = c.read_file.ensures.same ∙ props in
    let before_transforms = le_trans before_props c.read_file.ensures.later in
    let missed_transforms = le_trans missed_props c.read_file.ensures.later_missing in
    let indexes = c.read_file-2.ensures.same ∙ transforms in
    let before_indexes = le_trans before_transforms c.read_file-2.ensures.later in
    let missed_indexes = le_trans missed_transforms c.read_file-2.ensures.later_missing in
    record {
      ok = rw p.1 tt;
      stopped = rw (p.1, p.2) (all-stop Indexes c.in_err-indexes.field-0.0 (g.T.Tree.faults c.args.tree.now)
          (g.T.Tree.faults c.read_file-2.new.tree)
          (g.T.Tree.faults c.read_file-3.new.tree) (g.T.Tree.files c.args.tree.now) before_indexes (
            is-sound _ _ Props _ _ props told c.in_ok-props.ensures.ok,
            is-sound _ _ Transforms _ _ transforms told c.in_ok-transforms.ensures.ok,
          )
          (stops-told _ _ Indexes _ _ _ _ indexes told c.in_err-indexes.ensures.stopped));
      same = c.read_file-3.ensures.same ∙ indexes;
      later = le_trans before_indexes c.read_file-3.ensures.later;
      later_missing = le_trans missed_indexes c.read_file-3.ensures.later_missing;
    }

pub returns-in_err-inputs : goal.returns-in_err-inputs
returns-in_err-inputs g c =
    let p = err_from_is_err_and c.from_residual-in_err-inputs.result c.from_residual-in_err-inputs.ensures.1 in
    let told = c.in_ok-folders.ensures.folders in
    let props = c.layer_folders.ensures.same in
    let before_props = c.layer_folders.ensures.later in
    let missed_props = c.layer_folders.ensures.later_missing in
    let transforms = c.read_file.ensures.same ∙ props in
    let before_transforms = le_trans before_props c.read_file.ensures.later in
    let missed_transforms = le_trans missed_props c.read_file.ensures.later_missing in
    let indexes = c.read_file-2.ensures.same ∙ transforms in
    let before_indexes = le_trans before_transforms c.read_file-2.ensures.later in
    let missed_indexes = le_trans missed_transforms c.read_file-2.ensures.later_missing in
    let inputs = c.read_file-3.ensures.same ∙ indexes in
    let before_inputs = le_trans before_indexes c.read_file-3.ensures.later in
    let missed_inputs = le_trans missed_indexes c.read_file-3.ensures.later_missing in
    record {
      ok = rw p.1 tt;
      stopped = rw (p.1, p.2) (all-stop Inputs c.in_err-inputs.field-0.0 (g.T.Tree.faults c.args.tree.now)
          (g.T.Tree.faults c.read_file-3.new.tree)
          (g.T.Tree.faults c.read_file-4.new.tree) (g.T.Tree.files c.args.tree.now) before_inputs (
            is-sound _ _ Props _ _ props told c.in_ok-props.ensures.ok,
            is-sound _ _ Transforms _ _ transforms told c.in_ok-transforms.ensures.ok,
            is-sound _ _ Indexes _ _ indexes told c.in_ok-indexes.ensures.ok,
          )
          (stops-told _ _ Inputs _ _ _ _ inputs told c.in_err-inputs.ensures.stopped));
      same = c.read_file-4.ensures.same ∙ inputs;
      later = le_trans before_inputs c.read_file-4.ensures.later;
      later_missing = le_trans missed_inputs c.read_file-4.ensures.later_missing;
    }

pub returns-in_err-zones : goal.returns-in_err-zones
returns-in_err-zones g c =
    let p = err_from_is_err_and c.from_residual-in_err-zones.result c.from_residual-in_err-zones.ensures.1 in
    let told = c.in_ok-folders.ensures.folders in
    let props = c.layer_folders.ensures.same in
    let before_props = c.layer_folders.ensures.later in
    let missed_props = c.layer_folders.ensures.later_missing in
    let transforms = c.read_file.ensures.same ∙ props in
    let before_transforms = le_trans before_props c.read_file.ensures.later in
    let missed_transforms = le_trans missed_props c.read_file.ensures.later_missing in
    let indexes = c.read_file-2.ensures.same ∙ transforms in
    let before_indexes = le_trans before_transforms c.read_file-2.ensures.later in
    let missed_indexes = le_trans missed_transforms c.read_file-2.ensures.later_missing in
    let inputs = c.read_file-3.ensures.same ∙ indexes in
    let before_inputs = le_trans before_indexes c.read_file-3.ensures.later in
    let missed_inputs = le_trans missed_indexes c.read_file-3.ensures.later_missing in
    let zones = c.read_file-4.ensures.same ∙ inputs in
    let before_zones = le_trans before_inputs c.read_file-4.ensures.later in
    let missed_zones = le_trans missed_inputs c.read_file-4.ensures.later_missing in
    record {
      ok = rw p.1 tt;
      stopped = rw (p.1, p.2) (all-stop Zones c.in_err-zones.field-0.0 (g.T.Tree.faults c.args.tree.now)
          (g.T.Tree.faults c.read_file-4.new.tree)
          (g.T.Tree.faults c.read_zones.new.tree) (g.T.Tree.files c.args.tree.now) before_zones (
            is-sound _ _ Props _ _ props told c.in_ok-props.ensures.ok,
            is-sound _ _ Transforms _ _ transforms told c.in_ok-transforms.ensures.ok,
            is-sound _ _ Indexes _ _ indexes told c.in_ok-indexes.ensures.ok,
            is-sound _ _ Inputs _ _ inputs told c.in_ok-inputs.ensures.ok,
          )
          (stops-told _ _ Zones _ _ _ _ zones told c.in_err-zones.ensures.stopped));
      same = c.read_zones.ensures.same ∙ zones;
      later = le_trans before_zones c.read_zones.ensures.later;
      later_missing = le_trans missed_zones c.read_zones.ensures.later_missing;
    }

pub returns : goal.returns
returns g c =
    let told = c.in_ok-folders.ensures.folders in
    let props = c.layer_folders.ensures.same in
    let before_props = c.layer_folders.ensures.later in
    let missed_props = c.layer_folders.ensures.later_missing in
    let transforms = c.read_file.ensures.same ∙ props in
    let before_transforms = le_trans before_props c.read_file.ensures.later in
    let missed_transforms = le_trans missed_props c.read_file.ensures.later_missing in
    let indexes = c.read_file-2.ensures.same ∙ transforms in
    let before_indexes = le_trans before_transforms c.read_file-2.ensures.later in
    let missed_indexes = le_trans missed_transforms c.read_file-2.ensures.later_missing in
    let inputs = c.read_file-3.ensures.same ∙ indexes in
    let before_inputs = le_trans before_indexes c.read_file-3.ensures.later in
    let missed_inputs = le_trans missed_indexes c.read_file-3.ensures.later_missing in
    let zones = c.read_file-4.ensures.same ∙ inputs in
    let before_zones = le_trans before_inputs c.read_file-4.ensures.later in
    let missed_zones = le_trans missed_inputs c.read_file-4.ensures.later_missing in
    record {
      ok = are-read (g.T.Tree.files c.args.tree.now) _ (is-read _ _ Props _ _ props told c.in_ok-props.ensures.ok)
          (is-read _ _ Transforms _ _ transforms told c.in_ok-transforms.ensures.ok)
          (is-read _ _ Indexes _ _ indexes told c.in_ok-indexes.ensures.ok)
          (is-read _ _ Inputs _ _ inputs told c.in_ok-inputs.ensures.ok)
          (zones-read _ _ _ _ _ zones told c.in_ok-zones.ensures.ok);
      stopped = tt;
      same = c.read_zones.ensures.same ∙ zones;
      later = le_trans before_zones c.read_zones.ensures.later;
      later_missing = le_trans missed_zones c.read_zones.ensures.later_missing;
    }
