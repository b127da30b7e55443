use Rattle.std.proofs.Common.{◌≡◌, List, [], refl, sym, ap, ◌∙◌, subst}
use Rattle.std.specs.Prelude.{None, Err}
use Rattle.std.proofs.lemmas.Result.{err_from_is_err_and}
use Rattle.ix_conf.specs.declared.layers.MergedEntry.{MergedEntry}
use Rattle.ix_items.specs.declared.items.Kept.{Kept}
use Rattle.ix_life.specs.Limits.{first_fault}
use Rattle.ix_state.specs.Files.{AreFiles, AreOrdered}
use Rattle.ix_state.specs.declared.faults.ConfigFault.TheVariants.{Unsound}
use Rattle.ix_state.proofs.ConfigLemmas.{props_of, no_props, config_made, none_ordered}
use Rattle.ix_state.proofs.configs.config_of.Goals as goal

pub returns-in_err-files-clause-unsound : goal.returns-in_err-files-clause-unsound
returns-in_err-files-clause-unsound c = λ e config is same.
    let p = err_from_is_err_and c.from_residual.result c.from_residual.ensures.1 in
    let unsound : c.in_err-files.field-0.0 ≡ Unsound = cc (e, p.1, p.2) in
    c.in_err-files.ensures.unsound (ap Err unsound)
    (subst AreOrdered (same ∙ sym c.as_slice.ensures) (record { order = is.order; names = is.stanzas }))

pub returns-in_err-files-clause-empty : goal.returns-in_err-files-clause-empty
returns-in_err-files-clause-empty c = λ none e.
    let p = err_from_is_err_and c.from_residual.result c.from_residual.ensures.1 in
    let unsound : c.in_err-files.field-0.0 ≡ Unsound = cc (e, p.1, p.2) in
    c.in_err-files.ensures.unsound (ap Err unsound) (subst AreOrdered (sym (c.as_slice.ensures ∙ none)) none_ordered)

pub returns-in_err-props-clause-unsound : goal.returns-in_err-props-clause-unsound
returns-in_err-props-clause-unsound c = λ e config is same.
    let p = err_from_is_err_and c.from_residual-in_err-props.result c.from_residual-in_err-props.ensures.1 in
    let unsound : c.in_err-props.field-0.0 ≡ Unsound = cc (e, p.1, p.2) in
    let files = subst (λ (k : List Kept). AreFiles k c.in_ok-files.files) (c.as_slice.ensures ∙ sym same) c.in_ok-files.ensures.files in
    c.in_err-props.ensures.unsound (ap Err unsound) config.props (props_of config c.in_ok-files.files is files)

pub returns-in_err-props-clause-empty : goal.returns-in_err-props-clause-empty
returns-in_err-props-clause-empty c = λ none e.
    let p = err_from_is_err_and c.from_residual-in_err-props.result c.from_residual-in_err-props.ensures.1 in
    let unsound : c.in_err-props.field-0.0 ≡ Unsound = cc (e, p.1, p.2) in
    let files : AreFiles [] c.in_ok-files.files =
    subst (λ (k : List Kept). AreFiles k c.in_ok-files.files) (c.as_slice.ensures ∙ none) c.in_ok-files.ensures.files in
    c.in_err-props.ensures.unsound (ap Err unsound) [] (no_props c.in_ok-files.files files.props)

pub returns-in_err-limits-clause-unsound : goal.returns-in_err-limits-clause-unsound
returns-in_err-limits-clause-unsound c = λ e config is same.
    let p = err_from_is_err_and c.from_residual-in_err-limits.result c.from_residual-in_err-limits.ensures.1 in
    let unsound : c.in_err-limits.field-0.0 ≡ Unsound = cc (e, p.1, p.2) in
    let files = subst (λ (k : List Kept). AreFiles k c.in_ok-files.files) (c.as_slice.ensures ∙ sym same) c.in_ok-files.ensures.files in
    c.in_err-limits.ensures.unsound (ap Err unsound) (subst (λ (m : List MergedEntry). first_fault m ≡ None) (sym files.indexes)
    is.limits.sound)

pub returns-in_err-limits-clause-empty : goal.returns-in_err-limits-clause-empty
returns-in_err-limits-clause-empty c = λ none e.
    let p = err_from_is_err_and c.from_residual-in_err-limits.result c.from_residual-in_err-limits.ensures.1 in
    let unsound : c.in_err-limits.field-0.0 ≡ Unsound = cc (e, p.1, p.2) in
    let files : AreFiles [] c.in_ok-files.files =
    subst (λ (k : List Kept). AreFiles k c.in_ok-files.files) (c.as_slice.ensures ∙ none) c.in_ok-files.ensures.files in
    c.in_err-limits.ensures.unsound (ap Err unsound) (subst (λ (m : List MergedEntry). first_fault m ≡ None) (sym files.indexes) refl)

pub returns-clause-ok : goal.returns-clause-ok
returns-clause-ok c =
    let ordered = subst AreOrdered c.as_slice.ensures c.in_ok-files.ensures.ordered in
    let files = subst (λ (k : List Kept). AreFiles k c.in_ok-files.files) c.as_slice.ensures c.in_ok-files.ensures.files in (
      config_made c.args.kept c.in_ok-files.files c.in_ok-props.props c.in_ok-limits.limits ordered files c.in_ok-props.ensures.ok
          c.in_ok-limits.ensures.sound c.in_ok-limits.ensures.limits,
      refl,
    )
