use Rattle.std.proofs.Common.{◌≡◌, ◌∷◌, [], Bool, true, false, List, map, sym, ap, ◌∙◌, subst}
use Rattle.ix_conf.specs.Value.{AreMerged}
use Rattle.ix_conf.specs.declared.layers.Layer.{Layer}
use Rattle.ix_conf.specs.declared.layers.MergedEntry.{MergedEntry}
use Rattle.ix_model.specs.Given.{entry}
use Rattle.ix_state.specs.Checks.{same_entries}
use Rattle.ix_state.specs.Files.{layer_of}
use Rattle.ix_state.proofs.CheckLemmas.{are_same, same_test}
use Rattle.ix_state.proofs.OneMerge.{one_merge}
use Rattle.ix_state.proofs.files.whole_file.Goals as goal

true_false : (b : Bool) → b ≡ true → b ≡ false → ⊥
true_false true e f = cc
true_false false e f = cc

pub returns-then-are_kept-clause-same : goal.returns-then-are_kept-clause-same
returns-then-are_kept-clause-same c = are_same c.in_ok-merged.merged (map entry c.args.kept.now) (sym c.are_kept.ensures
    ∙ c.if-are_kept.true)

pub returns-then-are_kept-clause-whole : goal.returns-then-are_kept-clause-whole
returns-then-are_kept-clause-whole c =
    let same = are_same c.in_ok-merged.merged (map entry c.args.kept.now) (sym c.are_kept.ensures ∙ c.if-are_kept.true) in
    subst (λ (m : List MergedEntry). AreMerged (layer_of c.args.kept.now ∷ []) m) same
    (subst (λ (l : List Layer). AreMerged l c.in_ok-merged.merged) c.in_ok-layers.ensures c.in_ok-merged.ensures)

pub returns-clause-unsound : goal.returns-clause-unsound
returns-clause-unsound c = λ e whole.
    let mine = subst (λ (l : List Layer). AreMerged l c.in_ok-merged.merged) c.in_ok-layers.ensures c.in_ok-merged.ensures in
    let same : c.in_ok-merged.merged ≡ map entry c.args.kept.now =
    one_merge (layer_of c.args.kept.now ∷ []) c.in_ok-merged.merged (map entry c.args.kept.now) mine whole in
    true_false (same_entries c.in_ok-merged.merged (map entry c.args.kept.now))
    (ap (λ m. same_entries m (map entry c.args.kept.now)) same ∙ same_test (map entry c.args.kept.now))
    (sym c.are_kept.ensures ∙ c.if-are_kept.false)
