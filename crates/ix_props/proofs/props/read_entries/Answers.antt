use Rattle.std.proofs.Common.{◌≡◌, ◌∙◌, sym, ap, subst, arith, length, Some}
use Rattle.std.specs.Prelude.{slice_get}
use Rattle.std.proofs.lemmas.Option.{slice_get_within}
use Rattle.std.proofs.lemmas.Result.{err_from_is_err_and}
use Rattle.ix_conf.specs.Lent.{item_entry}
use Rattle.ix_props.specs.Props.{IsOfKind, RefusesKind, first}
use Rattle.ix_props.proofs.PropLemmas.{AreRead-more, AreRead-whole, longer}
use Rattle.ix_props.proofs.props.read_entries.Goals as goal

pub returns-in_err-value-clause-err : goal.returns-in_err-value-clause-err
returns-in_err-value-clause-err c =
    let p = err_from_is_err_and c.from_residual-in_err-value.result c.from_residual-in_err-value.ensures.1 in
    let e = item_entry c.in-Some.item in
    let here : slice_get c.args.props.now (length c.loop-item.found) ≡ Some e =
    sym (c.in-Some.ensures ∙ ap (λ n. slice_get c.args.props.now n) c.len.ensures) in
    rw (p.1, p.2)
    (first e c.loop-item.found here c.loop-item.invariant
    (subst (λ k. RefusesKind c.args.transforms.now c.args.zones.now k e c.in_err-value.field-0.0) c.entry_kind.ensures
    c.in_err-value.ensures.err))

pub loop-item-smaller : goal.loop-item-smaller
loop-item-smaller c =
    let e = item_entry c.in-Some.item in
    let here : slice_get c.args.props.now (length c.loop-item.found) ≡ Some e =
    sym (c.in-Some.ensures ∙ ap (λ n. slice_get c.args.props.now n) c.len.ensures) in
    omega (
      arith,
      slice_get_within c.args.props.now (length c.loop-item.found) e here,
      longer c.loop-item.found c.push.new.self _ c.in_ok-push.ensures.ok,
    )

pub loop-item-preserved : goal.loop-item-preserved
loop-item-preserved c =
    let e = item_entry c.in-Some.item in
    let here : slice_get c.args.props.now (length c.loop-item.found) ≡ Some e =
    sym (c.in-Some.ensures ∙ ap (λ n. slice_get c.args.props.now n) c.len.ensures) in
    let is : IsOfKind c.args.transforms.now c.args.zones.now _ e c.in_ok-value.value =
    subst (λ k. IsOfKind c.args.transforms.now c.args.zones.now k e c.in_ok-value.value) c.entry_kind.ensures c.in_ok-value.ensures.ok in
    rw c.in_ok-push.ensures.ok
    (AreRead-more c.args.transforms.now c.args.zones.now c.args.props.now c.loop-item.found e _ here c.loop-item.invariant
    (record { stanza = c.in_ok-stanza.ensures; key = c.in_ok-key.ensures; value = is }))

pub returns-clause-ok : goal.returns-clause-ok
returns-clause-ok c =
    AreRead-whole c.args.transforms.now c.args.zones.now c.args.props.now c.loop-item.found
    (sym (c.in_default.ensures ∙ ap (λ n. slice_get c.args.props.now n) c.len.ensures)) c.loop-item.invariant
