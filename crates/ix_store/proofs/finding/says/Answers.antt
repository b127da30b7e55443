use Rattle.std.proofs.Common.{◌≡◌, ◌≤◌, ◌+◌, ◌⊎◌, Bool, true, false, List, length, drop, Err, inl, inr, ap, sym, ◌∙◌, arith, length-drop}
use Rattle.std.specs.Prelude.{◌||◌}
use Rattle.std.specs.List.{list_any}
use Rattle.std.proofs.lemmas.List.{take_rest}
use Rattle.std.proofs.lemmas.Result.{err_from_is_err_and}
use Rattle.ix_items.specs.declared.items.Item.{Item}
use Rattle.ix_items.specs.declared.items.ItemFault.TheVariants.{BadItem}
use Rattle.ix_items.specs.Spelling.{body_bytes}
use Rattle.ix_manifest.proofs.Applying.{left_more}
use Rattle.ix_store.specs.Finding.{name_in, is_under}
use Rattle.ix_store.proofs.Said.{none_left, first_of, any_step, or_none}
use Rattle.ix_store.proofs.finding.says.Goals.{then-stands_for, else-stands_for}
use Rattle.ix_store.proofs.finding.says.Goals as goal

pub returns-in_err-item-clause-bad : goal.returns-in_err-item-clause-bad
returns-in_err-item-clause-bad c = λ is items body.
    let p = err_from_is_err_and c.from_residual.result c.from_residual.ensures.1 in
    let p1 = p.1 in
    let p2 = p.2 in
    let w : c.read_item.result ≡ Err c.in_err-item.field-0.0 = c.in_err-item.was in
    let was : c.read_item.result ≡ Err BadItem = cc in
    let rest = drop c.loop-at.at c.args.body.now in
    let left = c.loop-at.invariant.left items body in
    let first = first_of left.0 rest left.1 (omega (arith, c.loop-at-test.true, length-drop c.loop-at.at c.args.body.now)) in
    c.read_item.ensures.none was first.0 (body_bytes first.1) first.3 (take_rest c.args.body.now c.loop-at.at ∙ first.5)

pub loop-at-preserved : goal.loop-at-preserved
loop-at-preserved c =
    let at = c.loop-at.at in
    let whole = c.args.body.now in
    let rest = drop at whole in
    let read = c.in_ok-item.ensures.found in
    let under = is_under (name_in c.args.subject.now) in
    let within : at + c.in_ok-item.len ≤ length whole =
    omega (arith, c.loop-at-test.true, read.1, ap length (take_rest whole at), length-drop at whole) in
    let how : ((c.stands_for.result ≡ true) × (c.if-stands_for.found ≡ true))
    ⊎ ((c.stands_for.result ≡ false) × (c.if-stands_for.found ≡ c.loop-at.found)) =
    elim c.if-stands_for.branch [
      | then-stands_for w ↦ inl (
        w.if-stands_for.true,
        w.found-is,
      )
      | else-stands_for w ↦ inr (w.if-stands_for.false, w.found-is)
    ]
    in
    record {
      within = within;
      left = λ items body.
          let left = c.loop-at.invariant.left items body in
          let first = first_of left.0 rest left.1 (omega (arith, c.loop-at-test.true, length-drop at whole)) in
          let again = c.in_ok-item.ensures.again first.0 (body_bytes first.1) first.3 (take_rest whole at ∙ first.5) in
          let is : c.stands_for.result ≡ under first.0 = c.stands_for.ensures ∙ ap under again.0 in (
            first.1,
            left_more whole at c.in_ok-item.len first.0 first.1 first.4 first.5 again.1,
            any_step c.loop-at.found c.if-stands_for.found c.stands_for.result (list_any under first.1) (list_any under items)
                (left.2 ∙ ap (λ (l : List Item). c.loop-at.found || list_any under l) first.2
                ∙ ap (λ (t : Bool). c.loop-at.found || (t || list_any under first.1)) (sym is)) how,
          );
    }

pub returns-clause-said : goal.returns-clause-said
returns-clause-said c = λ items body.
    let whole = c.args.body.now in
    let under = is_under (name_in c.args.subject.now) in
    let left = c.loop-at.invariant.left items body in
    let none = none_left left.0 (drop c.loop-at.at whole) left.1 (omega (arith, c.loop-at-test.false, length-drop c.loop-at.at whole)) in
    sym (left.2 ∙ ap (λ (l : List Item). c.loop-at.found || list_any under l) none ∙ or_none c.loop-at.found)
