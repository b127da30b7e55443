use Rattle.std.proofs.Common.{rules, ◌≡◌, ◌≤◌, ◌+◌, ℕ, List, length, take, drop, Err, ap, sym, ◌∙◌, arith, length-drop}
use Rattle.std.proofs.lemmas.List.{take_rest}
use Rattle.std.proofs.lemmas.Result.{err_from_is_err_and}
use Rattle.ix_items.specs.declared.items.ItemFault.TheVariants.{BadItem}
use Rattle.ix_items.specs.Spelling.{body_bytes}
use Rattle.ix_manifest.proofs.Applying.{first_item, left_more, applied_more}
use Rattle.ix_manifest.proofs.manifest_state.apply_all.Goals as goal

pub returns-in_err-item-clause-bad : goal.returns-in_err-item-clause-bad
returns-in_err-item-clause-bad g c = λ is items body.
    let p = err_from_is_err_and c.from_residual.result c.from_residual.ensures.1 in
    let p1 = p.1 in
    let p2 = p.2 in
    let w : c.read_item.result ≡ Err c.in_err-item.field-0.0 = c.in_err-item.was in
    let was : c.read_item.result ≡ Err BadItem = cc in
    let rest = drop c.loop-at.at c.args.body.now in
    let left = c.loop-at.invariant.left items body in
    let first = first_item left.0 rest left.1 (omega (arith, c.loop-at-test.true, length-drop c.loop-at.at c.args.body.now)) in
    c.read_item.ensures.none was first.0 (body_bytes first.1) first.2 (take_rest c.args.body.now c.loop-at.at ∙ first.4)

pub loop-at-preserved : goal.loop-at-preserved
loop-at-preserved g c =
    let at = c.loop-at.at in
    let whole = c.args.body.now in
    let rest = drop at whole in
    let found = c.in_ok-item.ensures.found in
    let within : at + c.in_ok-item.len ≤ length whole =
    omega (arith, c.loop-at-test.true, found.1, ap length (take_rest whole at), length-drop at whole) in
    let applied = c.apply.ensures in
    let none = c.is_err.ensures in
    let test = c.if-is_err.false in
    record {
      within = within;
      done = applied_more whole at c.in_ok-item.len c.in_ok-item.item (g.B.ManifestState.stands c.args.state.now)
          (g.B.ManifestState.stands c.loop-at.state) (g.B.ManifestState.stands c.apply.new.self) c.loop-at.invariant.done
          (ap (λ (l : List ℕ). take c.in_ok-item.len l) (sym (take_rest whole at)) ∙ found.2) found.3 (search rules);
      left = λ items body.
          let left = c.loop-at.invariant.left items body in
          let first = first_item left.0 rest left.1 (omega (arith, c.loop-at-test.true, length-drop at whole)) in
          let again = c.in_ok-item.ensures.again first.0 (body_bytes first.1) first.2 (take_rest whole at ∙ first.4) in
          (first.1, left_more whole at c.in_ok-item.len first.0 first.1 first.3 first.4 again.1);
    }
