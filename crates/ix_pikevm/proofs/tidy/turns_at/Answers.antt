use Rattle.std.proofs.Common.{◌≡◌, ℕ, ◌+◌, ◌*◌, ◌≤◌, None, length, replicate, reverse, sym, ◌∙◌, subst}
use Rattle.std.proofs.lemmas.Result.{IfOk-from_err, IfOk-weaker}
use Rattle.ix_pikevm.specs.Code.{history, replay}
use Rattle.ix_pikevm.specs.Replays.{spans}
use Rattle.ix_pikevm.specs.Tidied.{Groups, AllFit, IsNarrow, comes, over}
use Rattle.ix_pikevm.proofs.TidyLemmas.{comes-apart, trail-short}
use Rattle.ix_pikevm.proofs.tidy.turns_at.Goals as goal

pub returns-in_err-events : goal.returns-in_err-events
returns-in_err-events c = record {
  comes = IfOk-from_err c.from_residual.result _ c.from_residual.ensures.0;
  short = IfOk-from_err c.from_residual.result _ c.from_residual.ensures.0;
}

pub returns : goal.returns
returns c = record {
  comes =
      let on = c.deref.ensures.value ∙ sym c.deref-2.ensures.value in
      IfOk-weaker c.turns_of.result (λ t. spans t.began.items t.groups.items ≡ replay (replicate c.groups_in-count.result None)
      c.deref-2.result.now)
      (λ t. (before : Groups) → record {
        began = reverse t.began.items;
        groups = over before t.groups.items;
      } ≡ comes c.args.cells.now c.args.trail before)
      (λ t is before. comes-apart c.groups_in-count.result c.args.cells.now c.args.trail c.deref-2.result.now t.began.items t.groups.items
      before (c.deref-2.ensures.value ∙ c.in_ok-events.ensures)
      (subst (AllFit c.groups_in-count.result) on c.groups_in-count.ensures.fit) is) c.turns_of.ensures;
  short =
      let on = c.deref.ensures.value ∙ sym c.deref-2.ensures.value in
      IfOk-weaker c.turns_of.result (λ t. spans t.began.items t.groups.items ≡ replay (replicate c.groups_in-count.result None)
      c.deref-2.result.now)
      (λ t. (groups nested : ℕ) → IsNarrow groups nested (history c.args.cells.now c.args.trail) →
      2 * length t.groups.items + length t.began.items ≤ 2 * groups + nested)
      (λ t is groups nested narrow. trail-short c.groups_in-count.result groups nested c.args.cells.now c.args.trail c.deref-2.result.now
      t.began.items t.groups.items (c.deref-2.ensures.value
      ∙ c.in_ok-events.ensures) (subst (AllFit c.groups_in-count.result) on c.groups_in-count.ensures.fit)
      (λ k f. c.groups_in-count.ensures.least k (subst (AllFit k) (sym on) f)) is narrow) c.turns_of.ensures;
}
