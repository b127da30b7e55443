use Rattle.std.proofs.Common.{◌+◌, ◌*◌, ◌≤◌, [], length, reverse, ap, subst}
use Rattle.std.proofs.lemmas.Result.{IfOk-from_err, IfOk-weaker}
use Rattle.ix_pikevm.specs.Ran.{Grown}
use Rattle.ix_pikevm.specs.Tidied.{Groups, ComesTo, over}
use Rattle.ix_pikevm.proofs.RunLemmas.{grown-both}
use Rattle.ix_pikevm.proofs.TidyLemmas.{room-both}
use Rattle.ix_pikevm.proofs.tidy.add_turns.Goals as goal

pub returns-in_err-closed : goal.returns-in_err-closed
returns-in_err-closed c = record {
  trail = IfOk-from_err c.from_residual.result _ c.from_residual.ensures.0;
  grown = IfOk-from_err c.from_residual.result _ c.from_residual.ensures.0;
  short = IfOk-from_err c.from_residual.result _ c.from_residual.ensures.0;
}

pub returns : goal.returns
returns c = record {
  trail = IfOk-weaker c.add_open.result
      (λ t. (groups : Groups → Groups) → ComesTo c.add_groups.new.cells.items c.in_ok-closed.closed
      (λ before. record { began = []; groups = groups before }) →
      ComesTo c.add_open.new.cells.items t (λ before. record { began = reverse c.deref-2.result.now; groups = groups before }))
      (λ t. ComesTo c.add_open.new.cells.items t (λ before. record {
        began = reverse c.args.turns.now.began.items;
        groups = over before c.args.turns.now.groups.items;
      }))
      (λ t added. subst (λ b. ComesTo c.add_open.new.cells.items t
      (λ before. record { began = reverse b; groups = over before c.args.turns.now.groups.items })) c.deref-2.ensures.value
      (subst (λ g. ComesTo c.add_open.new.cells.items t (λ before. record { began = reverse c.deref-2.result.now; groups = over before g }))
      c.deref.ensures.value
      (added (λ before. over before c.deref.result.now) c.in_ok-closed.ensures.trail))) c.add_open.ensures.trail;
  grown = IfOk-weaker c.add_open.result (λ _. Grown c.add_groups.new.cells.items c.add_open.new.cells.items)
      (λ _. Grown c.args.cells.now.items c.add_open.new.cells.items) (λ _ more. grown-both c.in_ok-closed.ensures.grown more)
      c.add_open.ensures.grown;
  short = IfOk-weaker c.add_open.result (λ _. length c.add_open.new.cells.items ≤ length c.add_groups.new.cells.items + length
      c.deref-2.result.now)
      (λ _. length c.add_open.new.cells.items ≤ length c.args.cells.now.items + (2 * length c.args.turns.now.groups.items + length
      c.args.turns.now.began.items))
      (λ _ added. room-both (length c.args.cells.now.items) (length c.add_groups.new.cells.items) (length c.add_open.new.cells.items)
      (length c.deref.result.now) (length c.deref-2.result.now) (length c.args.turns.now.groups.items)
      (length c.args.turns.now.began.items)
      (ap length c.deref.ensures.value) (ap length c.deref-2.ensures.value) c.in_ok-closed.ensures.short added) c.add_open.ensures.short;
}
