use Rattle.std.proofs.Common.{ℕ, ◌+◌, ◌*◌, ◌≤◌, length, reverse}
use Rattle.std.proofs.lemmas.Result.{IfOk-from_err, IfOk-weaker}
use Rattle.ix_pikevm.specs.Code.{history}
use Rattle.ix_pikevm.specs.Tidied.{ComesTo, IsNarrow, comes, over}
use Rattle.ix_pikevm.proofs.TidyLemmas.{comes-same, room-less}
use Rattle.ix_pikevm.proofs.tidy.trail_anew.Goals as goal

pub returns-in_err-turns : goal.returns-in_err-turns
returns-in_err-turns c = record {
  trail = IfOk-from_err c.from_residual.result _ c.from_residual.ensures.0;
  grown = IfOk-from_err c.from_residual.result _ c.from_residual.ensures.0;
  short = IfOk-from_err c.from_residual.result _ c.from_residual.ensures.0;
}

pub returns : goal.returns
returns c = record {
  trail = IfOk-weaker c.add_turns.result
      (λ t. ComesTo c.add_turns.new.cells.items t (λ before. record {
        began = reverse c.in_ok-turns.turns.began.items;
        groups = over before c.in_ok-turns.turns.groups.items;
      }))
      (λ t. ComesTo c.add_turns.new.cells.items t (comes c.args.old.now c.args.trail))
      (λ t made. comes-same c.add_turns.new.cells.items t
      (λ before. record { began = reverse c.in_ok-turns.turns.began.items; groups = over before c.in_ok-turns.turns.groups.items })
      (comes c.args.old.now c.args.trail) c.in_ok-turns.ensures.comes made) c.add_turns.ensures.trail;
  grown = c.add_turns.ensures.grown;
  short = IfOk-weaker c.add_turns.result (λ _. length c.add_turns.new.cells.items ≤ length
      c.args.cells.now.items + (2 * length c.in_ok-turns.turns.groups.items + length c.in_ok-turns.turns.began.items))
      (λ _. (groups nested : ℕ) → IsNarrow groups nested (history c.args.old.now c.args.trail) →
      length c.add_turns.new.cells.items ≤ length c.args.cells.now.items + (2 * groups + nested))
      (λ _ few groups nested narrow. room-less (length c.args.cells.now.items) (length c.add_turns.new.cells.items)
      (2 * length c.in_ok-turns.turns.groups.items + length c.in_ok-turns.turns.began.items) (2 * groups + nested) few
      (c.in_ok-turns.ensures.short groups nested narrow)) c.add_turns.ensures.short;
}
