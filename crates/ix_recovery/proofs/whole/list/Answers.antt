use Rattle.std.proofs.Common.{Bool, List, ◌++◌, sym, ap, subst, ◌∙◌}
use Rattle.ix_items.specs.declared.items.Item.{Item}
use Rattle.ix_recovery.specs.Putting.{setting_items, AreHeld}
use Rattle.ix_recovery.proofs.Resting.{all_held, fresh_held}
use Rattle.ix_recovery.proofs.whole.list.Goals as goal

pub returns-then-fresh : goal.returns-then-fresh
returns-then-fresh c =
    let held = c.args.held.now in
    subst (λ (b : Bool). AreHeld b held c.put_settings.new.said) (sym c.if-fresh.true)
    (fresh_held held c.put_settings.new.said (
      c.in_ok-put_settings.ensures.put ∙ ap (λ (l : List Item). l ++ setting_items held) c.new-said.ensures,
      c.in_ok-put_settings.ensures.ranged,
    ))

pub returns : goal.returns
returns c =
    let held = c.args.held.now in
    subst (λ (b : Bool). AreHeld b held c.put_rest.new.said) (sym c.if-fresh.false)
    (all_held held c.put_settings.new.said c.put_rest.new.said (
      c.in_ok-put_settings.ensures.put ∙ ap (λ (l : List Item). l ++ setting_items held) c.new-said.ensures,
      c.in_ok-put_settings.ensures.ranged,
    )
    c.in_ok-put_rest.ensures)
