use Rattle.std.proofs.Common.{◌++◌, [], ◌∷◌, ap, subst, ◌∙◌}
use Rattle.std.proofs.lemmas.Result.{on_ok_weaker}
use Rattle.ix_items.specs.Spelling.{HasSpelling}
use Rattle.ix_items.specs.declared.items.Item.{Item}
use Rattle.ix_catalog.proofs.changes.put_gone.Goals as goal

pub returns : goal.returns
returns c = record {
  put = on_ok_weaker c.push.result (λ h. h ∙ ap (λ (x : Item). c.args.items.now ++ x ∷ []) c.in_ok-gone.ensures.value) c.push.ensures.ok;
  proper = on_ok_weaker c.push.result (λ h. subst HasSpelling c.in_ok-gone.ensures.value c.in_ok-gone.ensures.proper) c.push.ensures.ok;
}
