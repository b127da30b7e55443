use Rattle.std.proofs.Common.{w64, ◌∙◌, refl, sym, subst}
use Rattle.std.proofs.lemmas.Int.{to_z-of_z}
use Rattle.std.proofs.lemmas.Result.{on_ok_weaker}
use Rattle.ix_catalog.specs.Carried as carrying
use Rattle.ix_catalog.proofs.TurningLemmas.{index_is}
use Rattle.ix_catalog.proofs.housekeeping_result.HousekeepingResult.turn_index.Goals as goal

pub returns : goal.returns
returns c = record {
  made = on_ok_weaker c.add_view.result
      (index_is c.args.view.now c.in_ok-turn.turn c.args.moment _ c.args.self.now _ _ _ _ _ _ _
      (to_z-of_z w64 c.args.moment c.ranges.moment)
      c.in_ok-turn.ensures c.as_slice.ensures c.in_ok-left.ensures.made c.in_ok-left.ensures.buckets
      (c.deref.ensures.value ∙ c.in_ok-left.ensures.numbered) c.in_ok-add_entries.ensures refl) c.add_view.ensures;
  counted = on_ok_weaker c.add_view.result (λ _. subst carrying.IsCounted (sym c.in_ok-add_entries.ensures) c.in_ok-left.ensures.counted)
      c.add_view.ensures;
}
