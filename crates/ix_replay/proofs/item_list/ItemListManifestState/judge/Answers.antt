use Rattle.std.proofs.Common.{List, subst, sym}
use Rattle.ix_items.specs.declared.items.Item.{Item}
use Rattle.ix_manifest.specs.Book.{empty, replay}
use Rattle.ix_replay.specs.Bounds.{KeepsBounds}
use Rattle.ix_replay.specs.Fits.{fits}
use Rattle.ix_replay.proofs.OneList.{keeps_from_fits, fits_from_keeps}
use Rattle.ix_replay.proofs.item_list.ItemListManifestState.judge.Goals as goal

pub returns-clause-judged : goal.returns-clause-judged
returns-clause-judged c =
    let list = c.self.inside.items.items in (
      (λ yes. subst (λ (l : List Item). fits (replay l empty)) c.self.view_is
          (fits_from_keeps list c.self.invariant.0 (subst KeepsBounds c.as_slice.ensures.value (c.in_ok-keeps.ensures.0 yes)))),
      (λ fit. c.in_ok-keeps.ensures.1 (subst KeepsBounds (sym c.as_slice.ensures.value)
          (keeps_from_fits list c.self.invariant.0 (subst (λ (l : List Item). fits (replay l empty)) (sym c.self.view_is) fit)))),
    )
