-- What is made of a state in memory can be written, has room, and leads to what stands in its log.
use Rattle.std.proofs.Common.{◌≡◌, ◌<◌, ◌-◌, ◌^◌, Bool, List, length, sym, subst}
use Rattle.std.specs.Prelude.{All}
use Rattle.std.specs.List.{AllByRecursion}
use Rattle.std.specs.List.Sorted.{IsPermutation}
use Rattle.std.proofs.lemmas.List.Elements.{All-from_recursion, recursion_from_All}
use Rattle.ix_manifest.specs.Book.{empty, replay}
use Rattle.ix_items.specs.Spelling.{HasSpelling, IsWritable, body_bytes}
use Rattle.ix_items.specs.declared.items.Item.{Item}
use Rattle.ix_recovery.specs.Listed.{left_items}
use Rattle.ix_recovery.proofs.Sized.{have_room}
use Rattle.ix_model.specs.Given.{Chooser}
use Rattle.ix_model.specs.Step.{state_after}
use Rattle.ix_model.specs.declared.commands.TimedCommand.{TimedCommand}
use Rattle.ix_recovery.specs.First.{is_first}
use Rattle.ix_model.specs.Snap.{snapshot_of}
use Rattle.ix_state.specs.Held.{Holds}
use Rattle.ix_state.specs.declared.state.StoreState.{StoreState}
use Rattle.ix_recovery.specs.Putting.{AreHeld}
use Rattle.ix_recovery.specs.Whole.{held_items}
use Rattle.ix_recovery.proofs.Held.{held_are, held_few, held_leads, replayed}
use Rattle.ix_recovery.proofs.Written.{held_written, spelled}

pub can_write : (fresh : Bool) (held : StoreState) (list : List Item) → AreHeld fresh held list → All IsWritable list →
    AllByRecursion HasSpelling list
can_write fresh held list a w = spelled list (recursion_from_All IsWritable list w) a.ranged

module _ (fresh : Bool) (held : StoreState) (list : List Item) (a : AreHeld fresh held list) (choose : Chooser)
    (history : List TimedCommand) (h : Holds choose history held) (first : is_first history ≡ fresh) where
  pub said_is : list ≡ held_items fresh (state_after choose history) held.view.ledger
  said_is = held_are choose history held h fresh list a

  moved : IsPermutation (left_items choose history) list
  moved = held_leads choose history held fresh list h first said_is

  pub said_leads : replay list empty ≡ (snapshot_of choose history).book
  said_leads = replayed choose history list moved

  pub said_writable : All IsWritable list
  said_writable =
      All-from_recursion IsWritable list
      (subst (AllByRecursion IsWritable) (sym said_is) (held_written choose history held h
      (held_few choose history held h fresh list first a) fresh))

  pub said_short : length (body_bytes list) < 2 ^ 32 - 64
  said_short = have_room choose history list moved h.bounds (held_few choose history held h fresh list first a)
