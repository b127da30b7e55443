-- How an export ends: nothing is given, and nothing changes on the disk.
use Rattle.std.proofs.Common.{◌≡◌, ◌||◌, ap, ◌∙◌, ℕ, Bool, true, false, List, [], length, refl, sym, subst, arith}
use Rattle.ix_disk.proofs.Runs.{always}
use Rattle.ix_disk.specs.Image.{Image, Stays}
use Rattle.ix_disk.specs.Moments.{ImagesStep}
use Rattle.ix_disk.specs.declared.disk.Disk.{Ghosts}
use Rattle.ix_manifest.specs.Book.{NamedItems}
use Rattle.ix_model.specs.Given.{Chooser}
use Rattle.ix_model.specs.declared.commands.TimedCommand.{TimedCommand}
use Rattle.ix_run.proofs.Gone.{stood_here}
use Rattle.ix_run.specs.Running.{AlwaysRecoverable, outset}
use Rattle.ix_store.specs.Faults.{is_of_disk}
use Rattle.ix_model.specs.Step.{state_after}
use Rattle.ix_store.specs.Exporting.{is_seen}
use Rattle.ix_store.specs.Holding.{Represents, is_closed}
use Rattle.ix_store.specs.Written.{RecoversToPrefix}
use Rattle.ix_store.specs.declared.fault.ExportFault.{ExportFault}
use Rattle.ix_store.specs.declared.fault.ExportFault.TheVariants as exports
use Rattle.ix_store.specs.declared.store.Store.{Store}
use Rattle.indexd_run.specs.Ends.{IsLeft, Ends}
use Rattle.indexd_run.proofs.Leaving.{left_all}
use Rattle.indexd_run.specs.Stops.{loses, of_export}
use Rattle.indexd_run.specs.Tasks.{IsUnexported}
use Rattle.indexd_run.specs.declared.stop.Stop.{Stop}

module _ {D : Type 0} (g : Ghosts D) {M : Type 0} (fits : NamedItems → Type 0) (holds : Chooser → List TimedCommand → M →
    Type 0) (choose : Chooser) (h : List TimedCommand) (base : ℕ) (old store : Store M) (first last : D) where
  stayed : Represents g fits holds choose h base (length h) old first → ImagesStep g first last Stays →
      AlwaysRecoverable g fits old.run choose h (length h) first last
  stayed hold goes = always g first last Stays (RecoversToPrefix fits old.run choose h (length h))
      (RecoversToPrefix fits old.run choose h (length h)) goes
      (λ image left. (stood_here g fits old.run holds choose h base (length h) (length h) old first refl (omega arith) hold).now image left)
      (λ before state_after stands same. subst (λ (image : Image). RecoversToPrefix fits old.run choose h (length h) image) (sym same)
      stands)

  open_still : Represents g fits holds choose h base (length h) old first → is_closed old ≡ true → ⊥
  open_still hold closed = let e : is_closed old ≡ false = ap (λ (x : Bool). x || old.closed) hold.staged.ready.usable
      ∙ hold.staged.is_open in cc

  pub left_as_was : store.run ≡ old.run → Represents g fits holds choose h base (length h) old first → ImagesStep g first last Stays →
      Represents g fits holds choose h base (length h) store last →
      IsLeft g fits holds (outset choose h base (length h) old.run first) (λ (orders : List TimedCommand). orders ≡ []) store last
  left_as_was same hold goes now =
      left_all g fits holds (outset choose h base (length h) old.run first) (λ (orders : List TimedCommand). orders ≡ []) [] store last refl
      (record { allowed = tt; same_run = same; hold = now; stood = stayed hold goes })

  pub not_exported : (fault : ExportFault) → store.run ≡ old.run → Represents g fits holds choose h base (length h) old first →
      ImagesStep g first last Stays → (is_of_disk fault ≡ false → Represents g fits holds choose h base (length h) store last) →
      Ends (loses (of_export fault)) g fits holds (outset choose h base (length h) old.run first)
      (λ (orders : List TimedCommand). orders ≡ []) store last
  not_exported exports.Closed same hold goes now = left_as_was same hold goes (now refl)
  not_exported exports.UnknownIndex same hold goes now = left_as_was same hold goes (now refl)
  not_exported exports.Disk same hold goes now = record { orders = []; allowed = refl; stood = stayed hold goes }
  not_exported (exports.Damaged file at) same hold goes now = record { orders = []; allowed = refl; stood = stayed hold goes }
  not_exported exports.Output same hold goes now = left_as_was same hold goes (now refl)
  not_exported exports.NoMemory same hold goes now = left_as_was same hold goes (now refl)

  pub stopped_as : (stop : Stop) (fault : ExportFault) → store.run ≡ old.run → stop ≡ of_export fault →
      Represents g fits holds choose h base (length h) old first → ImagesStep g first last Stays →
      (is_of_disk fault ≡ false → Represents g fits holds choose h base (length h) store last) →
      Ends (loses stop) g fits holds (outset choose h base (length h) old.run first) (λ (orders : List TimedCommand). orders ≡ []) store
      last
  stopped_as stop fault same is hold goes now = subst (λ (s : Stop).
      Ends (loses s) g fits holds (outset choose h base (length h) old.run first) (λ (orders : List TimedCommand). orders ≡ []) store last)
      (sym is)
      (not_exported fault same hold goes now)

  -- an index is missed exactly where it is not seen, and a store that holds a history is not closed
  pub unexported : (index : List ℕ) (stop : Stop) (fault : ExportFault) → stop ≡ of_export fault →
      Represents g fits holds choose h base (length h) old first → (fault ≡ exports.Closed → is_closed old ≡ true) →
      (fault ≡ exports.UnknownIndex → is_seen (state_after choose h) index ≡ false) → IsUnexported choose h index stop
  unexported index stop fault is hold closed unknown = subst (λ (s : Stop). IsUnexported choose h index s) (sym is)
      (by fault closed unknown) where
        by : (fault : ExportFault) → (fault ≡ exports.Closed → is_closed old ≡ true) →
            (fault ≡ exports.UnknownIndex → is_seen (state_after choose h) index ≡ false) → IsUnexported choose h index (of_export fault)
        by exports.Closed closed unknown = open_still hold (closed refl)
        by exports.UnknownIndex closed unknown = unknown refl
        by exports.Disk closed unknown = tt
        by (exports.Damaged file at) closed unknown = tt
        by exports.Output closed unknown = tt
        by exports.NoMemory closed unknown = tt

pub seen_by : (seen : Bool) → (seen ≡ false → ⊥) → seen ≡ true
seen_by true not = refl
seen_by false not = absurd (not refl)
