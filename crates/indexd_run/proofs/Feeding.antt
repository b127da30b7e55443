-- How a preview ends whose events are stored: what of the commands was given.
use Rattle.std.proofs.Common.{◌≡◌, drop, arith, inl, inr, ℕ, ℤ, Bool, true, false, List, [], ◌∷◌, ◌++◌, length, refl, sym, ap, subst}
use Rattle.std.specs.List.{AllByRecursion}
use Rattle.std.specs.Prelude.{Result, Ok, Err, Option, Some, None}
use Rattle.ix_base.specs.Told.{Told, Took}
use Rattle.ix_base.specs.declared.events.ChannelMeta.{ChannelMeta}
use Rattle.ix_disk.specs.declared.disk.Disk.{Ghosts}
use Rattle.ix_manifest.specs.Book.{NamedItems}
use Rattle.ix_commit.specs.declared.fault.CommitFault.TheVariants as commits
use Rattle.ix_model.specs.Given.{Chooser}
use Rattle.ix_model.specs.Judged.{is_begun}
use Rattle.ix_model.specs.Step.{state_after}
use Rattle.ix_model.specs.declared.commands.TimedCommand.{TimedCommand}
use Rattle.ix_model.specs.declared.answers.Refusal.{Refusal}
use Rattle.ix_model.specs.declared.answers.Refusal.TheVariants as refusals
use Rattle.ix_run.specs.Giving.{given_all}
use Rattle.ix_run.specs.Storing.{tilde, filling, storing, end_order, joined, IsBlock, IsNextRefused, Stores}
use Rattle.ix_run.specs.Storing.{IsRead as runs_read}
use Rattle.ix_run.specs.declared.giving.GiveFault.{GiveFault}
use Rattle.ix_run.specs.declared.giving.GiveFault.TheVariants.{Refused, Commit}
use Rattle.ix_run.specs.declared.input.RunFault.{RunFault}
use Rattle.ix_run.specs.declared.input.RunFault.TheVariants as runs
use Rattle.ix_run.specs.Running.{outset}
use Rattle.ix_store.specs.Counting.{numbers}
use Rattle.ix_store.specs.declared.store.Store.{Store}
use Rattle.indexd_run.proofs.Begun.{next_in_turn}
use Rattle.indexd_run.specs.Ends.{IsLeft, Ends}
use Rattle.indexd_run.proofs.Leaving.{left_all}
use Rattle.indexd_run.specs.Previews.{Misses, IsRead, HasTaken, IsWhy, Fed}
use Rattle.indexd_run.specs.declared.stop.Stop.{Stop}
use Rattle.indexd_run.specs.declared.stop.Stop.TheVariants as stops
use Rattle.indexd_run.specs.Stops.{loses, loses_in, is_input, of_refusal, of_give, of_run}

pub took_none : (left : Option (List ℕ)) → Told (Took []) left left
took_none None = tt
took_none (Some bytes) = refl

none_behind : (all : List TimedCommand) → all ≡ all ++ []
none_behind [] = refl
none_behind (o ∷ all) = ap (λ (l : List TimedCommand). o ∷ l) (none_behind all)

-- the index that is stated is missed: nothing was read, and nothing given
pub none_fed : (choose : Chooser) (base : ℕ) (h : List TimedCommand) (origin : ChannelMeta) (moment : ℤ) (left : Option (List ℕ)) →
    Misses choose h origin true → Fed choose base h origin moment (Err stops.NotFound) left left []
none_fed choose base h origin moment left missed = record {
  pieces = [];
  sizes = tt;
  took = took_none left;
  read = (omega arith, λ is. absurd (cc));
  rest = storing (is_begun (state_after choose h) tilde) origin moment [];
  whole = refl;
  end = inl (refl, missed);
}

-- ---- how far the input is read

endless_refused : (refusal : Refusal) → of_refusal refusal ≡ stops.Endless → ⊥
endless_refused refusals.Closed is = cc
endless_refused refusals.NoChannel is = cc
endless_refused refusals.ChannelOpen is = cc
endless_refused refusals.UnknownIndex is = cc
endless_refused refusals.NoBucket is = cc
endless_refused refusals.NotArchived is = cc
endless_refused refusals.AlreadyThawed is = cc
endless_refused refusals.TooManyChannels is = cc
endless_refused refusals.Full is = cc
endless_refused refusals.NoMemory is = cc

endless_given : (fault : GiveFault) → of_give fault ≡ stops.Endless → ⊥
endless_given (Refused refusal) is = endless_refused refusal is
endless_given (Commit commits.Disk) is = cc
endless_given (Commit (commits.Damaged file at)) is = cc

read_so : (fault : RunFault) (taken : ℕ) (left : Option (List ℕ)) (failed failed' : ℕ) → runs_read (Err fault) taken left failed failed' →
    IsRead (Err (of_run fault)) taken left
read_so (runs.Given fault) taken left failed failed' read = (read, λ is. absurd (endless_given fault is))
read_so runs.Input taken left failed failed' read = (omega (arith, read.0), λ is. absurd (cc))
read_so runs.Endless taken left failed failed' read = (omega (arith, read), λ is. read)

pub read_as : (fault : RunFault) (stop : Stop) (taken : ℕ) (left : Option (List ℕ)) (failed failed' : ℕ) → stop ≡ of_run fault →
    runs_read (Err fault) taken left failed failed' → IsRead (Err stop) taken left
read_as fault stop taken left failed failed' is read = subst (λ (s : Stop). IsRead (Err s) taken left) (sym is)
    (read_so fault taken left failed failed' read)

-- nothing was taken
pub none_taken : (stop : Stop) (left : Option (List ℕ)) → is_input stop ≡ false → HasTaken (Err stop) left left
none_taken stop left not = record { taken = []; took = took_none left; read = (omega arith, λ is. absurd (endless_not is)) } where
  endless_not : stop ≡ stops.Endless → ⊥
  endless_not is = let e : is_input stop ≡ true = ap is_input is in cc (e, not)

-- ---- why no more was given

so : (choose : Chooser) (base : ℕ) (h given rest : List TimedCommand) (origin : ChannelMeta) (moment : ℤ) (refusal : Refusal) →
    IsNextRefused choose (numbers (drop base (given_all choose h given))) (state_after choose (given_all choose h given)) refusal rest →
    (of_refusal refusal ≡ stops.Inconsistent → ⊥) →
    IsWhy choose base h origin moment (of_refusal refusal) given rest
so choose base h given rest origin moment refusals.Closed why sound = absurd (sound refl)
so choose base h given rest origin moment refusals.NoChannel why sound = absurd (sound refl)
so choose base h given rest origin moment refusals.ChannelOpen why sound = absurd (sound refl)
so choose base h given rest origin moment refusals.UnknownIndex why sound = inr (refusals.UnknownIndex, refl, why)
so choose base h given rest origin moment refusals.NoBucket why sound = inr (refusals.NoBucket, refl, why)
so choose base h given rest origin moment refusals.NotArchived why sound = inr (refusals.NotArchived, refl, why)
so choose base h given rest origin moment refusals.AlreadyThawed why sound = inr (refusals.AlreadyThawed, refl, why)
so choose base h given rest origin moment refusals.TooManyChannels why sound = (refusals.TooManyChannels, refl, why)
so choose base h given rest origin moment refusals.Full why sound = (refusals.Full, refl, why)
so choose base h given rest origin moment refusals.NoMemory why sound = tt

module _ {D : Type 0} (g : Ghosts D) {M : Type 0} (fits : NamedItems → Type 0) (run : ℕ) (holds : Chooser → List TimedCommand → M →
    Type 0) (choose : Chooser) (h : List TimedCommand) (base : ℕ) (store : Store M) (first last : D) where
  by_loss : (lost : Bool) (may : List TimedCommand → Type 0) → IsLeft g fits holds (outset choose h base (length h) run first) may store
      last →
      Ends lost g fits holds (outset choose h base (length h) run first) may store last
  by_loss true may left = record { orders = left.orders; allowed = left.allowed; stood = left.all.stood }
  by_loss false may left = left

  module _ (origin : ChannelMeta) (moment : ℤ) (left left' : Option (List ℕ)) where
    abbrev open_is : Bool
    open_is = is_begun (state_after choose h) tilde

    abbrev Given : Result Unit RunFault → List (List ℕ) → Type 0
    Given result pieces = Stores g fits holds (outset choose h base (length h) run first) store last result
        (filling open_is origin moment pieces)
        (end_order moment ∷ [])

    pub feeds : (pieces : List (List ℕ)) (failed failed' : ℕ) → AllByRecursion IsBlock pieces → Told (Took (joined pieces)) left left' →
        runs_read (Ok tt) (length (joined pieces)) left' failed failed' → Misses choose h origin false → Given (Ok tt) pieces →
        IsLeft g fits holds (outset choose h base (length h) run first) (Fed choose base h origin moment (Ok tt) left left') store last
    feeds pieces failed failed' sizes took read found given =
        left_all g fits holds (outset choose h base (length h) run first) (Fed choose base h origin moment (Ok tt) left left')
        (storing open_is origin moment pieces) store last
        (record {
          pieces = pieces;
          sizes = sizes;
          took = took;
          read = read;
          rest = [];
          whole = none_behind (storing open_is origin moment pieces);
          end = (refl, found, given.allowed);
        }) given

    module _ (pieces : List (List ℕ)) (failed failed' : ℕ) (sizes : AllByRecursion IsBlock pieces)
        (took : Told (Took (joined pieces)) left left') where
      front : (fault : RunFault) (orders rest : List TimedCommand) → runs_read (Err fault) (length (joined pieces)) left' failed failed' →
          storing open_is origin moment pieces ≡ orders ++ rest → IsWhy choose base h origin moment (of_run fault) orders rest →
          Fed choose base h origin moment (Err (of_run fault)) left left' orders
      front fault orders rest read parts why = record {
        pieces = pieces;
        sizes = sizes;
        took = took;
        read = read_so fault (length (joined pieces)) left' failed failed' read;
        rest = rest;
        whole = parts;
        end = why;
      }

      unfed : (fault : RunFault) → runs_read (Err fault) (length (joined pieces)) left' failed failed' → Given (Err fault) pieces →
          Ends (loses (of_run fault)) g fits holds (outset choose h base (length h) run first)
          (Fed choose base h origin moment (Err (of_run fault)) left left') store last
      unfed (runs.Given (Refused refusal)) read given =
          by_loss (loses (of_refusal refusal)) (Fed choose base h origin moment (Err (of_refusal refusal)) left left')
          (left_all g fits holds (outset choose h base (length h) run first)
          (Fed choose base h origin moment (Err (of_refusal refusal)) left left') given.given store last
          (front (runs.Given (Refused refusal)) given.given given.rest read given.parts
          (so choose base h given.given given.rest origin moment refusal given.halts.0
          (next_in_turn choose (numbers (drop base (given_all choose h given.given))) h given.given given.rest origin moment pieces
          refusal given.parts given.halts.0))) given.halts.1)
      unfed (runs.Given (Commit commits.Disk)) read given =
          record {
            orders = given.given;
            allowed = front (runs.Given (Commit commits.Disk)) given.given given.rest read given.parts tt;
            stood = given.halts;
          }
      unfed (runs.Given (Commit (commits.Damaged file at))) read given =
          record {
            orders = given.given;
            allowed = front (runs.Given (Commit (commits.Damaged file at))) given.given given.rest read
                given.parts tt;
            stood = given.halts;
          }
      unfed runs.Input read given =
          left_all g fits holds (outset choose h base (length h) run first)
          (Fed choose base h origin moment (Err (of_run runs.Input)) left left') (filling open_is origin moment pieces) store last
          (front runs.Input (filling open_is origin moment pieces) (end_order moment ∷ []) read refl refl) given
      unfed runs.Endless read given =
          left_all g fits holds (outset choose h base (length h) run first)
          (Fed choose base h origin moment (Err (of_run runs.Endless)) left left') (filling open_is origin moment pieces) store last
          (front runs.Endless (filling open_is origin moment pieces) (end_order moment ∷ []) read refl refl) given

      pub unfed_as : (fault : RunFault) (stop : Stop) → stop ≡ of_run fault →
          runs_read (Err fault) (length (joined pieces)) left' failed failed' → Given (Err fault) pieces →
          Ends (loses stop) g fits holds (outset choose h base (length h) run first)
          (Fed choose base h origin moment (Err stop) left left') store last
      unfed_as fault stop is read given = subst (λ (s : Stop).
          Ends (loses s) g fits holds (outset choose h base (length h) run first) (Fed choose base h origin moment (Err s) left left')
          store last)
          (sym is)
          (unfed fault read given)

  -- an input is not stopped by what stands on the disk
  pub fed_sound : (origin : ChannelMeta) (moment : ℤ) (result : Result Unit Stop) (left left' : Option (List ℕ)) →
      result ≡ Err stops.Inconsistent → Ends (loses_in result) g fits holds (outset choose h base (length h) run first)
      (Fed choose base h origin moment result left left') store last → ⊥
  fed_sound origin moment result left left' is ends =
      let was : IsLeft g fits holds (outset choose h base (length h) run first)
      (Fed choose base h origin moment (Err stops.Inconsistent) left left') store last =
      subst (λ (r : Result Unit Stop). Ends (loses_in r) g fits holds (outset choose h base (length h) run first)
      (Fed choose base h origin moment r left left') store last) is ends in
      was.allowed.end
