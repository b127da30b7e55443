-- A checkpoint at the end of a run changes nothing of what was given: every image since stands for
-- all of it.
use Rattle.std.proofs.Common.{◌≡◌, ◌≤◌, ◌⊎◌, ℕ, ℤ, Bool, true, false, List, [], ◌∷◌, ◌++◌, length, refl, sym, ap, ◌∙◌, subst, arith}
use Rattle.std.proofs.Common.{le_refl, le_trans, inl, inr, length-append}
use Rattle.std.specs.List.{AllByRecursion}
use Rattle.std.specs.Prelude.{Option, Result, Ok, Err, OnOk, IfErr}
use Rattle.ix_base.specs.Faults.{Rose}
use Rattle.ix_base.specs.declared.events.ChannelMeta.{ChannelMeta}
use Rattle.ix_base.specs.declared.files.File.{File}
use Rattle.ix_manifest.specs.Book.{NamedItems}
use Rattle.ix_manifest.specs.declared.fault.CheckpointFault.{CheckpointFault}
use Rattle.ix_manifest.specs.declared.fault.CheckpointFault.TheVariants as checkpoints
use Rattle.ix_disk.proofs.Runs.{always_on, always_weaker}
use Rattle.ix_disk.specs.Image.{Image}
use Rattle.ix_disk.specs.Moments.{Always}
use Rattle.ix_disk.specs.declared.disk.Disk.{Ghosts}
use Rattle.ix_commit.specs.declared.fault.CommitFault.TheVariants as commits
use Rattle.ix_model.specs.Given.{Chooser}
use Rattle.ix_model.specs.declared.commands.TimedCommand.{TimedCommand}
use Rattle.ix_run.proofs.Given.{more_of, given_more}
use Rattle.ix_run.proofs.Gone.{stood_on}
use Rattle.ix_run.specs.Giving.{given_all, HasKeptAll}
use Rattle.ix_run.specs.Resting.{ReadsShort, is_failed}
use Rattle.ix_run.specs.Running.{AlwaysRecoverable, outset}
use Rattle.ix_run.specs.Storing.{IsBlock, begin_order, block_order, end_order, input_limit, is_run_cut}
use Rattle.ix_run.specs.declared.giving.GiveFault.TheVariants.{Refused, Commit}
use Rattle.ix_run.specs.declared.input.RunFault.{RunFault}
use Rattle.ix_run.specs.declared.input.RunFault.TheVariants as runs
use Rattle.ix_run.proofs.Stored.{blocks_taken, opening_taken}
use Rattle.ix_store.proofs.Booked.{all_more}
use Rattle.ix_store.proofs.Counted.{take_whole}
use Rattle.ix_run.proofs.Gone.{stands_from}
use Rattle.ix_store.specs.Holding.{Represents}
use Rattle.ix_store.specs.Written.{RecoversTo, RecoversToPrefix}
use Rattle.ix_store.specs.declared.store.Store.{Store}
use Rattle.indexd_run.specs.Ends.{IsLeft, Ends, AtMost}
use Rattle.indexd_run.specs.Previews.{IsRead, HasTaken, IsWhy, Fed}
use Rattle.indexd_run.specs.Shortened.{is_short_at, is_short, EndsShort, IsOfCheckpoint}
use Rattle.indexd_run.specs.Stops.{of_checkpoint, of_run, loses, is_output}
use Rattle.indexd_run.specs.Tasks.{GaveAll}
use Rattle.indexd_run.specs.declared.stop.Stop.{Stop}
use Rattle.indexd_run.specs.declared.stop.Stop.TheVariants as stops

-- ---- what a checkpoint stops for

pub fault_is : (fault : CheckpointFault) → IsOfCheckpoint (of_checkpoint fault)
fault_is checkpoints.Disk = inr refl
fault_is checkpoints.NoMemory = inl refl

pub fault_kept : (fault : CheckpointFault) → loses (of_checkpoint fault) ≡ false → is_failed (Err fault) ≡ false
fault_kept checkpoints.Disk kept = kept
fault_kept checkpoints.NoMemory kept = refl

-- what holds of a stop, of want of memory and of a fault of the disk holds of what the run stops
-- for
pub by_end : (P : Stop → Type 0) (stop other : Stop) → P stop → P stops.Memory → P stops.Disk → (other ≡ stop) ⊎ IsOfCheckpoint other →
    P other
by_end P stop other same memory disk (inl is) = subst P (sym is) same
by_end P stop other same memory disk (inr (inl is)) = subst P (sym is) memory
by_end P stop other same memory disk (inr (inr is)) = subst P (sym is) disk

pub by_fault : (P : Stop → Type 0) (other : Stop) → P stops.Memory → P stops.Disk → IsOfCheckpoint other → P other
by_fault P other memory disk (inl is) = subst P (sym is) memory
by_fault P other memory disk (inr is) = subst P (sym is) disk

-- a count that rose within has risen over all
rose_within : (first mid next last : ℕ) → first ≤ mid → next ≤ last → Rose mid next → Rose first last
rose_within first mid next last began ended (inl less) = inl (omega arith)
rose_within first mid next last began ended (inr full) = inr (le_trans full ended)

-- a run that stops for a fault of the disk has seen it fail, before the checkpoint or at it
pub rose_by_end : (first mid next last : ℕ) (stop : Stop) → first ≤ mid → mid ≤ next → next ≤ last → (stop ≡ stops.Disk → Rose mid next) →
    (stop ≡ stops.Disk) ⊎ Rose next last → Rose first last
rose_by_end first mid next last stop began went ended rose (inl is) = rose_within first mid next last began ended (rose is)
rose_by_end first mid next last stop began went ended rose (inr risen) =
    rose_within first next last last (le_trans began went) (le_refl last) risen

-- a run that is not cut leaves the store at rest
uncut_so : (fault : RunFault) → loses (of_run fault) ≡ false → is_run_cut (Err fault) ≡ false
uncut_so (runs.Given (Refused refusal)) kept = refl
uncut_so (runs.Given (Commit commits.Disk)) kept = cc
uncut_so (runs.Given (Commit (commits.Damaged file at))) kept = cc
uncut_so runs.Input kept = refl
uncut_so runs.Endless kept = refl

pub uncut : (fault : RunFault) (stop : Stop) → stop ≡ of_run fault → loses stop ≡ false → is_run_cut (Err fault) ≡ false
uncut fault stop is kept = uncut_so fault (ap loses (sym is) ∙ kept)

-- a run that blames a file as damaged blamed it before
pub damaged_end : {T : Type 0} (stop other : Stop) (file : File) (at : ℕ) → (other ≡ stop) ⊎ IsOfCheckpoint other →
    ◌≡◌ {A = Result T Stop} (Err other) (Err (stops.Damaged file at)) → stop ≡ stops.Damaged file at
damaged_end stop other file at (inl is) damaged = cc
damaged_end stop other file at (inr (inl is)) damaged = absurd (cc)
damaged_end stop other file at (inr (inr is)) damaged = absurd (cc)

-- where a checkpoint is all that may fail
pub short_end : (result : Result Unit Stop) (P : Type 0) → is_short result ≡ true → IfErr result IsOfCheckpoint → OnOk result P → P
short_end (Ok done) P ok why so = so
short_end (Err stop) P ok (inl is) so = absurd (cc (ok, ap is_short_at is))
short_end (Err stop) P ok (inr is) so = absurd (cc (ok, ap is_short_at is))

-- what is so of a run whose log was made short, by what it ends for
pub ends_as : {D : Type 0} (g : Ghosts D) (fits : NamedItems → Type 0) (result : Result Unit Stop) (before disk : D) →
    (is_short result ≡ true → ReadsShort g disk) → EndsShort g fits result before disk
ends_as g fits (Ok done) before disk so = so refl
ends_as g fits (Err stop) before disk so = λ ok. inl (so ok)

-- ---- what was given stays given

module _ {D : Type 0} (g : Ghosts D) {M : Type 0} (fits : NamedItems → Type 0) (run : ℕ) (holds : Chooser → List TimedCommand → M →
    Type 0) (takes : TimedCommand → Type 0) (choose : Chooser) (h : List TimedCommand) (base : ℕ)
    (before store : Store M) (first mid last : D) where
  -- every image since stands for all
  abbrev pub HasImages : Type 0
  HasImages = (now : List TimedCommand) → AllByRecursion takes now → Represents g fits holds choose now base (length now) before mid →
      Always g mid last (RecoversTo fits before.run choose now)

  -- and all is held still
  abbrev pub IsHeld : Type 0
  IsHeld = (now : List TimedCommand) → AllByRecursion takes now → Represents g fits holds choose now base (length now) before mid →
      Represents g fits holds choose now base (length now) store last

  -- every image behind a checkpoint has all
  kept_since : HasImages → (orders : List TimedCommand) → AllByRecursion takes (given_all choose h orders) →
      HasKeptAll g fits holds (outset choose h base (length h) run first) orders before mid →
      AlwaysRecoverable g fits run choose (given_all choose h orders) (length (given_all choose h orders)) mid last
  kept_since images orders all kept = always_weaker g mid last _ _ (λ image stands. from image stands)
      (images (given_all choose h orders) all kept.hold)
    where
      from : (image : Image) → RecoversTo fits before.run choose (given_all choose h orders) image →
          RecoversToPrefix fits run choose (given_all choose h orders) (length (given_all choose h orders)) image
      from image stands = stands_from fits run before.run choose (given_all choose h orders) (length (given_all choose h orders))
          (length (given_all choose h orders)) image (omega (arith, kept.same_run)) (omega arith) (omega arith)
          (subst (λ (some : List TimedCommand). RecoversTo fits before.run choose some image) (sym (take_whole (given_all choose h orders)))
          stands)

  kept_stood : HasImages → (orders : List TimedCommand) → AllByRecursion takes (given_all choose h orders) →
      HasKeptAll g fits holds (outset choose h base (length h) run first) orders before mid →
      AlwaysRecoverable g fits run choose (given_all choose h orders) (length h) first last
  kept_stood images orders all kept =
      always_on g first mid last (RecoversToPrefix fits run choose (given_all choose h orders) (length h)) kept.stood
      (always_weaker g mid last _ _ (λ image stands. from image stands) (images (given_all choose h orders) all kept.hold))
    where
      now : List TimedCommand
      now = given_all choose h orders

      fewer : length h ≤ length (given_all choose h orders)
      fewer = subst (λ (l : List TimedCommand). length h ≤ length l) (sym (given_more choose h orders))
          (omega (arith, length-append h (more_of choose h orders)))

      from : (image : Image) → RecoversTo fits before.run choose (given_all choose h orders) image →
          RecoversToPrefix fits run choose (given_all choose h orders) (length h) image
      from image stands = stands_from fits run before.run choose (given_all choose h orders) (length h) (length (given_all choose h orders))
          image (omega (arith, kept.same_run)) fewer (omega arith)
          (subst (λ (some : List TimedCommand). RecoversTo fits before.run choose some image) (sym (take_whole (given_all choose h orders)))
          stands)

  pub ends_short : store.run ≡ before.run → HasImages → (lost : Bool) (may must : List TimedCommand → Type 0) →
      ((orders : List TimedCommand) → may orders → must orders) →
      ((orders : List TimedCommand) → may orders → AllByRecursion takes (given_all choose h orders)) →
      (lost ≡ false → IsHeld) → IsLeft g fits holds (outset choose h base (length h) run first) may before mid →
      Ends lost g fits holds (outset choose h base (length h) run first) must store last
  ends_short same images true may must so all held left =
      record {
        orders = left.orders;
        allowed = so left.orders left.allowed;
        stood = kept_stood images left.orders (all left.orders left.allowed) left.all;
      }
  ends_short same images false may must so all held left = record {
    orders = left.orders;
    allowed = so left.orders left.allowed;
    all = record {
      allowed = left.all.allowed;
      same_run = same ∙ left.all.same_run;
      hold = held refl (given_all choose h left.orders) (all left.orders left.allowed) left.all.hold;
      stood = kept_stood images left.orders (all left.orders left.allowed) left.all;
    };
    committed = left.committed;
    lasts = record {
      at_first = left.lasts.at_first;
      since = always_on g left.committed mid last
          (RecoversToPrefix fits run choose (given_all choose h left.orders) (length (given_all choose h left.orders)))
          left.lasts.since (kept_since images left.orders (all left.orders left.allowed) left.all);
    };
  }

  -- nothing was given
  pub short_stood : before.run ≡ run → Always g mid last (RecoversTo fits before.run choose h) →
      AlwaysRecoverable g fits run choose h (length h) mid last
  short_stood is short = always_weaker g mid last _ _ (λ image stands. from image stands) short
    where
      from : (image : Image) → RecoversTo fits before.run choose h image → RecoversToPrefix fits run choose h (length h) image
      from image stands = stands_from fits run before.run choose h (length h) (length h) image (omega (arith, is)) (omega arith)
          (omega arith) (subst (λ (some : List TimedCommand). RecoversTo fits before.run choose some image) (sym (take_whole h)) stands)

  -- a run that stops, and ends
  pub stopped_short : (stop other : Stop) (may must : List TimedCommand → Type 0) →
      ((orders : List TimedCommand) → may orders → must orders) →
      ((orders : List TimedCommand) → may orders → AllByRecursion takes (given_all choose h orders)) →
      store.run ≡ before.run → (loses stop ≡ true → (other ≡ stop) × ((store ≡ before) × (last ≡ mid))) → (loses stop ≡ false → HasImages) →
      (loses stop ≡ false → loses other ≡ false → IsHeld) →
      Ends (loses stop) g fits holds (outset choose h base (length h) run first) may before mid →
      Ends (loses other) g fits holds (outset choose h base (length h) run first) must store last
  stopped_short stop other may must so all same_run closed images held ends = by (loses stop) refl ends
    where
      by : (lost : Bool) → loses stop ≡ lost → Ends lost g fits holds (outset choose h base (length h) run first) may before mid →
          Ends (loses other) g fits holds (outset choose h base (length h) run first) must store last
      by true is ends =
          let same = closed is in
          let lost : true ≡ loses other = sym (ap loses same.0 ∙ is) in
          subst (λ (b : Bool). Ends b g fits holds (outset choose h base (length h) run first) must store last) lost
          (record {
            orders = ends.orders;
            allowed = so ends.orders ends.allowed;
            stood = subst (λ (d : D). AlwaysRecoverable g fits run choose (given_all choose h ends.orders) (length h) first d)
                (sym same.1.1) ends.stood;
          })
      by false is ends = ends_short same_run (images is) (loses other) may must so all (held is) ends

-- nothing was given, before and behind
pub ends_behind : {D : Type 0} (g : Ghosts D) {M : Type 0} (fits : NamedItems → Type 0) (run : ℕ) (holds : Chooser → List TimedCommand → M →
    Type 0) (choose : Chooser) (h : List TimedCommand) (base : ℕ) (store : Store M) (first mid last : D) (lost : Bool) →
    AlwaysRecoverable g fits run choose h (length h) first mid →
    Ends lost g fits holds (outset choose h base (length h) run mid) (λ orders. orders ≡ []) store last →
    Ends lost g fits holds (outset choose h base (length h) run first) (λ orders. orders ≡ []) store last
ends_behind g fits run holds choose h base store first mid last true stood ends = record {
  orders = ends.orders;
  allowed = ends.allowed;
  stood = stood_on g fits run holds choose (given_all choose h ends.orders) (length h) first mid last
      (subst (λ (os : List TimedCommand). AlwaysRecoverable g fits run choose (given_all choose h os) (length h) first mid)
      (sym ends.allowed) stood) ends.stood;
}
ends_behind g fits run holds choose h base store first mid last false stood ends = record {
  orders = ends.orders;
  allowed = ends.allowed;
  all = record {
    allowed = ends.all.allowed;
    same_run = ends.all.same_run;
    hold = ends.all.hold;
    stood = stood_on g fits run holds choose (given_all choose h ends.orders) (length h) first mid last
        (subst (λ (os : List TimedCommand). AlwaysRecoverable g fits run choose (given_all choose h os) (length h) first mid)
        (sym ends.allowed) stood) ends.all.stood;
  };
  committed = ends.committed;
  lasts = ends.lasts;
}

-- ---- settings

pub most_taken : (takes : TimedCommand → Type 0) (order : TimedCommand) (orders : List TimedCommand) → takes order → AtMost order orders →
    AllByRecursion takes orders
most_taken takes order orders one (inl is) = subst (AllByRecursion takes) (sym is) tt
most_taken takes order orders one (inr is) = subst (AllByRecursion takes) (sym is) (one, tt)

-- ---- a task

-- all of a task or nothing of it
pub gave_taken : (takes : TimedCommand → Type 0) (b : Bool) (all orders : List TimedCommand) → AllByRecursion takes all →
    GaveAll b all orders → AllByRecursion takes orders
gave_taken takes true all orders taken is = subst (AllByRecursion takes) (sym is) taken
gave_taken takes false all orders taken (inl is) = subst (AllByRecursion takes) (sym is) tt
gave_taken takes false all orders taken (inr is) = subst (AllByRecursion takes) (sym is) taken

gave_quiet : (b : Bool) (all orders : List TimedCommand) → GaveAll b all orders → GaveAll false all orders
gave_quiet true all orders is = inr is
gave_quiet false all orders is = is

pub gave_other : (stop other : Stop) (all orders : List TimedCommand) → (other ≡ stop) ⊎ IsOfCheckpoint other →
    GaveAll (is_output stop) all orders → GaveAll (is_output other) all orders
gave_other stop other all orders why gave =
    by_end (λ (s : Stop). GaveAll (is_output s) all orders) stop other gave (gave_quiet (is_output stop) all orders gave)
    (gave_quiet (is_output stop) all orders gave) why

-- ---- an input

all_front : (takes : TimedCommand → Type 0) (a b : List TimedCommand) → AllByRecursion takes (a ++ b) → AllByRecursion takes a
all_front takes [] b all = tt
all_front takes (o ∷ a) b all = (all.0, all_front takes a b all.1)

pub fed_taken : (takes : TimedCommand → Type 0) (choose : Chooser) (base : ℕ) (h : List TimedCommand) (origin : ChannelMeta) (moment : ℤ)
    (result : Result Unit Stop) (left left' : Option (List ℕ)) (orders : List TimedCommand) →
    takes (end_order moment) → takes (begin_order origin moment) → ((bytes : List ℕ) → IsBlock bytes → takes (block_order moment bytes)) →
    Fed choose base h origin moment result left left' orders → AllByRecursion takes orders
fed_taken takes choose base h origin moment result left left' orders ends begins adds fed =
    all_front takes orders fed.rest
    (subst (AllByRecursion takes) fed.whole
    (all_more takes _ (end_order moment ∷ []) (all_more takes _ _ (opening_taken takes origin moment ends begins _)
    (blocks_taken takes moment adds fed.pieces fed.sizes)) (ends, tt)))

read_most : (result : Result Unit Stop) (taken : ℕ) (left : Option (List ℕ)) → IsRead result taken left → taken ≤ input_limit
read_most (Ok done) taken left read = omega (arith, read.0)
read_most (Err stop) taken left read = read.0

-- the run stops for want of memory, or for a fault of the disk, in place of its end
read_other : (result : Result Unit Stop) (other : Stop) (taken : ℕ) (left : Option (List ℕ)) → IsOfCheckpoint other →
    IsRead result taken left → IsRead (Err other) taken left
read_other result other taken left why read =
    by_fault (λ (s : Stop). IsRead (Err s) taken left) other (
      read_most result taken left read,
      λ is. absurd (cc),
    ) (read_most result taken left read, λ is. absurd (cc)) why

pub taken_other : (result : Result Unit Stop) (other : Stop) (left left' : Option (List ℕ)) → IsOfCheckpoint other →
    HasTaken result left left' → HasTaken (Err other) left left'
taken_other result other left left' why read = record {
  taken = read.taken;
  took = read.took;
  read = read_other result other (length read.taken) left' why read.read;
}

pub fed_other : (choose : Chooser) (base : ℕ) (h : List TimedCommand) (origin : ChannelMeta) (moment : ℤ) (result : Result Unit Stop)
    (other : Stop) (left left' : Option (List ℕ)) (orders : List TimedCommand) → IsOfCheckpoint other →
    Fed choose base h origin moment result left left' orders → Fed choose base h origin moment (Err other) left left' orders
fed_other choose base h origin moment result other left left' orders why fed = record {
  pieces = fed.pieces;
  sizes = fed.sizes;
  took = fed.took;
  read = read_other result other _ left' why fed.read;
  rest = fed.rest;
  whole = fed.whole;
  end = by_fault (λ (s : Stop). IsWhy choose base h origin moment s orders fed.rest) other tt tt why;
}

pub fed_end : (choose : Chooser) (base : ℕ) (h : List TimedCommand) (origin : ChannelMeta) (moment : ℤ) (result : Result Unit Stop)
    (left left' : Option (List ℕ)) (orders : List TimedCommand) → IfErr result IsOfCheckpoint →
    Fed choose base h origin moment (Ok tt) left left' orders → Fed choose base h origin moment result left left' orders
fed_end choose base h origin moment (Ok done) left left' orders why fed = fed
fed_end choose base h origin moment (Err other) left left' orders why fed =
    fed_other choose base h origin moment (Ok tt) other left left' orders why fed

pub fed_stop : (choose : Chooser) (base : ℕ) (h : List TimedCommand) (origin : ChannelMeta) (moment : ℤ) (stop other : Stop)
    (left left' : Option (List ℕ)) (orders : List TimedCommand) → (other ≡ stop) ⊎ IsOfCheckpoint other →
    Fed choose base h origin moment (Err stop) left left' orders → Fed choose base h origin moment (Err other) left left' orders
fed_stop choose base h origin moment stop other left left' orders (inl is) fed =
    subst (λ (s : Stop). Fed choose base h origin moment (Err s) left left' orders) (sym is) fed
fed_stop choose base h origin moment stop other left left' orders (inr why) fed =
    fed_other choose base h origin moment (Err stop) other left left' orders why fed
