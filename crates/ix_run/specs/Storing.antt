-- The commands that store an input.
use Rattle.std.specs.Prelude.{◌≡◌, ◌≤◌, ◌<◌, ◌^◌, ℕ, ℤ, Bool, true, false, List, [], ◌∷◌, ◌++◌, length, map, drop, Option, None, IfSome}
use Rattle.std.specs.Prelude.{Result, Ok, Err}
use Rattle.std.specs.List.{AllByRecursion, flat_map}
use Rattle.ix_base.specs.Faults.{Rose}
use Rattle.ix_base.specs.Told.{Told, Took}
use Rattle.ix_base.specs.declared.events.ChannelMeta.{ChannelMeta}
use Rattle.ix_disk.specs.declared.disk.Disk.{Ghosts}
use Rattle.ix_manifest.specs.Book.{NamedItems}
use Rattle.ix_model.specs.Bounds.{IsRefused}
use Rattle.ix_model.specs.Given.{Chooser}
use Rattle.ix_model.specs.State.{State}
use Rattle.ix_model.specs.Step.{state_after}
use Rattle.ix_model.specs.declared.answers.Refusal.{Refusal}
use Rattle.ix_model.specs.declared.commands.Command.TheVariants.{Begin, Block, End}
use Rattle.ix_model.specs.declared.commands.TimedCommand.{TimedCommand}
use Rattle.ix_store.specs.Counting.{numbers}
use Rattle.ix_store.specs.declared.store.Store.{Store}
use Rattle.ix_run.specs.Giving.{given_all, HasGivenAll, HasKeptAll}
use Rattle.ix_run.specs.Running.{AlwaysRecoverable, Outset}
use Rattle.ix_run.specs.declared.giving.GiveFault.{GiveFault}
use Rattle.ix_run.specs.declared.giving.GiveFault.TheVariants as faults
use Rattle.ix_run.specs.declared.input.RunFault.{RunFault}
use Rattle.ix_run.specs.declared.input.RunFault.TheVariants as stops

-- ---- the commands, all given at one moment

-- the channel's name
abbrev pub tilde : List ℕ
tilde = 126 ∷ []

abbrev pub begin_order : ChannelMeta → ℤ → TimedCommand
begin_order origin moment = record { command = Begin tilde origin; moment = moment }

abbrev pub block_order : ℤ → List ℕ → TimedCommand
block_order moment bytes = record { command = Block tilde bytes None; moment = moment }

abbrev pub end_order : ℤ → TimedCommand
end_order moment = record { command = End tilde; moment = moment }

-- the channel is ended where it is still open, and begun
abbrev pub opening : Bool → ChannelMeta → ℤ → List TimedCommand
opening true origin moment = end_order moment ∷ begin_order origin moment ∷ []
opening false origin moment = begin_order origin moment ∷ []

-- and these blocks are added to its stream
abbrev pub filling : Bool → ChannelMeta → ℤ → List (List ℕ) → List TimedCommand
filling is_open origin moment blocks = opening is_open origin moment ++ map (block_order moment) blocks

-- and it is ended
abbrev pub storing : Bool → ChannelMeta → ℤ → List (List ℕ) → List TimedCommand
storing is_open origin moment blocks = filling is_open origin moment blocks ++ end_order moment ∷ []

-- ---- the blocks

abbrev pub joined : List (List ℕ) → List ℕ
joined blocks = flat_map (λ (block : List ℕ). block) blocks

abbrev pub IsBlock : List ℕ → Type 0
IsBlock bytes = length bytes ≤ 1048576

-- how many bytes of an input are taken at the most
abbrev pub input_limit : ℕ
input_limit = 2 ^ 40

-- How far the input was read, from which so many bytes were taken: to its end, or until it failed,
-- or to the limit; or a command was not given.
abbrev pub IsRead : Result Unit RunFault → ℕ → Option (List ℕ) → ℕ → ℕ → Type 0
IsRead (Ok done) taken left failed failed' = (taken < input_limit) × IfSome left (λ bytes. bytes ≡ [])
IsRead (Err (stops.Given fault)) taken left failed failed' = taken ≤ input_limit
IsRead (Err stops.Input) taken left failed failed' = (taken < input_limit) × Rose failed failed'
IsRead (Err stops.Endless) taken left failed failed' = taken ≡ input_limit

-- An input was read in blocks, and these have done what they were to do.
pub record HasRead (result : Result Unit RunFault) (outcome : List (List ℕ) →
    Type 0) (left left' : Option (List ℕ)) (failed failed' : ℕ) : Type 0 where
  pub pieces : List (List ℕ)
  pub sizes : AllByRecursion IsBlock pieces
  pub took : Told (Took (joined pieces)) left left'
  pub read : IsRead result (length (joined pieces)) left' failed failed'
  pub done : outcome pieces

-- ---- commands that were given, and others that were not

-- the next one is refused for its cause
abbrev pub IsNextRefused : Chooser → ℕ → State → Refusal → List TimedCommand → Type 0
IsNextRefused choose drawn m refusal [] = ⊥
IsNextRefused choose drawn m refusal (order ∷ orders) = IsRefused choose false drawn m order refusal

-- The store refused the next one, where `keeps` says what store and disk hold with those that were
-- given; or the disk failed at a commit, where `stood` says for what its images have stood.
abbrev pub HaltsAt : Chooser → List TimedCommand → ℕ → (List TimedCommand → Type 0) → (List TimedCommand → Type 0) → GiveFault →
    List TimedCommand → List TimedCommand → Type 0
HaltsAt choose history base keeps stood (faults.Refused refusal) given rest =
    IsNextRefused choose (numbers (drop base (given_all choose history given))) (state_after choose (given_all choose history given))
    refusal rest × keeps given
HaltsAt choose history base keeps stood (faults.Commit fault) given rest = stood given

-- Of these commands the first were given, and the others not.
pub record HasHalted (choose : Chooser) (history : List TimedCommand) (base : ℕ) (keeps stood : List TimedCommand →
    Type 0) (fault : GiveFault) (orders : List TimedCommand) : Type 0 where
  pub given : List TimedCommand
  pub rest : List TimedCommand
  pub parts : orders ≡ given ++ rest
  pub halts : HaltsAt choose history base keeps stood fault given rest

-- all of them were given, or not all
abbrev pub Gives : {D : Type 0} → Ghosts D → {M : Type 0} → (NamedItems → Type 0) → (Chooser → List TimedCommand → M → Type 0) →
    Outset D → Store M → D → Result Unit GiveFault → List TimedCommand → Type 0
Gives d fits holds s store disk (Ok done) orders = HasGivenAll d fits holds s orders store disk
Gives d fits holds s store disk (Err fault) orders =
    HasHalted s.choose s.history s.base (λ given. HasGivenAll d fits holds s given store disk)
    (λ given. AlwaysRecoverable d fits s.run s.choose (given_all s.choose s.history given) s.kept s.disk disk) fault orders

-- ---- a run that stores an input

-- Those that fill the stream were given, and those behind them where the input came to its end; or
-- not all.
abbrev pub Follows : (List TimedCommand → Type 0) → (GiveFault → List TimedCommand → Type 0) → Result Unit RunFault → List TimedCommand →
    List TimedCommand → Type 0
Follows keeps halts (Ok done) filled ending = keeps (filled ++ ending)
Follows keeps halts (Err (stops.Given fault)) filled ending = halts fault (filled ++ ending)
Follows keeps halts (Err stops.Input) filled ending = keeps filled
Follows keeps halts (Err stops.Endless) filled ending = keeps filled

abbrev pub Feeds : {D : Type 0} → Ghosts D → {M : Type 0} → (NamedItems → Type 0) → (Chooser → List TimedCommand → M → Type 0) →
    Outset D → Store M → D → Result Unit RunFault → List TimedCommand → List TimedCommand → Type 0
Feeds d fits holds s store disk result filled ending =
    Follows (λ given. HasGivenAll d fits holds s given store disk)
    (HasHalted s.choose s.history s.base (λ given. HasGivenAll d fits holds s given store disk)
    (λ given. AlwaysRecoverable d fits s.run s.choose (given_all s.choose s.history given) s.kept s.disk disk))
    result filled ending

-- and all that were given are committed, but where the disk failed
abbrev pub Stores : {D : Type 0} → Ghosts D → {M : Type 0} → (NamedItems → Type 0) → (Chooser → List TimedCommand → M → Type 0) →
    Outset D → Store M → D → Result Unit RunFault → List TimedCommand → List TimedCommand → Type 0
Stores d fits holds s store disk result filled ending =
    Follows (λ given. HasKeptAll d fits holds s given store disk)
    (HasHalted s.choose s.history s.base (λ given. HasKeptAll d fits holds s given store disk)
    (λ given. AlwaysRecoverable d fits s.run s.choose (given_all s.choose s.history given) s.kept s.disk disk))
    result filled ending

-- ---- where the disk has failed, and the store is closed

abbrev pub is_cut : Result Unit GiveFault → Bool
is_cut (Ok done) = false
is_cut (Err (faults.Refused refusal)) = false
is_cut (Err (faults.Commit fault)) = true

abbrev pub is_run_cut : Result Unit RunFault → Bool
is_run_cut (Ok done) = false
is_run_cut (Err (stops.Given fault)) = is_cut (Err fault)
is_run_cut (Err stops.Input) = false
is_run_cut (Err stops.Endless) = false
