-- A preview whose events are stored: what was given of the commands that store an input.
use Rattle.std.specs.Prelude.{◌≡◌, ◌≤◌, ◌<◌, ◌⊎◌, ℤ, ℕ, Bool, true, false, List, [], ◌∷◌, ◌++◌, length, drop, Option, Some, None, IfSome}
use Rattle.std.specs.Prelude.{is_none, Result, Ok, Err}
use Rattle.std.specs.List.{AllByRecursion}
use Rattle.ix_base.specs.Clocks.{Moments, Answered}
use Rattle.ix_base.specs.Told.{Told, Took}
use Rattle.ix_base.specs.declared.events.ChannelMeta.{ChannelMeta}
use Rattle.ix_life.specs.Limits.{limits_of}
use Rattle.ix_life.specs.declared.sets.LimitSet.{LimitSet}
use Rattle.ix_model.specs.Given.{Chooser}
use Rattle.ix_model.specs.Judged.{is_begun}
use Rattle.ix_model.specs.Step.{state_after}
use Rattle.ix_model.specs.declared.answers.Refusal.{Refusal}
use Rattle.ix_model.specs.declared.commands.TimedCommand.{TimedCommand}
use Rattle.ix_run.specs.Giving.{given_all, AreAllowed}
use Rattle.ix_run.specs.Storing.{tilde, joined, storing, end_order, input_limit, IsBlock, IsNextRefused}
use Rattle.ix_model.specs.Shelved.{IsSet}
use Rattle.ix_store.specs.Counting.{numbers}
use Rattle.indexd_run.specs.Opened.{Giving}
use Rattle.indexd_run.specs.Stops.{of_refusal}
use Rattle.indexd_run.specs.declared.stop.Stop.{Stop}
use Rattle.indexd_run.specs.declared.stop.Stop.TheVariants as stops

-- whether an index is stated that is not configured
abbrev pub is_missing_in : LimitSet → Option (List ℕ) → Bool
is_missing_in limits None = false
is_missing_in limits (Some index) = is_none (limits_of limits index)

abbrev pub is_missing : LimitSet → ChannelMeta → Bool
is_missing limits origin = is_missing_in limits origin.index

-- the index that is stated is configured by the limits in force, or it is not
pub record Misses (choose : Chooser) (begun : List TimedCommand) (origin : ChannelMeta) (answer : Bool) : Type 0 where
  pub limits : LimitSet
  pub in_force : IsSet (state_after choose begun).force limits
  pub answers : is_missing limits origin ≡ answer

-- ---- how far the input is read, and why no further

-- A run that is done has read it to its end, below the limit; one that says `Endless` has taken as
-- much as is taken of one.
abbrev pub IsRead : Result Unit Stop → ℕ → Option (List ℕ) → Type 0
IsRead (Ok done) taken left = (taken < input_limit) × IfSome left (λ bytes. bytes ≡ [])
IsRead (Err stop) taken left = (taken ≤ input_limit) × (stop ≡ stops.Endless → taken ≡ input_limit)

-- What was taken from the input.
pub record HasTaken (result : Result Unit Stop) (left left' : Option (List ℕ)) : Type 0 where
  pub taken : List ℕ
  pub took : Told (Took taken) left left'
  pub read : IsRead result (length taken) left'

-- the store refuses the next command so, in a run that began behind the first `base` commands
abbrev pub IsRefusedSo : Chooser → ℕ → List TimedCommand → Stop → List TimedCommand → List TimedCommand → Type 0
IsRefusedSo choose base begun stop given rest =
    (refusal : Refusal) × (stop ≡ of_refusal refusal)
    × IsNextRefused choose (numbers (drop base (given_all choose begun given))) (state_after choose (given_all choose begun given)) refusal
    rest

-- Why no more than these commands are given. An input that is not read to its end leaves its
-- channel open. Disk and input count their faults, and memory may be short at any time.
abbrev pub IsWhy : Chooser → ℕ → List TimedCommand → ChannelMeta → ℤ → Stop → List TimedCommand → List TimedCommand → Type 0
IsWhy choose base begun origin moment stops.Memory given rest = Unit {0}
IsWhy choose base begun origin moment stops.Disk given rest = Unit {0}
IsWhy choose base begun origin moment (stops.Damaged file at) given rest = Unit {0}
IsWhy choose base begun origin moment stops.Inconsistent given rest = ⊥
IsWhy choose base begun origin moment stops.NotFound given rest =
    ((given ≡ []) × Misses choose begun origin true) ⊎ IsRefusedSo choose base begun stops.NotFound given rest
IsWhy choose base begun origin moment stops.TooManyChannels given rest = IsRefusedSo choose base begun stops.TooManyChannels given rest
IsWhy choose base begun origin moment stops.Full given rest = IsRefusedSo choose base begun stops.Full given rest
IsWhy choose base begun origin moment stops.Output given rest = ⊥
IsWhy choose base begun origin moment stops.Input given rest = rest ≡ end_order moment ∷ []
IsWhy choose base begun origin moment stops.Endless given rest = rest ≡ end_order moment ∷ []

abbrev pub IsEnd : Chooser → ℕ → List TimedCommand → ChannelMeta → ℤ → Result Unit Stop → List TimedCommand → List TimedCommand → Type 0
IsEnd choose base begun origin moment (Ok done) given rest = (rest ≡ []) × Misses choose begun origin false
    × AreAllowed choose base begun given
IsEnd choose base begun origin moment (Err stop) given rest = IsWhy choose base begun origin moment stop given rest

-- ---- what is given

-- Of the commands that store what was taken from the input the first were given, and where the run
-- was done all, each of which was allowed.
pub record Fed (choose : Chooser) (base : ℕ) (begun : List TimedCommand) (origin : ChannelMeta) (moment : ℤ) (result : Result Unit Stop)
    (left left' : Option (List ℕ)) (orders : List TimedCommand) : Type 0 where
  pub pieces : List (List ℕ)
  pub sizes : AllByRecursion IsBlock pieces
  pub took : Told (Took (joined pieces)) left left'
  pub read : IsRead result (length (joined pieces)) left'
  pub rest : List TimedCommand
  pub whole : storing (is_begun (state_after choose begun) tilde) origin moment pieces ≡ orders ++ rest
  pub end : IsEnd choose base begun origin moment result orders rest

-- The clock was asked once, and all bytes arrived at that moment.
pub record HasFed (choose : Chooser) (origin : ChannelMeta) (result : Result Unit Stop) (ahead' : Option Moments)
    (left left' : Option (List ℕ)) (was : Giving) : Type 0 where
  pub moment : ℤ
  pub asked : Told (Answered moment) was.ahead ahead'
  pub fed : Fed choose was.mounted was.begun origin moment result left left' was.orders
