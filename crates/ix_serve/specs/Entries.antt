-- What there is when a request comes.
use Rattle.std.specs.Prelude.{◌≡◌, ◌==◌, ◌&&◌, ℕ, ℤ, Bool, not, nat_lt, List, take, drop}
use Rattle.ix_model.specs.Given.{Chooser}
use Rattle.ix_model.specs.State.{State}
use Rattle.ix_model.specs.Step.{state_after}
use Rattle.ix_model.specs.declared.commands.Command.{Command}
use Rattle.ix_model.specs.declared.commands.TimedCommand.{TimedCommand}
use Rattle.ix_manifest.specs.Book.{NamedItems}
use Rattle.ix_commit.specs.Snapshot.{Snapshot}
use Rattle.ix_store.specs.Counting.{numbers}
use Rattle.ix_store.specs.Holding.{RepresentsStaged}
use Rattle.ix_store.specs.declared.store.Store.{Store}

-- Store and disk hold a history, of which the first `base` commands were there when the store was
-- mounted and the first `kept` are committed; the run of the store; and the moment of the request.
pub record Entry : Type 0 where
  pub choose : Chooser
  pub history : List TimedCommand
  pub base : ℕ
  pub kept : ℕ
  pub run : ℕ
  pub moment : ℤ

abbrev pub entry : Chooser → List TimedCommand → ℕ → ℕ → ℕ → ℤ → Entry
entry choose history base kept run moment = record {
  choose = choose;
  history = history;
  base = base;
  kept = kept;
  run = run;
  moment = moment;
}

abbrev pub state : Entry → State
state e = state_after e.choose e.history

-- how many numbers the run has drawn, and how many of them are committed
abbrev pub drawn : Entry → ℕ
drawn e = numbers (drop e.base e.history)

abbrev pub committed : Entry → ℕ
committed e = numbers (drop e.base (take e.kept e.history))

-- a number of a run is committed
abbrev pub is_acked : Entry → ℕ → ℕ → Bool
is_acked e run number = (run == e.run) && nat_lt number (committed e)

-- a number that this run has drawn is not
abbrev pub is_pending : Entry → ℕ → ℕ → Bool
is_pending e run number = (run == e.run) && (nat_lt number (drawn e) && not (is_acked e run number))

abbrev pub order : Entry → Command → TimedCommand
order e command = record { command = command; moment = e.moment }

-- a store has this run, and has staged what leads on from what is committed
abbrev pub IsAt : {M : Type 0} → (NamedItems → Type 0) → (Chooser → List TimedCommand → M → Type 0) → Entry → Store M → Snapshot → Type 0
IsAt fits holds e store old = (store.run ≡ e.run) × RepresentsStaged fits holds e.choose e.history e.base e.kept store old
