-- What a run over a store leaves has room for a further one. For `second_run`.
use Rattle.std.proofs.Common.{◌≡◌, ◌⊎◌, inl, inr, ℕ, Bool, true, List, [], refl, arith}
use Rattle.ix_disk.specs.declared.disk.Disk.{Ghosts}
use Rattle.indexd_run.specs.Opened.{Past}
use Rattle.indexd_cli.specs.Orders.{asked}
use Rattle.indexd_core.specs.Chain.{MayGoOn}
use Rattle.indexd_core.specs.Commands.{is_task, AskStore, AskFeed, AskServe, AskMonitor}
use Rattle.indexd_core.specs.Prepared.{Stated}
use Rattle.indexd_premises.specs.Standing.{IsLeftOpen, IsOverStore}

-- what holds of each of the five kinds of runs over a store
pub of_words : (words : List (List ℕ)) (P : Type 0) → (is_task (asked words) ≡ true → P) → ((stated : Stated) → AskStore words stated → P) →
    (AskFeed words → P) → ((port requests : ℕ) → AskServe words port requests → P) → ((close : Bool) → AskMonitor words close → P) →
    IsOverStore words → P
of_words words P task stored fed served monitored (inl asks) = task asks
of_words words P task stored fed served monitored (inr (inl asks)) = stored asks.0 asks.1
of_words words P task stored fed served monitored (inr (inr (inl asks))) = fed asks
of_words words P task stored fed served monitored (inr (inr (inr (inl asks)))) = served asks.0 asks.1 asks.2
of_words words P task stored fed served monitored (inr (inr (inr (inr asks)))) = monitored asks.0 asks.1

-- a run that goes on from anywhere goes on from nothing
pub from_nothing : {D : Type 0} (d : Ghosts D) (past : Past) (disk : D) → MayGoOn d past disk → IsLeftOpen d disk
from_nothing d past disk on = (
  past.choose,
  record {
    next = on.next;
    n = on.n;
    least_run = on.least_run;
    least = omega arith;
    no_earlier = omega arith;
    first = refl;
    may_run = on.may_run;
  },
)
