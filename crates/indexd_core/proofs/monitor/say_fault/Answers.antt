use Rattle.std.proofs.Common.{List, ℕ, inl, inr, subst}
use Rattle.std.specs.Prelude.{Result, Ok, Err, IfOk, OnErr, ◌≡◌, ◌⊎◌}
use Rattle.ix_monitor.specs.declared.faults.InputFault.{InputFault}
use Rattle.indexd_settings.specs.Inputs.{input_line}
use Rattle.indexd_core.proofs.MonitorLemmas.{SaysFault}
use Rattle.indexd_core.specs.Sides.{Side, side}
use Rattle.indexd_core.specs.Texts.{Said, status_text}
use Rattle.indexd_core.specs.declared.status.Status.{Status}
use Rattle.indexd_core.specs.declared.status.Status.TheVariants as statuses
use Rattle.indexd_core.proofs.monitor.say_fault.Goals as goal

-- by whether there is a line
by_line : {E : Type 0} (line : Result (List ℕ) E) (fault : InputFault) (status : Status) (output output' : Side) →
    IfOk line (λ text. text ≡ input_line fault) →
    IfOk line (λ text. (status ≡ statuses.Configuration) × Said text output output') →
    OnErr line ((status ≡ statuses.Memory) × Said (status_text statuses.Memory) output output') → SaysFault fault status output output'
by_line (Ok text) fault status output output' is said none =
    inl (said.0, subst (λ (t : List ℕ). Said t output output') is said.1)
by_line (Err e) fault status output output' is said none = inr none

pub returns-clause-said : goal.returns-clause-said
returns-clause-said g c = by_line c.input_line-line.result c.args.fault.now c.say_line.result
    (side (g.W.Sink.faults c.args.output.now) (g.W.Sink.given c.args.output.now))
    (side (g.W.Sink.faults c.say_line.new.output) (g.W.Sink.given c.say_line.new.output)) c.input_line-line.ensures
    c.say_line.ensures.line c.say_line.ensures.no_line
