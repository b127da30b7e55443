use Rattle.std.proofs.Common.{◌≡◌, ◌≤◌, ◌-◌, ℕ, List, [], length}
use Rattle.indexd_core.specs.declared.prepare.PreparedPreview.{PreparedPreview}
use Rattle.indexd_core.specs.Sides.{side}
use Rattle.indexd_core.specs.Runs.{input_limit}
use Rattle.indexd_core.specs.Steps.{Holds, IsAt}
use Rattle.indexd_core.proofs.preview.Preview.read_all.Given as goal

abbrev pub invariant-loop-taken : goal.invariant-loop-taken
invariant-loop-taken g l = record {
  within : l.taken ≤ input_limit;
  came : (prepared : PreparedPreview) → Holds prepared [] l.initial.self →
      (bytes : List ℕ) × (length bytes ≡ l.taken)
      × IsAt prepared (side (g.S.Source.faults l.initial.input) (g.S.Source.left l.initial.input))
      (side (g.W.Sink.faults l.initial.output) (g.W.Sink.given l.initial.output)) bytes l.self
      (side (g.S.Source.faults l.input) (g.S.Source.left l.input)) (side (g.W.Sink.faults l.output) (g.W.Sink.given l.output));
  moment : l.self.moment ≡ l.initial.self.moment;
  read_later : g.S.Source.faults l.initial.input ≤ g.S.Source.faults l.input;
  written_later : g.W.Sink.faults l.initial.output ≤ g.W.Sink.faults l.output;
}

abbrev pub decreases-loop-taken : goal.decreases-loop-taken
decreases-loop-taken g l = input_limit - l.taken
