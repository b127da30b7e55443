-- Why a run stops, and its status.
use Rattle.std.specs.Prelude.{◌≡◌, ℕ, List}
use Rattle.ix_base.specs.Faults.{Rose}
use Rattle.ix_base.specs.Told.{HasBegun}
use Rattle.indexd_core.specs.Sides.{Side}
use Rattle.indexd_core.specs.declared.preview.Stop.{Stop}
use Rattle.indexd_core.specs.declared.preview.Stop.TheVariants as stop
use Rattle.indexd_core.specs.declared.status.Status.{Status}
use Rattle.indexd_core.specs.declared.status.Status.TheVariants as status

abbrev pub stop_status : Stop → Status
stop_status stop.Memory = status.Memory
stop_status stop.Input = status.Input
stop_status stop.Output = status.Output

-- why writing stopped, and what was written of the text
abbrev pub PutStops : Stop → List ℕ → Side → Side → Type 0
PutStops stop.Memory text output output' = output'.told ≡ output.told
PutStops stop.Input text output output' = ⊥
PutStops stop.Output text output output' = Rose output.faults output'.faults × HasBegun text output.told output'.told
