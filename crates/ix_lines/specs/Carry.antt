-- What is carried of a stream over a stop: the first three parts of a channel's carry.
use Rattle.std.specs.Prelude.{ℕ, ◌+◌, true, List, [], ◌∷◌, take, Option, Some, None, if◌then◌else◌}
use Rattle.std.specs.Ordering.{int_eq}
use Rattle.std.specs.List.{flat_map}
use Rattle.ix_base.specs.Stream.{Dated, bytes_of, dated}
use Rattle.ix_lines.specs.Walk.{BreakFinder, walk_of}
use Rattle.ix_base.specs.declared.events.Line.{Line}
use Rattle.ix_lines.specs.declared.carry.LineParts.{LineParts}

-- a byte before runs of bytes, as a part of the first one where that has its moment
abbrev pub joined : Dated → List Line → List Line
joined d [] = record { bytes = d.0 ∷ []; moment = d.1 } ∷ []
joined d (run ∷ runs) =
    if int_eq d.1 run.moment then record { bytes = d.0 ∷ run.bytes; moment = d.1 } ∷ runs
    else record { bytes = d.0 ∷ []; moment = d.1 } ∷ run ∷ runs

-- bytes as the longest runs that have one moment
abbrev pub runs_of : List Dated → List Line
runs_of [] = []
runs_of (d ∷ stream) = joined d (runs_of stream)

-- The first t + 1 bytes of what stands between the last break and the scan place, and the moment of
-- the first one. There is none where nothing stands there.
abbrev pub open_line : ℕ → List Dated → Option Line
open_line t [] = None
open_line t (d ∷ stretch) = Some (record { bytes = take (t + 1) (bytes_of (d ∷ stretch)); moment = d.1 })

-- the byte before the scan place, the bytes from there on as runs, and the open line
abbrev pub carry_of : BreakFinder → ℕ → List Dated → LineParts
carry_of look t stream =
    let w = walk_of look true stream in
    record { before = w.before; pending = runs_of w.pending; line = open_line t w.rest }

-- the bytes of runs with their moments
abbrev pub dated_of : List Line → List Dated
dated_of runs = flat_map (λ run. dated run.bytes run.moment) runs
