-- Reading from left to right: a value and the bytes after it, or nothing.
use Rattle.std.specs.Prelude.{◌≡◌, ℕ, zero, suc, ◌+◌, ◌-◌, ◌^◌, ℤ, pos, neg_ℤ, int_le, Bool, true, false, not, ◌&&◌, ◌||◌, nat_le, nat_lt}
use Rattle.std.specs.Prelude.{◌==◌, if◌then◌else◌, List, [], ◌∷◌, length, Option, Some, None, is_some, Result, Ok, Err}
use Rattle.std.specs.Ordering.{int_eq}
use Rattle.std.specs.Option.{option_eq}
use Rattle.ix_base.specs.Clocks as clocks
use Rattle.ix_base.specs.declared.events.Line.{Line}
use Rattle.ix_coding.specs.Reading.{◌>>=◌, byte_at, four_at, signed_at, flag_at, string_at, option_at}
use Rattle.ix_lines.specs.Lines.{effective}
use Rattle.ix_lines.specs.declared.carry.LineParts.{LineParts}
use Rattle.ix_merge.specs.declared.events.Whole.{Whole}
use Rattle.ix_merge.specs.declared.carry.MergeParts.{MergeParts}
use Rattle.ix_parse.specs.declared.carry.Carry.{Carry}
use Rattle.ix_parse.specs.declared.carry.CarryRules.{CarryRules}
use Rattle.ix_parse.specs.declared.carry.ResumeFault.{ResumeFault}
use Rattle.ix_parse.specs.declared.carry.ResumeFault.TheVariants as faults

-- What a function returned, seen by view, is what reading gives, unless memory ran out.
abbrev pub Fails : {Y : Type 0} → ResumeFault → Option Y → Type 0
Fails faults.NoMemory read = Unit {0}
Fails faults.BadCarry read = read ≡ None

abbrev pub Gives : {X Y : Type 0} → (X → Y) → Result X ResumeFault → Option Y → Type 0
Gives view (Ok x) read = read ≡ Some (view x)
Gives view (Err e) read = Fails e read

-- ---- numbers within bounds

unfoldable pub within_at : ℤ → ℤ → List ℕ → Option (ℤ × List ℕ)
within_at low high bytes = do
  z ← signed_at bytes
  if int_le low z.0 && int_le z.0 high then Some z else None

abbrev pub moment_at : List ℕ → Option (ℤ × List ℕ)
moment_at bytes = within_at (pos 0) clocks.latest bytes

abbrev pub time_at : List ℕ → Option (ℤ × List ℕ)
time_at bytes = within_at (neg_ℤ (pos (2 ^ 62))) (pos (2 ^ 62)) bytes

-- ---- lines

unfoldable pub run_at : List ℕ → Option (Line × List ℕ)
run_at bytes = do
  moment ← moment_at bytes
  text ← string_at moment.1
  if length text.0 == 0 then None else Some (record { bytes = text.0; moment = moment.0 }, text.1)

-- so many runs, one behind the other
unfoldable pub run_list_at : ℕ → List ℕ → Option (List Line × List ℕ)
run_list_at zero bytes = Some ([], bytes)
run_list_at (suc n) bytes = do
  first ← run_at bytes
  others ← run_list_at n first.1
  Some (first.0 ∷ others.0, others.1)

-- each run has another moment than the one before it, and together they have no more bytes than
-- there is room for
unfoldable pub fit : Option ℤ → ℕ → List Line → Bool
fit before room [] = true
fit before room (run ∷ runs) =
    if option_eq int_eq before (Some run.moment) || nat_lt room (length run.bytes) then false
    else fit (Some run.moment) (room - length run.bytes) runs

unfoldable pub runs_at : List ℕ → Option (List Line × List ℕ)
runs_at bytes = do
  count ← four_at bytes
  runs ← run_list_at count.0 count.1
  if fit None 16383 runs.0 then Some runs else None

unfoldable pub open_line_at : ℕ → List ℕ → Option (Line × List ℕ)
open_line_at most bytes = do
  line ← run_at bytes
  if nat_le (length line.0.bytes) most then Some line else None

unfoldable pub line_parts_at : ℕ → List ℕ → Option (LineParts × List ℕ)
line_parts_at most bytes = do
  before ← option_at byte_at bytes
  pending ← runs_at before.1
  line ← option_at (open_line_at most) pending.1
  Some (record { before = before.0; pending = pending.0; line = line.0 }, line.1)

-- ---- merging

unfoldable pub event_at : ℕ → List ℕ → Option (Whole × List ℕ)
event_at max bytes = do
  moment ← moment_at bytes
  lines ← four_at moment.1
  raw ← string_at lines.1
  if nat_le 1 lines.0 && nat_le lines.0 max && nat_le (length raw.0) 4194304 then Some
      (record { raw = raw.0; moment = moment.0; lines = lines.0 }, raw.1) else None

-- there is an open event or a mark
abbrev pub is_something : MergeParts → Bool
is_something parts = is_some parts.event || parts.held || parts.forced

-- without merging there are none
abbrev pub judged : Bool → MergeParts → List ℕ → Option (MergeParts × List ℕ)
judged on parts rest = if not on && is_something parts then None else Some (parts, rest)

unfoldable pub merge_parts_at : Bool → ℕ → List ℕ → Option (MergeParts × List ℕ)
merge_parts_at on max bytes = do
  event ← option_at (event_at max) bytes
  held ← flag_at event.1
  forced ← flag_at held.1
  judged on (record { event = event.0; held = held.0; forced = forced.0 }) forced.1

-- ---- all parts

unfoldable pub carry_at : CarryRules → List ℕ → Option (Carry × List ℕ)
carry_at rules bytes = do
  lines ← line_parts_at (effective rules.truncate + 1) bytes
  merge ← merge_parts_at rules.merging rules.max_lines lines.1
  latest ← option_at time_at merge.1
  Some (record { lines = lines.0; merge = merge.0; latest = latest.0 }, latest.1)
