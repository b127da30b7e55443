-- What the definitions of reading come to.
use Rattle.std.specs.Prelude.{ℕ, ℤ, List}
use Rattle.jiff_tz.specs.PosixText.{TzText}
use Rattle.ix_time.specs.Scan.{at_front, first_time, GivesFirst}

-- without a format, what the first offset of a window gives at which one of the four formats reads
abbrev pub FirstOffsetReads : Type 0
FirstOffsetReads = (zone : TzText) (arrival : ℤ) (window : List ℕ) →
    GivesFirst (at_front zone arrival) window (first_time zone arrival window)
