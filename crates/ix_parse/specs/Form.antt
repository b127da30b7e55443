-- What may be carried of a channel, by its settings.
use Rattle.std.specs.Prelude.{◌≡◌, ◌≢◌, ℕ, ◌+◌, ◌<◌, ◌≤◌, ◌^◌, ℤ, pos, neg_ℤ, ◌≤ℤ◌, List, [], ◌∷◌, ◌++◌, length}
use Rattle.std.specs.List.{AllByRecursion}
use Rattle.std.specs.Option.{ForSome}
use Rattle.ix_base.specs.Clocks as clocks
use Rattle.ix_base.specs.declared.events.Line.{Line}
use Rattle.ix_coding.specs.Spelling.{Is32}
use Rattle.ix_lines.specs.Carry.{dated_of}
use Rattle.ix_lines.specs.Lines.{effective}
use Rattle.ix_merge.specs.Sizes as merged
use Rattle.ix_merge.specs.declared.events.Whole.{Whole}
use Rattle.ix_parse.specs.declared.carry.Carry.{Carry}
use Rattle.ix_parse.specs.declared.carry.CarryRules.{CarryRules}
use Rattle.ix_parse.specs.Spelling.{spell}

abbrev pub IsWithin : ℤ → ℤ → ℤ → Type 0
IsWithin low high z = (low ≤ℤ z) × (z ≤ℤ high)

-- a moment lies between the beginning of 1970 and that of 2100
abbrev pub IsMoment : ℤ → Type 0
IsMoment z = IsWithin (pos 0) clocks.latest z

-- the time of an event lies between -2^62 and 2^62
abbrev pub IsTime : ℤ → Type 0
IsTime z = IsWithin (neg_ℤ (pos (2 ^ 62))) (pos (2 ^ 62)) z

-- some bytes of one moment
pub record IsRun (run : Line) : Type 0 where
  pub moment : IsMoment run.moment
  pub some : 0 < length run.bytes

-- the first of the runs, if there is one, has another moment
abbrev pub BeginElse : ℤ → List Line → Type 0
BeginElse moment [] = Unit {0}
BeginElse moment (run ∷ runs) = moment ≢ run.moment

-- neighbouring runs have different moments
abbrev pub AreApart : List Line → Type 0
AreApart [] = Unit {0}
AreApart (run ∷ runs) = BeginElse run.moment runs × AreApart runs

-- the pending bytes: the longest runs of one moment, together at most 16,383 bytes
pub record AreRuns (runs : List Line) : Type 0 where
  pub each : AllByRecursion IsRun runs
  pub apart : AreApart runs
  pub few : length (dated_of runs) ≤ 16383

-- the open line: at most so many bytes
pub record IsOpenLine (most : ℕ) (line : Line) : Type 0 where
  pub run : IsRun line
  pub few : length line.bytes ≤ most

-- the numbers of an open event
pub record IsEvent (event : Whole) : Type 0 where
  pub moment : IsMoment event.moment
  pub lines : Is32 event.lines

-- The sizes and bounds of each part. Whether the parts could come of one stream is not asked.
pub record HasForm (rules : CarryRules) (carry : Carry) : Type 0 where
  pub pending : AreRuns carry.lines.pending
  -- at most one byte more than the length at which lines are cut
  pub line : ForSome carry.lines.line (λ line. IsOpenLine (effective rules.truncate + 1) line)
  pub event : ForSome carry.merge.event (λ event. IsEvent event)
  -- an event has 1 to `max_lines` lines and at most 4,194,304 bytes; without merging there is none,
  -- and no mark
  pub merge : merged.HasForm rules.merging rules.max_lines carry.merge
  pub latest : ForSome carry.latest (λ time. IsTime time)

-- the bytes are this carry
pub record IsCarryOf (rules : CarryRules) (bytes : List ℕ) (carry : Carry) : Type 0 where
  pub form : HasForm rules carry
  pub spelled : bytes ≡ spell carry

-- No carry begins another, and no two have the same bytes.
abbrev pub HaveOneCarry : Type 0
HaveOneCarry = (rules : CarryRules) (a b : Carry) (x y : List ℕ) → HasForm rules a → HasForm rules b → spell a ++ x ≡ spell b ++ y → (a ≡ b)
    × (x ≡ y)
