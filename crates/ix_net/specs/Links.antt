-- What stays with a link from call to call, and what its failures leave behind.
use Rattle.std.specs.Prelude.{◌≡◌, ◌≤◌, ◌⊎◌, ℕ, List, Option, Some}
use Rattle.std.specs.Borrow.{GName}
use Rattle.ix_base.specs.Faults.{Rose}
use Rattle.ix_net.specs.declared.link.Side.{Side}
use Rattle.ix_net.specs.declared.link.Side.TheVariants.{Reading, Writing}

-- what a link was when it began, and the counts of its two sides
pub record Standing : Type 0 where
  -- the bytes that it held when it began, where it knows them
  pub held : Option (List ℕ)
  -- its count of faults then
  pub start : ℕ
  -- what was lent to it
  pub lent : List GName
  -- the faults of the side that is read from
  pub reading : ℕ
  -- the faults of the side that is written to
  pub writing : ℕ
  -- the side that failed last, where it keeps that
  pub failed : Option Side

-- the side that failed last is still the same, or its count rose
abbrev pub IsCaused : Standing → Standing → Type 0
IsCaused before after =
    (after.failed ≡ before.failed)
    ⊎ ((after.failed ≡ Some Reading) × Rose before.reading after.reading)
    ⊎ ((after.failed ≡ Some Writing) × Rose before.writing after.writing)

-- Calls leave what it was when it began, no count falls, and a side is named only where its own
-- count rose.
pub record LinkStep (before after : Standing) : Type 0 where
  pub held : after.held ≡ before.held
  pub start : after.start ≡ before.start
  pub lent : after.lent ≡ before.lent
  pub reading : before.reading ≤ after.reading
  pub writing : before.writing ≤ after.writing
  pub side : IsCaused before after
