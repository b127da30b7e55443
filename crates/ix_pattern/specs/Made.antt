-- The pieces made so far, and how many capturing groups the pattern has.
use Rattle.std.specs.Prelude.{ℕ}
use Rattle.ix_pattern.specs.Rows.{Rows}

pub record Made : Type 0 where
  pub rows : Rows
  pub groups : ℕ
