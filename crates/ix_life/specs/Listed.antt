-- How a set lists the indexes of merged entries.
pub use Rattle.ix_life.specs.Limits.{named, listed_with, listed_at, main_of, listed}
