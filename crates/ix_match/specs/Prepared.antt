-- A pattern with all that a search for it needs.
use Rattle.ix_pikevm.specs.Finders.{IsFinder}
use Rattle.ix_match.specs.Prefilters.{IsPrefilter}
use Rattle.ix_match.specs.declared.compiled.CompiledPattern.{CompiledPattern}

-- all of it is of that pattern
pub record IsPrepared (prepared : CompiledPattern) : Type 0 where
  pub prefilter : IsPrefilter prepared.pattern prepared.prefilter
  pub program : IsFinder prepared.pattern.rows prepared.program
