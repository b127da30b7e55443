use Rattle.std.proofs.Common.{sym, subst}
use Rattle.ix_pattern.specs.Rows.{Shape}
use Rattle.ix_pikevm.specs.Finders.{IsFinder}
use Rattle.ix_pikevm.proofs.FinderLemmas.{same-finder}
use Rattle.ix_match.specs.Prefilters.{IsPrefilter}
use Rattle.ix_match.proofs.compiled.CompiledPattern.copy.Goals as goal

pub returns-clause-prepared : goal.returns-clause-prepared
returns-clause-prepared c =
    let now = c.args.self.now in
    record {
      prefilter = subst (λ (p : Shape). IsPrefilter p c.in_ok-prefilter.prefilter) (sym c.in_ok-pattern.ensures)
          (subst (IsPrefilter now.pattern) (sym c.in_ok-prefilter.ensures) c.requires.prefilter);
      program = subst (λ (p : Shape). IsFinder p.rows c.in_ok-program.program) (sym c.in_ok-pattern.ensures)
          (same-finder now.pattern.rows now.program c.in_ok-program.program c.in_ok-program.ensures c.requires.program);
    }
