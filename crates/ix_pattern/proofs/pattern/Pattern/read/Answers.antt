use Rattle.ix_pattern.specs.Reads.{above}
use Rattle.ix_pattern.proofs.ParseLemmas.{parses-some}
use Rattle.ix_pattern.proofs.pattern.Pattern.read.Goals as goal

pub returns-clause-too_large : goal.returns-clause-too_large
returns-clause-too_large c =
    λ e.
    let r = parses-some c.args.text.now _ c.in-Some.reader c.in-Some.is c.in_ok-reader.ensures in
    above r.0 r.1.spelled (c.finish.ensures.too_large e r.0 r.1.came)
