use Rattle.std.proofs.Common.{List, ap, sym, ◌∙◌, None}
use Rattle.ix_base.specs.declared.events.Line.{Line}
use Rattle.ix_parse.specs.Reading.{fit}
use Rattle.ix_parse.proofs.Runs.{runs_found, runs_of_fit}
use Rattle.ix_parse.proofs.reading.read_runs.Goals as goal

pub returns-then-fit-clause-found : goal.returns-then-fit-clause-found
returns-then-fit-clause-found c =
    let found = c.in_ok-runs.ensures.found in (
      runs_found c.in_ok-runs.runs c.args.bytes.now c.in_ok-count.count c.in_ok-count.rest.now c.in_ok-runs.rest.now
          c.in_ok-count.ensures.found found.1 found.0,
      runs_of_fit c.in_ok-runs.runs found.2 (ap (λ (l : List Line). fit None 16383 l) (sym c.as_slice.ensures) ∙ sym c.fit.ensures
          ∙ c.if-fit.true),
    )
