use Rattle.std.proofs.Common.{sym, ◌∙◌, ap, inr, drop, ◌++◌}
use Rattle.std.proofs.lemmas.List.{take-append-drop}
use Rattle.ix_match.specs.Scans.{Scanned}
use Rattle.tests_pipeline.proofs.matching.note_two.Goals as goal

-- what was given is the front of the text
pub advance-requires-2-clause-goes_on : goal.advance-requires-2-clause-goes_on
advance-requires-2-clause-goes_on g c =
    let given = c.in_ok-before.ensures.given in
    inr (
      ap (λ (s : Scanned). s.before) given,
      (
        drop c.args.first c.args.text.now,
        sym (take-append-drop c.args.first c.args.text.now)
            ∙ ap (λ l. l ++ drop c.args.first c.args.text.now) (sym (ap (λ (s : Scanned). s.given) given)),
      ),
    )
