use Rattle.tests_pipeline.proofs.matching.attempt.Given as goal

-- the ledger of the blank one
abbrev pub ghosts-attempt_in : goal.ghosts-attempt_in
ghosts-attempt_in a = record { name = a.blank.name; parts = a.blank.parts }
