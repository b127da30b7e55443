use Rattle.tests_pipeline.proofs.lines.run_from.Given as goal

-- the ledger of the blank one
abbrev pub ghosts-run_in : goal.ghosts-run_in
ghosts-run_in a = record { name = a.blank.name; parts = a.blank.parts }
