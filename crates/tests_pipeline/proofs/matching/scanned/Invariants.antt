use Rattle.tests_pipeline.proofs.matching.scanned.Given as goal

-- the ledger of the blank one
abbrev pub ghosts-scanned_in : goal.ghosts-scanned_in
ghosts-scanned_in a = record { name = a.blank.name; parts = a.blank.parts }
