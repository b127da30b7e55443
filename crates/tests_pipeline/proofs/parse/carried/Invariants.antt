use Rattle.tests_pipeline.proofs.parse.carried.Given as goal

-- the ledger of the blank one
abbrev pub ghosts-carry_on : goal.ghosts-carry_on
ghosts-carry_on a = record { name = a.blank.name; parts = a.blank.parts }
