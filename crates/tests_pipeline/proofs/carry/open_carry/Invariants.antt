use Rattle.tests_pipeline.proofs.carry.open_carry.Given as goal

-- the ledger of the blank one
abbrev pub ghosts-fed : goal.ghosts-fed
ghosts-fed a = record { name = a.blank.name; parts = a.blank.parts }
