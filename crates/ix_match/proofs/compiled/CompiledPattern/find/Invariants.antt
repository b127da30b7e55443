use Rattle.ix_match.proofs.compiled.CompiledPattern.find.Given as goal

-- the ledger of the blank one
abbrev pub ghosts-find_uncounted : goal.ghosts-find_uncounted
ghosts-find_uncounted a = record { name = a.blank.name; parts = a.blank.parts }
