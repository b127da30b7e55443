use Rattle.ix_match.proofs.prefilter.Prefilter.of.Given as goal

-- the ledger of the blank one
abbrev pub ghosts-prefilter_uncounted : goal.ghosts-prefilter_uncounted
ghosts-prefilter_uncounted a = record { name = a.blank.name; parts = a.blank.parts }
