use Rattle.ix_lines.proofs.stream.brought_up.Given as goal

-- the ledger of the blank one
abbrev pub ghosts-bring_up : goal.ghosts-bring_up
ghosts-bring_up a = record { name = a.blank.name; parts = a.blank.parts }
