use Rattle.ix_parse.proofs.channel.Channel.ended.Given as goal

abbrev pub ghosts-last_lines : goal.ghosts-last_lines
ghosts-last_lines a = record { name = a.blank.name; parts = a.blank.parts }
