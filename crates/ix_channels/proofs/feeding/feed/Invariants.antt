use Rattle.ix_channels.proofs.feeding.feed.Given as goal

abbrev pub ghosts-counted_feed : goal.ghosts-counted_feed
ghosts-counted_feed a = record { name = a.blank.name; parts = a.blank.parts }
