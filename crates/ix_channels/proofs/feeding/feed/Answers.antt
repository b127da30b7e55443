use Rattle.std.proofs.Common.{w64, SFits}
use Rattle.std.proofs.lemmas.Int.{to_z-of_z}
use Rattle.ix_channels.proofs.feeding.feed.Goals as goal

pub returns-clause-takes : goal.returns-clause-takes
returns-clause-takes c = λ settings meta stream stands.
    let f : SFits w64 c.args.moment = c.ranges.moment in
    simp to_z-of_z at (c.in_ok-fed.ensures.takes settings meta stream stands)
