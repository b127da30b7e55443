use Rattle.std.proofs.Common.{◌≡◌, true, rules}
use Rattle.ix_replay.proofs.Covered.{keeps}
use Rattle.ix_replay.proofs.tally.Tally.keeps.Goals as goal

pub returns : goal.returns
returns c =
    let few = c.if-not-are_within.false in
    let within : c.are_within.result ≡ true = search rules in
    let low = c.if-not-are_below.false in
    let below : c.are_below.result ≡ true = search rules in
    λ yes items covers are is. keeps c.args.self.now items c.args.removed.now c.args.next (c.are_within.ensures.bytes within)
    (c.are_within.ensures.events within) (c.are_within.ensures.channels within) (c.are_within.ensures.size within)
    (c.are_below.ensures below items covers.files) (c.spare.ensures yes items covers.files) covers are is
