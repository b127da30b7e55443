use Rattle.std.proofs.Common.{List, ◌<◌, ◌^◌, length, ap, arith}
use Rattle.ix_apply.proofs.settings.spot_item.Goals as goal

pub returns-clause-proper : goal.returns-clause-proper
returns-clause-proper c =
    let path : length c.in_ok-path.path < 2 ^ 32 = omega (arith, ap length c.in_ok-path.ensures, c.requires.path) in
    let head : length c.in_ok-head.head < 2 ^ 32 = omega (arith, ap length c.in_ok-head.ensures, c.requires.head) in
    record { writable = (path, head); in_range = c.number-offset.ensures.range }
