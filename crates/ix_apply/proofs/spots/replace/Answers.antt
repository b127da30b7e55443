use Rattle.std.proofs.Common.{◌<◌, length, arith}
use Rattle.ix_catalog.proofs.Updates.{set_update}
use Rattle.ix_apply.specs.Spots.{put_over}
use Rattle.ix_apply.proofs.spots.replace.Goals as goal

pub returns : goal.returns
returns c =
    let xs = c.args.spots.now.items in
    let within : c.args.at < length xs = omega (arith, c.args.spots.now.ok.0, c.requires) in
    set_update c.args.at (put_over c.args.spot) xs c.args.spot within
