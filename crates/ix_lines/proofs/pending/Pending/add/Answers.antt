use Rattle.std.proofs.Common.{◌∙◌, ◌++◌, ap, length, replicate}
use Rattle.std.proofs.Math.Facts.{to_z-of_z}
use Rattle.ix_lines.specs.Moments.{moments_of}
use Rattle.ix_lines.proofs.Answering.{map-ok}
use Rattle.ix_lines.proofs.Feeding.{all-is}
use Rattle.ix_lines.proofs.pending.Pending.add.Goals as goal

pub returns-clause-added : goal.returns-clause-added
returns-clause-added c = map-ok c.extend.result c.extend.ensures.ok (λ e.
    let ms = moments_of c.args.self.now.runs.items in
    all-is c.args.self.now.bytes c.args.bytes.now _ ms _ c.args.moment e
    (c.in_ok-add_moments.ensures ∙ ap (λ z. ms ++ replicate (length c.args.bytes.now) z) (to_z-of_z c.ranges.moment)) c.requires)
