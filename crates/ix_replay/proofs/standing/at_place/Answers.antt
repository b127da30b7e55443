use Rattle.std.proofs.Common.{[], sym, ◌∙◌}
use Rattle.ix_manifest.specs.Book.{named}
use Rattle.ix_replay.proofs.ListSteps.{stands_at}
use Rattle.ix_replay.proofs.standing.at_place.Goals as goal

pub returns-then-is_only : goal.returns-then-is_only
returns-then-is_only c = stands_at c.args.items.now c.args.at c.index-items-at.result (named c.args.kind [] 0) c.requires
    c.if-at-items.false c.index-items-at.is (sym c.is_only.ensures ∙ c.if-is_only.true)
