use Rattle.std.proofs.Common.{refl}
use Rattle.ix_pattern.specs.Syntax.{leaf_piece, pieces, weights}
use Rattle.ix_pattern.proofs.PartLemmas.{lift-optional}
use Rattle.ix_pattern.proofs.FrameLemmas.{leaf-frame}
use Rattle.ix_pattern.proofs.reader.with_leaf.Goals as goal

pub returns-clause-meaning : goal.returns-clause-meaning
returns-clause-meaning c =
    λ n times s f.
    leaf-frame c.args.work.now c.leaf.new.work c.before-2.new.work c.args.here _ c.in_ok-part-2.part n times s c.args.piece c.is_high.result
    c.in_ok-part.ensures.grew f refl refl refl refl refl refl c.is_high.ensures
    (c.in_ok-part-2.ensures.meaning (leaf_piece c.args.piece) 1 (pieces n s).first (weights s).first c.in_ok-part.ensures.added
    (lift-optional c.args.work.now c.leaf.new.work c.args.here.sequence (pieces n s).first (weights s).first c.in_ok-part.ensures.grew
    f.first))
