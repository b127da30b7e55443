use Rattle.std.proofs.Common.{refl, None, ◌+◌, rules}
use Rattle.ix_pattern.specs.Syntax.{pieces, weights, groups, whole, whole_weight, paren_piece, paren_weight}
use Rattle.ix_pattern.proofs.PartLemmas.{lift-optional, Grew-then}
use Rattle.ix_pattern.proofs.FrameLemmas.{paren-frame}
use Rattle.ix_pattern.proofs.reader.with_parentheses.Goals as goal

pub returns-clause-meaning : goal.returns-clause-meaning
returns-clause-meaning c =
    λ n times within s e fi f.
    let grew = Grew-then c.args.work.now c.whole.new.work c.parenthesis.new.work c.in_ok-part.ensures.kept.0 c.in_ok-part-2.ensures.kept.0
    in
    paren-frame c.args.work.now c.parenthesis.new.work c.before-2.new.work c.args.here c.args.inside _ c.in_ok-part-3.part n c.args.number
    times within s
    c.args.opening c.is_high.result c.is_plain_opening.result e grew fi f refl refl refl refl c.is_plain_opening.ensures
    (search rules)
    refl c.is_high.ensures
    (c.in_ok-part-3.ensures.meaning
    (paren_piece c.args.opening c.args.number (whole (pieces c.args.number within)))
    (paren_weight c.args.opening (whole_weight (weights within)))
    (pieces (c.args.number + groups within) s).first (weights s).first
    (c.in_ok-part-2.ensures.meaning (whole (pieces c.args.number within)) (whole_weight (weights within))
    (c.in_ok-part.ensures.meaning c.args.number within None fi).added).added
    (lift-optional c.args.work.now c.parenthesis.new.work c.args.here.sequence (pieces (c.args.number + groups within) s).first
    (weights s).first grew f.first))
