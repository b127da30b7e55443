use Rattle.std.proofs.Common.{◌∙◌, ap, min, nat_lt, ◌&&◌, ◌||◌, not}
use Rattle.ix_pattern.specs.Piece.{count}
use Rattle.ix_pattern.specs.Rows.{piece_at}
use Rattle.ix_pattern.specs.Syntax.{least_of}
use Rattle.ix_pattern.proofs.PartLemmas.{count-part}
use Rattle.ix_pattern.proofs.parts.repeat.Goals as goal

pub returns-clause-meaning : goal.returns-clause-meaning
returns-clause-meaning c =
    λ p w i. count-part _ _ _ _ _ p w c.in_ok-piece.ensures.grew c.in_ok-piece.ensures.number.1
    (c.in_ok-piece.ensures.made
    ∙ ap (λ n. count (piece_at c.args.work.now.rows c.args.inside.piece) n c.most_of-most.result c.args.repeat.lazy)
    c.least_of-least.ensures
    ∙ ap (λ m. count (piece_at c.args.work.now.rows c.args.inside.piece) (least_of c.args.repeat.times) m c.args.repeat.lazy)
    c.most_of-most.ensures)
    (c.limited.ensures ∙ ap (λ n. min n 200001) c.times_weight.ensures)
    (ap (λ n. nat_lt 0 n && c.args.inside.takes) c.least_of-least.ensures)
    (ap (λ b. c.args.inside.repeats_empty || (b && not c.args.inside.takes)) c.is_unlimited.ensures)
    i
