use Rattle.std.proofs.Common.{sym, subst}
use Rattle.ix_match.specs.Fronts.{Came}
use Rattle.ix_match.proofs.FrontLemmas.{Going, go-init, go-byte, go-empty, go-inside, go-sequence, end-sequence, go-choice}
use Rattle.ix_match.proofs.first_pieces.+fronts.Goals as goal

pub loop-pieces-init : goal.loop-pieces-init
loop-pieces-init t c = go-init c.args.p.now.rows c.args.piece c.args.pieces.now.items

pub returns-in-Byte : goal.returns-in-Byte
returns-in-Byte t c =
    go-byte c.args.p.now.rows c.args.piece c.args.pieces.now.items c.loop-pieces.passes c.loop-pieces.at c.loop-pieces.pieces.items
    c.push.new.self.items
    c.in-Byte.ensures c.in_ok-push-in-Byte.ensures.items c.loop-pieces.invariant

pub returns-in-Empty : goal.returns-in-Empty
returns-in-Empty t c =
    go-empty c.args.p.now.rows c.args.piece c.args.pieces.now.items c.loop-pieces.passes c.loop-pieces.at c.loop-pieces.pieces.items
    c.in-Empty.ensures c.loop-pieces.invariant

pub returns-then-not-branch : goal.returns-then-not-branch
returns-then-not-branch t c =
    end-sequence c.args.p.now.rows c.args.piece c.args.pieces.now.items c.loop-pieces.passes c.loop-pieces.at c.loop-pieces.pieces.items
    c.add_fronts.new.pieces.items c.in-Sequence.first c.in-Sequence.rest
    c.in-Sequence.ensures
    (subst (λ b. Came c.args.p.now.rows c.in-Sequence.first c.loop-pieces.pieces.items b c.add_fronts.new.pieces.items) c.if-not-branch.true
    c.in_ok-add_fronts-in-Sequence.ensures) c.loop-pieces.invariant

pub loop-pieces-preserved-in-Sequence : goal.loop-pieces-preserved-in-Sequence
loop-pieces-preserved-in-Sequence t c =
    go-sequence c.args.p.now.rows c.args.piece c.args.pieces.now.items c.loop-pieces.passes c.loop-pieces.at c.loop-pieces.pieces.items
    c.add_fronts.new.pieces.items c.in-Sequence.first c.in-Sequence.rest
    c.in-Sequence.ensures
    (subst (λ b. Came c.args.p.now.rows c.in-Sequence.first c.loop-pieces.pieces.items b c.add_fronts.new.pieces.items)
    c.if-not-branch.false c.in_ok-add_fronts-in-Sequence.ensures) c.loop-pieces.invariant

pub loop-pieces-preserved-in-Inside : goal.loop-pieces-preserved-in-Inside
loop-pieces-preserved-in-Inside t c =
    subst (λ b. Going c.args.p.now.rows c.args.piece c.args.pieces.now.items b c.in-Inside.inside c.loop-pieces.pieces.items)
    (sym c.or-passes.ensures)
    (go-inside c.args.p.now.rows c.args.piece c.args.pieces.now.items c.loop-pieces.passes c.loop-pieces.at c.loop-pieces.pieces.items
    c.in-Inside.inside c.in-Inside.empty c.in-Inside.ensures c.loop-pieces.invariant)

pub loop-pieces-preserved : goal.loop-pieces-preserved
loop-pieces-preserved t c =
    subst (λ b. Going c.args.p.now.rows c.args.piece c.args.pieces.now.items b c.in-Choice.other c.add_fronts-in-Choice.new.pieces.items)
    (sym c.or-passes-in-Choice.ensures)
    (go-choice c.args.p.now.rows c.args.piece c.args.pieces.now.items c.loop-pieces.passes c.loop-pieces.at c.loop-pieces.pieces.items
    c.add_fronts-in-Choice.new.pieces.items c.in-Choice.first c.in-Choice.other c.in_ok-empty-in-Choice.empty
    c.in-Choice.ensures c.in_ok-empty-in-Choice.ensures c.loop-pieces.invariant)
