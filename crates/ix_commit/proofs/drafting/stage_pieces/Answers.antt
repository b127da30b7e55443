use Rattle.std.proofs.Common.{take, sym, subst, refl, ◌∙◌}
use Rattle.ix_commit.specs.Contents.{Contents}
use Rattle.ix_commit.specs.Snapshot.{Stages}
use Rattle.ix_commit.specs.Drafts.{IsFit, with_piece, with_pieces}
use Rattle.ix_commit.proofs.Cutting.{grew_self, grew_on}
use Rattle.ix_commit.proofs.Steps.{pieces_more, fit_at}
use Rattle.ix_commit.proofs.drafting.stage_pieces.Goals as goal

pub loop-piece-init : goal.loop-piece-init
loop-piece-init c = record { staged = λ old new stages fit. stages; grew = grew_self c.args.committer.now; size = refl }

pub returns-in_err-push_piece-clause-grew : goal.returns-in_err-push_piece-clause-grew
returns-in_err-push_piece-clause-grew c = grew_on c.args.committer.now c.loop-piece.committer c.push_piece.new.self
    c.loop-piece.invariant.grew
    c.push_piece.ensures.grew

pub loop-piece-preserved : goal.loop-piece-preserved
loop-piece-preserved c =
    let piece = c.piece-item.result in
    let ps = c.args.pieces.now in
    let i = c.loop-piece.piece-index in
    let inv = c.loop-piece.invariant in
    record {
      staged = λ old new stages fit.
          let before = with_pieces (take i ps) new.contents in
          let is : IsFit before piece = subst (IsFit before) (sym c.piece-item.is)
          (fit_at new.contents ps i piece c.loop-piece-test.true fit) in
          let step = c.in_ok-push_piece.ensures.staged old (record { book = new.book; contents = before }) (inv.staged old new stages fit)
          is in
          subst (λ (s : Contents). Stages c.push_piece.new.self old (record { book = new.book; contents = s }))
          ((λ j. with_piece (c.piece-item.is j) before) ∙ sym (pieces_more ps i piece new.contents c.loop-piece-test.true))
          step;
      grew = grew_on c.args.committer.now c.loop-piece.committer c.push_piece.new.self inv.grew c.push_piece.ensures.grew;
      size = c.push_piece.ensures.size ∙ inv.size;
    }
