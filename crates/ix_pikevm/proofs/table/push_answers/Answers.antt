use Rattle.std.proofs.Common.{◌≡◌, suc, ◌+◌, ◌≤◌, length, take, sym, ◌∙◌, ap, subst, arith}
use Rattle.ix_pattern.specs.Piece.{in_set}
use Rattle.ix_pikevm.specs.Code.{set_in, sets_of}
use Rattle.ix_pikevm.specs.Ran.{Row}
use Rattle.ix_pattern.specs.Rows.{byte_pieces}
use Rattle.ix_pikevm.proofs.TableLemmas.{bytes-take, bytes-first}
use Rattle.ix_pikevm.proofs.RowLemmas.{row-none, row-more}
use Rattle.ix_pikevm.proofs.table.push_answers.Goals as goal

pub loop-piece-init : goal.loop-piece-init
loop-piece-init g c = record {
  row = row-none c.args.answers.now.items (sets_of c.args.p.now.rows) c.args.byte;
  counted = omega arith;
  later = omega arith;
}

pub loop-piece-preserved : goal.loop-piece-preserved
loop-piece-preserved g c =
    record {
      row = row-more c.args.answers.now.items c.loop-piece.answers.items c.push.new.self.items c.loop-piece.piece
          (sets_of c.args.p.now.rows) c.args.byte c.takes-answer.result
          c.loop-piece.invariant.row c.in_ok-push.ensures.items c.takes-answer.ensures.taken;
      counted = (let more = bytes-take c.args.p.now.rows c.loop-piece.piece in
          let next : suc c.loop-piece.piece ≡ c.loop-piece.piece + 1 = omega arith in
          subst (λ n. c.takes-answer.new.steps ≤ c.args.steps.now + byte_pieces (take n c.args.p.now.rows)) next
          (omega (arith, more, c.loop-piece.invariant.counted, c.takes-answer.ensures.counted)));
      later = omega (arith, c.loop-piece.invariant.later, c.takes-answer.ensures.later);
    }

pub returns : goal.returns
returns g c =
    let n : c.loop-piece.piece + 1 ≡ length c.args.p.now.rows = omega (arith, c.root-root.ensures.last) in
    let r : c.loop-piece.piece ≡ c.root-root.result = omega arith in
    record {
      row = subst (λ k. Row c.args.answers.now.items c.push-2.new.self.items k (sets_of c.args.p.now.rows) c.args.byte) n
          (row-more c.args.answers.now.items c.loop-piece.answers.items c.push-2.new.self.items c.loop-piece.piece
          (sets_of c.args.p.now.rows) c.args.byte c.takes-answer-2.result
          c.loop-piece.invariant.row c.in_ok-push-2.ensures.items (c.takes-answer-2.ensures.taken
          ∙ ap (λ k. in_set (set_in (sets_of c.args.p.now.rows) k) c.args.byte) (sym r)));
      counted = (let more = bytes-take c.args.p.now.rows c.root-root.result in
          let all = bytes-first (suc c.root-root.result) c.args.p.now.rows in
          let old = subst (λ k. c.loop-piece.steps ≤ c.args.steps.now + byte_pieces (take k c.args.p.now.rows)) r
          c.loop-piece.invariant.counted in
          omega (arith, more, all, old, c.takes-answer-2.ensures.counted));
      later = omega (arith, c.loop-piece.invariant.later, c.takes-answer-2.ensures.later);
    }
