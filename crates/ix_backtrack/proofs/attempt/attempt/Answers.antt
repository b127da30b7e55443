use Rattle.std.proofs.Common.{rules, ◌≡◌, ℕ, ◌<◌, ◌≤◌, [], Some, None, length, refl, sym, ◌∙◌, ap, subst, le_refl, arith}
use Rattle.std.proofs.lemmas.Result.{IfOk-from_err}
use Rattle.ix_pikevm.specs.declared.cells.Best.{Best}
use Rattle.ix_pikevm.specs.Leaf.{text_of}
use Rattle.ix_backtrack.specs.Frames.{AreFrames, Turns, IsTurn}
use Rattle.ix_backtrack.specs.Tried.{Settled}
use Rattle.ix_backtrack.specs.declared.attempt.BacktrackOutcome.{BacktrackOutcome}
use Rattle.ix_backtrack.proofs.FrameLemmas.{frames-pushed, frames-popped, frames-later, goes-grown, goes-on, goes-fork, goes-back}
use Rattle.ix_backtrack.proofs.FrameLemmas.{ends-here, ends-edge, ends-none, grown-more}
use Rattle.ix_backtrack.proofs.attempt.attempt.Goals as goal

no-best : (best : Best) → Some best ≡ None → ⊥
no-best best is = cc

came-spent : (t : BacktrackOutcome) (best : Best) (taken limit : ℕ) → t ≡ record { best = Some best; taken = taken } → t.best ≡ None →
    t.taken ≡ limit
came-spent t best taken limit is none = absurd (no-best best (sym (ap (λ (u : BacktrackOutcome). u.best) is) ∙ none))

came-within : (t : BacktrackOutcome) (best : Best) (taken limit : ℕ) → t ≡ record { best = Some best; taken = taken } → taken < limit →
    t.taken ≤ limit
came-within t best taken limit is less = subst (λ (u : BacktrackOutcome). u.taken ≤ limit) (sym is) (omega arith)

pub loop-taken-preserved-in-On : goal.loop-taken-preserved-in-On
loop-taken-preserved-in-On g c =
    let turns = subst (Turns c.args.code.now c.args.p.now.rows (text_of c.args.input) c.turn.new.cells.items c.loop-taken.frame) c.in-On.is
    c.in_ok-next.ensures.turns in
    let known = subst (IsTurn (length c.args.code.now) (length c.turn.new.cells.items) (length c.args.input.bytes.now)) c.in-On.is
    c.in_ok-next.ensures.known in
    let goes = goes-grown c.args.code.now c.args.p.now.rows (text_of c.args.input) c.args.start c.args.place c.loop-taken.cells.items
    c.turn.new.cells.items c.loop-taken.frame c.loop-taken.stack.items c.in_ok-next.ensures.grown c.loop-taken.invariant.goes in
    let stack = frames-later (length c.args.code.now) (length c.loop-taken.cells.items) (length c.turn.new.cells.items)
    (length c.args.input.bytes.now) c.loop-taken.stack.items (grown-more c.in_ok-next.ensures.grown) c.loop-taken.invariant.stack in
    record {
      goes = goes-on c.args.code.now c.args.p.now.rows (text_of c.args.input) c.args.start c.args.place c.turn.new.cells.items
          c.loop-taken.frame c.in-On.next c.loop-taken.stack.items turns goes;
      frame = known;
      stack = stack;
    }

pub loop-taken-preserved-in-Fork : goal.loop-taken-preserved-in-Fork
loop-taken-preserved-in-Fork g c =
    let turns = subst (Turns c.args.code.now c.args.p.now.rows (text_of c.args.input) c.turn.new.cells.items c.loop-taken.frame)
    c.in-Fork.is c.in_ok-next.ensures.turns in
    let known = subst (IsTurn (length c.args.code.now) (length c.turn.new.cells.items) (length c.args.input.bytes.now)) c.in-Fork.is
    c.in_ok-next.ensures.known in
    let goes = goes-grown c.args.code.now c.args.p.now.rows (text_of c.args.input) c.args.start c.args.place c.loop-taken.cells.items
    c.turn.new.cells.items c.loop-taken.frame c.loop-taken.stack.items c.in_ok-next.ensures.grown c.loop-taken.invariant.goes in
    let stack = frames-later (length c.args.code.now) (length c.loop-taken.cells.items) (length c.turn.new.cells.items)
    (length c.args.input.bytes.now) c.loop-taken.stack.items (grown-more c.in_ok-next.ensures.grown) c.loop-taken.invariant.stack in
    record {
      goes = goes-fork c.args.code.now c.args.p.now.rows (text_of c.args.input) c.args.start c.args.place c.turn.new.cells.items
          c.loop-taken.frame c.in-Fork.first c.in-Fork.other c.loop-taken.stack.items c.put_off.new.stack.items
          c.in_ok-put_off-in-Fork.ensures turns goes;
      frame = known.0;
      stack = subst (AreFrames (length c.args.code.now) (length c.turn.new.cells.items) (length c.args.input.bytes.now))
          (sym c.in_ok-put_off-in-Fork.ensures) (frames-pushed (length c.args.code.now) (length c.turn.new.cells.items)
          (length c.args.input.bytes.now) c.loop-taken.stack.items c.in-Fork.other stack known.1);
    }

pub loop-taken-preserved : goal.loop-taken-preserved
loop-taken-preserved g c =
    let turns = subst (Turns c.args.code.now c.args.p.now.rows (text_of c.args.input) c.turn.new.cells.items c.loop-taken.frame)
    c.in-Back.is c.in_ok-next.ensures.turns in
    let goes = goes-grown c.args.code.now c.args.p.now.rows (text_of c.args.input) c.args.start c.args.place c.loop-taken.cells.items
    c.turn.new.cells.items c.loop-taken.frame c.loop-taken.stack.items c.in_ok-next.ensures.grown c.loop-taken.invariant.goes in
    let stack = frames-later (length c.args.code.now) (length c.loop-taken.cells.items) (length c.turn.new.cells.items)
    (length c.args.input.bytes.now) c.loop-taken.stack.items (grown-more c.in_ok-next.ensures.grown) c.loop-taken.invariant.stack in
    let popped = frames-popped (length c.args.code.now) (length c.turn.new.cells.items) (length c.args.input.bytes.now) c.pop.new.self.items
    c.in-Some.next (subst (AreFrames (length c.args.code.now) (length c.turn.new.cells.items) (length c.args.input.bytes.now))
    c.in-Some.ensures.items stack) in
    record {
      goes = goes-back c.args.code.now c.args.p.now.rows (text_of c.args.input) c.args.start c.args.place c.turn.new.cells.items
          c.loop-taken.frame c.in-Some.next c.loop-taken.stack.items c.pop.new.self.items c.in-Some.ensures.items turns goes;
      frame =
          popped.1;
      stack = popped.0;
    }

pub returns-in-None : goal.returns-in-None
returns-in-None g c = record {
  settled =
      let turns = subst (Turns c.args.code.now c.args.p.now.rows (text_of c.args.input) c.turn.new.cells.items c.loop-taken.frame)
      c.in-Back.is c.in_ok-next.ensures.turns in
      let goes = goes-grown c.args.code.now c.args.p.now.rows (text_of c.args.input) c.args.start c.args.place c.loop-taken.cells.items
      c.turn.new.cells.items c.loop-taken.frame c.loop-taken.stack.items c.in_ok-next.ensures.grown c.loop-taken.invariant.goes in
      let none : c.loop-taken.stack.items ≡ [] = search rules in
      subst (λ (t : BacktrackOutcome). Settled c.args.p.now.rows c.args.code.now (text_of c.args.input) c.args.start c.args.place
      c.turn.new.cells.items t.best) (sym c.came_to.ensures)
      (ends-none c.args.code.now c.args.p.now.rows (text_of c.args.input) c.args.start c.args.place c.turn.new.cells.items
      c.loop-taken.frame c.loop-taken.stack.items none turns goes);
  spent = came-spent c.came_to.result _ _ c.args.limit c.came_to.ensures;
  within = came-within c.came_to.result _ _ c.args.limit c.came_to.ensures c.loop-taken-test.true;
}

pub returns-in-End : goal.returns-in-End
returns-in-End g c = record {
  settled =
      let turns = subst (Turns c.args.code.now c.args.p.now.rows (text_of c.args.input) c.turn.new.cells.items c.loop-taken.frame)
      c.in-End.is c.in_ok-next.ensures.turns in
      let goes = goes-grown c.args.code.now c.args.p.now.rows (text_of c.args.input) c.args.start c.args.place c.loop-taken.cells.items
      c.turn.new.cells.items c.loop-taken.frame c.loop-taken.stack.items c.in_ok-next.ensures.grown c.loop-taken.invariant.goes in
      subst (λ (t : BacktrackOutcome). Settled c.args.p.now.rows c.args.code.now (text_of c.args.input) c.args.start c.args.place
      c.turn.new.cells.items t.best) (sym c.came_to-in-End.ensures)
      (ends-here c.args.code.now c.args.p.now.rows (text_of c.args.input) c.args.start c.args.place c.turn.new.cells.items
      c.loop-taken.frame c.loop-taken.stack.items turns goes);
  spent = came-spent c.came_to-in-End.result _ _ c.args.limit c.came_to-in-End.ensures;
  within = came-within c.came_to-in-End.result _ _ c.args.limit c.came_to-in-End.ensures c.loop-taken-test.true;
}

pub returns-in-Edge : goal.returns-in-Edge
returns-in-Edge g c = record {
  settled =
      let turns = subst (Turns c.args.code.now c.args.p.now.rows (text_of c.args.input) c.turn.new.cells.items c.loop-taken.frame)
      c.in-Edge.is c.in_ok-next.ensures.turns in
      let goes = goes-grown c.args.code.now c.args.p.now.rows (text_of c.args.input) c.args.start c.args.place c.loop-taken.cells.items
      c.turn.new.cells.items c.loop-taken.frame c.loop-taken.stack.items c.in_ok-next.ensures.grown c.loop-taken.invariant.goes in
      subst (λ (t : BacktrackOutcome). Settled c.args.p.now.rows c.args.code.now (text_of c.args.input) c.args.start c.args.place
      c.turn.new.cells.items t.best) (sym c.came_to-in-Edge.ensures)
      (ends-edge c.args.code.now c.args.p.now.rows (text_of c.args.input) c.args.start c.args.place c.turn.new.cells.items
      c.loop-taken.frame c.loop-taken.stack.items turns goes);
  spent = came-spent c.came_to-in-Edge.result _ _ c.args.limit c.came_to-in-Edge.ensures;
  within = came-within c.came_to-in-Edge.result _ _ c.args.limit c.came_to-in-Edge.ensures c.loop-taken-test.true;
}

pub returns : goal.returns
returns g c = record {
  settled = tt;
  spent = λ none. refl;
  within = le_refl c.args.limit;
}

pub returns-in_err-next : goal.returns-in_err-next
returns-in_err-next g c = record {
  settled = IfOk-from_err c.from_residual.result _ c.from_residual.ensures.0;
  spent = IfOk-from_err c.from_residual.result _ c.from_residual.ensures.0;
  within = IfOk-from_err c.from_residual.result _ c.from_residual.ensures.0;
}

pub returns-in_err-put_off-in-Fork : goal.returns-in_err-put_off-in-Fork
returns-in_err-put_off-in-Fork g c = record {
  settled = IfOk-from_err c.from_residual-in_err-put_off-in-Fork.result _ c.from_residual-in_err-put_off-in-Fork.ensures.0;
  spent = IfOk-from_err c.from_residual-in_err-put_off-in-Fork.result _ c.from_residual-in_err-put_off-in-Fork.ensures.0;
  within = IfOk-from_err c.from_residual-in_err-put_off-in-Fork.result _ c.from_residual-in_err-put_off-in-Fork.ensures.0;
}
