use Rattle.std.proofs.Common.{rules, ◌≡◌, length, refl, ap, le_refl}
use Rattle.std.proofs.lemmas.List.{nil_from_length}
use Rattle.std.proofs.lemmas.Result.{IfOk-from_err}
use Rattle.ix_pikevm.specs.Leaf.{text_of}
use Rattle.ix_pikevm.specs.Plans.{Knows}
use Rattle.ix_pikevm.proofs.AgreeLemmas.{agrees-refl}
use Rattle.ix_pikevm.proofs.RunLemmas.{ends-none, ends-closed, ends-open}
use Rattle.ix_pikevm.proofs.run.last_round.Goals.{else-input-via-then-input+else-not-is_empty, else-input-via-else-input}
use Rattle.ix_pikevm.proofs.run.last_round.Goals as goal

pub returns-in_err-after : goal.returns-in_err-after
returns-in_err-after g c = record {
  head = IfOk-from_err c.from_residual.result _ c.from_residual.ensures.0;
  room = IfOk-from_err c.from_residual.result _ c.from_residual.ensures.0;
  counts = c.round.ensures.counts;
  grown = IfOk-from_err c.from_residual.result _ c.from_residual.ensures.0;
}

pub returns-then-not-is_empty : goal.returns-then-not-is_empty
returns-then-not-is_empty g c = record {
  head =
      let some : length c.round.new.room.main.ready.items ≡ 0 → ⊥ = search rules in
      λ start place g. ends-open (Knows c.args.plan) c.args.plan.code.now (text_of c.args.input) start place (length c.args.input.bytes.now)
      c.args.room.now.main.cells.items c.round.new.room.main.cells.items c.args.room.now.main.stack.items
      c.round.new.room.main.ready.items c.args.best c.in_ok-after.after
      (c.in_ok-after.ensures.rounds (text_of c.args.input)
      (agrees-refl (text_of c.args.input) (length c.args.input.bytes.now) (le_refl (length c.args.input.bytes.now)))
      (λ k ask got. refl)) c.in_ok-after.ensures.bytes refl c.if-input.true (λ e. some (ap length e)) g;
  room = c.in_ok-after.ensures.room;
  counts = c.round.ensures.counts;
  grown = c.in_ok-after.ensures.grown;
}

pub returns : goal.returns
returns g c = record {
  head = λ start place g. elim c.else-input.branch [
    | else-input-via-then-input+else-not-is_empty w ↦
        (let none : length c.round.new.room.main.ready.items ≡ 0 = search rules in
        ends-none (Knows c.args.plan) c.args.plan.code.now (text_of c.args.input) start place (length c.args.input.bytes.now)
        c.args.room.now.main.cells.items c.round.new.room.main.cells.items c.args.room.now.main.stack.items
        c.round.new.room.main.ready.items c.args.best c.in_ok-after.after
        (c.in_ok-after.ensures.rounds (text_of c.args.input)
        (agrees-refl (text_of c.args.input) (length c.args.input.bytes.now) (le_refl (length c.args.input.bytes.now)))
        (λ k ask got. refl)) (nil_from_length c.round.new.room.main.ready.items none) g)
    | else-input-via-else-input w ↦
        ends-closed (Knows c.args.plan) c.args.plan.code.now (text_of c.args.input) start place (length c.args.input.bytes.now)
        c.args.room.now.main.cells.items c.round.new.room.main.cells.items c.args.room.now.main.stack.items
        c.round.new.room.main.ready.items c.args.best c.in_ok-after.after
        (c.in_ok-after.ensures.rounds (text_of c.args.input)
        (agrees-refl (text_of c.args.input) (length c.args.input.bytes.now) (le_refl (length c.args.input.bytes.now)))
        (λ k ask got. refl)) c.in_ok-after.ensures.bytes refl w.if-input.false g
  ];
  room = c.in_ok-after.ensures.room;
  counts = c.round.ensures.counts;
  grown = c.in_ok-after.ensures.grown;
}
