use Rattle.std.proofs.Common.{rules, ◌≡◌, length, refl, ap, le_refl}
use Rattle.std.proofs.lemmas.List.{nil_from_length}
use Rattle.std.proofs.lemmas.Result.{IfOk-from_err}
use Rattle.ix_pikevm.specs.Leaf.{text_of}
use Rattle.ix_pikevm.specs.Ran.{IsOf}
use Rattle.ix_pikevm.proofs.AgreeLemmas.{agrees-refl}
use Rattle.ix_pikevm.proofs.RunLemmas.{ends-none, ends-closed, ends-open}
use Rattle.ix_pikevm.proofs.plain.last_round.Goals.{else-input-via-then-input+else-not-is_empty, else-input-via-else-input}
use Rattle.ix_pikevm.proofs.plain.last_round.Goals as goal

pub returns-in_err-after : goal.returns-in_err-after
returns-in_err-after c = record {
  head = IfOk-from_err c.from_residual.result _ c.from_residual.ensures.0;
  marks = IfOk-from_err c.from_residual.result _ c.from_residual.ensures.0;
  grown = IfOk-from_err c.from_residual.result _ c.from_residual.ensures.0;
}

pub returns-then-not-is_empty : goal.returns-then-not-is_empty
returns-then-not-is_empty c = record {
  head =
      let some : length c.round.new.work.ready.items ≡ 0 → ⊥ = search rules in
      λ pattern start place g. ends-open (IsOf pattern) c.args.code.now (text_of c.args.input) start place (length c.args.input.bytes.now)
      c.args.work.now.cells.items c.round.new.work.cells.items c.args.work.now.stack.items c.round.new.work.ready.items c.args.best
      c.in_ok-after.after
      (c.in_ok-after.ensures.rounds (text_of c.args.input)
      (agrees-refl (text_of c.args.input) (length c.args.input.bytes.now) (le_refl (length c.args.input.bytes.now))) pattern)
      c.in_ok-after.ensures.bytes refl c.if-input.true (λ e. some (ap length e)) g;
  marks = c.in_ok-after.ensures.marks;
  grown = c.in_ok-after.ensures.grown;
}

pub returns : goal.returns
returns c = record {
  head = λ pattern start place g. elim c.else-input.branch [
    | else-input-via-then-input+else-not-is_empty w ↦
        (let none : length c.round.new.work.ready.items ≡ 0 = search rules in
        ends-none (IsOf pattern) c.args.code.now (text_of c.args.input) start place (length c.args.input.bytes.now)
        c.args.work.now.cells.items c.round.new.work.cells.items c.args.work.now.stack.items c.round.new.work.ready.items c.args.best
        c.in_ok-after.after
        (c.in_ok-after.ensures.rounds (text_of c.args.input)
        (agrees-refl (text_of c.args.input) (length c.args.input.bytes.now) (le_refl (length c.args.input.bytes.now))) pattern)
        (nil_from_length c.round.new.work.ready.items none) g)
    | else-input-via-else-input w ↦
        ends-closed (IsOf pattern) c.args.code.now (text_of c.args.input) start place (length c.args.input.bytes.now)
        c.args.work.now.cells.items c.round.new.work.cells.items c.args.work.now.stack.items c.round.new.work.ready.items c.args.best
        c.in_ok-after.after
        (c.in_ok-after.ensures.rounds (text_of c.args.input)
        (agrees-refl (text_of c.args.input) (length c.args.input.bytes.now) (le_refl (length c.args.input.bytes.now))) pattern)
        c.in_ok-after.ensures.bytes refl w.if-input.false g
  ];
  marks = c.in_ok-after.ensures.marks;
  grown = c.in_ok-after.ensures.grown;
}
