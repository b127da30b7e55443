use Rattle.std.proofs.Common.{◌≡◌, ◌+◌, ◌-◌, nat_lt, true, false, if◌then◌else◌, [], ◌∷◌, ◌++◌, sym, ◌∙◌, ap, arith, append_assoc}
use Rattle.std.proofs.lemmas.List.{append-nil}
use Rattle.ix_pikevm.specs.Code.{history}
use Rattle.ix_pikevm.proofs.HistoryLemmas.{history-at, history-past}
use Rattle.ix_backtrack.proofs.outcome.events_of.Goals.{then-loop-at-test+else-at-cells, else-loop-at-test}
use Rattle.ix_backtrack.proofs.outcome.events_of.Goals as goal

pub loop-at-preserved-then-cell-at : goal.loop-at-preserved-then-cell-at
loop-at-preserved-then-cell-at c =
    let t : c.loop-at.at ≡ (c.loop-at.at - 1) + 1 = omega arith in
    let lt : nat_lt c.cell_at-cell.result.earlier c.loop-at.at ≡ true = grind (arith, c.if-cell-at.true) in
    c.loop-at.invariant
    ∙ ap (λ l. c.loop-at.events.items ++ l) (history-at c.args.cells.now (c.loop-at.at - 1) c.loop-at.at c.cell_at-cell.result
    c.cell_at-cell.ensures t
    ∙ ap (λ b. c.cell_at-cell.result.event ∷ history c.args.cells.now (if b then c.cell_at-cell.result.earlier else 0)) lt)
    ∙ sym (append_assoc c.loop-at.events.items (c.cell_at-cell.result.event ∷ []) (history c.args.cells.now c.cell_at-cell.result.earlier))
    ∙ ap (λ l. l ++ history c.args.cells.now c.cell_at-cell.result.earlier) (sym c.in_ok-push.ensures.items)

pub loop-at-preserved : goal.loop-at-preserved
loop-at-preserved c =
    let t : c.loop-at.at ≡ (c.loop-at.at - 1) + 1 = omega arith in
    let lt : nat_lt c.cell_at-cell.result.earlier c.loop-at.at ≡ false = grind (arith, c.if-cell-at.false) in
    c.loop-at.invariant
    ∙ ap (λ l. c.loop-at.events.items ++ l) (history-at c.args.cells.now (c.loop-at.at - 1) c.loop-at.at c.cell_at-cell.result
    c.cell_at-cell.ensures t
    ∙ ap (λ b. c.cell_at-cell.result.event ∷ history c.args.cells.now (if b then c.cell_at-cell.result.earlier else 0)) lt)
    ∙ sym (append_assoc c.loop-at.events.items (c.cell_at-cell.result.event ∷ []) (history c.args.cells.now 0))
    ∙ ap (λ l. l ++ history c.args.cells.now 0) (sym c.in_ok-push.ensures.items)

pub returns : goal.returns
returns c =
    elim c.loop-at-test.branch [
      | then-loop-at-test+else-at-cells w ↦
          sym (c.loop-at.invariant ∙ ap (λ l. c.loop-at.events.items
          ++ l) (history-past c.args.cells.now c.loop-at.at (omega (arith, w.if-at-cells.false))) ∙ append-nil c.loop-at.events.items)
      | else-loop-at-test w ↦
          (let z : c.loop-at.at ≡ 0 = omega (arith, w.loop-at-test.false) in
          sym (c.loop-at.invariant ∙ ap (λ k. c.loop-at.events.items ++ history c.args.cells.now k) z ∙ append-nil c.loop-at.events.items))
    ]
