use Rattle.std.proofs.Common.{rules, ◌≡◌, ◌+◌, ◌*◌, ◌≤◌, length, sym, ap, subst, arith}
use Rattle.ix_pikevm.specs.Tidied.{IsBestAnew, AllNarrow, IsBestNarrow}
use Rattle.ix_pikevm.proofs.TidyLemmas.{anew-after, anew-known, tidies, times-more}
use Rattle.ix_pikevm.proofs.tidy.tidy.Goals as goal

pub returns-clause-tidies : goal.returns-clause-tidies
returns-clause-tidies c = λ code. tidies code c.args.work.now.cells.items c.args.work.now.stack.items c.args.best
    c.best_anew.new.cells.items c.in_ok-stack.stack.items c.in_ok-after.after
    (anew-after c.deref.result.now c.args.work.now.cells.items c.deref-2.result.now c.args.work.now.stack.items
    c.threads_anew.new.cells.items c.best_anew.new.cells.items c.in_ok-stack.stack.items
    c.deref.ensures.value c.deref-2.ensures.value c.in_ok-stack.ensures.threads c.in_ok-after.ensures.grown)
    (subst (λ l. IsBestAnew l c.args.best c.best_anew.new.cells.items c.in_ok-after.after) c.deref-3.ensures.value
    c.in_ok-after.ensures.best)

pub returns-clause-known : goal.returns-clause-known
returns-clause-known c = λ n. anew-known n (length c.args.work.now.cells.items) c.args.work.now.cells.items c.args.work.now.stack.items
    c.best_anew.new.cells.items c.in_ok-stack.stack.items
    (anew-after c.deref.result.now c.args.work.now.cells.items c.deref-2.result.now c.args.work.now.stack.items
    c.threads_anew.new.cells.items c.best_anew.new.cells.items c.in_ok-stack.stack.items
    c.deref.ensures.value c.deref-2.ensures.value c.in_ok-stack.ensures.threads c.in_ok-after.ensures.grown)

pub returns-clause-short : goal.returns-clause-short
returns-clause-short c = λ groups nested narrow best.
    let old = c.args.work.now.cells.items in
    let none : length c.new-cells.result.items ≡ 0 = search rules in
    let threads = c.in_ok-stack.ensures.short groups nested
    (subst (λ l. AllNarrow groups nested l c.deref-2.result.now) (sym c.deref.ensures.value)
    (subst (AllNarrow groups nested old) (sym c.deref-2.ensures.value) narrow)) in
    let count : length c.deref-2.result.now ≡ length c.args.work.now.stack.items = ap length c.deref-2.ensures.value in
    let fits = subst (λ n. length c.threads_anew.new.cells.items ≤ length c.new-cells.result.items + n * (2 * groups + nested)) count
    threads in
    let more = c.in_ok-after.ensures.short groups nested
    (subst (λ l. IsBestNarrow groups nested l c.args.best) (sym c.deref-3.ensures.value) best) in
    let on = times-more (length c.args.work.now.stack.items) (2 * groups + nested) in
    omega (arith, none, fits, more, on)
