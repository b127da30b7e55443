use Rattle.std.proofs.Common.{rules, ◌≡◌, ◌+◌, ◌*◌, ◌<◌, ◌≤◌, get_or, true, false, length, sym, subst, arith}
use Rattle.ix_pikevm.specs.Leaf.{text_of}
use Rattle.ix_pikevm.proofs.SettleLemmas.{At, at-init, low-set, Acted, unmarked, popped-known, at-dropped, at-acted, at-stopped, at-end}
use Rattle.ix_pikevm.proofs.SettleLemmas.{acted-smaller, ready-known, none-left}
use Rattle.ix_pikevm.specs.Acts.{Puts}
use Rattle.ix_pikevm.proofs.settle.settle.Goals as goal

pub loop-thread-init : goal.loop-thread-init
loop-thread-init c =
    at-init c.args.code.now c.args.looks.now (text_of c.args.input) c.args.place c.args.cells.now.items c.args.stack.now.items
    c.args.ready.now.items c.args.stamp c.args.marks.now
    c.requires.known c.requires.empty c.requires.marks c.requires.unmarked

pub returns-clause-bytes : goal.returns-clause-bytes
returns-clause-bytes c = c.loop-thread.invariant.bytes

pub returns-clause-known : goal.returns-clause-known
returns-clause-known c = c.loop-thread.invariant.waits

pub returns-clause-marks : goal.returns-clause-marks
returns-clause-marks c = c.loop-thread.invariant.all

pub returns-clause-stamps : goal.returns-clause-stamps
returns-clause-stamps c = c.loop-thread.invariant.low

pub returns-clause-grown : goal.returns-clause-grown
returns-clause-grown c = c.loop-thread.invariant.grown

pub mark-requires : goal.mark-requires
mark-requires c =
    let k = popped-known _ _ _ _ _ _ _ _ _ _ _ _ _ c.in-Some.ensures.items c.loop-thread.invariant in
    omega (arith, k.0, c.loop-thread.invariant.all)

pub loop-thread-preserved-then-not-mark : goal.loop-thread-preserved-then-not-mark
loop-thread-preserved-then-not-mark c =
    let r : c.mark.result ≡ false = search rules in
    let e = c.mark.ensures.again r in
    subst (λ m. At c.args.code.now c.args.looks.now (text_of c.args.input) c.args.place c.args.cells.now.items c.args.stack.now.items
    c.args.stamp m c.loop-thread.cells.items c.loop-thread.ready.items c.pop.new.self.items) (sym e.1)
    (at-dropped _ _ _ _ _ _ _ _ _ _ _ _ _ c.in-Some.ensures.items e.0 c.loop-thread.invariant)

pub act_at-requires-clause-known : goal.act_at-requires-clause-known
act_at-requires-clause-known c = popped-known _ _ _ _ _ _ _ _ _ _ _ _ _ c.in-Some.ensures.items c.loop-thread.invariant

pub returns-in-Some-2-clause-settles : goal.returns-in-Some-2-clause-settles
returns-in-Some-2-clause-settles c =
    let act : Acted c.args.code.now c.args.looks.now (text_of c.args.input) c.args.place c.loop-thread.cells.items c.act_at.new.cells.items
    c.in-Some.thread c.in_ok-act.act =
    record {
      does = c.in_ok-act.ensures.does;
      known = c.in_ok-act.ensures.known;
      bytes = c.in_ok-act.ensures.bytes;
      grown = c.in_ok-act.ensures.grown;
    } in
    let put = subst (λ o. Puts c.in_ok-act.act c.in-Some.thread c.pop.new.self.items c.put.new.stack.items c.loop-thread.ready.items
    c.put.new.ready.items o) c.in-Some-2.is c.in_ok-best.ensures in
    at-stopped c.args.code.now c.args.looks.now (text_of c.args.input) c.args.place c.args.cells.now.items c.args.stack.now.items
    c.args.stamp c.loop-thread.marks c.loop-thread.cells.items c.act_at.new.cells.items
    c.loop-thread.ready.items c.put.new.ready.items c.loop-thread.stack.items c.pop.new.self.items c.put.new.stack.items c.in-Some.thread
    c.in_ok-act.act c.in-Some-2.best
    c.in-Some.ensures.items act put c.loop-thread.invariant

pub returns-in-Some-2-clause-known : goal.returns-in-Some-2-clause-known
returns-in-Some-2-clause-known c =
    let act : Acted c.args.code.now c.args.looks.now (text_of c.args.input) c.args.place c.loop-thread.cells.items c.act_at.new.cells.items
    c.in-Some.thread c.in_ok-act.act =
    record {
      does = c.in_ok-act.ensures.does;
      known = c.in_ok-act.ensures.known;
      bytes = c.in_ok-act.ensures.bytes;
      grown = c.in_ok-act.ensures.grown;
    } in
    ready-known c.args.code.now c.args.looks.now (text_of c.args.input) c.args.place c.args.cells.now.items c.args.stack.now.items
    c.args.stamp c.loop-thread.marks c.loop-thread.cells.items c.act_at.new.cells.items
    c.loop-thread.ready.items c.put.new.ready.items c.loop-thread.stack.items c.pop.new.self.items c.put.new.stack.items c.in-Some.thread
    c.in_ok-act.act _
    c.in-Some.ensures.items act c.in_ok-best.ensures c.loop-thread.invariant

pub returns-in-Some-2-clause-stamps : goal.returns-in-Some-2-clause-stamps
returns-in-Some-2-clause-stamps c = λ k.
    let r : c.mark.result ≡ true = search rules in
    let known = popped-known _ _ _ _ _ _ _ _ _ _ _ _ _ c.in-Some.ensures.items c.loop-thread.invariant in
    subst (λ marks. get_or marks k 0 ≤ c.args.stamp) (sym (c.mark.ensures.first r).1)
    (low-set c.loop-thread.marks c.in-Some.thread.pc c.args.stamp c.loop-thread.invariant.low
    (omega (arith, known.0, c.loop-thread.invariant.all)) k)

pub returns-in-Some-2-clause-empty : goal.returns-in-Some-2-clause-empty
returns-in-Some-2-clause-empty c = search rules

pub loop-thread-smaller : goal.loop-thread-smaller
loop-thread-smaller c =
    let r : c.mark.result ≡ true = search rules in
    let e = c.mark.ensures.first r in
    let k = popped-known _ _ _ _ _ _ _ _ _ _ _ _ _ c.in-Some.ensures.items c.loop-thread.invariant in
    subst (λ m. 2 * unmarked c.args.stamp m + length c.put.new.stack.items < 2 * unmarked c.args.stamp c.loop-thread.marks + length
    c.loop-thread.stack.items) (sym e.1)
    (acted-smaller c.loop-thread.marks c.args.stamp c.loop-thread.stack.items c.pop.new.self.items c.put.new.stack.items
    c.loop-thread.ready.items c.put.new.ready.items c.in-Some.thread c.in_ok-act.act _
    c.in-Some.ensures.items c.in_ok-best.ensures (omega (arith, k.0, c.loop-thread.invariant.all)) e.0)

pub loop-thread-preserved : goal.loop-thread-preserved
loop-thread-preserved c =
    let act : Acted c.args.code.now c.args.looks.now (text_of c.args.input) c.args.place c.loop-thread.cells.items c.act_at.new.cells.items
    c.in-Some.thread c.in_ok-act.act =
    record {
      does = c.in_ok-act.ensures.does;
      known = c.in_ok-act.ensures.known;
      bytes = c.in_ok-act.ensures.bytes;
      grown = c.in_ok-act.ensures.grown;
    } in
    let put = subst (λ o. Puts c.in_ok-act.act c.in-Some.thread c.pop.new.self.items c.put.new.stack.items c.loop-thread.ready.items
    c.put.new.ready.items o) c.in_default-2.is c.in_ok-best.ensures in
    let r : c.mark.result ≡ true = search rules in
    subst (λ m. At c.args.code.now c.args.looks.now (text_of c.args.input) c.args.place c.args.cells.now.items c.args.stack.now.items
    c.args.stamp m c.act_at.new.cells.items c.put.new.ready.items c.put.new.stack.items) (sym (c.mark.ensures.first r).1)
    (at-acted c.args.code.now c.args.looks.now (text_of c.args.input) c.args.place c.args.cells.now.items c.args.stack.now.items
    c.args.stamp c.loop-thread.marks c.loop-thread.cells.items c.act_at.new.cells.items
    c.loop-thread.ready.items c.put.new.ready.items c.loop-thread.stack.items c.pop.new.self.items c.put.new.stack.items c.in-Some.thread
    c.in_ok-act.act
    c.in-Some.ensures.items act put c.loop-thread.invariant)

pub returns-clause-settles : goal.returns-clause-settles
returns-clause-settles c = at-end _ _ _ _ _ _ _ _ _ _ _
    (none-left c.loop-thread.stack.items c.pop.new.self.items _ c.in_default.ensures.items c.in_default.ensures.rest
    c.in_default.ensures.cases.0) c.loop-thread.invariant
