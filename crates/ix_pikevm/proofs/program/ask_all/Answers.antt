use Rattle.std.proofs.Common.{◌≡◌, length, subst, arith}
use Rattle.ix_pikevm.specs.Written.{IsCollected}
use Rattle.ix_pikevm.proofs.AskLemmas.{collecting-first, collected-more}
use Rattle.ix_pikevm.proofs.program.ask_all.Goals as goal

pub loop-pc-init : goal.loop-pc-init
loop-pc-init c = record {
  collecting = collecting-first c.args.p.now.rows c.args.asks.now.items c.args.inner.now.items c.requires.none c.requires.one;
  asked = λ pc i h e. absurd (omega (arith, h));
}

pub ask-requires-clause-row : goal.ask-requires-clause-row
ask-requires-clause-row c = c.requires.rows c.loop-pc.pc c.instr_at.result c.instr_at.ensures

pub ask-requires-clause-collecting : goal.ask-requires-clause-collecting
ask-requires-clause-collecting c = c.loop-pc.invariant.collecting

pub loop-pc-preserved : goal.loop-pc-preserved
loop-pc-preserved c =
    collected-more c.args.p.now.rows c.args.code.now c.loop-pc.pc c.instr_at.result c.loop-pc.asks.items c.ask.new.asks.items
    c.loop-pc.inner.items c.ask.new.inner.items
    c.instr_at.ensures c.in_ok-ask.ensures.collecting c.in_ok-ask.ensures.still c.in_ok-ask.ensures.asked c.loop-pc.invariant

pub returns : goal.returns
returns c =
    let e : c.loop-pc.pc ≡ length c.args.code.now = omega arith in
    subst (λ n. IsCollected c.args.p.now.rows c.args.code.now n c.loop-pc.asks.items c.loop-pc.inner.items) e c.loop-pc.invariant
