use Rattle.std.proofs.Common.{◌≡◌, ◌-◌, List, ℕ, take, drop, length, ap, arith, refl}
use Rattle.std.proofs.lemmas.List.{take_all, length-drop}
use Rattle.ix_export.proofs.FieldLemmas.{plain-on}
use Rattle.ix_export.proofs.lines.plain_length.Goals as goal

pub loop-at-preserved : goal.loop-at-preserved
loop-at-preserved c =
    let rest : List ℕ = drop c.loop-at.at c.args.bytes.now in
    let whole : take (length c.args.bytes.now - c.loop-at.at) rest ≡ rest =
    take_all (length c.args.bytes.now - c.loop-at.at) rest (omega (arith, length-drop c.loop-at.at c.args.bytes.now)) in
    record {
      counted = plain-on c.loop-at.at 32 c.args.bytes.now (take (length c.args.bytes.now - c.loop-at.at) rest) whole
          c.loop-at.invariant.counted (c.loop-at-test.ensures.plain refl);
      within = omega (
        arith,
        c.loop-at-test.ensures.within refl,
        ap length whole,
        length-drop c.loop-at.at c.args.bytes.now,
        c.loop-at.invariant.within,
      );
    }
