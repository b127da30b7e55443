use Rattle.std.proofs.Common.{sym, arith, add-one}
use Rattle.std.proofs.lemmas.List.{take_rest}
use Rattle.ix_conf.proofs.CutLemmas.{cut_first, cut_none}
use Rattle.ix_conf.proofs.cuts.cut_at.Goals as goal

pub returns-then-b-byte-clause-parts : goal.returns-then-b-byte-clause-parts
returns-then-b-byte-clause-parts c =
    rw (add-one, take_rest) (sym (cut_first c.args.byte c.args.bytes.now c.loop-at.at (omega arith) c.loop-at.invariant (omega arith)))

pub returns-clause-parts : goal.returns-clause-parts
returns-clause-parts c = sym (cut_none c.args.byte c.args.bytes.now (λ k h. c.loop-at.invariant k (omega arith)))
