use Rattle.std.proofs.Common.{◌≤◌, ◌<◌, ◌+◌, List, length, refl, ◌∙◌, arith}
use Rattle.std.proofs.lemmas.Slice.{take-put_mid}
use Rattle.ix_fs.specs.declared.trees.TreeFile.{TreeFile}
use Rattle.ix_fs.specs.Trees.{bytes_at, ReadsAt}
use Rattle.ix_pass.specs.Blocks.{FillsAt, HasFilled}
use Rattle.ix_pass.proofs.Buffers.{more_filled, all_filled, fill_inside, full, if_both, if_one}
use Rattle.ix_pass.proofs.reading.read_block.Goals as goal

pub loop-filled-preserved : goal.loop-filled-preserved
loop-filled-preserved g c =
    let fits : c.in-Ok.n ≤ length c.read.new.buf = grind (arith, c.in-Ok.ensures.count, c.read.auto.buf) in
    record {
      room = grind (arith);
      within = fill_inside c.loop-filled.filled c.in-Ok.n c.loop-filled.room c.read.new.buf _ c.loop-filled.invariant.within fits
          (take-put_mid c.loop-filled.filled _ c.loop-filled.room c.read.new.buf _ refl c.loop-filled.invariant.within);
      bytes = if_both (λ (all : List TreeFile). HasFilled (bytes_at all c.args.path.now) c.args.at c.loop-filled.filled c.loop-filled.room)
          (λ (all : List TreeFile). ReadsAt (bytes_at all c.args.path.now) (c.args.at + c.loop-filled.filled) c.in-Ok.n c.read.new.buf)
          _ (λ all has reads. more_filled (bytes_at all c.args.path.now) c.args.at c.loop-filled.filled c.in-Ok.n c.loop-filled.room
          c.read.new.buf _ c.loop-filled.invariant.within fits
          (take-put_mid c.loop-filled.filled _ c.loop-filled.room c.read.new.buf _ refl c.loop-filled.invariant.within) has reads)
          (g.T.Tree.files c.args.tree.now) (g.T.Tree.files c.loop-filled.tree) c.loop-filled.invariant.same c.loop-filled.invariant.bytes
          c.in-Ok.ensures.bytes;
      same = c.read.ensures.same ∙ c.loop-filled.invariant.same;
      later = omega (arith, c.loop-filled.invariant.later, c.read.ensures.cause.later);
      later_missing = omega (arith, c.loop-filled.invariant.later_missing, c.read.ensures.cause.later_missing);
    }

pub returns-clause-bytes : goal.returns-clause-bytes
returns-clause-bytes g c =
    if_one (λ (all : List TreeFile). HasFilled (bytes_at all c.args.path.now) c.args.at c.loop-filled.filled c.loop-filled.room)
    (λ (all : List TreeFile). FillsAt (bytes_at all c.args.path.now) c.args.at c.loop-filled.filled c.loop-filled.room)
    (λ all has. full (bytes_at all c.args.path.now) c.args.at c.loop-filled.filled c.loop-filled.room
    (omega (arith, c.requires.some, c.loop-filled.invariant.room)) (omega (arith, c.loop-filled-test.false)) has)
    (g.T.Tree.files c.args.tree.now) c.loop-filled.invariant.bytes

pub returns-then-n-eq0-clause-bytes : goal.returns-then-n-eq0-clause-bytes
returns-then-n-eq0-clause-bytes g c =
    let some : 0 < length c.read.new.buf = grind (arith, c.read.auto.buf, c.loop-filled-test.true) in
    if_both (λ (all : List TreeFile). HasFilled (bytes_at all c.args.path.now) c.args.at c.loop-filled.filled c.loop-filled.room)
    (λ (all : List TreeFile). ReadsAt (bytes_at all c.args.path.now) (c.args.at + c.loop-filled.filled) c.in-Ok.n c.read.new.buf)
    _ (λ all has reads. all_filled (bytes_at all c.args.path.now) c.args.at c.loop-filled.filled c.in-Ok.n c.loop-filled.room c.read.new.buf
    _ c.if-n-eq0.true c.loop-filled.invariant.within some
    (take-put_mid c.loop-filled.filled _ c.loop-filled.room c.read.new.buf _ refl c.loop-filled.invariant.within) has reads)
    (g.T.Tree.files c.args.tree.now) (g.T.Tree.files c.loop-filled.tree) c.loop-filled.invariant.same c.loop-filled.invariant.bytes
    c.in-Ok.ensures.bytes
