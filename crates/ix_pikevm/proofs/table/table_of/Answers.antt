use Rattle.std.proofs.Common.{◌≡◌, ◌+◌, ◌*◌, ◌≤◌, length, ap, sym, ◌∙◌, subst, arith}
use Rattle.ix_pattern.specs.Rows.{byte_pieces}
use Rattle.ix_pikevm.specs.Code.{sets_of}
use Rattle.ix_pikevm.proofs.TableLemmas.{Rows, rows-more}
use Rattle.ix_pikevm.proofs.table.table_of.Goals as goal

pub loop-byte-init : goal.loop-byte-init
loop-byte-init g c =
    let z : 0 * length c.args.p.now.rows ≡ 0 = grind arith in
    record {
      rows = record { all = ap length c.new-table.ensures.items ∙ sym z; answers = λ byte k h lt. absurd (omega (arith, h)) };
      counted = omega arith;
      later = omega arith;
    }

pub loop-byte-preserved : goal.loop-byte-preserved
loop-byte-preserved g c =
    let one : (c.loop-byte.byte + 1) * byte_pieces c.args.p.now.rows ≡ c.loop-byte.byte * byte_pieces c.args.p.now.rows + byte_pieces
    c.args.p.now.rows = grind arith in
    record {
      rows = rows-more c.loop-byte.table.items c.push_answers.new.answers.items (length c.args.p.now.rows) c.loop-byte.byte
          (sets_of c.args.p.now.rows) c.in_ok-push_answers.ensures.row c.loop-byte.invariant.rows;
      counted = omega (arith, one, c.loop-byte.invariant.counted, c.in_ok-push_answers.ensures.counted);
      later = omega (arith, c.loop-byte.invariant.later, c.push_answers.ensures.later);
    }

pub returns : goal.returns
returns g c =
    let e : c.loop-byte.byte ≡ 256 = omega arith in
    let r : Rows c.loop-byte.table.items (length c.args.p.now.rows) 256 (sets_of c.args.p.now.rows) =
    subst (λ n. Rows c.loop-byte.table.items (length c.args.p.now.rows) n (sets_of c.args.p.now.rows)) e c.loop-byte.invariant.rows in
    record {
      all = r.all;
      table = λ byte k h lt. r.answers byte k h lt;
      counted = subst (λ n. c.loop-byte.steps ≤ c.args.steps.now + n * byte_pieces c.args.p.now.rows) e c.loop-byte.invariant.counted;
      later = c.loop-byte.invariant.later;
    }
