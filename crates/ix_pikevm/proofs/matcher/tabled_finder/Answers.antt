use Rattle.std.proofs.Common.{◌≡◌, ◌*◌, ◌/◌, length, sym, ◌∙◌, ap, subst, arith}
use Rattle.ix_pikevm.specs.Tests.{IsTable}
use Rattle.ix_pikevm.proofs.matcher.tabled_finder.Goals as goal

pub returns-clause-finder : goal.returns-clause-finder
returns-clause-finder g c =
    let all = c.in_ok-table.ensures.all in
    let len = c.len-width.ensures in
    let w : c.len-width.result / 256 ≡ length c.args.p.now.rows = omega (arith, all, len) in
    record {
      program = c.in_ok-program.ensures;
      all = all ∙ ap (λ n. 256 * n) (sym w);
      table = subst (λ n. IsTable c.in_ok-table.table.items n c.args.p.now.rows) (sym w) c.in_ok-table.ensures.table;
    }

pub returns-clause-whole : goal.returns-clause-whole
returns-clause-whole g c =
    let all = c.in_ok-table.ensures.all in
    let len = c.len-width.ensures in
    omega (arith, all, len)
