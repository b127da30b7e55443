use Rattle.std.proofs.Common.{◌-◌, ◌+◌, ◌++◌, ◌∙◌, List, ℕ, ap}
use Rattle.indexd_selftest.specs.Lines.{lines_from}
use Rattle.indexd_selftest.proofs.Cutting.{laid_out}
use Rattle.indexd_selftest.proofs.generator.Generator.lay_out.Goals as goal

pub loop-self-preserved : goal.loop-self-preserved
loop-self-preserved c =
    let g = c.loop-self.self in
    record {
      left = ap (λ (l : List ℕ). l ++ lines_from (g.next + 1) (g.end - (g.next + 1))) c.in_ok-add_line.ensures
          ∙ laid_out g.ahead g.next g.end c.loop-self-test.true ∙ c.loop-self.invariant.left;
      x = c.loop-self.invariant.x;
      end = c.loop-self.invariant.end;
    }
