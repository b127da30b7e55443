use Rattle.std.proofs.Common.{◌≡◌, ◌-◌}
use Rattle.indexd_selftest.specs.Blocks.{left}
use Rattle.indexd_selftest.proofs.generator.Generator.lay_out.Given as goal

abbrev pub invariant-loop-self : goal.invariant-loop-self
invariant-loop-self l = record {
  left : left l.self ≡ left l.initial.self;
  x : l.self.x ≡ l.initial.self.x;
  end : l.self.end ≡ l.initial.self.end;
}

abbrev pub decreases-loop-self : goal.decreases-loop-self
decreases-loop-self l = l.self.end - l.self.next
