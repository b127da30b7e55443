use Rattle.std.proofs.Common.{◌≡◌, ◌+◌, ◌-◌, ◌≤◌, ◌<◌, length}
use Rattle.ix_pikevm.specs.Finders.{HasRoom}
use Rattle.ix_pikevm.specs.Places.{whole, NoWays}
use Rattle.ix_pikevm.proofs.place.first_place.Given as goal

-- a way is left
abbrev pub invariant-loop-high : goal.invariant-loop-high
invariant-loop-high g l =
    record {
      later : l.from ≤ l.low;
      order : l.low < l.high;
      within : l.high ≤ length l.text + 1;
      none : NoWays l.p (whole l.text) l.from l.low;
      some : NoWays l.p (whole l.text) l.low l.high → ⊥;
      room : HasRoom l.finder l.room;
      steps : l.fn.steps ≤ l.steps;
      tabled : l.finder.width ≡ length l.p.rows → l.steps ≡ l.fn.steps;
    }

abbrev pub decreases-loop-high : goal.decreases-loop-high
decreases-loop-high g l = l.high - l.low
