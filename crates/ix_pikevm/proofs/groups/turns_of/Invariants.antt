use Rattle.std.proofs.Common.{◌≡◌, ◌≤◌, length, drop}
use Rattle.std.specs.Prelude.{None, replicate}
use Rattle.ix_pikevm.specs.Code.{replay}
use Rattle.ix_pikevm.specs.Replays.{spans}
use Rattle.ix_pikevm.proofs.groups.turns_of.Given as goal

abbrev pub invariant-loop-i : goal.invariant-loop-i
invariant-loop-i l =
    record {
      within : l.i ≤ length l.events;
      is : spans l.began.items l.groups.items ≡ replay (replicate l.count None) (drop l.i l.events);
    }

abbrev pub decreases-loop-i : goal.decreases-loop-i
decreases-loop-i l = l.i
