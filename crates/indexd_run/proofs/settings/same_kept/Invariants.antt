use Rattle.std.proofs.Common.{◌≡◌, drop, length}
use Rattle.indexd_run.specs.Ends.{same_kept}
use Rattle.indexd_run.proofs.settings.same_kept.Given as goal

-- they are the same where what is left of them is
abbrev pub invariant-loop-i : goal.invariant-loop-i
invariant-loop-i l = record {
  lengths : length l.a ≡ length l.b;
  left : same_kept l.a l.b ≡ same_kept (drop l.i l.a) (drop l.i l.b);
}
