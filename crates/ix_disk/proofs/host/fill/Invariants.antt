use Rattle.std.proofs.Common.{◌≤◌, length}
use Rattle.ix_disk.proofs.host.fill.Given as goal

-- what was read is in the buffer
abbrev pub invariant-loop : goal.invariant-loop
invariant-loop g l = l.filled ≤ length l.buf
