-- The rule of universal time is one.
use Rattle.std.proofs.Common.{refl, codes, IsSome}
use Rattle.jiff_tz.specs.PosixReader.{read_whole}
use Rattle.jiff_tz.proofs.OnLiterals.{jiff_tz_on_literals}

pub utc_reads : IsSome (read_whole (codes "UTC0"))
unfolding jiff_tz_on_literals
utc_reads = refl
