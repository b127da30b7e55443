use Rattle.std.proofs.Common.{◌<◌, length, refl, arith}
use Rattle.ix_lines.proofs.SeekLemmas.{last_byte-last}
use Rattle.ix_lines.proofs.breaks.last_byte.Goals as goal

pub returns-in_default : goal.returns-in_default
returns-in_default c =
    let some : 0 < length c.args.bytes.now = omega arith in
    last_byte-last c.args.before (length c.args.bytes.now) c.args.bytes.now some refl
