use Rattle.std.proofs.Common.{subst}
use Rattle.ix_pattern.specs.Piece.{IsSound}
use Rattle.ix_props.proofs.BreakerLemmas.{breaker_sound}
use Rattle.ix_props.proofs.SameUseLemmas.{usable_same}
use Rattle.ix_props.proofs.UsableLemmas.{sound_from_read, usable}
use Rattle.ix_props.proofs.laws.settings_are_usable.Goals as goal

pub returns : goal.returns
returns c = λ transforms zones props entries meta s read is.
    let can = usable entries meta s (sound_from_read transforms zones props entries read) is in
    let sound = breaker_sound transforms zones props entries meta s read is in
    record {
      itself = record { usable = can; sound = sound };
      others = λ other same. record { usable = usable_same s other same can; sound = subst IsSound same.breaker.trees sound };
    }
