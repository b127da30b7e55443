-- A prefix is taken off one byte after the other.
use Rattle.std.proofs.Common.{◌≡◌, ℕ, ◌+◌, ◌<◌, List, get_or, length, drop, refl, add-one, Some, None}
use Rattle.std.proofs.Math.Seq.{drop-cons}
use Rattle.ix_props.specs.Kinds.{after, behind}

-- another byte stands there
pub stops : (prefix rest : List ℕ) (i : ℕ) → i < length prefix → None ≡ after (get_or prefix i 0) rest → behind (drop i prefix) rest ≡ None
stops prefix rest i here none = rw (drop-cons prefix i 0, ← none) refl

-- the byte stands there
pub goes_on : (prefix rest next : List ℕ) (i : ℕ) → i < length prefix → Some next ≡ after (get_or prefix i 0) rest →
    behind (drop i prefix) rest ≡ behind (drop (i + 1) prefix) next
goes_on prefix rest next i here some = rw (drop-cons prefix i 0, ← some, add-one) refl
