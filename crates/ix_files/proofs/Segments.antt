-- Where the last segment of a path begins.
use Rattle.std.proofs.Common.{◌≡◌, ◌<◌, ℕ, zero, suc, Bool, true, false, List, [], ◌∷◌, length, drop, get_or, refl, ap, arith}
use Rattle.std.specs.Prelude.{◌==◌, ◌||◌}
use Rattle.ix_files.specs.Paths.{has_slash, segment_at}

pub none_behind : (path : List ℕ) → has_slash path ≡ false → segment_at path ≡ 0
none_behind [] e = refl
none_behind (b ∷ path) e = rw e refl

or_true : (a b : Bool) → b ≡ true → (a || b) ≡ true
or_true true b e = refl
or_true false b e = e

pub has_at : (path : List ℕ) (k : ℕ) → k < length path → get_or path k 0 ≡ 47 → has_slash path ≡ true
has_at [] k l is = absurd (omega (arith, l))
has_at (b ∷ path) zero l is = rw is refl
has_at (b ∷ path) (suc k) l is = or_true (b == 47) (has_slash path) (has_at path k (omega (arith, l)) is)

-- behind a slash that has none behind it
pub behind_slash : (path : List ℕ) (k : ℕ) → k < length path → get_or path k 0 ≡ 47 → has_slash (drop (suc k) path) ≡ false →
    segment_at path ≡ suc k
behind_slash [] k l is rest = absurd (omega (arith, l))
behind_slash (b ∷ path) zero l is rest = rw (has_at (b ∷ path) zero l is) (ap suc (none_behind path rest))
behind_slash (b ∷ path) (suc k) l is rest = rw (has_at (b ∷ path) (suc k) l is) (ap suc (behind_slash path k (omega (arith, l)) is rest))
