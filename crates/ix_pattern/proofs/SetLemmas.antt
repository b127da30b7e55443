-- A list of 256 tests is the set of what they say.
use Rattle.std.proofs.Common.{◌≡◌, ℕ, ◌<◌, ◌+◌, Bool, false, List, length, get_or, set, sym, subst}
use Rattle.std.proofs.lemmas.List.Edits.{fill_by_more}
use Rattle.std.proofs.lemmas.List.FromFn.{fill_by_all}
use Rattle.std.proofs.lemmas.Option.{unwrap_or-slice_get}
use Rattle.ix_pattern.specs.Piece.{in_set}
use Rattle.ix_pattern.specs.Sets.{bytes_where}

pub same-set : (test : ℕ → Bool) (xs : List Bool) → length xs ≡ 256 → ((k : ℕ) → k < 256 → get_or xs k false ≡ test k) →
    xs ≡ bytes_where test
unfolding bytes_where
same-set test xs len each = fill_by_all test xs 256 false len each

pub read-set : (set : List Bool) (b : ℕ) → get_or set b false ≡ in_set set b
read-set set b = sym (unwrap_or-slice_get set b false)

-- one place more of it is written
pub more-set : (test : ℕ → Bool) (xs : List Bool) (i : ℕ) (value : Bool) → i < length xs → value ≡ test i →
    ((k : ℕ) → k < i → get_or xs k false ≡ test k) →
    (k : ℕ) → k < i + 1 → get_or (set xs i value) k false ≡ test k
more-set test xs i value long is each k below = subst (λ v. get_or (set xs i v) k false ≡ test k) (sym is)
    (fill_by_more test xs i false long each k below)
