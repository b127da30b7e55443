-- Files that are not named, by their numbers.
use Rattle.std.proofs.Common.{◌≡◌, ◌≢◌, ◌⊎◌, inl, inr, ℕ, ◌<◌, ◌≤◌, List, Result, Ok, Err, false, map, length, get_or, subst, sym, ◌∙◌}
use Rattle.std.proofs.Common.{arith}
use Rattle.std.specs.Prelude.{All}
use Rattle.std.specs.Result.{MatchResult, is_ok}
use Rattle.std.specs.List.{Contains}
use Rattle.std.specs.List.Sorted.{IsPermutation}
use Rattle.std.proofs.lemmas.List.{length-map, get_or-map, get_or_default}
use Rattle.std.proofs.lemmas.Bool.{cases_lt}
use Rattle.std.proofs.lemmas.List.Elements.{Contains-get_or}
use Rattle.std.proofs.lemmas.List.Sorted.{Contains-permutation}
use Rattle.ix_base.specs.declared.files.File.{File}
use Rattle.ix_replay.specs.Amounts.{number_of}

-- each number of files is among them in any order
pub all_among : (files : List File) (numbers sorted : List ℕ) → numbers ≡ map number_of files → IsPermutation numbers sorted →
    All (λ (file : File). Contains sorted file.number) files
all_among files numbers sorted is moved = λ k d within.
    let here = Contains-get_or (map number_of files) k (number_of d) (omega (arith, within, length-map files number_of)) in
    let read : get_or (map number_of files) k (number_of d) ≡ number_of (get_or files k d) =
    get_or-map number_of files k d (number_of d) within in
    Contains-permutation numbers sorted (number_of (get_or files k d)) moved
    (subst (λ (l : List ℕ). Contains l (number_of (get_or files k d))) (sym is) (subst (Contains (map number_of files)) read here))

-- a file whose number is not among theirs is none of them
pub none_named : (files : List File) (numbers : List ℕ) (mine : File) → All (λ (file : File). Contains numbers file.number) files →
    (Contains numbers mine.number → ⊥) → All (λ (file : File). mine ≢ file) files
none_named files numbers mine all none = λ k d within same.
    none (subst (λ (file : File). Contains numbers file.number) (sym same) (all k d within))

-- a number that a search does not find is not there
pub not_found : (numbers : List ℕ) (number : ℕ) (result : Result ℕ ℕ)
    → MatchResult result (λ i. (i < length numbers) × (get_or numbers i 0 ≡ number)) (λ i. (i ≤ length numbers)
    × ((k : ℕ) → k < i → get_or numbers k 0 < number) × ((k : ℕ) → i ≤ k → k < length numbers → number < get_or numbers k 0))
    → is_ok result ≡ false → Contains numbers number → ⊥
not_found numbers number (Ok i) at none has = absurd cc
not_found numbers number (Err i) at none has = go (cases_lt has.0 i)
  where
    read : get_or numbers has.0 0 ≡ number
    read = get_or_default numbers has.0 0 number has.1 ∙ has.2

    go : (has.0 < i) ⊎ (i ≤ has.0) → ⊥
    go (inl before) =
        let low = at.1 has.0 before in
        omega (arith, low, read)
    go (inr behind) =
        let high = at.2 has.0 behind has.1 in
        omega (arith, high, read)
