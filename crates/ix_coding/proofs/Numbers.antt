-- A number that is read is spelled so.
use Rattle.std.proofs.Common.{◌≡◌, ℕ, ◌<◌, ◌≤◌, List, ◌++◌, length, get_or, take, drop, sym, ap, ◌∙◌, arith, inl, inr}
use Rattle.std.specs.Int.{w32, w64, from_be_bytes}
use Rattle.std.proofs.lemmas.Bool.{cases_lt}
use Rattle.std.proofs.lemmas.List.{take-append-drop, length-take, get_or-take, get_or_past}
use Rattle.std.proofs.lemmas.Nat.{be_bytes_4, be_bytes_8}
use Rattle.ix_coding.specs.Spelling.{four, eight}

abbrev pub AreBytes : List ℕ → Type 0
AreBytes bytes = (i : ℕ) → get_or bytes i 0 < 256

AreBytes-take : (n : ℕ) (bytes : List ℕ) → AreBytes bytes → AreBytes (take n bytes)
AreBytes-take n bytes h i =
    elim (cases_lt i n) [
      | inl lt ↦ rw (get_or-take n bytes i 0 lt) (h i)
      | inr le ↦ rw (get_or_past (take n bytes) i 0 (omega (arith, length-take n bytes))) (omega arith)
    ]

pub four_found : (bytes : List ℕ) (n : ℕ) → AreBytes bytes → 4 ≤ length bytes → n ≡ from_be_bytes w32 (take 4 bytes) → bytes ≡ four n
    ++ drop 4 bytes
unfolding four
four_found bytes n are long is =
    sym (ap (λ (l : List ℕ). l ++ drop 4 bytes) (be_bytes_4 (take 4 bytes) n (omega (arith, length-take 4 bytes))
    (AreBytes-take 4 bytes are) is) ∙ take-append-drop 4 bytes)

pub eight_found : (bytes : List ℕ) (n : ℕ) → AreBytes bytes → 8 ≤ length bytes → n ≡ from_be_bytes w64 (take 8 bytes) → bytes ≡ eight n
    ++ drop 8 bytes
unfolding eight
eight_found bytes n are long is =
    sym (ap (λ (l : List ℕ). l ++ drop 8 bytes) (be_bytes_8 (take 8 bytes) n (omega (arith, length-take 8 bytes))
    (AreBytes-take 8 bytes are) is) ∙ take-append-drop 8 bytes)
