-- Texts that are cut at a number of bytes, and the spans of groups.
use Rattle.std.proofs.Common.{◌≡◌, ℕ, zero, suc, ◌≤◌, List, [], ◌∷◌, ◌++◌, take, Option, Some, None, refl, ◌∙◌, ap, subst, arith}
use Rattle.std.proofs.Common.{append_assoc}
use Rattle.std.proofs.lemmas.List.{take-take}
use Rattle.ix_match.specs.Matches.{AllWithin}
use Rattle.ix_transforms.specs.Writing.{span_at}

-- what is cut may be cut before more comes behind it
pub cut-more : (n : ℕ) (a b : List ℕ) → take n (take n a ++ b) ≡ take n (a ++ b)
cut-more zero a b = refl
cut-more (suc n) [] b = refl
cut-more (suc n) (x ∷ a) b = ap (λ l. x ∷ l) (cut-more n a b)

-- the span of a group lies where all do
pub span-within : (start end k : ℕ) (spans : List (Option (ℕ × ℕ))) (span : ℕ × ℕ) → AllWithin start end spans →
    span_at spans k ≡ Some span →
    (start ≤ span.0) × (span.0 ≤ span.1) × (span.1 ≤ end)
span-within start end k [] span all e = cc
span-within start end zero (None ∷ spans) span all e = cc
span-within start end zero (Some s ∷ spans) span all e =
    let same : s ≡ span = cc in
    let P : ℕ × ℕ → Type 0 = λ x. (start ≤ x.0) × (x.0 ≤ x.1) × (x.1 ≤ end) in
    subst P same all.0
span-within start end (suc k) (s ∷ spans) span all e = span-within start end k spans span all.1 e

-- what was cut goes on
pub cut-on : (n : ℕ) (a b c x : List ℕ) → x ≡ take n (a ++ b) → take n (x ++ c) ≡ take n (a ++ (b ++ c))
cut-on n a b c x e = ap (λ l. take n (l ++ c)) e ∙ cut-more n (a ++ b) c ∙ ap (take n) (append_assoc a b c)

-- to cut again changes nothing
pub cut-again : (n : ℕ) (x z : List ℕ) → x ≡ take n z → take n x ≡ take n z
cut-again n x z e = ap (take n) e ∙ take-take n n z (omega arith)
