-- What the first bytes at a gate say.
use Rattle.std.proofs.Common.{◌≡◌, ◌≢◌, ◌≤◌, ◌<◌, ◌+◌, ℕ, zero, suc, min, List, [], ◌∷◌, ◌++◌, length, get_or, take, drop, refl, sym, ◌∙◌}
use Rattle.std.proofs.Common.{ap, arith, length-append, length-take, take-append-drop}
use Rattle.std.proofs.lemmas.List.{take_all, take_at}
use Rattle.std.proofs.lemmas.Nat.{be_bytes_4}
use Rattle.std.specs.Int.{to_be_bytes, from_be_bytes, w32}
use Rattle.ix_log.specs.declared.head.Head.TheVariants.{End, Body, Cut}
use Rattle.ix_log.specs.Head.{IsHead}

-- the first byte is that of what stands there
first_is : (rest end head : List ℕ) (n : ℕ) → head ≡ take n rest ++ end → n ≡ min 5 (length rest) → 0 < length rest → (tail : List ℕ)
    × (rest ≡ get_or head 0 0 ∷ tail)
first_is [] end head n is size some = absurd (omega arith)
first_is (x ∷ tail) end head zero is size some = absurd (omega arith)
first_is (x ∷ tail) end head (suc n) is size some = (tail, ap (λ (y : ℕ). y ∷ tail) (sym (ap (λ (l : List ℕ). get_or l 0 0) is)))

pub end_head : (rest end head : List ℕ) (n : ℕ) → head ≡ take n rest ++ end → n ≡ min 5 (length rest) → 0 < length rest →
    get_or head 0 0 ≢ 1 → IsHead End rest
end_head rest end head n is size some ne = let first = first_is rest end head n is size some in (get_or head 0 0, first.0, first.1, ne)

pub short_head : (rest end head : List ℕ) (n : ℕ) → head ≡ take n rest ++ end → n ≡ min 5 (length rest) → 0 < length rest →
    get_or head 0 0 ≡ 1 → n < 5 → IsHead Cut rest
short_head rest end head n is size some one lt =
    let first = first_is rest end head n is size some in
    let whole : rest ≡ 1 ∷ first.0 = first.1 ∙ ap (λ (y : ℕ). y ∷ first.0) one in
    (first.0, whole, omega (arith, ap length whole))

-- five bytes that stand there whole
five : (rest end head : List ℕ) (n : ℕ) → head ≡ take n rest ++ end → n ≡ min 5 (length rest) → 5 ≤ n → length head ≡ 5 → rest ≡ head
    ++ drop 5 rest
five rest end head n is size le long =
    let n_is : n ≡ 5 = omega arith in
    let head_is : head ≡ take 5 rest ++ end = is ∙ ap (λ (k : ℕ). take k rest ++ end) n_is in
    let front : length (take 5 rest) ≡ 5 = omega (arith, length-take 5 rest) in
    let none : length end ≡ 0 = omega (arith, ap length head_is, length-append (take 5 rest) end) in
    let same : head ≡ take 5 rest = sym (take_all 5 head (omega arith)) ∙ ap (λ (l : List ℕ). take 5 l) head_is
    ∙ take_at (take 5 rest) end 5 front in
    sym (take-append-drop 5 rest) ∙ ap (λ (l : List ℕ). l ++ drop 5 rest) (sym same)

spelled : (head : List ℕ) → length head ≡ 5 → head ≡ get_or head 0 0 ∷ get_or head 1 0 ∷ get_or head 2 0 ∷ get_or head 3 0 ∷ get_or head 4 0
    ∷ []
spelled [] long = absurd (omega arith)
spelled (a ∷ []) long = absurd (omega arith)
spelled (a ∷ b ∷ []) long = absurd (omega arith)
spelled (a ∷ b ∷ c ∷ []) long = absurd (omega arith)
spelled (a ∷ b ∷ c ∷ d ∷ []) long = absurd (omega arith)
spelled (a ∷ b ∷ c ∷ d ∷ e ∷ []) long = refl
spelled (a ∷ b ∷ c ∷ d ∷ e ∷ f ∷ more) long = absurd (omega arith)

four_fit : (head : List ℕ) → ((i : ℕ) → get_or head i 0 < 256) → (i : ℕ) →
    get_or (get_or head 1 0 ∷ get_or head 2 0 ∷ get_or head 3 0 ∷ get_or head 4 0 ∷ []) i 0 < 256
four_fit head fits zero = fits 1
four_fit head fits (suc zero) = fits 2
four_fit head fits (suc (suc zero)) = fits 3
four_fit head fits (suc (suc (suc zero))) = fits 4
four_fit head fits (suc (suc (suc (suc i)))) = omega arith

module _ (rest end head : List ℕ) (n : ℕ) (is : head ≡ take n rest
    ++ end) (size : n ≡ min 5 (length rest)) (le : 5 ≤ n) (long : length head ≡ 5) (one : get_or head 0 0 ≡ 1) where
  four : List ℕ
  four = get_or head 1 0 ∷ get_or head 2 0 ∷ get_or head 3 0 ∷ get_or head 4 0 ∷ []

  parts : rest ≡ 1 ∷ get_or head 1 0 ∷ get_or head 2 0 ∷ get_or head 3 0 ∷ get_or head 4 0 ∷ drop 5 rest
  parts = five rest end head n is size le long ∙ ap (λ (l : List ℕ). l ++ drop 5 rest) (spelled head long)
      ∙ ap (λ (y : ℕ). y ∷ get_or head 1 0 ∷ get_or head 2 0 ∷ get_or head 3 0 ∷ get_or head 4 0 ∷ drop 5 rest) one

  pub cut_head : length rest ≤ 5 + from_be_bytes w32 (get_or head 1 0 ∷ get_or head 2 0 ∷ get_or head 3 0 ∷ get_or head 4 0 ∷ []) →
      IsHead Cut rest
  cut_head short = (
    get_or head 1 0 ∷ get_or head 2 0 ∷ get_or head 3 0 ∷ get_or head 4 0 ∷ drop 5 rest,
    parts,
    omega (arith, ap length parts),
  )

  pub body_head : ((i : ℕ) → get_or head i 0 < 256) → (len : ℕ) →
      len ≡ from_be_bytes w32 (get_or head 1 0 ∷ get_or head 2 0 ∷ get_or head 3 0 ∷ get_or head 4 0 ∷ []) → 5 + len < length rest →
      IsHead (Body len) rest
  body_head fits len len_is lt =
      let bytes : to_be_bytes w32 len ≡ get_or head 1 0 ∷ get_or head 2 0 ∷ get_or head 3 0 ∷ get_or head 4 0 ∷ [] =
      be_bytes_4 _ len refl (four_fit head fits) len_is in
      (drop 5 rest, parts ∙ ap (λ (l : List ℕ). 1 ∷ (l ++ drop 5 rest)) (sym bytes), omega (arith, ap length parts))
