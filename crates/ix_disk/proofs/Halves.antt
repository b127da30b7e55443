-- What the worst crash leaves of a file, kept in two parts: what is in the file up to a place, and
-- what is beside it.
use Rattle.std.proofs.Common.{◌≡◌, ◌+◌, ◌-◌, ◌≤◌, ℕ, min, suc, List, [], ◌∷◌, ◌++◌, length, take, drop, replicate, Option, None, Some}
use Rattle.std.proofs.Common.{refl, sym, ◌∙◌, ap, arith, append_assoc, zero-add, length-append, length-take}
use Rattle.std.proofs.lemmas.List.{take-take, take-append-le, take-append-drop, drop-take, drop-drop, drop_at}
use Rattle.ix_disk.specs.Image.{content, overwritten}
use Rattle.ix_disk.specs.Contents.{with_rest, over, ones, ones_in}

-- a front in two parts
front_parts : (xs : List ℕ) (at same : ℕ) → at ≤ same → take at xs ++ take (same - at) (drop at xs) ≡ take same xs
front_parts xs at same le =
    let whole : same ≡ at + (same - at) = omega arith in
    let back : drop at (take same xs) ≡ take (same - at) (drop at xs) = ap (λ (n : ℕ). drop at (take n xs)) whole
    ∙ drop-take at (same - at) xs in
    ap (λ (l : List ℕ). l ++ take (same - at) (drop at xs)) (sym (take-take at same xs le))
    ∙ ap (λ (l : List ℕ). take at (take same xs) ++ l) (sym back)
    ∙ take-append-drop at (take same xs)

-- more of it may be kept beside the file
pub parted : (bytes : Option (List ℕ)) (at same : ℕ) (rest : List ℕ) → at ≤ same
    → with_rest bytes at (Some (take (same - at) (drop at (content bytes)) ++ rest)) ≡ with_rest bytes same (Some rest)
parted bytes at same rest le =
    let xs = content bytes in
    ap Some (sym (append_assoc (take at xs) (take (same - at) (drop at xs)) rest)
    ∙ ap (λ (l : List ℕ). l ++ rest) (front_parts xs at same le))

take_past : (front rest : List ℕ) (k : ℕ) → take (length front + k) (front ++ rest) ≡ front ++ take k rest
take_past [] rest k = ap (λ (n : ℕ). take n rest) (zero-add k)
take_past (x ∷ front) rest k =
    let more : length (x ∷ front) + k ≡ suc (length front + k) = omega arith in
    ap (λ (n : ℕ). take n ((x ∷ front) ++ rest)) more ∙ ap (λ (l : List ℕ). x ∷ l) (take_past front rest k)

drop_past : (front rest : List ℕ) (k : ℕ) → drop (length front + k) (front ++ rest) ≡ drop k rest
drop_past front rest k = sym (drop-drop k (length front) (front ++ rest))
    ∙ ap (λ (l : List ℕ). drop k l) (drop_at front rest (length front) refl)

-- ones behind a front leave it
ones_past : (front rest : List ℕ) (at n : ℕ) → length front ≤ at → ones at n (front ++ rest) ≡ front ++ ones (at - length front) n rest
ones_past front rest at n le =
    let k = at - length front in
    let place : at ≡ length front + (at - length front) = omega arith in
    let count : length (front ++ rest) - at ≡ length rest - (at - length front) = omega (arith, length-append front rest) in
    let end : at + n ≡ length front + ((at - length front) + n) = omega arith in
    let first : take at (front ++ rest) ≡ front ++ take (at - length front) rest = ap (λ (m : ℕ). take m (front ++ rest)) place
    ∙ take_past front rest (at - length front) in
    let last : drop (at + n) (front ++ rest) ≡ drop ((at - length front) + n) rest = ap (λ (m : ℕ). drop m (front ++ rest)) end
    ∙ drop_past front rest ((at - length front) + n) in
    ap (λ (l : List ℕ). l ++ replicate (min n (length (front ++ rest) - at)) 1 ++ drop (at + n) (front ++ rest)) first
    ∙ ap (λ (m : ℕ). (front ++ take (at - length front) rest) ++ replicate (min n m) 1 ++ drop (at + n) (front ++ rest)) count
    ∙ ap (λ (l : List ℕ). (front ++ take (at - length front) rest) ++ replicate (min n (length rest - (at - length front))) 1 ++ l) last
    ∙ ap (λ (l : List ℕ). l ++ drop ((at - length front) + n) rest)
    (append_assoc front (take (at - length front) rest) (replicate (min n (length rest - (at - length front))) 1))
    ∙ append_assoc front (take (at - length front) rest
    ++ replicate (min n (length rest - (at - length front))) 1) (drop ((at - length front) + n) rest)

-- so the worst crash's ones need only what is beside the file
pub marked : (bytes : Option (List ℕ)) (same at n : ℕ) (rest : List ℕ) → same ≤ length (content bytes) → same ≤ at
    → with_rest bytes same (Some (ones (at - same) n rest)) ≡ ones_in at n (with_rest bytes same (Some rest))
marked bytes same at n rest within le =
    let front : length (take same (content bytes)) ≡ same = omega (arith, length-take same (content bytes)) in
    ap Some
    (ap (λ (m : ℕ). take same (content bytes) ++ ones (at - m) n rest) (sym front)
    ∙ sym (ones_past (take same (content bytes)) rest at n (omega (arith, front))))

kept_front : (xs bytes : List ℕ) (at same : ℕ) → same ≤ at → at ≤ length xs → take same (overwritten at bytes xs) ≡ take same xs
kept_front xs bytes at same le within =
    let front : length (take at xs) ≡ at = omega (arith, length-take at xs) in
    take-append-le same (take at xs ++ bytes) (drop (at + length bytes) xs) (omega (arith, front, length-append (take at xs) bytes))
    ∙ take-append-le same (take at xs) bytes (omega (arith, front))
    ∙ take-take same at xs le

-- a write behind the place leaves the worst crash
pub kept_torn : (old : Option (List ℕ)) (bytes : List ℕ) (at same : ℕ) (rest : Option (List ℕ)) → same ≤ at → at ≤ length (content old)
    → with_rest (over at bytes old) same rest ≡ with_rest old same rest
kept_torn old bytes at same None le within = refl
kept_torn old bytes at same (Some rest) le within = ap (λ (l : List ℕ). Some (l ++ rest)) (kept_front (content old) bytes at same le within)

-- and the place is within what is written
pub still_within : (old bytes : List ℕ) (at same : ℕ) → same ≤ at → at ≤ length old → same ≤ length (overwritten at bytes old)
still_within old bytes at same le within =
    let front : length (take at old) ≡ at = omega (arith, length-take at old) in
    omega (arith, front, length-append (take at old ++ bytes) (drop (at + length bytes) old), length-append (take at old) bytes)
