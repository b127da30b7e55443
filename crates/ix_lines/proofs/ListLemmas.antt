-- Beginnings and parts of lists.
use Rattle.std.proofs.Common.{◌≡◌, ℕ, zero, suc, ◌+◌, ◌-◌, ◌≤◌, ℤ, List, [], ◌∷◌, ◌++◌, length, take, drop, refl, sym, ◌∙◌, ap, arith}
use Rattle.std.specs.List.{zip}
use Rattle.ix_base.specs.Stream.{Dated, bytes_of}
use Rattle.ix_lines.specs.Settle.{part}

pub take-nil : (A : Type 0) (k : ℕ) → ◌≡◌ {A = List A} (take k []) []
take-nil A zero = refl
take-nil A (suc k) = refl

pub drop-nil : (A : Type 0) (k : ℕ) → ◌≡◌ {A = List A} (drop k []) []
drop-nil A zero = refl
drop-nil A (suc k) = refl

pub take-past : {A : Type 0} (n : ℕ) (xs : List A) → length xs ≤ n → take n xs ≡ xs
take-past zero [] h = refl
take-past (suc n) [] h = refl
take-past zero (x ∷ xs) h = absurd (omega arith)
take-past (suc n) (x ∷ xs) h = ap (λ l. x ∷ l) (take-past n xs (omega arith))

pub drop-past : {A : Type 0} (n : ℕ) (xs : List A) → length xs ≤ n → drop n xs ≡ []
drop-past zero [] h = refl
drop-past (suc n) [] h = refl
drop-past zero (x ∷ xs) h = absurd (omega arith)
drop-past (suc n) (x ∷ xs) h = drop-past n xs (omega arith)

pub take-take : {A : Type 0} (m n : ℕ) (xs : List A) → m ≤ n → take m (take n xs) ≡ take m xs
take-take zero n xs h = refl
take-take (suc m) zero xs h = absurd (omega arith)
take-take (suc m) (suc n) [] h = refl
take-take (suc m) (suc n) (x ∷ xs) h = ap (λ l. x ∷ l) (take-take m n xs (omega arith))

pub drop-drop : {A : Type 0} (i n : ℕ) (xs : List A) → drop n (drop i xs) ≡ drop (i + n) xs
drop-drop zero n xs = ap (λ k. drop k xs) (omega arith)
drop-drop {A} (suc i) n [] = drop-nil A n ∙ sym (drop-nil A (suc i + n))
drop-drop (suc i) n (x ∷ xs) = let e : suc i + n ≡ suc (i + n) = omega arith in rw e (drop-drop i n xs)

pub take-drop-swap : {A : Type 0} (n m : ℕ) (xs : List A) → m ≤ n → take (n - m) (drop m xs) ≡ drop m (take n xs)
take-drop-swap n zero xs h = ap (λ k. take k xs) (omega arith)
take-drop-swap zero (suc m) xs h = absurd (omega arith)
take-drop-swap {A} (suc n) (suc m) [] h = take-nil A (suc n - suc m)
take-drop-swap (suc n) (suc m) (x ∷ xs) h =
    let e : suc n - suc m ≡ n - m = omega arith in
    rw e (take-drop-swap n m xs (omega arith))

-- a beginning of two lists, of which the first one's beginning is kept
pub take-joined : {A : Type 0} (n : ℕ) (xs ys : List A) → take n xs ++ take (n - length (take n xs)) ys ≡ take n (xs ++ ys)
take-joined zero xs ys = refl
take-joined (suc n) [] ys = let e : suc n - 0 ≡ suc n = omega arith in ap (λ k. take k ys) e
take-joined (suc n) (x ∷ xs) ys =
    let e : suc n - suc (length (take n xs)) ≡ n - length (take n xs) = omega arith in
    rw e (ap (λ l. x ∷ l) (take-joined n xs ys))

pub take-add : {A : Type 0} (i n : ℕ) (xs : List A) → take i xs ++ take n (drop i xs) ≡ take (i + n) xs
take-add zero n xs = ap (λ k. take k xs) (omega arith)
take-add {A} (suc i) n [] = take-nil A n ∙ sym (take-nil A (suc i + n))
take-add (suc i) n (x ∷ xs) = let e : suc i + n ≡ suc (i + n) = omega arith in rw e (ap (λ l. x ∷ l) (take-add i n xs))

-- a part that goes on
pub part-on : {A : Type 0} (start i n : ℕ) (xs : List A) → start ≤ i → part start i xs ++ take n (drop i xs) ≡ part start (i + n) xs
part-on start i n xs h =
    let a : i ≡ start + (i - start) = omega arith in
    let b : i - start + n ≡ i + n - start = omega arith in
    ap (λ k. part start i xs ++ take n (drop k xs)) a
    ∙ ap (λ l. part start i xs ++ take n l) (sym (drop-drop start (i - start) xs))
    ∙ take-add (i - start) n (drop start xs)
    ∙ ap (λ k. take k (drop start xs)) b

-- what a match leaves behind its break
pub part-behind : {A : Type 0} (i m n : ℕ) (xs : List A) → m ≤ n → drop m (take n (drop i xs)) ≡ part (i + m) (i + n) xs
part-behind i m n xs h =
    let e : n - m ≡ i + n - (i + m) = omega arith in
    sym (take-drop-swap n m (drop i xs) h) ∙ ap (take (n - m)) (drop-drop i m xs) ∙ ap (λ k. take k (drop (i + m) xs)) e

pub part-none : {A : Type 0} (i : ℕ) (xs : List A) → part i i xs ≡ []
part-none i xs = let e : i - i ≡ 0 = omega arith in rw e refl

-- bytes and moments side by side
pub bytes_of-zip : (bs : List ℕ) (ms : List ℤ) → length bs ≡ length ms → bytes_of (zip bs ms) ≡ bs
bytes_of-zip [] ms h = refl
bytes_of-zip (b ∷ bs) [] h = absurd (omega arith)
bytes_of-zip (b ∷ bs) (m ∷ ms) h = ap (λ l. b ∷ l) (bytes_of-zip bs ms (omega arith))

zip-nil : (xs : List ℕ) → ◌≡◌ {A = List Dated} (zip xs []) []
zip-nil [] = refl
zip-nil (x ∷ xs) = refl

pub drop-zip : (n : ℕ) (bs : List ℕ) (ms : List ℤ) → drop n (zip bs ms) ≡ zip (drop n bs) (drop n ms)
drop-zip zero bs ms = refl
drop-zip (suc n) [] ms = refl
drop-zip (suc n) (b ∷ bs) [] = sym (zip-nil (drop n bs))
drop-zip (suc n) (b ∷ bs) (m ∷ ms) = drop-zip n bs ms

pub take-zip : (n : ℕ) (bs : List ℕ) (ms : List ℤ) → take n (zip bs ms) ≡ zip (take n bs) (take n ms)
take-zip zero bs ms = refl
take-zip (suc n) [] ms = refl
take-zip (suc n) (b ∷ bs) [] = refl
take-zip (suc n) (b ∷ bs) (m ∷ ms) = ap (λ l. (b, m) ∷ l) (take-zip n bs ms)

pub zip-append : (xs bs : List ℕ) (ms ns : List ℤ) → length xs ≡ length ms → zip (xs ++ bs) (ms ++ ns) ≡ zip xs ms ++ zip bs ns
zip-append [] bs [] ns h = refl
zip-append [] bs (m ∷ ms) ns h = absurd (omega arith)
zip-append (a ∷ xs) bs [] ns h = absurd (omega arith)
zip-append (a ∷ xs) bs (m ∷ ms) ns h = ap (λ l. (a, m) ∷ l) (zip-append xs bs ms ns (omega arith))

pub bytes_of-take : (n : ℕ) (xs : List Dated) → bytes_of (take n xs) ≡ take n (bytes_of xs)
bytes_of-take zero xs = refl
bytes_of-take (suc n) [] = refl
bytes_of-take (suc n) (x ∷ xs) = ap (λ l. x.0 ∷ l) (bytes_of-take n xs)

pub bytes_of-drop : (n : ℕ) (xs : List Dated) → bytes_of (drop n xs) ≡ drop n (bytes_of xs)
bytes_of-drop zero xs = refl
bytes_of-drop (suc n) [] = refl
bytes_of-drop (suc n) (x ∷ xs) = bytes_of-drop n xs
