-- A trail keeps its events when cells come.
use Rattle.std.proofs.Common.{◌≡◌, ℕ, zero, suc, ◌+◌, ◌<◌, ◌≤◌, List, [], ◌∷◌, ◌++◌, length, Some, refl, sym, ◌∙◌, ap, subst, arith}
use Rattle.std.proofs.Common.{append_assoc, length-append, take, drop, nat_lt, if◌then◌else◌, Bool, true, false}
use Rattle.std.specs.Prelude.{slice_get, unwrap_or}
use Rattle.std.proofs.lemmas.List.{append-nil}
use Rattle.std.proofs.lemmas.Option.{slice_get_within, slice_get_past}
use Rattle.ix_pikevm.specs.declared.cells.Event.{Event}
use Rattle.ix_pikevm.specs.declared.cells.Cell.{Cell}
use Rattle.ix_pikevm.specs.Code.{hist_in, histories, history}

pub get-left : {A : Type 0} (xs ys : List A) (k : ℕ) → k < length xs → slice_get (xs ++ ys) k ≡ slice_get xs k
get-left [] ys k h = absurd (omega arith)
get-left (x ∷ xs) ys zero h = refl
get-left (x ∷ xs) ys (suc k) h = get-left xs ys k (omega arith)

pub get-seam : {A : Type 0} (xs : List A) (y : A) (ys : List A) → slice_get (xs ++ y ∷ ys) (length xs) ≡ Some y
get-seam [] y ys = refl
get-seam (x ∷ xs) y ys = get-seam xs y ys

hist-left : (xs ys : List (List Event)) (t : ℕ) → t ≤ length xs → hist_in (xs ++ ys) t ≡ hist_in xs t
hist-left xs ys zero h = refl
hist-left xs ys (suc k) h = ap (λ o. unwrap_or o []) (get-left xs ys k (omega arith))

histories-length : (done : List (List Event)) (cells : List Cell) → length (histories done cells) ≡ length done + length cells
histories-length done [] = omega arith
histories-length done (c ∷ cells) =
    let a = histories-length (done ++ (c.event ∷ hist_in done c.earlier) ∷ []) cells in
    let b = length-append done ((c.event ∷ hist_in done c.earlier) ∷ []) in
    omega (arith, a, b)

-- those made before stay in front
histories-grow : (done : List (List Event)) (cells : List Cell) → (more : List (List Event)) × (histories done cells ≡ done ++ more)
histories-grow done [] = ([], sym (append-nil done))
histories-grow done (c ∷ cells) =
    let r = histories-grow (done ++ (c.event ∷ hist_in done c.earlier) ∷ []) cells in
    ((c.event ∷ hist_in done c.earlier) ∷ r.0, r.1 ∙ append_assoc done ((c.event ∷ hist_in done c.earlier) ∷ []) r.0)

histories-append : (done : List (List Event)) (xs ys : List Cell) → histories done (xs ++ ys) ≡ histories (histories done xs) ys
histories-append done [] ys = refl
histories-append done (x ∷ xs) ys = histories-append (done ++ (x.event ∷ hist_in done x.earlier) ∷ []) xs ys

pub history-stays : (xs ys : List Cell) (t : ℕ) → t ≤ length xs → history (xs ++ ys) t ≡ history xs t
history-stays xs ys t h =
    let g = histories-grow (histories [] xs) ys in
    let l = histories-length [] xs in
    ap (λ d. hist_in d t) (histories-append [] xs ys ∙ g.1) ∙ hist-left (histories [] xs) g.0 t (omega (arith, h, l))

at-seam : (d : List (List Event)) (l : List Event) (n : ℕ) → length d ≡ n → hist_in (d ++ l ∷ []) (n + 1) ≡ l
at-seam d l n e =
    ap (λ k. hist_in (d ++ l ∷ []) k) (let f : n + 1 ≡ suc (length d) = omega (arith, e) in f)
    ∙ ap (λ o. unwrap_or o []) (get-seam d l [])

pub history-newest : (xs : List Cell) (c : Cell) → history (xs ++ c ∷ []) (length xs + 1) ≡ c.event ∷ history xs c.earlier
history-newest xs c = ap (λ d. hist_in d (length xs + 1)) (histories-append [] xs (c ∷ []))
    ∙ at-seam (histories [] xs) (c.event ∷ hist_in (histories [] xs) c.earlier) (length xs) (let l = histories-length [] xs in
    omega (arith, l))

-- the trail of a cell is its event and the trail before
pub history-new : (xs ys : List Cell) (c : Cell) → c.earlier ≤ length xs →
    history ((xs ++ c ∷ []) ++ ys) (length xs + 1) ≡ c.event ∷ history ((xs ++ c ∷ []) ++ ys) c.earlier
history-new xs ys c h =
    history-stays (xs ++ c ∷ []) ys (length xs + 1) (omega (arith, length-append xs (c ∷ [])))
    ∙ history-newest xs c
    ∙ ap (λ l. c.event ∷ l) (sym (ap (λ l. history l c.earlier) (append_assoc xs (c ∷ []) ys) ∙ history-stays xs (c ∷ ys) c.earlier h))

pub history-past : (xs : List Cell) (t : ℕ) → length xs < t → history xs t ≡ []
history-past xs zero h = absurd (omega (arith, h))
history-past xs (suc k) h = ap (λ o. unwrap_or o []) (slice_get_past (histories [] xs) k (let l = histories-length [] xs in
    omega (arith, h, l)))

get-split : {A : Type 0} (xs : List A) (k : ℕ) (x : A) → slice_get xs k ≡ Some x → (xs ≡ (take k xs ++ x ∷ []) ++ drop (suc k) xs)
    × (length (take k xs) ≡ k)
get-split [] k x e = absurd (let h = slice_get_within [] k x e in omega (arith, h))
get-split (y ∷ xs) zero x e = (let f : y ≡ x = cc in ap (λ z. z ∷ xs) f, refl)
get-split (y ∷ xs) (suc k) x e = let r = get-split xs k x e in (ap (λ l. y ∷ l) r.0, ap suc r.1)

-- a trail leads on to an earlier one, or to none
abbrev pub earlier_than : ℕ → ℕ → ℕ
earlier_than t e = if nat_lt e t then e else 0

pub history-at : (cells : List Cell) (k t : ℕ) (c : Cell) → slice_get cells k ≡ Some c → t ≡ k + 1 → history cells t ≡ c.event
    ∷ history cells (earlier_than t c.earlier)
history-at cells k t c e is = split (nat_lt c.earlier t) refl
  where
    xs : List Cell
    xs = take k cells

    long : length (take k cells) ≡ k
    long = (get-split cells k c e).1

    whole : cells ≡ (take k cells ++ c ∷ []) ++ drop (suc k) cells
    whole = (get-split cells k c e).0

    at : t ≡ length (take k cells) + 1
    at = omega (arith, is, long)

    split : (b : Bool) → nat_lt c.earlier t ≡ b → history cells t ≡ c.event ∷ history cells (if b then c.earlier else 0)
    split true f =
        let le : c.earlier ≤ length (take k cells) = grind (arith, f, at) in
        ap (λ n. history cells n) at
        ∙ subst (λ l. history l (length (take k cells) + 1) ≡ c.event
        ∷ history l c.earlier) (sym whole) (history-new (take k cells) (drop (suc k) cells) c le)
    split false f =
        let gt : length (take k cells) < c.earlier = grind (arith, f, at) in
        ap (λ n. history cells n) at
        ∙ ap (λ l. history l (length (take k cells) + 1)) whole
        ∙ history-stays (take k cells ++ c ∷ []) (drop (suc k) cells) (length (take k cells) + 1)
        (omega (arith, length-append (take k cells) (c ∷ [])))
        ∙ history-newest (take k cells) c ∙ ap (λ l. c.event ∷ l) (history-past (take k cells) c.earlier gt)
