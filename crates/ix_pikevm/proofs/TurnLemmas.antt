-- Ways from places within the text, and turns.
use Rattle.std.proofs.Common.{◌≡◌, ℕ, zero, suc, ◌+◌, ◌<◌, ◌≤◌, Bool, true, false, List, [], ◌∷◌, ◌++◌, length, refl, sym, ◌∙◌, ap, arith}
use Rattle.std.proofs.Common.{append_assoc}
use Rattle.std.proofs.lemmas.List.{append-nil}
use Rattle.ix_pattern.specs.Piece.{Piece, least_length}
use Rattle.ix_pattern.specs.Ways.{Text, Reached, Way, ends_at, edge, onward, prefer, optional, ways}
use Rattle.ix_pattern.proofs.Ends.{EachEnd, Within, Takes, ways-ends}

pub onward-append : (next : Reached → List Way) (xs ys : List Way) → onward next (xs ++ ys) ≡ onward next xs ++ onward next ys
onward-append next [] ys = refl
onward-append next (edge ∷ xs) ys = ap (λ l. edge ∷ l) (onward-append next xs ys)
onward-append next (ends_at r ∷ xs) ys =
    ap (λ l. next r ++ l) (onward-append next xs ys) ∙ sym (append_assoc (next r) (onward next xs) (onward next ys))

pub onward-onward : (next first : Reached → List Way) (xs : List Way) →
    onward next (onward first xs) ≡ onward (λ e. onward next (first e)) xs
onward-onward next first [] = refl
onward-onward next first (edge ∷ xs) = ap (λ l. edge ∷ l) (onward-onward next first xs)
onward-onward next first (ends_at r ∷ xs) =
    onward-append next (first r) (onward first xs) ∙ ap (λ l. onward next (first r) ++ l) (onward-onward next first xs)

-- what leads on may be replaced by what is the same at each end
pub onward-each : (P : Reached → Type 0) (f g : Reached → List Way) (xs : List Way) → EachEnd P xs → ((r : Reached) → P r → f r ≡ g r) →
    onward f xs ≡ onward g xs
onward-each P f g [] p h = refl
onward-each P f g (edge ∷ xs) p h = ap (λ l. edge ∷ l) (onward-each P f g xs p h)
onward-each P f g (ends_at r ∷ xs) p h = ap (λ l. l ++ onward f xs) (h r p.0) ∙ ap (λ l. g r ++ l) (onward-each P f g xs p.1 h)

-- the same, behind a piece
pub onward-piece : (piece : Piece) (text : Text) (f g : Reached → List Way) (r : Reached) → r.place ≤ length text.bytes →
    ((e : Reached) → e.place ≤ length text.bytes → f e ≡ g e) → onward f (ways piece text r) ≡ onward g (ways piece text r)
onward-piece piece text f g r h same =
    onward-each (Within text (r.place + least_length piece)) f g (ways piece text r) (ways-ends piece text r h) (λ e w. same e w.high)

-- more turns than bytes are left are no more
pub optional-enough : (text : Text) (lazy : Bool) (turn : Reached → List Way) (l : ℕ) → 0 < l → Takes text l turn → (n : ℕ) (r : Reached) →
    r.place ≤ length text.bytes → length text.bytes < n + r.place → optional lazy turn n r ≡ optional lazy turn (suc n) r
optional-enough text lazy turn l some takes zero r h lt = absurd (omega (arith, h, lt))
optional-enough text lazy turn l some takes (suc n) r h lt =
    ap (prefer lazy (ends_at r ∷ []))
    (onward-each (Within text (r.place + l)) (optional lazy turn n) (optional lazy turn (suc n)) (turn r) (takes r h)
    (λ e w. optional-enough text lazy turn l some takes n e w.high (omega (arith, lt, some, w.low))))

-- a turn, and any number of further ones
pub star-turn : (piece : Piece) (text : Text) (lazy : Bool) (r : Reached) → 0 < least_length piece → r.place ≤ length text.bytes →
    optional lazy (ways piece text) (suc (length text.bytes)) r
    ≡ prefer lazy (ends_at r ∷ []) (onward (optional lazy (ways piece text) (suc (length text.bytes))) (ways piece text r))
star-turn piece text lazy r some h =
    ap (prefer lazy (ends_at r ∷ []))
    (onward-each (Within text (r.place + least_length piece)) (optional lazy (ways piece text) (length text.bytes))
    (optional lazy (ways piece text) (suc (length text.bytes)))
    (ways piece text r) (ways-ends piece text r h)
    (λ e w. optional-enough text lazy (ways piece text) (least_length piece) some (ways-ends piece text) (length text.bytes) e w.high
    (omega (arith, some, w.low))))

pub onward-prefer : (next : Reached → List Way) (lazy : Bool) (r : Reached) (more : List Way) →
    onward next (prefer lazy (ends_at r ∷ []) more) ≡ prefer lazy (next r) (onward next more)
onward-prefer next true r more = refl
onward-prefer next false r more = onward-append next more (ends_at r ∷ []) ∙ ap (λ l. onward next more ++ l) (append-nil (next r))
