-- The list of a text that is continued or closed.
use Rattle.std.proofs.Common.{◌≡◌, ℕ, zero, suc, ◌+◌, ◌-◌, ◌<◌, ◌≤◌, Bool, true, false, List, [], ◌∷◌, ◌++◌, length, take, Option, Some}
use Rattle.std.proofs.Common.{None, if◌then◌else◌, refl, sym, ◌∙◌, ap, arith, nat_le, ◌&&◌, ◌⊎◌, inl, inr, append_assoc}
use Rattle.std.specs.Prelude.{slice_get, ◌==◌}
use Rattle.std.proofs.lemmas.Option.{slice_get_within}
use Rattle.std.proofs.lemmas.List.{append-nil, length-append, take-append-le, length-take-le}
use Rattle.std.proofs.Math.Seq.{take-append-add}
use Rattle.std.proofs.lemmas.Bool.{leb-true, leb-false, le-leb}
use Rattle.std.proofs.lemmas.Bool.Decides.{Decides-eqb}
use Rattle.ix_pattern.specs.Piece.{nothing, byte_in, start, finish, word, seq, either, count, group, ahead, in_set, least_length}
use Rattle.ix_pattern.specs.Ways.{Text, Reached, Way, ends_at, edge, onward, required, prefer, optional, byte_before, at_end, here}
use Rattle.ix_pattern.specs.Ways.{byte_ways, is_start, finish_ways, is_word_byte, is_word, differ, word_ways, sight, look, close_group}
use Rattle.ix_pattern.specs.Ways.{ways}
use Rattle.ix_pattern.specs.Laws.{Continues, Refines, EdgesAreReplaced}
use Rattle.ix_pattern.proofs.Ends.{EachEnd, Within, Takes, ways-ends}

pub Refines-refl : (xs : List Way) → Refines xs xs
Refines-refl [] = refl
Refines-refl (ends_at r ∷ xs) = (xs, refl, Refines-refl xs)
Refines-refl (edge ∷ xs) = (edge ∷ [], xs, refl, Refines-refl xs)

pub Refines-append : (xs ys xs' ys' : List Way) → Refines xs ys → Refines xs' ys' → Refines (xs ++ xs') (ys ++ ys')
Refines-append [] ys xs' ys' p q = rw p q
Refines-append (ends_at r ∷ xs) ys xs' ys' p q =
    (p.0 ++ ys', ap (λ l. l ++ ys') p.1, Refines-append xs p.0 xs' ys' p.2 q)
Refines-append (edge ∷ xs) ys xs' ys' p q =
    (p.0, p.1 ++ ys', ap (λ l. l ++ ys') p.2 ∙ append_assoc p.0 p.1 ys', Refines-append xs p.1 xs' ys' p.3 q)

onward-append : (next : Reached → List Way) (xs ys : List Way) → onward next (xs ++ ys) ≡ onward next xs ++ onward next ys
onward-append next [] ys = refl
onward-append next (edge ∷ xs) ys = ap (λ l. edge ∷ l) (onward-append next xs ys)
onward-append next (ends_at r ∷ xs) ys =
    ap (λ l. next r ++ l) (onward-append next xs ys) ∙ sym (append_assoc (next r) (onward next xs) (onward next ys))

pub Refines-onward : (P : Reached → Type 0) (f g : Reached → List Way) (xs ys : List Way) → EachEnd P xs → Refines xs ys →
    ((r : Reached) → P r → Refines (f r) (g r)) → Refines (onward f xs) (onward g ys)
Refines-onward P f g [] ys e p h = rw p refl
Refines-onward P f g (ends_at r ∷ xs) ys e p h =
    rw p.1 (Refines-append (f r) (g r) (onward f xs) (onward g p.0) (h r e.0) (Refines-onward P f g xs p.0 e.1 p.2 h))
Refines-onward P f g (edge ∷ xs) ys e p h =
    (onward g p.0, onward g p.1, ap (onward g) p.2 ∙ onward-append g p.0 p.1, Refines-onward P f g xs p.1 e p.3 h)

Refines-edge : (ys : List Way) → Refines (edge ∷ []) ys
Refines-edge ys = (ys, [], sym (append-nil ys), refl)

Refines-prefer : (lazy : Bool) (stop more more' : List Way) → Refines more more' → Refines (prefer lazy stop more) (prefer lazy stop more')
Refines-prefer true stop more more' p = Refines-append stop stop more more' (Refines-refl stop) p
Refines-prefer false stop more more' p = Refines-append more more' stop stop p (Refines-refl stop)

-- from a place within the text
abbrev pub Improves : Text → (Reached → List Way) → (Reached → List Way) → Type 0
Improves text f g = (r : Reached) → r.place ≤ length text.bytes → Refines (f r) (g r)

required-improves : (text : Text) (l : ℕ) (turn turn' next next' : Reached → List Way) → Takes text l turn →
    Improves text turn turn' → Improves text next next' → (n : ℕ) → Improves text (required turn n next) (required turn' n next')
required-improves text l turn turn' next next' takes p q zero r h = q r h
required-improves text l turn turn' next next' takes p q (suc n) r h =
    Refines-onward (Within text (r.place + l)) (required turn n next) (required turn' n next') (turn r) (turn' r) (takes r h) (p r h)
    (λ e w. required-improves text l turn turn' next next' takes p q n e w.high)

-- the same number of turns
limited-improves : (text : Text) (lazy : Bool) (l : ℕ) (turn turn' : Reached → List Way) → Takes text l turn →
    Improves text turn turn' → (n : ℕ) → Improves text (optional lazy turn n) (optional lazy turn' n)
limited-improves text lazy l turn turn' takes p zero r h = Refines-refl (ends_at r ∷ [])
limited-improves text lazy l turn turn' takes p (suc n) r h =
    Refines-prefer lazy (ends_at r ∷ []) (onward (optional lazy turn n) (turn r)) (onward (optional lazy turn' n) (turn' r))
    (Refines-onward (Within text (r.place + l)) (optional lazy turn n) (optional lazy turn' n) (turn r) (turn' r) (takes r h) (p r h)
    (λ e w. limited-improves text lazy l turn turn' takes p n e w.high))

-- two numbers of turns that are both above what is left, where each turn takes a byte
unlimited-improves : (text longer : Text) (lazy : Bool) (l : ℕ) (turn turn' : Reached → List Way) → 0 < l → Takes text l turn →
    Improves text turn turn' → (n m : ℕ) (r : Reached) → r.place ≤ length text.bytes →
    length text.bytes < r.place + n → length text.bytes < r.place + m →
    Refines (optional lazy turn n r) (optional lazy turn' m r)
unlimited-improves text longer lazy l turn turn' pos takes p zero m r h a b = absurd (omega arith)
unlimited-improves text longer lazy l turn turn' pos takes p (suc n) zero r h a b = absurd (omega arith)
unlimited-improves text longer lazy l turn turn' pos takes p (suc n) (suc m) r h a b =
    Refines-prefer lazy (ends_at r ∷ []) (onward (optional lazy turn n) (turn r)) (onward (optional lazy turn' m) (turn' r))
    (Refines-onward (Within text (r.place + l)) (optional lazy turn n) (optional lazy turn' m) (turn r) (turn' r) (takes r h) (p r h)
    (λ e w. unlimited-improves text longer lazy l turn turn' pos takes p n m e w.high (omega (arith, w.low)) (omega (arith, w.low))))

slice_get-append : (xs ys : List ℕ) (k : ℕ) → k < length xs → slice_get (xs ++ ys) k ≡ slice_get xs k
slice_get-append [] ys k h = absurd (omega arith)
slice_get-append (x ∷ xs) ys zero h = refl
slice_get-append (x ∷ xs) ys (suc k) h = slice_get-append xs ys k (omega arith)

same-get : (text longer : Text) → Continues text longer → (k : ℕ) → k < length text.bytes →
    slice_get longer.bytes k ≡ slice_get text.bytes k
same-get text longer c k h = ap (λ l. slice_get l k) c.bytes ∙ slice_get-append text.bytes c.more k h

same-before : (text longer : Text) → Continues text longer → (k : ℕ) → k ≤ length text.bytes →
    byte_before longer.before longer.bytes k ≡ byte_before text.before text.bytes k
same-before text longer c zero h = c.before
same-before text longer c (suc k) h = same-get text longer c k (omega arith)

at_end-improves : (text : Text) (xs ys : List Way) → text.unfinished ≡ true → Refines (at_end text xs) ys
at_end-improves text xs ys e = rw e (Refines-edge ys)

-- a step that looks at one byte
byte-step : (f g : Option ℕ → List Way) (text longer : Text) → Continues text longer → (k : ℕ) →
    ((ys : List Way) → Refines (f None) ys) → ((b : ℕ) → slice_get text.bytes k ≡ Some b → Refines (f (Some b)) (g (Some b))) →
    Refines (f (slice_get text.bytes k)) (g (slice_get longer.bytes k))
byte-step f g text longer c k at_edge at_byte = by (slice_get text.bytes k) refl
  where
    by : (o : Option ℕ) → slice_get text.bytes k ≡ o → Refines (f o) (g (slice_get longer.bytes k))
    by None e = at_edge (g (slice_get longer.bytes k))
    by (Some b) e =
        let lt : k < length text.bytes = slice_get_within text.bytes k b e in
        let same : slice_get longer.bytes k ≡ Some b = same-get text longer c k lt ∙ e in
        rw same (at_byte b e)

finish-improves : (lines : Bool) (text longer : Text) → Continues text longer → (r : Reached) (b : ℕ) →
    slice_get text.bytes r.place ≡ Some b →
    Refines (finish_ways lines text r (Some b)) (finish_ways lines longer r (Some b))
finish-improves true text longer c r b e = Refines-refl (here (b == 10) r)
finish-improves false text longer c r b e =
    last (b == 10) (r.place + 1 == length text.bytes) (r.place + 1 == length longer.bytes)
    (λ v. (Decides-eqb (r.place + 1) (length text.bytes)).1
    (omega (
      arith,
      (Decides-eqb (r.place + 1) (length longer.bytes)).0 v,
      slice_get_within text.bytes r.place b e,
      ap length c.bytes,
      length-append text.bytes c.more,
    )))
  where
    last : (t u v : Bool) → (v ≡ true → u ≡ true) →
        Refines (if t && u then at_end text (ends_at r ∷ []) else []) (if t && v then at_end longer (ends_at r ∷ []) else [])
    last true true v p = at_end-improves text (ends_at r ∷ []) (if v then at_end longer (ends_at r ∷ []) else []) c.unfinished
    last true false true p = absurd (let e' : false ≡ true = p refl in cc)
    last true false false p = refl
    last false u v p = refl

pub sight-improves : (n : ℕ) (text longer : Text) → Continues text longer →
    (sight n text ≡ sight n longer) ⊎ Continues (sight n text) (sight n longer)
sight-improves n text longer c = by (nat_le n (length text.bytes)) refl (nat_le n (length longer.bytes)) refl
  where
    all : length longer.bytes ≡ length text.bytes + length c.more
    all = ap length c.bytes ∙ length-append text.bytes c.more

    by : (a : Bool) → nat_le n (length text.bytes) ≡ a → (b : Bool) → nat_le n (length longer.bytes) ≡ b →
        ((if a then record text { bytes = take n text.bytes; unfinished = false } else text)
        ≡ (if b then record longer { bytes = take n longer.bytes; unfinished = false } else longer))
        ⊎ Continues (if a then record text { bytes = take n text.bytes; unfinished = false } else text)
        (if b then record longer { bytes = take n longer.bytes; unfinished = false } else longer)
    by true ea true eb =
        let h : n ≤ length text.bytes = leb-true n (length text.bytes) ea in
        inl (rw (c.before, c.bytes, take-append-le) refl)
    by true ea false eb =
        let h : n ≤ length text.bytes = leb-true n (length text.bytes) ea in
        absurd (let t : nat_le n (length longer.bytes) ≡ true = le-leb n (length longer.bytes) (omega (arith, all)) in cc)
    by false ea true eb =
        let h : length text.bytes < n = leb-false n (length text.bytes) ea in
        inr (record {
          unfinished = c.unfinished;
          before = c.before;
          more = take (n - length text.bytes) c.more;
          bytes =
              ap (take n) c.bytes
              ∙ ap (λ m. take m (text.bytes ++ c.more)) (omega arith)
              ∙ take-append-add text.bytes c.more (n - length text.bytes);
        })
    by false ea false eb = inr c

pub sight-room : (n : ℕ) (text : Text) (k : ℕ) → k ≤ n → k ≤ length text.bytes → k ≤ length (sight n text).bytes
sight-room n text k a b = by (nat_le n (length text.bytes)) refl
  where
    by : (t : Bool) → nat_le n (length text.bytes) ≡ t →
        k ≤ length (if t then record text { bytes = take n text.bytes; unfinished = false } else text).bytes
    by true e = omega (arith, length-take-le n text.bytes (leb-true n (length text.bytes) e))
    by false e = b

look-improves : (wanted : Bool) (r : Reached) (xs ys : List Way) → Refines xs ys → Refines (look wanted r xs) (look wanted r ys)
look-improves true r [] ys p = rw p refl
look-improves false r [] ys p = rw p (Refines-refl (ends_at r ∷ []))
look-improves true r (ends_at e ∷ xs) ys p = rw p.1 (Refines-refl (ends_at r ∷ []))
look-improves false r (ends_at e ∷ xs) ys p = rw p.1 refl
look-improves true r (edge ∷ xs) ys p = Refines-edge (look true r ys)
look-improves false r (edge ∷ xs) ys p = Refines-edge (look false r ys)

pub edges-replaced : EdgesAreReplaced
unfolding ways least_length
edges-replaced nothing sound text longer c r h = Refines-refl (ends_at r ∷ [])
edges-replaced (byte_in set) sound text longer c r h =
    byte-step (byte_ways set text r) (byte_ways set longer r) text longer c r.place
    (λ ys. at_end-improves text [] ys c.unfinished)
    (λ b e. Refines-refl (here (in_set set b) (record r { place = r.place + 1 })))
edges-replaced (start lines) sound text longer c r h =
    rw (same-before text longer c r.place h) (Refines-refl (here (is_start lines (byte_before text.before text.bytes r.place)) r))
edges-replaced (finish lines) sound text longer c r h =
    byte-step (finish_ways lines text r) (finish_ways lines longer r) text longer c r.place
    (λ ys. at_end-improves text (ends_at r ∷ []) ys c.unfinished)
    (λ b e. finish-improves lines text longer c r b e)
edges-replaced word sound text longer c r h =
    byte-step (word_ways text r) (word_ways longer r) text longer c r.place
    (λ ys. at_end-improves text (here (is_word (byte_before text.before text.bytes r.place)) r) ys c.unfinished)
    (λ b e. rw (same-before text longer c r.place h) (Refines-refl
    (here (differ (is_word (byte_before text.before text.bytes r.place)) (is_word_byte b)) r)))
edges-replaced (seq first rest) sound text longer c r h =
    Refines-onward (Within text (r.place + least_length first)) (ways rest text) (ways rest longer) (ways first text r)
    (ways first longer r)
    (ways-ends first text r h) (edges-replaced first sound.0 text longer c r h)
    (λ e w. edges-replaced rest sound.1 text longer c e w.high)
edges-replaced (either first other) sound text longer c r h =
    Refines-append (ways first text r) (ways first longer r) (ways other text r) (ways other longer r)
    (edges-replaced first sound.0 text longer c r h) (edges-replaced other sound.1 text longer c r h)
edges-replaced (count inside least (Some most) lazy) sound text longer c r h =
    required-improves text (least_length inside) (ways inside text) (ways inside longer)
    (optional lazy (ways inside text) (most - least)) (optional lazy (ways inside longer) (most - least))
    (ways-ends inside text) (edges-replaced inside sound.0 text longer c)
    (limited-improves text lazy (least_length inside) (ways inside text) (ways inside longer) (ways-ends inside text)
    (edges-replaced inside sound.0 text longer c) (most - least))
    least r h
edges-replaced (count inside least None lazy) sound text longer c r h =
    required-improves text (least_length inside) (ways inside text) (ways inside longer)
    (optional lazy (ways inside text) (suc (length text.bytes))) (optional lazy (ways inside longer) (suc (length longer.bytes)))
    (ways-ends inside text) (edges-replaced inside sound.0 text longer c)
    (λ e w. unlimited-improves text longer lazy (least_length inside) (ways inside text) (ways inside longer) sound.1
    (ways-ends inside text)
    (edges-replaced inside sound.0 text longer c) (suc (length text.bytes)) (suc (length longer.bytes)) e w
    (omega arith) (omega (arith, ap length c.bytes, length-append text.bytes c.more)))
    least r h
edges-replaced (group number inside) sound text longer c r h =
    Refines-onward (Within text (r.place + least_length inside)) (close_group number r.place) (close_group number r.place)
    (ways inside text r) (ways inside longer r) (ways-ends inside text r h) (edges-replaced inside sound text longer c r h)
    (λ e w. Refines-refl (close_group number r.place e))
edges-replaced (ahead inside wanted) sound text longer c r h =
    look-improves wanted r (ways inside (sight (r.place + 255) text) r) (ways inside (sight (r.place + 255) longer) r)
    (elim (sight-improves (r.place + 255) text longer c) [
      | inl e ↦ rw e (Refines-refl (ways inside (sight (r.place + 255) longer) r))
      | inr d ↦ edges-replaced inside sound.0 (sight (r.place + 255) text) (sight (r.place + 255) longer) d r
          (sight-room (r.place + 255) text r.place (omega arith) h)
    ])
