-- Places at which no match begins.
use Rattle.std.proofs.Common.{◌≡◌, ℕ, zero, suc, ◌+◌, ◌≤◌, ◌<◌, Bool, true, false, ◌&&◌, ◌||◌, if◌then◌else◌, List, [], ◌∷◌, ◌++◌, length}
use Rattle.std.proofs.Common.{drop, append_assoc, eqb, Option, Some, None, refl, sym, ◌∙◌, ap, subst, arith}
use Rattle.std.specs.Prelude.{slice_get, replicate, ◌==◌}
use Rattle.std.proofs.lemmas.Option.{slice_get-get_or, slice_get_past}
use Rattle.std.proofs.lemmas.List.{append-nil}
use Rattle.ix_pattern.specs.Piece.{Piece, nothing, byte_in, start, finish, word, seq, either, count, group, ahead, in_set}
use Rattle.ix_pattern.specs.Ways.{Text, Reached, Way, ends_at, edge, onward, required, prefer, optional, further_turns, byte_before}
use Rattle.ix_pattern.specs.Ways.{at_end, here, byte_ways, is_start, finish_ways, is_word, is_word_byte, differ, word_ways, sight, look}
use Rattle.ix_pattern.specs.Ways.{close_group, ways}
use Rattle.ix_pattern.specs.declared.pattern.Node.TheVariants.{Bytes}
use Rattle.ix_pattern.specs.Rows.{Rows, Shape, piece_at, tree, node_at, set_at}
use Rattle.ix_pikevm.proofs.StepLemmas.{drop-get}
use Rattle.ix_pikevm.proofs.TurnLemmas.{onward-append, onward-onward, onward-prefer}
use Rattle.ix_match.specs.Fronts.{passes, fronts, anchored, in_one, ArePieces, Came, Opens}
use Rattle.ix_match.specs.declared.first_pieces.Opening.TheVariants.{Byte, Empty, Inside, Sequence, Choice}
use Rattle.ix_match.specs.Matches.{closed, ways_from}
use Rattle.ix_match.proofs.ClosedLemmas.{Known, all-known, sight-closed}

true-ne-false : true ≡ false → ⊥
true-ne-false e = grind (arith, e)

or-first : (a b : Bool) → (a || b) ≡ false → a ≡ false
or-first true b e = e
or-first false b e = refl

or-other : (a b : Bool) → (a || b) ≡ false → b ≡ false
or-other true b e = absurd (true-ne-false e)
or-other false b e = e

or-left : (a b : Bool) → a ≡ true → (a || b) ≡ true
or-left a b e = ap (λ c. c || b) e

or-right : (a b : Bool) → b ≡ true → (a || b) ≡ true
or-right true b e = refl
or-right false b e = e

and-both : (a b : Bool) → a ≡ true → b ≡ true → (a && b) ≡ true
and-both a b e f = ap (λ c. c && b) e ∙ f

none-first : (o : Option ℕ) (xs ys : List (List Bool)) → in_one o (xs ++ ys) ≡ false → in_one o xs ≡ false
none-first None xs ys e = refl
none-first (Some b) [] ys e = refl
none-first (Some b) (set ∷ xs) ys e =
    ap (λ c. c || in_one (Some b) xs) (or-first (in_set set b) (in_one (Some b) (xs ++ ys)) e)
    ∙ none-first (Some b) xs ys (or-other (in_set set b) (in_one (Some b) (xs ++ ys)) e)

none-other : (o : Option ℕ) (xs ys : List (List Bool)) → in_one o (xs ++ ys) ≡ false → in_one o ys ≡ false
none-other None xs ys e = refl
none-other (Some b) [] ys e = e
none-other (Some b) (set ∷ xs) ys e = none-other (Some b) xs ys (or-other (in_set set b) (in_one (Some b) (xs ++ ys)) e)

-- nothing leads on from this place
abbrev pub Silent : (Reached → List Way) → ℕ → Type 0
Silent next place = (s : Reached) → s.place ≡ place → next s ≡ []

pub here-silent : (next : Reached → List Way) (r : Reached) (test : Bool) → next r ≡ [] → onward next (here test r) ≡ []
here-silent next r true e = ap (λ l. l ++ []) e
here-silent next r false e = refl

end-silent : (next : Reached → List Way) (u : Bool) (xs : List Way) → u ≡ false → onward next xs ≡ [] →
    onward next (if u then edge ∷ [] else xs) ≡ []
end-silent next true xs closed e = absurd (true-ne-false closed)
end-silent next false xs closed e = e

byte-silent : (next : Reached → List Way) (set : List Bool) (text : Text) (r : Reached) (o : Option ℕ) → text.unfinished ≡ false →
    in_one o (set ∷ []) ≡ false →
    onward next (byte_ways set text r o) ≡ []
byte-silent next set text r None u e = end-silent next text.unfinished [] u refl
byte-silent next set text r (Some b) u e = ap (λ t. onward next (here t (record r { place = r.place + 1 })))
    (or-first (in_set set b) false e)

finish-silent : (next : Reached → List Way) (lines : Bool) (text : Text) (r : Reached) (o : Option ℕ) → text.unfinished ≡ false →
    next r ≡ [] →
    onward next (finish_ways lines text r o) ≡ []
finish-silent next lines text r None u e = end-silent next text.unfinished (ends_at r ∷ []) u (ap (λ l. l ++ []) e)
finish-silent next true text r (Some b) u e = here-silent next r (b == 10) e
finish-silent next false text r (Some b) u e = last ((b == 10) && (r.place + 1 == length text.bytes))
  where
    last : (test : Bool) → onward next (if test then at_end text (ends_at r ∷ []) else []) ≡ []
    last true = end-silent next text.unfinished (ends_at r ∷ []) u (ap (λ l. l ++ []) e)
    last false = refl

word-silent : (next : Reached → List Way) (text : Text) (r : Reached) (o : Option ℕ) → text.unfinished ≡ false → next r ≡ [] →
    onward next (word_ways text r o) ≡ []
word-silent next text r None u e =
    end-silent next text.unfinished (here (is_word (byte_before text.before text.bytes r.place)) r) u
    (here-silent next r (is_word (byte_before text.before text.bytes r.place)) e)
word-silent next text r (Some b) u e = here-silent next r (differ (is_word (byte_before text.before text.bytes r.place)) (is_word_byte b)) e

look-silent : (next : Reached → List Way) (wanted : Bool) (r : Reached) (xs : List Way) → Known xs → next r ≡ [] →
    onward next (look wanted r xs) ≡ []
look-silent next true r [] k e = refl
look-silent next true r (ends_at s ∷ xs) k e = ap (λ l. l ++ []) e
look-silent next true r (edge ∷ xs) k e = absurd k
look-silent next false r [] k e = ap (λ l. l ++ []) e
look-silent next false r (ends_at s ∷ xs) k e = refl
look-silent next false r (edge ∷ xs) k e = absurd k

prefer-none : (lazy : Bool) (xs ys : List Way) → xs ≡ [] → ys ≡ [] → prefer lazy xs ys ≡ []
prefer-none true xs ys e f = rw (e, f) refl
prefer-none false xs ys e f = rw (e, f) refl

-- a turn from this place leads nowhere, where nothing leads on from there or it takes a byte
abbrev pub Turns : Bool → (Reached → List Way) → ℕ → Type 0
Turns empty turn place = (next : Reached → List Way) (s : Reached) → s.place ≡ place → (empty ≡ true → Silent next place) →
    onward next (turn s) ≡ []

optional-silent : (empty lazy : Bool) (turn next : Reached → List Way) (place : ℕ) → Turns empty turn place → Silent next place →
    (n : ℕ) (s : Reached) → s.place ≡ place → onward next (optional lazy turn n s) ≡ []
optional-silent empty lazy turn next place t q zero s at = ap (λ l. l ++ []) (q s at)
optional-silent empty lazy turn next place t q (suc n) s at =
    onward-prefer next lazy s (onward (optional lazy turn n) (turn s))
    ∙ prefer-none lazy (next s) (onward next (onward (optional lazy turn n) (turn s))) (q s at)
    (onward-onward next (optional lazy turn n) (turn s)
    ∙ t (λ e. onward next (optional lazy turn n e)) s at (λ empty-is e there. optional-silent empty lazy turn next place t q n e there))

required-silent : (empty : Bool) (turn base next : Reached → List Way) (place : ℕ) → Turns empty turn place →
    ((s : Reached) → s.place ≡ place → onward next (base s) ≡ []) → (n : ℕ) (s : Reached) → s.place ≡ place →
    onward next (required turn n base s) ≡ []
required-silent empty turn base next place t q zero s at = q s at
required-silent empty turn base next place t q (suc n) s at =
    onward-onward next (required turn n base) (turn s)
    ∙ t (λ e. onward next (required turn n base e)) s at (λ empty-is e there. required-silent empty turn base next place t q n e there)

-- from a place whose byte is not in the front of a piece nothing leads on, but where the piece may
-- take none
pub no-front : (piece : Piece) (text : Text) (next : Reached → List Way) (r : Reached) → text.unfinished ≡ false →
    in_one (slice_get text.bytes r.place) (fronts piece) ≡ false → (passes piece ≡ true → Silent next r.place) →
    onward next (ways piece text r) ≡ []
unfolding ways passes fronts
no-front nothing text next r u n q = ap (λ l. l ++ []) (q refl r refl)
no-front (byte_in set) text next r u n q = byte-silent next set text r (slice_get text.bytes r.place) u n
no-front (start lines) text next r u n q = here-silent next r (is_start lines (byte_before text.before text.bytes r.place)) (q refl r refl)
no-front (finish lines) text next r u n q = finish-silent next lines text r (slice_get text.bytes r.place) u (q refl r refl)
no-front word text next r u n q = word-silent next text r (slice_get text.bytes r.place) u (q refl r refl)
no-front (seq first rest) text next r u n q =
    onward-onward next (ways rest text) (ways first text r)
    ∙ no-front first text (λ e. onward next (ways rest text e)) r u
    (none-first (slice_get text.bytes r.place) (fronts first) (if passes first then fronts rest else []) n)
    (λ empty s at. no-front rest text next s u
    (ap (λ k. in_one (slice_get text.bytes k) (fronts rest)) at
    ∙ ap (λ t. in_one (slice_get text.bytes r.place) (if t then fronts rest else [])) (sym empty)
    ∙ none-other (slice_get text.bytes r.place) (fronts first) (if passes first then fronts rest else []) n)
    (λ rest-empty t there. q (and-both (passes first) (passes rest) empty rest-empty) t (there ∙ at)))
no-front (either first other) text next r u n q =
    onward-append next (ways first text r) (ways other text r)
    ∙ ap (λ l. l ++ onward next (ways other text r))
    (no-front first text next r u (none-first (slice_get text.bytes r.place) (fronts first) (fronts other) n)
    (λ e. q (or-left (passes first) (passes other) e)))
    ∙ no-front other text next r u (none-other (slice_get text.bytes r.place) (fronts first) (fronts other) n)
    (λ e. q (or-right (passes first) (passes other) e))
no-front (count inside zero most lazy) text next r u n q =
    optional-silent (passes inside) lazy (ways inside text) next r.place
    (λ f s at p. no-front inside text f s u (ap (λ k. in_one (slice_get text.bytes k) (fronts inside)) at
    ∙ n) (λ e t there. p e t (there ∙ at)))
    (q refl) (further_turns text zero most) r refl
no-front (count inside (suc least) most lazy) text next r u n q =
    onward-onward next (required (ways inside text) least (optional lazy (ways inside text) (further_turns text (suc least) most)))
    (ways inside text r)
    ∙ no-front inside text (λ e. onward next (required (ways inside text) least
    (optional lazy (ways inside text) (further_turns text (suc least) most)) e)) r u n
    (λ empty s at. required-silent (passes inside) (ways inside text)
    (optional lazy (ways inside text) (further_turns text (suc least) most)) next r.place
    (λ f t there p. no-front inside text f t u (ap (λ k. in_one (slice_get text.bytes k) (fronts inside)) there
    ∙ n) (λ e v here. p e v (here ∙ there)))
    (λ t there. optional-silent (passes inside) lazy (ways inside text) next r.place
    (λ f v here p. no-front inside text f v u (ap (λ k. in_one (slice_get text.bytes k) (fronts inside)) here
    ∙ n) (λ e w now. p e w (now ∙ here)))
    (q empty) (further_turns text (suc least) most) t there)
    least s at)
no-front (group number inside) text next r u n q =
    onward-onward next (close_group number r.place) (ways inside text r)
    ∙ no-front inside text (λ e. onward next (close_group number r.place e)) r u n (λ empty s at. ap (λ l. l ++ []) (q empty _ at))
no-front (ahead inside wanted) text next r u n q =
    look-silent next wanted r (ways inside (sight (r.place + 255) text) r)
    (all-known inside (sight (r.place + 255) text) (sight-closed (r.place + 255) text u) r) (q refl r refl)

abbrev stop : Reached → List Way
stop r = ends_at r ∷ []

onward-stop : (xs : List Way) → onward stop xs ≡ xs
onward-stop [] = refl
onward-stop (edge ∷ xs) = ap (λ l. edge ∷ l) (onward-stop xs)
onward-stop (ends_at r ∷ xs) = ap (λ l. ends_at r ∷ l) (onward-stop xs)

-- no match begins where a match takes a byte, and that is none with which it may begin
pub none-at : (p : Shape) (text : List ℕ) (place : ℕ) → passes (tree p.rows) ≡ false →
    in_one (slice_get text place) (fronts (tree p.rows)) ≡ false → ways_from p text place ≡ []
none-at p text place takes n =
    sym (onward-stop (ways_from p text place))
    ∙ no-front (tree p.rows) (closed text) stop (record { place = place; groups = replicate p.groups None }) refl n
    (λ e. absurd (true-ne-false (sym e ∙ takes)))

pub anchored-none : (piece : Piece) (text : Text) (r : Reached) (b : ℕ) → byte_before text.before text.bytes r.place ≡ Some b →
    anchored piece ≡ true → ways piece text r ≡ []
unfolding ways anchored
anchored-none nothing text r b e a = absurd (true-ne-false (sym a))
anchored-none (byte_in set) text r b e a = absurd (true-ne-false (sym a))
anchored-none (start true) text r b e a = absurd (true-ne-false (sym a))
anchored-none (start false) text r b e a = ap (λ o. here (is_start false o) r) e
anchored-none (finish lines) text r b e a = absurd (true-ne-false (sym a))
anchored-none word text r b e a = absurd (true-ne-false (sym a))
anchored-none (seq first rest) text r b e a = ap (onward (ways rest text)) (anchored-none first text r b e a)
anchored-none (either first other) text r b e a = absurd (true-ne-false (sym a))
anchored-none (count inside zero most lazy) text r b e a = absurd (true-ne-false (sym a))
anchored-none (count inside (suc least) most lazy) text r b e a =
    ap (onward (required (ways inside text) least (optional lazy (ways inside text) (further_turns text (suc least) most))))
    (anchored-none inside text r b e a)
anchored-none (group number inside) text r b e a = ap (onward (close_group number r.place)) (anchored-none inside text r b e a)
anchored-none (ahead inside wanted) text r b e a = absurd (true-ne-false (sym a))

-- no match begins behind the start of the text, where it is held there
pub none-behind : (p : Shape) (text : List ℕ) (place : ℕ) → anchored (tree p.rows) ≡ true → 0 < place → place ≤ length text →
    ways_from p text place ≡ []
none-behind p text zero a some h = absurd (omega (arith, some))
none-behind p text (suc k) a some h =
    anchored-none (tree p.rows) (closed text) (record { place = suc k; groups = replicate p.groups None }) _
    (slice_get-get_or text k 0 (omega (arith, h))) a

-- one place more has no byte of the front
pub none-more : (sets : List (List Bool)) (text : List ℕ) (from at b : ℕ) (found : Bool) → slice_get text at ≡ Some b →
    found ≡ in_one (Some b) sets → found ≡ false →
    ((k : ℕ) → from ≤ k → k < at → in_one (slice_get text k) sets ≡ false) → (k : ℕ) → from ≤ k → k < at + 1 →
    in_one (slice_get text k) sets ≡ false
none-more sets text from at b found got is not-found old k low high = by (eqb k at) refl
  where
    by : (t : Bool) → eqb k at ≡ t → in_one (slice_get text k) sets ≡ false
    by true e =
        let here : k ≡ at = grind (arith, e) in
        ap (λ j. in_one (slice_get text j) sets) here ∙ ap (λ o. in_one o sets) got ∙ sym is ∙ not-found
    by false e = old k low (let lt : k < at = grind (arith, high, e) in lt)

-- no match begins from here on
pub none-to-end : (p : Shape) (text : List ℕ) (from at : ℕ) → passes (tree p.rows) ≡ false → length text ≤ at →
    ((k : ℕ) → from ≤ k → k < at → in_one (slice_get text k) (fronts (tree p.rows)) ≡ false) → (k : ℕ) → from ≤ k → k ≤ length text →
    ways_from p text k ≡ []
none-to-end p text from at takes past none k low high = none-at p text k takes (by (eqb k (length text)) refl)
  where
    by : (t : Bool) → eqb k (length text) ≡ t → in_one (slice_get text k) (fronts (tree p.rows)) ≡ false
    by true e =
        let here : length text ≤ k = grind (arith, e) in
        ap (λ o. in_one o (fronts (tree p.rows))) (slice_get_past text k here)
    by false e = none k low (let lt : k < at = grind (arith, high, past, e) in lt)

-- ---- the byte pieces at the front

pieces-push : (rows : Rows) (ks : List ℕ) (sets : List (List Bool)) (k : ℕ) → ArePieces rows ks sets → node_at rows k ≡ Some Bytes →
    ArePieces rows (ks ++ k ∷ []) (sets ++ set_at rows k ∷ [])
pieces-push rows [] [] k a is = (is, refl, tt)
pieces-push rows [] (set ∷ sets) k a is = absurd a
pieces-push rows (j ∷ ks) [] k a is = absurd a
pieces-push rows (j ∷ ks) (set ∷ sets) k a is = (a.0, a.1, pieces-push rows ks sets k a.2 is)

-- what is still to be added
pub record Owes (rows : Rows) (goal : List (List Bool)) (at : ℕ) (now : List ℕ) : Type 0 where
  pub sets : List (List Bool)
  pub are : ArePieces rows now sets
  pub is : sets ++ fronts (piece_at rows at) ≡ goal

pub record Going (rows : Rows) (piece : ℕ) (old : List ℕ) (empty : Bool) (at : ℕ) (now : List ℕ) : Type 0 where
  pub below : at ≤ piece
  pub passes_is : (empty || passes (piece_at rows at)) ≡ passes (piece_at rows piece)
  pub pieces : (sets : List (List Bool)) → ArePieces rows old sets → Owes rows (sets ++ fronts (piece_at rows piece)) at now

pub go-init : (rows : Rows) (piece : ℕ) (old : List ℕ) → Going rows piece old false piece old
go-init rows piece old = record { below = omega arith; passes_is = refl; pieces = λ sets a. record { sets = sets; are = a; is = refl } }

or-false : (a : Bool) → (a || false) ≡ a
or-false true = refl
or-false false = refl

or-true : (a : Bool) → (a || true) ≡ true
or-true true = refl
or-true false = refl

or-assoc : (a b c : Bool) → ((a || b) || c) ≡ (a || (b || c))
or-assoc true b c = refl
or-assoc false b c = refl

pub go-byte : (rows : Rows) (piece : ℕ) (old : List ℕ) (empty : Bool) (at : ℕ) (now new : List ℕ) → Opens rows at Byte → new ≡ now ++ at
    ∷ [] → Going rows piece old empty at now → Came rows piece old empty new
unfolding passes fronts
go-byte rows piece old empty at now new o push g =
    record {
      passes_is = sym (or-false empty) ∙ ap (λ q. empty || passes q) (sym o.1) ∙ g.passes_is;
      pieces = λ sets a.
          let w = g.pieces sets a in
          subst (λ l. ArePieces rows l (sets ++ fronts (piece_at rows piece))) (sym push)
          (subst (ArePieces rows (now ++ at ∷ [])) (ap (λ q. w.sets ++ fronts q) (sym o.1)
          ∙ w.is) (pieces-push rows now w.sets at w.are o.0));
    }

pub go-empty : (rows : Rows) (piece : ℕ) (old : List ℕ) (empty : Bool) (at : ℕ) (now : List ℕ) → Opens rows at Empty →
    Going rows piece old empty at now → Came rows piece old true now
go-empty rows piece old empty at now o g =
    record {
      passes_is = sym (or-true empty) ∙ ap (λ b. empty || b) (sym o.0) ∙ g.passes_is;
      pieces = λ sets a.
          let w = g.pieces sets a in
          subst (ArePieces rows now) (sym (append-nil w.sets) ∙ ap (λ l. w.sets ++ l) (sym o.1) ∙ w.is) w.are;
    }

pub go-inside : (rows : Rows) (piece : ℕ) (old : List ℕ) (empty : Bool) (at : ℕ) (now : List ℕ) (inside : ℕ) (out : Bool) →
    Opens rows at (Inside inside out) →
    Going rows piece old empty at now → Going rows piece old (empty || out) inside now
go-inside rows piece old empty at now inside out o g =
    record {
      below = (let low = o.0 in let b = g.below in omega (arith, low, b));
      passes_is = or-assoc empty out (passes (piece_at rows inside)) ∙ ap (λ b. empty || b) (sym o.1) ∙ g.passes_is;
      pieces = λ sets a. (let w = g.pieces sets a in record { sets = w.sets; are = w.are; is = ap (λ l. w.sets ++ l) (sym o.2) ∙ w.is });
    }

pub go-sequence : (rows : Rows) (piece : ℕ) (old : List ℕ) (empty : Bool) (at : ℕ) (now new : List ℕ) (first rest : ℕ) →
    Opens rows at (Sequence first rest) →
    Came rows first now true new → Going rows piece old empty at now → Going rows piece old empty rest new
unfolding passes fronts
go-sequence rows piece old empty at now new first rest o c g =
    record {
      below = (let low = o.1 in let b = g.below in omega (arith, low, b));
      passes_is = ap (λ b. empty || (b && passes (piece_at rows rest))) c.passes_is ∙ ap (λ q. empty || passes q) (sym o.2) ∙ g.passes_is;
      pieces = λ sets a.
          (let w = g.pieces sets a in
          record {
            sets = w.sets ++ fronts (piece_at rows first);
            are = c.pieces w.sets w.are;
            is = append_assoc w.sets (fronts (piece_at rows first)) (fronts (piece_at rows rest))
                ∙ ap (λ t. w.sets ++ (fronts (piece_at rows first) ++ (if t then fronts (piece_at rows rest) else []))) c.passes_is
                ∙ ap (λ q. w.sets ++ fronts q) (sym o.2) ∙ w.is;
          });
    }

pub end-sequence : (rows : Rows) (piece : ℕ) (old : List ℕ) (empty : Bool) (at : ℕ) (now new : List ℕ) (first rest : ℕ) →
    Opens rows at (Sequence first rest) →
    Came rows first now false new → Going rows piece old empty at now → Came rows piece old empty new
unfolding passes fronts
end-sequence rows piece old empty at now new first rest o c g =
    record {
      passes_is = sym (or-false empty) ∙ ap (λ b. empty || (b && passes (piece_at rows rest))) c.passes_is
          ∙ ap (λ q. empty || passes q) (sym o.2) ∙ g.passes_is;
      pieces = λ sets a.
          (let w = g.pieces sets a in
          subst (ArePieces rows new)
          (ap (λ l. w.sets ++ l) (sym (append-nil (fronts (piece_at rows first))))
          ∙ ap (λ t. w.sets ++ (fronts (piece_at rows first) ++ (if t then fronts (piece_at rows rest) else []))) c.passes_is
          ∙ ap (λ q. w.sets ++ fronts q) (sym o.2) ∙ w.is)
          (c.pieces w.sets w.are));
    }

pub go-choice : (rows : Rows) (piece : ℕ) (old : List ℕ) (empty : Bool) (at : ℕ) (now new : List ℕ) (first other : ℕ) (out : Bool) →
    Opens rows at (Choice first other) →
    Came rows first now out new → Going rows piece old empty at now → Going rows piece old (empty || out) other new
unfolding passes fronts
go-choice rows piece old empty at now new first other out o c g =
    record {
      below = (let low = o.1 in let b = g.below in omega (arith, low, b));
      passes_is = or-assoc empty out (passes (piece_at rows other)) ∙ ap (λ b. empty || (b || passes (piece_at rows other))) c.passes_is
          ∙ ap (λ q. empty || passes q) (sym o.2) ∙ g.passes_is;
      pieces = λ sets a.
          (let w = g.pieces sets a in
          record {
            sets = w.sets ++ fronts (piece_at rows first);
            are = c.pieces w.sets w.are;
            is = append_assoc w.sets (fronts (piece_at rows first)) (fronts (piece_at rows other)) ∙ ap (λ q. w.sets ++ fronts q) (sym o.2)
                ∙ w.is;
          });
    }

-- those from one of them on
pub record Left (rows : Rows) (o : Option ℕ) (ks : List ℕ) (goal : Bool) : Type 0 where
  pub sets : List (List Bool)
  pub are : ArePieces rows ks sets
  pub is : in_one o sets ≡ goal

pub left-bytes : (rows : Rows) (b : ℕ) (ks : List ℕ) (n k : ℕ) (goal : Bool) → slice_get ks n ≡ Some k →
    Left rows (Some b) (drop n ks) goal → node_at rows k ≡ Some Bytes
left-bytes rows b ks n k goal got l = at (drop n ks) l.sets (drop-get ks n k got) l.are
  where
    at : (js : List ℕ) (sets : List (List Bool)) → js ≡ k ∷ drop (suc n) ks → ArePieces rows js sets → node_at rows k ≡ Some Bytes
    at js [] e a = absurd (subst (λ l. ArePieces rows l []) e a)
    at js (set ∷ sets) e a = (subst (λ l. ArePieces rows l (set ∷ sets)) e a).0

pub left-found : (rows : Rows) (b : ℕ) (ks : List ℕ) (n k : ℕ) (goal : Bool) → slice_get ks n ≡ Some k → in_set (set_at rows k) b ≡ true →
    Left rows (Some b) (drop n ks) goal → goal ≡ true
left-found rows b ks n k goal got is l = at (drop n ks) l.sets (drop-get ks n k got) l.are l.is
  where
    at : (js : List ℕ) (sets : List (List Bool)) → js ≡ k ∷ drop (suc n) ks → ArePieces rows js sets → in_one (Some b) sets ≡ goal →
        goal ≡ true
    at js [] e a f = absurd (subst (λ l. ArePieces rows l []) e a)
    at js (set ∷ sets) e a f =
        let here = subst (λ l. ArePieces rows l (set ∷ sets)) e a in
        sym f ∙ ap (λ s. in_set s b || in_one (Some b) sets) (sym here.1) ∙ ap (λ t. t || in_one (Some b) sets) is

pub left-next : (rows : Rows) (b : ℕ) (ks : List ℕ) (n k : ℕ) (goal : Bool) → slice_get ks n ≡ Some k → in_set (set_at rows k) b ≡ false →
    Left rows (Some b) (drop n ks) goal →
    Left rows (Some b) (drop (n + 1) ks) goal
left-next rows b ks n k goal got is l =
    let next : suc n ≡ n + 1 = omega arith in
    subst (λ m. Left rows (Some b) (drop m ks) goal) next (at (drop n ks) l.sets (drop-get ks n k got) l.are l.is)
  where
    at : (js : List ℕ) (sets : List (List Bool)) → js ≡ k ∷ drop (suc n) ks → ArePieces rows js sets → in_one (Some b) sets ≡ goal →
        Left rows (Some b) (drop (suc n) ks) goal
    at js [] e a f = absurd (subst (λ l. ArePieces rows l []) e a)
    at js (set ∷ sets) e a f =
        let here = subst (λ l. ArePieces rows l (set ∷ sets)) e a in
        record {
          sets = sets;
          are = here.2;
          is = ap (λ t. t || in_one (Some b) sets) (sym is)
              ∙ ap (λ s. in_set s b || in_one (Some b) sets) here.1 ∙ f;
        }

pub left-none : (rows : Rows) (b : ℕ) (ks : List ℕ) (goal : Bool) → ks ≡ [] → Left rows (Some b) ks goal → goal ≡ false
left-none rows b ks goal none l = at l.sets (subst (λ j. ArePieces rows j l.sets) none l.are) l.is
  where
    at : (sets : List (List Bool)) → ArePieces rows [] sets → in_one (Some b) sets ≡ goal → goal ≡ false
    at [] a f = sym f
    at (set ∷ sets) a f = absurd a
