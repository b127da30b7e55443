-- What counts are written out to.
use Rattle.std.proofs.Common.{◌≡◌, ℕ, zero, suc, ◌+◌, ◌*◌, ◌-◌, ◌<◌, ◌≤◌, ◌⊎◌, inl, inr, if◌then◌else◌, Bool, true, false, List, [], ◌∷◌}
use Rattle.std.proofs.Common.{◌++◌, length, Some, None, refl, sym, ◌∙◌, ap, subst, arith, append_assoc, length-append, length-set, set}
use Rattle.std.proofs.Common.{eqb}
use Rattle.std.specs.Prelude.{slice_get}
use Rattle.std.proofs.lemmas.List.{append-nil}
use Rattle.std.proofs.lemmas.Option.{slice_get_within}
use Rattle.ix_pattern.specs.Piece.{Piece, count, least_length}
use Rattle.ix_pattern.specs.Ways.{Text, Reached, Way, ends_at, edge, onward, required, prefer, optional, ways}
use Rattle.ix_pattern.specs.Rows.{Rows}
use Rattle.ix_pattern.proofs.Ends.{EachEnd, Within, ways-ends}
use Rattle.ix_pikevm.specs.declared.code.Instr.{Instr}
use Rattle.ix_pikevm.specs.Code.{Targets}
use Rattle.ix_pikevm.specs.Aims.{Aim, aim_at, rest_rank, size, pre, done, pre_turns, pre_maybe, pre_star, Same, Meets, IsFor, HasRow}
use Rattle.ix_pikevm.specs.Aims.{IsRight, AreAims, Written, Writes, choice_of}
use Rattle.ix_pikevm.proofs.AlikeLemmas.{Like-onward, ways-like, optional-like}
use Rattle.ix_pikevm.proofs.TurnLemmas.{onward-onward, onward-each, onward-piece, star-turn, onward-prefer}
use Rattle.ix_pikevm.proofs.AimLemmas.{aim-stays, aim-new, aims-push, meets-refl, written-then, written-want, now-stays, now-longer}
use Rattle.ix_pikevm.proofs.WriteLemmas.{fork, written-fork}

-- ---- so many turns

pub writes-turns-none : (rows : Rows) (inside : Piece) (next : ℕ) (old : List Instr) → Writes rows (pre_turns inside 0) next old old next
writes-turns-none rows inside next old aims hole f h =
    record {
      now = aims;
      grown = ([], sym (append-nil aims));
      fits = f;
      within = h;
      meets = record {
        same = λ text began r le. sym (append-nil ((aim_at aims next).gives text began r));
        low = low (0 * least_length inside) (omega arith);
      };
    }
  where
    low : (l : ℕ) → l ≡ 0 → (aim_at aims next).rank ≤ 0 * size inside + rest_rank l (aim_at aims next).rank
    low zero e = omega arith
    low (suc l) e = absurd (omega (arith, e))

turn-rank : (l n s a b k : ℕ) → b ≤ n * s + rest_rank (n * l) k → s + rest_rank l b ≤ (n + 1) * s + rest_rank ((n + 1) * l) k
turn-rank zero n s a b k h = low (n * 0) ((n + 1) * 0) (omega arith) (omega arith) h
  where
    low : (x y : ℕ) → x ≡ 0 → y ≡ 0 → b ≤ n * s + rest_rank x k → s + b ≤ (n + 1) * s + rest_rank y k
    low zero zero e f h = let d : (n + 1) * s ≡ n * s + s = grind arith in omega (arith, h, d)
    low (suc x) y e f h = absurd (omega (arith, e))
    low x (suc y) e f h = absurd (omega (arith, f))
turn-rank (suc l) n s a b k h = let d : (n + 1) * s ≡ n * s + s = grind arith in omega (arith, d)

meets-turn : (inside : Piece) (n : ℕ) (b f : Aim) → Meets b (pre_turns inside n f) → Meets (pre inside b) (pre_turns inside (n + 1) f)
meets-turn inside n b f m =
    record {
      same = λ text began r h.
          onward-piece inside text (b.gives text began) (λ e. onward (f.gives text began) (required (ways inside text) n done e)) r h
          (m.same text began)
          ∙ sym (onward-onward (f.gives text began) (required (ways inside text) n done) (ways inside text r))
          ∙ ap (λ k. onward (f.gives text began) (required (ways inside text) k done r)) (let e : suc n ≡ n + 1 = omega arith in e);
      low = turn-rank (least_length inside) n (size inside) 0 b.rank f.rank m.low;
    }

pub writes-turn : (rows : Rows) (inside : Piece) (n next : ℕ) (old mid new : List Instr) (now begin : ℕ) →
    Writes rows (pre_turns inside n) next old mid now → Writes rows (pre inside) now mid new begin →
    Writes rows (pre_turns inside (n + 1)) next old new begin
writes-turn rows inside n next old mid new now begin u v aims hole f h =
    let w = u aims hole f h in
    written-then rows aims hole mid new (pre_turns inside n (aim_at aims next)) (pre_turns inside (n + 1) (aim_at aims next)) now begin w
    (written-want rows w.now hole new (pre inside (aim_at w.now now)) (pre_turns inside (n + 1) (aim_at aims next)) begin
    (meets-turn inside n (aim_at w.now now) (aim_at aims next) w.meets)
    (v w.now hole w.fits w.within))

-- ---- at most so many turns

pub writes-maybe-none : (rows : Rows) (inside : Piece) (lazy : Bool) (next : ℕ) (old : List Instr) →
    Writes rows (pre_maybe inside lazy 0) next old old next
writes-maybe-none rows inside lazy next old aims hole f h =
    record {
      now = aims;
      grown = ([], sym (append-nil aims));
      fits = f;
      within = h;
      meets = record { same = λ text began r le. sym (append-nil ((aim_at aims next).gives text began r)); low = omega arith };
    }

-- the choice of two aims
abbrev pub choose : Bool → Aim → Aim → Aim
choose true more stop = fork stop more
choose false more stop = fork more stop

written-choice : (rows : Rows) (aims : List Aim) (hole : ℕ →
    Bool) (code new : List Instr) (want : Aim) (lazy : Bool) (more stop begin : ℕ) → AreAims rows aims hole code →
    new ≡ code ++ choice_of lazy more stop ∷ [] → begin ≡ length code → more < length aims → stop < length aims →
    Meets (choose lazy (aim_at aims more) (aim_at aims stop)) want → Written rows want aims hole new begin
written-choice rows aims hole code new want true more stop begin f is here hm hs m =
    written-fork rows aims hole code new want stop more begin f is here hs hm m
written-choice rows aims hole code new want false more stop begin f is here hm hs m =
    written-fork rows aims hole code new want more stop begin f is here hm hs m

choose-gives : (lazy : Bool) (more stop : Aim) (text : Text) (began : List ℕ) (r : Reached) →
    (choose lazy more stop).gives text began r ≡ prefer lazy (stop.gives text began r) (more.gives text began r)
choose-gives true more stop text began r = refl
choose-gives false more stop text began r = refl

choose-rank : (lazy : Bool) (more stop : Aim) (k : ℕ) → more.rank < k → stop.rank < k → (choose lazy more stop).rank ≤ k
choose-rank true more stop k h g = omega (arith, h, g)
choose-rank false more stop k h g = omega (arith, h, g)

rest-low : (l k : ℕ) → rest_rank l k ≤ k
rest-low zero k = omega arith
rest-low (suc l) k = omega arith

meets-maybe : (inside : Piece) (lazy : Bool) (n : ℕ) (t b s : Aim) → Meets b (pre_maybe inside lazy n s) → Meets t (pre inside b) →
    Meets (choose lazy t s) (pre_maybe inside lazy (n + 1) s)
meets-maybe inside lazy n t b s m k =
    record {
      same = λ text began r h.
          choose-gives lazy t s text began r
          ∙ ap (prefer lazy (s.gives text began r))
          (k.same text began r h
          ∙ onward-piece inside text (b.gives text began) (λ e. onward (s.gives text began) (optional lazy (ways inside text) n e)) r h
          (m.same text began)
          ∙ sym (onward-onward (s.gives text began) (optional lazy (ways inside text) n) (ways inside text r)))
          ∙ sym (onward-prefer (s.gives text began) lazy r (onward (optional lazy (ways inside text) n) (ways inside text r)))
          ∙ ap (λ j. onward (s.gives text began) (optional lazy (ways inside text) j r)) (let e : suc n ≡ n + 1 = omega arith in e);
      low =
          let d : (n + 1) * suc (size inside) ≡ n * suc (size inside) + suc (size inside) = grind arith in
          let l = rest-low (least_length inside) b.rank in
          choose-rank lazy t s ((n + 1) * suc (size inside) + s.rank) (omega (arith, d, l, k.low, m.low)) (omega (arith, d));
    }

pub writes-maybe : (rows : Rows) (inside : Piece) (lazy : Bool) (n next : ℕ) (old one two new : List Instr) (now turn begin : ℕ) →
    Writes rows (pre_maybe inside lazy n) next old one now →
    Writes rows (pre inside) now one two turn → new ≡ two ++ choice_of lazy turn next ∷ [] → begin ≡ length two →
    Writes rows (pre_maybe inside lazy (n + 1)) next old new begin
writes-maybe rows inside lazy n next old one two new now turn begin u v is here aims hole f h =
    let w = u aims hole f h in
    let x = v w.now hole w.fits w.within in
    let stays : aim_at x.now next ≡ aim_at aims next =
    now-stays rows (pre inside (aim_at w.now now)) w.now hole two turn x next
    (let l = now-longer rows (pre_maybe inside lazy n (aim_at aims next)) aims hole one now w in omega (arith, l, h))
    ∙ now-stays rows (pre_maybe inside lazy n (aim_at aims next)) aims hole one now w next h in
    let l1 = now-longer rows (pre_maybe inside lazy n (aim_at aims next)) aims hole one now w in
    let l2 = now-longer rows (pre inside (aim_at w.now now)) w.now hole two turn x in
    written-then rows aims hole one new (pre_maybe inside lazy n (aim_at aims next)) (pre_maybe inside lazy (n + 1) (aim_at aims next)) now
    begin w
    (written-then rows w.now hole two new (pre inside (aim_at w.now now)) (pre_maybe inside lazy (n + 1) (aim_at aims next)) turn begin x
    (written-choice rows x.now hole two new (pre_maybe inside lazy (n + 1) (aim_at aims next)) lazy turn next begin x.fits is here x.within
    (omega (arith, l1, l2, h))
    (subst (λ s. Meets (choose lazy (aim_at x.now turn) s) (pre_maybe inside lazy (n + 1) (aim_at aims next))) (sym stays)
    (meets-maybe inside lazy n (aim_at x.now turn) (aim_at w.now now) (aim_at aims next) w.meets x.meets))))

-- ---- any number of turns

aims-hole : (rows : Rows) (aims : List Aim) (hole more : ℕ → Bool) (code : List Instr) → ((k : ℕ) → more k ≡ false → hole k ≡ false) →
    AreAims rows aims hole code → AreAims rows aims more code
aims-hole rows aims hole more code h f =
    record {
      all = f.all;
      even = f.even;
      right = λ pc i e. let r = f.right pc i e in record { is = λ no. r.is (h pc no); targets = r.targets; row = r.row };
    }

pub get-set : {A : Type 0} (xs : List A) (i k : ℕ) (x y : A) → slice_get (set xs i x) k ≡ Some y → ((k ≡ i) × (x ≡ y))
    ⊎ ((k ≡ i → ⊥) × (slice_get xs k ≡ Some y))
get-set [] i k x y e = absurd (let h = slice_get_within [] k y e in omega (arith, h))
get-set (z ∷ xs) zero zero x y e = inl (refl, cc)
get-set (z ∷ xs) zero (suc k) x y e = inr ((λ f. omega (arith, f)), e)
get-set (z ∷ xs) (suc i) zero x y e = inr ((λ f. omega (arith, f)), e)
get-set (z ∷ xs) (suc i) (suc k) x y e = up (get-set xs i k x y e)
  where
    up : ((k ≡ i) × (x ≡ y)) ⊎ ((k ≡ i → ⊥) × (slice_get xs k ≡ Some y)) → ((suc k ≡ suc i) × (x ≡ y))
        ⊎ ((suc k ≡ suc i → ⊥) × (slice_get xs k ≡ Some y))
    up (inl f) = inl (ap suc f.0, f.1)
    up (inr f) = inr ((λ g. f.0 (omega (arith, g))), f.1)

-- a hole is filled
aims-fill : (rows : Rows) (aims : List Aim) (hole more : ℕ → Bool) (code : List Instr) (pc : ℕ) (i : Instr) → AreAims rows aims more code →
    ((k : ℕ) → (k ≡ pc → ⊥) → hole k ≡ false → more k ≡ false) →
    IsFor rows aims (aim_at aims pc) i → Targets (length code) i → HasRow rows i → AreAims rows aims hole (set code pc i)
aims-fill rows aims hole more code pc i f h for t s =
    record {
      all = f.all ∙ sym (length-set code pc i);
      even = f.even;
      right = λ k j e. at k j (get-set code pc k i j e);
    }
  where
    at : (k : ℕ) (j : Instr) → ((k ≡ pc) × (i ≡ j)) ⊎ ((k ≡ pc → ⊥) × (slice_get code k ≡ Some j)) →
        IsRight rows aims hole (length (set code pc i)) k j
    at k j (inl e) =
        subst (λ b. IsRight rows aims hole (length (set code pc i)) k b) e.1
        (subst (λ b. IsRight rows aims hole (length (set code pc i)) b i) (sym e.0)
        (record { is = λ no. for; targets = subst (λ n. Targets n i) (sym (length-set code pc i)) t; row = s }))
    at k j (inr e) =
        let r = f.right k j e.1 in
        record { is = λ no. r.is (h k e.0 no); targets = subst (λ n. Targets n j) (sym (length-set code pc i)) r.targets; row = r.row }

-- the choice of a star
star-for : (rows : Rows) (aims : List Aim) (inside : Piece) (lazy : Bool) (turn next : ℕ) (n : Aim) → 0 < least_length inside →
    aim_at aims next ≡ n → Meets (aim_at aims turn) (pre inside (pre_star inside lazy n)) →
    IsFor rows aims (pre_star inside lazy n) (choice_of lazy turn next)
star-for rows aims inside lazy turn next n some is m = for lazy refl
  where
    same : Same (pre_star inside lazy n).gives (λ text began r.
        prefer lazy ((aim_at aims next).gives text began r) ((aim_at aims turn).gives text began r))
    same text began r h =
        ap (onward (n.gives text began)) (star-turn inside text lazy r some h)
        ∙ onward-prefer (n.gives text began) lazy r (onward (optional lazy (ways inside text) (suc (length text.bytes)))
        (ways inside text r))
        ∙ ap (prefer lazy (n.gives text began r))
        (onward-onward (n.gives text began) (optional lazy (ways inside text) (suc (length text.bytes))) (ways inside text r)
        ∙ sym (m.same text began r h))
        ∙ ap (λ a. prefer lazy (a.gives text began r) ((aim_at aims turn).gives text began r)) (sym is)

    low-turn : (aim_at aims turn).rank < (pre_star inside lazy n).rank
    low-turn = cut (least_length inside) some m.low
      where
        cut : (l : ℕ) → 0 < l → (aim_at aims turn).rank ≤ size inside + rest_rank l (suc (size inside) + n.rank) →
            (aim_at aims turn).rank < suc (size inside) + n.rank
        cut zero h x = absurd (omega (arith, h))
        cut (suc l) h x = omega (arith, x)

    low-next : (aim_at aims next).rank < (pre_star inside lazy n).rank
    low-next = subst (λ a. a.rank < (pre_star inside lazy n).rank) (sym is) (omega arith)

    for : (b : Bool) → lazy ≡ b → IsFor rows aims (pre_star inside lazy n) (choice_of b turn next)
    for true e = (
      (λ text began r h. same text began r h
          ∙ ap (λ b. prefer b ((aim_at aims next).gives text began r) ((aim_at aims turn).gives text began r)) e),
      low-next,
      low-turn,
    )
    for false e = (
      (λ text began r h. same text began r h
          ∙ ap (λ b. prefer b ((aim_at aims next).gives text began r) ((aim_at aims turn).gives text began r)) e),
      low-turn,
      low-next,
    )

choice-targets : (n : ℕ) (lazy : Bool) (turn next : ℕ) → turn < n → next < n → Targets n (choice_of lazy turn next)
choice-targets n true turn next h g = (g, h)
choice-targets n false turn next h g = (h, g)

choice-row : (rows : Rows) (lazy : Bool) (turn next : ℕ) → HasRow rows (choice_of lazy turn next)
choice-row rows true turn next = tt
choice-row rows false turn next = tt

pub writes-star : (rows : Rows) (inside : Piece) (lazy : Bool) (next : ℕ) (old one two new : List Instr) (i : Instr) (pc turn : ℕ) →
    0 < least_length inside →
    one ≡ old ++ i ∷ [] → pc ≡ length old → Targets (length old) i → HasRow rows i → Writes rows (pre inside) pc one two turn →
    new ≡ set two pc (choice_of lazy turn next) →
    Writes rows (pre_star inside lazy) next old new pc
writes-star rows inside lazy next old one two new i pc turn some is here t s v filled aims hole f h =
    let n = aim_at aims next in
    let a = pre_star inside lazy (aim_at aims next) in
    let known : pc ≡ length aims = here ∙ sym f.all in
    let g : AreAims rows (aims ++ pre_star inside lazy (aim_at aims next) ∷ []) (opens hole pc) one =
    aims-push rows aims (opens hole pc) old one (pre_star inside lazy (aim_at aims next)) i
    (aims-hole rows aims hole (opens hole pc) old (less hole pc) f) is
    (λ text began starts r q p. Like-onward ((aim_at aims next).gives text began) ((aim_at aims next).gives text starts)
    (optional lazy (ways inside text) (suc (length text.bytes)) r)
    (optional lazy (ways inside text) (suc (length text.bytes)) q) (f.even next text began starts)
    (optional-like lazy (ways inside text) (ways-like inside text) (suc (length text.bytes)) r q p))
    t s (λ no. absurd (closed hole pc (length old) here no)) in
    let x = v (aims ++ pre_star inside lazy (aim_at aims next) ∷ []) (opens hole pc) g (rw length-append (omega (arith, known))) in
    let l = now-longer rows (pre inside (aim_at (aims ++ pre_star inside lazy (aim_at aims next) ∷ []) pc)) (aims
    ++ pre_star inside lazy (aim_at aims next) ∷ []) (opens hole pc) two turn x in
    let al : length (aims ++ pre_star inside lazy (aim_at aims next) ∷ []) ≡ length aims + 1 =
    length-append aims (pre_star inside lazy (aim_at aims next) ∷ []) in
    let at-pc : aim_at x.now pc ≡ pre_star inside lazy (aim_at aims next) =
    now-stays rows (pre inside (aim_at (aims ++ pre_star inside lazy (aim_at aims next) ∷ []) pc)) (aims
    ++ pre_star inside lazy (aim_at aims next) ∷ []) (opens hole pc) two turn x pc (omega (arith, al, known))
    ∙ aim-new aims (pre_star inside lazy (aim_at aims next)) pc known in
    let at-next : aim_at x.now next ≡ aim_at aims next =
    now-stays rows (pre inside (aim_at (aims ++ pre_star inside lazy (aim_at aims next) ∷ []) pc)) (aims
    ++ pre_star inside lazy (aim_at aims next) ∷ []) (opens hole pc) two turn x next (omega (arith, al, h))
    ∙ aim-stays aims (pre_star inside lazy (aim_at aims next) ∷ []) next h in
    let m : Meets (aim_at x.now turn) (pre inside (pre_star inside lazy (aim_at aims next))) =
    subst (λ k. Meets (aim_at x.now turn) (pre inside k)) (aim-new aims (pre_star inside lazy (aim_at aims next)) pc known) x.meets in
    record {
      now = x.now;
      grown = (
        pre_star inside lazy (aim_at aims next) ∷ x.grown.0,
        x.grown.1
            ∙ append_assoc aims (pre_star inside lazy (aim_at aims next) ∷ []) x.grown.0,
      );
      fits = subst (AreAims rows x.now hole) (sym filled)
          (aims-fill rows x.now hole (opens hole pc) two pc (choice_of lazy turn next) x.fits (other hole pc)
          (subst (λ k. IsFor rows x.now k (choice_of lazy turn next)) (sym at-pc)
          (star-for rows x.now inside lazy turn next (aim_at aims next) some at-next m))
          (choice-targets (length two) lazy turn next (omega (arith, x.within, x.fits.all)) (omega (arith, l, al, h, x.fits.all)))
          (choice-row rows lazy turn next));
      within = omega (arith, l, al, known);
      meets = subst (λ k. Meets k (pre_star inside lazy (aim_at aims next))) (sym at-pc)
          (meets-refl (pre_star inside lazy (aim_at aims next)));
    }
  where
    opens : (ℕ → Bool) → ℕ → ℕ → Bool
    opens hole pc k = if eqb k pc then true else hole k

    less : (hole : ℕ → Bool) (pc k : ℕ) → opens hole pc k ≡ false → hole k ≡ false
    less hole pc k e = split (eqb k pc) e
      where
        split : (b : Bool) → (if b then true else hole k) ≡ false → hole k ≡ false
        split true e = absurd (grind (arith, e))
        split false e = e

    closed : (hole : ℕ → Bool) (pc k : ℕ) → pc ≡ k → opens hole pc k ≡ false → ⊥
    closed hole pc k e f = absurd (grind (arith, e, f))

    other : (hole : ℕ → Bool) (pc k : ℕ) → (k ≡ pc → ⊥) → hole k ≡ false → opens hole pc k ≡ false
    other hole pc k ne still = split (eqb k pc) refl
      where
        split : (b : Bool) → eqb k pc ≡ b → opens hole pc k ≡ false
        split true e = absurd (ne (grind (arith, e)))
        split false e = ap (λ b. if b then true else hole k) e ∙ still

-- ---- counts

onward-same : (f g : Reached → List Way) (xs : List Way) → ((r : Reached) → f r ≡ g r) → onward f xs ≡ onward g xs
onward-same f g [] h = refl
onward-same f g (edge ∷ xs) h = ap (λ l. edge ∷ l) (onward-same f g xs h)
onward-same f g (ends_at r ∷ xs) h = ap (λ l. l ++ onward f xs) (h r) ∙ ap (λ l. g r ++ l) (onward-same f g xs h)

required-done : (turn next : Reached → List Way) (n : ℕ) (r : Reached) → required turn n next r ≡ onward next (required turn n done r)
required-done turn next zero r = sym (append-nil (next r))
required-done turn next (suc n) r =
    onward-same (required turn n next) (λ e. onward next (required turn n done e)) (turn r) (required-done turn next n)
    ∙ sym (onward-onward next (required turn n done) (turn r))

-- each end of so many turns lies in the text
turns-within : (inside : Piece) (n : ℕ) (text : Text) (r : Reached) → r.place ≤ length text.bytes →
    EachEnd (Within text (r.place + n * least_length inside)) (required (ways inside text) n done r)
unfolding ways least_length
turns-within inside n text r h =
    subst (λ k. EachEnd (Within text (r.place + n * least_length inside))
    (required (ways inside text) n (optional true (ways inside text) k) r)) (let e : n - n ≡ 0 = omega arith in e)
    (ways-ends (count inside n (Some n) true) text r h)

-- so many turns, and then what follows them
pub meets-count : (inside : Piece) (least : ℕ) (opt : Text → Reached → List Way) (fs : ℕ) (f n : Aim) →
    Meets f (record { gives = λ text began r. onward (n.gives text began) (opt text r); rank = fs + n.rank }) →
    Meets (pre_turns inside least f) (record {
      gives = λ text began r. onward (n.gives text began) (required (ways inside text) least (opt text) r);
      rank = (least * size inside + fs) + rest_rank (least * least_length inside) n.rank;
    })
meets-count inside least opt fs f n m =
    record {
      same = λ text began r h.
          onward-each (Within text (r.place + least * least_length inside)) (f.gives text began)
          (λ e. onward (n.gives text began) (opt text e)) (required (ways inside text) least done r)
          (turns-within inside least text r h) (λ e w. m.same text began e w.high)
          ∙ sym (onward-onward (n.gives text began) (opt text) (required (ways inside text) least done r))
          ∙ ap (onward (n.gives text began)) (sym (required-done (ways inside text) (opt text) least r));
      low = low (least * least_length inside);
    }
  where
    low : (l : ℕ) → least * size inside + rest_rank l f.rank ≤ (least * size inside + fs) + rest_rank l n.rank
    low zero = omega (arith, m.low)
    low (suc l) = omega arith

pub writes-count-some : (rows : Rows) (inside : Piece) (least most : ℕ) (lazy : Bool) (next : ℕ) (old mid new : List Instr) (f begin : ℕ) →
    Writes rows (pre_maybe inside lazy (most - least)) next old mid f →
    Writes rows (pre_turns inside least) f mid new begin → Writes rows (pre (count inside least (Some most) lazy)) next old new begin
unfolding ways least_length size
writes-count-some rows inside least most lazy next old mid new f begin u v aims hole a h =
    let w = u aims hole a h in
    written-then rows aims hole mid new (pre_maybe inside lazy (most - least) (aim_at aims next))
    (pre (count inside least (Some most) lazy) (aim_at aims next)) f begin w
    (written-want rows w.now hole new (pre_turns inside least (aim_at w.now f))
    (pre (count inside least (Some most) lazy) (aim_at aims next)) begin
    (meets-count inside least (λ text. optional lazy (ways inside text) (most - least)) ((most - least) * suc (size inside))
    (aim_at w.now f) (aim_at aims next) w.meets)
    (v w.now hole w.fits w.within))

pub writes-count-none : (rows : Rows) (inside : Piece) (least : ℕ) (lazy : Bool) (next : ℕ) (old mid new : List Instr) (f begin : ℕ) →
    Writes rows (pre_star inside lazy) next old mid f →
    Writes rows (pre_turns inside least) f mid new begin → Writes rows (pre (count inside least None lazy)) next old new begin
unfolding ways least_length size
writes-count-none rows inside least lazy next old mid new f begin u v aims hole a h =
    let w = u aims hole a h in
    written-then rows aims hole mid new (pre_star inside lazy (aim_at aims next)) (pre (count inside least None lazy) (aim_at aims next)) f
    begin w
    (written-want rows w.now hole new (pre_turns inside least (aim_at w.now f)) (pre (count inside least None lazy) (aim_at aims next))
    begin
    (meets-count inside least (λ text. optional lazy (ways inside text) (suc (length text.bytes))) (suc (size inside)) (aim_at w.now f)
    (aim_at aims next) w.meets)
    (v w.now hole w.fits w.within))
