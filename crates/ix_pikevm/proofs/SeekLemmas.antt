-- Whether there is a way at one of many places.
use Rattle.std.proofs.Common.{◌≡◌, ℕ, zero, suc, ◌+◌, ◌<◌, ◌≤◌, min, nat_lt, if◌then◌else◌, Bool, true, false, List, [], ◌∷◌, ◌++◌, length}
use Rattle.std.proofs.Common.{Option, Some, None, refl, sym, ◌∙◌, ap, subst, arith, reverse, map, set, get_or, take, drop}
use Rattle.std.specs.Prelude.{slice_get}
use Rattle.std.proofs.lemmas.List.{append-nil, reverse-append}
use Rattle.ix_pattern.specs.Ways.{Text, Way}
use Rattle.ix_pattern.specs.Rows.{Rows}
use Rattle.ix_pikevm.specs.declared.code.Instr.{Instr}
use Rattle.ix_pikevm.specs.declared.cells.Cell.{Cell}
use Rattle.ix_pikevm.specs.declared.cells.Thread.{Thread}
use Rattle.ix_pikevm.specs.declared.cells.Best.{Best}
use Rattle.ix_pikevm.specs.declared.cells.Best.TheVariants.{No, End, More}
use Rattle.ix_pikevm.specs.Code.{Mean, Meaning, history, thread_ways, list_ways, best_ways, sets_of}
use Rattle.ix_pikevm.specs.Acts.{AllKnown}
use Rattle.ix_pikevm.specs.Settled.{AllBytes}
use Rattle.ix_pikevm.specs.Stepped.{AreAnswers, Steps}
use Rattle.ix_pikevm.specs.Ran.{Rounds}
use Rattle.ix_pikevm.specs.Seeks.{NoneFrom, NoneHas, Carry, Have, Lack, Turned, Sought, is_way, begun, forgotten, begun_at}
use Rattle.ix_pikevm.proofs.CoverLemmas.{cons-nil, nil-left, nil-right, nil-both, list_ways-append}
use Rattle.ix_pikevm.proofs.HistoryLemmas.{history-stays}
use Rattle.ix_pikevm.proofs.SettleLemmas.{reverse-snoc, AllKnown-push}
use Rattle.ix_pikevm.proofs.RunLemmas.{closed-ways}

no-head : (xs : List Way) → slice_get xs 0 ≡ None → xs ≡ []
no-head [] e = refl
no-head (x ∷ xs) e = grind (arith, e)

some-head : (xs : List Way) (x : Way) → slice_get (xs ++ x ∷ []) 0 ≡ None → ⊥
some-head xs x e = cons-nil x [] (nil-right xs (x ∷ []) (no-head (xs ++ x ∷ []) e))

-- ---- threads without a way

none-list : (mean : Mean) (cells : List Cell) (p : ℕ) (ts : List Thread) → NoneHas mean p ts → list_ways (thread_ways mean cells p) ts ≡ []
none-list mean cells p [] n = refl
none-list mean cells p (t ∷ ts) n =
    nil-both (thread_ways mean cells p t) (list_ways (thread_ways mean cells p) ts) (n.0 (history cells t.trail))
    (none-list mean cells p ts n.1)

list-none : (code : List Instr) (rows : Rows) (text : Text) (blank : List (Option (ℕ × ℕ))) (mean : Mean) (rank : ℕ → ℕ) →
    Meaning code rows text blank mean rank →
    (cells : List Cell) (p : ℕ) (ts : List Thread) → list_ways (thread_ways mean cells p) ts ≡ [] → NoneHas mean p ts
list-none code rows text blank mean rank m cells p [] e = tt
list-none code rows text blank mean rank m cells p (t ∷ ts) e = (
  λ h. m.same t.pc p (history cells t.trail) h (nil-left (thread_ways mean cells p t) (list_ways (thread_ways mean cells p) ts) e),
  list-none code rows text blank mean rank m cells p ts
      (nil-right (thread_ways mean cells p t) (list_ways (thread_ways mean cells p) ts) e),
)

none-forgot : (mean : Mean) (p : ℕ) (ts : List Thread) → NoneHas mean p ts → NoneHas mean p (map forgotten ts)
none-forgot mean p [] n = tt
none-forgot mean p (t ∷ ts) n = (n.0, none-forgot mean p ts n.1)

none-recalled : (mean : Mean) (p : ℕ) (ts : List Thread) → NoneHas mean p (map forgotten ts) → NoneHas mean p ts
none-recalled mean p [] n = tt
none-recalled mean p (t ∷ ts) n = (n.0, none-recalled mean p ts n.1)

pub known-forgot : (n c d : ℕ) (ts : List Thread) → AllKnown n c ts → AllKnown n d (map forgotten ts)
known-forgot n c d [] a = tt
known-forgot n c d (t ∷ ts) a = ((a.0.0, omega arith), known-forgot n c d ts a.1)

pub bytes-forgot : (code : List Instr) (ts : List Thread) → AllBytes code ts → AllBytes code (map forgotten ts)
bytes-forgot code [] a = tt
bytes-forgot code (t ∷ ts) a = (a.0, bytes-forgot code ts a.1)

pub known-begun : (n c start p to : ℕ) (old new : List Thread) → new ≡ begun_at start p to old → start < n → AllKnown n c old →
    AllKnown n c new
known-begun n c start p to old new is low a = subst (AllKnown n c) (sym is) (by (nat_lt p to))
  where
    by : (b : Bool) → AllKnown n c (if b then old ++ begun start ∷ [] else old)
    by true = AllKnown-push n c old (begun start) a (low, omega arith)
    by false = a

-- one thread more has forgotten
forgot-more : (old : List Thread) (i : ℕ) (d : Thread) → i < length old →
    set (map forgotten (take i old) ++ drop i old) i (forgotten (get_or (map forgotten (take i old) ++ drop i old) i d)) ≡ map forgotten
    (take (suc i) old) ++ drop (suc i) old
forgot-more [] i d h = absurd (omega (arith, h))
forgot-more (t ∷ old) zero d h = refl
forgot-more (t ∷ old) (suc i) d h = ap (λ l. forgotten t ∷ l) (forgot-more old i d (omega (arith, h)))

pub next-forgot : (old threads : List Thread) (i : ℕ) (d : Thread) → i < length old → threads ≡ map forgotten (take i old) ++ drop i old →
    set threads i (forgotten (get_or threads i d)) ≡ map forgotten (take (i + 1) old) ++ drop (i + 1) old
next-forgot old threads i d h is =
    ap (λ l. set l i (forgotten (get_or l i d))) is ∙ forgot-more old i d h
    ∙ ap (λ k. map forgotten (take k old) ++ drop k old) (let e : suc i ≡ i + 1 = omega arith in e)

-- ---- the threads of a place

known-ways : (mean : Mean) (n p : ℕ) (cells later : List Cell) (ts : List Thread) → AllKnown n (length cells) ts →
    list_ways (thread_ways mean (cells ++ later) p) (reverse ts) ≡ list_ways (thread_ways mean cells p) (reverse ts)
known-ways mean n p cells later [] a = refl
known-ways mean n p cells later (t ∷ ts) a =
    ap (list_ways (thread_ways mean (cells ++ later) p)) (reverse-append (t ∷ []) ts)
    ∙ list_ways-append (thread_ways mean (cells ++ later) p) (reverse ts) (t ∷ [])
    ∙ ap (λ l. l ++ list_ways (thread_ways mean (cells ++ later) p) (t ∷ [])) (known-ways mean n p cells later ts a.1)
    ∙ ap (λ h. list_ways (thread_ways mean cells p) (reverse ts) ++ (mean t.pc h p ++ [])) (history-stays cells later t.trail a.0.1)
    ∙ sym (list_ways-append (thread_ways mean cells p) (reverse ts) (t ∷ []))
    ∙ sym (ap (list_ways (thread_ways mean cells p)) (reverse-append (t ∷ []) ts))

-- where none has a way, none of those that come of them has
round-there : (known : Rows → Type 0) (code : List Instr) (text : Text) (p : ℕ) (cells new : List Cell) (stack ready : List Thread)
    (best : Best) →
    Rounds known code text p cells stack new ready No best →
    (rows : Rows) (blank : List (Option (ℕ × ℕ))) (mean : Mean) (rank : ℕ → ℕ) → Meaning code rows text blank mean rank → known rows →
    NoneHas mean p (reverse stack) → slice_get (list_ways (thread_ways mean (new ++ []) p) ready
    ++ best_ways blank (new ++ []) best) 0 ≡ None
round-there known code text p cells new stack ready best r rows blank mean rank m t none =
    r rows blank mean rank m t None
    (λ later. ap (λ l. slice_get (l ++ []) 0) (none-list mean (cells ++ later) p (reverse stack) none)) []

-- and the other way round
round-back : (known : Rows → Type 0) (code : List Instr) (text : Text) (p n : ℕ) (cells new : List Cell) (stack ready : List Thread) →
    Rounds known code text p cells stack new ready No No → AllKnown n (length cells) stack →
    (rows : Rows) (blank : List (Option (ℕ × ℕ))) (mean : Mean) (rank : ℕ → ℕ) → Meaning code rows text blank mean rank → known rows →
    NoneHas mean p ready → NoneHas mean p (reverse stack)
round-back known code text p n cells new stack ready r k rows blank mean rank m t none =
    list-none code rows text blank mean rank m cells p (reverse stack)
    (no-head (list_ways (thread_ways mean cells p) (reverse stack))
    (sym (r rows blank mean rank m t (slice_get (list_ways (thread_ways mean cells p) (reverse stack)) 0)
    (λ later. ap (λ l. slice_get l 0) (append-nil (list_ways (thread_ways mean (cells ++ later) p) (reverse stack))
    ∙ known-ways mean n p cells later stack k)) [])
    ∙ ap (λ l. slice_get (l ++ []) 0) (none-list mean (new ++ []) p ready none)))

pub turned : (known : Rows → Type 0) (code : List Instr) (text : Text) (start from to p n : ℕ) (cells new : List Cell)
    (stack ready : List Thread) (best : Best) →
    Rounds known code text p cells stack new ready No best → AllKnown n (length cells) stack →
    Carry known code text start from to p (reverse stack) → Turned known code text start from to p ready (is_way best)
turned known code text start from to p n cells new stack ready No r k c = λ rows blank mean rank m t.
    let both = c rows blank mean rank m t in
    record {
      there = λ none. list-none code rows text blank mean rank m (new ++ []) p ready
          (nil-left (list_ways (thread_ways mean (new ++ []) p) ready) []
          (no-head (list_ways (thread_ways mean (new ++ []) p) ready
          ++ []) (round-there known code text p cells new stack ready No r rows blank mean rank m t (both.there none))));
      back = λ none. both.back (round-back known code text p n cells new stack ready r k rows blank mean rank m t none);
    }
turned known code text start from to p n cells new stack ready (End place trail) r k c = λ rows blank mean rank m t none.
    some-head (list_ways (thread_ways mean (new ++ []) p) ready) _
    (round-there known code text p cells new stack ready (End place trail) r rows blank mean rank m t
    ((c rows blank mean rank m t).there none))
turned known code text start from to p n cells new stack ready More r k c = λ rows blank mean rank m t none.
    some-head (list_ways (thread_ways mean (new ++ []) p) ready) _
    (round-there known code text p cells new stack ready More r rows blank mean rank m t ((c rows blank mean rank m t).there none))

-- ---- from place to place

pub carry-init : (known : Rows → Type 0) (code : List Instr) (text : Text) (start from to p : ℕ) (stack : List Thread) → stack ≡ [] →
    to ≤ from →
    Carry known code text start from to p (reverse stack)
carry-init known code text start from to p stack none low =
    subst (λ s. Carry known code text start from to p (reverse s)) (sym none)
    (λ rows blank mean rank m t. record { there = λ e. tt; back = λ e q a b. absurd (omega (arith, a, b, low)) })

-- a thread begins there, or all have begun
pub carry-begun : (known : Rows → Type 0) (code : List Instr) (text : Text) (start from to p : ℕ) (old new : List Thread) →
    new ≡ begun_at start p to old → from ≤ p →
    Carry known code text start from (min p to) p (reverse old) → Carry known code text start from (min (p + 1) to) p (reverse new)
carry-begun known code text start from to p old new is low c =
    subst (λ s. Carry known code text start from (min (p + 1) to) p (reverse s)) (sym is) (by (nat_lt p to) refl)
  where
    more : p < to → Carry known code text start from (min (p + 1) to) p (reverse (old ++ begun start ∷ []))
    more lt = subst (Carry known code text start from (min (p + 1) to) p) (sym (reverse-snoc old (begun start)))
        (λ rows blank mean rank m t.
        (let both = c rows blank mean rank m t in
        record {
          there = λ none. (
            λ h. m.same start p [] h (none p low (omega (arith, lt))),
            both.there (λ q a b. none q a (omega (arith, lt, b))),
          );
          back = λ none q a b. one (λ k. mean start [] k) q (none.0 []) (λ f. both.back none.1 q a (omega (arith, lt, f)))
              (omega (arith, b));
        }))
      where
        one : (ways : ℕ → List Way) (q : ℕ) → ways p ≡ [] → (q < p → ways q ≡ []) → q < p + 1 → ways q ≡ []
        one ways q here before h = split (nat_lt q p) refl
          where
            split : (b : Bool) → nat_lt q p ≡ b → ways q ≡ []
            split true e = before (let lt : q < p = grind (arith, e) in lt)
            split false e = (let same : q ≡ p = grind (arith, e, h) in ap ways same ∙ here)

    same : to ≤ p → Carry known code text start from (min (p + 1) to) p (reverse old)
    same le = subst (λ k. Carry known code text start from k p (reverse old)) (let e : min p to ≡ min (p + 1) to = omega (arith, le) in e) c

    by : (b : Bool) → nat_lt p to ≡ b → Carry known code text start from (min (p + 1) to) p
        (reverse (if b then old ++ begun start ∷ [] else old))
    by true e = more (let lt : p < to = grind (arith, e) in lt)
    by false e = same (let le : to ≤ p = grind (arith, e) in le)

-- behind a byte
pub carry-passed : (known : Rows → Type 0) (code : List Instr) (text : Text) (start from to p byte : ℕ) (ready stack : List Thread)
    (answers : List Bool) →
    Steps code answers (map forgotten ready) stack → slice_get text.bytes p ≡ Some byte →
    ((rows : Rows) → known rows → AreAnswers answers (sets_of rows) byte) →
    Carry known code text start from to p ready → Carry known code text start from to (p + 1) (reverse stack)
carry-passed known code text start from to p byte ready stack answers s got an c rows blank mean rank m t =
    let both = c rows blank mean rank m t in
    let same = s rows text blank mean rank m p byte got (an rows t) [] in
    record {
      there = λ none. list-none code rows text blank mean rank m [] (p + 1) (reverse stack)
          (sym same ∙ none-list mean [] p (map forgotten ready) (none-forgot mean p ready (both.there none)));
      back = λ none. both.back (none-recalled mean p ready
          (list-none code rows text blank mean rank m [] p (map forgotten ready) (same ∙ none-list mean [] (p + 1) (reverse stack) none)));
    }

-- no thread waits
pub lack-none : (known : Rows → Type 0) (code : List Instr) (text : Text) (start from to all p : ℕ) (ready : List Thread) → ready ≡ [] →
    all ≡ to →
    Carry known code text start from all p ready → Lack known code text start from to
lack-none known code text start from to all p ready none whole c rows blank mean rank m t =
    subst (NoneFrom mean start from) whole ((c rows blank mean rank m t).back (subst (NoneHas mean p) (sym none) tt))

-- at the end of a closed text
pub lack-closed : (known : Rows → Type 0) (code : List Instr) (text : Text) (start from to all : ℕ) (ready : List Thread) →
    AllBytes code ready → text.unfinished ≡ false → all ≡ to →
    Carry known code text start from all (length text.bytes) ready → Lack known code text start from to
lack-closed known code text start from to all ready bytes closed whole c rows blank mean rank m t =
    subst (NoneFrom mean start from) whole
    ((c rows blank mean rank m t).back
    (list-none code rows text blank mean rank m [] (length text.bytes) ready
    (closed-ways code rows text blank mean rank m closed [] ready bytes)))

-- one has a way before that place
pub found-before : (known : Rows → Type 0) (code : List Instr) (text : Text) (start from to at end : ℕ) (ready : List Thread) →
    end ≡ min (at + 1) to → Turned known code text start from (min (at + 1) to) at ready true →
    Sought known code text start from to (Some end)
found-before known code text start from to at end ready is found =
    (omega (arith, is), subst (Have known code text start from) (sym is) found)

-- no thread waits, and no place is left
pub lack-before : (known : Rows → Type 0) (code : List Instr) (text : Text) (start from to at : ℕ) (ready : List Thread) → ready ≡ [] →
    to ≤ at + 1 → Carry known code text start from (min (at + 1) to) at ready →
    Lack known code text start from to
lack-before known code text start from to at ready none last c rows blank mean rank m t =
    let all : min (at + 1) to ≡ to = omega (arith, last) in
    subst (NoneFrom mean start from) all ((c rows blank mean rank m t).back (subst (NoneHas mean at) (sym none) tt))
