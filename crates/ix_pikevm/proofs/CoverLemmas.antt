-- A thread at a marked instruction may be dropped.
use Rattle.std.proofs.Common.{◌≡◌, ℕ, ◌<◌, ◌≤◌, ◌⊎◌, inl, inr, nat_lt, Bool, true, false, if◌then◌else◌, List, [], ◌∷◌, ◌++◌, length}
use Rattle.std.proofs.Common.{Option, refl, sym, ◌∙◌, ap, subst, arith, append_assoc}
use Rattle.std.specs.Prelude.{slice_get}
use Rattle.std.proofs.lemmas.List.{append-nil}
use Rattle.ix_pattern.specs.Ways.{Way}
use Rattle.ix_pikevm.specs.declared.cells.Thread.{Thread}
use Rattle.ix_pikevm.specs.Code.{list_ways}
use Rattle.ix_pikevm.specs.Cover.{below, Kept, AllUnder}

pub cons-nil : {A : Type 0} (x : A) (xs : List A) → x ∷ xs ≡ [] → ⊥
cons-nil x xs e = let l : length (x ∷ xs) ≡ 0 = ap length e in omega (arith, l)

pub nil-left : (xs ys : List Way) → xs ++ ys ≡ [] → xs ≡ []
nil-left [] ys e = refl
nil-left (x ∷ xs) ys e = absurd (cons-nil x (xs ++ ys) e)

pub nil-right : (xs ys : List Way) → xs ++ ys ≡ [] → ys ≡ []
nil-right [] ys e = e
nil-right (x ∷ xs) ys e = absurd (cons-nil x (xs ++ ys) e)

pub nil-both : (xs ys : List Way) → xs ≡ [] → ys ≡ [] → xs ++ ys ≡ []
nil-both [] ys e f = f
nil-both (x ∷ xs) ys e f = absurd (cons-nil x xs e)

pub list_ways-append : (w : Thread → List Way) (xs ys : List Thread) → list_ways w (xs ++ ys) ≡ list_ways w xs ++ list_ways w ys
list_ways-append w [] ys = refl
list_ways-append w (x ∷ xs) ys = ap (λ l. w x ++ l) (list_ways-append w xs ys) ∙ sym (append_assoc (w x) (list_ways w xs) (list_ways w ys))

-- the head of a list in which a part is dropped that is empty if what stands before it is
pub head-drop : (xs ys zs : List Way) → (xs ≡ [] → ys ≡ []) → slice_get (xs ++ (ys ++ zs)) 0 ≡ slice_get (xs ++ zs) 0
head-drop [] ys zs f = ap (λ l. slice_get (l ++ zs) 0) (f refl)
head-drop (x ∷ xs) ys zs f = refl

pub AllUnder-more : (rank : ℕ → ℕ) (n m : ℕ) (ts : List Thread) → n ≤ m → AllUnder rank n ts → AllUnder rank m ts
AllUnder-more rank n m [] le a = tt
AllUnder-more rank n m (t ∷ ts) le a = (omega (arith, le, a.0), AllUnder-more rank n m ts le a.1)

pub lt-true : (a b : ℕ) → a < b → nat_lt a b ≡ true
lt-true a b h = grind arith

pub below-yes : (w : Thread → List Way) (rank : ℕ → ℕ) (n : ℕ) (t : Thread) (ts : List Thread) → rank t.pc < n →
    below w rank n (t ∷ ts) ≡ w t ++ below w rank n ts
below-yes w rank n t ts h = ap (λ b. if b then w t ++ below w rank n ts else []) (lt-true (rank t.pc) n h)

pub below-new : (w : Thread → List Way) (rank : ℕ → ℕ) (n : ℕ) (new ts : List Thread) → AllUnder rank n new →
    below w rank n (new ++ ts) ≡ list_ways w new ++ below w rank n ts
below-new w rank n [] ts a = refl
below-new w rank n (t ∷ new) ts a =
    below-yes w rank n t (new ++ ts) a.0 ∙ ap (λ l. w t ++ l) (below-new w rank n new ts a.1)
    ∙ sym (append_assoc (w t) (list_ways w new) (below w rank n ts))

abbrev pub Alike : (Thread → List Way) → Type 0
Alike w = (s t : Thread) → s.pc ≡ t.pc → w s ≡ [] → w t ≡ []

-- where the first waiting thread has no way if no ready one has, it may be left out
less-covers : (w : Thread → List Way) (rank : ℕ → ℕ) (n : ℕ) (e : Thread) (waiting : List Thread) →
    w e ≡ [] → below w rank n waiting ≡ [] → (b : Bool) → nat_lt (rank e.pc) n ≡ b → below w rank n (e ∷ waiting) ≡ []
less-covers w rank n e waiting none rest true lt = ap (λ b. if b then w e ++ below w rank n waiting else []) lt
    ∙ nil-both (w e) (below w rank n waiting) none rest
less-covers w rank n e waiting none rest false lt = ap (λ b. if b then w e ++ below w rank n waiting else []) lt

-- the thread itself is not below its own rank
none-below : (w : Thread → List Way) (rank : ℕ → ℕ) (e : Thread) (waiting : List Thread) → below w rank (rank e.pc) (e ∷ waiting) ≡ []
none-below w rank e waiting = ap (λ b. if b then w e ++ below w rank (rank e.pc) waiting else []) (same (rank e.pc))
  where
    same : (n : ℕ) → nat_lt n n ≡ false
    same n = grind arith

pub kept-dropped : (w : Thread → List Way) (rank : ℕ → ℕ) (marked : ℕ →
    Type 0) (ready waiting : List Thread) (best : List Way) (goal : Option Way) (e : Thread) →
    marked e.pc → Kept w rank marked ready (e ∷ waiting) best goal → Kept w rank marked ready waiting best goal
kept-dropped w rank marked ready waiting best goal e m k =
    let none : list_ways w ready ≡ [] → w e ≡ [] = λ r. k.covers e m r (none-below w rank e waiting) in
    record {
      front = sym (head-drop (list_ways w ready) (w e) (list_ways w waiting ++ best) none)
          ∙ ap (λ l. slice_get (list_ways w ready ++ l) 0) (sym (append_assoc (w e) (list_ways w waiting) best)) ∙ k.front;
      covers = λ t mt r b. k.covers t mt r (less-covers w rank (rank t.pc) e waiting (none r) b (nat_lt (rank e.pc) (rank t.pc)) refl);
    }

-- new marks: those before, and this one
abbrev pub Adds : (ℕ → Type 0) → (ℕ → Type 0) → ℕ → Type 0
Adds old new pc = (k : ℕ) → new k → (k ≡ pc) ⊎ old k

new-covers : (w : Thread → List Way) (rank : ℕ → ℕ) (n : ℕ) (e : Thread) (new waiting : List Thread) → w e ≡ list_ways w new →
    AllUnder rank (rank e.pc) new →
    below w rank n (new ++ waiting) ≡ [] → (b : Bool) → nat_lt (rank e.pc) n ≡ b → below w rank n (e ∷ waiting) ≡ []
new-covers w rank n e new waiting is under rest true lt =
    let le : rank e.pc ≤ n = grind (arith, lt) in
    below-yes w rank n e waiting (grind (arith, lt))
    ∙ ap (λ l. l ++ below w rank n waiting) is
    ∙ sym (below-new w rank n new waiting (AllUnder-more rank (rank e.pc) n new le under)) ∙ rest
new-covers w rank n e new waiting is under rest false lt = ap (λ b. if b then w e ++ below w rank n waiting else []) lt

-- a thread is replaced by those that it leads to at the same place
pub kept-replaced : (w : Thread → List Way) (rank : ℕ → ℕ) (old marked : ℕ →
    Type 0) (ready waiting new : List Thread) (best : List Way) (goal : Option Way) (e : Thread) →
    Alike w → Adds old marked e.pc → w e ≡ list_ways w new → AllUnder rank (rank e.pc) new →
    Kept w rank old ready (e ∷ waiting) best goal → Kept w rank marked ready (new ++ waiting) best goal
kept-replaced w rank old marked ready waiting new best goal e alike adds is under k =
    record {
      front = ap (λ l. slice_get (list_ways w ready ++ (l ++ best)) 0)
          (list_ways-append w new waiting ∙ ap (λ l. l ++ list_ways w waiting) (sym is)) ∙ k.front;
      covers = λ t mt r b. either t r b (adds t.pc mt);
    }
  where
    either : (t : Thread) → list_ways w ready ≡ [] → below w rank (rank t.pc) (new ++ waiting) ≡ [] → (t.pc ≡ e.pc) ⊎ old t.pc → w t ≡ []
    either t r b (inl same) =
        let c : below w rank (rank e.pc) (new ++ waiting) ≡ [] = subst (λ n. below w rank (rank n) (new ++ waiting) ≡ []) same b in
        let d : list_ways w new ≡ [] = nil-left (list_ways w new) (below w rank (rank e.pc) waiting)
        (sym (below-new w rank (rank e.pc) new waiting under) ∙ c) in
        alike e t (sym same) (is ∙ d)
    either t r b (inr m) = k.covers t m r (new-covers w rank (rank t.pc) e new waiting is under b (nat_lt (rank e.pc) (rank t.pc)) refl)

-- a thread is ready
pub kept-ready : (w : Thread → List Way) (rank : ℕ → ℕ) (old marked : ℕ →
    Type 0) (ready waiting : List Thread) (best : List Way) (goal : Option Way) (e : Thread) →
    Alike w → Adds old marked e.pc →
    Kept w rank old ready (e ∷ waiting) best goal → Kept w rank marked (ready ++ e ∷ []) waiting best goal
kept-ready w rank old marked ready waiting best goal e alike adds k =
    record {
      front = ap (λ l. slice_get l 0) (ap (λ l. l ++ (list_ways w waiting ++ best)) more
          ∙ append_assoc (list_ways w ready) (w e) (list_ways w waiting ++ best)
          ∙ ap (λ l. list_ways w ready ++ l) (sym (append_assoc (w e) (list_ways w waiting) best))) ∙ k.front;
      covers = λ t mt r b. either t (sym more ∙ r) b (adds t.pc mt);
    }
  where
    more : list_ways w (ready ++ e ∷ []) ≡ list_ways w ready ++ w e
    more = list_ways-append w ready (e ∷ []) ∙ ap (λ l. list_ways w ready ++ l) (append-nil (w e))

    either : (t : Thread) → list_ways w ready ++ w e ≡ [] → below w rank (rank t.pc) waiting ≡ [] → (t.pc ≡ e.pc) ⊎ old t.pc → w t ≡ []
    either t r b (inl same) = alike e t (sym same) (nil-right (list_ways w ready) (w e) r)
    either t r b (inr m) = k.covers t m (nil-left (list_ways w ready) (w e) r)
        (less-covers w rank (rank t.pc) e waiting (nil-right (list_ways w ready) (w e) r) b (nat_lt (rank e.pc) (rank t.pc)) refl)

-- a thread whose one way is here cuts the later ones
pub kept-cut : (w : Thread → List Way) (rank : ℕ → ℕ) (old : ℕ →
    Type 0) (ready waiting : List Thread) (best : List Way) (goal : Option Way) (e : Thread) (way : Way) →
    w e ≡ way ∷ [] → Kept w rank old ready (e ∷ waiting) best goal → slice_get (list_ways w ready ++ way ∷ []) 0 ≡ goal
kept-cut w rank old ready waiting best goal e way is k =
    cut (list_ways w ready) ∙ ap (λ l. slice_get (list_ways w ready ++ ((l ++ list_ways w waiting) ++ best)) 0) (sym is) ∙ k.front
  where
    cut : (xs : List Way) → slice_get (xs ++ way ∷ []) 0 ≡ slice_get (xs ++ ((way ∷ list_ways w waiting) ++ best)) 0
    cut [] = refl
    cut (x ∷ xs) = refl
