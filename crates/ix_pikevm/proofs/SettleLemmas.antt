-- One turn of the loop over the threads of a place.
use Rattle.std.proofs.Common.{◌≡◌, ℕ, ◌+◌, ◌*◌, ◌<◌, ◌≤◌, ◌⊎◌, inl, inr, if◌then◌else◌, Bool, true, false, List, [], ◌∷◌, ◌++◌, length}
use Rattle.std.proofs.Common.{Option, Some, None, refl, sym, ◌∙◌, ap, subst, arith, append_assoc, length-append, get_or, set, take, ◌-◌}
use Rattle.std.proofs.Common.{length-set, reverse, eqb}
use Rattle.std.specs.Prelude.{slice_get, ◌==◌, sum_by}
use Rattle.std.proofs.lemmas.List.Sums.{sum_by-set}
use Rattle.std.proofs.lemmas.List.{append-nil, reverse-append, get_or-set_same, get_or-set_other}
use Rattle.ix_pattern.specs.Ways.{Text, Way}
use Rattle.ix_pattern.specs.Rows.{Rows}
use Rattle.ix_pikevm.specs.declared.code.Instr.{Instr}
use Rattle.ix_pikevm.specs.declared.cells.Cell.{Cell}
use Rattle.ix_pikevm.specs.declared.cells.Thread.{Thread}
use Rattle.ix_pikevm.specs.declared.cells.Best.{Best}
use Rattle.ix_pikevm.specs.declared.acts.Act.{Act}
use Rattle.ix_pikevm.specs.declared.acts.Act.TheVariants.{Fork, Go, Ready, Never, Stop}
use Rattle.ix_pikevm.specs.Code.{Mean, Meaning, thread_ways, list_ways, best_ways}
use Rattle.ix_pikevm.specs.Cover.{Kept}
use Rattle.ix_pikevm.specs.Looks.{AreLooks}
use Rattle.ix_pikevm.specs.declared.leaf.Leaf.{Leaf}
use Rattle.ix_pikevm.specs.Agrees.{Agrees}
use Rattle.ix_pikevm.specs.Acts.{Does, Puts, IsByte, IsKnown, AllKnown, ActKnown, ActBytes}
use Rattle.ix_pikevm.specs.Settled.{AllBytes, HasHead, marked, Keeps, Settles}
use Rattle.ix_pikevm.proofs.CoverLemmas.{Alike, Adds, kept-dropped, kept-replaced, kept-ready, kept-cut}

pub reverse-snoc : (stack : List Thread) (t : Thread) → reverse (stack ++ t ∷ []) ≡ t ∷ reverse stack
reverse-snoc stack t = reverse-append stack (t ∷ [])

pub alike : (code : List Instr) (rows : Rows) (text : Text) (blank : List (Option (ℕ × ℕ))) (mean : Mean) (rank : ℕ → ℕ) →
    Meaning code rows text blank mean rank →
    (cells : List Cell) (p : ℕ) → Alike (thread_ways mean cells p)
alike code rows text blank mean rank m cells p s t e none =
    subst (λ pc. mean pc (Rattle.ix_pikevm.specs.Code.history cells t.trail) p ≡ []) e (m.same s.pc p _ _ none)

pub AllKnown-more : (n c d : ℕ) (ts : List Thread) → c ≤ d → AllKnown n c ts → AllKnown n d ts
AllKnown-more n c d [] h a = tt
AllKnown-more n c d (t ∷ ts) h a = ((a.0.0, omega (arith, h, a.0.1)), AllKnown-more n c d ts h a.1)

pub AllKnown-push : (n c : ℕ) (ts : List Thread) (t : Thread) → AllKnown n c ts → IsKnown n c t → AllKnown n c (ts ++ t ∷ [])
AllKnown-push n c [] t a k = (k, tt)
AllKnown-push n c (s ∷ ts) t a k = (a.0, AllKnown-push n c ts t a.1 k)

pub AllKnown-pop : (n c : ℕ) (ts : List Thread) (t : Thread) → AllKnown n c (ts ++ t ∷ []) → AllKnown n c ts × IsKnown n c t
AllKnown-pop n c [] t a = (tt, a.0)
AllKnown-pop n c (s ∷ ts) t a = let r = AllKnown-pop n c ts t a.1 in ((a.0, r.0), r.1)

pub AllBytes-push : (code : List Instr) (ts : List Thread) (t : Thread) → AllBytes code ts → IsByte code t → AllBytes code (ts ++ t ∷ [])
AllBytes-push code [] t a k = (k, tt)
AllBytes-push code (s ∷ ts) t a k = (a.0, AllBytes-push code ts t a.1 k)

-- what stands in the loop
pub record At (code : List Instr) (looks : List Leaf) (text : Text) (p : ℕ) (cells0 : List Cell) (stack0 : List Thread) (stamp : ℕ)
    (marks : List ℕ) (cells : List Cell) (ready stack : List Thread) : Type 0 where
  pub known : AllKnown (length code) (length cells) stack
  pub waits : AllKnown (length code) (length cells) ready
  pub bytes : AllBytes code ready
  pub all : length marks ≡ length code
  pub low : (k : ℕ) → get_or marks k 0 ≤ stamp
  pub grown : (added : List Cell) × (cells ≡ cells0 ++ added)
  pub kept : (real : Text) → Agrees text real p → Keeps code looks real p cells0 stack0 marks stamp cells ready stack

pub at-init : (code : List Instr) (looks : List Leaf) (text : Text) (p : ℕ) (cells : List Cell) (stack ready : List Thread) (stamp : ℕ)
    (marks : List ℕ) →
    AllKnown (length code) (length cells) stack → ready ≡ [] → length marks ≡ length code → ((k : ℕ) → get_or marks k 0 < stamp) →
    At code looks text p cells stack stamp marks cells ready stack
at-init code looks text p cells stack ready stamp marks known none all un =
    record {
      known = known;
      waits = subst (AllKnown (length code) (length cells)) (sym none) tt;
      bytes = subst (AllBytes code) (sym none) tt;
      all = all;
      low = λ k. omega (arith, un k);
      grown = ([], sym (append-nil cells));
      kept = λ real ag. subst (λ r. Keeps code looks real p cells stack marks stamp cells r stack) (sym none)
          (λ rows blank mean rank m lk best goal head later. record {
            front = head later;
            covers = λ t mt. absurd (omega (arith, un t.pc, mt));
          });
    }

-- a thread is taken from the stack
pub record Popped (old new : List Thread) (t : Thread) : Type 0 where
  pub is : old ≡ new ++ t ∷ []

kept-popped : (code : List Instr) (looks : List Leaf) (text : Text) (p : ℕ) (cells0 : List Cell) (stack0 : List Thread) (marks : List ℕ)
    (stamp : ℕ) (cells : List Cell) (ready old stack : List Thread) (t : Thread) →
    old ≡ stack ++ t ∷ [] → Keeps code looks text p cells0 stack0 marks stamp cells ready old →
    (rows : Rows) (blank : List (Option (ℕ × ℕ))) (mean : Mean) (rank : ℕ → ℕ) → Meaning code rows text blank mean rank →
    AreLooks code looks rows text p →
    (best : Best) (goal : Option Way) → HasHead mean blank p cells0 [] stack0 best goal → (later : List Cell) →
    Kept (thread_ways mean (cells ++ later) p) rank (marked marks stamp) ready (t
    ∷ reverse stack) (best_ways blank (cells ++ later) best) goal
kept-popped code looks text p cells0 stack0 marks stamp cells ready old stack t is k rows blank mean rank m lk best goal head later =
    subst (λ s. Kept (thread_ways mean (cells ++ later) p) rank (marked marks stamp) ready s (best_ways blank (cells ++ later) best) goal)
    (ap reverse is ∙ reverse-snoc stack t) (k rows blank mean rank m lk best goal head later)

pub at-dropped : (code : List Instr) (looks : List Leaf) (text : Text) (p : ℕ) (cells0 : List Cell) (stack0 : List Thread) (stamp : ℕ)
    (marks : List ℕ) (cells : List Cell) (ready old stack : List Thread) (t : Thread) →
    old ≡ stack ++ t ∷ [] → get_or marks t.pc 0 ≡ stamp → At code looks text p cells0 stack0 stamp marks cells ready old →
    At code looks text p cells0 stack0 stamp marks cells ready stack
at-dropped code looks text p cells0 stack0 stamp marks cells ready old stack t is mark a =
    record {
      known = (AllKnown-pop (length code) (length cells) stack t (subst (AllKnown (length code) (length cells)) is a.known)).0;
      waits = a.waits;
      bytes = a.bytes;
      all = a.all;
      low = a.low;
      grown = a.grown;
      kept = λ real ag rows blank mean rank m lk best goal head later.
          kept-dropped (thread_ways mean (cells ++ later) p) rank (marked marks stamp) ready (reverse stack)
          (best_ways blank (cells ++ later) best) goal t mark
          (kept-popped code looks real p cells0 stack0 marks stamp cells ready old stack t is (a.kept real ag) rows blank mean rank m lk
          best goal head later);
    }

adds-mark : (marks : List ℕ) (stamp pc : ℕ) → Adds (marked marks stamp) (marked (set marks pc stamp) stamp) pc
adds-mark marks stamp pc k m = split (eqb k pc) refl
  where
    split : (b : Bool) → eqb k pc ≡ b → (k ≡ pc) ⊎ marked marks stamp k
    split true e = inl (grind (arith, e))
    split false e = inr (sym (get_or-set_other marks pc k stamp 0 (λ f. grind (arith, e, f))) ∙ m)

-- the same lists by other names
kept-as : (w : Thread → List Way) (rank : ℕ → ℕ) (new : ℕ →
    Type 0) (ready rest waiting more : List Thread) (best : List Way) (goal : Option Way) →
    rest ≡ ready → more ≡ waiting → Kept w rank new ready waiting best goal → Kept w rank new rest more best goal
kept-as w rank new ready rest waiting more best goal e f k =
    subst (λ r. Kept w rank new r more best goal) (sym e) (subst (λ m. Kept w rank new ready m best goal) (sym f) k)

some-none : (b : Best) → Some b ≡ None → ⊥
some-none b e = grind (arith, e)

some-same : (a b : Best) → Some a ≡ Some b → a ≡ b
some-same a b e = cc

-- what a thread that was not marked does to the lists
kept-acted : (code : List Instr) (mean : Mean) (blank : List (Option (ℕ × ℕ))) (rank : ℕ →
    ℕ) (cells : List Cell) (p : ℕ) (t : Thread) (a : Act)
    (old new : ℕ → Type 0) (stack more ready rest : List Thread) (best : List Way) (goal : Option Way) →
    Alike (thread_ways mean cells p) → Adds old new t.pc → Does code mean blank rank cells p t a → Puts a t stack more ready rest None →
    Kept (thread_ways mean cells p) rank old ready (t ∷ reverse stack) best goal →
    Kept (thread_ways mean cells p) rank new rest (reverse more) best goal
kept-acted code mean blank rank cells p t (Fork a b) old new stack more ready rest best goal al ad d put k =
    kept-as (thread_ways mean cells p) rank new ready rest (a ∷ b ∷ reverse stack) (reverse more) best goal put.1
    (ap reverse put.0 ∙ reverse-snoc (stack ++ b ∷ []) a ∙ ap (λ l. a ∷ l) (reverse-snoc stack b))
    (kept-replaced (thread_ways mean cells p) rank old new ready (reverse stack) (a ∷ b ∷ []) best goal t al ad d.same d.under k)
kept-acted code mean blank rank cells p t (Go a) old new stack more ready rest best goal al ad d put k =
    kept-as (thread_ways mean cells p) rank new ready rest (a ∷ reverse stack) (reverse more) best goal put.1
    (ap reverse put.0 ∙ reverse-snoc stack a)
    (kept-replaced (thread_ways mean cells p) rank old new ready (reverse stack) (a ∷ []) best goal t al ad d.same d.under k)
kept-acted code mean blank rank cells p t Ready old new stack more ready rest best goal al ad d put k =
    kept-as (thread_ways mean cells p) rank new (ready ++ t ∷ []) rest (reverse stack) (reverse more) best goal put.1 (ap reverse put.0)
    (kept-ready (thread_ways mean cells p) rank old new ready (reverse stack) best goal t al ad k)
kept-acted code mean blank rank cells p t Never old new stack more ready rest best goal al ad d put k =
    kept-as (thread_ways mean cells p) rank new ready rest (reverse stack) (reverse more) best goal put.1 (ap reverse put.0)
    (kept-replaced (thread_ways mean cells p) rank old new ready (reverse stack) [] best goal t al ad d.same d.under k)
kept-acted code mean blank rank cells p t (Stop found) old new stack more ready rest best goal al ad d put k =
    absurd (some-none found (sym put.2))

known-acted : (n c : ℕ) (t : Thread) (a : Act) (stack more ready rest : List Thread) (o : Option Best) → Puts a t stack more ready rest o →
    ActKnown n c a → IsKnown n c t →
    AllKnown n c stack → AllKnown n c ready → AllKnown n c more × AllKnown n c rest
known-acted n c t (Fork a b) stack more ready rest o put new k s r = (
  subst (AllKnown n c) (sym put.0) (AllKnown-push n c (stack ++ b ∷ []) a (AllKnown-push n c stack b s new.1) new.0),
  subst (AllKnown n c) (sym put.1) r,
)
known-acted n c t (Go a) stack more ready rest o put new k s r =
    (subst (AllKnown n c) (sym put.0) (AllKnown-push n c stack a s new), subst (AllKnown n c) (sym put.1) r)
known-acted n c t Ready stack more ready rest o put new k s r =
    (subst (AllKnown n c) (sym put.0) s, subst (AllKnown n c) (sym put.1) (AllKnown-push n c ready t r k))
known-acted n c t Never stack more ready rest o put new k s r =
    (subst (AllKnown n c) (sym put.0) s, subst (AllKnown n c) (sym put.1) r)
known-acted n c t (Stop found) stack more ready rest o put new k s r =
    (subst (AllKnown n c) (sym put.0) s, subst (AllKnown n c) (sym put.1) r)

bytes-acted : (code : List Instr) (t : Thread) (a : Act) (stack more ready rest : List Thread) (o : Option Best) →
    Puts a t stack more ready rest o → ActBytes code t a →
    AllBytes code ready → AllBytes code rest
bytes-acted code t (Fork a b) stack more ready rest o put is r = subst (AllBytes code) (sym put.1) r
bytes-acted code t (Go a) stack more ready rest o put is r = subst (AllBytes code) (sym put.1) r
bytes-acted code t Ready stack more ready rest o put is r = subst (AllBytes code) (sym put.1) (AllBytes-push code ready t r is)
bytes-acted code t Never stack more ready rest o put is r = subst (AllBytes code) (sym put.1) r
bytes-acted code t (Stop found) stack more ready rest o put is r = subst (AllBytes code) (sym put.1) r

-- what the calls in the loop say of a thread that was not marked
pub record Acted (code : List Instr) (looks : List Leaf) (text : Text) (p : ℕ) (old new : List Cell) (t : Thread) (a : Act) : Type 0 where
  pub does : (real : Text) → Agrees text real p → (rows : Rows) (blank : List (Option (ℕ × ℕ))) (mean : Mean) (rank : ℕ → ℕ) →
      Meaning code rows real blank mean rank → AreLooks code looks rows real p → (later : List Cell) →
      Does code mean blank rank (new ++ later) p t a
  pub known : ActKnown (length code) (length new) a
  pub bytes : ActBytes code t a
  pub grown : (added : List Cell) × (new ≡ old ++ added)

-- what was kept, when cells come
kept-later : (code : List Instr) (looks : List Leaf) (text : Text) (p : ℕ) (cells0 : List Cell) (stack0 : List Thread) (marks : List ℕ)
    (stamp : ℕ) (cells new added : List Cell) (ready old stack : List Thread) (t : Thread) →
    new ≡ cells ++ added → old ≡ stack ++ t ∷ [] → Keeps code looks text p cells0 stack0 marks stamp cells ready old →
    (rows : Rows) (blank : List (Option (ℕ × ℕ))) (mean : Mean) (rank : ℕ → ℕ) → Meaning code rows text blank mean rank →
    AreLooks code looks rows text p →
    (best : Best) (goal : Option Way) → HasHead mean blank p cells0 [] stack0 best goal → (later : List Cell) →
    Kept (thread_ways mean (new ++ later) p) rank (marked marks stamp) ready (t ∷ reverse stack) (best_ways blank (new ++ later) best) goal
kept-later code looks text p cells0 stack0 marks stamp cells new added ready old stack t grown is k rows blank mean rank m lk best goal head
    later =
    subst (λ c. Kept (thread_ways mean c p) rank (marked marks stamp) ready (t ∷ reverse stack) (best_ways blank c best) goal)
    (sym (append_assoc cells added later) ∙ ap (λ c. c ++ later) (sym grown))
    (kept-popped code looks text p cells0 stack0 marks stamp cells ready old stack t is k rows blank mean rank m lk best goal head (added
    ++ later))

-- a mark more
pub low-set : (marks : List ℕ) (pc stamp : ℕ) → ((k : ℕ) → get_or marks k 0 ≤ stamp) → pc < length marks → (k : ℕ) →
    get_or (set marks pc stamp) k 0 ≤ stamp
low-set marks pc stamp low h k = by (eqb k pc) refl
  where
    by : (b : Bool) → eqb k pc ≡ b → get_or (set marks pc stamp) k 0 ≤ stamp
    by false e = subst (λ n. n ≤ stamp) (sym (get_or-set_other marks pc k stamp 0 (λ f. grind (arith, e, f)))) (low k)
    by true e =
        let same : k ≡ pc = grind (arith, e) in
        let is : get_or (set marks pc stamp) k 0 ≡ stamp = ap (λ n. get_or (set marks pc stamp) n 0) same
        ∙ get_or-set_same marks pc stamp 0 h in
        omega (arith, is)

pub at-acted : (code : List Instr) (looks : List Leaf) (text : Text) (p : ℕ) (cells0 : List Cell) (stack0 : List Thread) (stamp : ℕ)
    (marks : List ℕ) (cells new : List Cell) (ready rest old stack more : List Thread) (t : Thread) (a : Act) →
    old ≡ stack ++ t ∷ [] → Acted code looks text p cells new t a → Puts a t stack more ready rest None →
    At code looks text p cells0 stack0 stamp marks cells ready old →
    At code looks text p cells0 stack0 stamp (set marks t.pc stamp) new rest more
at-acted code looks text p cells0 stack0 stamp marks cells new ready rest old stack more t a is act put s =
    let k = AllKnown-pop (length code) (length cells) stack t (subst (AllKnown (length code) (length cells)) is s.known) in
    let le : length cells ≤ length new = rw (act.grown.1, length-append) (omega arith) in
    let both = known-acted (length code) (length new) t a stack more ready rest None put act.known (k.1.0, omega (arith, le, k.1.1))
    (AllKnown-more (length code) (length cells) (length new) stack le k.0)
    (AllKnown-more (length code) (length cells) (length new) ready le s.waits) in
    record {
      known = both.0;
      waits = both.1;
      bytes = bytes-acted code t a stack more ready rest None put act.bytes s.bytes;
      all = length-set marks t.pc stamp ∙ s.all;
      low = low-set marks t.pc stamp s.low (omega (arith, k.1.0, s.all));
      grown = (s.grown.0 ++ act.grown.0, act.grown.1 ∙ ap (λ c. c ++ act.grown.0) s.grown.1 ∙ append_assoc cells0 s.grown.0 act.grown.0);
      kept = λ real ag rows blank mean rank m lk best goal head later.
          kept-acted code mean blank rank (new ++ later) p t a (marked marks stamp) (marked (set marks t.pc stamp) stamp) stack more ready
          rest (best_ways blank (new ++ later) best) goal
          (alike code rows real blank mean rank m (new ++ later) p) (adds-mark marks stamp t.pc)
          (act.does real ag rows blank mean rank m lk later) put
          (kept-later code looks real p cells0 stack0 marks stamp cells new act.grown.0 ready old stack t act.grown.1 is (s.kept real ag)
          rows blank mean rank m lk best goal head later);
    }

pub at-stopped : (code : List Instr) (looks : List Leaf) (text : Text) (p : ℕ) (cells0 : List Cell) (stack0 : List Thread) (stamp : ℕ)
    (marks : List ℕ) (cells new : List Cell) (ready rest old stack more : List Thread) (t : Thread) (a : Act) (found : Best) →
    old ≡ stack ++ t ∷ [] → Acted code looks text p cells new t a → Puts a t stack more ready rest (Some found) →
    At code looks text p cells0 stack0 stamp marks cells ready old →
    (real : Text) → Agrees text real p → Settles code looks real p cells0 stack0 new rest (Some found)
at-stopped code looks text p cells0 stack0 stamp marks cells new ready rest old stack more t a found is act put s real ag rows blank mean
    rank m lk best goal head later =
    stopped a (act.does real ag rows blank mean rank m lk later) put
  where
    stopped : (a : Act) → Does code mean blank rank (new ++ later) p t a → Puts a t stack more ready rest (Some found) →
        slice_get (list_ways (thread_ways mean (new ++ later) p) rest ++ best_ways blank (new ++ later) found) 0 ≡ goal
    stopped (Fork a b) d put = absurd (some-none found put.2)
    stopped (Go a) d put = absurd (some-none found put.2)
    stopped Ready d put = absurd (some-none found put.2)
    stopped Never d put = absurd (some-none found put.2)
    stopped (Stop it) d put =
        ap (λ r. slice_get (list_ways (thread_ways mean (new ++ later) p) r ++ best_ways blank (new ++ later) found) 0) put.1
        ∙ ap (λ b. slice_get (list_ways (thread_ways mean (new ++ later) p) ready ++ best_ways blank (new ++ later) b) 0)
        (some-same found it put.2)
        ∙ ap (λ l. slice_get (list_ways (thread_ways mean (new ++ later) p) ready ++ l) 0) d.best
        ∙ kept-cut (thread_ways mean (new ++ later) p) rank (marked marks stamp) ready (reverse stack) (best_ways blank (new ++ later) best)
        goal t d.way d.is
        (kept-later code looks real p cells0 stack0 marks stamp cells new act.grown.0 ready old stack t act.grown.1 is (s.kept real ag) rows
        blank mean rank m lk best goal head later)

-- all threads have been followed
pub at-end : (code : List Instr) (looks : List Leaf) (text : Text) (p : ℕ) (cells0 : List Cell) (stack0 : List Thread) (stamp : ℕ)
    (marks : List ℕ) (cells : List Cell) (ready stack : List Thread) →
    stack ≡ [] → At code looks text p cells0 stack0 stamp marks cells ready stack → (real : Text) → Agrees text real p →
    Settles code looks real p cells0 stack0 cells ready None
at-end code looks text p cells0 stack0 stamp marks cells ready stack none s real ag rows blank mean rank m lk best goal head later =
    subst (λ l. slice_get (list_ways (thread_ways mean (cells ++ later) p) ready
    ++ (list_ways (thread_ways mean (cells ++ later) p) (reverse l) ++ best_ways blank (cells ++ later) best)) 0 ≡ goal)
    none (s.kept real ag rows blank mean rank m lk best goal head later).front

-- how many instructions have no mark yet
abbrev pub unmarked : ℕ → List ℕ → ℕ
unmarked stamp marks = sum_by (λ m. if m == stamp then 0 else 1) marks

pub fewer : (marks : List ℕ) (stamp pc : ℕ) → pc < length marks → (get_or marks pc 0 ≡ stamp → ⊥) →
    unmarked stamp (set marks pc stamp) + 1 ≡ unmarked stamp marks
fewer marks stamp pc h other =
    let e : unmarked stamp (set marks pc stamp) + (if get_or marks pc 0 == stamp then 0 else 1) ≡ unmarked stamp
    marks + (if stamp == stamp then 0 else 1)
    = sum_by-set (λ m. if m == stamp then 0 else 1) marks pc stamp 0 h in
    let f : ◌≡◌ {A = ℕ} (if get_or marks pc 0 == stamp then 0 else 1) 1 = differs (get_or marks pc 0) other in
    let s : ◌≡◌ {A = ℕ} (if stamp == stamp then 0 else 1) 0 = alike stamp in
    omega (arith, e, f, s)
  where
    differs : (n : ℕ) → (n ≡ stamp → ⊥) → ◌≡◌ {A = ℕ} (if n == stamp then 0 else 1) 1
    differs n other = grind (arith, other)

    alike : (n : ℕ) → ◌≡◌ {A = ℕ} (if n == n then 0 else 1) 0
    alike n = grind arith

pub popped-known : (code : List Instr) (looks : List Leaf) (text : Text) (p : ℕ) (cells0 : List Cell) (stack0 : List Thread) (stamp : ℕ)
    (marks : List ℕ) (cells : List Cell) (ready old stack : List Thread) (t : Thread) →
    old ≡ stack ++ t ∷ [] → At code looks text p cells0 stack0 stamp marks cells ready old → IsKnown (length code) (length cells) t
popped-known code looks text p cells0 stack0 stamp marks cells ready old stack t is a =
    (AllKnown-pop (length code) (length cells) stack t (subst (AllKnown (length code) (length cells)) is a.known)).1

-- a turn makes it smaller
pub acted-smaller : (marks : List ℕ) (stamp : ℕ) (old stack more ready rest : List Thread) (t : Thread) (a : Act) (o : Option Best) →
    old ≡ stack ++ t ∷ [] → Puts a t stack more ready rest o →
    t.pc < length marks → (get_or marks t.pc 0 ≡ stamp → ⊥) →
    2 * unmarked stamp (set marks t.pc stamp) + length more < 2 * unmarked stamp marks + length old
acted-smaller marks stamp old stack more ready rest t a o is put h other =
    let f = fewer marks stamp t.pc h other in
    let n = longer a put in
    let l : length old ≡ length stack + 1 = ap length is ∙ length-append stack (t ∷ []) in
    omega (arith, f, n, l)
  where
    longer : (a : Act) → Puts a t stack more ready rest o → length more ≤ length stack + 2
    longer (Fork x y) put = let l : length more ≡ length stack + 2 = ap length put.0 ∙ length-append (stack ++ y ∷ []) (x ∷ [])
        ∙ ap (λ n. n + 1) (length-append stack (y ∷ [])) ∙ (omega arith) in omega (arith, l)
    longer (Go x) put = let l : length more ≡ length stack + 1 = ap length put.0 ∙ length-append stack (x ∷ []) in omega (arith, l)
    longer Ready put = let l = ap length put.0 in omega (arith, l)
    longer Never put = let l = ap length put.0 in omega (arith, l)
    longer (Stop x) put = let l = ap length put.0 in omega (arith, l)

-- a list from which nothing can be taken
pub none-left : {A : Type 0} (old new : List A) (n : ℕ) → old ≡ new ++ [] → new ≡ take (n - 1) old → n ≡ 0 → old ≡ []
none-left old new n e f g = e ∙ append-nil new ∙ f ∙ ap (λ k. take k old) (let h : n - 1 ≡ 0 = omega (arith, g) in h)

pub ready-known : (code : List Instr) (looks : List Leaf) (text : Text) (p : ℕ) (cells0 : List Cell) (stack0 : List Thread) (stamp : ℕ)
    (marks : List ℕ) (cells new : List Cell) (ready rest old stack more : List Thread) (t : Thread) (a : Act) (o : Option Best) →
    old ≡ stack ++ t ∷ [] → Acted code looks text p cells new t a → Puts a t stack more ready rest o →
    At code looks text p cells0 stack0 stamp marks cells ready old →
    AllKnown (length code) (length new) rest
ready-known code looks text p cells0 stack0 stamp marks cells new ready rest old stack more t a o is act put s =
    let k = AllKnown-pop (length code) (length cells) stack t (subst (AllKnown (length code) (length cells)) is s.known) in
    let le : length cells ≤ length new = rw (act.grown.1, length-append) (omega arith) in
    (known-acted (length code) (length new) t a stack more ready rest o put act.known (k.1.0, omega (arith, le, k.1.1))
    (AllKnown-more (length code) (length cells) (length new) stack le k.0)
    (AllKnown-more (length code) (length cells) (length new) ready le s.waits)).1
