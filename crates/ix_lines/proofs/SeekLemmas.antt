-- The first break, and the walk to it.
use Rattle.std.proofs.Common.{Ok, Err, ◌≡◌, ℕ, zero, suc, ◌+◌, ◌-◌, ◌<◌, ◌≤◌, Bool, true, false, List, [], ◌∷◌, ◌++◌, length, take, drop}
use Rattle.std.proofs.Common.{get_or, Option, Some, refl, sym, ◌∙◌, ap, subst, arith, append_assoc}
use Rattle.std.specs.Prelude.{take_while, not, cond, Result, IfOk}
use Rattle.std.specs.List.{prefix_len}
use Rattle.std.proofs.lemmas.List.Folds.{length-prefix_len}
use Rattle.std.proofs.lemmas.List.{append-nil, length-drop, get_or-drop}
use Rattle.ix_base.specs.Stream.{Dated, bytes_of}
use Rattle.ix_lines.specs.Walk.{Look, match, no_match, more, BreakFinder, Walked, preceded, after, walk}
use Rattle.ix_lines.specs.Laws.{IsStable, BeginsBy}
use Rattle.ix_lines.specs.Seek.{last_byte, look_of, IsSized, past_one, past, found_by, seek}
use Rattle.ix_lines.specs.declared.breaks.BreakLook.{BreakLook}
use Rattle.ix_lines.specs.declared.breaks.BreakLook.TheVariants.{Match, No, More}
use Rattle.ix_lines.specs.declared.breaks.Found.{Found}
use Rattle.ix_lines.specs.declared.breaks.Found.TheVariants.{Break, Stop}
use Rattle.ix_lines.proofs.ListLemmas.{take-drop-swap, take-add, drop-drop, drop-past, take-past}
use Rattle.ix_lines.proofs.WalkLemmas.{length-bytes_of}

-- the bytes within a match are walked past
pub walk-within : (look : BreakFinder) (u : Bool) (before : Option ℕ) (rest : List Dated) (n : ℕ) (stream : List Dated) →
    n ≤ length stream →
    walk look u before rest n stream ≡ walk look u (last_byte before (bytes_of (take n stream))) rest 0 (drop n stream)
walk-within look u before rest zero stream h = refl
walk-within look u before rest (suc n) [] h = absurd (omega arith)
walk-within look u before rest (suc n) (d ∷ stream) h = walk-within look u (Some d.0) rest n stream (omega arith)

-- the walk, by the first break from here on
abbrev pub by_found : BreakFinder → Bool → Option ℕ → List Dated → List Dated → Found → Walked
by_found look u before rest left (Break from to n) =
    preceded ((rest ++ take from left) ∷ []) (walk look u (last_byte before (bytes_of (take n left))) (drop to (take n left)) 0
    (drop n left))
by_found look u before rest left (Stop at) =
    record { done = []; rest = rest ++ take at left; before = last_byte before (bytes_of (take at left)); pending = drop at left }

by_found-past : (look : BreakFinder) (u : Bool) (before : Option ℕ) (rest : List Dated) (d : Dated) (left : List Dated) (f : Found) →
    by_found look u (Some d.0) (rest ++ d ∷ []) left f ≡ by_found look u before rest (d ∷ left) (past_one f)
by_found-past look u before rest d left (Break from to n) =
    ap (λ s. preceded (s ∷ []) (walk look u (last_byte (Some d.0) (bytes_of (take n left))) (drop to (take n left)) 0 (drop n left)))
    (append_assoc rest (d ∷ []) (take from left))
by_found-past look u before rest d left (Stop at) =
    λ i. record {
      done = [];
      rest = append_assoc rest (d ∷ []) (take at left) i;
      before = last_byte (Some d.0) (bytes_of (take at left));
      pending = drop at left;
    }

walk-match : (look : BreakFinder) (u : Bool) (before : Option ℕ) (rest : List Dated) (d : Dated) (left : List Dated) (from to n : ℕ) →
    to ≤ n → 0 < n → n ≤ suc (length left) →
    after before rest (d ∷ left) (λ since within. walk look u (Some d.0) since within left) (match from to n)
    ≡ by_found look u before rest (d ∷ left) (Break from to n)
walk-match look u before rest d left from to zero tn some h = absurd (omega arith)
walk-match look u before rest d left from to (suc n) tn some h =
    let one : suc n - 1 ≡ n = omega arith in
    ap (λ k. preceded ((rest ++ take from (d ∷ left)) ∷ []) (walk look u (Some d.0) (take (suc n - to) (drop to (d ∷ left))) k left)) one
    ∙ ap (λ s. preceded ((rest ++ take from (d ∷ left)) ∷ []) (walk look u (Some d.0) s n left)) (take-drop-swap (suc n) to (d ∷ left) tn)
    ∙ ap (preceded ((rest ++ take from (d ∷ left)) ∷ []))
    (walk-within look u (Some d.0) (drop to (take (suc n) (d ∷ left))) n left (omega arith))

pub walk-seek : (look : BreakFinder) → IsStable look → (u : Bool) (before : Option ℕ) (rest left : List Dated) →
    walk look u before rest 0 left ≡ by_found look u before rest left (seek look u before (bytes_of left))
walk-seek look stable u before rest [] = λ i. record { done = []; rest = sym (append-nil rest) i; before = before; pending = [] }
walk-seek look stable u before rest (d ∷ left) =
    by (look before (bytes_of (d ∷ left)) u) refl (walk-seek look stable u (Some d.0) (rest ++ d ∷ []) left)
  where
    by : (l : Look) → look before (bytes_of (d ∷ left)) u ≡ l →
        walk look u (Some d.0) (rest ++ d ∷ []) 0 left ≡ by_found look u (Some d.0) (rest ++ d
        ∷ []) left (seek look u (Some d.0) (bytes_of left)) →
        after before rest (d ∷ left) (λ since within. walk look u (Some d.0) since within left) l
        ≡ by_found look u before rest (d ∷ left) (found_by (seek look u (Some d.0) (bytes_of left)) l)
    by more e ih = λ i. record { done = []; rest = sym (append-nil rest) i; before = before; pending = d ∷ left }
    by no_match e ih = ih ∙ by_found-past look u before rest d left (seek look u (Some d.0) (bytes_of left))
    by (match from to n) e ih =
        let sized = stable.sized before (bytes_of (d ∷ left)) u from to n e in
        walk-match look u before rest d left from to n sized.1 sized.2 (omega (arith, sized.3, length-bytes_of left))

-- places that are passed over
pub past-zero : (f : Found) → f ≡ past 0 f
past-zero (Break from to n) = λ i. Break (plus from i) (plus to i) (plus n i)
  where
    plus : (k : ℕ) → k ≡ 0 + k
    plus k = omega arith
past-zero (Stop at) = let e : at ≡ 0 + at = omega arith in ap Stop e

past-suc : (n : ℕ) (f : Found) → past_one (past n f) ≡ past (suc n) f
past-suc n (Break from to m) = λ i. Break (suc-plus n from i) (suc-plus n to i) (suc-plus n m i)
  where
    suc-plus : (n k : ℕ) → suc (n + k) ≡ suc n + k
    suc-plus n k = omega arith
past-suc n (Stop at) = let e : suc (n + at) ≡ suc n + at = omega arith in ap Stop e

past-past : (m n : ℕ) (f : Found) → past m (past n f) ≡ past (m + n) f
past-past m n (Break from to e) = λ i. Break (plus m n from i) (plus m n to i) (plus m n e i)
  where
    plus : (m n k : ℕ) → m + (n + k) ≡ m + n + k
    plus m n k = omega arith
past-past m n (Stop at) = let e : m + (n + at) ≡ m + n + at = omega arith in ap Stop e

pub last_byte-append : (before : Option ℕ) (xs ys : List ℕ) → last_byte (last_byte before xs) ys ≡ last_byte before (xs ++ ys)
last_byte-append before [] ys = refl
last_byte-append before (x ∷ xs) ys = last_byte-append (Some x) xs ys

pub last_byte-on : (before : Option ℕ) (i n : ℕ) (xs : List ℕ) →
    last_byte (last_byte before (take i xs)) (take n (drop i xs)) ≡ last_byte before (take (i + n) xs)
last_byte-on before i n xs = last_byte-append before (take i xs) (take n (drop i xs)) ∙ ap (last_byte before) (take-add i n xs)

-- no break begins with a byte that fails the test
pub seek-past : (look : BreakFinder) (test : ℕ → Bool) → BeginsBy look test → (u : Bool) (before : Option ℕ) (bytes : List ℕ) →
    ((k : ℕ) → get_or bytes k 0 < 256) →
    let n = prefix_len (λ b. not (test b)) bytes in seek look u before bytes ≡ past n
    (seek look u (last_byte before (take n bytes)) (drop n bytes))
seek-past look test begins u before [] low = refl
seek-past look test begins u before (b ∷ bytes) low =
    by (test b) refl (seek-past look test begins u (Some b) bytes (λ k. low (suc k)))
  where
    n : ℕ
    n = prefix_len (λ b. not (test b)) bytes

    by : (t : Bool) → test b ≡ t → seek look u (Some b) bytes ≡ past n (seek look u (last_byte (Some b) (take n bytes)) (drop n bytes)) →
        let m = cond (not t) (1 + n) 0 in
        seek look u before (b ∷ bytes) ≡ past m (seek look u (last_byte before (take m (b ∷ bytes))) (drop m (b ∷ bytes)))
    by true e ih = past-zero (seek look u before (b ∷ bytes))
    by false e ih =
        let one : 1 + n ≡ suc n = omega arith in
        rw one (
        ap (found_by (seek look u (Some b) bytes)) (begins before b bytes u (low 0) e)
        ∙ ap past_one ih
        ∙ past-suc n (seek look u (last_byte (Some b) (take n bytes)) (drop n bytes)))

-- the search has come to this place
abbrev pub Sought : BreakFinder → Bool → Option ℕ → List ℕ → ℕ → Type 0
Sought look u before bytes at = seek look u before bytes ≡ past at (seek look u (last_byte before (take at bytes)) (drop at bytes))

pub sought-on : (look : BreakFinder) (u : Bool) (before : Option ℕ) (bytes : List ℕ) (at n : ℕ) → Sought look u before bytes at →
    Sought look u (last_byte before (take at bytes)) (drop at bytes) n → Sought look u before bytes (at + n)
sought-on look u before bytes at n s h =
    s ∙ ap (past at) h ∙ past-past at n (seek look u (last_byte (last_byte before (take at bytes)) (take n (drop at bytes)))
    (drop n (drop at bytes)))
    ∙ ap (λ b. past (at + n) (seek look u b (drop n (drop at bytes)))) (last_byte-on before at n bytes)
    ∙ ap (λ l. past (at + n) (seek look u (last_byte before (take (at + n) bytes)) l)) (drop-drop at n bytes)

seek-none : (look : BreakFinder) (u : Bool) (before : Option ℕ) (bytes : List ℕ) → 0 < length bytes → look before bytes u ≡ no_match →
    Sought look u before bytes 1
seek-none look u before [] h e = absurd (omega arith)
seek-none look u before (b ∷ bytes) h e =
    ap (found_by (seek look u (Some b) bytes)) e ∙ ap past_one (past-zero (seek look u (Some b) bytes))
    ∙ past-suc 0 (seek look u (Some b) bytes)

seek-found : (look : BreakFinder) (u : Bool) (before : Option ℕ) (bytes : List ℕ) (l : Look) (f : Found) → 0 < length bytes →
    look before bytes u ≡ l →
    ((later : Found) → found_by later l ≡ f) → seek look u before bytes ≡ f
seek-found look u before [] l f h e by = absurd (omega arith)
seek-found look u before (b ∷ bytes) l f h e by = ap (found_by (seek look u (Some b) bytes)) e ∙ by (seek look u (Some b) bytes)

-- the steps of the search
pub sought-none : (look : BreakFinder) (u : Bool) (before : Option ℕ) (bytes : List ℕ) (at : ℕ) → Sought look u before bytes at →
    at < length bytes →
    look (last_byte before (take at bytes)) (drop at bytes) u ≡ no_match → Sought look u before bytes (at + 1)
sought-none look u before bytes at s h e =
    sought-on look u before bytes at 1 s (seek-none look u (last_byte before (take at bytes)) (drop at bytes)
    (omega (arith, length-drop at bytes)) e)

pub sought-more : (look : BreakFinder) (u : Bool) (before : Option ℕ) (bytes : List ℕ) (at : ℕ) → Sought look u before bytes at →
    at < length bytes →
    look (last_byte before (take at bytes)) (drop at bytes) u ≡ more → seek look u before bytes ≡ Stop at
sought-more look u before bytes at s h e =
    s ∙ ap (past at) (seek-found look u (last_byte before (take at bytes)) (drop at bytes) more (Stop 0)
    (omega (arith, length-drop at bytes)) e (λ later. refl))
    ∙ plus-zero at
  where
    plus-zero : (k : ℕ) → Stop (k + 0) ≡ Stop k
    plus-zero k = let z : k + 0 ≡ k = omega arith in ap Stop z

pub sought-match : (look : BreakFinder) (u : Bool) (before : Option ℕ) (bytes : List ℕ) (at from to n : ℕ) → Sought look u before bytes at →
    at < length bytes →
    look (last_byte before (take at bytes)) (drop at bytes) u ≡ match from to n →
    seek look u before bytes ≡ Break (at + from) (at + to) (at + n)
sought-match look u before bytes at from to n s h e =
    s ∙ ap (past at) (seek-found look u (last_byte before (take at bytes)) (drop at bytes) (match from to n) (Break from to n)
    (omega (arith, length-drop at bytes)) e (λ later. refl))

pub sought-end : (look : BreakFinder) (u : Bool) (before : Option ℕ) (bytes : List ℕ) (at : ℕ) → Sought look u before bytes at →
    length bytes ≤ at →
    seek look u before bytes ≡ Stop at
sought-end look u before bytes at s h =
    s ∙ ap (λ l. past at (seek look u (last_byte before (take at bytes)) l)) (drop-past at bytes h) ∙ plus-zero at
  where
    plus-zero : (k : ℕ) → Stop (k + 0) ≡ Stop k
    plus-zero k = let z : k + 0 ≡ k = omega arith in ap Stop z

-- the code's slices and its search for a byte
pub rest-is : (bytes : List ℕ) (at : ℕ) → take (length bytes - at) (drop at bytes) ≡ drop at bytes
rest-is bytes at = take-past (length bytes - at) (drop at bytes) (omega (arith, length-drop at bytes))

pub sought-first : (look : BreakFinder) (test : ℕ → Bool) → BeginsBy look test →
    (u : Bool) (before : Option ℕ) (bytes : List ℕ) (at n : ℕ) (hay : List ℕ) →
    ((k : ℕ) → get_or bytes k 0 < 256) → hay ≡ drop at bytes → Sought look u before bytes at →
    n ≡ length (take_while (λ b. not (test b)) hay) →
    Sought look u before bytes (at + n)
sought-first look test begins u before bytes at n hay low is s e =
    sought-on look u before bytes at n s
    (subst (λ (m : ℕ). Sought look u (last_byte before (take at bytes)) (drop at bytes) m)
    (sym (e ∙ length-prefix_len (λ b. not (test b)) hay ∙ ap (prefix_len (λ b. not (test b))) is))
    (seek-past look test begins u (last_byte before (take at bytes)) (drop at bytes)
    (λ k. subst (λ (b : ℕ). b < 256) (sym (get_or-drop at bytes k 0)) (low (at + k)))))

pub looked-at : (look : BreakFinder) (u : Bool) (before r : Option ℕ) (bytes slice : List ℕ) (place : ℕ) (l : Look) →
    r ≡ last_byte before (take place bytes) →
    slice ≡ drop place bytes → l ≡ look r slice u → look (last_byte before (take place bytes)) (drop place bytes) u ≡ l
looked-at look u before r bytes slice place l p q e =
    ap (λ b. look b (drop place bytes) u) (sym p) ∙ ap (λ s. look r s u) (sym q) ∙ sym e

last_byte-take : (before : Option ℕ) (n : ℕ) (bytes : List ℕ) → 0 < n → n ≤ length bytes →
    Some (get_or bytes (n - 1) 0) ≡ last_byte before (take n bytes)
last_byte-take before zero bytes some h = absurd (omega arith)
last_byte-take before (suc n) [] some h = absurd (omega arith)
last_byte-take before (suc zero) (b ∷ bytes) some h = refl
last_byte-take before (suc (suc n)) (b ∷ bytes) some h =
    let a : suc (suc n) - 1 ≡ suc n = omega arith in
    let b' : suc n - 1 ≡ n = omega arith in
    ap (λ k. Some (get_or (b ∷ bytes) k 0)) a ∙ ap (λ k. Some (get_or bytes k 0)) (sym b')
    ∙ last_byte-take (Some b) (suc n) bytes (omega arith) (omega arith)

pub last_byte-last : (before : Option ℕ) (n : ℕ) (bytes : List ℕ) → 0 < n → n ≡ length bytes →
    Some (get_or bytes (n - 1) 0) ≡ last_byte before bytes
last_byte-last before n bytes some e = last_byte-take before n bytes some (omega arith)
    ∙ ap (last_byte before) (take-past n bytes (omega arith))

-- what the code's answer tells
pub looked-sized : (look : BreakFinder) → IsStable look → (u : Bool) (before : Option ℕ) (bytes : List ℕ) (l : BreakLook) →
    look_of l ≡ look before bytes u → IsSized l (length bytes)
looked-sized look stable u before bytes No e = tt
looked-sized look stable u before bytes More e = tt
looked-sized look stable u before bytes (Match from to n) e = stable.sized before bytes u from to n (sym e)

pub answer-sized : {E : Type 0} (look : BreakFinder) → IsStable look →
    (u : Bool) (before : Option ℕ) (bytes : List ℕ) (r : Result BreakLook E) →
    IfOk r (λ l. look_of l ≡ look before bytes u) → IfOk r (λ l. IsSized l (length bytes))
answer-sized look stable u before bytes (Ok l) e = looked-sized look stable u before bytes l e
answer-sized look stable u before bytes (Err x) e = e
