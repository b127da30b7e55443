-- A thread that waits, and a byte.
use Rattle.std.proofs.Common.{◌≡◌, ℕ, zero, suc, ◌+◌, ◌<◌, ◌≤◌, if◌then◌else◌, Bool, true, false, List, [], ◌∷◌, ◌++◌, length, Option}
use Rattle.std.proofs.Common.{Some, None, refl, sym, ◌∙◌, ap, subst, arith, get_or, drop, reverse}
use Rattle.std.specs.Prelude.{slice_get}
use Rattle.std.proofs.lemmas.Option.{slice_get_within}
use Rattle.std.proofs.lemmas.List.{append-nil}
use Rattle.ix_pattern.specs.Piece.{in_set}
use Rattle.ix_pattern.specs.Ways.{Text, Way, here, byte_ways}
use Rattle.ix_pattern.specs.Rows.{Rows}
use Rattle.ix_pikevm.specs.declared.code.Instr.{Instr}
use Rattle.ix_pikevm.specs.declared.code.Instr.TheVariants.{Byte}
use Rattle.ix_pikevm.specs.declared.cells.Cell.{Cell}
use Rattle.ix_pikevm.specs.declared.cells.Thread.{Thread}
use Rattle.ix_pikevm.specs.Leaf.{at}
use Rattle.ix_pikevm.specs.Code.{Mean, Meaning, IsCode, HasSets, history, thread_ways, list_ways, set_in, sets_of, tested}
use Rattle.ix_pikevm.specs.Acts.{IsByte, IsKnown, AllKnown}
use Rattle.ix_pikevm.specs.Settled.{AllBytes}
use Rattle.ix_pikevm.specs.Stepped.{AreAnswers, Steps}
use Rattle.ix_pikevm.proofs.SettleLemmas.{reverse-snoc, AllKnown-push}

pub drop-get : {A : Type 0} (xs : List A) (i : ℕ) (x : A) → slice_get xs i ≡ Some x → drop i xs ≡ x ∷ drop (suc i) xs
drop-get [] i x e = absurd (let h = slice_get_within [] i x e in omega (arith, h))
drop-get (y ∷ xs) zero x e = let f : y ≡ x = cc in ap (λ z. z ∷ xs) f
drop-get (y ∷ xs) (suc i) x e = drop-get xs i x e

pub AllBytes-at : (code : List Instr) (ts : List Thread) (i : ℕ) (t : Thread) → slice_get ts i ≡ Some t → AllBytes code ts → IsByte code t
AllBytes-at code [] i t e a = absurd (let h = slice_get_within [] i t e in omega (arith, h))
AllBytes-at code (s ∷ ts) zero t e a = let f : s ≡ t = cc in subst (IsByte code) f a.0
AllBytes-at code (s ∷ ts) (suc i) t e a = AllBytes-at code ts i t e a.1

pub AllKnown-at : (n c : ℕ) (ts : List Thread) (i : ℕ) (t : Thread) → slice_get ts i ≡ Some t → AllKnown n c ts → IsKnown n c t
AllKnown-at n c [] i t e a = absurd (let h = slice_get_within [] i t e in omega (arith, h))
AllKnown-at n c (s ∷ ts) zero t e a = let f : s ≡ t = cc in subst (IsKnown n c) f a.0
AllKnown-at n c (s ∷ ts) (suc i) t e a = AllKnown-at n c ts i t e a.1

-- what stands behind a byte
abbrev pub option_ways : (Thread → List Way) → Option Thread → List Way
option_ways w None = []
option_ways w (Some t) = w t

abbrev pub Behind : List Instr → List Bool → Thread → Option Thread → Type 0
Behind code answers t o = (set next : ℕ) → slice_get code t.pc ≡ Some (Byte set next) →
    o ≡ (if get_or answers set false then Some (record { pc = next; trail = t.trail }) else None)

pub behind-ways : (code : List Instr) (answers : List Bool) (t : Thread) (o : Option Thread) → IsByte code t →
    HasSets (length answers) code → Behind code answers t o →
    (rows : Rows) (text : Text) (blank : List (Option (ℕ × ℕ))) (mean : Mean) (rank : ℕ → ℕ) → Meaning code rows text blank mean rank →
    (p byte : ℕ) → slice_get text.bytes p ≡ Some byte → AreAnswers answers (sets_of rows) byte → (cells : List Cell) →
    thread_ways mean cells p t ≡ option_ways (thread_ways mean cells (p + 1)) o
behind-ways code answers t o is has be rows text blank mean rank m p byte got an cells =
    let in_text : p < length text.bytes = slice_get_within text.bytes p byte got in
    m.gives t.pc (Byte is.0 is.1) is.2 (history cells t.trail) p (omega (arith, in_text))
    ∙ ap (λ b. tested (mean is.1 (history cells t.trail)) (byte_ways (set_in (sets_of rows) is.0) text (at p []) b)) got
    ∙ split (in_set (set_in (sets_of rows) is.0) byte)
    ∙ ap (λ b. option_ways (thread_ways mean cells (p + 1)) (if b then Some (record { pc = is.1; trail = t.trail }) else None))
    (sym (an is.0 (has t.pc (Byte is.0 is.1) is.2)))
    ∙ ap (option_ways (thread_ways mean cells (p + 1))) (sym (be is.0 is.1 is.2))
  where
    split : (b : Bool) → tested (mean is.1 (history cells t.trail)) (here b (at (p + 1) []))
        ≡ option_ways (thread_ways mean cells (p + 1)) (if b then Some (record { pc = is.1; trail = t.trail }) else None)
    split true = append-nil (mean is.1 (history cells t.trail) (p + 1))
    split false = refl

-- the stack with one more, or not
abbrev pub IsPushed : Option Thread → List Thread → List Thread → Type 0
IsPushed None old new = new ≡ old
IsPushed (Some t) old new = new ≡ old ++ t ∷ []

pub pushed-ways : (w : Thread → List Way) (o : Option Thread) (old new : List Thread) → IsPushed o old new →
    list_ways w (reverse new) ≡ option_ways w o ++ list_ways w (reverse old)
pushed-ways w None old new e = ap (λ l. list_ways w (reverse l)) e
pushed-ways w (Some t) old new e = ap (λ l. list_ways w (reverse l)) e ∙ ap (list_ways w) (reverse-snoc old t)

pub steps-more : (code : List Instr) (answers : List Bool) (ready old new : List Thread) (n i : ℕ) (t : Thread) (o : Option Thread) →
    n ≡ suc i → AllBytes code ready → HasSets (length answers) code →
    slice_get ready i ≡ Some t → Behind code answers t o → IsPushed o old new → Steps code answers (drop n ready) old →
    Steps code answers (drop i ready) new
steps-more code answers ready old new n i t o after bytes has e be push s rows text blank mean rank m p byte got an cells =
    ap (list_ways (thread_ways mean cells p)) (drop-get ready i t e ∙ ap (λ k. t ∷ drop k ready) (sym after))
    ∙ ap (λ l. l ++ list_ways (thread_ways mean cells p) (drop n ready))
    (behind-ways code answers t o (AllBytes-at code ready i t e bytes) has be rows text blank mean rank m p byte got an cells)
    ∙ ap (λ l. option_ways (thread_ways mean cells (p + 1)) o ++ l) (s rows text blank mean rank m p byte got an cells)
    ∙ sym (pushed-ways (thread_ways mean cells (p + 1)) o old new push)

pub known-more : (code : List Instr) (answers : List Bool) (ready old new : List Thread) (i : ℕ) (t : Thread) (o : Option Thread) →
    AllBytes code ready → IsCode code →
    slice_get ready i ≡ Some t → Behind code answers t o → IsPushed o old new → (c : ℕ) → AllKnown (length code) c ready →
    AllKnown (length code) c old → AllKnown (length code) c new
known-more code answers ready old new i t None bytes has e be push c k a = subst (AllKnown (length code) c) (sym push) a
known-more code answers ready old new i t (Some u) bytes has e be push c k a =
    let is = AllBytes-at code ready i t e bytes in
    let w = AllKnown-at (length code) c ready i t e k in
    subst (AllKnown (length code) c) (sym push) (AllKnown-push (length code) c old u a
    (split (get_or answers is.0 false) (be is.0 is.1 is.2) (has t.pc (Byte is.0 is.1) is.2) w.1))
  where
    some-same : (a b : Thread) → Some a ≡ Some b → a ≡ b
    some-same a b e = cc

    some-none : (a : Thread) → Some a ≡ None → ⊥
    some-none a e = grind (arith, e)

    split : {next : ℕ} (b : Bool) → Some u ≡ (if b then Some (record { pc = next; trail = t.trail }) else None) → next < length code →
        t.trail ≤ c → IsKnown (length code) c u
    split {next} true e lt le = subst (IsKnown (length code) c) (sym (some-same u (record { pc = next; trail = t.trail }) e)) (lt, le)
    split false e lt le = absurd (some-none u e)

pub steps-none : (code : List Instr) (answers : List Bool) (ready stack : List Thread) → stack ≡ [] →
    Steps code answers (drop (length ready) ready) stack
steps-none code answers ready stack none rows text blank mean rank m p byte got an cells =
    ap (list_ways (thread_ways mean cells p)) (all ready) ∙ ap (λ l. list_ways (thread_ways mean cells (p + 1)) (reverse l)) (sym none)
  where
    all : (l : List Thread) → drop (length l) l ≡ []
    all [] = refl
    all (x ∷ l) = all l
