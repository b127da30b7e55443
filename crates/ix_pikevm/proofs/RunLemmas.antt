-- From place to place.
use Rattle.std.proofs.Common.{◌≡◌, ℕ, ◌+◌, if◌then◌else◌, Bool, true, false, List, [], ◌∷◌, ◌++◌, length, Option, Some, refl, sym, ◌∙◌, ap}
use Rattle.std.proofs.Common.{arith, append_assoc, take, reverse, ◌≤◌, subst}
use Rattle.std.specs.Prelude.{slice_get, slice_index_or}
use Rattle.std.proofs.lemmas.Option.{slice_get_past}
use Rattle.std.proofs.lemmas.List.{append-nil}
use Rattle.ix_pattern.specs.Ways.{Text, Way, edge, byte_ways, at_end}
use Rattle.ix_pattern.specs.Rows.{Rows}
use Rattle.ix_pikevm.specs.declared.code.Instr.{Instr}
use Rattle.ix_pikevm.specs.declared.code.Instr.TheVariants.{Byte}
use Rattle.ix_pikevm.specs.declared.cells.Cell.{Cell}
use Rattle.ix_pikevm.specs.declared.cells.Thread.{Thread}
use Rattle.ix_pikevm.specs.declared.cells.Best.{Best}
use Rattle.ix_pikevm.specs.declared.cells.Best.TheVariants.{No, More}
use Rattle.ix_pikevm.specs.Leaf.{at}
use Rattle.ix_pikevm.specs.Code.{Mean, Meaning, history, thread_ways, list_ways, best_ways, set_in, sets_of, tested}
use Rattle.ix_pikevm.specs.Acts.{IsByte}
use Rattle.ix_pikevm.specs.Settled.{AllBytes}
use Rattle.ix_pikevm.specs.Stepped.{AreAnswers, Steps}
use Rattle.ix_pikevm.specs.Ran.{AreMarks, Rounds, Goes, Ends, Grown}

pub goes-init : (known : Rows → Type 0) (code : List Instr) (text : Text) (start place : ℕ) (cells : List Cell) (stack : List Thread) →
    stack ≡ record { pc = start; trail = 0 } ∷ [] → Goes known code text start place place cells stack No
goes-init known code text start place cells stack is rows blank mean rank m t later =
    ap (λ s. slice_get (list_ways (thread_ways mean (cells ++ later) place) (reverse s) ++ []) 0) is
    ∙ ap (λ l. slice_get l 0) (append-nil (mean start [] place ++ []) ∙ append-nil (mean start [] place))

-- of a pattern of which more is known
pub rounds-of : (weak strong : Rows → Type 0) (code : List Instr) (text : Text) (p : ℕ) (cells new : List Cell) (old ready : List Thread)
    (before after : Best) →
    ((rows : Rows) → strong rows → weak rows) → Rounds weak code text p cells old new ready before after →
    Rounds strong code text p cells old new ready before after
rounds-of weak strong code text p cells new old ready before after f r rows blank mean rank m t goal head =
    r rows blank mean rank m (f rows t) goal head

-- behind the threads of a place and a byte
pub goes-on : (known : Rows → Type 0) (code : List Instr) (text : Text) (start place p byte : ℕ) (cells new : List Cell)
    (old ready stack : List Thread) (before after : Best) (answers : List Bool) →
    Rounds known code text p cells old new ready before after → Steps code answers ready stack → slice_get text.bytes p ≡ Some byte →
    ((rows : Rows) → known rows → AreAnswers answers (sets_of rows) byte) →
    Goes known code text start place p cells old before → Goes known code text start place (p + 1) new stack after
goes-on known code text start place p byte cells new old ready stack before after answers r s got an g rows blank mean rank m t later =
    ap (λ l. slice_get (l ++ best_ways blank (new ++ later) after) 0)
    (sym (s rows text blank mean rank m p byte got (an rows t) (new ++ later)))
    ∙ r rows blank mean rank m t (slice_get (mean start [] place) 0) (g rows blank mean rank m t) later

-- no thread waits
pub ends-none : (known : Rows → Type 0) (code : List Instr) (text : Text) (start place p : ℕ) (cells new : List Cell)
    (old ready : List Thread) (before after : Best) →
    Rounds known code text p cells old new ready before after → ready ≡ [] → Goes known code text start place p cells old before →
    Ends known code text start place new after
ends-none known code text start place p cells new old ready before after r none g rows blank mean rank m t =
    sym (r rows blank mean rank m t (slice_get (mean start [] place) 0) (g rows blank mean rank m t) [])
    ∙ ap (λ l. slice_get (list_ways (thread_ways mean (new ++ []) p) l ++ best_ways blank (new ++ []) after) 0) none
    ∙ ap (λ c. slice_get (best_ways blank c after) 0) (append-nil new)

-- no thread is left
pub ends-here : (known : Rows → Type 0) (code : List Instr) (text : Text) (start place p : ℕ) (cells : List Cell) (stack : List Thread)
    (best : Best) →
    stack ≡ [] → Goes known code text start place p cells stack best → Ends known code text start place cells best
ends-here known code text start place p cells stack best none g rows blank mean rank m t =
    sym (g rows blank mean rank m t [])
    ∙ ap (λ s. slice_get (list_ways (thread_ways mean (cells ++ []) p) (reverse s) ++ best_ways blank (cells ++ []) best) 0) none
    ∙ ap (λ c. slice_get (best_ways blank c best) 0) (append-nil cells)

last-ways : (code : List Instr) (rows : Rows) (text : Text) (blank : List (Option (ℕ × ℕ))) (mean : Mean) (rank : ℕ → ℕ) →
    Meaning code rows text blank mean rank →
    (cells : List Cell) (t : Thread) → IsByte code t → thread_ways mean cells (length text.bytes) t ≡ at_end text []
last-ways code rows text blank mean rank m cells t is =
    m.gives t.pc (Byte is.0 is.1) is.2 (history cells t.trail) (length text.bytes) (omega arith)
    ∙ ap (λ b. tested (mean is.1 (history cells t.trail)) (byte_ways (set_in (sets_of rows) is.0) text (at (length text.bytes) []) b))
    (slice_get_past text.bytes (length text.bytes) (omega arith))
    ∙ same text.unfinished
  where
    same : (u : Bool) → tested (mean is.1 (history cells t.trail)) (if u then edge ∷ [] else []) ≡ (if u then edge ∷ [] else [])
    same true = refl
    same false = refl

-- at the end of a closed text no thread has a way
pub closed-ways : (code : List Instr) (rows : Rows) (text : Text) (blank : List (Option (ℕ × ℕ))) (mean : Mean) (rank : ℕ → ℕ) →
    Meaning code rows text blank mean rank →
    text.unfinished ≡ false → (cells : List Cell) (ts : List Thread) → AllBytes code ts →
    list_ways (thread_ways mean cells (length text.bytes)) ts ≡ []
closed-ways code rows text blank mean rank m closed cells [] a = refl
closed-ways code rows text blank mean rank m closed cells (t ∷ ts) a =
    ap (λ l. l ++ list_ways (thread_ways mean cells (length text.bytes)) ts) (last-ways code rows text blank mean rank m cells t a.0
    ∙ ap (λ u. if u then edge ∷ [] else []) closed)
    ∙ closed-ways code rows text blank mean rank m closed cells ts a.1

pub ends-closed : (known : Rows → Type 0) (code : List Instr) (text : Text) (start place p : ℕ) (cells new : List Cell)
    (old ready : List Thread) (before after : Best) →
    Rounds known code text p cells old new ready before after → AllBytes code ready → p ≡ length text.bytes → text.unfinished ≡ false →
    Goes known code text start place p cells old before → Ends known code text start place new after
ends-closed known code text start place p cells new old ready before after r bytes last closed g rows blank mean rank m t =
    sym (r rows blank mean rank m t (slice_get (mean start [] place) 0) (g rows blank mean rank m t) [])
    ∙ ap (λ k. slice_get (list_ways (thread_ways mean (new ++ []) k) ready ++ best_ways blank (new ++ []) after) 0) last
    ∙ ap (λ l. slice_get (l ++ best_ways blank (new ++ []) after) 0)
    (closed-ways code rows text blank mean rank m closed (new ++ []) ready bytes)
    ∙ ap (λ c. slice_get (best_ways blank c after) 0) (append-nil new)

-- at the end of an open text the first thread meets an edge
open-ways : (code : List Instr) (rows : Rows) (text : Text) (blank : List (Option (ℕ × ℕ))) (mean : Mean) (rank : ℕ → ℕ) →
    Meaning code rows text blank mean rank →
    text.unfinished ≡ true → (cells : List Cell) (ts : List Thread) (rest : List Way) → AllBytes code ts → (ts ≡ [] → ⊥) →
    slice_get (list_ways (thread_ways mean cells (length text.bytes)) ts ++ rest) 0 ≡ Some edge
open-ways code rows text blank mean rank m unfinished cells [] rest a some = absurd (some refl)
open-ways code rows text blank mean rank m unfinished cells (t ∷ ts) rest a some =
    ap (λ l. slice_get ((l ++ list_ways (thread_ways mean cells (length text.bytes)) ts) ++ rest) 0)
    (last-ways code rows text blank mean rank m cells t a.0 ∙ ap (λ u. if u then edge ∷ [] else []) unfinished)

pub ends-open : (known : Rows → Type 0) (code : List Instr) (text : Text) (start place p : ℕ) (cells new : List Cell)
    (old ready : List Thread) (before after : Best) →
    Rounds known code text p cells old new ready before after → AllBytes code ready → p ≡ length text.bytes → text.unfinished ≡ true →
    (ready ≡ [] → ⊥) →
    Goes known code text start place p cells old before → Ends known code text start place new More
ends-open known code text start place p cells new old ready before after r bytes last unfinished some g rows blank mean rank m t =
    sym (r rows blank mean rank m t (slice_get (mean start [] place) 0) (g rows blank mean rank m t) [])
    ∙ ap (λ k. slice_get (list_ways (thread_ways mean (new ++ []) k) ready ++ best_ways blank (new ++ []) after) 0) last
    ∙ open-ways code rows text blank mean rank m unfinished (new ++ []) ready (best_ways blank (new ++ []) after) bytes some

pub grown-none : (xs : List Cell) → Grown xs xs
grown-none xs = record { added = []; is = sym (append-nil xs) }

pub grown-both : {xs ys zs : List Cell} → Grown xs ys → Grown ys zs → Grown xs zs
grown-both {xs} {ys} {zs} a b = record {
  added = a.added ++ b.added;
  is = b.is ∙ ap (λ l. l ++ b.added) a.is
      ∙ append_assoc xs a.added b.added;
}

pub take-grown : (xs ys : List Cell) (n : ℕ) → Grown xs ys → n ≡ length xs → take n ys ≡ xs
take-grown xs ys n g e = ap (λ k. take k ys) e ∙ ap (take (length xs)) g.is ∙ front xs g.added
  where
    front : (us vs : List Cell) → take (length us) (us ++ vs) ≡ us
    front [] vs = refl
    front (u ∷ us) vs = ap (λ l. u ∷ l) (front us vs)

-- marks that were lent are all that stand there afterwards
pub marks-kept : (xs zs : List ℕ) (n count stamp : ℕ) → n ≡ length xs → length xs ≡ count → ((k : ℕ) → slice_index_or xs k 0 ≤ stamp) →
    AreMarks (take n (xs ++ zs)) count stamp
marks-kept xs zs n count stamp e all low =
    subst (λ l. AreMarks l count stamp) (sym (ap (λ k. take k (xs ++ zs)) e ∙ front xs)) (all, low)
  where
    front : (us : List ℕ) → take (length us) (us ++ zs) ≡ us
    front [] = refl
    front (u ∷ us) = ap (λ l. u ∷ l) (front us)
