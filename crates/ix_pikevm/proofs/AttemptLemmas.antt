-- An attempt that is kept while bytes come.
use Rattle.std.proofs.Common.{◌≡◌, ℕ, ◌+◌, ◌<◌, ◌≤◌, true, List, [], ◌∷◌, ◌++◌, length, Option, refl, sym, ◌∙◌, ap, subst, arith}
use Rattle.std.proofs.Common.{append_assoc, length-append}
use Rattle.std.specs.Prelude.{slice_get}
use Rattle.std.proofs.lemmas.List.{append-nil}
use Rattle.std.proofs.lemmas.Option.{slice_get_within}
use Rattle.ix_pattern.specs.Piece.{Piece}
use Rattle.ix_pattern.specs.Ways.{Text, ways}
use Rattle.ix_pattern.specs.Laws.{Continues}
use Rattle.ix_pattern.specs.Rows.{Rows}
use Rattle.ix_pikevm.specs.declared.code.Instr.{Instr}
use Rattle.ix_pikevm.specs.declared.code.Lookahead.{Lookahead}
use Rattle.ix_pikevm.specs.declared.cells.Cell.{Cell}
use Rattle.ix_pikevm.specs.declared.cells.Thread.{Thread}
use Rattle.ix_pikevm.specs.declared.cells.Best.{Best}
use Rattle.ix_pikevm.specs.declared.cells.Best.TheVariants.{No}
use Rattle.ix_pikevm.specs.declared.run.Outcome.{Outcome}
use Rattle.ix_pikevm.specs.declared.program.Program.{Program}
use Rattle.ix_pikevm.specs.declared.attempt.Attempt.{Attempt}
use Rattle.ix_pikevm.specs.Leaf.{at}
use Rattle.ix_pikevm.specs.Acts.{AllKnown}
use Rattle.ix_pikevm.specs.Agrees.{AreEnough}
use Rattle.ix_pikevm.specs.Aims.{aim_at}
use Rattle.ix_pikevm.specs.Programs.{IsProgram}
use Rattle.ix_pikevm.specs.Outcomes.{head_of, Shows}
use Rattle.ix_pikevm.specs.Ran.{Goes, Sees, IsOf}
use Rattle.ix_pikevm.specs.Attempts.{so_far, Lasts, IsAttemptOn, IsSettled}
use Rattle.ix_pikevm.proofs.AgreeLemmas.{sees-on}
use Rattle.ix_pikevm.proofs.RunLemmas.{goes-init}
use Rattle.ix_pikevm.proofs.ProgramLemmas.{onward-stop, mean_of, meaning-of}

-- a text goes on from what has come of it
pub continues-self : (text : Text) → Continues (so_far text.before text.bytes) text
continues-self text = record { unfinished = refl; before = refl; more = []; bytes = sym (append-nil text.bytes) }

-- and from less
pub continues-less : (before : Option ℕ) (given more bytes : List ℕ) (real : Text) → bytes ≡ given ++ more →
    Continues (so_far before bytes) real → Continues (so_far before given) real
continues-less before given more bytes real is c =
    record {
      unfinished = refl;
      before = c.before;
      more = more ++ c.more;
      bytes = c.bytes ∙ ap (λ l. l ++ c.more) is ∙ append_assoc given more c.more;
    }

continues-open : (seen real : Text) → seen.unfinished ≡ true → Continues (so_far seen.before seen.bytes) real → Continues seen real
continues-open seen real u c = record { unfinished = u; before = c.before; more = c.more; bytes = c.bytes }

-- of a pattern of which more is known
pub lasts-of : (weak strong : Rows → Type 0) (code : List Instr) (seen : Text) (start p : ℕ) (cells : List Cell) (stack : List Thread)
    (best : Best) →
    ((rows : Rows) → strong rows → weak rows) → Lasts weak code seen start p cells stack best →
    Lasts strong code seen start p cells stack best
lasts-of weak strong code seen start p cells stack best f g real c rows blank mean rank m t = g real c rows blank mean rank m (f rows t)

-- said of equal lists
pub lasts-same : (known : Rows → Type 0) (code : List Instr) (seen : Text) (start p q : ℕ) (cells cells' : List Cell)
    (stack stack' : List Thread) (best best' : Best) →
    p ≡ q → cells ≡ cells' → stack ≡ stack' → best ≡ best' → Lasts known code seen start p cells stack best →
    Lasts known code seen start q cells' stack' best'
lasts-same known code seen start p q cells cells' stack stack' best best' e c s b l =
    subst (λ n. Lasts known code seen start n cells' stack' best') e
    (subst (λ x. Lasts known code seen start p x stack' best') c
    (subst (λ x. Lasts known code seen start p cells x best') s
    (subst (λ x. Lasts known code seen start p cells stack x) b l)))

-- it stands for each text that goes on from more
pub stands-more : (rows : Rows) (program : Program) (attempt : Attempt) (before : Option ℕ) (given more bytes : List ℕ) → bytes ≡ given
    ++ more →
    IsAttemptOn rows program attempt before given → IsAttemptOn rows program attempt before bytes
stands-more rows program attempt before given more bytes is s =
    record {
      within = (let l : length bytes ≡ length given + length more = ap length is ∙ length-append given more in omega (arith, l, s.within));
      known = s.known;
      lasts = λ real c. s.lasts real (continues-less before given more bytes real is c);
    }

pub stands-first : (rows : Rows) (program : Program) (attempt : Attempt) (before : Option ℕ) (bytes : List ℕ) →
    program.start < length program.code.items → attempt.place ≡ 0 →
    attempt.threads.items ≡ record { pc = program.start; trail = 0 } ∷ [] → attempt.best ≡ No →
    IsAttemptOn rows program attempt before bytes
stands-first rows program attempt before bytes low first one none =
    record {
      within = omega (arith, first);
      known = subst (AllKnown (length program.code.items) (length attempt.cells.items)) (sym one) ((low, omega arith), tt);
      lasts = λ real c.
          subst (λ b. Goes (IsOf rows) program.code.items real program.start 0 attempt.place attempt.cells.items attempt.threads.items b)
          (sym none)
          (subst (λ p. Goes (IsOf rows) program.code.items real program.start 0 p attempt.cells.items attempt.threads.items No) (sym first)
          (goes-init (IsOf rows) program.code.items real program.start 0 attempt.cells.items attempt.threads.items one));
    }

-- what is seen decides the tests before the settled place
pub settled-sees : (asks : List Lookahead) (seen real : Text) (to : ℕ) → IsSettled asks seen to →
    Continues (so_far seen.before seen.bytes) real → Sees asks seen real to
settled-sees asks seen real to s c = sees-on asks s.behind seen real to (continues-open seen real s.unfinished c) s.enough s.within

-- how many bytes are enough
pub enough-for-none : (asks : List Lookahead) (n : ℕ) → asks ≡ [] → 2 ≤ n → AreEnough asks n
enough-for-none asks n none two =
    record {
      two = two;
      for_asks = λ k ask got. (let within = slice_get_within asks k ask got in let l = ap length none in absurd (omega (arith, within, l)));
    }

pub enough-for-all : (asks : List Lookahead) (n : ℕ) → 255 ≤ n → AreEnough asks n
enough-for-all asks n h = record { two = omega (arith, h); for_asks = λ k ask got. h }

-- what an outcome shows of the pattern
pub program-shows : (known : Rows → Type 0) (rows : Rows) (piece : Piece) (code : List Instr) (text : Text) (start place : ℕ)
    (blank : List (Option (ℕ × ℕ))) (o : Outcome) →
    IsProgram rows piece code start → known rows → place ≤ length text.bytes → Shows known code text start place blank o →
    slice_get (ways piece text (at place blank)) 0 ≡ head_of o
program-shows known rows piece code text start place blank o pr t le e =
    ap (λ l. slice_get l 0) (sym (onward-stop (ways piece text (at place blank))) ∙ sym (pr.meets.same text [] (at place blank) le))
    ∙ e rows (mean_of pr.aims text blank) (λ k. (aim_at pr.aims k).rank) (meaning-of rows pr.aims code text blank pr.fits) t

-- a copy stands for the same
pub stands-same : (rows : Rows) (program : Program) (a b : Attempt) (before : Option ℕ) (bytes : List ℕ) → b.place ≡ a.place →
    b.threads.items ≡ a.threads.items →
    b.cells.items ≡ a.cells.items → b.best ≡ a.best → IsAttemptOn rows program a before bytes → IsAttemptOn rows program b before bytes
stands-same rows program a b before bytes p t c e s =
    record {
      within = omega (arith, p, s.within);
      known = subst (λ l. AllKnown (length program.code.items) (length l) b.threads.items) (sym c)
          (subst (AllKnown (length program.code.items) (length a.cells.items)) (sym t) s.known);
      lasts = lasts-same (IsOf rows) program.code.items (so_far before bytes) program.start a.place b.place a.cells.items b.cells.items
          a.threads.items b.threads.items
          a.best b.best (sym p) (sym c) (sym t) (sym e) s.lasts;
    }
