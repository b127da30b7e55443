-- The instructions of a pattern have its ways.
use Rattle.std.proofs.Common.{◌≡◌, ℕ, zero, suc, ◌+◌, ◌<◌, ◌≤◌, ◌&&◌, if◌then◌else◌, Bool, true, false, List, [], ◌∷◌, length, Option}
use Rattle.std.proofs.Common.{Some, None, refl, sym, ◌∙◌, ap, subst, arith}
use Rattle.std.specs.Prelude.{slice_get, ◌==◌}
use Rattle.std.proofs.lemmas.Option.{slice_get_within}
use Rattle.ix_pattern.specs.Piece.{Piece, ahead, in_set}
use Rattle.ix_pattern.specs.Ways.{Text, Reached, Way, ends_at, edge, onward, at_end, here, is_start, byte_before, byte_ways, finish_ways}
use Rattle.ix_pattern.specs.Ways.{is_word, is_word_byte, differ, word_ways, sight, look, ways}
use Rattle.ix_pattern.specs.Rows.{Rows, piece_at}
use Rattle.ix_pikevm.specs.declared.code.Instr.{Instr}
use Rattle.ix_pikevm.specs.declared.code.Instr.TheVariants.{Match, Byte, Split, Jump, Begin, Finish, TextStart, TextEnd, Word, Look}
use Rattle.ix_pikevm.specs.declared.cells.Event.{Event}
use Rattle.ix_pikevm.specs.declared.cells.Cell.{Cell}
use Rattle.ix_pikevm.specs.declared.cells.Best.{Best}
use Rattle.ix_pikevm.specs.Leaf.{at}
use Rattle.ix_pikevm.specs.Code.{Mean, Meaning, Gives, Falls, IsCode, HasSet, HasSets, replay, set_in, sets_of, tested}
use Rattle.ix_pikevm.specs.Aims.{Aim, stop_aim, aim_at, pre, Same, Meets, IsFor, HasRow, IsRight, AreAims, Written}
use Rattle.ix_pikevm.specs.Programs.{no_hole, IsProgram, IsHead}
use Rattle.ix_pikevm.specs.Ran.{Ends}
use Rattle.ix_pikevm.specs.Alike.{Like}
use Rattle.ix_pikevm.proofs.AlikeLemmas.{Like-nil, ways-like}

abbrev pub mean_of : List Aim → Text → List (Option (ℕ × ℕ)) → Mean
mean_of aims text blank pc h p = (aim_at aims pc).gives text (replay blank h).began (record { place = p; groups = (replay blank h).groups })

-- ---- what is behind a test does not depend on how the groups are kept

here-tested : (f : Reached → List Way) (p q : ℕ) (groups : List (Option (ℕ × ℕ))) (b : Bool) →
    onward f (here b (record { place = q; groups = groups })) ≡ tested (λ k. f (record { place = k; groups = groups })) (here b (at q []))
here-tested f p q groups true = refl
here-tested f p q groups false = refl

end-tested : (f : Reached → List Way) (groups : List (Option (ℕ × ℕ))) (u : Bool) (xs ys : List Way) →
    onward f xs ≡ tested (λ k. f (record { place = k; groups = groups })) ys →
    onward f (if u then edge ∷ [] else xs) ≡ tested (λ k. f (record { place = k; groups = groups })) (if u then edge ∷ [] else ys)
end-tested f groups true xs ys e = refl
end-tested f groups false xs ys e = e

byte-tested : (f : Reached → List Way) (set : List Bool) (text : Text) (p : ℕ) (groups : List (Option (ℕ × ℕ))) (o : Option ℕ) →
    onward f (byte_ways set text (record { place = p; groups = groups }) o) ≡ tested (λ k. f (record { place = k; groups = groups }))
    (byte_ways set text (at p []) o)
byte-tested f set text p groups None = end-tested f groups text.unfinished [] [] refl
byte-tested f set text p groups (Some b) = here-tested f p (p + 1) groups (in_set set b)

finish-tested : (f : Reached → List Way) (lines : Bool) (text : Text) (p : ℕ) (groups : List (Option (ℕ × ℕ))) (o : Option ℕ) →
    onward f (finish_ways lines text (record { place = p; groups = groups }) o) ≡ tested (λ k. f (record { place = k; groups = groups }))
    (finish_ways lines text (at p []) o)
finish-tested f lines text p groups None = end-tested f groups text.unfinished (ends_at (record { place = p; groups = groups })
    ∷ []) (ends_at (at p []) ∷ []) refl
finish-tested f true text p groups (Some b) = here-tested f p p groups (b == 10)
finish-tested f false text p groups (Some b) = last ((b == 10) && (p + 1 == length text.bytes))
  where
    last : (t : Bool) → onward f (if t then at_end text (ends_at (record { place = p; groups = groups }) ∷ []) else [])
        ≡ tested (λ k. f (record { place = k; groups = groups })) (if t then at_end text (ends_at (at p []) ∷ []) else [])
    last true = end-tested f groups text.unfinished (ends_at (record { place = p; groups = groups }) ∷ []) (ends_at (at p []) ∷ []) refl
    last false = refl

word-tested : (f : Reached → List Way) (text : Text) (p : ℕ) (groups : List (Option (ℕ × ℕ))) (o : Option ℕ) →
    onward f (word_ways text (record { place = p; groups = groups }) o) ≡ tested (λ k. f (record { place = k; groups = groups }))
    (word_ways text (at p []) o)
word-tested f text p groups None =
    end-tested f groups text.unfinished (here (is_word (byte_before text.before text.bytes p)) (record { place = p; groups = groups }))
    (here (is_word (byte_before text.before text.bytes p)) (at p []))
    (here-tested f p p groups (is_word (byte_before text.before text.bytes p)))
word-tested f text p groups (Some b) = here-tested f p p groups (differ (is_word (byte_before text.before text.bytes p)) (is_word_byte b))

look-tested : (f : Reached → List Way) (p : ℕ) (groups : List (Option (ℕ × ℕ))) (wanted : Bool) (xs ys : List Way) → Like xs ys →
    onward f (look wanted (record { place = p; groups = groups }) xs) ≡ tested (λ k. f (record { place = k; groups = groups }))
    (look wanted (at p []) ys)
look-tested f p groups wanted [] (y ∷ ys) l = absurd l
look-tested f p groups wanted (x ∷ xs) [] l = absurd l
look-tested f p groups wanted (edge ∷ xs) (ends_at s ∷ ys) l = absurd l
look-tested f p groups wanted (ends_at r ∷ xs) (edge ∷ ys) l = absurd l
look-tested f p groups true [] [] l = refl
look-tested f p groups true (ends_at r ∷ xs) (ends_at s ∷ ys) l = refl
look-tested f p groups true (edge ∷ xs) (edge ∷ ys) l = refl
look-tested f p groups false [] [] l = refl
look-tested f p groups false (ends_at r ∷ xs) (ends_at s ∷ ys) l = refl
look-tested f p groups false (edge ∷ xs) (edge ∷ ys) l = refl

ahead-tested : (f : Reached → List Way) (piece inside : Piece) (wanted : Bool) (text : Text) (p : ℕ) (groups : List (Option (ℕ × ℕ))) →
    piece ≡ ahead inside wanted →
    onward f (ways piece text (record { place = p; groups = groups })) ≡ tested (λ k. f (record { place = k; groups = groups }))
    (ways piece text (at p []))
unfolding ways
ahead-tested f piece inside wanted text p groups is =
    subst (λ q. onward f (ways q text (record { place = p; groups = groups })) ≡ tested (λ k. f (record { place = k; groups = groups }))
    (ways q text (at p []))) (sym is)
    (look-tested f p groups wanted (ways inside (sight (p + 255) text) (record { place = p; groups = groups }))
    (ways inside (sight (p + 255) text) (at p []))
    (ways-like inside (sight (p + 255) text) (record { place = p; groups = groups }) (at p []) refl))

-- ---- the meaning

gives-of : (rows : Rows) (aims : List Aim) (text : Text) (blank : List (Option (ℕ × ℕ))) (pc : ℕ) (i : Instr) →
    IsFor rows aims (aim_at aims pc) i → HasRow rows i → (h : List Event) (p : ℕ) → p ≤ length text.bytes →
    Gives rows text blank (mean_of aims text blank) pc i h p
gives-of rows aims text blank pc Match f row h p le = f text (replay blank h).began (record { place = p; groups = (replay blank h).groups })
    le
gives-of rows aims text blank pc (Byte set next) f row h p le =
    f text (replay blank h).began (record { place = p; groups = (replay blank h).groups }) le
    ∙ byte-tested ((aim_at aims next).gives text (replay blank h).began) (set_in (sets_of rows) set) text p (replay blank h).groups
    (slice_get text.bytes p)
gives-of rows aims text blank pc (Split x y) f row h p le =
    f.0 text (replay blank h).began (record { place = p; groups = (replay blank h).groups }) le
gives-of rows aims text blank pc (Jump x) f row h p le =
    f.0 text (replay blank h).began (record { place = p; groups = (replay blank h).groups }) le
gives-of rows aims text blank pc (Begin x) f row h p le =
    f.0 text (replay blank h).began (record { place = p; groups = (replay blank h).groups }) le
gives-of rows aims text blank pc (Finish number x) f row h p le =
    f.0 text (replay blank h).began (record { place = p; groups = (replay blank h).groups }) le
gives-of rows aims text blank pc (TextStart lines x) f row h p le =
    f.0 text (replay blank h).began (record { place = p; groups = (replay blank h).groups }) le
    ∙ here-tested ((aim_at aims x).gives text (replay blank h).began) p p (replay blank h).groups
    (is_start lines (byte_before text.before text.bytes p))
gives-of rows aims text blank pc (TextEnd lines x) f row h p le =
    f.0 text (replay blank h).began (record { place = p; groups = (replay blank h).groups }) le
    ∙ finish-tested ((aim_at aims x).gives text (replay blank h).began) lines text p (replay blank h).groups (slice_get text.bytes p)
gives-of rows aims text blank pc (Word x) f row h p le =
    f.0 text (replay blank h).began (record { place = p; groups = (replay blank h).groups }) le
    ∙ word-tested ((aim_at aims x).gives text (replay blank h).began) text p (replay blank h).groups (slice_get text.bytes p)
gives-of rows aims text blank pc (Look piece x) f row h p le =
    f.0 text (replay blank h).began (record { place = p; groups = (replay blank h).groups }) le
    ∙ ahead-tested ((aim_at aims x).gives text (replay blank h).began) (piece_at rows piece) row.inside row.wanted text p
    (replay blank h).groups row.is

falls-of : (rows : Rows) (aims : List Aim) (pc : ℕ) (i : Instr) → IsFor rows aims (aim_at aims pc) i →
    Falls (λ k. (aim_at aims k).rank) (aim_at aims pc).rank i
falls-of rows aims pc Match f = tt
falls-of rows aims pc (Byte set next) f = tt
falls-of rows aims pc (Split x y) f = (f.1, f.2)
falls-of rows aims pc (Jump x) f = f.1
falls-of rows aims pc (Begin x) f = f.1
falls-of rows aims pc (Finish number x) f = f.1
falls-of rows aims pc (TextStart lines x) f = f.1
falls-of rows aims pc (TextEnd lines x) f = f.1
falls-of rows aims pc (Word x) f = f.1
falls-of rows aims pc (Look piece x) f = f.1

pub meaning-of : (rows : Rows) (aims : List Aim) (code : List Instr) (text : Text) (blank : List (Option (ℕ × ℕ))) →
    AreAims rows aims no_hole code →
    Meaning code rows text blank (mean_of aims text blank) (λ k. (aim_at aims k).rank)
meaning-of rows aims code text blank f =
    record {
      gives = λ pc i e h p le. gives-of rows aims text blank pc i ((f.right pc i e).is refl) (f.right pc i e).row h p le;
      falls = λ pc i e. falls-of rows aims pc i ((f.right pc i e).is refl);
      same = λ pc p h k none. Like-nil (mean_of aims text blank pc h p) (mean_of aims text blank pc k p)
          (f.even pc text (replay blank h).began (replay blank k).began (record { place = p; groups = (replay blank h).groups })
          (record { place = p; groups = (replay blank k).groups }) refl) none;
      spans = λ pc p h k e. ap (λ s. (aim_at aims pc).gives text s.began (record { place = p; groups = s.groups })) e;
    }

pub program-code : (rows : Rows) (piece : Piece) (code : List Instr) (start : ℕ) → IsProgram rows piece code start → IsCode code
program-code rows piece code start pr pc i e = (pr.fits.right pc i e).targets

pub row-set : (rows : Rows) (i : Instr) → HasRow rows i → HasSet (length rows) i
row-set rows Match h = tt
row-set rows (Byte set next) h = h
row-set rows (Split first other) h = tt
row-set rows (Jump next) h = tt
row-set rows (Begin next) h = tt
row-set rows (Finish number next) h = tt
row-set rows (TextStart lines next) h = tt
row-set rows (TextEnd lines next) h = tt
row-set rows (Word next) h = tt
row-set rows (Look piece next) h = tt

pub program-sets : (rows : Rows) (piece : Piece) (code : List Instr) (start n : ℕ) → IsProgram rows piece code start → n ≡ length rows →
    HasSets n code
program-sets rows piece code start n pr e pc i f = subst (λ k. HasSet k i) (sym e) (row-set rows i (pr.fits.right pc i f).row)

pub onward-stop : (xs : List Way) → onward (λ r. ends_at r ∷ []) xs ≡ xs
onward-stop [] = refl
onward-stop (edge ∷ xs) = ap (λ l. edge ∷ l) (onward-stop xs)
onward-stop (ends_at r ∷ xs) = ap (λ l. ends_at r ∷ l) (onward-stop xs)

-- what the ends of a program stand for
pub program-head : (known : Rows → Type 0) (rows : Rows) (piece : Piece) (code : List Instr) (text : Text) (start place : ℕ)
    (cells : List Cell) (best : Best) (blank : List (Option (ℕ × ℕ))) →
    IsProgram rows piece code start → known rows → place ≤ length text.bytes → Ends known code text start place cells best →
    IsHead piece text blank place cells best
program-head known rows piece code text start place cells best blank pr t le e =
    ap (λ l. slice_get l 0) (sym (onward-stop (ways piece text (record { place = place; groups = blank })))
    ∙ sym (pr.meets.same text [] (record { place = place; groups = blank }) le))
    ∙ e rows blank (mean_of pr.aims text blank) (λ k. (aim_at pr.aims k).rank) (meaning-of rows pr.aims code text blank pr.fits) t

-- one instruction that ends
pub stop-aims : (rows : Rows) (code : List Instr) → code ≡ Match ∷ [] → AreAims rows (stop_aim ∷ []) no_hole code
stop-aims rows code is =
    subst (AreAims rows (stop_aim ∷ []) no_hole) (sym is)
    (record {
      all = refl;
      even = λ pc. even pc;
      right = λ pc i e. right pc i e;
    })
  where
    even : (pc : ℕ) → Rattle.ix_pikevm.specs.Aims.Even (aim_at (stop_aim ∷ []) pc)
    even zero text began starts r s p = (p, tt)
    even (suc k) text began starts r s p = (p, tt)

    right : (pc : ℕ) (i : Instr) → slice_get (Match ∷ []) pc ≡ Some i → IsRight rows (stop_aim ∷ []) no_hole (length (Match ∷ [])) pc i
    right zero i e = subst (λ j. IsRight rows (stop_aim ∷ []) no_hole 1 0 j) (let f : Match ≡ i = cc in
        f) (record { is = λ h text began r le. refl; targets = tt; row = tt })
    right (suc k) i e = absurd (let h = slice_get_within (Match ∷ []) (suc k) i e in omega (arith, h))

pub program-made : (rows : Rows) (piece : Piece) (old new : List Instr) (start : ℕ) → old ≡ Match ∷ [] → start < length new →
    ((aims : List Aim) (hole : ℕ → Bool) → AreAims rows aims hole old → 0 < length aims →
    Written rows (pre piece (aim_at aims 0)) aims hole new start) → IsProgram rows piece new start
program-made rows piece old new start is lt w =
    let x = w (stop_aim ∷ []) no_hole (stop-aims rows old is) (omega arith) in
    record { aims = x.now; fits = x.fits; within = lt; meets = x.meets }
