-- The open line.
use Rattle.std.proofs.Common.{Ok, Err, subst, ◌≡◌, ℕ, ◌+◌, ◌-◌, ◌<◌, ◌≤◌, ℤ, Bool, true, false, List, [], ◌∷◌, ◌++◌, length, take, Some}
use Rattle.std.proofs.Common.{None, refl, sym, ◌∙◌, ap, arith}
use Rattle.std.specs.Prelude.{Result, OnOk, OnErr, find, unwrap_or, nat_le, not, ◌&&◌}
use Rattle.std.specs.List.{All}
use Rattle.std.proofs.lemmas.List.{length-take-le, get_or-take}
use Rattle.std.proofs.lemmas.List.Elements.{All-push}
use Rattle.std.proofs.lemmas.Bool.{leb-true, leb-false, lt-leb}
use Rattle.ix_base.specs.Stream.{Dated, bytes_of}
use Rattle.ix_base.specs.declared.events.Line.{Line}
use Rattle.ix_lines.specs.Lines.{IsShort, cut, step_back, goes_on, line_of, unless_empty}
use Rattle.ix_lines.specs.Kept.{Keeps, IsPart, first_moment}
use Rattle.ix_lines.specs.declared.kept.Kept.{Kept}
use Rattle.ix_lines.proofs.ListLemmas.{take-past, take-take, take-joined}
use Rattle.ix_lines.proofs.WalkLemmas.{bytes_of-append}

-- a cut reads no more than one byte behind its place
pub cut-take : (t : ℕ) (xs : List ℕ) → cut t (take (t + 1) xs) ≡ cut t xs
cut-take t xs = by (nat_le (length xs) t) refl
  where
    back : step_back t (take (t + 1) xs) ≡ step_back t xs
    back = ap (λ (p : ℕ → Bool). unwrap_or (find p (0 ∷ 1 ∷ 2 ∷ 3 ∷ [])) 0)
        (λ i k. nat_le k t && not (goes_on (get_or-take (t + 1) xs (t - k) 0 (omega arith) i)))

    by : (b : Bool) → nat_le (length xs) t ≡ b → cut t (take (t + 1) xs) ≡ cut t xs
    by true e =
        let h : length xs ≤ t = leb-true (length xs) t e in
        ap (cut t) (take-past (t + 1) xs (omega arith))
    by false e =
        let h : t < length xs = leb-false (length xs) t e in
        let l : length (take (t + 1) xs) ≡ t + 1 = length-take-le (t + 1) xs (omega arith) in
        let f : nat_le (length (take (t + 1) xs)) t ≡ false = lt-leb (length (take (t + 1) xs)) t (omega (arith, l)) in
        rw (f, e) (ap (λ b. take (t - b) (take (t + 1) xs)) back ∙ take-take (t - step_back t xs) (t + 1) xs (omega arith))

-- the bytes that come next
pub first-on : (stretch part : List Dated) (bytes : List ℕ) (moment : ℤ) → IsPart bytes moment part → 0 < length bytes →
    Some (unwrap_or (first_moment stretch) moment) ≡ first_moment (stretch ++ part)
first-on [] [] bytes moment is some = absurd (omega (arith, ap length is.bytes_are))
first-on [] (d ∷ part) bytes moment is some = ap Some (sym is.moment_is)
first-on (s ∷ stretch) part bytes moment is some = refl

pub add-keeps : (t : ℕ) (stretch part : List Dated) (old new : Kept) (bytes : List ℕ) (moment : ℤ) → Keeps t stretch old →
    IsPart bytes moment part →
    0 < length bytes → new.bytes ≡ old.bytes ++ take (t + 1 - length old.bytes) bytes → new.moment ≡ Some (unwrap_or old.moment moment) →
    Keeps t (stretch ++ part) new
add-keeps t stretch part old new bytes moment keeps is some b m =
    record {
      bytes_are = b
          ∙ ap (λ l. l ++ take (t + 1 - length l) bytes) keeps.bytes_are
          ∙ take-joined (t + 1) (bytes_of stretch) bytes
          ∙ ap (λ l. take (t + 1) (bytes_of stretch ++ l)) (sym is.bytes_are)
          ∙ ap (take (t + 1)) (sym (bytes_of-append stretch part));
      moment_is = m ∙ ap (λ o. Some (unwrap_or o moment)) keeps.moment_is ∙ first-on stretch part bytes moment is some;
    }

pub no-bytes : (part : List Dated) → bytes_of part ≡ [] → part ≡ []
no-bytes [] e = refl
no-bytes (d ∷ part) e = absurd (cc)

pub first-none : (stretch : List Dated) → first_moment stretch ≡ None → stretch ≡ []
first-none [] e = refl
first-none (d ∷ stretch) e = absurd (cc)

pub first-stays : (stretch part : List Dated) (m : ℤ) → first_moment stretch ≡ Some m → first_moment (stretch ++ part) ≡ Some m
first-stays [] part m e = absurd (cc)
first-stays (d ∷ stretch) part m e = e

-- the line of a stretch, from what is kept of it
pub line-kept : (t : ℕ) (stretch : List Dated) (kept : Kept) (m : ℤ) → Keeps t stretch kept → first_moment stretch ≡ Some m →
    unless_empty (cut t kept.bytes) m ≡ line_of t stretch
line-kept t [] kept m keeps e = absurd (cc)
line-kept t (d ∷ stretch) kept m keeps e =
    let same : m ≡ d.1 = cc in
    ap (λ bs. unless_empty bs m) (ap (cut t) keeps.bytes_are ∙ cut-take t (bytes_of (d ∷ stretch)))
    ∙ ap (unless_empty (cut t (bytes_of (d ∷ stretch)))) same

-- the line of bytes that come at once
pub line-part : (t : ℕ) (part : List Dated) (bytes : List ℕ) (m : ℤ) → IsPart bytes m part → 0 < length bytes →
    unless_empty (cut t bytes) m ≡ line_of t part
line-part t [] bytes m is some = absurd (omega (arith, ap length is.bytes_are))
line-part t (d ∷ part) bytes m is some =
    ap (λ bs. unless_empty (cut t bs) m) (sym is.bytes_are) ∙ ap (unless_empty (cut t (bytes_of (d ∷ part)))) (sym is.moment_is)

-- a short line that is added, or none, leaves all of them short
pub short-pushed : {T E : Type 0} (r : Result T E) (old new : List Line) (line : Line) → OnOk r (new ≡ old ++ line ∷ []) →
    OnErr r (new ≡ old) →
    IsShort line → All IsShort old → All IsShort new
short-pushed (Ok x) old new line e f h all = subst (All IsShort) (sym e) (All-push IsShort old line all h)
short-pushed (Err x) old new line e f h all = subst (All IsShort) (sym f) all
