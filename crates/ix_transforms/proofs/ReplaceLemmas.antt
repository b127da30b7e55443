-- Matches replaced, one after the other.
use Rattle.std.proofs.Common.{◌≡◌, ℕ, zero, suc, ◌+◌, ◌-◌, ◌<◌, ◌≤◌, List, [], ◌∷◌, ◌++◌, length, take, drop, Option, Some, None, refl}
use Rattle.std.proofs.Common.{sym, ◌∙◌, ap, arith}
use Rattle.std.specs.Prelude.{slice_get, slice_range, IfSome}
use Rattle.ix_match.specs.declared.first.Found.{Found}
use Rattle.ix_match.specs.Matches.{AllWithin, LiesIn}
use Rattle.ix_pattern.specs.Rows.{Shape}
use Rattle.ix_conf_values.specs.declared.escapes.Part.{Part}
use Rattle.ix_conf_values.specs.declared.seds.Which.{Which}
use Rattle.ix_conf_values.specs.declared.seds.Which.TheVariants.{First, All, Nth}
use Rattle.ix_transforms.specs.Matches.{matches, behind, and_on, first}
use Rattle.ix_transforms.specs.Writing.{written}
use Rattle.ix_transforms.specs.Seds.{number_of, chosen, replaced, raw_limit, cut}
use Rattle.ix_transforms.proofs.TextLemmas.{cut-on}
use Rattle.ix_transforms.proofs.MatchLemmas.{matches-step, matches-some, nth-first}

-- how many places stand from a match on
abbrev pub places_left : ℕ → Option Found → ℕ
places_left n None = 0
places_left n (Some f) = n + 1 - f.start

-- spans that lie between two places lie between any wider ones
pub all-wider : (a b c d : ℕ) (spans : List (Option (ℕ × ℕ))) → c ≤ a → b ≤ d → AllWithin a b spans → AllWithin c d spans
all-wider a b c d [] low high all = tt
all-wider a b c d (None ∷ spans) low high all = (tt, all-wider a b c d spans low high all.1)
all-wider a b c d (Some s ∷ spans) low high all = (
  (omega (arith, all.0), omega (arith, all.0), omega (arith, all.0)),
  all-wider a b c d spans low high all.1,
)

-- a match replaced, and the rest behind it
pub one-more : (parts : List Part) (text : List ℕ) (from : ℕ) (f : Found) (later : List Found) (out next : List ℕ) →
    next ≡ cut (out ++ (slice_range text from f.start ++ written parts [] text f.groups)) →
    cut (out ++ replaced parts text from (f ∷ later)) ≡ cut (next ++ replaced parts text f.end later)
one-more parts text from f later out next e =
    sym (cut-on raw_limit out (slice_range text from f.start ++ written parts [] text f.groups) (replaced parts text f.end later) next e)

none-left : (found : List Found) (k : ℕ) → slice_get found k ≡ None → drop k found ≡ []
none-left [] zero e = refl
none-left [] (suc k) e = refl
none-left (f ∷ found) zero e = cc
none-left (f ∷ found) (suc k) e = none-left found k e

one-left : (found : List Found) (k : ℕ) (f : Found) → slice_get found k ≡ Some f → take 1 (drop k found) ≡ f ∷ []
one-left [] zero f e = cc
one-left [] (suc k) f e = cc
one-left (g ∷ found) zero f e = let same : g ≡ f = cc in ap (λ x. x ∷ []) same
one-left (g ∷ found) (suc k) f e = one-left found k f e

pub none-chosen : (which : Which) (found : List Found) → slice_get found (number_of which - 1) ≡ None → chosen which found ≡ []
none-chosen First [] e = refl
none-chosen First (f ∷ found) e = cc
none-chosen All [] e = refl
none-chosen All (f ∷ found) e = cc
none-chosen (Nth n) found e = ap (take 1) (none-left found (n - 1) e)

pub one-chosen : (which : Which) (found : List Found) (f : Found) → (which ≡ All → ⊥) → slice_get found (number_of which - 1) ≡ Some f →
    chosen which found ≡ f ∷ []
one-chosen First found f other e = one-left found 0 f e
one-chosen All found f other e = absurd (other refl)
one-chosen (Nth n) found f other e = one-left found (n - 1) f e

-- all of the matches, where there is a first one
pub all-chosen : (p : Shape) (text : List ℕ) (f : Found) → slice_get (matches p text 0) 0 ≡ Some f → matches p text 0 ≡ f
    ∷ matches p text (behind f)
all-chosen p text f e = matches-some p text 0 f (sym (nth-first p text 0) ∙ e)

-- a match replaced, and what is found from where the search goes on
pub turn-done : (p : Shape) (parts : List Part) (text : List ℕ) (copied at : ℕ) (f : Found) (now next : Option Found)
    (out out' all : List ℕ) →
    now ≡ Some f → at ≡ behind f → next ≡ first p text at →
    out' ≡ cut (out ++ (slice_range text copied f.start ++ written parts [] text f.groups)) →
    cut (out ++ replaced parts text copied (and_on (λ q. matches p text q) now)) ≡ all →
    cut (out' ++ replaced parts text f.end (and_on (λ q. matches p text q) next)) ≡ all
turn-done p parts text copied at f now next out out' all is goes found added so_far =
    let later : and_on (λ q. matches p text q) next ≡ matches p text (behind f) =
    ap (and_on (λ q. matches p text q)) (found ∙ ap (first p text) goes) ∙ sym (matches-step p text (behind f)) in
    ap (λ fs. cut (out' ++ replaced parts text f.end fs)) later
    ∙ sym (one-more parts text copied f (matches p text (behind f)) out out' added)
    ∙ ap (λ (x : Option Found). cut (out ++ replaced parts text copied (and_on (λ q. matches p text q) x))) (sym is) ∙ so_far

-- all is done where no match is left
pub all-done : (p : Shape) (parts : List Part) (text : List ℕ) (copied : ℕ) (now : Option Found) (out all : List ℕ) → now ≡ None →
    cut (out ++ replaced parts text copied (and_on (λ q. matches p text q) now)) ≡ all → cut (out ++ drop copied text) ≡ all
all-done p parts text copied now out all is so_far =
    ap (λ (x : Option Found). cut (out ++ replaced parts text copied (and_on (λ q. matches p text q) x))) (sym is) ∙ so_far

pub lies-further : (text : List ℕ) (a b count : ℕ) (next : Option Found) → a ≤ b → IfSome next (λ f. LiesIn text b count f) →
    IfSome next (λ f. LiesIn text a count f)
lies-further text a b count None low lies = tt
lies-further text a b count (Some f) low lies =
    let begins = lies.begins in
    record { begins = omega arith; order = lies.order; within = lies.within; groups = lies.groups; spans = lies.spans }

pub fewer-left : (text : List ℕ) (at count : ℕ) (f : Found) (next : Option Found) → f.start < at → f.start ≤ length text →
    IfSome next (λ g. LiesIn text at count g) → places_left (length text) next < places_left (length text) (Some f)
fewer-left text at count f None further within lies = omega arith
fewer-left text at count f (Some g) further within lies = let begins = lies.begins in omega arith
