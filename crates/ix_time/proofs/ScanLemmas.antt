-- The first offset of a window.
use Rattle.std.proofs.Common.{◌≡◌, ℕ, zero, suc, ◌≤◌, ◌<◌, ℤ, List, [], ◌∷◌, drop, length, Option, Some, None, refl, sym, length-drop}
use Rattle.std.proofs.Common.{subst, take, ◌-◌, arith}
use Rattle.std.proofs.lemmas.List.{take_all}
use Rattle.jiff_tz.specs.PosixText.{TzText}
use Rattle.ix_dates.specs.Known.{PassesOver, ReadsNothing}
use Rattle.ix_dates.specs.declared.known.KnownFormat.TheVariants.{Iso, Syslog, Access, American}
use Rattle.ix_dates.specs.Text.{or_else}
use Rattle.ix_time.specs.Instants.{by_known}
use Rattle.ix_time.specs.Scan.{at_front, first_time, IsFirst, GivesFirst}

-- where no format reads, none gives an instant
pub quiet : (zone : TzText) (arrival : ℤ) (text : List ℕ) → ReadsNothing text → at_front zone arrival text ≡ None
unfolding at_front by_known
quiet zone arrival text nothing = rw (nothing Iso, nothing Syslog, nothing Access, nothing American) refl

-- so the first time stands behind what is passed over
skip_first : (zone : TzText) (arrival : ℤ) (n : ℕ) (text : List ℕ) → ((i : ℕ) → i < n → ReadsNothing (drop i text)) →
    first_time zone arrival text ≡ first_time zone arrival (drop n text)
unfolding first_time
skip_first zone arrival zero text quiet_before = refl
skip_first zone arrival (suc n) [] quiet_before = refl
skip_first zone arrival (suc n) (b ∷ rest) quiet_before =
    rw (quiet zone arrival (b ∷ rest) (quiet_before 0 (omega arith)))
    (skip_first zone arrival n rest (λ i low. quiet_before (suc i) (omega arith)))

pub passed_over : (zone : TzText) (arrival : ℤ) (text rest : List ℕ) → PassesOver text rest →
    first_time zone arrival text ≡ first_time zone arrival rest
passed_over zone arrival text rest over = rw over.left (skip_first zone arrival over.count text over.quiet)

-- and it is no longer
pub no_longer : (text rest : List ℕ) → PassesOver text rest → length rest ≤ length text
no_longer text rest over = rw (over.left, length-drop over.count text) (omega arith)

-- a place that gives something, one that gives nothing, and the end
pub found_here : (zone : TzText) (arrival : ℤ) (text : List ℕ) (t : ℤ) → 1 ≤ length text → Some t ≡ at_front zone arrival text →
    first_time zone arrival text ≡ Some t
unfolding first_time
found_here zone arrival [] t some here = absurd (omega arith)
found_here zone arrival (b ∷ rest) t some here = rw (sym here) refl

-- the text behind its first byte
behind_first : (b : ℕ) (text : List ℕ) → take (length (b ∷ text) - 1) (drop 1 (b ∷ text)) ≡ text
behind_first b text = take_all (length (b ∷ text) - 1) text (omega arith)

pub found_later : (zone : TzText) (arrival : ℤ) (text rest : List ℕ) → 1 ≤ length text → None ≡ at_front zone arrival text →
    PassesOver (take (length text - 1) (drop 1 text)) rest → first_time zone arrival rest ≡ first_time zone arrival text
unfolding first_time
found_later zone arrival [] rest some none over = absurd (omega arith)
found_later zone arrival (b ∷ text) rest some none over =
    rw (sym none) (sym (passed_over zone arrival text rest (subst (λ t. PassesOver t rest) (behind_first b text) over)))

pub at_end : (zone : TzText) (arrival : ℤ) (text : List ℕ) → length text < 1 → first_time zone arrival text ≡ None
unfolding first_time
at_end zone arrival [] none = refl
at_end zone arrival (b ∷ text) none = absurd (omega arith)

-- nothing at an offset before one that is one further on
before_later : (read : List ℕ → Option ℤ) (b : ℕ) (rest : List ℕ) (n : ℕ) → read (b ∷ rest) ≡ None →
    ((i : ℕ) → i < n → read (drop i rest) ≡ None) → (i : ℕ) → i < suc n → read (drop i (b ∷ rest)) ≡ None
before_later read b rest n none before zero low = none
before_later read b rest n none before (suc i) low = before i (omega arith)

-- what an offset gives behind a place that gives nothing
later : (read : List ℕ → Option ℤ) (b : ℕ) (rest : List ℕ) (o : Option ℤ) → read (b ∷ rest) ≡ None → GivesFirst read rest o →
    GivesFirst read (b ∷ rest) o
later read b rest None none gives = before_later read b rest (length rest) none gives
later read b rest (Some t) none gives = record {
  offset = suc (gives.offset);
  within = let low = gives.within in omega arith;
  reads = gives.reads;
  before = before_later read b rest gives.offset none gives.before;
}

-- what the first place gives
here : (read : List ℕ → Option ℤ) (b : ℕ) (rest : List ℕ) (t : ℤ) → read (b ∷ rest) ≡ Some t → IsFirst read (b ∷ rest) t
here read b rest t reads = record {
  offset = 0;
  within = omega arith;
  reads = reads;
  before = λ i low. absurd (omega arith);
}

-- `first_time` is what its name says
pub first_offset : (zone : TzText) (arrival : ℤ) (window : List ℕ) →
    GivesFirst (at_front zone arrival) window (first_time zone arrival window)
unfolding first_time
first_offset zone arrival [] = λ i low. absurd (omega arith)
first_offset zone arrival (b ∷ rest) =
    elim (at_front zone arrival (b ∷ rest)) as (λ o. at_front zone arrival (b ∷ rest) ≡ o →
    GivesFirst (at_front zone arrival) (b ∷ rest) (or_else o (first_time zone arrival rest))) [
      | None ↦ λ none. later (at_front zone arrival) b rest (first_time zone arrival rest) none (first_offset zone arrival rest)
      | Some t ↦ λ reads. here (at_front zone arrival) b rest t reads
    ] refl
