-- Where the short test is false, no format reads.
use Rattle.std.proofs.Common.{◌≡◌, inl, inr, ℕ, zero, suc, ◌+◌, ◌-◌, ◌*◌, ◌≤◌, ◌<◌, Bool, true, false, cond, List, [], ◌∷◌, drop, Option}
use Rattle.std.proofs.Common.{Some, None, refl, subst, sym, add-zero, arith}
use Rattle.std.proofs.lemmas.Bool.{or_parts}
use Rattle.std.proofs.lemmas.Bool.Decides.{nat_tests, leb_tells}
use Rattle.std.proofs.lemmas.List.{get_or-drop}
use Rattle.std.specs.Prelude.{◌==◌, ◌&&◌, ◌||◌, nat_le, nat_lt, option_map, option_and_then}
use Rattle.std.specs.List.{list_any}
use Rattle.std.specs.Char.{is_ascii_digit, to_ascii_lowercase}
use Rattle.ix_conf_values.specs.declared.formats.Directive.{Directive}
use Rattle.ix_conf_values.specs.declared.formats.Directive.TheVariants as piece
use Rattle.ix_dates.specs.declared.fields.Field.{Field}
use Rattle.ix_dates.specs.declared.fields.Fields.{Fields}
use Rattle.ix_dates.specs.declared.known.KnownFormat.{KnownFormat}
use Rattle.ix_dates.specs.declared.known.KnownFormat.TheVariants.{Iso, Syslog, Access, American}
use Rattle.ix_dates.specs.Text.{behind, digits, number, within, or_else, match_some}
use Rattle.ix_dates.specs.Names.{behind_name, behind_either, first_name, month, month_names}
use Rattle.ix_dates.specs.Directives.{read_one, read_all}
use Rattle.ix_dates.specs.Iso.{iso, date, two_behind}
use Rattle.ix_dates.specs.Known.{read_known, PassesOver, ReadsNothing}
use Rattle.ix_dates.specs.Front.{begins_with, has_hyphen, has_month, has_slash, is_month, may_begin, may_read, skip_quiet, stands}

-- another byte stands there
not_behind : (byte : ℕ) (text : List ℕ) → stands byte 0 text ≡ false → behind byte text ≡ None
unfolding behind
not_behind byte [] other = refl
not_behind byte (b ∷ rest) other = rw other refl

not_behind-at : (byte k : ℕ) (text : List ℕ) → stands byte k text ≡ false → behind byte (drop k text) ≡ None
not_behind-at byte k text other = not_behind byte (drop k text) (rw (get_or-drop k text 0 0, add-zero k) other)

-- the digits of a number are the front of the text
rest_of_digits : (most value count : ℕ) (text : List ℕ) → (k : ℕ) × ((digits most value count text).1 ≡ count + k)
    × ((digits most value count text).2 ≡ drop k text)
unfolding digits
rest_of_digits most value count [] = (0, omega arith, refl)
rest_of_digits most value count (b ∷ rest) =
    let more = rest_of_digits most (value * 10 + (b - 48)) (count + 1) rest in
    elim (is_ascii_digit b && nat_lt count most) as (λ t. (k : ℕ)
    × ((cond t (digits most (value * 10 + (b - 48)) (count + 1) rest) (value, count, b ∷ rest)).1 ≡ count + k)
    × ((cond t (digits most (value * 10 + (b - 48)) (count + 1) rest) (value, count, b ∷ rest)).2 ≡ drop k (b ∷ rest))) [
      | true ↦ (suc (more.0), (let e = more.1 in omega arith), more.2)
      | false ↦ (0, omega arith, refl)
    ]

few_digits : (most value count : ℕ) (text : List ℕ) → count ≤ most → (digits most value count text).1 ≤ most
unfolding digits
few_digits most value count [] few = few
few_digits most value count (b ∷ rest) few =
    elim (is_ascii_digit b && nat_lt count most) as (λ t. (is_ascii_digit b && nat_lt count most) ≡ t →
    (cond t (digits most (value * 10 + (b - 48)) (count + 1) rest) (value, count, b ∷ rest)).1 ≤ most) [
      | true ↦ λ e. few_digits most (value * 10 + (b - 48)) (count + 1) rest (grind (arith, nat_tests))
      | false ↦ λ e. few
    ] refl

-- what follows a number reads nothing behind any number of digits
number_then : {B : Type 0} → (least most low high : ℕ) (text : List ℕ) (f : ℕ × List ℕ → Option B) →
    ((k n : ℕ) → least ≤ k → k ≤ most → f (n, drop k text) ≡ None) → option_and_then f (within least most low high text) ≡ None
unfolding within number
number_then least most low high text f nothing =
    let d = digits most 0 0 text in
    let front = rest_of_digits most 0 0 text in
    let few : d.1 ≤ most = few_digits most 0 0 text (omega arith) in
    elim (nat_le least d.1) as (λ t. nat_le least d.1 ≡ t →
    option_and_then f (option_and_then (λ p. cond (nat_le low p.0 && nat_le p.0 high) (Some p) None)
    (cond t (Some (d.0, d.2)) None)) ≡ None) [
      | true ↦ λ e. elim (nat_le low d.0 && nat_le d.0 high) as (λ t. option_and_then f (cond t (Some (d.0, d.2)) None) ≡ None) [
        | true ↦
            let many : least ≤ front.0 = let count = front.1 in grind (arith, nat_tests) in
            let bound : front.0 ≤ most = let count = front.1 in omega arith in
            subst (λ rest. f (d.0, rest) ≡ None) (sym front.2) (nothing front.0 d.0 many bound)
        | false ↦ refl
      ]
      | false ↦ λ e. refl
    ] refl

-- nor where no digit stands
no_number : (least most low high a : ℕ) (rest : List ℕ) → nat_le least 0 ≡ false → is_ascii_digit a ≡ false →
    within least most low high (a ∷ rest) ≡ None
unfolding within number digits
no_number least most low high a rest some other = rw (other, some) refl

-- a field that is a number, and what follows it
field_then : {B : Type 0} → (least most low high : ℕ) (text : List ℕ) (make : ℕ → Field) (f : Field × List ℕ → Option B) →
    ((k n : ℕ) → least ≤ k → k ≤ most → f (make n, drop k text) ≡ None) →
    option_and_then f (option_map (λ p. (make p.0, p.1)) (within least most low high text)) ≡ None
field_then least most low high text make f nothing =
    let same = number_then least most low high text (λ p. f (make p.0, p.1)) nothing in
    elim (within least most low high text) as (λ o. option_and_then (λ p. f (make p.0, p.1)) o ≡ None →
    option_and_then f (option_map (λ p. (make p.0, p.1)) o) ≡ None) [
      | None ↦ λ h. refl
      | Some p ↦ λ h. h
    ] same

-- of one or two
one_or_two : (k : ℕ) (p : ℕ → Bool) → 1 ≤ k → k ≤ 2 → p 1 ≡ false → p 2 ≡ false → p k ≡ false
one_or_two k p low high one two =
    elim (leb_tells k 1) [
      | inl small ↦ let same : 1 ≡ k = let h = small.1 in omega arith in subst (λ n. p n ≡ false) same one
      | inr big ↦ let same : 2 ≡ k = let h = big.1 in omega arith in subst (λ n. p n ≡ false) same two
    ]

-- a day or a month by its number, and a slash
no_slash-day : (ds : List Directive) (f : Fields) (text : List ℕ) → stands 47 1 text ≡ false → stands 47 2 text ≡ false →
    read_all (piece.Day ∷ piece.Byte 47 ∷ ds) f text ≡ None
unfolding read_all read_one
no_slash-day ds f text one two =
    field_then 1 2 1 31 text _ _ (λ k n low high. rw (not_behind-at 47 k text (one_or_two k (λ j. stands 47 j text) low high one two)) refl)

no_slash-month : (ds : List Directive) (f : Fields) (text : List ℕ) → stands 47 1 text ≡ false → stands 47 2 text ≡ false →
    read_all (piece.Month ∷ piece.Byte 47 ∷ ds) f text ≡ None
unfolding read_all read_one
no_slash-month ds f text one two =
    field_then 1 2 1 12 text _ _ (λ k n low high. rw (not_behind-at 47 k text (one_or_two k (λ j. stands 47 j text) low high one two)) refl)

-- a year and a hyphen
no_date : (text : List ℕ) → stands 45 4 text ≡ false → date text ≡ None
unfolding date two_behind
no_date text none =
    number_then 4 4 0 9999 text _ (λ k n low high. let same : 4 ≡ k = omega arith in
    rw (not_behind-at 45 k text (subst (λ j. stands 45 j text ≡ false) same none)) refl)

no_hyphen : (text : List ℕ) → stands 45 4 text ≡ false → iso text ≡ None
unfolding iso
no_hyphen text none = rw (no_date text none) refl

-- a text that begins with no digit
no_digit-iso : (a : ℕ) (rest : List ℕ) → is_ascii_digit a ≡ false → iso (a ∷ rest) ≡ None
unfolding iso date
no_digit-iso a rest other = rw (no_number 4 4 0 9999 a rest refl other) refl

no_digit-day : (ds : List Directive) (f : Fields) (a : ℕ) (rest : List ℕ) → is_ascii_digit a ≡ false →
    read_all (piece.Day ∷ ds) f (a ∷ rest) ≡ None
unfolding read_all read_one
no_digit-day ds f a rest other = rw (no_number 1 2 1 31 a rest refl other) refl

no_digit-month : (ds : List Directive) (f : Fields) (a : ℕ) (rest : List ℕ) → is_ascii_digit a ≡ false →
    read_all (piece.Month ∷ ds) f (a ∷ rest) ≡ None
unfolding read_all read_one
no_digit-month ds f a rest other = rw (no_number 1 2 1 12 a rest refl other) refl

-- a text that begins with no month
no_month : (ds : List Directive) (f : Fields) (text : List ℕ) → month text ≡ None → read_all (piece.ShortMonthName ∷ ds) f text ≡ None
unfolding read_all read_one
no_month ds f text none = rw none refl

-- a name of at least three letters
Long : List ℕ → Type 0
Long [] = ⊥
Long (x ∷ []) = ⊥
Long (x ∷ y ∷ []) = ⊥
Long (x ∷ y ∷ z ∷ more) = Unit {0}

AllLong : List (List ℕ) → Type 0
AllLong [] = Unit {0}
AllLong (name ∷ names) = Long name × AllLong names

-- other letters than its first three
other_letters : (x y z : ℕ) (more : List ℕ) (a b c : ℕ) (rest : List ℕ) →
    begins_with (to_ascii_lowercase a) (to_ascii_lowercase b) (to_ascii_lowercase c) (x ∷ y ∷ z ∷ more) ≡ false →
    behind_either (x ∷ y ∷ z ∷ more) (a ∷ b ∷ c ∷ rest) ≡ None
unfolding behind_either behind_name
other_letters x y z more a b c rest =
    let third : (n : List ℕ) → Option (List ℕ) = λ n. cond (to_ascii_lowercase c == z) (behind_name n rest) None in
    elim (to_ascii_lowercase a == x) as (λ t. (t && ((to_ascii_lowercase b == y) && (to_ascii_lowercase c == z))) ≡ false →
    or_else (cond t (cond (to_ascii_lowercase b == y) (third more) None) None)
    (cond t (cond (to_ascii_lowercase b == y) (third []) None) None) ≡ None) [
      | true ↦ elim (to_ascii_lowercase b == y) as (λ t. (t && (to_ascii_lowercase c == z)) ≡ false →
          or_else (cond t (third more) None) (cond t (third []) None) ≡ None) [
            | true ↦ λ e. rw e refl
            | false ↦ λ e. refl
          ]
      | false ↦ λ e. refl
    ]

no_name : (names : List (List ℕ)) (place a b c : ℕ) (rest : List ℕ) → AllLong names →
    list_any (λ name. begins_with (to_ascii_lowercase a) (to_ascii_lowercase b) (to_ascii_lowercase c) name) names ≡ false →
    first_name names place (a ∷ b ∷ c ∷ rest) ≡ None
unfolding first_name Long AllLong
no_name [] place a b c rest long none = refl
no_name ([] ∷ names) place a b c rest long none = absurd (long.0)
no_name ((x ∷ []) ∷ names) place a b c rest long none = absurd (long.0)
no_name ((x ∷ y ∷ []) ∷ names) place a b c rest long none = absurd (long.0)
no_name ((x ∷ y ∷ z ∷ more) ∷ names) place a b c rest long none =
    let parts = or_parts _ _ none in
    rw (other_letters x y z more a b c rest parts.0) (no_name names (place + 1) a b c rest long.1 parts.1)

-- one or two bytes alone
one_byte : (names : List (List ℕ)) (place a : ℕ) → AllLong names → first_name names place (a ∷ []) ≡ None
unfolding first_name behind_either behind_name Long AllLong
one_byte [] place a long = refl
one_byte ([] ∷ names) place a long = absurd (long.0)
one_byte ((x ∷ []) ∷ names) place a long = absurd (long.0)
one_byte ((x ∷ y ∷ []) ∷ names) place a long = absurd (long.0)
one_byte ((x ∷ y ∷ z ∷ more) ∷ names) place a long =
    elim (to_ascii_lowercase a == x) as (λ t. match_some (or_else (cond t None None) (cond t None None))
    (first_name names (place + 1) (a ∷ [])) (λ rest. Some (place, rest)) ≡ None) [
      | true ↦ one_byte names (place + 1) a long.1
      | false ↦ one_byte names (place + 1) a long.1
    ]

two_bytes : (names : List (List ℕ)) (place a b : ℕ) → AllLong names → first_name names place (a ∷ b ∷ []) ≡ None
unfolding first_name behind_either behind_name Long AllLong
two_bytes [] place a b long = refl
two_bytes ([] ∷ names) place a b long = absurd (long.0)
two_bytes ((x ∷ []) ∷ names) place a b long = absurd (long.0)
two_bytes ((x ∷ y ∷ []) ∷ names) place a b long = absurd (long.0)
two_bytes ((x ∷ y ∷ z ∷ more) ∷ names) place a b long =
    elim (to_ascii_lowercase a == x) as (λ t. match_some
    (or_else (cond t (cond (to_ascii_lowercase b == y) None None) None) (cond t (cond (to_ascii_lowercase b == y) None None) None))
    (first_name names (place + 1) (a ∷ b ∷ [])) (λ rest. Some (place, rest)) ≡ None) [
      | true ↦ elim (to_ascii_lowercase b == y) as (λ t.
          match_some (or_else (cond t None None) (cond t None None)) (first_name names (place + 1) (a ∷ b ∷ []))
          (λ rest. Some (place, rest)) ≡ None) [
            | true ↦ two_bytes names (place + 1) a b long.1
            | false ↦ two_bytes names (place + 1) a b long.1
          ]
      | false ↦ two_bytes names (place + 1) a b long.1
    ]

-- no month stands there
other_month : (text : List ℕ) → has_month text ≡ false → month text ≡ None
unfolding month has_month first_name behind_either behind_name Long AllLong
other_month [] none = refl
other_month (a ∷ []) none = one_byte month_names 1 a (search (tt))
other_month (a ∷ b ∷ []) none = two_bytes month_names 1 a b (search (tt))
other_month (a ∷ b ∷ c ∷ rest) none = no_name month_names 1 a b c rest (search (tt)) none

-- a format that may not read there does not
pub other_front : (format : KnownFormat) (text : List ℕ) → may_read format text ≡ false → read_known format text ≡ None
unfolding read_known
other_front Iso text none = no_hyphen text none
other_front Syslog text none = no_month _ _ text (other_month text none)
other_front Access text none = let parts = or_parts _ _ none in no_slash-day _ _ text parts.0 parts.1
other_front American text none = let parts = or_parts _ _ none in no_slash-month _ _ text parts.0 parts.1

-- a digit is no letter
no_letter : (a x : ℕ) → is_ascii_digit a ≡ true → 97 ≤ x → (to_ascii_lowercase a == x) ≡ false
no_letter a x digit letter = grind (arith, nat_tests)

digit_no_month : (a b c : ℕ) → is_ascii_digit a ≡ true → is_month (to_ascii_lowercase a) b c ≡ false
digit_no_month a b c digit =
    rw (
      no_letter a 106 digit (omega arith),
      no_letter a 102 digit (omega arith),
      no_letter a 109 digit (omega arith),
      no_letter a 97 digit (omega arith),
      no_letter a 115 digit (omega arith),
      no_letter a 111 digit (omega arith),
      no_letter a 110 digit (omega arith),
      no_letter a 100 digit (omega arith),
    ) refl

digit_has_no_month : (a : ℕ) (rest : List ℕ) → is_ascii_digit a ≡ true → has_month (a ∷ rest) ≡ false
unfolding has_month
digit_has_no_month a [] digit = refl
digit_has_no_month a (b ∷ []) digit = refl
digit_has_no_month a (b ∷ c ∷ rest) digit = digit_no_month a (to_ascii_lowercase b) (to_ascii_lowercase c) digit

-- where no number and no month may begin, no format reads
by_digit : (a : ℕ) (rest : List ℕ) → is_ascii_digit a ≡ true → (has_slash (a ∷ rest) || has_hyphen (a ∷ rest)) ≡ false →
    ReadsNothing (a ∷ rest)
by_digit a rest digit none Iso = let parts = or_parts _ _ none in other_front Iso (a ∷ rest) parts.1
by_digit a rest digit none Syslog = other_front Syslog (a ∷ rest) (digit_has_no_month a rest digit)
by_digit a rest digit none Access = let parts = or_parts _ _ none in other_front Access (a ∷ rest) parts.0
by_digit a rest digit none American = let parts = or_parts _ _ none in other_front American (a ∷ rest) parts.0

by_letter : (a : ℕ) (rest : List ℕ) → is_ascii_digit a ≡ false → has_month (a ∷ rest) ≡ false → ReadsNothing (a ∷ rest)
unfolding read_known
by_letter a rest other none Iso = no_digit-iso a rest other
by_letter a rest other none Syslog = no_month _ _ (a ∷ rest) (other_month (a ∷ rest) none)
by_letter a rest other none Access = no_digit-day _ _ a rest other
by_letter a rest other none American = no_digit-month _ _ a rest other

reads_nothing : (a : ℕ) (rest : List ℕ) → may_begin (a ∷ rest) ≡ false → ReadsNothing (a ∷ rest)
unfolding may_begin
reads_nothing a rest none =
    elim (is_ascii_digit a) as (λ t. is_ascii_digit a ≡ t →
    cond t (has_slash (a ∷ rest) || has_hyphen (a ∷ rest)) (has_month (a ∷ rest)) ≡ false → ReadsNothing (a ∷ rest)) [
      | true ↦ λ digit quiet. by_digit a rest digit quiet
      | false ↦ λ other quiet. by_letter a rest other quiet
    ] refl none

-- one place more that is passed over
quiet_later : (b : ℕ) (rest : List ℕ) (n : ℕ) → ReadsNothing (b ∷ rest) → ((i : ℕ) → i < n → ReadsNothing (drop i rest)) → (i : ℕ) →
    i < suc n → ReadsNothing (drop i (b ∷ rest))
quiet_later b rest n nothing quiet zero low = nothing
quiet_later b rest n nothing quiet (suc i) low = quiet i (omega arith)

-- what is passed over is quiet
pub passes_over : (text : List ℕ) → PassesOver text (skip_quiet text)
unfolding skip_quiet
passes_over [] = record { count = 0; left = refl; quiet = λ i low. absurd (omega arith) }
passes_over (b ∷ rest) =
    let more = passes_over rest in
    elim (may_begin (b ∷ rest)) as (λ t. may_begin (b ∷ rest) ≡ t → PassesOver (b ∷ rest) (cond t (b ∷ rest) (skip_quiet rest))) [
      | true ↦ λ e. record { count = 0; left = refl; quiet = λ i low. absurd (omega arith) }
      | false ↦ λ e. record {
        count = suc (more.count);
        left = more.left;
        quiet = quiet_later b rest more.count (reads_nothing b rest e) more.quiet;
      }
    ] refl
