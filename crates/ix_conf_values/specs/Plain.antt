-- Plain values of settings: booleans and numbers. From Splunk's Admin Manual, props.conf.
use Rattle.std.specs.Prelude.{ℕ, ◌+◌, ◌-◌, ◌*◌, ◌==◌, ◌&&◌, ◌||◌, if◌then◌else◌, nat_le, length, Bool, true, false, ℤ, pos, neg_ℤ, int_le}
use Rattle.std.specs.Prelude.{unsigned_abs, List, [], ◌∷◌, Option, Some, None, codes}
use Rattle.std.specs.Option.{option_map, option_and_then}
use Rattle.std.specs.Char.{is_ascii_digit}
use Rattle.std.specs.Str.{str_eq_ignore_ascii_case}

-- any of the words for true, in either case
abbrev pub is_true_word : List ℕ → Bool
is_true_word text =
    (((str_eq_ignore_ascii_case text (codes "true") || str_eq_ignore_ascii_case text (codes "t"))
    || str_eq_ignore_ascii_case text (codes "yes")) || str_eq_ignore_ascii_case text (codes "y"))
    || str_eq_ignore_ascii_case text (codes "1")

abbrev pub is_false_word : List ℕ → Bool
is_false_word text =
    (((str_eq_ignore_ascii_case text (codes "false") || str_eq_ignore_ascii_case text (codes "f"))
    || str_eq_ignore_ascii_case text (codes "no")) || str_eq_ignore_ascii_case text (codes "n"))
    || str_eq_ignore_ascii_case text (codes "0")

abbrev pub boolean : List ℕ → Option Bool
boolean text = if is_true_word text then Some true else if is_false_word text then Some false else None

-- decimal digits behind a number
abbrev pub more_digits : ℕ → List ℕ → Option ℕ
more_digits n [] = Some n
more_digits n (b ∷ bs) = if is_ascii_digit b then more_digits (n * 10 + (b - 48)) bs else None

-- from one decimal digit to so many, and nothing else
abbrev pub digits : ℕ → List ℕ → Option ℕ
digits most text = if nat_le 1 (length text) && nat_le (length text) most then more_digits 0 text else None

-- a `-`, or none, and 1 to 10 digits
abbrev pub number : List ℕ → Option ℤ
number [] = None
number (b ∷ bs) =
    if b == 45 then option_map (λ n. neg_ℤ (pos n)) (digits 10 bs)
    else option_map (λ n. pos n) (digits 10 (b ∷ bs))

-- a number from `least` to `most`
abbrev pub number_in : ℤ → ℤ → List ℕ → Option ℤ
number_in least most text =
    option_and_then (λ n. if int_le least n && int_le n most then Some n else None) (number text)

-- a number from `least` to `most`, none of which is negative
abbrev pub count_in : ℕ → ℕ → List ℕ → Option ℕ
count_in least most text = option_map unsigned_abs (number_in (pos least) (pos most) text)
