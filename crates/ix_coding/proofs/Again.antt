-- What is spelled is read again, whatever follows it.
use Rattle.std.proofs.Common.{◌≡◌, ℕ, ℤ, ◌^◌, ◌<◌, Bool, true, false, ltb, List, ◌++◌, length, Option, Some, None, refl, ap, sym, ◌∙◌}
use Rattle.std.proofs.Common.{append_assoc, arith, length-append}
use Rattle.std.specs.Int.{Width, w32, w64, byte_len, from_be_bytes, to_be_bytes, cast_unsigned, cast_signed}
use Rattle.std.proofs.lemmas.Bool.{le-ltb}
use Rattle.std.proofs.lemmas.List.{take_at, drop_at}
use Rattle.std.proofs.lemmas.Nat.{from_be_bytes-to_be_bytes_4, from_be_bytes-to_be_bytes_8}
use Rattle.std.proofs.lemmas.Int.{to_z-of_z, ints}
use Rattle.ix_coding.specs.Spelling.{byte, four, eight, signed, flag, string, option, Is32, Is64, IsSigned64, IsShort, IsShortOption}
use Rattle.ix_coding.specs.Spelling.{HasOneFront}
use Rattle.ix_coding.specs.Reading.{◌>>=◌, number_at, byte_at, four_at, eight_at, signed_at, flag_at, string_at, option_at, ReadsBack}

-- what is known of a width
record IsWide (w : Width) (limit : ℕ) : Type 0 where
  pub len : (n : ℕ) → length (to_be_bytes w n) ≡ byte_len w
  pub again : (n : ℕ) → n < limit → from_be_bytes w (to_be_bytes w n) ≡ n

number_again : (w : Width) (limit : ℕ) (wide : IsWide w limit) (n : ℕ) (rest : List ℕ) → n < limit →
    number_at w (to_be_bytes w n ++ rest) ≡ Some (n, rest)
number_again w limit wide n rest lt =
    let len = wide.len n in
    let long : ltb (length (to_be_bytes w n ++ rest)) (byte_len w) ≡ false =
    le-ltb _ _ (omega (arith, length-append (to_be_bytes w n) rest)) in
    rw (long, take_at (to_be_bytes w n) rest (byte_len w) len, drop_at (to_be_bytes w n) rest (byte_len w) len, wide.again n lt) refl

wide64 : IsWide w64 (2 ^ 64)
wide64 = record { len = λ n. refl; again = λ n lt. from_be_bytes-to_be_bytes_8 n lt }

pub four_again : (n : ℕ) (rest : List ℕ) → Is32 n → four_at (four n ++ rest) ≡ Some (n, rest)
unfolding four_at four
four_again n rest lt = number_again w32 (2 ^ 32) (record { len = λ n. refl; again = λ n lt. from_be_bytes-to_be_bytes_4 n lt }) n rest lt

pub eight_again : (n : ℕ) (rest : List ℕ) → Is64 n → eight_at (eight n ++ rest) ≡ Some (n, rest)
unfolding eight_at eight
eight_again n rest lt = number_again w64 (2 ^ 64) wide64 n rest lt

unsigned_below : (z : ℤ) → IsSigned64 z → cast_unsigned w64 z < 2 ^ 64
unsigned_below z fits = omega (arith, ints)

pub signed_again : (z : ℤ) (rest : List ℕ) → IsSigned64 z → signed_at (signed z ++ rest) ≡ Some (z, rest)
unfolding signed_at signed
signed_again z rest fits =
    ap (λ (r : Option (ℕ × List ℕ)). r >>= λ n. Some (cast_signed w64 n.0, n.1))
    (number_again w64 (2 ^ 64) wide64 (cast_unsigned w64 z) rest (unsigned_below z fits))
    ∙ ap (λ (y : ℤ). Some (y, rest)) (to_z-of_z w64 z fits)

pub string_again : (text rest : List ℕ) → IsShort text → string_at (string text ++ rest) ≡ Some (text, rest)
unfolding string_at string
string_again text rest lt =
    let long : ltb (length (text ++ rest)) (length text) ≡ false = le-ltb _ _ (omega (arith, length-append text rest)) in
    ap string_at (append_assoc (four (length text)) text rest)
    ∙ rw (four_again (length text) (text ++ rest) lt, long, take_at text rest (length text) refl, drop_at text rest (length text) refl) refl

pub byte_again : (n : ℕ) (rest : List ℕ) → byte_at (byte n ++ rest) ≡ Some (n, rest)
unfolding byte_at byte
byte_again n rest = refl

pub flag_again : (set : Bool) (rest : List ℕ) → flag_at (flag set ++ rest) ≡ Some (set, rest)
unfolding flag_at flag
flag_again true rest = rw (byte_again 1 rest) refl
flag_again false rest = rw (byte_again 0 rest) refl

pub none_again : {A : Type 0} (spell : A → List ℕ) (one : List ℕ → Option (A × List ℕ)) (rest : List ℕ) →
    option_at one (option spell None ++ rest) ≡ Some (None, rest)
unfolding option_at option
none_again spell one rest = rw (flag_again false rest) refl

pub some_again : {A : Type 0} (spell : A → List ℕ) (one : List ℕ → Option (A × List ℕ)) (x : A) (rest : List ℕ) →
    one (spell x ++ rest) ≡ Some (x, rest) → option_at one (option spell (Some x) ++ rest) ≡ Some (Some x, rest)
unfolding option_at option
some_again spell one x rest again = ap (option_at one) (append_assoc (flag true) (spell x) rest)
    ∙ rw (flag_again true (spell x ++ rest), again) refl

pub option_again : (o : Option (List ℕ)) (rest : List ℕ) → IsShortOption o → option_at string_at (option string o ++ rest) ≡ Some (o, rest)
option_again None rest h = none_again string string_at rest
option_again (Some text) rest h = some_again string string_at text rest (string_again text rest h)

-- ---- what follows

some_is : {A : Type 0} (x y : A) → Some x ≡ Some y → x ≡ y
some_is x y e = cc

pub one_front_of : {A : Type 0} (Fits : A → Type 0) (spell : A → List ℕ) (read : List ℕ → Option (A × List ℕ)) → ReadsBack Fits spell read →
    HasOneFront Fits spell
one_front_of {A} Fits spell read again a b x y fit_a fit_b is =
    let p : A × List ℕ = (a, x) in
    let q : A × List ℕ = (b, y) in
    let e = some_is p q (sym (again a x fit_a) ∙ ap read is ∙ again b y fit_b) in
    (ap (λ (r : A × List ℕ). r.0) e, ap (λ (r : A × List ℕ). r.1) e)
