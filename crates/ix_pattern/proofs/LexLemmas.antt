-- Rounds of readers.
use Rattle.std.proofs.Common.{◌≡◌, ℕ, suc, ◌+◌, ◌-◌, ◌<◌, ◌≤◌, zero, length, [], ◌∷◌, Bool, true, false, ◌==◌, List, Option, Some, None}
use Rattle.std.proofs.Common.{if◌then◌else◌, refl, sym, ◌∙◌, ap, ◌++◌, append_assoc, append-nil, arith}
use Rattle.std.proofs.lemmas.Bool.{false≢true}
use Rattle.ix_pattern.specs.Tokens.{turn, members, modifier, modifiers, behind_modifier, token_front, tokens, ◌>>=◌}
use Rattle.ix_pattern.specs.declared.tokens.Flags.{Flags}
use Rattle.ix_pattern.specs.declared.tokens.Token.{Token}

pub members_turn : (n m : ℕ) (set : List Bool) (bytes : List ℕ) → m < n →
    members (n - m) set bytes ≡ (turn set bytes >>= λ t. if t.0 then Some (t.1, t.2) else members (n - (m + 1)) t.1 t.2)
unfolding members
members_turn n m set bytes lt =
    let one : n - m ≡ suc (n - (m + 1)) = omega arith in
    ap (λ k. members k set bytes) one

pub members_done : (n m : ℕ) (set : List Bool) (bytes : List ℕ) → n ≤ m → members (n - m) set bytes ≡ None
unfolding members
members_done n m set bytes le =
    let none : n - m ≡ 0 = omega arith in
    ap (λ k. members k set bytes) none

pub modifiers_turn : (n m : ℕ) (flags : Flags) (bytes : List ℕ) → m < n →
    modifiers (n - m) flags bytes ≡ behind_modifier (modifiers (n - (m + 1))) flags bytes (modifier flags bytes)
unfolding modifiers
modifiers_turn n m flags bytes lt =
    let one : n - m ≡ suc (n - (m + 1)) = omega arith in
    ap (λ k. modifiers k flags bytes) one

pub modifiers_done : (n m : ℕ) (flags : Flags) (bytes : List ℕ) → n ≤ m → modifiers (n - m) flags bytes ≡ (flags, bytes)
unfolding modifiers
modifiers_done n m flags bytes le =
    let none : n - m ≡ 0 = omega arith in
    ap (λ k. modifiers k flags bytes) none

pub tokens_turn : (n m : ℕ) (flags : Flags) (bytes : List ℕ) → m < n → 0 < length bytes →
    tokens (n - m) flags bytes ≡ (token_front flags bytes >>= λ t. tokens (n - (m + 1)) flags t.1 >>= λ others. Some (t.0 ∷ others))
unfolding tokens token_front
tokens_turn n m flags [] lt some = absurd (omega arith)
tokens_turn n m flags (b ∷ bytes) lt some =
    let one : n - m ≡ suc (n - (m + 1)) = omega arith in
    ap (λ k. tokens k flags (b ∷ bytes)) one

pub tokens_end : (n : ℕ) (flags : Flags) (bytes : List ℕ) → length bytes ≡ 0 → tokens n flags bytes ≡ Some []
unfolding tokens
tokens_end zero flags [] e = refl
tokens_end (suc n) flags [] e = refl
tokens_end n flags (b ∷ bytes) e = absurd (omega (arith, e))

pub tokens_done : (n m : ℕ) (flags : Flags) (bytes : List ℕ) → n ≤ m → 0 < length bytes → tokens (n - m) flags bytes ≡ None
unfolding tokens
tokens_done n m flags [] le some = absurd (omega arith)
tokens_done n m flags (b ∷ bytes) le some =
    let none : n - m ≡ 0 = omega arith in
    ap (λ k. tokens k flags (b ∷ bytes)) none

-- what has been found stands before what is found from here on
abbrev pub with_front : List Token → Option (List Token) → Option (List Token)
with_front front None = None
with_front front (Some found) = Some (front ++ found)

-- one more token of the front
pub with_front-turn : (front : List Token) (t : Token × List ℕ) (later : Option (List Token)) →
    with_front front (later >>= λ others. Some (t.0 ∷ others)) ≡ with_front (front ++ t.0 ∷ []) later
with_front-turn front t None = refl
with_front-turn front t (Some others) = ap Some (sym (append_assoc front (t.0 ∷ []) others))

pub tokens_finished : (front : List Token) (n : ℕ) (flags : Flags) (bytes : List ℕ) (whole : Option (List Token)) →
    with_front front (tokens n flags bytes) ≡ whole → length bytes ≡ 0 → Some front ≡ whole
tokens_finished front n flags bytes whole is e =
    ap Some (sym (append-nil front)) ∙ ap (with_front front) (sym (tokens_end n flags bytes e)) ∙ is

-- where a token is at the front, the rest is found behind it
pub tokens_step : (front more : List Token) (n m : ℕ) (flags : Flags) (bytes behind : List ℕ) (t : Token) (whole : Option (List Token)) →
    m < n → 0 < length bytes →
    Some (t, behind) ≡ token_front flags bytes → more ≡ front ++ t ∷ [] → with_front front (tokens (n - m) flags bytes) ≡ whole →
    with_front more (tokens (n - (m + 1)) flags behind) ≡ whole
tokens_step front more n m flags bytes behind t whole lt some found grown is =
    let others : Token × List ℕ → Option (List Token) = λ t. tokens (n - (m + 1)) flags t.1 >>= λ others. Some (t.0 ∷ others) in
    ap (λ f. with_front f (tokens (n - (m + 1)) flags behind)) grown
    ∙ sym (with_front-turn front (t, behind) (tokens (n - (m + 1)) flags behind))
    ∙ ap (λ o. with_front front (o >>= others)) found ∙ ap (with_front front) (sym (tokens_turn n m flags bytes lt some)) ∙ is

-- where none is, there are no tokens
pub tokens_failed : (front : List Token) (n m : ℕ) (flags : Flags) (bytes : List ℕ) (whole : Option (List Token)) → m < n →
    0 < length bytes →
    None ≡ token_front flags bytes → with_front front (tokens (n - m) flags bytes) ≡ whole → None ≡ whole
tokens_failed front n m flags bytes whole lt some none is =
    let others : Token × List ℕ → Option (List Token) = λ t. tokens (n - (m + 1)) flags t.1 >>= λ others. Some (t.0 ∷ others) in
    ap (λ o. with_front front (o >>= others)) none ∙ ap (with_front front) (sym (tokens_turn n m flags bytes lt some)) ∙ is

-- nor where there are more than so many
pub tokens_over : (front : List Token) (n m : ℕ) (flags : Flags) (bytes : List ℕ) (whole : Option (List Token)) → n ≤ m → 0 < length bytes →
    with_front front (tokens (n - m) flags bytes) ≡ whole → None ≡ whole
tokens_over front n m flags bytes whole le some is = ap (with_front front) (sym (tokens_done n m flags bytes le some)) ∙ is

-- what the test of a length means
pub none_of : (bytes : List ℕ) → true ≡ (length bytes == 0) → length bytes ≡ 0
none_of bytes e = grind arith

pub some_of : (bytes : List ℕ) → false ≡ (length bytes == 0) → 0 < length bytes
some_of [] e = absurd (false≢true e)
some_of (b ∷ bytes) e = omega arith
