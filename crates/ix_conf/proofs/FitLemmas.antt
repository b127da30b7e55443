-- Fitting from the front: a piece, and then whatever is asked of the rest of the name.
use Rattle.std.proofs.Common.{◌≡◌, ◌≢◌, ℕ, ◌⊎◌, inl, inr, Bool, true, false, not, ◌&&◌, ◌||◌, List, [], ◌∷◌, ◌++◌, refl, sym, ap, ◌∙◌}
use Rattle.std.proofs.Common.{subst, append_assoc}
use Rattle.std.specs.List.{AllByRecursion}
use Rattle.std.proofs.lemmas.Bool.{true≢false, ne_eqb}
use Rattle.std.proofs.lemmas.List.{append-nil}
use Rattle.ix_conf.specs.Walk.{Ask, is_end, any_of, byte_then, bytes_then, may_pass}
use Rattle.ix_conf.specs.Names.{Piece, nothing, byte, star, dots, seq, either, group, same_byte, Fits}

abbrev pub then_ask : Bool → Piece → Ask → Ask
then_ask fold nothing ask = ask
then_ask fold (byte b) ask = byte_then fold b ask
then_ask fold star ask = bytes_then false ask
then_ask fold dots ask = bytes_then true ask
then_ask fold (seq p q) ask = then_ask fold p (then_ask fold q ask)
then_ask fold (either p q) ask = any_of (then_ask fold p ask) (then_ask fold q ask)
then_ask fold (group p) ask = then_ask fold p ask

-- a front of the rest fits the piece, and the rest behind it is as asked
pub record FrontFits (fold : Bool) (p : Piece) (ask : Ask) (name : List ℕ) : Type 0 where
  pub front : List ℕ
  pub back : List ℕ
  pub whole : name ≡ front ++ back
  pub fits : Fits fold p front
  pub asked : ask back ≡ true

and_parts : (a b : Bool) → (a && b) ≡ true → (a ≡ true) × (b ≡ true)
and_parts true b h = (refl, h)
and_parts false b h = absurd (true≢false (sym h))

or_parts : (a b : Bool) → (a || b) ≡ true → (a ≡ true) ⊎ (b ≡ true)
or_parts true b h = inl refl
or_parts false b h = inr h

or_right : (a b : Bool) → b ≡ true → (a || b) ≡ true
or_right true b h = refl
or_right false b h = h

or_left : (a b : Bool) → a ≡ true → (a || b) ≡ true
or_left true b h = refl
or_left false b h = absurd (true≢false (sym h))

and_both : (a b : Bool) → a ≡ true → b ≡ true → (a && b) ≡ true
and_both true b h g = g
and_both false b h g = absurd (true≢false (sym h))

slash_passed : (c : ℕ) → may_pass false c ≡ true → c ≢ 47
slash_passed c h e = absurd (true≢false (sym (rw e at h)))

passes_slash : (c : ℕ) → c ≢ 47 → may_pass false c ≡ true
passes_slash c h = ap not (ne_eqb c 47 h)

-- the bytes that are passed
record Passed (slash : Bool) (ask : Ask) (name : List ℕ) : Type 0 where
  pub front : List ℕ
  pub back : List ℕ
  pub whole : name ≡ front ++ back
  pub all : AllByRecursion (λ c. may_pass slash c ≡ true) front
  pub asked : ask back ≡ true

passed_sound : (slash : Bool) (ask : Ask) (name : List ℕ) → bytes_then slash ask name ≡ true → Passed slash ask name
passed_sound slash ask [] h = record { front = []; back = []; whole = refl; all = tt; asked = h }
passed_sound slash ask (c ∷ rest) h = elim (or_parts (ask (c ∷ rest)) (may_pass slash c && bytes_then slash ask rest) h) [
  | inl here ↦ record { front = []; back = c ∷ rest; whole = refl; all = tt; asked = here }
  | inr more ↦
      let parts = and_parts (may_pass slash c) (bytes_then slash ask rest) more in
      let found = passed_sound slash ask rest parts.1 in
      record {
        front = c ∷ found.front;
        back = found.back;
        whole = ap (λ (t : List ℕ). c ∷ t) found.whole;
        all = (parts.0, found.all);
        asked = found.asked;
      }
]

passed_complete : (slash : Bool) (ask : Ask) (front back : List ℕ) → AllByRecursion (λ c. may_pass slash c ≡ true) front → ask back ≡ true
    → bytes_then slash ask (front ++ back) ≡ true
passed_complete slash ask [] [] all asked = asked
passed_complete slash ask [] (c ∷ back) all asked = or_left (ask (c ∷ back)) _ asked
passed_complete slash ask (c ∷ front) back all asked =
    or_right (ask (c ∷ front ++ back)) _ (and_both (may_pass slash c) _ all.0 (passed_complete slash ask front back all.1 asked))

no_slashes : (front : List ℕ) → AllByRecursion (λ c. may_pass false c ≡ true) front → AllByRecursion (λ c. c ≢ 47) front
no_slashes [] all = tt
no_slashes (c ∷ front) all = (slash_passed c all.0, no_slashes front all.1)

slashes_passed : (front : List ℕ) → AllByRecursion (λ c. c ≢ 47) front → AllByRecursion (λ c. may_pass false c ≡ true) front
slashes_passed [] all = tt
slashes_passed (c ∷ front) all = (passes_slash c all.0, slashes_passed front all.1)

all_any : (front : List ℕ) → AllByRecursion (λ c. may_pass true c ≡ true) front
all_any [] = tt
all_any (c ∷ front) = (refl, all_any front)

pub fits_sound : (fold : Bool) (p : Piece) (ask : Ask) (name : List ℕ) → then_ask fold p ask name ≡ true → FrontFits fold p ask name
fits_sound fold nothing ask name h = record { front = []; back = name; whole = refl; fits = refl; asked = h }
fits_sound fold (byte b) ask [] h = absurd (true≢false (sym h))
fits_sound fold (byte b) ask (c ∷ rest) h =
    let parts = and_parts (same_byte fold b c) (ask rest) h in
    record { front = c ∷ []; back = rest; whole = refl; fits = (c, refl, parts.0); asked = parts.1 }
fits_sound fold star ask name h =
    let found = passed_sound false ask name h in
    record { front = found.front; back = found.back; whole = found.whole; fits = no_slashes found.front found.all; asked = found.asked }
fits_sound fold dots ask name h =
    let found = passed_sound true ask name h in
    record { front = found.front; back = found.back; whole = found.whole; fits = tt; asked = found.asked }
fits_sound fold (seq p q) ask name h =
    let first = fits_sound fold p (then_ask fold q ask) name h in
    let second = fits_sound fold q ask first.back first.asked in
    record {
      front = first.front ++ second.front;
      back = second.back;
      whole = first.whole ∙ ap (λ (t : List ℕ). first.front ++ t) second.whole ∙ sym (append_assoc first.front second.front second.back);
      fits = (first.front, second.front, refl, first.fits, second.fits);
      asked = second.asked;
    }
fits_sound fold (either p q) ask name h = elim (or_parts (then_ask fold p ask name) (then_ask fold q ask name) h) [
  | inl one ↦
      let found = fits_sound fold p ask name one in
      record { front = found.front; back = found.back; whole = found.whole; fits = inl found.fits; asked = found.asked }
  | inr other ↦
      let found = fits_sound fold q ask name other in
      record { front = found.front; back = found.back; whole = found.whole; fits = inr found.fits; asked = found.asked }
]
fits_sound fold (group p) ask name h =
    let found = fits_sound fold p ask name h in
    record { front = found.front; back = found.back; whole = found.whole; fits = found.fits; asked = found.asked }

pub fits_complete : (fold : Bool) (p : Piece) (ask : Ask) (front back : List ℕ) → Fits fold p front → ask back ≡ true
    → then_ask fold p ask (front ++ back) ≡ true
fits_complete fold nothing ask front back fits asked = rw fits asked
fits_complete fold (byte b) ask front back fits asked = rw fits.1 (and_both (same_byte fold b fits.0) (ask back) fits.2 asked)
fits_complete fold star ask front back fits asked = passed_complete false ask front back (slashes_passed front fits) asked
fits_complete fold dots ask front back fits asked = passed_complete true ask front back (all_any front) asked
fits_complete fold (seq p q) ask front back fits asked =
    let second = fits_complete fold q ask fits.1 back fits.4 asked in
    let first = fits_complete fold p (then_ask fold q ask) fits.0 (fits.1 ++ back) fits.3 second in
    let P : List ℕ → Type 0 = λ t. then_ask fold p (then_ask fold q ask) t ≡ true in
    subst P (sym (ap (λ (t : List ℕ). t ++ back) fits.2 ∙ append_assoc fits.0 fits.1 back)) first
fits_complete fold (either p q) ask front back (inl one) asked = or_left _ _ (fits_complete fold p ask front back one asked)
fits_complete fold (either p q) ask front back (inr other) asked = or_right _ _ (fits_complete fold q ask front back other asked)
fits_complete fold (group p) ask front back fits asked = fits_complete fold p ask front back fits asked

-- a whole name
end_is_nil : (back : List ℕ) → is_end back ≡ true → back ≡ []
end_is_nil [] h = refl
end_is_nil (c ∷ back) h = absurd (true≢false (sym h))

pub whole_sound : (fold : Bool) (p : Piece) (name : List ℕ) → then_ask fold p is_end name ≡ true → Fits fold p name
whole_sound fold p name h =
    let found = fits_sound fold p is_end name h in
    let whole = found.whole ∙ ap (λ (t : List ℕ). found.front ++ t) (end_is_nil found.back found.asked) ∙ append-nil found.front in
    let P : List ℕ → Type 0 = λ t. Fits fold p t in
    subst P (sym whole) found.fits

pub whole_complete : (fold : Bool) (p : Piece) (name : List ℕ) → Fits fold p name → then_ask fold p is_end name ≡ true
whole_complete fold p name fits =
    let P : List ℕ → Type 0 = λ t. then_ask fold p is_end t ≡ true in
    subst P (append-nil name) (fits_complete fold p is_end name [] fits refl)
