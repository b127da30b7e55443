-- Texts with escapes are read one byte after the other.
use Rattle.std.proofs.Common.{◌≡◌, ℕ, suc, ◌+◌, ◌<◌, ◌==◌, ◌&&◌, not, Bool, true, false, List, [], ◌∷◌, ◌++◌, get_or, length, take, drop}
use Rattle.std.proofs.Common.{refl, sym, subst, add-one, append-nil, append_assoc, ◌≤◌, Option, Some, None}
use Rattle.std.specs.Option.{option_map}
use Rattle.std.proofs.lemmas.Bool.{eq-eqb, ne_eqb}
use Rattle.std.proofs.Math.Seq.{drop-cons, take-suc}
use Rattle.std.proofs.Math.ListN.{drop_of_length-le}
use Rattle.ix_conf_values.specs.declared.escapes.Part.{Part}
use Rattle.ix_conf_values.specs.declared.escapes.Part.TheVariants.{Byte}
use Rattle.ix_conf_values.specs.Escapes.{cut, parts, escape}

-- what stands in front, and one more
joined : {A : Type 0} (front : List A) (x : A) (rest : Option (List A)) →
    option_map (λ r. front ++ r) (option_map (λ r. x ∷ r) rest) ≡ option_map (λ r. (front ++ x ∷ []) ++ r) rest
joined front x None = refl
joined front x (Some r) = simp append_assoc

nothing_more : {A : Type 0} (rest : Option (List A)) → option_map (λ r. [] ++ r) rest ≡ rest
nothing_more None = refl
nothing_more (Some r) = refl

joined_cut : (front : List ℕ) (b : ℕ) (rest : Option (List ℕ × List ℕ)) →
    option_map {U = List ℕ × List ℕ} (λ found. (front ++ found.0, found.1))
    (option_map {U = List ℕ × List ℕ} (λ found. (b ∷ found.0, found.1)) rest) ≡ option_map {U = List ℕ
    × List ℕ} (λ found. ((front ++ b ∷ []) ++ found.0, found.1)) rest
joined_cut front b None = refl
joined_cut front b (Some found) = simp append_assoc

-- a byte that ends nothing
pub cut_goes_on : (text : List ℕ) (i : ℕ) (escaped : Bool) → i < length text → (not escaped && (get_or text i 0 == 47)) ≡ false →
    option_map {U = List ℕ × List ℕ} (λ found. (take i text ++ found.0, found.1)) (cut escaped (drop i text))
    ≡ option_map {U = List ℕ × List ℕ} (λ found. (take (i + 1) text ++ found.0, found.1))
    (cut (not escaped && (get_or text i 0 == 92)) (drop (i + 1) text))
cut_goes_on text i escaped here not_it =
    rw (add-one, drop-cons text i 0, not_it, take-suc text i 0)
    (joined_cut (take i text) (get_or text i 0) (cut (not escaped && (get_or text i 0 == 92)) (drop (suc i) text)))

pub parts_escaped : (text : List ℕ) (i : ℕ) (found : List Part) (part : Part) → i < length text → escape (get_or text i 0) ≡ Some part →
    option_map (λ rest. found ++ rest) (parts true (drop i text)) ≡ option_map (λ rest. (found ++ part ∷ [])
    ++ rest) (parts false (drop (i + 1) text))
parts_escaped text i found part here some =
    rw (add-one, drop-cons text i 0, some) (joined found part (parts false (drop (suc i) text)))

pub parts_backslash : (text : List ℕ) (i : ℕ) (found : List Part) → i < length text → get_or text i 0 ≡ 92 →
    option_map (λ rest. found ++ rest) (parts false (drop i text)) ≡ option_map (λ rest. found ++ rest) (parts true (drop (i + 1) text))
parts_backslash text i found here backslash =
    let is : (get_or text i 0 == 92) ≡ true = eq-eqb (get_or text i 0) 92 backslash in
    rw (add-one, drop-cons text i 0, is) refl

pub parts_plain : (text : List ℕ) (i : ℕ) (found : List Part) → i < length text → (get_or text i 0 ≡ 92 → ⊥) →
    option_map (λ rest. found ++ rest) (parts false (drop i text)) ≡ option_map (λ rest. (found ++ Byte (get_or text i 0) ∷ [])
    ++ rest) (parts false (drop (i + 1) text))
parts_plain text i found here plain =
    let is : (get_or text i 0 == 92) ≡ false = ne_eqb (get_or text i 0) 92 plain in
    rw (add-one, drop-cons text i 0, is) (joined found (Byte (get_or text i 0)) (parts false (drop (suc i) text)))

-- nothing is read yet
pub parts_begun : (text : List ℕ) (found : List Part) → found ≡ [] →
    option_map (λ rest. found ++ rest) (parts false text) ≡ parts false text
parts_begun text found none =
    subst (λ (f : List Part). option_map (λ rest. f ++ rest) (parts false text) ≡ parts false text) (sym none)
    (nothing_more (parts false text))

-- an escape that stands for nothing
pub parts_refused : (text : List ℕ) (i : ℕ) (found : List Part) → i < length text → escape (get_or text i 0) ≡ None →
    option_map (λ rest. found ++ rest) (parts true (drop i text)) ≡ None
parts_refused text i found here none = rw (drop-cons text i 0, none) refl

-- a backslash with nothing behind it
pub parts_open : (text : List ℕ) (i : ℕ) (found : List Part) → length text ≤ i →
    option_map (λ rest. found ++ rest) (parts true (drop i text)) ≡ None
parts_open text i found past = rw (drop_of_length-le text past) refl

pub parts_ended : (text : List ℕ) (i : ℕ) (found : List Part) → length text ≤ i →
    option_map (λ rest. found ++ rest) (parts false (drop i text)) ≡ Some found
parts_ended text i found past = rw (drop_of_length-le text past, append-nil found) refl
