-- Values that are read one behind the other, as a loop does.
use Rattle.std.proofs.Common.{◌≡◌, ℕ, suc, ◌-◌, ◌+◌, ◌≤◌, ◌<◌, List, [], ◌∷◌, ◌++◌, length, Option, Some, None, refl, sym, ap, ◌∙◌}
use Rattle.std.proofs.Common.{append_assoc, arith}
use Rattle.std.proofs.lemmas.List.{append-nil}
use Rattle.std.proofs.lemmas.Grind.{flat_map-append}
use Rattle.std.proofs.lemmas.List.Concat.{flat_map-cons}
use Rattle.std.specs.List.{flat_map, AllByRecursion}
use Rattle.ix_items.specs.declared.items.ItemFault.{ItemFault}
use Rattle.ix_items.specs.declared.items.ItemFault.TheVariants as faults
use Rattle.ix_coding.specs.Reading.{◌>>=◌}
use Rattle.ix_items.specs.Reading.{Fails, list_at, made}

-- what was read before, and what is still read
abbrev pub with_front : {A : Type 0} → List A → Option (List A × List ℕ) → Option (List A × List ℕ)
with_front front read = read >>= λ x. Some (front ++ x.0, x.1)

module _ {A : Type 0} (one : List ℕ → Option (A × List ℕ)) where
  regroup : (front : List A) (x : A) (read : Option (List A × List ℕ)) →
      with_front front (read >>= λ y. Some (x ∷ y.0, y.1)) ≡ with_front (front ++ x ∷ []) read
  regroup front x (Some y) = ap (λ (l : List A). Some (l, y.1)) (simp append_assoc)
  regroup front x None = refl

  pub goes_on : (front : List A) (count i : ℕ) (bytes : List ℕ) (x : A) (after : List ℕ) (total : Option (List A × List ℕ)) → i < count →
      one bytes ≡ Some (x, after)
      → with_front front (list_at one (count - i) bytes) ≡ total →
      with_front (front ++ x ∷ []) (list_at one (count - (i + 1)) after) ≡ total
  unfolding list_at
  goes_on front count i bytes x after total lt h so_far =
      let k : count - i ≡ suc (count - (i + 1)) = omega arith in
      let first : with_front front (list_at one (count - i) bytes) ≡ with_front (front ++ x ∷ []) (list_at one (count - (i + 1)) after) =
      rw (k, h) (regroup front x (list_at one (count - (i + 1)) after)) in
      sym first ∙ so_far

  pub ends : (e : ItemFault) (front : List A) (count i : ℕ) (bytes : List ℕ) (total : Option (List A × List ℕ)) → i < count →
      Fails e (one bytes)
      → with_front front (list_at one (count - i) bytes) ≡ total → Fails e total
  unfolding list_at
  ends faults.NoMemory front count i bytes total lt h so_far = tt
  ends faults.BadItem front count i bytes total lt h so_far =
      let k : count - i ≡ suc (count - (i + 1)) = omega arith in
      let first : with_front front (list_at one (count - i) bytes) ≡ None = rw (k, h) refl in
      sym so_far ∙ first

  pub is_done : (front : List A) (count i : ℕ) (bytes : List ℕ) (total : Option (List A × List ℕ)) → count ≤ i →
      with_front front (list_at one (count - i) bytes) ≡ total → total ≡ Some (front, bytes)
  unfolding list_at
  is_done front count i bytes total le so_far =
      let k : count - i ≡ 0 = omega arith in
      let first : with_front front (list_at one (count - i) bytes) ≡ Some (front, bytes) =
      rw k (ap (λ (l : List A). Some (l, bytes)) (append-nil front)) in
      sym so_far ∙ first

  -- what is spelled is read again
  pub list_again : (spell : A → List ℕ) (Fits : A → Type 0) → ((x : A) (rest : List ℕ) → Fits x → one (spell x ++ rest) ≡ Some (x, rest))
      → (list : List A) (rest : List ℕ) → AllByRecursion Fits list →
      list_at one (length list) (flat_map spell list ++ rest) ≡ Some (list, rest)
  unfolding list_at
  list_again spell Fits again [] rest fits = refl
  list_again spell Fits again (x ∷ list) rest fits =
      let split : flat_map spell (x ∷ list) ++ rest ≡ spell x ++ (flat_map spell list ++ rest) =
      ap (λ (l : List ℕ). l ++ rest) (flat_map-cons spell x list) ∙ append_assoc (spell x) (flat_map spell list) rest in
      ap (list_at one (suc (length list))) split ∙ rw (
        again x (flat_map spell list ++ rest) fits.0,
        list_again spell Fits again list rest fits.1,
      ) refl

-- what was not read makes no value
pub fails_made : {A B : Type 0} (f : A → B) (e : ItemFault) (read : Option (A × List ℕ)) → Fails e read → Fails e (made f read)
fails_made f faults.NoMemory read h = tt
fails_made f faults.BadItem read h = ap (made f) h

-- one value more
pub push_found : {A : Type 0} (spell : A → List ℕ) (list : List A) (x : A) (bytes rest after : List ℕ) → bytes ≡ flat_map spell list
    ++ rest → rest ≡ spell x ++ after → bytes ≡ flat_map spell (list ++ x ∷ []) ++ after
push_found spell list x bytes rest after h e =
    let last : flat_map spell (x ∷ []) ≡ spell x = flat_map-cons spell x [] ∙ append-nil (spell x) in
    let more : flat_map spell (list ++ x ∷ []) ≡ flat_map spell list ++ spell x = flat_map-append spell list (x ∷ [])
    ∙ ap (λ (l : List ℕ). flat_map spell list ++ l) last in
    h ∙ ap (λ (l : List ℕ). flat_map spell list ++ l) e ∙ sym (append_assoc (flat_map spell list) (spell x) after)
    ∙ sym (ap (λ (l : List ℕ). l ++ after) more)

pub all_push : {A : Type 0} (P : A → Type 0) (list : List A) (x : A) → AllByRecursion P list → P x → AllByRecursion P (list ++ x ∷ [])
all_push P [] x all p = (p, tt)
all_push P (y ∷ list) x all p = (all.0, all_push P list x all.1 p)
