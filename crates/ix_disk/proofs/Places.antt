-- Where a file stands among those in memory.
use Rattle.std.proofs.Common.{◌≡◌, ◌<◌, ◌≤◌, ◌+◌, ℕ, zero, suc, nat_lt, cond, not, IfSome, IfNone, List, [], ◌∷◌, ◌++◌, length, get_or}
use Rattle.std.proofs.Common.{set, Bool, true, false, if◌then◌else◌, Option, None, Some, refl, sym, ◌∙◌, ap, arith, position}
use Rattle.std.specs.List.{position_or_len}
use Rattle.std.proofs.lemmas.Bool.Decides.{nat_tests}
use Rattle.std.proofs.lemmas.List.Quantifiers.{position-Some}
use Rattle.ix_base.specs.declared.files.File.{File}
use Rattle.ix_disk.specs.Files.{is_same, same_file, told_same, told_other, other_file}
use Rattle.ix_disk.specs.Contents.{find, IsFirst, IsAbsent, changed}
use Rattle.ix_disk.specs.declared.held.Held.{Held}

first_by : (held : List Held) (file : File) (i : ℕ) (d : Held) → i < length held → is_same file (get_or held i d).file ≡ true
    → ((k : ℕ) → k < i → is_same file (get_or held k d).file ≡ false) → IsFirst held file i
first_by [] file i d lt is not = absurd (omega arith)
first_by (h ∷ held) file zero d lt is not = is
first_by (h ∷ held) file (suc i) d lt is not = (
  not 0 (omega arith),
  first_by held file i d (omega arith) is (λ k less. not (suc k) (omega arith)),
)

pub first_found : (held : List Held) (file : File) (i : ℕ) (d : Held) → position (λ (h : Held). is_same file h.file) held ≡ Some i →
    IsFirst held file i
first_found held file i d at =
    let p = position-Some (λ (h : Held). is_same file h.file) held i d at in
    first_by held file i d p.0 p.1 p.2

pub first_lt : (held : List Held) (file : File) (i : ℕ) → IsFirst held file i → i < length held
first_lt [] file i is = absurd is
first_lt (h ∷ held) file zero is = omega arith
first_lt (h ∷ held) file (suc i) is = omega (arith, first_lt held file i is.1)

pub push_first : (held : List Held) (h : Held) (file : File) → h.file ≡ file → IsAbsent held file →
    IsFirst (held ++ h ∷ []) file (length held)
push_first [] h file same is = told_same file h.file (sym same)
push_first (g ∷ held) h file same is = (is.0, push_first held h file same is.1)

-- an entry where one is wanted and none is at hand
pub blank : File → Held
blank file = record { file = file; bytes = None; same = 0; rest = None; within = omega arith }

module _ (view : Held → Option (List ℕ)) where
  pub first_get : (held : List Held) (file : File) (i : ℕ) (d : Held) → IsFirst held file i → find view held file ≡ view (get_or held i d)
  first_get [] file i d is = absurd is
  first_get (h ∷ held) file zero d is = ap (λ (b : Bool). if b then view h else find view held file) is
  first_get (h ∷ held) file (suc i) d is = ap (λ (b : Bool). if b then view h else find view held file) is.0 ∙ first_get held file i d is.1

  pub absent_none : (held : List Held) (file : File) → IsAbsent held file → find view held file ≡ None
  absent_none [] file is = refl
  absent_none (h ∷ held) file is = ap (λ (b : Bool). if b then view h else find view held file) is.0 ∙ absent_none held file is.1

  pub push_same : (held : List Held) (h : Held) (f : File) → view h ≡ None → find view (held ++ h ∷ []) f ≡ find view held f
  push_same [] h f none = go (is_same f h.file) ∙ none
    where
      go : (told : Bool) → (if told then view h else None) ≡ view h
      go true = refl
      go false = sym none
  push_same (g ∷ held) h f none = ap (λ (o : Option (List ℕ)). if is_same f g.file then view g else o) (push_same held h f none)

  pub set_first : (held : List Held) (file : File) (i : ℕ) (d new : Held) (change : Option (List ℕ) → Option (List ℕ)) →
      IsFirst held file i → new.file ≡ (get_or held i d).file → view new ≡ change (view (get_or held i d))
      → (f : File) → find view (set held i new) f ≡ changed file change f (find view held f)
  set_first [] file i d new change is same so f = absurd is
  set_first (h ∷ held) file zero d new change is same so f = go (is_same f file) refl
    where
      told_new : is_same f new.file ≡ is_same f file
      told_new = ap (λ (g : File). is_same f g) (same ∙ sym (same_file file h.file is))

      told_old : is_same f h.file ≡ is_same f file
      told_old = ap (λ (g : File). is_same f g) (sym (same_file file h.file is))

      old : (told : Bool) → is_same f file ≡ told → find view (h ∷ held) f ≡ (if told then view h else find view held f)
      old told is = ap (λ (b : Bool). if b then view h else find view held f) (told_old ∙ is)

      now : (told : Bool) → is_same f file ≡ told → find view (new ∷ held) f ≡ (if told then view new else find view held f)
      now told is = ap (λ (b : Bool). if b then view new else find view held f) (told_new ∙ is)

      go : (told : Bool) → is_same f file ≡ told → find view (new
          ∷ held) f ≡ (if told then change (find view (h ∷ held) f) else find view (h ∷ held) f)
      go true told = now true told ∙ so ∙ ap change (sym (old true told))
      go false told = now false told ∙ sym (old false told)
  set_first (h ∷ held) file (suc i) d new change is same so f =
      go (set_first held file i d new change is.1 same so f) (is_same f h.file) refl
    where
      apart : is_same f h.file ≡ true → is_same f file ≡ false
      apart told = told_other f file (λ e. other_file file h.file is.0 (sym e ∙ same_file f h.file told))

      go : find view (set held i new) f ≡ changed file change f (find view held f) → (told : Bool) → is_same f h.file ≡ told
          → (if told then view h else find view (set held i new) f) ≡ changed file change f (if told then view h else find view held f)
      go rest true told = sym (ap (λ (b : Bool). if b then change (view h) else view h) (apart told))
      go rest false told = rest

  -- an entry whose view stays
  pub set_same : (held : List Held) (file : File) (i : ℕ) (d new : Held) → IsFirst held file i → new.file ≡ (get_or held i d).file →
      view new ≡ view (get_or held i d)
      → (f : File) → find view (set held i new) f ≡ find view held f
  set_same held file i d new is same so f = set_first held file i d new (λ o. o) is same so f ∙ go (is_same f file)
    where
      go : (told : Bool) → (if told then find view held f else find view held f) ≡ find view held f
      go true = refl
      go false = refl

  -- the same, behind a step that leaves the view too
  pub set_same_after : (before held : List Held) (file : File) (i : ℕ) (d new : Held) →
      ((f : File) → find view held f ≡ find view before f) → IsFirst held file i → new.file ≡ (get_or held i d).file →
      view new ≡ view (get_or held i d)
      → (f : File) → find view (set held i new) f ≡ find view before f
  set_same_after before held file i d new earlier is same so f = set_same held file i d new is same so f ∙ earlier f

  -- a file that has no entry stays missing, where the change leaves it so
  pub absent_same : (held : List Held) (file : File) (change : Option (List ℕ) → Option (List ℕ)) → IsAbsent held file → change None ≡ None
      → (f : File) → find view held f ≡ changed file change f (find view held f)
  absent_same held file change is stays f = go (is_same f file) refl
    where
      go : (told : Bool) → is_same f file ≡ told → find view held f ≡ (if told then change (find view held f) else find view held f)
      go true told =
          let none : find view held f ≡ None = ap (λ (g : File). find view held g) (same_file f file told) ∙ absent_none held file is in
          none ∙ sym stays ∙ ap change (sym none)
      go false told = refl

-- what `position` tells
absent_by : (held : List Held) (file : File) → length held ≤ position_or_len (λ (h : Held). is_same file h.file) held → IsAbsent held file
absent_by [] file le = tt
absent_by (h ∷ held) file le = go (λ (less : length held ≤ position_or_len (λ (h : Held). is_same file h.file) held).
    absent_by held file less) (is_same file h.file) refl le
  where
    go : (length held ≤ position_or_len (λ (h : Held). is_same file h.file) held → IsAbsent held file) → (told : Bool) →
        is_same file h.file ≡ told
        → suc (length held) ≤ cond (not told) (1 + position_or_len (λ (h : Held). is_same file h.file) held) 0 →
        (is_same file h.file ≡ false) × IsAbsent held file
    go rest true told le = absurd (omega (arith, le))
    go rest false told le = (told, rest (omega (arith, le)))

pub place_found : (held : List Held) (file : File) (d : Held) (place : Option ℕ) →
    place ≡ position (λ (h : Held). is_same file h.file) held → IfSome place (λ i. IsFirst held file i)
place_found held file d None is = tt
place_found held file d (Some i) is = first_found held file i d (sym is)

pub place_within : (held : List Held) (file : File) (d : Held) (place : Option ℕ) →
    place ≡ position (λ (h : Held). is_same file h.file) held → IfSome place (λ i. i < length held)
place_within held file d None is = tt
place_within held file d (Some i) is = first_lt held file i (first_found held file i d (sym is))

pub place_missing : (held : List Held) (file : File) (place : Option ℕ) → place ≡ position (λ (h : Held). is_same file h.file) held →
    IfNone place (IsAbsent held file)
place_missing held file None is = go (nat_lt (position_or_len (λ (h : Held). is_same file h.file) held) (length held)) refl
  where
    go : (less : Bool) → nat_lt (position_or_len (λ (h : Held). is_same file h.file) held) (length held) ≡ less → IsAbsent held file
    go true less =
        let some : position (λ (h : Held). is_same file h.file) held ≡ Some (position_or_len (λ (h : Held). is_same file h.file) held) =
        ap (λ (b : Bool). cond b (Some (position_or_len (λ (h : Held). is_same file h.file) held)) None) less in
        let none : None ≡ Some (position_or_len (λ (h : Held). is_same file h.file) held) = is ∙ some in
        absurd (cc none)
    go false less = absent_by held file (grind (arith, nat_tests))
place_missing held file (Some i) is = tt
