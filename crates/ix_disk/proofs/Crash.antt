-- What a crash that tears the files leaves is one of the images.
use Rattle.std.proofs.Common.{◌≡◌, ◌⊎◌, inl, inr, ⊎_elim, ℕ, ◌+◌, ◌-◌, ◌<◌, ◌≤◌, min, List, [], ◌∷◌, ◌++◌, length, take, drop, replicate}
use Rattle.std.proofs.Common.{Bool, true, false, if◌then◌else◌, Option, None, Some, refl, sym, ◌∙◌, ap, arith, append_assoc, length-append}
use Rattle.std.proofs.Common.{length-take, length-drop}
use Rattle.std.proofs.lemmas.List.{length-replicate, take_all, take_at, drop_at, drop_all, append-nil}
use Rattle.ix_base.specs.declared.files.File.{File}
use Rattle.ix_disk.specs.Files.{is_same, same_file, other_file, is_it}
use Rattle.ix_disk.specs.Image.{Torn}
use Rattle.ix_disk.specs.Contents.{ones, ones_in, find, left_of, present, torn_in}
use Rattle.ix_disk.specs.declared.held.Held.{Held}
use Rattle.ix_disk.specs.declared.past.Call.{Call}
use Rattle.ix_disk.specs.declared.past.Call.TheVariants.{Made, Wrote, Settled, Removed, Asked}
use Rattle.ix_disk.specs.Memory.{see, Tears, Leaves, left_all, tear, tear_all, crashed, seen_after, torn_after, LeftBy, Torn-refl, seen_all}

module _ (at n : ℕ) (old : List ℕ) where
  front : List ℕ
  front = take at old

  middle : List ℕ
  middle = replicate (min n (length old - at)) 1

  back : List ℕ
  back = drop (at + n) old

  whole : length (ones at n old) ≡ length old
  whole = omega (
    arith,
    length-append (take at old ++ replicate (min n (length old - at)) 1) (drop (at + n) old),
    length-append (take at old) (replicate (min n (length old - at)) 1),
    length-take at old,
    length-replicate {A = ℕ} (min n (length old - at)) 1,
    length-drop (at + n) old,
  )

  ahead : take at (ones at n old) ≡ take at old
  ahead = ⊎_elim
      (λ (le : at ≤ length old).
      ap (λ (l : List ℕ). take at l) (append_assoc (take at old) (replicate (min n (length old - at)) 1) (drop (at + n) old))
      ∙ take_at (take at old) (replicate (min n (length old - at)) 1 ++ drop (at + n) old) at (omega (arith, length-take at old)))
      (λ (lt : length old < at).
      let none : min n (length old - at) ≡ 0 = omega arith in
      let same : ones at n old ≡ old =
      ap (λ (l : List ℕ). l ++ replicate (min n (length old - at)) 1 ++ drop (at + n) old) (take_all at old (omega arith))
      ∙ ap (λ (l : List ℕ). old ++ replicate (min n (length old - at)) 1 ++ l) (drop_all (at + n) old (omega arith))
      ∙ ap (λ (k : ℕ). old ++ replicate k 1 ++ []) none
      ∙ append-nil (old ++ [])
      ∙ append-nil old in
      ap (λ (l : List ℕ). take at l) same)
      (le_or_lt at (length old))
    where
      le_or_lt : (m k : ℕ) → (m ≤ k) ⊎ (k < m)
      le_or_lt m k = grind arith

  behind : drop (at + n) (ones at n old) ≡ drop (at + n) old
  behind = ⊎_elim
      (λ (le : at + n ≤ length old).
      drop_at (take at old ++ replicate (min n (length old - at)) 1) (drop (at + n) old) (at + n)
      (omega (
        arith,
        length-append (take at old) (replicate (min n (length old - at)) 1),
        length-take at old,
        length-replicate {A = ℕ} (min n (length old - at)) 1,
      )))
      (λ (lt : length old < at + n).
      drop_all (at + n) (ones at n old) (omega (arith, whole)) ∙ sym (drop_all (at + n) old (omega arith)))
      (le_or_lt (at + n) (length old))
    where
      le_or_lt : (m k : ℕ) → (m ≤ k) ⊎ (k < m)
      le_or_lt m k = grind arith

  Torn-ones : Torn at n old (ones at n old)
  Torn-ones = record { before = ahead; after = behind; no_shorter = omega (arith, whole); no_longer = omega (arith, whole) }

marks : (at n : ℕ) (torn : Option (List ℕ)) → Tears at n torn (ones_in at n torn)
marks at n None = record { torn = Torn-refl at n []; missing = λ e. refl }
marks at n (Some old) = record { torn = Torn-ones at n old; missing = λ e. absurd (cc e) }

tears_a_leaving : (call : Call) (f : File) (seen torn : Option (List ℕ)) → Leaves call f seen torn (tear call f seen torn)
tears_a_leaving (Made contents) f seen torn = refl
tears_a_leaving (Wrote file at bytes done) f seen torn = go (is_same f file) refl
  where
    go : (told : Bool) → is_same f file ≡ told → Leaves (Wrote file at bytes done) f seen torn
        (if told then ones_in at (length bytes) torn else torn)
    go true is = inl (same_file f file is, marks at (length bytes) torn)
    go false is = inr (other_file f file is, refl)
tears_a_leaving (Settled file true) f seen torn = go (is_same f file) refl
  where
    go : (told : Bool) → is_same f file ≡ told → Leaves (Settled file true) f seen torn (if told then seen else torn)
    go true is = inl (same_file f file is, refl)
    go false is = inr (other_file f file is, refl)
tears_a_leaving (Settled file false) f seen torn = refl
tears_a_leaving (Removed file done) f seen torn = ⊎_elim (λ is. inl (is, inl refl)) (λ ne. inr (ne, refl)) (is_it f file)
tears_a_leaving (Asked file) f seen torn = refl

tear_left : (calls : List Call) (f : File) (seen torn : Option (List ℕ)) (images : Option (List ℕ) → Type 0) → images torn →
    left_all calls f seen images (tear_all calls f seen torn)
tear_left [] f seen torn images is = is
tear_left (call ∷ calls) f seen torn images is = tear_left calls f (see call f seen) (tear call f seen torn) _ (
  torn,
  is,
  tears_a_leaving call f seen torn,
)

pub crashed_left : (torn : Bool) (calls : List Call) → LeftBy calls (crashed torn calls)
crashed_left true calls f = tear_left calls f None None (λ old. old ≡ None) refl
crashed_left false calls f = seen_all calls f None (λ old. old ≡ None) refl

-- the files in memory are those that a crash leaves
pub left_crashed : (torn : Bool) (held : List Held) (calls : List Call) → ((f : File) → present held f ≡ seen_after calls f) →
    ((f : File) → torn_in held f ≡ torn_after calls f)
    → (f : File) → find (left_of torn) held f ≡ crashed torn calls f
left_crashed true held calls seen torn f = torn f
left_crashed false held calls seen torn f = seen f
