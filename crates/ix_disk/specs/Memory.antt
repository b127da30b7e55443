-- A disk in memory: what its record of calls says of each file, and what a crash may leave of it.
use Rattle.std.specs.Prelude.{◌≡◌, ◌≢◌, ◌⊎◌, ◌≤◌, ◌+◌, ◌-◌, ℕ, List, [], ◌∷◌, ◌++◌, length, take, drop, Bool, true, false, if◌then◌else◌}
use Rattle.std.specs.Prelude.{Option, None, Some, nat_le, refl}
use Rattle.std.proofs.Common.{inl, inr, ⊎_elim, sym, ◌∙◌, ap, subst, arith, append_assoc, length-append, length-take, length-drop}
use Rattle.std.proofs.lemmas.Bool.Decides.{nat_tests}
use Rattle.std.proofs.lemmas.List.{take_all, take_at, drop_at}
use Rattle.ix_base.specs.declared.files.File.{File}
use Rattle.ix_disk.specs.Files.{is_same, same_file, other_file, is_it}
use Rattle.ix_disk.specs.Image.{Image, content, Torn, overwritten, Passes}
use Rattle.ix_disk.specs.Contents.{present, changed, over, ones_in, become}
use Rattle.ix_disk.specs.declared.past.Call.{Call}
use Rattle.ix_disk.specs.declared.past.Call.TheVariants.{Made, Wrote, Settled, Removed, Asked}

-- the file in hand after a call, as a read gives it; no write begins past its end
abbrev pub see : Call → File → Option (List ℕ) → Option (List ℕ)
see (Made contents) f now = present contents.files.items f
see (Wrote file at bytes true) f now = if nat_le at (length (content now)) then changed file (over at bytes) f now else now
see (Wrote file at bytes false) f now = now
see (Settled file done) f now = now
see (Removed file true) f now = changed file (become None) f now
see (Removed file false) f now = now
see (Asked file) f now = now

-- after these calls, the first of them first
abbrev pub see_all : List Call → File → Option (List ℕ) → Option (List ℕ)
see_all [] f now = now
see_all (call ∷ calls) f now = see_all calls f (see call f now)

pub record Tears (at n : ℕ) (old new : Option (List ℕ)) : Type 0 where
  pub torn : Torn at n (content old) (content new)
  pub missing : new ≡ None → old ≡ None

-- what a crash may leave of a file after a call, where it might have left old before; seen is what
-- a read gave before
abbrev pub Leaves : Call → File → Option (List ℕ) → Option (List ℕ) → Option (List ℕ) → Type 0
Leaves (Made contents) f seen old new = new ≡ present contents.files.items f
Leaves (Wrote file at bytes done) f seen old new = ((f ≡ file) × Tears at (length bytes) old new) ⊎ ((f ≢ file) × (new ≡ old))
Leaves (Settled file true) f seen old new = ((f ≡ file) × (new ≡ seen)) ⊎ ((f ≢ file) × (new ≡ old))
Leaves (Settled file false) f seen old new = new ≡ old
Leaves (Removed file done) f seen old new = ((f ≡ file) × ((new ≡ old) ⊎ (new ≡ None))) ⊎ ((f ≢ file) × (new ≡ old))
Leaves (Asked file) f seen old new = new ≡ old

abbrev pub left_all : List Call → File → Option (List ℕ) → (Option (List ℕ) → Type 0) → Option (List ℕ) → Type 0
left_all [] f seen images new = images new
left_all (call ∷ calls) f seen images new = left_all calls f (see call f seen) (λ next. (old : Option (List ℕ)) × images old
    × Leaves call f seen old next) new

-- A crash that leaves as little as it may of each file: what its last sync settled, as long as it
-- was then, with the bytes that were written since, also by a call that failed, as 1. A removal
-- since then is undone.
abbrev pub tear : Call → File → Option (List ℕ) → Option (List ℕ) → Option (List ℕ)
tear (Made contents) f seen torn = present contents.files.items f
tear (Wrote file at bytes done) f seen torn = changed file (ones_in at (length bytes)) f torn
tear (Settled file true) f seen torn = changed file (become seen) f torn
tear (Settled file false) f seen torn = torn
tear (Removed file done) f seen torn = torn
tear (Asked file) f seen torn = torn

abbrev pub tear_all : List Call → File → Option (List ℕ) → Option (List ℕ) → Option (List ℕ)
tear_all [] f seen torn = torn
tear_all (call ∷ calls) f seen torn = tear_all calls f (see call f seen) (tear call f seen torn)

-- the call asks for the length or the bytes of the file
abbrev pub asks : File → Call → Bool
asks file (Made contents) = false
asks file (Wrote other at bytes done) = false
asks file (Settled other done) = false
asks file (Removed other done) = false
asks file (Asked other) = is_same file other

-- what a read gives, and what a crash may leave, of each file after these calls on an empty disk
abbrev pub seen_after : List Call → Image
seen_after calls f = see_all calls f None

abbrev pub torn_after : List Call → Image
torn_after calls f = tear_all calls f None None

-- what a crash leaves where it tears the files, or else as a read gives them
abbrev pub crashed : Bool → List Call → Image
crashed true calls = torn_after calls
crashed false calls = seen_after calls

abbrev pub LeftBy : List Call → Image → Type 0
LeftBy calls image = (f : File) → left_all calls f None (λ old. old ≡ None) (image f)

abbrev pub LeftSince : List Call → ℕ → Image → Type 0
LeftSince calls t image = (k : ℕ) × (t ≤ k) × (k ≤ length calls) × LeftBy (take k calls) image

-- the images go through the step as the record of calls goes from the old to the new
abbrev pub Grows : List Call → List Call → (Image → Image → Type 0) → Type 0
Grows = Passes LeftBy length LeftSince

pub Torn-refl : (at n : ℕ) (file : List ℕ) → Torn at n file file
Torn-refl at n file = record { before = refl; after = refl; no_shorter = omega arith; no_longer = omega arith }

pub Torn-whole : (at : ℕ) (bytes old : List ℕ) → at ≤ length old → Torn at (length bytes) old (overwritten at bytes old)
Torn-whole at bytes old le =
    let front : length (take at old) ≡ at = omega (arith, length-take at old) in
    let behind : length (drop (at + length bytes) old) ≡ length old - (at + length bytes) = length-drop (at + length bytes) old in
    let size : length (overwritten at bytes old) ≡ at + length bytes + (length old - (at + length bytes)) =
    omega (arith, length-append (take at old ++ bytes) (drop (at + length bytes) old), length-append (take at old) bytes, front, behind) in
    record {
      before = ap (λ (l : List ℕ). take at l) (append_assoc (take at old) bytes (drop (at + length bytes) old))
          ∙ take_at (take at old) (bytes ++ drop (at + length bytes) old) at front;
      after = drop_at (take at old ++ bytes) (drop (at + length bytes) old) (at + length bytes)
          (omega (arith, length-append (take at old) bytes, front));
      no_shorter = omega (arith, size);
      no_longer = omega (arith, size);
    }

-- what a read gives is one of the things that a crash may leave
sees_a_leaving : (call : Call) (f : File) (seen : Option (List ℕ)) → Leaves call f seen seen (see call f seen)
sees_a_leaving (Made contents) f seen = refl
sees_a_leaving (Wrote file at bytes true) f seen = go (is_same f file) refl (nat_le at (length (content seen))) refl
  where
    go : (told : Bool) → is_same f file ≡ told → (fits : Bool) → nat_le at (length (content seen)) ≡ fits →
        Leaves (Wrote file at bytes true) f seen seen (if fits then (if told then over at bytes seen else seen) else seen)
    go true is true fits = inl (
      same_file f file is,
      record {
        torn = Torn-whole at bytes (content seen) (grind (arith, nat_tests));
        missing = λ e. absurd (cc e);
      },
    )
    go true is false fits = inl (same_file f file is, record { torn = Torn-refl at (length bytes) (content seen); missing = λ e. e })
    go false is true why = inr (other_file f file is, refl)
    go false is false why = inr (other_file f file is, refl)
sees_a_leaving (Wrote file at bytes false) f seen = ⊎_elim
    (λ is. inl (is, record { torn = Torn-refl at (length bytes) (content seen); missing = λ e. e })) (λ ne. inr (ne, refl)) (is_it f file)
sees_a_leaving (Settled file true) f seen = ⊎_elim (λ is. inl (is, refl)) (λ ne. inr (ne, refl)) (is_it f file)
sees_a_leaving (Settled file false) f seen = refl
sees_a_leaving (Removed file true) f seen = go (is_same f file) refl
  where
    go : (told : Bool) → is_same f file ≡ told → Leaves (Removed file true) f seen seen (if told then None else seen)
    go true is = inl (same_file f file is, inr refl)
    go false is = inr (other_file f file is, refl)
sees_a_leaving (Removed file false) f seen = ⊎_elim (λ is. inl (is, inl refl)) (λ ne. inr (ne, refl)) (is_it f file)
sees_a_leaving (Asked file) f seen = refl

pub seen_all : (calls : List Call) (f : File) (seen : Option (List ℕ)) (images : Option (List ℕ) → Type 0) → images seen →
    left_all calls f seen images (see_all calls f seen)
seen_all [] f seen images is = is
seen_all (call ∷ calls) f seen images is = seen_all calls f (see call f seen) _ (seen, is, sees_a_leaving call f seen)

pub memory_seen_stays : (calls : List Call) (image : Image) → Some (seen_after calls) ≡ Some image → LeftBy calls image
memory_seen_stays calls image is f =
    let same : seen_after calls ≡ image = cc in
    subst (λ (i : Image). left_all calls f None (λ old. old ≡ None) (i f)) same (seen_all calls f None (λ old. old ≡ None) refl)

pub memory_counts_now : (calls : List Call) (t : ℕ) (image : Image) → t ≤ length calls → LeftBy calls image → LeftSince calls t image
memory_counts_now calls t image le left = (
  length calls,
  le,
  omega arith,
  subst (λ (cs : List Call). LeftBy cs image) (sym (take_all (length calls) calls (omega arith))) left,
)

pub memory_only_now : (calls : List Call) (image : Image) → LeftSince calls (length calls) image → LeftBy calls image
memory_only_now calls image since = subst (λ (cs : List Call). LeftBy cs image) (take_all since.0 calls since.1) since.3
