-- Copies to files that are new, one behind the other.
use Rattle.std.proofs.Common.{◌≡◌, ◌<◌, ◌≤◌, ℕ, ◌+◌, false, List, [], ◌∷◌, ◌++◌, length, refl, ap, ◌∙◌, arith, inl, inr}
use Rattle.std.specs.Prelude.{Option, Some, ◌⊎◌, take}
use Rattle.std.proofs.lemmas.List.{take_all}
use Rattle.ix_base.specs.declared.files.File.{File}
use Rattle.ix_disk.specs.Files.{is_same, same_file}
use Rattle.ix_disk.specs.Image.{content}
use Rattle.ix_commit.specs.Contents.{Contents, filling}
use Rattle.ix_commit.specs.Copies.{target}
use Rattle.ix_commit.specs.Drafts.{with_copy, with_copies, AreFitCopies}
use Rattle.ix_commit.specs.declared.file_copy.FileCopy.{FileCopy}
use Rattle.ix_model.proofs.Named.{by_test}
use Rattle.ix_model.proofs.Placing.{In}
use Rattle.ix_model.specs.OnDisk.{HasNoneFrom}
use Rattle.ix_model.proofs.Pieces.{it_has, other_has}

-- numbers that rise, from the first on and below the second
abbrev pub AreBetween : ℕ → ℕ → List FileCopy → Type 0
AreBetween from to [] = from ≤ to
AreBetween from to (x ∷ xs) = (from ≤ x.number) × AreBetween (x.number + 1) to xs

more_between : (a b to : ℕ) (xs : List FileCopy) → a ≤ b → AreBetween b to xs → AreBetween a to xs
more_between a b to [] l h = omega (arith, l, h)
more_between a b to (x ∷ xs) l h = ((let p = h.0 in omega (arith, l, p)), h.1)

ordered : (a b : ℕ) (xs : List FileCopy) → AreBetween a b xs → a ≤ b
ordered a b [] h = h
ordered a b (x ∷ xs) h = let p = h.0 in let q = ordered (x.number + 1) b xs h.1 in omega (arith, p, q)

pub then_between : (a b c : ℕ) (xs ys : List FileCopy) → AreBetween a b xs → AreBetween b c ys → AreBetween a c (xs ++ ys)
then_between a b c [] ys h k = more_between a b c ys h k
then_between a b c (x ∷ xs) ys h k = (h.0, then_between (x.number + 1) b c xs ys h.1 k)

-- A copy of all the bytes of a file that was there, to one that was not.
pub record IsWhole (next : ℕ) (contents : Contents) (x : FileCopy) : Type 0 where
  pub before : x.from.number < next
  pub new : next ≤ x.number
  pub bytes : List ℕ
  pub there : contents x.from ≡ Some bytes
  pub len_is : x.len ≡ length bytes

abbrev pub AreWhole : ℕ → Contents → List FileCopy → Type 0
AreWhole next contents xs = (x : FileCopy) → In x xs → IsWhole next contents x

-- what was there is as it was
abbrev pub Agrees : ℕ → Contents → Contents → Type 0
Agrees next old new = (file : File) → file.number < next → new file ≡ old file

other_number : (file : File) (x : FileCopy) → (file.number ≡ x.number → ⊥) → is_same file (target x) ≡ false
other_number file x d = by_test (is_same file (target x)) (λ t. absurd (d (ap (λ (f : File). f.number) (same_file file (target x) t))))
    (λ t. t)

not_copied : (x : FileCopy) (c : Contents) (file : File) → (file.number ≡ x.number → ⊥) → with_copy x c file ≡ c file
not_copied x c file d = other_has (target x) (Some (take x.len (filling c x.from))) c file (other_number file x d)

agrees_more : (next : ℕ) (old c : Contents) (x : FileCopy) → Agrees next old c → next ≤ x.number → Agrees next old (with_copy x c)
agrees_more next old c x h l = λ file b. not_copied x c file (λ e. omega (arith, e, b, l)) ∙ h file b

pub fit_copies : (next : ℕ) (committed old c : Contents) (xs : List FileCopy) → HasNoneFrom next committed → Agrees next old c →
    AreWhole next old xs → AreFitCopies committed c xs
fit_copies next committed old c [] n h w = tt
fit_copies next committed old c (x ∷ xs) n h w =
    let one = w x (inl refl) in
    let b = one.before in
    let l = one.new in (
      record {
        other = λ e. (let q = ap (λ (f : File). f.number) e in absurd (omega (arith, q, b, l)));
        free = n (target x) one.new;
        bytes = one.bytes;
        there = h x.from one.before ∙ one.there;
        enough = (let k = one.len_is in omega (arith, k));
      },
      fit_copies next committed old (with_copy x c) xs n (agrees_more next old c x h one.new) (λ y i. w y (inr i)),
    )

pub not_between : (a b : ℕ) (xs : List FileCopy) (c : Contents) (file : File) → AreBetween a b xs → (file.number < a) ⊎ (b ≤ file.number) →
    with_copies xs c file ≡ c file
not_between a b [] c file h o = refl
not_between a b (x ∷ xs) c file h o = not_between (x.number + 1) b xs (with_copy x c) file h.1 (rest o) ∙ not_copied x c file (not_it o)
  where
    rest : (file.number < a) ⊎ (b ≤ file.number) → (file.number < x.number + 1) ⊎ (b ≤ file.number)
    rest (inl p) = inl (let q = h.0 in omega (arith, p, q))
    rest (inr p) = inr p

    not_it : (file.number < a) ⊎ (b ≤ file.number) → file.number ≡ x.number → ⊥
    not_it (inl p) e = let q = h.0 in omega (arith, e, p, q)
    not_it (inr p) e = let q = ordered (x.number + 1) b xs h.1 in omega (arith, e, p, q)

pub copied_has : (next a b : ℕ) (old c : Contents) (x : FileCopy) (xs : List FileCopy) → AreBetween a b xs → Agrees next old c →
    AreWhole next old xs → In x xs →
    (bytes : List ℕ) → old x.from ≡ Some bytes → x.len ≡ length bytes → x.from.number < next → with_copies xs c (target x) ≡ Some bytes
copied_has next a b old c x [] h g w i bytes e l p = absurd i
copied_has next a b old c x (y ∷ xs) h g w (inl q) bytes e l p =
    ap (λ (z : FileCopy). with_copies xs (with_copy z c) (target x)) q
    ∙ not_between (x.number + 1) b xs (with_copy x c) (target x) (rest q) (inl (omega arith))
    ∙ it_has (target x) (Some (take x.len (filling c x.from))) c
    ∙ ap (λ (o : Option (List ℕ)). Some (take x.len (content o))) (g x.from p ∙ e)
    ∙ ap (λ (o : List ℕ). Some o) (take_all x.len bytes (omega (arith, l)))
  where
    rest : y ≡ x → AreBetween (x.number + 1) b xs
    rest q = more_between (x.number + 1) (y.number + 1) b xs (let n = ap (λ (z : FileCopy). z.number) q in omega (arith, n)) h.1
copied_has next a b old c x (y ∷ xs) h g w (inr i) bytes e l p =
    copied_has next (y.number + 1) b old (with_copy y c) x xs h.1 (agrees_more next old c y g (w y (inl refl)).new) (λ z j. w z (inr j)) i
    bytes e l p
