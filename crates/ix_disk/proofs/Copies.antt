-- Files that are copied one by one.
use Rattle.std.proofs.Common.{◌≡◌, ◌+◌, ◌<◌, ℕ, List, [], ◌∷◌, ◌++◌, length, take, get_or, Bool, if◌then◌else◌, Option, refl, sym, ◌∙◌, ap}
use Rattle.std.proofs.Common.{subst}
use Rattle.std.proofs.lemmas.List.{take_more}
use Rattle.ix_base.specs.declared.files.File.{File}
use Rattle.ix_disk.specs.Files.{is_same}
use Rattle.ix_disk.specs.Contents.{find, seen_of, torn_of, left_of}
use Rattle.ix_disk.specs.declared.held.Held.{Held}

-- the one is what a crash leaves of the other, and all that a crash of it leaves
pub record IsLeft (torn : Bool) (new old : Held) : Type 0 where
  pub file : new.file ≡ old.file
  pub seen : seen_of new ≡ left_of torn old
  pub left : torn_of new ≡ left_of torn old

-- each of these is left of that in its place
abbrev pub AreLeft : Bool → List Held → List Held → Type 0
AreLeft torn [] [] = Unit {0}
AreLeft torn [] (o ∷ old) = ⊥
AreLeft torn (n ∷ new) [] = ⊥
AreLeft torn (n ∷ new) (o ∷ old) = IsLeft torn n o × AreLeft torn new old

left_push : (torn : Bool) (new old : List Held) (n o : Held) → AreLeft torn new old → IsLeft torn n o →
    AreLeft torn (new ++ n ∷ []) (old ++ o ∷ [])
left_push torn [] [] n o are is = (is, tt)
left_push torn [] (h ∷ old) n o are is = absurd are
left_push torn (h ∷ new) [] n o are is = absurd are
left_push torn (h ∷ new) (g ∷ old) n o are is = (are.0, left_push torn new old n o are.1 is)

pub left_more : (torn : Bool) (new now old : List Held) (i : ℕ) (n o : Held) → i < length old → AreLeft torn new (take i old) → now ≡ new
    ++ n ∷ [] → o ≡ get_or old i o → IsLeft torn n o → AreLeft torn now (take (i + 1) old)
left_more torn new now old i n o lt are pushed at is =
    subst (λ (l : List Held). AreLeft torn l (take (i + 1) old)) (sym pushed)
    (subst (λ (l : List Held). AreLeft torn (new ++ n ∷ []) l) (sym (take_more old i o lt))
    (left_push torn new (take i old) n (get_or old i o) are (subst (λ (h : Held). IsLeft torn n h) at is)))

pub left_seen : (torn : Bool) (new old : List Held) → AreLeft torn new old → (f : File) → find seen_of new f ≡ find (left_of torn) old f
left_seen torn [] [] are f = refl
left_seen torn [] (o ∷ old) are f = absurd are
left_seen torn (n ∷ new) [] are f = absurd are
left_seen torn (n ∷ new) (o ∷ old) are f =
    ap (λ (g : File). if is_same f g then seen_of n else find seen_of new f) are.0.file
    ∙ ap (λ (b : Option (List ℕ)). if is_same f o.file then b else find seen_of new f) are.0.seen
    ∙ ap (λ (b : Option (List ℕ)). if is_same f o.file then left_of torn o else b) (left_seen torn new old are.1 f)

pub left_torn : (torn : Bool) (new old : List Held) → AreLeft torn new old → (f : File) → find torn_of new f ≡ find (left_of torn) old f
left_torn torn [] [] are f = refl
left_torn torn [] (o ∷ old) are f = absurd are
left_torn torn (n ∷ new) [] are f = absurd are
left_torn torn (n ∷ new) (o ∷ old) are f =
    ap (λ (g : File). if is_same f g then torn_of n else find torn_of new f) are.0.file
    ∙ ap (λ (b : Option (List ℕ)). if is_same f o.file then b else find torn_of new f) are.0.left
    ∙ ap (λ (b : Option (List ℕ)). if is_same f o.file then left_of torn o else b) (left_torn torn new old are.1 f)
