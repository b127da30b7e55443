-- How pieces of a copy join.
use Rattle.std.proofs.Common.{◌≡◌, ◌≢◌, ℕ, ◌+◌, ◌-◌, ◌≤◌, min, List, ◌++◌, length, take, drop, Option, Some, None, refl, sym, ap, subst}
use Rattle.std.proofs.Common.{◌∙◌, arith}
use Rattle.std.proofs.lemmas.List.{take_at, length-append, length-take, length-drop}
use Rattle.std.proofs.Math.Seq.{take-add}
use Rattle.std.proofs.lemmas.Option.{same_Some}
use Rattle.ix_base.specs.declared.files.File.{File}
use Rattle.ix_base.specs.Told.{Told}
use Rattle.ix_disk.specs.Image.{Image, content, bytes_in, overwritten, Writes}
use Rattle.ix_archive.specs.Copies.{HasFirst, Moves}

-- ---- lists

grows : (at n : ℕ) (source target : List ℕ) → HasFirst at source target → n ≤ length source - at →
    HasFirst (at + n) source (overwritten at (take n (drop at source)) target)
grows at n source target first fits =
    let piece : List ℕ = take n (drop at source) in
    let rest : List ℕ = drop (at + length piece) target in
    let size : length piece ≡ n = omega (arith, length-take n (drop at source), length-drop at source, fits) in
    let front : length (take at target ++ piece) ≡ at + n =
    omega (arith, length-append (take at target) piece, size, ap length first.same, length-take at source, first.long) in
    record {
      long = omega (arith, first.long, fits);
      same = take_at (take at target ++ piece) rest (at + n) front ∙ ap (λ (t : List ℕ). t ++ piece) first.same
          ∙ sym (take-add at n source);
    }

-- ---- images

-- a write of what stands in the source moves it
moves : (from to : File) (at n : ℕ) (bytes : List ℕ) (old new : Image) → from ≢ to → n ≤ length (bytes_in old from) - at →
    bytes ≡ take n (drop at (bytes_in old from)) → Writes to at bytes old new → Moves from to at (at + n) old new
moves from to at n bytes old new apart fits is write = record {
  source = ap content (write.others from apart);
  target = λ first. subst (λ (t : List ℕ). HasFirst (at + n) (bytes_in old from) t)
      (ap (λ (b : List ℕ). overwritten at b (bytes_in old to)) (sym is)
      ∙ sym (ap content write.written)) (grows at n (bytes_in old from) (bytes_in old to) first fits);
}

-- ---- what a disk tells

-- a step that is told is another where it leads there
told_leads : {A : Type 0} (p q : A → A → Type 0) (old mid new : Option A) → mid ≡ old → Told p mid new →
    ((a b : A) → old ≡ Some a → p a b → q a b) → Told q old new
told_leads p q None None None e told leads = tt
told_leads p q None None (Some b) e told leads = absurd told
told_leads p q None (Some a) new e told leads = absurd cc
told_leads p q (Some a) None new e told leads = absurd cc
told_leads p q (Some a) (Some m) None e told leads = absurd told
told_leads p q (Some a) (Some m) (Some b) e told leads = leads a b refl (subst (λ x. p x b) (same_Some m a e) told)

pub piece_moves : (from to : File) (at n : ℕ) (bytes : List ℕ) (old mid new : Option Image) → from ≢ to → mid ≡ old →
    Told (Writes to at bytes) mid new
    → ((image : Image) → old ≡ Some image → (n ≤ length (bytes_in image from) - at) × (bytes ≡ take n (drop at (bytes_in image from)))) →
    Told (Moves from to at (at + n)) old new
piece_moves from to at n bytes old mid new apart same told read =
    told_leads (Writes to at bytes) (Moves from to at (at + n)) old mid new same told
    (λ a b is write. moves from to at n bytes a b apart (read a is).0 (read a is).1 write)

-- what a piece has
pub piece_is : (n room at : ℕ) (source buf after : List ℕ) → (n ≡ min room (length source - at))
    × (after ≡ take n (drop at source) ++ drop n buf) → (n ≤ length source - at) × (take n after ≡ take n (drop at source))
piece_is n room at source buf after read = (
  omega (arith, read.0),
  ap (take n) read.1 ∙ take_at (take n (drop at source)) (drop n buf) n
      (omega (arith, read.0, length-take n (drop at source), length-drop at source)),
)
