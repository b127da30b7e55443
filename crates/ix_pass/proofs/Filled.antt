-- Blocks of a watched file that were read and given, one behind the other.
use Rattle.std.proofs.Common.{◌≡◌, ◌≤◌, ◌<◌, ◌+◌, ◌-◌, ℕ, zero, suc, List, [], ◌∷◌, ◌++◌, length, take, drop, refl, sym, ap, ◌∙◌}
use Rattle.std.proofs.Common.{subst, arith, ⊎_elim}
use Rattle.std.specs.Prelude.{Option, Some, None, IfSome, Result, Ok, Err}
use Rattle.std.specs.List.{AllByRecursion}
use Rattle.std.proofs.lemmas.List.{append-nil, length-append, length-drop, take-append-drop, drop-drop}
use Rattle.std.proofs.lemmas.Grind.{flat_map-append}
use Rattle.std.proofs.lemmas.Bool.{cases_lt}
use Rattle.ix_base.specs.Told.{IsFrontOf}
use Rattle.ix_fs.specs.declared.trees.TreeFile.{TreeFile}
use Rattle.ix_fs.specs.Trees.{bytes_at}
use Rattle.ix_model.specs.declared.commands.Command.{Command}
use Rattle.ix_run.specs.declared.giving.GiveFault.{GiveFault}
use Rattle.ix_pass.specs.Blocks.{IsPiece}
use Rattle.ix_pass.specs.Filling.{gave_of}
use Rattle.ix_watch.specs.Visits.{joined, added, adds, IsFull, AreBlocks}
use Rattle.ix_pass.specs.declared.fault.PassFault.{PassFault}
use Rattle.ix_pass.specs.declared.fault.PassFault.TheVariants as stops
use Rattle.ix_pass.proofs.Buffers.{take_add}

-- ---- blocks

pub joined_more : (blocks : List (List ℕ)) (bytes : List ℕ) → joined (blocks ++ bytes ∷ []) ≡ joined blocks ++ bytes
joined_more blocks bytes = flat_map-append (λ (block : List ℕ). block) blocks (bytes ∷ [])
    ∙ ap (λ (l : List ℕ). joined blocks ++ l) (append-nil bytes)

pub joined_length : (blocks : List (List ℕ)) (bytes : List ℕ) →
    length (joined (blocks ++ bytes ∷ [])) ≡ length (joined blocks) + length bytes
joined_length blocks bytes = ap (λ (l : List ℕ). length l) (joined_more blocks bytes) ∙ length-append (joined blocks) bytes

-- all but the last are full
pub last_is : (blocks : List (List ℕ)) (block : List ℕ) → AllByRecursion IsFull blocks → 0 < length block → length block ≤ 1048576 →
    AreBlocks (blocks ++ block ∷ [])
last_is [] block all some most = (some, most)
last_is (one ∷ []) block all some most = (all.0, (some, most))
last_is (one ∷ two ∷ blocks) block all some most = (all.0, last_is (two ∷ blocks) block all.1 some most)

pub all_are : (blocks : List (List ℕ)) → AllByRecursion IsFull blocks → AreBlocks blocks
all_are [] all = tt
all_are (one ∷ []) all = (omega (arith, all.0), omega (arith, all.0))
all_are (one ∷ two ∷ blocks) all = (all.0, all_are (two ∷ blocks) all.1)

pub add_nil : (n : ℕ) → n ≡ n + 0
add_nil n = omega arith

pub adds_more : (path head : List ℕ) (from : ℕ) (blocks : List (List ℕ)) (block : List ℕ) →
    adds path head from (blocks ++ block ∷ []) ≡ adds path head from blocks ++ added path head (from + length (joined blocks)) block ∷ []
adds_more path head from [] block = ap (λ (n : ℕ). added path head n block ∷ []) (add_nil from)
adds_more path head from (one ∷ blocks) block =
    ap (λ (l : List Command). added path head from one ∷ l)
    (adds_more path head (from + length one) blocks block
    ∙ ap (λ (n : ℕ). adds path head (from + length one) blocks ++ added path head n block ∷ []) (longer from one (joined blocks)))
  where
    longer : (from : ℕ) (one rest : List ℕ) → (from + length one) + length rest ≡ from + length (one ++ rest)
    longer from one rest = omega (arith, length-append one rest)

pub adds_at : (path head : List ℕ) (from at : ℕ) (blocks : List (List ℕ)) (block : List ℕ) → at ≡ from + length (joined blocks) →
    adds path head from (blocks ++ block ∷ []) ≡ adds path head from blocks ++ added path head at block ∷ []
adds_at path head from at blocks block e = adds_more path head from blocks block
    ∙ ap (λ (n : ℕ). adds path head from blocks ++ added path head n block ∷ []) (sym e)

-- ---- what of a file was read

-- from one place to another
pub record Came (from at : ℕ) (read bytes : List ℕ) : Type 0 where
  pub is : read ≡ take (at - from) (drop from bytes)
  pub there : at - from ≤ length bytes - from

pub came_none : (from : ℕ) (bytes : List ℕ) → Came from from [] bytes
came_none from bytes = record { is = ap (λ (n : ℕ). take n (drop from bytes)) (none from); there = omega arith }
  where
    none : (n : ℕ) → 0 ≡ n - n
    none n = omega arith

pub came_more : (from at size n : ℕ) (blocks : List (List ℕ)) (buf bytes : List ℕ) → from ≤ at → Came from at (joined blocks) bytes →
    IsPiece bytes at size n buf → Came from (at + n) (joined (blocks ++ take n buf ∷ [])) bytes
came_more from at size n blocks buf bytes after came piece = record {
  is = joined_more blocks (take n buf)
      ∙ ap (λ (l : List ℕ). l ++ take n buf) came.is
      ∙ ap (λ (l : List ℕ). take (at - from) (drop from bytes) ++ l) (piece.read
      ∙ ap (take n) (behind ∙ sym (drop-drop (at - from) from bytes)))
      ∙ sym (take_add (at - from) n (drop from bytes) (omega (arith, came.there, length-drop from bytes)))
      ∙ ap (λ (k : ℕ). take k (drop from bytes)) (whole from at n after);
  there = omega (arith, came.there, piece.many, after);
}
  where
    behind : drop at bytes ≡ drop (from + (at - from)) bytes
    behind = ap (λ (k : ℕ). drop k bytes) (place from at after)
      where
        place : (from at : ℕ) → from ≤ at → at ≡ from + (at - from)
        place from at e = omega (arith, e)

    whole : (from at n : ℕ) → from ≤ at → (at - from) + n ≡ (at + n) - from
    whole from at n e = omega (arith, e)

-- a first part
pub came_front : (from at : ℕ) (read bytes : List ℕ) → Came from at read bytes → IsFrontOf read (drop from bytes)
came_front from at read bytes came = record {
  rest = drop (at - from) (drop from bytes);
  whole_is = sym (take-append-drop (at - from) (drop from bytes))
      ∙ ap (λ (l : List ℕ). l ++ drop (at - from) (drop from bytes)) (sym came.is);
}

pub take_all : (k : ℕ) (l : List ℕ) → length l ≤ k → take k l ≡ l
take_all zero [] long = refl
take_all (suc k) [] long = refl
take_all zero (x ∷ l) long = absurd (omega (arith, long))
take_all (suc k) (x ∷ l) long = ap (λ (r : List ℕ). x ∷ r) (take_all k l (omega (arith, long)))

-- all up to the size
pub came_all : (from at size : ℕ) (read bytes : List ℕ) → from ≤ at → at ≤ size → (at < size → length bytes ≤ at) →
    Came from at read bytes → read ≡ take (size - from) (drop from bytes)
came_all from at size read bytes after within end came =
    ⊎_elim (λ (less : at < size). came.is
    ∙ take_all (at - from) (drop from bytes) (omega (arith, length-drop from bytes, end less))
    ∙ sym (take_all (size - from) (drop from bytes) (omega (arith, length-drop from bytes, end less, within))))
    (λ (not : size ≤ at). came.is ∙ ap (λ (n : ℕ). take (n - from) (drop from bytes)) (same at size within not))
    (cases_lt at size)
  where
    same : (a b : ℕ) → a ≤ b → b ≤ a → a ≡ b
    same a b e f = omega (arith, e, f)

-- ---- where the files are told

pub told_more : (P Q R : List ℕ → Type 0) → ((bytes : List ℕ) → P bytes → Q bytes → R bytes) →
    (path : List ℕ) (files files' : Option (List TreeFile)) → files' ≡ files →
    IfSome files (λ all. IfSome (bytes_at all path) P) → IfSome files' (λ all. IfSome (bytes_at all path) Q) →
    IfSome files (λ all. IfSome (bytes_at all path) R)
told_more P Q R so path None files' e p q = tt
told_more P Q R so path (Some all) files' e p q = inner (bytes_at all path) p
    (subst (λ (o : Option (List TreeFile)). IfSome o (λ all. IfSome (bytes_at all path) Q)) e q)
  where
    inner : (o : Option (List ℕ)) → IfSome o P → IfSome o Q → IfSome o R
    inner None p q = tt
    inner (Some bytes) p q = so bytes p q

pub told_one : (P R : List ℕ → Type 0) → ((bytes : List ℕ) → P bytes → R bytes) → (path : List ℕ) (files : Option (List TreeFile)) →
    IfSome files (λ all. IfSome (bytes_at all path) P) → IfSome files (λ all. IfSome (bytes_at all path) R)
told_one P R so path None p = tt
told_one P R so path (Some all) p = inner (bytes_at all path) p
  where
    inner : (o : Option (List ℕ)) → IfSome o P → IfSome o R
    inner None p = tt
    inner (Some bytes) p = so bytes p

pub told_any : (R : List ℕ → Type 0) → ((bytes : List ℕ) → R bytes) → (path : List ℕ) (files : Option (List TreeFile)) →
    IfSome files (λ all. IfSome (bytes_at all path) R)
told_any R so path None = tt
told_any R so path (Some all) = inner (bytes_at all path)
  where
    inner : (o : Option (List ℕ)) → IfSome o R
    inner None = tt
    inner (Some bytes) = so bytes

-- ---- faults

pub gave_all : (fault : PassFault) → ((given : GiveFault) → fault ≡ stops.Given given → ⊥) →
    (let result : Result ℕ PassFault = Err fault in gave_of result ≡ Ok tt)
gave_all (stops.Given fault) not = absurd (not fault refl)
gave_all stops.Input not = refl
gave_all stops.Memory not = refl
