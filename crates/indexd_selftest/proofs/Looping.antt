-- Blocks are sent one behind the other.
use Rattle.std.proofs.Common.{◌≡◌, ◌≢◌, ◌<◌, ◌≤◌, ◌-◌, ◌%◌, ◌/◌, ◌^◌, ◌∙◌, ℕ, List, [], ◌∷◌, ◌++◌, length, map, refl, sym}
use Rattle.std.proofs.Common.{ap, subst, arith, append_assoc, length-drop}
use Rattle.std.proofs.lemmas.Nat.{mod_below}
use Rattle.std.proofs.lemmas.List.{map-append, length-take}
use Rattle.ix_manifest.specs.Book.{NamedItems}
use Rattle.ix_disk.specs.declared.disk.Disk.{Ghosts}
use Rattle.ix_model.specs.Given.{Chooser}
use Rattle.ix_model.specs.declared.commands.TimedCommand.{TimedCommand}
use Rattle.ix_run.specs.Giving.{given_all}
use Rattle.ix_run.proofs.Given.{given_join}
use Rattle.ix_store.specs.Making.{with_order}
use Rattle.ix_store.specs.declared.store.Store.{Store}
use Rattle.indexd_selftest.specs.Blocks.{AreCut, IsCutOff, left, next, size}
use Rattle.indexd_selftest.specs.Given.{RepresentsAll}
use Rattle.indexd_selftest.specs.History.{sent_block}
use Rattle.indexd_selftest.specs.declared.generator.Generator.{Generator}

-- the block that was cut off stands before what is cut of the rest
pub cut_more : (first : ℕ) (stream : List ℕ) (old new : Generator) (block : List ℕ) (blocks more : List (List ℕ)) →
    IsCutOff old new block → ((rest : List (List ℕ)) → AreCut old.x (left old) rest → AreCut first stream (blocks ++ rest)) →
    AreCut new.x (left new) more → AreCut first stream ((blocks ++ block ∷ []) ++ more)
cut_more first stream old new block blocks more off before is =
    let P : List (List ℕ) → Type 0 = λ (l : List (List ℕ)). AreCut first stream l in
    let Q : ℕ → Type 0 = λ (x : ℕ). AreCut x (left new) more in
    let R : List ℕ → Type 0 = λ (l : List ℕ). AreCut (next old.x) l more in
    subst P (sym (append_assoc blocks (block ∷ []) more))
    (before (block ∷ more) (off.some, off.block_is, subst R off.left_is (subst Q off.x is)))

-- a size is at least 1
size_some : (x : ℕ) → 0 < size x
size_some x = omega arith

some_long : (l : List ℕ) → l ≢ [] → 0 < length l
some_long [] some = absurd (some refl)
some_long (b ∷ l) some = omega arith

dropped_less : (n k m : ℕ) → 0 < n → 0 < k → m ≡ n - k → m < n
dropped_less n k m some any is = omega (arith, some, any, is)

-- fewer bytes are left behind a block
pub left_less : (old new : Generator) (block : List ℕ) → IsCutOff old new block → length (left new) < length (left old)
left_less old new block off =
    dropped_less (length (left old)) (size (next old.x)) (length (left new)) (some_long (left old) off.some) (size_some (next old.x))
    (ap length off.left_is ∙ length-drop (size (next old.x)) (left old))

block_within : (n : ℕ) → n % 4096 < 4096
block_within n = mod_below n 4096 (omega arith)

-- a block has at most 4,096 bytes
pub block_short : (old new : Generator) (block : List ℕ) → IsCutOff old new block → length block ≤ 4096
block_short old new block off =
    let is = ap length off.block_is in
    let most = length-take (size (next old.x)) (left old) in
    let below = block_within (next old.x / 2 ^ 33) in
    omega (arith, is, most, below)

module _ {D : Type 0} (d : Ghosts D) {M : Type 0} (takes : TimedCommand → Type 0) (fits : NamedItems → Type 0) (holds : Chooser →
    List TimedCommand → M → Type 0) (choose : Chooser) (history : List TimedCommand) (base : ℕ) (store : Store M) (disk : D) where
  -- a block behind others
  pub one_more : (blocks : List (List ℕ)) (block : List ℕ) →
      RepresentsAll d takes fits holds choose (with_order choose (given_all choose history (map sent_block blocks)) (sent_block block)) base
      store disk →
      RepresentsAll d takes fits holds choose (given_all choose history (map sent_block (blocks ++ block ∷ []))) base store disk
  one_more blocks block is =
      let P : List TimedCommand → Type 0 = λ (h : List TimedCommand). RepresentsAll d takes fits holds choose h base store disk in
      subst P (sym (ap (given_all choose history) (map-append sent_block blocks (block ∷ []))
      ∙ given_join choose history (map sent_block blocks) (sent_block block ∷ []))) is

  -- commands behind others
  pub joined : (first more : List TimedCommand) →
      RepresentsAll d takes fits holds choose (given_all choose (given_all choose history first) more) base store disk →
      RepresentsAll d takes fits holds choose (given_all choose history (first ++ more)) base store disk
  joined first more is =
      let P : List TimedCommand → Type 0 = λ (h : List TimedCommand). RepresentsAll d takes fits holds choose h base store disk in
      subst P (sym (given_join choose history first more)) is
