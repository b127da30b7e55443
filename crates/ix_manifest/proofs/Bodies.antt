-- A body is put piece by piece.
use Rattle.std.proofs.Common.{◌≡◌, ℕ, ◌+◌, ◌<◌, ◌≤◌, List, [], ◌∷◌, ◌++◌, length, take, get_or, Bool, true, false, refl, ap, subst, sym}
use Rattle.std.proofs.Common.{◌∙◌, ⊎_elim, inl, inr, append-nil, length-append, arith}
use Rattle.std.proofs.lemmas.List.{take_more}
use Rattle.std.proofs.lemmas.List.Concat.{flat_map-append}
use Rattle.std.proofs.lemmas.List.Folds.{length-flat_map-take}
use Rattle.ix_base.specs.declared.files.File.{File}
use Rattle.ix_disk.specs.Image.{bytes_in}
use Rattle.ix_disk.specs.Moments.{ImagesStep, InFile, Holds}
use Rattle.ix_disk.specs.declared.disk.Disk.{Ghosts}
use Rattle.ix_disk.proofs.Runs.{begins, weaker}
use Rattle.ix_log.specs.Log.{HasBodies, WithOrWithout, AtEnd, IsReady, file_of}
use Rattle.ix_log.specs.declared.log.Log.{Log}
use Rattle.std.specs.List.{AllByRecursion}
use Rattle.ix_items.specs.declared.items.Item.{Item}
use Rattle.ix_items.specs.Spelling.{HasSpelling, item_bytes, body_bytes, kind_byte, field_bytes}
use Rattle.ix_coding.specs.Spelling.{byte}
use Rattle.ix_manifest.specs.Book.{IsBody}
use Rattle.ix_manifest.specs.Slots.{bytes_of, items_of, WithBody}
use Rattle.ix_manifest.specs.declared.staged_item.StagedItem.{StagedItem}

-- at the end of some bodies these are the bodies of the file
pub end_bodies : (closed : Bool) (bodies : List (List ℕ)) (file : List ℕ) → AtEnd closed bodies file → HasBodies bodies file
end_bodies true bodies file gated = inl gated
end_bodies false bodies file none = inr none

pub bytes_more : (slots : List StagedItem) (i : ℕ) (slot : StagedItem) → i < length slots → slot ≡ get_or slots i slot →
    bytes_of (take (i + 1) slots) ≡ bytes_of (take i slots) ++ slot.bytes
bytes_more slots i slot within is =
    ap bytes_of (take_more slots i slot within) ∙ flat_map-append (λ (s : StagedItem). s.bytes) (take i slots) (get_or slots i slot ∷ [])
    ∙ ap (λ (l : List ℕ). bytes_of (take i slots) ++ l) (append-nil (get_or slots i slot).bytes)
    ∙ ap (λ (s : StagedItem). bytes_of (take i slots) ++ s.bytes) (sym is)

pub bytes_room : (slots : List StagedItem) (i : ℕ) (slot : StagedItem) → i < length slots → slot ≡ get_or slots i slot →
    length (bytes_of (take i slots)) + length slot.bytes ≤ length (bytes_of slots)
bytes_room slots i slot within is =
    subst (λ (s : StagedItem). length (bytes_of (take i slots)) + length s.bytes ≤ length (bytes_of slots)) (sym is)
    (length-flat_map-take (λ (s : StagedItem). s.bytes) slots i slot within)

module _ {D : Type 0} (g : Ghosts D) (log : Log) (disk : D) (bodies : List (List ℕ)) (body : List ℕ) where
  pub ready_holds : IsReady g log disk bodies body → Holds g disk (file_of log) (HasBodies bodies)
  ready_holds (inl end) image left = end_bodies log.closed bodies (bytes_in image log.file) (end.0.images image left)
  ready_holds (inr putting) image left = inl (putting.images image left)

  pub put_none : IsReady g log disk bodies body → ImagesStep g disk disk (InFile (file_of log) (HasBodies bodies))
  put_none ready = begins g disk (file_of log) (HasBodies bodies) (ready_holds ready)

module _ {D : Type 0} (g : Ghosts D) (old new : D) (file : File) (bodies : List (List ℕ)) (slots : List StagedItem) where
  -- no further body yet
  pub without_body : ImagesStep g old new (InFile file (HasBodies bodies)) → ImagesStep g old new (InFile file (WithBody bodies slots))
  without_body = weaker g old new file (HasBodies bodies) (WithBody bodies slots) (λ l has. inl has)

  -- perhaps one
  pub with_body : 0 < length slots → ImagesStep g old new (InFile file (WithOrWithout bodies (bytes_of slots))) →
      ImagesStep g old new (InFile file (WithBody bodies slots))
  with_body some = weaker g old new file (WithOrWithout bodies (bytes_of slots)) (WithBody bodies slots)
      (λ l. ⊎_elim (λ has. inl has) (λ gated. inr (some, gated)))

-- ---- the staged bytes are the staged items

item_some : (item : Item) → 0 < length (item_bytes item)
unfolding item_bytes byte
item_some item = omega (arith, length-append (byte (kind_byte item)) (field_bytes item))

spelled_all : (slots : List StagedItem) → bytes_of slots ≡ body_bytes (items_of slots)
spelled_all [] = refl
spelled_all (slot ∷ slots) = λ i. slot.spelled i ++ spelled_all slots i

pub slots_body : (slots : List StagedItem) → AllByRecursion HasSpelling (items_of slots) → 0 < length slots →
    IsBody (items_of slots) (bytes_of slots)
slots_body [] proper some = absurd (omega (arith, some))
slots_body (slot ∷ slots) proper some = record {
  are = record { proper = proper; spelled = spelled_all (slot ∷ slots) };
  some = some_bytes;
}
  where
    some_bytes : 0 < length (slot.bytes ++ bytes_of slots)
    some_bytes =
        let one = item_some slot.item in
        omega (arith, length-append slot.bytes (bytes_of slots), ap length slot.spelled, one)
