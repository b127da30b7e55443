-- A Roll moves nothing.
use Rattle.std.proofs.Common.{◌≡◌, ℕ, List, [], ◌∷◌, ◌++◌, map, refl, ap, ◌∙◌}
use Rattle.std.specs.Prelude.{None, Some, if◌then◌else◌, nat_le, bytes_eq}
use Rattle.std.specs.List.{flat_map}
use Rattle.ix_base.specs.declared.events.Event.{Event}
use Rattle.ix_base.specs.declared.files.File.{File}
use Rattle.ix_items.specs.declared.items.Bucket.{Bucket}
use Rattle.ix_commit.specs.Contents.{Contents}
use Rattle.ix_life.specs.Placing.{is_open}
use Rattle.ix_model.specs.Buckets.{Standing, live, frozen, Slot, Index}
use Rattle.ix_model.specs.Keeping.{closed, closed_slot}
use Rattle.ix_model.specs.Placed.{change_live}
use Rattle.ix_model.specs.State.{Catalog, index_name}
use Rattle.ix_model.specs.Step.{closed_index, roll}
use Rattle.ix_model.proofs.Named.{by_test}
use Rattle.ix_catalog.specs.Lists.{change}
use Rattle.ix_model.specs.Contents.{Filed, filed_by, filed_slot, filed_index, bytes_of, is_meta_area, contents_of}

closed_file : (b : Bucket) → (closed b).file ≡ b.file
closed_file b = by_test (is_open b) (λ t. rw t refl) (λ t. rw t refl)

one_filed : (events : List Event) (standing : Standing) → filed_by events (change_live closed standing) ≡ filed_by events standing
one_filed events (live b) = ap (λ (file : File). record { file = file; events = events } ∷ []) (closed_file b)
one_filed events (frozen e other) = refl

slots_filed : (slots : List Slot) → flat_map filed_slot (map closed_slot slots) ≡ flat_map filed_slot slots
slots_filed [] = refl
slots_filed (s ∷ slots) =
    ap (λ (fs : List Filed). fs ++ flat_map filed_slot (map closed_slot slots)) (one_filed s.events s.standing)
    ∙ ap (λ (fs : List Filed). filed_slot s ++ fs) (slots_filed slots)

indexes_filed : (index : List ℕ) (is : List Index) → flat_map filed_index (change index_name index closed_index is) ≡ flat_map filed_index
    is
indexes_filed index [] = refl
indexes_filed index (i ∷ is) =
    by_test (bytes_eq i.name index)
    (λ t. rw t (ap (λ (fs : List Filed). fs ++ flat_map filed_index is) (slots_filed i.slots)))
    (λ t. rw t (ap (λ (fs : List Filed). filed_index i ++ fs) (indexes_filed index is)))

abbrev contents_by : ℕ → List Filed → Contents
contents_by next fs file = if is_meta_area file.area then None else if nat_le next file.number then Some [] else bytes_of fs file

pub rolls_filed : (index : List ℕ) (s : Catalog) → contents_of (roll index s) ≡ contents_of s
rolls_filed index s = ap (contents_by s.next_file) (indexes_filed index s.indexes)
