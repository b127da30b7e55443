-- The ledger: the entries of all that is frozen, in the order in which it froze.
use Rattle.std.specs.Prelude.{◌≡◌, ◌==◌, ◌&&◌, ℕ, ℤ, Bool, List, ◌++◌, map, filter, option_to_list, slice_get, bytes_eq}
use Rattle.std.specs.List.{flat_map, sum_by}
use Rattle.ix_items.specs.declared.items.Entry.{Entry}
use Rattle.ix_items.specs.declared.items.Kept.{Kept}
use Rattle.ix_items.specs.declared.items.Rule.{Rule}
use Rattle.ix_model.specs.Buckets.{Index, ledger}
use Rattle.ix_model.specs.Keeping.{entered_at}
use Rattle.ix_model.specs.Shown.{whole_ledger}
use Rattle.ix_model.specs.State.{State, slots_in}
use Rattle.ix_model.specs.Step.{turn_in}

-- ---- what is in it

-- the same entries, each as often, in whatever order: whatever number each entry counts for, they
-- come to the same sum
abbrev pub AreSame : List Entry → List Entry → Type 0
AreSame a b = (g : Entry → ℕ) → sum_by g a ≡ sum_by g b

-- the entries of all frozen buckets, each bucket's once, by index and number
abbrev pub all_frozen : List Index → List Entry
all_frozen is = flat_map (λ (i : Index). ledger i.slots) is

-- whether an entry is that of the bucket of this number in this index
abbrev pub is_of : List ℕ → ℕ → Entry → Bool
is_of index id e = bytes_eq e.index index && (e.id == id)

-- The entries of all frozen buckets and no others. Of each bucket there is its entry, once, where
-- it is frozen, and none where it is not.
pub record IsWhole (m : State) : Type 0 where
  pub all : AreSame (whole_ledger m) (all_frozen m.catalog.indexes)
  pub each : (index : List ℕ) (id : ℕ) →
      AreSame (filter (is_of index id) (whole_ledger m)) (option_to_list (entered_at (slice_get (slots_in m.catalog.indexes index) id)))

-- ---- its order

-- entries, and perhaps more behind them
abbrev pub AreBefore : List Entry → List Entry → Type 0
AreBefore entries later = (more : List Entry) × (later ≡ entries ++ more)

-- when and by which rule which bucket freezes
pub record Freeze : Type 0 where
  pub moment : ℤ
  pub index : List ℕ
  pub id : ℕ
  pub rule : Rule

abbrev pub freeze_of : Entry → Freeze
freeze_of e = record { moment = e.moment; index = e.index; id = e.id; rule = e.rule }

-- what a turn freezes in an index, in its order
abbrev pub freezes_in : List Kept → ℤ → Index → List Freeze
freezes_in force moment i =
    map (λ (x : ℕ × Rule). record { moment = moment; index = i.name; id = x.0; rule = x.1 }) (turn_in force moment i).moves.frozen

-- a turn puts its entries behind the others, index by index, and in an index in the order in which
-- buckets freeze
pub record GrowsInOrder (old new : State) (moment : ℤ) : Type 0 where
  pub more : List Entry
  pub behind : whole_ledger new ≡ whole_ledger old ++ more
  pub in_order : map freeze_of more ≡ flat_map (freezes_in old.force moment) old.catalog.indexes
