-- How two ascending lists of entries become one.
use Rattle.std.specs.Prelude.{◌≡◌, ℕ, List, [], ◌∷◌, Option, Some, None, slice_get}
use Rattle.std.specs.declared.cmp.Ordering.{Ordering}
use Rattle.std.specs.declared.cmp.Ordering.TheVariants.{Less, Equal, Greater}
use Rattle.ix_conf.specs.declared.layers.MergedEntry.{MergedEntry}
use Rattle.ix_conf.specs.Value.{place, place_cmp}

-- the first entry of a list was taken, where there is one
abbrev pub Pops : List MergedEntry → Option MergedEntry → List MergedEntry → Type 0
Pops old None new = (old ≡ []) × (new ≡ [])
Pops old (Some entry) new = old ≡ entry ∷ new

-- which list has the earlier first entry
abbrev pub fronts_cmp : List MergedEntry → List MergedEntry → Ordering
fronts_cmp [] low = Greater
fronts_cmp (h ∷ high) [] = Less
fronts_cmp (h ∷ high) (l ∷ low) = place_cmp (place h) (place l)

-- the earlier one was taken; of two in one place the high one, and the low one is gone
abbrev pub Takes : Ordering → List MergedEntry → List MergedEntry → Option MergedEntry → List MergedEntry → List MergedEntry → Type 0
Takes Less high low taken high' low' = Pops high taken high' × (low' ≡ low)
Takes Equal high low taken high' low' = Pops high taken high' × ((gone : Option MergedEntry) × Pops low gone low')
Takes Greater high low taken high' low' = Pops low taken low' × (high' ≡ high)

-- the entry at a place, where there is one
abbrev pub entry_there : List MergedEntry → Option ℕ → Option MergedEntry
entry_there entries None = None
entry_there entries (Some at) = slice_get entries at
