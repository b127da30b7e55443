-- How a command changes the spots in memory.
use Rattle.std.specs.Prelude.{◌<◌, ℕ, Bool, not, List, vec_len}
use Rattle.std.specs.List.{position_or_len}
use Rattle.std.specs.Ordering.{nat_cmp, is_lt}
use Rattle.std.specs.Cmp.Lexicographic.{slice_cmp}
use Rattle.std.specs.declared.alloc.Global.{Global}
use Rattle.std.specs.declared.vec.Vec.{Vec}
use Rattle.ix_base.specs.declared.events.Spot.{Spot}
use Rattle.ix_channels.specs.Rooms as rooms
use Rattle.ix_catalog.specs.Lists.{update}
use Rattle.ix_apply.specs.declared.spots.SpotChange.{SpotChange}
use Rattle.ix_apply.specs.declared.spots.SpotChange.TheVariants.{Same, Put, New}

abbrev pub put_over : Spot → Spot → Spot
put_over spot old = spot

-- the spots behind the change
abbrev pub placed : SpotChange → List Spot → List Spot
placed Same spots = spots
placed (Put at spot) spots = update at (put_over spot) spots
placed (New room) spots = rooms.put_into room spots

-- the change can be made without taking memory
abbrev pub HasRoom : SpotChange → Vec Spot Global → Type 0
HasRoom Same spots = Unit {0}
HasRoom (Put at spot) spots = at < vec_len spots
HasRoom (New room) spots = rooms.HasRoom room spots

-- ---- places

-- it stands before where one of this path is to stand
abbrev pub is_before : List ℕ → Spot → Bool
is_before path s = is_lt (slice_cmp nat_cmp s.path path)

-- behind all that stand before it
abbrev pub place_for : List ℕ → List Spot → ℕ
place_for path spots = position_or_len (λ (s : Spot). not (is_before path s)) spots
