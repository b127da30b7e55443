-- Room in a vector for one value more.
use Rattle.std.specs.Prelude.{◌≡◌, ◌≤◌, ◌<◌, List, [], Option, Some, None, vec_len, vec_capacity}
use Rattle.std.specs.List.{insert}
use Rattle.std.specs.declared.alloc.Global.{Global}
use Rattle.std.specs.declared.vec.Vec.{Vec}
use Rattle.ix_channels.specs.declared.reserved_insert.ReservedInsert.{ReservedInsert}

-- the list with the value in its place
abbrev pub put_into : {T : Type 0} → ReservedInsert T → List T → List T
put_into room xs = insert xs room.at room.value

-- one value more goes into the wider vector, which is empty, or else into the vector itself
abbrev pub TakesMore : {T : Type 0} → Option (Vec T Global) → Vec T Global → Type 0
TakesMore (Some wide) list = (wide.items ≡ []) × (vec_len list < vec_capacity wide)
TakesMore None list = vec_len list < vec_capacity list

-- the value can be put without taking memory
pub record HasRoom {T : Type 0} (room : ReservedInsert T) (list : Vec T Global) : Type 0 where
  pub within : room.at ≤ vec_len list
  pub takes : TakesMore room.wide list
