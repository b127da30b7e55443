-- How the open channels in memory change by a command.
use Rattle.std.specs.Prelude.{◌<◌, List, [], vec_len}
use Rattle.std.specs.List.{remove}
use Rattle.std.specs.declared.alloc.Global.{Global}
use Rattle.std.specs.declared.vec.Vec.{Vec}
use Rattle.ix_parse.specs.Standing.{Kept}
use Rattle.ix_catalog.specs.Lists.{update}
use Rattle.ix_state.specs.declared.state.OpenChannel.{OpenChannel}
use Rattle.ix_channels.specs.Rooms as rooms
use Rattle.ix_channels.specs.declared.change.ChannelChange.{ChannelChange}
use Rattle.ix_channels.specs.declared.change.ChannelChange.TheVariants.{Same, Begun, Fed, Ended, AllEnded}

abbrev pub with_channel : Kept → OpenChannel → OpenChannel
with_channel channel o = record { name = o.name; meta = o.meta; channel = channel }

-- the channels behind the change
abbrev pub changed : ChannelChange → List OpenChannel → List OpenChannel
changed Same channels = channels
changed (Begun room) channels = rooms.put_into room channels
changed (Fed at channel) channels = update at (with_channel channel) channels
changed (Ended at) channels = remove channels at
changed AllEnded channels = []

-- the change can be made without taking memory
abbrev pub HasRoom : ChannelChange → Vec OpenChannel Global → Type 0
HasRoom Same channels = Unit {0}
HasRoom (Begun room) channels = rooms.HasRoom room channels
HasRoom (Fed at channel) channels = at < vec_len channels
HasRoom (Ended at) channels = at < vec_len channels
HasRoom AllEnded channels = Unit {0}
