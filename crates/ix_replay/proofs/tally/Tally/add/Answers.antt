use Rattle.std.proofs.Common.{◌≡◌, true, rules}
use Rattle.ix_replay.specs.Bounds.{IsWithin}
use Rattle.ix_replay.proofs.Covered.{add_all}
use Rattle.ix_replay.proofs.tally.Tally.add.Goals as goal

pub returns : goal.returns
returns c =
    let inside = c.if-not-is_within.false in
    let within : IsWithin c.args.item.now = search rules in
    let room = c.if-not-have_room.false in
    let yes : c.have_room.result ≡ true = search rules in
    add_all c.add.result c.args.self.now _ c.args.item.now within (record {
      bytes = c.plus-totals.ensures.bytes;
      events = c.plus-totals.ensures.events;
      channels = c.plus-totals.ensures.channels;
      size = c.plus-totals.ensures.size;
      bytes_fit = c.have_room.ensures.bytes yes;
      events_fit = c.have_room.ensures.events yes;
      channels_fit = c.have_room.ensures.channels yes;
      size_fit = c.have_room.ensures.size yes;
    }) c.add.ensures
