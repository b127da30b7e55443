use Rattle.ix_replay.proofs.Covered.{remove_all}
use Rattle.ix_replay.proofs.tally.Tally.remove.Goals as goal

pub returns : goal.returns
returns c = λ items covers. remove_all c.args.self.now _ c.args.item.now items (record {
  bytes = c.minus-self.ensures.bytes;
  events = c.minus-self.ensures.events;
  channels = c.minus-self.ensures.channels;
  size = c.minus-self.ensures.size;
}) (c.remove.ensures items covers.files) covers
