use Rattle.std.proofs.Common.{ap, sym, ◌∙◌, length}
use Rattle.std.specs.List.{list_all}
use Rattle.ix_replay.specs.Writable.{can_write}
use Rattle.ix_replay.proofs.Writing.{all_written}
use Rattle.ix_replay.proofs.walk.ItemWalk.over.Goals as goal

pub invariant_of-result : goal.invariant_of-result
invariant_of-result c = record {
  writable = ap (list_all can_write) (c.into_iter.ensures.rest ∙ c.into_vec.ensures) ∙ all_written c.args.items c.requires;
  counted = c.into_iter.ensures.len ∙ c.into_vec.result.ok.0 ∙ sym (ap length c.into_iter.ensures.rest);
}
