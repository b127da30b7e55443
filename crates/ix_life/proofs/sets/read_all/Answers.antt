use Rattle.std.proofs.Common.{ap, ◌∙◌}
use Rattle.std.specs.Prelude.{unwrap_or, codes}
use Rattle.ix_life.specs.Limits.{limits_in}
use Rattle.ix_life.proofs.LimitsLemmas.{listed_limits}
use Rattle.ix_life.proofs.sets.read_all.Goals as goal

pub returns : goal.returns
returns c = record {
  default_database = c.in_ok-copy_or.ensures ∙ ap (λ o. unwrap_or o (codes "main")) c.value_of.ensures;
  last_chance = c.in_ok-copy_value.ensures ∙ c.value_of-2.ensures;
  rotate_secs = c.number.ensures;
  retired = c.limits_of.ensures;
  listed = c.in_ok-list_indexes.ensures;
  limits = λ index. ap (limits_in index) c.in_ok-list_indexes.ensures ∙ listed_limits c.args.indexes.now index;
}
