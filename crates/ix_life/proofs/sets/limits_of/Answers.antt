use Rattle.std.proofs.Common.{sym, ap, ◌∙◌}
use Rattle.std.specs.Prelude.{is_some}
use Rattle.ix_life.proofs.LimitsLemmas.{is_some-map}
use Rattle.ix_life.proofs.sets.limits_of.Goals as goal

pub returns : goal.returns
returns c =
    let archive = c.is_some.ensures ∙ sym (is_some-map _ c.value_of.result) ∙ ap is_some c.value_of.ensures in
    λ i. record {
      max_data_mb = c.number.ensures i;
      max_hot_buckets = c.number-2.ensures i;
      max_hot_span_secs = c.number-3.ensures i;
      max_hot_idle_secs = c.number-4.ensures i;
      max_warm_count = c.number-5.ensures i;
      frozen_secs = c.number-6.ensures i;
      max_total_mb = c.number-7.ensures i;
      home_max_mb = c.number-8.ensures i;
      cold_max_mb = c.number-9.ensures i;
      quarantine_past_secs = c.number-10.ensures i;
      quarantine_future_secs = c.number-11.ensures i;
      archive = archive i;
    }
