-- How buckets, their states and their times are written. From Splunk's "Managing Indexers and
-- Clusters", bucket names.
use Rattle.std.specs.Prelude.{ℕ, ℤ, pos, List, ◌++◌, codes, decimal, Option, Some, None}
use Rattle.std.specs.Fmt.{signed_decimal}
use Rattle.std.specs.Int.{int_div_euclid}
use Rattle.ix_items.specs.declared.items.Bucket.{Bucket}
use Rattle.ix_items.specs.declared.items.State.{State}
use Rattle.ix_items.specs.declared.items.State.TheVariants.{Hot, Quarantine, Warm, Cold, Thawed}
use Rattle.ix_items.specs.declared.items.Rule.{Rule}
use Rattle.ix_items.specs.declared.items.Rule.TheVariants.{Age, Cold as ByCold, Total}

-- microseconds in whole seconds, rounded down
abbrev pub seconds : ℤ → ℤ
seconds micros = int_div_euclid micros (pos 1000000)

abbrev pub seconds_text : ℤ → List ℕ
seconds_text micros = signed_decimal (seconds micros)

-- a bucket that takes no events is named by its times
abbrev pub closed_name : ℤ → ℤ → ℕ → List ℕ
closed_name newest oldest id =
    codes "db_" ++ seconds_text newest ++ codes "_" ++ seconds_text oldest ++ codes "_" ++ decimal id

abbrev pub name_as : State → Bucket → List ℕ
name_as Hot b = codes "hot_v1_" ++ decimal b.id
name_as Quarantine b = codes "hot_quar_v1_" ++ decimal b.id
name_as Warm b = closed_name b.newest b.oldest b.id
name_as Cold b = closed_name b.newest b.oldest b.id
name_as Thawed b = closed_name b.newest b.oldest b.id

abbrev pub bucket_name : Bucket → List ℕ
bucket_name b = name_as b.state b

abbrev pub state_text : State → List ℕ
state_text Hot = codes "hot"
state_text Quarantine = codes "quarantine"
state_text Warm = codes "warm"
state_text Cold = codes "cold"
state_text Thawed = codes "thawed"

abbrev pub rule_text : Rule → List ℕ
rule_text Age = codes "age"
rule_text ByCold = codes "cold"
rule_text Total = codes "total"

-- an archive keeps what was frozen
abbrev pub fate_text : Option ℕ → List ℕ
fate_text None = codes "deleted"
fate_text (Some number) = codes "archived"
