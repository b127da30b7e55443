-- What the numbers of indexes.conf read as. From Splunk's Admin Manual, indexes.conf.
use Rattle.std.specs.Prelude.{ℕ, Bool, ◌||◌, if◌then◌else◌, List, Option, Some, None, codes, bytes_eq, max}
use Rattle.std.specs.Option.{option_map}
use Rattle.ix_conf_values.specs.Plain.{count_in}
use Rattle.ix_life.specs.declared.kinds.Kind.{Kind}
use Rattle.ix_life.specs.declared.kinds.Kind.TheVariants.{Size, HotBuckets, Span, FromOne, FromZero}

-- so many at least, and within 32 bits
abbrev pub from : ℕ → List ℕ → Option ℕ
from least text = count_in least 4294967295 text

abbrev pub size : List ℕ → Option ℕ
size text =
    if bytes_eq text (codes "auto") then Some 750
    else if bytes_eq text (codes "auto_high_volume") then Some 10240
    else count_in 1 1048576 text

abbrev pub hot_buckets : List ℕ → Option ℕ
hot_buckets text = if bytes_eq text (codes "auto") then Some 3 else count_in 1 1000 text

-- less than an hour counts as an hour
abbrev pub span : List ℕ → Option ℕ
span text = option_map (λ n. max n 3600) (from 1 text)

abbrev pub read : Kind → List ℕ → Option ℕ
read Size text = size text
read HotBuckets text = hot_buckets text
read Span text = span text
read FromOne text = from 1 text
read FromZero text = from 0 text

-- ---- settings of an index

abbrev pub is_from_one : List ℕ → Bool
is_from_one key = bytes_eq key (codes "frozenTimePeriodInSecs") || bytes_eq key (codes "maxTotalDataSizeMB")

abbrev pub is_from_zero : List ℕ → Bool
is_from_zero key =
    ((((bytes_eq key (codes "maxHotIdleSecs") || bytes_eq key (codes "maxWarmDBCount"))
    || bytes_eq key (codes "homePath.maxDataSizeMB")) || bytes_eq key (codes "coldPath.maxDataSizeMB"))
    || bytes_eq key (codes "quarantinePastSecs")) || bytes_eq key (codes "quarantineFutureSecs")

abbrev pub kind_of : List ℕ → Option Kind
kind_of key =
    if bytes_eq key (codes "maxDataSize") then Some Size
    else if bytes_eq key (codes "maxHotBuckets") then Some HotBuckets
    else if bytes_eq key (codes "maxHotSpanSecs") then Some Span
    else if is_from_one key then Some FromOne
    else if is_from_zero key then Some FromZero
    else None
