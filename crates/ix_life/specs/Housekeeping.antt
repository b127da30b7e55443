-- The rules of housekeeping. From Splunk's "Managing Indexers and Clusters", how the indexer
-- retires data.
use Rattle.std.specs.Prelude.{◌*◌, ◌==◌, ◌&&◌, ◌||◌, not, nat_lt, if◌then◌else◌, ℕ, ℤ, Bool, true, false, List, ◌++◌, Option, Some, None}
use Rattle.std.specs.Prelude.{map, filter, take, drop}
use Rattle.ix_items.specs.declared.items.Bucket.{Bucket}
use Rattle.ix_items.specs.declared.items.Rule.{Rule}
use Rattle.ix_items.specs.declared.items.Rule.TheVariants as rules
use Rattle.ix_items.specs.declared.items.State.{State}
use Rattle.ix_items.specs.declared.items.State.TheVariants as states
use Rattle.ix_life.specs.declared.limits.Limits.{Limits}
use Rattle.ix_life.specs.declared.caps.Cap.{Cap}
use Rattle.ix_life.specs.declared.picks.Policy.{Policy}
use Rattle.ix_life.specs.declared.picks.Pick.{Pick}
use Rattle.ix_life.specs.declared.picks.Pick.TheVariants as picks
use Rattle.ix_life.specs.declared.moves.Moves.{Moves}
use Rattle.ix_life.specs.Times.{is_longer}
use Rattle.ix_life.specs.Placing.{is_open}
use Rattle.ix_life.specs.Order.{ordered}
use Rattle.ix_life.specs.Prefix.{shortest, allowed, sizes}

-- ---- buckets

abbrev pub has_state_warm : State → Bool
has_state_warm states.Hot = false
has_state_warm states.Quarantine = false
has_state_warm states.Warm = true
has_state_warm states.Cold = false
has_state_warm states.Thawed = false

abbrev pub has_state_cold : State → Bool
has_state_cold states.Hot = false
has_state_cold states.Quarantine = false
has_state_cold states.Warm = false
has_state_cold states.Cold = true
has_state_cold states.Thawed = false

abbrev pub is_warm : Bucket → Bool
is_warm b = has_state_warm b.state

abbrev pub is_cold : Bucket → Bool
is_cold b = has_state_cold b.state

-- no event came for too long, where that counts
abbrev pub is_unused : Policy → Bucket → Bool
is_unused p b = nat_lt 0 p.limits.max_hot_idle_secs && is_longer b.touched p.moment p.limits.max_hot_idle_secs

abbrev pub is_idle : Policy → Bucket → Bool
is_idle p b = is_open b && is_unused p b

abbrev pub stays_hot : Policy → Bucket → Bool
stays_hot p b = is_open b && not (is_unused p b)

-- its newest event is too old
abbrev pub is_old : Policy → Bucket → Bool
is_old p b = is_longer b.newest p.moment p.limits.frozen_secs

abbrev pub is_young : Policy → Bucket → Bool
is_young p b = not (is_old p b)

-- whether a bucket is one of those that a step takes
abbrev pub is_picked : Policy → Pick → Bucket → Bool
is_picked p picks.Idle = is_idle p
is_picked p picks.StillHot = stays_hot p
is_picked p picks.WarmOrIdle = λ b. is_warm b || is_idle p b
is_picked p picks.Cold = is_cold
is_picked p picks.Old = is_old p
is_picked p picks.Young = is_young p

-- ---- limits of size

abbrev pub megabytes : ℕ → ℕ
megabytes mb = mb * 1048576

-- 0 megabytes are no limit
abbrev pub limit : ℕ → Option ℕ
limit mb = if mb == 0 then None else Some (megabytes mb)

abbrev pub home_cap : Limits → ℕ → Cap
home_cap limits hot = record { most = Some limits.max_warm_count; beside = hot; within = limit limits.home_max_mb }

abbrev pub cold_cap : Limits → Cap
cold_cap limits = record { most = None; beside = 0; within = limit limits.cold_max_mb }

abbrev pub total_cap : Limits → ℕ → Cap
total_cap limits hot = record { most = None; beside = hot; within = Some (megabytes limits.max_total_mb) }

-- how many buckets of an ordered list go
abbrev pub going : Cap → List Bucket → ℕ
going cap bs = shortest (allowed cap) bs

-- ---- the five steps

-- 1. Idle buckets roll to warm.
abbrev pub idle : Policy → List Bucket → List Bucket
idle p bs = ordered (filter (is_idle p) bs)

-- the bytes of the hot and quarantine buckets that are left, and the warm buckets
abbrev pub hot_bytes : Policy → List Bucket → ℕ
hot_bytes p bs = sizes (filter (stays_hot p) bs)

abbrev pub warm : Policy → List Bucket → List Bucket
warm p bs = ordered (filter (λ b. is_warm b || is_idle p b) bs)

-- 2. Warm buckets move to cold until their number, and the bytes of hot and warm buckets, meet
--    their limits.
abbrev pub cooling : Policy → List Bucket → ℕ
cooling p bs = going (home_cap p.limits (hot_bytes p bs)) (warm p bs)

abbrev pub cooled : Policy → List Bucket → List Bucket
cooled p bs = take (cooling p bs) (warm p bs)

-- the warm buckets that are left, and the cold ones
abbrev pub still_warm : Policy → List Bucket → List Bucket
still_warm p bs = drop (cooling p bs) (warm p bs)

abbrev pub cold : Policy → List Bucket → List Bucket
cold p bs = ordered (filter is_cold bs ++ cooled p bs)

abbrev pub by_rule : Rule → List Bucket → List (ℕ × Rule)
by_rule rule bs = map (λ b. (b.id, rule)) bs

-- 3. Warm and cold buckets that are too old freeze.
abbrev pub frozen_by_age : Policy → List Bucket → List Bucket → List (ℕ × Rule)
frozen_by_age p cold warm = by_rule rules.Age (ordered (filter (is_old p) (cold ++ warm)))

-- 4. Cold buckets freeze until their bytes meet their limit.
-- 5. Cold buckets, and then warm ones, freeze until the bytes of all meet their limit.
abbrev pub frozen_by_size : Policy → ℕ → List Bucket → List Bucket → List (ℕ × Rule)
frozen_by_size p hot cold warm =
    let n = going (cold_cap p.limits) cold in
    let left = drop n cold ++ warm in
    by_rule rules.Cold (take n cold) ++ by_rule rules.Total (take (going (total_cap p.limits hot) left) left)

-- 3 to 5, on the buckets that step 2 leaves
abbrev pub frozen : Policy → ℕ → List Bucket → List Bucket → List (ℕ × Rule)
frozen p hot cold warm = frozen_by_age p cold warm ++ frozen_by_size p hot (filter (is_young p) cold) (filter (is_young p) warm)

abbrev pub ids : List Bucket → List ℕ
ids bs = map (λ b. b.id) bs

-- what the five steps do to the buckets of one index
abbrev pub moves : Policy → List Bucket → Moves
moves p bs = record {
  warmed = ids (idle p bs);
  cooled = ids (cooled p bs);
  frozen = frozen p (hot_bytes p bs) (cold p bs) (still_warm p bs);
}

-- the same, where the hot and quarantine buckets that are left have so many bytes, and these are
-- the warm ones
abbrev pub moves_with : Policy → List Bucket → ℕ → List Bucket → Moves
moves_with p bs hot warm =
    let n = going (home_cap p.limits hot) warm in
    record {
      warmed = ids (idle p bs);
      cooled = ids (take n warm);
      frozen = frozen p hot (ordered (filter is_cold bs ++ take n warm)) (drop n warm);
    }

-- the same under these limits at a moment
abbrev pub house : List Bucket → Limits → ℤ → Moves
house bs limits moment = moves (record { limits = limits; moment = moment }) bs
