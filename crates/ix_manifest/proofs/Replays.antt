-- A log is replayed body by body.
use Rattle.std.proofs.Common.{◌≡◌, ◌<◌, ◌+◌, ◌^◌, ◌==◌, if◌then◌else◌, ◌⊎◌, ℕ, List, [], ◌∷◌, ◌++◌, length, Bool, true, false, Some, subst}
use Rattle.std.proofs.Common.{sym, ap, ◌∙◌, inl, inr, arith, length-append}
use Rattle.std.proofs.lemmas.Bool.Decides.{nat_tests}
use Rattle.ix_items.specs.declared.items.Item.{Item}
use Rattle.ix_disk.specs.Image.{Image, bytes_in}
use Rattle.ix_disk.specs.declared.disk.Disk.{Ghosts}
use Rattle.ix_log.specs.Log.{AreShort, IsReading, IsCut, OnMore, file_of}
use Rattle.ix_log.specs.declared.log.Log.{Log}
use Rattle.ix_log.specs.declared.log.LogFault.{LogFault}
use Rattle.ix_log.specs.declared.log.LogFault.TheVariants as logs
use Rattle.ix_manifest.specs.declared.manifest_state.ReplayFault.TheVariants as faults
use Rattle.ix_manifest.specs.Book.{NamedItems, IsBody, replay, Replays}
use Rattle.ix_manifest.specs.Replaying.{HasApplied, IsReplaying, HasBadBody, BadGateReplaysNothing, as_replay, first_length, first_after}
use Rattle.ix_manifest.proofs.Applying.{next_is_body, replays_push}
use Rattle.ix_manifest.proofs.Blocks.{next_stands, cut_none}

pub on_true : (b : Bool) (P Q : Type 0) → b ≡ true → OnMore b P Q → P
on_true true P Q is p = p
on_true false P Q is p = absurd cc

pub on_false : (b : Bool) (P Q : Type 0) → b ≡ false → OnMore b P Q → Q
on_false true P Q is p = absurd cc
on_false false P Q is p = p

-- the log named a place as damaged
pub log_damaged : (fault : LogFault) (at : ℕ) → as_replay fault ≡ faults.Damaged at → fault ≡ logs.Damaged at
log_damaged logs.Disk at is = absurd cc
log_damaged (logs.Damaged place) at is = cc
log_damaged logs.NoMemory at is = absurd cc

pub short_front : (bodies : List (List ℕ)) (body : List ℕ) → AreShort (bodies ++ body ∷ []) → AreShort bodies
short_front [] body short = tt
short_front (first ∷ bodies) body short = (short.0, short_front bodies body short.1)

pub short_last : (bodies : List (List ℕ)) (body : List ℕ) → AreShort (bodies ++ body ∷ []) → length body < 2 ^ 32
short_last [] body short = short.0
short_last (first ∷ bodies) body short = short_last bodies body short.1

-- a body that was read stands whole behind those before it, and is bad where none of its readings
-- leads to a book that fits
pub read_bad : {D : Type 0} (g : Ghosts D) (fits : NamedItems → Type 0) (log : Log) (disk : D) (image : Image) → g.seen disk ≡ Some image →
    (bodies : List (List ℕ)) (out : List ℕ) (mid : NamedItems)
    → IsReading g log disk (bodies ++ out ∷ []) → ((items : List Item) → IsBody items out → fits (replay items mid) → ⊥) →
    HasBadBody fits bodies mid (bytes_in image (file_of log))
read_bad g fits log disk image told bodies out mid reading refused =
    let on = reading.reads image told in
    record { body = out; rest = on.rest; spelled = on.spelled; short = short_last bodies out on.fit; refused = refused }

-- a file with a bad gate replays nothing
pub bad_gate_none : (fits : NamedItems → Type 0) → BadGateReplaysNothing fits
bad_gate_none fits from at file gate all to has replays = go gate.bad
  where
    go : IsCut gate.bodies file ⊎ HasBadBody fits gate.bodies gate.mid file → ⊥
    go (inl cut) = cut_none gate.bodies all file gate.fit cut has
    go (inr bad) =
        let next = next_stands gate.bodies all bad.body bad.rest file bad.spelled gate.fit bad.short has in
        let is = next_is_body fits gate.bodies bad.body next.0 from gate.mid to gate.replayed
        (subst (λ (l : List (List ℕ)). Replays fits l from to) next.1 replays) in
        bad.refused is.0 is.1 is.2

first_push : (bodies : List (List ℕ)) (body : List ℕ) (first count : ℕ) → count ≡ length bodies → first ≡ first_length bodies →
    first_after count first (length body) ≡ first_length (bodies ++ body ∷ [])
first_push [] body first count counted measured = ap (λ (n : ℕ). if n == 0 then length body else first) counted
first_push (b ∷ bodies) body first count counted measured =
    let test : (count == 0) ≡ false = grind (arith, nat_tests, counted) in
    ap (λ (t : Bool). if t then length body else first) test ∙ measured

-- one body more
pub replaying_more : {D : Type 0} (g : Ghosts D) (fits : NamedItems →
    Type 0) (log : Log) (disk : D) (bodies : List (List ℕ)) (out : List ℕ) (start mid to : NamedItems) (first count : ℕ) →
    IsReading g log disk (bodies ++ out ∷ []) → Replays fits bodies start mid
    → HasApplied out mid to → 0 < length out → fits to → count ≡ length bodies → first ≡ first_length bodies →
    IsReplaying g fits log disk start to (first_after count first (length out)) (count + 1)
replaying_more g fits log disk bodies out start mid to first count reading replayed applied some fit counted measured = record {
  bodies = bodies ++ out ∷ [];
  reading = reading;
  replayed = subst (Replays fits (bodies ++ out ∷ []) start) (sym applied.replayed)
      (replays_push fits bodies out applied.items start mid replayed (record { are = applied.are; some = some })
      (subst fits applied.replayed fit));
  counted = omega (arith, counted, length-append bodies (out ∷ []));
  measured = first_push bodies out first count counted measured;
}
