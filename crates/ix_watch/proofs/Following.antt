-- The commands of a visit go on with the file; and those that go on with a file go on with a longer
-- one.
use Rattle.std.proofs.Common.{◌≡◌, ◌≤◌, ◌+◌, ◌-◌, ℕ, Bool, true, false, List, [], ◌∷◌, ◌++◌, length, take, drop, map, refl, sym, ap, ◌∙◌}
use Rattle.std.proofs.Common.{subst, arith, append_assoc}
use Rattle.std.specs.Prelude.{Option, Some, None, ◌==◌, ◌&&◌, if◌then◌else◌, bytes_eq, nat_eq, nat_le}
use Rattle.std.specs.List.{starts_with}
use Rattle.std.proofs.lemmas.Bool.{le-leb}
use Rattle.std.proofs.lemmas.List.{length-take, take-append-drop, drop-append-le, drop-drop}
use Rattle.std.proofs.Math.Seq.{drop-append_seam, take-append-add}
use Rattle.std.proofs.lemmas.Slice.Eq.{starts_is}
use Rattle.std.proofs.lemmas.Bool.Decides.{Decides-eqb}
use Rattle.ix_base.specs.Told.{IsFrontOf}
use Rattle.ix_base.specs.declared.events.Spot.{Spot}
use Rattle.ix_monitor.specs.Steps.{plan, behind}
use Rattle.ix_monitor.specs.declared.steps.Step.{Step}
use Rattle.ix_monitor.specs.declared.steps.Step.TheVariants.{Skip, From, Again}
use Rattle.ix_model.specs.declared.commands.Command.{Command}
use Rattle.ix_model.specs.declared.commands.Command.TheVariants.{Begin, Block, End, Tick, Roll, Thaw, Configure, Direct}
use Rattle.ix_model.specs.declared.commands.TimedCommand.{TimedCommand}
use Rattle.ix_model.proofs.Named.{bytes_same}
use Rattle.ix_watch.specs.Watching.{channel_of, offset_in, GoesOn, FollowsBlock, Follows, with_spot, kept_behind, AllFollow, command_of}
use Rattle.ix_watch.specs.Watching.{IsWatched, IsKept}
use Rattle.ix_monitor.specs.declared.watched.Watched.{Watched}
use Rattle.ix_watch.specs.Visits.{joined, Found, begins, spot_at, adds, ends, visit_by, visit, seen_of, read_by, IsFound, IsFrontOfVisit}
use Rattle.ix_watch.proofs.Growing.{all_kept, grew, none_kept}

-- ---- commands one behind the other

pub front_of_all : (file path : List ℕ) (kept : Option Spot) (front rest : List Command) → AllFollow file path kept (front ++ rest) →
    AllFollow file path kept front
front_of_all file path kept [] rest on = tt
front_of_all file path kept (command ∷ front) rest on = (on.0, front_of_all file path (kept_behind path kept command) front rest on.1)

pub both_follow : (file path : List ℕ) (kept : Option Spot) (a b : List Command) → AllFollow file path kept a →
    AllFollow file path (all_kept path kept a) b → AllFollow file path kept (a ++ b)
both_follow file path kept [] b one two = two
both_follow file path kept (command ∷ a) b one two = (one.0, both_follow file path (kept_behind path kept command) a b one.1 two)

-- ---- the parts of a visit

begin_follows : (bytes : List ℕ) (kept : Option Spot) (file : Watched) (is_open : Bool) (rest : List Command) →
    AllFollow bytes file.path kept rest → AllFollow bytes file.path kept (begins file is_open ++ rest)
begin_follows bytes kept file true rest on = on
begin_follows bytes kept file false rest on = (tt, on)

end_follows : (bytes : List ℕ) (kept : Option Spot) (file : Watched) (close : Bool) → AllFollow bytes file.path kept (ends file close)
end_follows bytes kept file true = (tt, tt)
end_follows bytes kept file false = tt

own_channel : (path : List ℕ) → bytes_eq (channel_of path) (channel_of path) ≡ true
own_channel path = bytes_same (channel_of path) (channel_of path) refl

add_follows : (bytes head : List ℕ) (file : Watched) (close : Bool) → length head ≤ 256 → IsFrontOf head bytes →
    (blocks : List (List ℕ)) (kept : Option Spot) (place : ℕ) → place ≡ offset_in kept →
    IsFrontOf (joined blocks) (drop place bytes) → AllFollow bytes file.path kept (adds file.path head place blocks ++ ends file close)
add_follows bytes head file close short begun [] kept place at front = end_follows bytes kept file close
add_follows bytes head file close short begun (block ∷ blocks) kept place at front = (
  subst (λ (b : Bool). FollowsBlock b bytes file.path kept block (Some spot)) (sym (own_channel file.path)) one,
  subst (λ (k : Option Spot). AllFollow bytes file.path k (adds file.path head (place + length block) blocks ++ ends file close))
      (sym kept_is)
      (add_follows bytes head file close short begun blocks (Some spot) (place + length block) refl more),
)
  where
    spot : Spot
    spot = spot_at file.path head (place + length block)

    split : drop place bytes ≡ block ++ (joined blocks ++ front.rest)
    split = front.whole_is ∙ append_assoc block (joined blocks) front.rest

    one : GoesOn bytes file.path kept block (Some spot)
    one = record {
      head = head;
      spot_is = ap (λ (n : ℕ). Some (spot_at file.path head (n + length block))) at;
      short = short;
      begins = begun;
      next = record { rest = joined blocks ++ front.rest; whole_is = ap (λ (n : ℕ). drop n bytes) (sym at) ∙ split };
    }

    kept_is : with_spot file.path kept (Some spot) ≡ Some spot
    kept_is = ap (λ (b : Bool). if b then Some spot else kept) (bytes_same file.path file.path refl)

    more : IsFrontOf (joined blocks) (drop (place + length block) bytes)
    more = record {
      rest = front.rest;
      whole_is = sym (drop-drop (length block) place bytes) ∙ ap (drop (length block)) split
          ∙ drop-append_seam block (joined blocks ++ front.rest);
    }

-- ---- a file that goes on is not read again

starts : (head bytes : List ℕ) (n : ℕ) → length head ≤ n → IsFrontOf head bytes → starts_with nat_eq (take n bytes) head ≡ true
starts head bytes n short front =
    (starts_is Decides-eqb (take n bytes) head (starts_with nat_eq (take n bytes) head) refl).1 (take (n - length head) front.rest)
    (ap (take n) front.whole_is ∙ ap (λ (k : ℕ). take k (head ++ front.rest)) (whole n (length head) short)
    ∙ take-append-add head front.rest (n - length head))
  where
    whole : (n k : ℕ) → k ≤ n → n ≡ k + (n - k)
    whole n k e = omega (arith, e)

step_is : (bytes : List ℕ) (kept : Option Spot) → IsKept bytes kept → plan (seen_of bytes) kept ≡ behind (offset_in kept) (length bytes)
step_is bytes None lies = refl
step_is bytes (Some spot) lies =
    let begun : starts_with nat_eq (take 256 bytes) spot.head ≡ true = starts spot.head bytes 256 lies.head.0 lies.head.1 in
    let long : nat_le spot.offset (length bytes) ≡ true = le-leb spot.offset (length bytes) lies.within in
    rw (begun, long) refl

head_begins : (bytes : List ℕ) → IsFrontOf (take 256 bytes) bytes
head_begins bytes = record { rest = drop 256 bytes; whole_is = sym (take-append-drop 256 bytes) }

module _ (file : Watched) (bytes : List ℕ) (kept : Option Spot) (found : Found) (is_open close : Bool) (lies : IsKept bytes kept) where
  by_step : (step : Step) → step ≡ behind (offset_in kept) (length bytes) → found.seen.head ≡ take 256 bytes →
      IsFrontOf (joined found.blocks) (read_by step bytes) →
      AllFollow bytes file.path kept (visit_by step file found is_open close)
  by_step Skip at head read = end_follows bytes kept file (is_open && close)
  by_step (From place) at head read =
      let short : length found.seen.head ≤ 256 = rw head (omega (arith, length-take 256 bytes)) in
      let begun : IsFrontOf found.seen.head bytes = rw head (head_begins bytes) in
      begin_follows bytes kept file is_open (adds file.path found.seen.head place found.blocks ++ ends file close)
      (add_follows bytes found.seen.head file close short begun found.blocks kept place (place_is (offset_in kept == length bytes) at) read)
    where
      place_is : (b : Bool) → From place ≡ (if b then Skip else From (offset_in kept)) → place ≡ offset_in kept
      place_is true e = absurd (not_skip e)
        where
          not_skip : From place ≡ Skip → ⊥
          not_skip e = cc
      place_is false e = cc
  by_step Again at head read = absurd (not_again (offset_in kept == length bytes) at)
    where
      not_again : (b : Bool) → Again ≡ (if b then Skip else From (offset_in kept)) → ⊥
      not_again true e = cc
      not_again false e = cc

  whole_follows : IsFound bytes kept found → AllFollow bytes file.path kept (visit file kept found is_open close)
  whole_follows is =
      let step : plan found.seen kept ≡ behind (offset_in kept) (length bytes) = ap (λ seen. plan seen kept) is.seen
      ∙ step_is bytes kept lies in
      by_step (plan found.seen kept) step (ap (λ seen. seen.head) is.seen) is.read

pub visits_follow : (file : Watched) (bytes : List ℕ) (kept : Option Spot) (found : Found) (is_open close : Bool)
    (orders : List TimedCommand) →
    IsKept bytes kept → IsFound bytes kept found → IsFrontOfVisit file kept found is_open close orders →
    AllFollow bytes file.path kept (map command_of orders)
visits_follow file bytes kept found is_open close orders lies is front =
    front_of_all bytes file.path kept (map command_of orders) front.rest
    (subst (λ (commands : List Command). AllFollow bytes file.path kept commands) front.commands
    (whole_follows file bytes kept found is_open close lies is))

-- ---- a longer file

front_on : (a b c : List ℕ) → IsFrontOf a b → IsFrontOf b c → IsFrontOf a c
front_on a b c one two = record {
  rest = one.rest ++ two.rest;
  whole_is = two.whole_is ∙ ap (λ (l : List ℕ). l ++ two.rest) one.whole_is
      ∙ append_assoc a one.rest two.rest;
}

-- behind the same place a longer file has more
longer_behind : (a : ℕ) (file longer : List ℕ) → a ≤ length file → IsFrontOf file longer → IsFrontOf (drop a file) (drop a longer)
longer_behind a file longer within front = record {
  rest = front.rest;
  whole_is = ap (drop a) front.whole_is
      ∙ drop-append-le a file front.rest within;
}

module _ (file longer path : List ℕ) (front : IsFrontOf file longer) where
  block_longer : (kept : Option Spot) (bytes : List ℕ) (spot : Option Spot) (b : Bool) → IsKept file kept →
      FollowsBlock b file path kept bytes spot → FollowsBlock b longer path kept bytes spot
  block_longer kept bytes spot true lies on = record {
    head = on.head;
    spot_is = on.spot_is;
    short = on.short;
    begins = front_on on.head file longer on.begins front;
    next = front_on bytes (drop (offset_in kept) file) (drop (offset_in kept) longer) on.next
        (longer_behind (offset_in kept) file longer lies.within front);
  }
  block_longer kept bytes spot false lies on = on

  one_longer : (kept : Option Spot) (command : Command) → IsKept file kept → Follows file path kept command →
      Follows longer path kept command
  one_longer kept (Begin name meta) lies on = tt
  one_longer kept (Block name bytes spot) lies on = block_longer kept bytes spot (bytes_eq name (channel_of path)) lies on
  one_longer kept (End name) lies on = tt
  one_longer kept Tick lies on = tt
  one_longer kept (Roll index) lies on = tt
  one_longer kept (Thaw index id) lies on = tt
  one_longer kept (Configure config) lies on = tt
  one_longer kept (Direct events) lies on = tt

  all_longer : (kept : Option Spot) (commands : List Command) → IsKept file kept → AllFollow file path kept commands →
      AllFollow longer path kept commands
  all_longer kept [] lies on = tt
  all_longer kept (command ∷ commands) lies on = (
    one_longer kept command lies on.0,
    all_longer (kept_behind path kept command) commands (grew file path kept command lies on.0).lies
        on.1,
  )

pub longer_is_watched : (file longer path : List ℕ) (history : List TimedCommand) → IsFrontOf file longer → IsWatched file path history →
    IsWatched longer path history
longer_is_watched file longer path history front on = all_longer file longer path front None (map command_of history) (none_kept file) on
