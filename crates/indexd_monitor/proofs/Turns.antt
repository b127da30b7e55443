-- The commands of a visit come in turn: the channel is begun where it is not open, bytes are added
-- where it is, and it is ended where it is. So none is refused for that.
use Rattle.std.proofs.Common.{◌≡◌, ◌+◌, ◌&&◌, if◌then◌else◌, ℕ, ℤ, Bool, true, false, not, List, [], ◌∷◌, ◌++◌, map, refl, length, sym}
use Rattle.std.proofs.Common.{ap, ◌∙◌, subst}
use Rattle.std.specs.Prelude.{Option, Some, None, is_some, bytes_eq, nat_le}
use Rattle.std.specs.List.{AllByRecursion}
use Rattle.std.specs.Option.{option_map}
use Rattle.std.specs.Cmp.Lexicographic.{slice_cmp}
use Rattle.std.specs.Ordering.{nat_cmp}
use Rattle.std.specs.declared.cmp.Ordering.TheVariants.{Less}
use Rattle.ix_base.specs.declared.events.ChannelMeta.{ChannelMeta}
use Rattle.ix_base.specs.declared.events.Spot.{Spot}
use Rattle.ix_fs.specs.declared.trees.TreeFile.{TreeFile}
use Rattle.ix_monitor.specs.Steps.{plan}
use Rattle.ix_monitor.specs.declared.steps.Step.{Step}
use Rattle.ix_monitor.specs.declared.steps.Step.TheVariants.{Skip, From, Again}
use Rattle.ix_monitor.specs.declared.watched.Watched.{Watched}
use Rattle.ix_catalog.specs.Lists.{find, without, insert, stands_before, AreAscending}
use Rattle.ix_model.proofs.Ascending.{less_other, in_order_after}
use Rattle.ix_model.proofs.Following.{after_more}
use Rattle.ix_model.proofs.Named.{by_test, same_bytes, bytes_same, find_change, find_put}
use Rattle.ix_model.specs.Bounds.{IsRefused}
use Rattle.ix_model.specs.Given.{Chooser}
use Rattle.ix_model.specs.Judged.{judged, is_begun, is_configured_or_default, most_channels, needs_tick, adds}
use Rattle.ix_model.specs.State.{State, ChannelHistory, life_name, empty}
use Rattle.ix_model.specs.Step.{state_after, after_from, step, begun, effective, longer}
use Rattle.ix_model.specs.declared.answers.Refusal.{Refusal}
use Rattle.ix_model.specs.declared.answers.Refusal.TheVariants as refusals
use Rattle.ix_model.specs.declared.commands.Command.{Command}
use Rattle.ix_model.specs.declared.commands.Command.TheVariants.{Begin, Block, End, Tick, Roll, Thaw, Configure, Direct}
use Rattle.ix_model.specs.declared.commands.TimedCommand.{TimedCommand}
use Rattle.ix_store.specs.Making.{with_order}
use Rattle.ix_run.specs.Giving.{given_all}
use Rattle.ix_run.specs.Storing.{IsNextRefused}
use Rattle.ix_watch.specs.Passes.{Visit, with_all, IsVisited, AreVisited}
use Rattle.ix_watch.specs.Visits as visiting
use Rattle.ix_watch.specs.Visits.{Found, visit_by, visit_of}
use Rattle.ix_watch.specs.Watching.{channel_of, command_of}
use Rattle.ix_pass.proofs.Joining.{given_is}
use Rattle.ix_pass.specs.Giving.{order_at}
use Rattle.indexd_run.specs.Stops.{of_refusal}
use Rattle.indexd_run.specs.declared.stop.Stop.TheVariants as stops

-- ---- lists of channels

other_name : (a b : List ℕ) → slice_cmp nat_cmp a b ≡ Less → bytes_eq b a ≡ false
other_name a b less = by_test (bytes_eq b a) (λ t. absurd (both (bytes_eq a b) (bytes_same a b (sym (same_bytes b a t))) (less_other a b
    less))) (λ t. t) where
      both : (x : Bool) → x ≡ true → x ≡ false → ⊥
      both x p q = cc

none_of_name : (name : List ℕ) (xs : List ChannelHistory) →
    AllByRecursion (λ (y : ChannelHistory). slice_cmp nat_cmp name (life_name y) ≡ Less) xs → find life_name name xs ≡ None
none_of_name name [] all = refl
none_of_name name (y ∷ ys) all = rw (other_name name (life_name y) all.0) (none_of_name name ys all.1)

ended : (name : List ℕ) (xs : List ChannelHistory) → AreAscending life_name xs → find life_name name (without life_name name xs) ≡ None
ended name [] all = refl
ended name (x ∷ xs) all = by_test (bytes_eq (life_name x) name)
    (λ t. rw t (subst (λ (n : List ℕ). find life_name n xs ≡ None) (same_bytes (life_name x) name t) (none_of_name (life_name x) xs all.0)))
    (λ t. rw (t, t) (ended name xs all.1))

none_of : {X : Type 0} (o : Option X) → is_some o ≡ false → o ≡ None
none_of None is = refl
none_of (Some x) is = cc

mapped_some : {X : Type 0} (f : X → X) (o : Option X) → is_some (option_map f o) ≡ is_some o
mapped_some f None = refl
mapped_some f (Some x) = refl

-- ---- one command

abbrev begun_in : List ℕ → List ChannelHistory → Bool
begun_in name channels = is_some (find life_name name channels)

end_ends : (choose : Chooser) (m : State) (name : List ℕ) (moment : ℤ) → AreAscending life_name m.channels →
    begun_in name (step choose m (order_at (End name) moment)).channels ≡ false
end_ends choose m name moment all = ap is_some (ended name m.channels all)

begin_begins : (choose : Chooser) (m : State) (name : List ℕ) (origin : ChannelMeta) (moment : ℤ) →
    begun_in name (step choose m (order_at (Begin name origin) moment)).channels ≡ true
begin_begins choose m name origin moment = by (begun_in name m.channels) refl where
  by : (b : Bool) → begun_in name m.channels ≡ b →
      begun_in name (if b then m.channels else insert life_name (begun choose m.force name origin) m.channels) ≡ true
  by true is = is
  by false is = ap is_some (find_put life_name (stands_before life_name) name (begun choose m.force name origin) m.channels (none_of (find
      life_name name m.channels) is))
      ∙ ap (λ (b : Bool). is_some (if b then Some (begun choose m.force name origin) else find life_name name m.channels)) (bytes_same name
      name refl)

block_keeps : (choose : Chooser) (m : State) (name bytes : List ℕ) (spot : Option Spot) (moment : ℤ) →
    begun_in name (step choose m (order_at (Block name bytes spot) moment)).channels ≡ begun_in name m.channels
block_keeps choose m name bytes spot moment =
    ap is_some (find_change life_name name name (longer bytes (effective m.last moment)) (λ l. refl) m.channels)
    ∙ by_test (bytes_eq name name) (λ t. rw t (mapped_some (longer bytes (effective m.last moment)) (find life_name name m.channels))) (λ
    t. rw t refl)

-- ---- with the Tick that may come with it

behind : (choose : Chooser) (h : List TimedCommand) (o : TimedCommand) (P : List ChannelHistory → Type 0) → ((m : State) →
    m.channels ≡ (state_after choose h).channels → P (step choose m o).channels) → P (state_after choose (with_order choose h o)).channels
behind choose h o P so = subst (λ (s : State). P s.channels) (sym (after_more choose empty h (adds (state_after choose h) o))) (by
    (needs_tick (state_after choose h) o)) where
      by : (b : Bool) →
          P (after_from choose (state_after choose h)
          (if b then record { command = Tick; moment = o.moment } ∷ o ∷ [] else o ∷ [])).channels
      by true = so (step choose (state_after choose h) (record { command = Tick; moment = o.moment })) refl
      by false = so (state_after choose h) refl

-- ---- all in turn

abbrev IsInTurn : Option Refusal → Type 0
IsInTurn None = Unit {0}
IsInTurn (Some refusal) = of_refusal refusal ≡ stops.Inconsistent → ⊥

abbrev AreInTurn : Chooser → List TimedCommand → List TimedCommand → Type 0
AreInTurn choose h [] = Unit {0}
AreInTurn choose h (o ∷ os) = IsInTurn (judged (state_after choose h) o.command) × AreInTurn choose (with_order choose h o) os

needs_begun : (b : Bool) → b ≡ true → IsInTurn (if not b then Some refusals.NoChannel else None)
needs_begun true is = tt
needs_begun false is = cc

needs_ended : (a b c : Bool) → a ≡ false →
    IsInTurn (if a then Some refusals.ChannelOpen else if b then Some refusals.UnknownIndex else if c then Some refusals.TooManyChannels
    else None)
needs_ended true b c is = cc
needs_ended false true c is = λ e. cc
needs_ended false false true is = λ e. cc
needs_ended false false false is = tt

-- ---- commands of one channel, by whether it is open

abbrev TakesTurn : List ℕ → Bool → Command → Type 0
TakesTurn name is_open (Begin n meta) = (n ≡ name) × (is_open ≡ false)
TakesTurn name is_open (Block n bytes spot) = (n ≡ name) × (is_open ≡ true)
TakesTurn name is_open (End n) = (n ≡ name) × (is_open ≡ true)
TakesTurn name is_open Tick = ⊥
TakesTurn name is_open (Roll index) = ⊥
TakesTurn name is_open (Thaw index id) = ⊥
TakesTurn name is_open (Configure config) = ⊥
TakesTurn name is_open (Direct events) = ⊥

abbrev open_behind : Bool → Command → Bool
open_behind is_open (Begin n meta) = true
open_behind is_open (Block n bytes spot) = is_open
open_behind is_open (End n) = false
open_behind is_open Tick = is_open
open_behind is_open (Roll index) = is_open
open_behind is_open (Thaw index id) = is_open
open_behind is_open (Configure config) = is_open
open_behind is_open (Direct events) = is_open

abbrev AllTakeTurns : List ℕ → Bool → List Command → Type 0
AllTakeTurns name is_open [] = Unit {0}
AllTakeTurns name is_open (c ∷ cs) = TakesTurn name is_open c × AllTakeTurns name (open_behind is_open c) cs

front_turns : (name : List ℕ) (is_open : Bool) (a b : List Command) → AllTakeTurns name is_open (a ++ b) → AllTakeTurns name is_open a
front_turns name is_open [] b all = tt
front_turns name is_open (c ∷ a) b all = (all.0, front_turns name (open_behind is_open c) a b all.1)

-- those of a visit
end_turns : (file : Watched) (close : Bool) → AllTakeTurns (channel_of file.path) true (visiting.ends file close)
end_turns file true = ((refl, refl), tt)
end_turns file false = tt

skip_turns : (file : Watched) (is_open close : Bool) → AllTakeTurns (channel_of file.path) is_open (visiting.ends file (is_open && close))
skip_turns file true close = end_turns file close
skip_turns file false close = tt

add_turns : (file : Watched) (head : List ℕ) (place : ℕ) (blocks : List (List ℕ)) (close : Bool) →
    AllTakeTurns (channel_of file.path) true (visiting.adds file.path head place blocks ++ visiting.ends file close)
add_turns file head place [] close = end_turns file close
add_turns file head place (block ∷ blocks) close = ((refl, refl), add_turns file head (place + length block) blocks close)

visit_turns : (step : Step) (file : Watched) (found : Found) (is_open close : Bool) →
    AllTakeTurns (channel_of file.path) is_open (visit_by step file found is_open close)
visit_turns Skip file found is_open close = skip_turns file is_open close
visit_turns (From place) file found true close = add_turns file found.seen.head place found.blocks close
visit_turns (From place) file found false close = ((refl, refl), add_turns file found.seen.head place found.blocks close)
visit_turns Again file found true close = ((refl, refl), ((refl, refl), add_turns file found.seen.head 0 found.blocks close))
visit_turns Again file found false close = ((refl, refl), add_turns file found.seen.head 0 found.blocks close)

found_turns : (file : Watched) (kept : Option Spot) (found : Option Found) (is_open close : Bool) →
    AllTakeTurns (channel_of file.path) is_open (visit_of file kept found is_open close)
found_turns file kept None is_open close = tt
found_turns file kept (Some found) is_open close = visit_turns (plan found.seen kept) file found is_open close

-- ---- they are in turn

module _ (choose : Chooser) (name : List ℕ) where
  one_in_turn : (m : State) (c : Command) → TakesTurn name (is_begun m name) c → IsInTurn (judged m c)
  one_in_turn m (Begin n meta) is =
      needs_ended (is_begun m n) (not (is_configured_or_default m meta.index)) (nat_le most_channels (length m.channels)) (ap (is_begun m)
      is.0 ∙ is.1)
  one_in_turn m (Block n bytes spot) is = needs_begun (is_begun m n) (ap (is_begun m) is.0 ∙ is.1)
  one_in_turn m (End n) is = needs_begun (is_begun m n) (ap (is_begun m) is.0 ∙ is.1)
  one_in_turn m Tick is = absurd is
  one_in_turn m (Roll index) is = absurd is
  one_in_turn m (Thaw index id) is = absurd is
  one_in_turn m (Configure config) is = absurd is
  one_in_turn m (Direct events) is = absurd is

  open_then : (h : List TimedCommand) (c : Command) (moment : ℤ) → TakesTurn name (is_begun (state_after choose h) name) c →
      is_begun (state_after choose (with_order choose h (order_at c moment))) name ≡ open_behind (is_begun (state_after choose h) name) c
  open_then h (Begin n meta) moment is =
      behind choose h (order_at (Begin n meta) moment) (λ (channels : List ChannelHistory). begun_in name channels ≡ true)
      (λ m same. subst (λ (x : List ℕ). begun_in x (step choose m (order_at (Begin n meta) moment)).channels ≡ true) is.0 (begin_begins
      choose m n meta moment))
  open_then h (Block n bytes spot) moment is =
      behind choose h (order_at (Block n bytes spot) moment) (λ (channels : List ChannelHistory). begun_in name channels ≡ is_begun
      (state_after choose h) name)
      (λ m same. subst (λ (x : List ℕ). begun_in x (step choose m (order_at (Block n bytes spot) moment)).channels ≡ begun_in x m.channels)
      is.0 (block_keeps choose m n bytes spot moment) ∙ ap (begun_in name) same)
  open_then h (End n) moment is =
      behind choose h (order_at (End n) moment) (λ (channels : List ChannelHistory). begun_in name channels ≡ false)
      (λ m same. subst (λ (x : List ℕ). begun_in x (step choose m (order_at (End n) moment)).channels ≡ false) is.0
      (end_ends choose m n moment (subst (λ (channels : List ChannelHistory). AreAscending life_name channels) (sym same) (in_order_after
      choose h).channels)))
  open_then h Tick moment is = absurd is
  open_then h (Roll index) moment is = absurd is
  open_then h (Thaw index id) moment is = absurd is
  open_then h (Configure config) moment is = absurd is
  open_then h (Direct events) moment is = absurd is

  all_in_turn : (h orders : List TimedCommand) → AllTakeTurns name (is_begun (state_after choose h) name) (map command_of orders) →
      AreInTurn choose h orders
  all_in_turn h [] all = tt
  all_in_turn h (o ∷ orders) all = (
    one_in_turn (state_after choose h) o.command all.0,
    all_in_turn (with_order choose h o) orders (subst (λ (b : Bool). AllTakeTurns name b (map command_of orders)) (sym (open_then h
        o.command o.moment all.0)) all.1),
  )

both_in_turn : (choose : Chooser) (h a b : List TimedCommand) → AreInTurn choose h a → AreInTurn choose (given_all choose h a) b →
    AreInTurn choose h (a ++ b)
both_in_turn choose h [] b one two = two
both_in_turn choose h (o ∷ a) b one two = (one.0, both_in_turn choose (with_order choose h o) a b one.1 two)

visit_in_turn : (choose : Chooser) (files : Option (List TreeFile)) (close whole : Bool) (h : List TimedCommand) (v : Visit) (orders : List
    TimedCommand) → IsVisited choose files close whole h v orders → AreInTurn choose h orders
visit_in_turn choose files close whole h v orders is =
    all_in_turn choose (channel_of v.file.path) h orders
    (front_turns (channel_of v.file.path) (is_begun (state_after choose h) (channel_of v.file.path)) (map command_of orders) is.rest
    (subst (λ (l : List Command). AllTakeTurns (channel_of v.file.path) (is_begun (state_after choose h) (channel_of v.file.path)) l)
    is.commands
    (found_turns v.file _ v.found (is_begun (state_after choose h) (channel_of v.file.path)) close)))

-- The commands of a pass are in turn.
pub visits_in_turn : (choose : Chooser) (files : Option (List TreeFile)) (close whole : Bool) (h : List TimedCommand) (visits : List Visit)
    (orders : List TimedCommand) → AreVisited choose files close whole h visits orders → AreInTurn choose h orders
visits_in_turn choose files close whole h [] orders are = subst (λ (l : List TimedCommand). AreInTurn choose h l) (sym are) tt
visits_in_turn choose files close whole h (v ∷ []) orders are = visit_in_turn choose files close whole h v orders are
visits_in_turn choose files close whole h (v ∷ next ∷ visits) orders are =
    subst (λ (l : List TimedCommand). AreInTurn choose h l) (sym are.2)
    (both_in_turn choose h are.0 are.1 (visit_in_turn choose files close true h v are.0 are.3)
    (subst (λ (l : List TimedCommand). AreInTurn choose l are.1) (sym (given_is choose h are.0))
    (visits_in_turn choose files close whole (with_all choose h are.0) (next ∷ visits) are.1 are.4)))

rest_in_turn : (choose : Chooser) (h given rest : List TimedCommand) → AreInTurn choose h (given ++ rest) →
    AreInTurn choose (given_all choose h given) rest
rest_in_turn choose h [] rest all = all
rest_in_turn choose h (o ∷ given) rest all = rest_in_turn choose (with_order choose h o) given rest all.1

not_out : (choose : Chooser) (drawn : ℕ) (m : State) (o : TimedCommand) (refusal : Refusal) → IsInTurn (judged m o.command) →
    IsRefused choose false drawn m o refusal → of_refusal refusal ≡ stops.Inconsistent → ⊥
not_out choose drawn m o refusals.Closed so why is = (subst IsInTurn why so) is
not_out choose drawn m o refusals.NoChannel so why is = (subst IsInTurn why so) is
not_out choose drawn m o refusals.ChannelOpen so why is = (subst IsInTurn why so) is
not_out choose drawn m o refusals.UnknownIndex so why is = cc
not_out choose drawn m o refusals.NoBucket so why is = cc
not_out choose drawn m o refusals.NotArchived so why is = cc
not_out choose drawn m o refusals.AlreadyThawed so why is = cc
not_out choose drawn m o refusals.TooManyChannels so why is = cc
not_out choose drawn m o refusals.Full so why is = cc
not_out choose drawn m o refusals.NoMemory so why is = cc

-- so a store refuses none of them for what it has open
pub next_in_turn : (choose : Chooser) (files : Option (List TreeFile)) (close whole : Bool) (drawn : ℕ) (h : List TimedCommand)
    (visits : List Visit) (orders given rest : List TimedCommand) (refusal : Refusal) →
    AreVisited choose files close whole h visits orders →
    orders ≡ given ++ rest → IsNextRefused choose drawn (state_after choose (given_all choose h given)) refusal rest →
    of_refusal refusal ≡ stops.Inconsistent → ⊥
next_in_turn choose files close whole drawn h visits orders given rest refusal are parts why is =
    by rest (rest_in_turn choose h given rest (subst (λ (os : List TimedCommand). AreInTurn choose h os) parts
    (visits_in_turn choose files close whole h visits orders are))) why where
      by : (rest : List TimedCommand) → AreInTurn choose (given_all choose h given) rest →
          IsNextRefused choose drawn (state_after choose (given_all choose h given)) refusal rest → ⊥
      by [] all why = why
      by (o ∷ os) all why = not_out choose drawn (state_after choose (given_all choose h given)) o refusal all.0 why is
