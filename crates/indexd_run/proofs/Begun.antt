-- The commands that store an input come in turn: the channel is ended where it is open, it is begun
-- where it is not, and bytes are added where it is. So none is refused for that.
use Rattle.std.proofs.Common.{◌≡◌, if◌then◌else◌, ℕ, ℤ, Bool, true, false, not, List, [], ◌∷◌, ◌++◌, map, refl, length, sym, ap, ◌∙◌, subst}
use Rattle.std.specs.Prelude.{Option, Some, None, is_some, bytes_eq, nat_le}
use Rattle.std.specs.List.{AllByRecursion}
use Rattle.std.specs.Option.{option_map}
use Rattle.std.specs.Cmp.Lexicographic.{slice_cmp}
use Rattle.std.specs.Ordering.{nat_cmp}
use Rattle.std.specs.declared.cmp.Ordering.TheVariants.{Less}
use Rattle.ix_base.specs.declared.events.ChannelMeta.{ChannelMeta}
use Rattle.ix_model.proofs.Ascending.{less_other, in_order_after}
use Rattle.ix_model.proofs.Following.{after_more}
use Rattle.ix_model.proofs.Named.{by_test, same_bytes, bytes_same, find_change, find_put}
use Rattle.ix_model.specs.Bounds.{IsRefused}
use Rattle.ix_model.specs.Given.{Chooser}
use Rattle.ix_model.specs.Judged.{judged, is_begun, is_configured_or_default, most_channels, needs_tick, adds}
use Rattle.ix_model.specs.State.{State, ChannelHistory, life_name, empty}
use Rattle.ix_model.specs.Step.{state_after, after_from, step, begun, effective, longer}
use Rattle.ix_model.specs.declared.answers.Refusal.{Refusal}
use Rattle.ix_model.specs.declared.answers.Refusal.TheVariants as refusals
use Rattle.ix_model.specs.declared.commands.Command.TheVariants.{Tick}
use Rattle.ix_model.specs.declared.commands.TimedCommand.{TimedCommand}
use Rattle.ix_run.specs.Giving.{given_all}
use Rattle.ix_run.specs.Storing.{tilde, begin_order, block_order, end_order, storing, IsNextRefused}
use Rattle.ix_catalog.specs.Lists.{find, without, insert, stands_before, AreAscending}
use Rattle.ix_store.specs.Making.{with_order}
use Rattle.indexd_run.specs.Stops.{of_refusal}
use Rattle.indexd_run.specs.declared.stop.Stop.TheVariants as stops

-- ---- lists of channels

other_name : (a b : List ℕ) → slice_cmp nat_cmp a b ≡ Less → bytes_eq b a ≡ false
other_name a b less = by_test (bytes_eq b a) (λ t. absurd
    (both (bytes_eq a b) (bytes_same a b (sym (same_bytes b a t))) (less_other a b less))) (λ t. t) where
      both : (x : Bool) → x ≡ true → x ≡ false → ⊥
      both x p q = cc

none_of_name : (name : List ℕ) (xs : List ChannelHistory) →
    AllByRecursion (λ (y : ChannelHistory). slice_cmp nat_cmp name (life_name y) ≡ Less) xs → find life_name name xs ≡ None
none_of_name name [] all = refl
none_of_name name (y ∷ ys) all = rw (other_name name (life_name y) all.0) (none_of_name name ys all.1)

ended : (name : List ℕ) (xs : List ChannelHistory) → AreAscending life_name xs → find life_name name (without life_name name xs) ≡ None
ended name [] all = refl
ended name (x ∷ xs) all = by_test (bytes_eq (life_name x) name)
    (λ t. rw t (subst (λ (n : List ℕ). find life_name n xs ≡ None) (same_bytes (life_name x) name t) (none_of_name (life_name x) xs all.0)))
    (λ t. rw (t, t) (ended name xs all.1))

none_of : {X : Type 0} (o : Option X) → is_some o ≡ false → o ≡ None
none_of None is = refl
none_of (Some x) is = cc

mapped_some : {X : Type 0} (f : X → X) (o : Option X) → is_some (option_map f o) ≡ is_some o
mapped_some f None = refl
mapped_some f (Some x) = refl

-- ---- one command

abbrev begun_in : List ChannelHistory → Bool
begun_in channels = is_some (find life_name tilde channels)

end_ends : (choose : Chooser) (m : State) (moment : ℤ) → AreAscending life_name m.channels →
    begun_in (step choose m (end_order moment)).channels ≡ false
end_ends choose m moment all = ap is_some (ended tilde m.channels all)

begin_begins : (choose : Chooser) (m : State) (origin : ChannelMeta) (moment : ℤ) →
    begun_in (step choose m (begin_order origin moment)).channels ≡ true
begin_begins choose m origin moment = by (begun_in m.channels) refl where
  by : (b : Bool) → begun_in m.channels ≡ b → begun_in (if b then m.channels else insert life_name (begun choose m.force tilde origin)
      m.channels) ≡ true
  by true is = is
  by false is = ap is_some (find_put life_name (stands_before life_name) tilde (begun choose m.force tilde origin) m.channels
      (none_of (find life_name tilde m.channels) is))

block_keeps : (choose : Chooser) (m : State) (bytes : List ℕ) (moment : ℤ) →
    begun_in (step choose m (block_order moment bytes)).channels ≡ begun_in m.channels
block_keeps choose m bytes moment =
    ap is_some (find_change life_name tilde tilde (longer bytes (effective m.last moment)) (λ l. refl) m.channels)
    ∙ mapped_some (longer bytes (effective m.last moment)) (find life_name tilde m.channels)

-- ---- with the Tick that may come with it

behind : (choose : Chooser) (h : List TimedCommand) (o : TimedCommand) (P : List ChannelHistory → Type 0) →
    ((m : State) → m.channels ≡ (state_after choose h).channels → P (step choose m o).channels) →
    P (state_after choose (with_order choose h o)).channels
behind choose h o P so = subst (λ (s : State). P s.channels) (sym (after_more choose empty h (adds (state_after choose h) o)))
    (by (needs_tick (state_after choose h) o)) where
      by : (b : Bool) → P (after_from choose (state_after choose h) (if b then record { command = Tick; moment = o.moment } ∷ o ∷ [] else o
          ∷ [])).channels
      by true = so (step choose (state_after choose h) (record { command = Tick; moment = o.moment })) refl
      by false = so (state_after choose h) refl

-- ---- all in turn

abbrev IsInTurn : Option Refusal → Type 0
IsInTurn None = Unit {0}
IsInTurn (Some refusal) = of_refusal refusal ≡ stops.Inconsistent → ⊥

abbrev AreInTurn : Chooser → List TimedCommand → List TimedCommand → Type 0
AreInTurn choose h [] = Unit {0}
AreInTurn choose h (o ∷ os) = IsInTurn (judged (state_after choose h) o.command) × AreInTurn choose (with_order choose h o) os

needs_begun : (b : Bool) → b ≡ true → IsInTurn (if not b then Some refusals.NoChannel else None)
needs_begun true is = tt
needs_begun false is = cc

needs_ended : (a b c : Bool) → a ≡ false → IsInTurn (if a then Some refusals.ChannelOpen else if b then Some refusals.UnknownIndex else if c
    then Some refusals.TooManyChannels else None)
needs_ended true b c is = cc
needs_ended false true c is = λ e. cc
needs_ended false false true is = λ e. cc
needs_ended false false false is = tt

module _ (choose : Chooser) (moment : ℤ) where
  blocks : (h : List TimedCommand) (pieces : List (List ℕ)) → is_begun (state_after choose h) tilde ≡ true →
      AreInTurn choose h (map (block_order moment) pieces ++ end_order moment ∷ [])
  blocks h [] is = (needs_begun (is_begun (state_after choose h) tilde) is, tt)
  blocks h (bytes ∷ pieces) is = (
    needs_begun (is_begun (state_after choose h) tilde) is,
    blocks (with_order choose h (block_order moment bytes)) pieces
        (behind choose h (block_order moment bytes) (λ (channels : List ChannelHistory). begun_in channels ≡ true)
        (λ m same. block_keeps choose m bytes moment ∙ ap begun_in same ∙ is)),
  )

  opened : (h : List TimedCommand) (origin : ChannelMeta) (pieces : List (List ℕ)) → is_begun (state_after choose h) tilde ≡ false →
      AreInTurn choose h (begin_order origin moment ∷ (map (block_order moment) pieces ++ end_order moment ∷ []))
  opened h origin pieces is = (
    needs_ended (is_begun (state_after choose h) tilde) (not (is_configured_or_default (state_after choose h) origin.index))
        (nat_le most_channels (length (state_after choose h).channels)) is,
    blocks (with_order choose h (begin_order origin moment)) pieces
        (behind choose h (begin_order origin moment) (λ (channels : List ChannelHistory). begun_in channels ≡ true)
        (λ m same. begin_begins choose m origin moment)),
  )

  pub stored_in_turn : (h : List TimedCommand) (origin : ChannelMeta) (pieces : List (List ℕ)) (is_open : Bool) →
      is_begun (state_after choose h) tilde ≡ is_open → AreInTurn choose h (storing is_open origin moment pieces)
  stored_in_turn h origin pieces true is = (
    needs_begun (is_begun (state_after choose h) tilde) is,
    opened (with_order choose h (end_order moment)) origin pieces
        (behind choose h (end_order moment) (λ (channels : List ChannelHistory). begun_in channels ≡ false)
        (λ m same. end_ends choose m moment (subst (λ (channels : List ChannelHistory). AreAscending life_name channels) (sym same)
        (in_order_after choose h).channels))),
  )
  stored_in_turn h origin pieces false is = opened h origin pieces is

rest_in_turn : (choose : Chooser) (h given rest : List TimedCommand) → AreInTurn choose h (given ++ rest) →
    AreInTurn choose (given_all choose h given) rest
rest_in_turn choose h [] rest all = all
rest_in_turn choose h (o ∷ given) rest all = rest_in_turn choose (with_order choose h o) given rest all.1

not_out : (choose : Chooser) (drawn : ℕ) (m : State) (o : TimedCommand) (refusal : Refusal) → IsInTurn (judged m o.command) →
    IsRefused choose false drawn m o refusal → of_refusal refusal ≡ stops.Inconsistent → ⊥
not_out choose drawn m o refusals.Closed so why is = (subst IsInTurn why so) is
not_out choose drawn m o refusals.NoChannel so why is = (subst IsInTurn why so) is
not_out choose drawn m o refusals.ChannelOpen so why is = (subst IsInTurn why so) is
not_out choose drawn m o refusals.UnknownIndex so why is = cc
not_out choose drawn m o refusals.NoBucket so why is = cc
not_out choose drawn m o refusals.NotArchived so why is = cc
not_out choose drawn m o refusals.AlreadyThawed so why is = cc
not_out choose drawn m o refusals.TooManyChannels so why is = cc
not_out choose drawn m o refusals.Full so why is = cc
not_out choose drawn m o refusals.NoMemory so why is = cc

pub next_in_turn : (choose : Chooser) (drawn : ℕ) (h given rest : List TimedCommand) (origin : ChannelMeta) (moment : ℤ)
    (pieces : List (List ℕ)) (refusal : Refusal) →
    storing (is_begun (state_after choose h) tilde) origin moment pieces ≡ given ++ rest →
    IsNextRefused choose drawn (state_after choose (given_all choose h given)) refusal rest → of_refusal refusal ≡ stops.Inconsistent →
    ⊥
next_in_turn choose drawn h given rest origin moment pieces refusal parts why is =
    by rest (rest_in_turn choose h given rest (subst (λ (os : List TimedCommand). AreInTurn choose h os) parts
    (stored_in_turn choose moment h origin pieces (is_begun (state_after choose h) tilde) refl))) why where
      by : (rest : List TimedCommand) → AreInTurn choose (given_all choose h given) rest →
          IsNextRefused choose drawn (state_after choose (given_all choose h given)) refusal rest → ⊥
      by [] all why = why
      by (o ∷ os) all why = not_out choose drawn (state_after choose (given_all choose h given)) o refusal all.0 why is
