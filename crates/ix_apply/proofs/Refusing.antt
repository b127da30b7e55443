-- A cause by which a command is refused is none of bounds.
use Rattle.std.proofs.Common.{◌≡◌, ◌<◌, ◌^◌, ℕ, Bool, true, false, List, [], ◌∷◌, refl, arith}
use Rattle.std.specs.Prelude.{Option, Some, None, ◌&&◌, not, is_some, nat_lt, nat_le, length, slice_get, if◌then◌else◌}
use Rattle.std.specs.List.{list_all}
use Rattle.std.proofs.lemmas.Bool.{ltb-true, ltb-false}
use Rattle.ix_model.specs.Bounds.{IsRefused, HasNumber, come_to, KeepsBounds}
use Rattle.ix_model.specs.Buckets.{Standing, live, frozen, Slot}
use Rattle.ix_model.specs.Given.{Chooser}
use Rattle.ix_model.specs.Judged.{first, is_begun, is_known, is_configured_or_default, by_thawed, by_standing, by_slot, most_channels}
use Rattle.ix_model.specs.Judged.{judged, draws}
use Rattle.ix_model.specs.State.{State, slots_in}
use Rattle.ix_model.specs.Step.{state_after}
use Rattle.ix_model.specs.declared.answers.Refusal.{Refusal}
use Rattle.ix_model.specs.declared.answers.Refusal.TheVariants as refusals
use Rattle.ix_model.specs.declared.commands.Command.{Command}
use Rattle.ix_model.specs.declared.commands.Command.TheVariants.{Begin, Block, End, Tick, Roll, Thaw, Configure, Direct}
use Rattle.ix_model.specs.declared.commands.Direct.{Direct as DirectEvent}
use Rattle.ix_model.specs.declared.commands.TimedCommand.{TimedCommand}
use Rattle.ix_state.specs.declared.state.StoreState.{StoreState}
use Rattle.ix_apply.specs.Faults.{refusal_of}
use Rattle.ix_apply.specs.declared.effect.StepFault.{StepFault}
use Rattle.ix_apply.specs.declared.effect.StepFault.TheVariants as faults
use Rattle.ix_apply.specs.Made.{MayFollow, IsOver}

-- no cause of a state is `Full`
three : (a b c : Bool) → first ((a, refusals.ChannelOpen) ∷ (b, refusals.UnknownIndex) ∷ (c, refusals.TooManyChannels)
    ∷ []) ≡ Some refusals.Full → ⊥
three true b c h = cc
three false true c h = cc
three false false true h = cc
three false false false h = cc

no_channel : (a : Bool) → first ((a, refusals.NoChannel) ∷ []) ≡ Some refusals.Full → ⊥
no_channel true h = cc
no_channel false h = cc

unknown : (a : Bool) → first ((a, refusals.UnknownIndex) ∷ []) ≡ Some refusals.Full → ⊥
unknown true h = cc
unknown false h = cc

archived : (o : Option ℕ) (b : Bool) → by_thawed o b ≡ Some refusals.Full → ⊥
archived None b h = cc
archived (Some n) true h = cc
archived (Some n) false h = cc

standing : (s : Standing) → by_standing s ≡ Some refusals.Full → ⊥
standing (live b) h = cc
standing (frozen e thawed) h = archived e.archive (is_some thawed) h

slot : (o : Option Slot) → by_slot o ≡ Some refusals.Full → ⊥
slot None h = cc
slot (Some s) h = standing s.standing h

known : (b : Bool) (o : Option Slot) → (if b then by_slot o else Some refusals.UnknownIndex) ≡ Some refusals.Full → ⊥
known true o h = slot o h
known false o h = cc

never_full : (m : State) (command : Command) → judged m command ≡ Some refusals.Full → ⊥
never_full m (Begin channel meta) h = three (is_begun m channel) (not (is_configured_or_default m meta.index))
    (nat_le most_channels (length m.channels)) h
never_full m (Block channel bytes spot) h = no_channel (not (is_begun m channel)) h
never_full m (End channel) h = no_channel (not (is_begun m channel)) h
never_full m Tick h = cc
never_full m (Roll index) h = unknown (not (is_known m index)) h
never_full m (Thaw index id) h = known (is_known m index) (slice_get (slots_in m.catalog.indexes index) id) h
never_full m (Configure config) h = cc
never_full m (Direct events) h = unknown (not (list_all (λ (d : DirectEvent). is_configured_or_default m d.meta.index) events)) h

pub refused_is : (choose : Chooser) (drawn : ℕ) (m : State) (order : TimedCommand) (r : Refusal) → judged m order.command ≡ Some r →
    IsRefused choose false drawn m order r
refused_is choose drawn m order refusals.Full h = absurd (never_full m order.command h)
refused_is choose drawn m order refusals.NoMemory h = tt
refused_is choose drawn m order refusals.Closed h = h
refused_is choose drawn m order refusals.NoChannel h = h
refused_is choose drawn m order refusals.ChannelOpen h = h
refused_is choose drawn m order refusals.UnknownIndex h = h
refused_is choose drawn m order refusals.NoBucket h = h
refused_is choose drawn m order refusals.NotArchived h = h
refused_is choose drawn m order refusals.AlreadyThawed h = h
refused_is choose drawn m order refusals.TooManyChannels h = h

-- ---- numbers of a run

spent : (b c : Bool) → (b && not c) ≡ true → (b ≡ true) × (c ≡ false)
spent true true h = absurd cc
spent true false h = (refl, refl)
spent false c h = absurd cc

left : (b c : Bool) → (b && not c) ≡ false → b ≡ true → c ≡ true
left true true h e = refl
left true false h e = absurd cc
left false c h e = absurd cc

pub no_number : (drawn : ℕ) (order : TimedCommand) → (draws order.command && not (nat_lt drawn (2 ^ 63))) ≡ true → HasNumber drawn order → ⊥
no_number drawn order h n =
    let s = spent (draws order.command) (nat_lt drawn (2 ^ 63)) h in
    let a : drawn < 2 ^ 63 = n s.0 in
    let b = ltb-false drawn (2 ^ 63) s.1 in
    omega (arith, a, b)

pub has_number : (drawn : ℕ) (order : TimedCommand) → (draws order.command && not (nat_lt drawn (2 ^ 63))) ≡ false → HasNumber drawn order
has_number drawn order h d = ltb-true drawn (2 ^ 63) (left (draws order.command) (nat_lt drawn (2 ^ 63)) h d)

pub full_is : (choose : Chooser) (drawn : ℕ) (m : State) (order : TimedCommand) → judged m order.command ≡ None →
    ((KeepsBounds (come_to choose m order) × HasNumber drawn order) → ⊥) →
    IsRefused choose false drawn m order refusals.Full
full_is choose drawn m order none over = record { no_cause = none; over = over }

-- ---- faults

pub fault_is : (choose : Chooser) (history : List TimedCommand) (order : TimedCommand) (held : StoreState) (drawn : ℕ) (fault : StepFault) →
    MayFollow choose history order held →
    (fault ≡ faults.Full → IsOver order held) → IsRefused choose false drawn (state_after choose history) order (refusal_of fault)
fault_is choose history order held drawn faults.Full f over =
    full_is choose drawn (state_after choose history) order f.no_cause (λ both. over refl choose history f both.0)
fault_is choose history order held drawn faults.NoMemory f over = tt
