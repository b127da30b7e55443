-- What would stand, in parts: those of the state behind the command, and in sum.
use Rattle.std.proofs.Common.{◌≡◌, ℕ, zero, suc, ◌+◌, ◌-◌, ◌<◌, List, [], ◌∷◌, ◌++◌, length, map, take, drop, refl, sym, ap, ap₂, ◌∙◌}
use Rattle.std.proofs.Common.{arith, length-drop}
use Rattle.std.specs.List.{AllZip, insert, remove}
use Rattle.std.proofs.lemmas.List.{map-append, take_all}
use Rattle.ix_base.specs.declared.events.ChannelMeta.{ChannelMeta}
use Rattle.ix_base.specs.declared.events.Spot.{Spot}
use Rattle.ix_bounds.specs.Parts.{IsPartsOf, channel_of}
use Rattle.ix_channels.specs.Changes.{with_channel}
use Rattle.ix_model.specs.Given.{Chooser}
use Rattle.ix_model.specs.State.{ChannelHistory}
use Rattle.ix_model.specs.Step.{state_after}
use Rattle.ix_model.specs.declared.commands.TimedCommand.{TimedCommand}
use Rattle.ix_parse.specs.Standing.{Kept}
use Rattle.ix_catalog.specs.Lists.{update}
use Rattle.ix_state.specs.Held.{IsOpen}
use Rattle.ix_state.specs.declared.state.StoreState.{StoreState}
use Rattle.ix_state.specs.declared.state.OpenChannel.{OpenChannel}
use Rattle.ix_apply.specs.Seen.{named, parts_of}
use Rattle.ix_apply.specs.Steps.{IsStep}
use Rattle.ix_apply.specs.declared.effect.Effect.{Effect}

-- ---- the parts of a state

named_alike : (lives : List ChannelHistory) (opens : List OpenChannel) → AllZip IsOpen lives opens → map named opens ≡ map channel_of lives
named_alike [] [] h = refl
named_alike [] (o ∷ os) h = absurd h
named_alike (l ∷ ls) [] h = absurd h
named_alike (l ∷ ls) (o ∷ os) h =
    ap₂ (λ (x : List ℕ × ChannelMeta) (xs : List (List ℕ × ChannelMeta)). x ∷ xs)
    (ap₂ (λ (n : List ℕ) (m : ChannelMeta). (n, m)) h.0.name h.0.meta) (named_alike ls os h.1)

pub parts_seen : (choose : Chooser) (history : List TimedCommand) (order : TimedCommand) (held : StoreState) (step : Effect) →
    IsStep choose history order held step →
    IsPartsOf (state_after choose (history ++ order ∷ [])) (parts_of held step.next)
parts_seen choose history order held step h = record {
  kept_are = h.config.kept;
  channels_are = named_alike _ _ h.channels;
  spots_are = h.spots_are;
  shelves_are = h.rest.shelves_are;
  ledger_is = h.rest.ledger_is;
}

-- ---- places

-- what lies from a place on
pub rest : {X : Type 0} (xs : List X) (k : ℕ) → take (length xs - k) (drop k xs) ≡ drop k xs
rest xs k = take_all (length xs - k) (drop k xs) (omega (arith, length-drop k xs))

pub named_same : (at : ℕ) (channel : Kept) (opens : List OpenChannel) → map named (update at (with_channel channel) opens) ≡ map named opens
named_same at channel [] = refl
named_same zero channel (o ∷ os) = refl
named_same (suc k) channel (o ∷ os) = ap (λ (l : List (List ℕ × ChannelMeta)). named o ∷ l) (named_same k channel os)

pub named_insert : (opens : List OpenChannel) (at : ℕ) (o : OpenChannel) → map named (take at opens)
    ++ (named o ∷ [] ++ map named (drop at opens)) ≡ map named (insert opens at o)
named_insert opens at o = sym (map-append named (take at opens) (o ∷ drop at opens))

pub named_remove : (opens : List OpenChannel) (at : ℕ) → map named (take at opens)
    ++ map named (drop (at + 1) opens) ≡ map named (remove opens at)
named_remove opens at =
    ap (λ (k : ℕ). map named (take at opens) ++ map named (drop k opens)) next
    ∙ sym (map-append named (take at opens) (drop (suc at) opens))
  where
    next : at + 1 ≡ suc at
    next = omega arith

pub update_apart : (f : Spot → Spot) (at : ℕ) (x : Spot) (xs : List Spot) → at < length xs → ((y : Spot) → f y ≡ x) →
    take at xs ++ (x ∷ [] ++ drop (at + 1) xs) ≡ update at f xs
update_apart f at x [] l e = absurd (omega (arith, l))
update_apart f zero x (y ∷ xs) l e = ap (λ (z : Spot). z ∷ xs) (sym (e y))
update_apart f (suc k) x (y ∷ xs) l e =
    let next : suc k + 1 ≡ suc (k + 1) = omega arith in
    let less : k < length xs = omega (arith, l) in
    ap (λ (n : ℕ). take (suc k) (y ∷ xs) ++ (x ∷ [] ++ drop n (y ∷ xs))) next
    ∙ ap (λ (r : List Spot). y ∷ r) (update_apart f k x xs less e)
