-- The items of open channels in memory are those of the state's channels.
use Rattle.std.proofs.Common.{◌≡◌, ℕ, List, [], ◌∷◌, map, refl, ap, ◌∙◌, subst}
use Rattle.std.specs.List.{AllByRecursion, AllZip}
use Rattle.ix_base.specs.Stream.{Dated}
use Rattle.ix_base.specs.declared.events.ChannelMeta.{ChannelMeta}
use Rattle.ix_parse.specs.Form.{IsCarryOf}
use Rattle.ix_parse.specs.Spelling.{spell}
use Rattle.ix_items.specs.declared.items.Item.{Item}
use Rattle.ix_items.specs.declared.items.Item.TheVariants as items
use Rattle.ix_model.specs.State.{ChannelHistory}
use Rattle.ix_parse.specs.Carry.{rules_of, carry_of, HasMoments}
use Rattle.ix_parse.specs.Standing.{StandsFor}
use Rattle.ix_parse.proofs.SameLemmas as same
use Rattle.ix_props.specs.declared.settings.Settings.{Settings}
use Rattle.ix_model.specs.Books.{life_item}
use Rattle.ix_state.specs.Held.{IsOpen}
use Rattle.ix_state.specs.declared.state.OpenChannel.{OpenChannel}
use Rattle.ix_recovery.specs.Putting.{CarriesLittle, IsSaid}
use Rattle.ix_recovery.proofs.Carried.{few_carried}

pub channel_said : (o : OpenChannel) (name : List ℕ) (meta : ChannelMeta) (carry : List ℕ) → name ≡ o.name → meta ≡ o.meta →
    ((settings : Settings) (stated : ChannelMeta) (stream : List Dated) → StandsFor settings stated stream o.channel →
    carry ≡ spell (carry_of settings stream)) →
    ((settings : Settings) (stated : ChannelMeta) (stream : List Dated) → StandsFor settings stated stream o.channel → HasMoments stream →
    IsCarryOf (rules_of settings) carry (carry_of settings stream)) → IsSaid o (items.Channel name meta carry)
channel_said o name meta carry name_is meta_is spelled carries = record {
  ranged = tt;
  said = λ life h.
      let n : name ≡ life.name = name_is ∙ h.name in
      let m : meta ≡ life.meta = meta_is ∙ h.meta in
      let c : carry ≡ spell (carry_of life.settings life.stream) =
      spelled h.settings life.meta life.stream h.stands ∙ ap spell (same.carry h.settings life.settings life.stream h.same).1 in
      (λ j. items.Channel (n j) (m j) (c j));
  few = λ life h. few_carried (rules_of h.settings) carry (carry_of h.settings life.stream)
      (carries h.settings life.meta life.stream h.stands h.moments);
}

pub lives_said : (lives : List ChannelHistory) (opens : List OpenChannel) (channels : List Item) → AllZip IsOpen lives opens →
    AllZip IsSaid opens channels → channels ≡ map life_item lives
lives_said [] [] [] h k = refl
lives_said [] [] (x ∷ xs) h k = absurd k
lives_said [] (o ∷ os) xs h k = absurd h
lives_said (l ∷ ls) [] xs h k = absurd h
lives_said (l ∷ ls) (o ∷ os) [] h k = absurd k
lives_said (l ∷ ls) (o ∷ os) (x ∷ xs) h k =
    let first : x ≡ life_item l = k.0.said l h.0 in
    let rest = lives_said ls os xs h.1 k.1 in
    (λ j. first j ∷ rest j)

pub lives_few : (lives : List ChannelHistory) (opens : List OpenChannel) (channels : List Item) → AllZip IsOpen lives opens →
    AllZip IsSaid opens channels →
    AllByRecursion (λ (l : ChannelHistory). CarriesLittle (life_item l)) lives
lives_few [] opens channels h k = tt
lives_few (l ∷ ls) [] channels h k = absurd h
lives_few (l ∷ ls) (o ∷ os) [] h k = absurd k
lives_few (l ∷ ls) (o ∷ os) (x ∷ xs) h k =
    let few : CarriesLittle x = k.0.few l h.0 in
    (subst CarriesLittle (k.0.said l h.0) few, lives_few ls os xs h.1 k.1)
