-- What events come to that come already cut is what the machine adds.
use Rattle.std.proofs.Common.{◌≡◌, ℕ, ℤ, zero, suc, ◌≤◌, Bool, true, false, List, [], ◌∷◌, ◌++◌, map, refl, ap, ◌∙◌, length, arith}
use Rattle.std.specs.Prelude.{Some, None, not, ◌&&◌, unwrap_or}
use Rattle.std.specs.List.{All, AllByRecursion, list_all}
use Rattle.ix_base.specs.declared.events.ChannelMeta.{ChannelMeta}
use Rattle.ix_base.specs.declared.events.Event.{Event}
use Rattle.ix_base.specs.declared.events.Routed.{Routed}
use Rattle.ix_base.specs.declared.events.Routed.TheVariants.{To, Null}
use Rattle.ix_state.proofs.Brief.{configured_brief}
use Rattle.ix_state.specs.Configs.{IsChooser}
use Rattle.ix_state.specs.Taken.{IsDirect, IsStated}
use Rattle.ix_life.specs.declared.sets.LimitSet.{LimitSet}
use Rattle.ix_model.specs.Given.{Chooser, default_index}
use Rattle.ix_model.specs.Given as given
use Rattle.ix_model.specs.Judged.{first, is_configured_or_default}
use Rattle.ix_model.specs.State.{State}
use Rattle.ix_model.specs.Step.{state_after, direct_event, direct_by, direct_adds}
use Rattle.ix_model.specs.declared.answers.Refusal.TheVariants as refusals
use Rattle.ix_model.specs.declared.commands.Command.TheVariants.{Direct}
use Rattle.ix_model.specs.declared.commands.Direct.{Direct as DirectEvent}
use Rattle.ix_model.specs.declared.commands.TimedCommand.{TimedCommand}
use Rattle.ix_parse.specs.Limits.{IsSmall}
use Rattle.ix_props.specs.declared.props.PropsEntry.{PropsEntry}
use Rattle.ix_props.specs.declared.settings.Settings.{Settings}
use Rattle.ix_parse.proofs.SameLemmas.{same-changed}
use Rattle.ix_props.specs.Same.{AreSame}
use Rattle.ix_transforms.specs.Changes.{changed}
use Rattle.ix_state.specs.Held.{SeesChannels}
use Rattle.ix_state.specs.declared.state.StoreState.{StoreState}
use Rattle.ix_transforms.specs.Seds.{raw_limit}
use Rattle.ix_transforms.specs.Sizes.{KeepsSizes, HasSizes}
use Rattle.ix_channels.specs.Begun.{resolved}
use Rattle.ix_channels.specs.Put.{IsPut, ArePut}
use Rattle.ix_channels.specs.Working.{MayBeDone, IsWorked}
use Rattle.ix_channels.specs.declared.change.ChannelChange.TheVariants as change
use Rattle.ix_channels.specs.declared.channel_effect.ChannelEffect.{ChannelEffect}
use Rattle.ix_channels.proofs.Alike.{alike}
use Rattle.ix_channels.proofs.BegunLemmas.{briefs, resolved_is, chosen_same, source_type_of}

some_none : {X : Type 0} {x : X} → Some x ≡ None → ⊥
some_none e = cc

true_false : false ≡ true → ⊥
true_false e = cc

-- ---- one event

-- settings that mean the same make the same of it
same_direct : (a b : Settings) (meta : ChannelMeta) (moment : ℤ) (direct : DirectEvent) → AreSame a b →
    direct_by a meta moment direct ≡ direct_by b meta moment direct
same_direct a b meta moment direct same =
    same-changed a.seds b.seds a.transforms b.transforms (direct_event a meta moment direct) same.seds same.transforms
    ∙ ap (λ (s : Settings). changed b.seds b.transforms (direct_event s meta moment direct)) same.others

put_is : (choose : Chooser) (m : State) (held : StoreState) (moment : ℤ) (direct : DirectEvent) (routed : Routed) → IsChooser choose →
    SeesChannels m held →
    IsPut held.config.limits held.config.props moment direct routed → routed ≡ direct_adds choose m.force moment direct
put_is choose m held moment direct routed is sees p =
    let whole = given.resolved m.force direct.meta in
    let same = chosen_same choose m held direct.meta p.settings is sees p.chosen in
    p.routed_is
    ∙ ap (λ (w : ChannelMeta). direct_by p.settings w moment direct) (resolved_is m held direct.meta sees)
    ∙ same_direct p.settings (choose m.force whole) whole moment direct same

all_put : (choose : Chooser) (m : State) (held : StoreState) (moment : ℤ) (events : List DirectEvent) (outcomes : List Routed) →
    IsChooser choose → SeesChannels m held →
    ArePut held.config.limits held.config.props moment events outcomes → outcomes ≡ map (direct_adds choose m.force moment) events
all_put choose m held moment [] [] is sees p = refl
all_put choose m held moment [] (r ∷ rs) is sees p = absurd p
all_put choose m held moment (d ∷ ds) [] is sees p = absurd p
all_put choose m held moment (d ∷ ds) (r ∷ rs) is sees p =
    ap (λ (x : Routed). x ∷ rs) (put_is choose m held moment d r is sees p.0)
    ∙ ap (λ (xs : List Routed). direct_adds choose m.force moment d ∷ xs) (all_put choose m held moment ds rs is sees p.1)

-- ---- sizes

raw_is : raw_limit ≤ 8388608
raw_is = omega arith

small_by : (before : Event) (routed : Routed) → KeepsSizes before → HasSizes before routed → IsSmall routed
small_by before Null keeps has = tt
small_by before (To event) keeps has =
    let sizes = has.1 keeps in
    let raw = has.0 in
    omega (arith, raw, raw_is, sizes.index, sizes.host, sizes.source, sizes.sourcetype, sizes.meta)

put_small : (m : State) (held : StoreState) (moment : ℤ) (direct : DirectEvent) (routed : Routed) → SeesChannels m held →
    IsStated direct.meta →
    is_configured_or_default m direct.meta.index ≡ true → IsPut held.config.limits held.config.props moment direct routed → IsSmall routed
put_small m held moment direct routed sees stated conf p =
    let whole = resolved held.config.limits direct.meta in
    let index = configured_brief m.force (unwrap_or direct.meta.index (default_index m.force)) (briefs m held sees) conf in
    let same : length (unwrap_or direct.meta.index held.config.limits.default_database) ≡ length
    (unwrap_or direct.meta.index (default_index m.force)) =
    ap (λ (d : List ℕ). length (unwrap_or direct.meta.index d)) sees.set.limits.default_database in
    let sourcetype = source_type_of m held direct.meta p.settings sees stated p.chosen in
    let host = stated.host in
    let source = stated.source in
    small_by (direct_event p.settings whole moment direct) routed (record {
      index = omega (arith, index, same);
      host = omega (arith, host);
      source = omega (arith, source);
      sourcetype = omega (arith, sourcetype);
      meta = omega arith;
    }) p.sizes

both_are : (a b : Bool) → (a && b) ≡ true → (a ≡ true) × (b ≡ true)
both_are true b e = (refl, e)
both_are false b e = absurd (true_false e)

each_small : (m : State) (held : StoreState) (moment : ℤ) (events : List DirectEvent) (outcomes : List Routed) → SeesChannels m held →
    AllByRecursion IsDirect events →
    list_all (λ (d : DirectEvent). is_configured_or_default m d.meta.index) events ≡ true →
    ArePut held.config.limits held.config.props moment events outcomes →
    AllByRecursion IsSmall outcomes
each_small m held moment [] [] sees taken conf p = tt
each_small m held moment [] (r ∷ rs) sees taken conf p = absurd p
each_small m held moment (d ∷ ds) [] sees taken conf p = absurd p
each_small m held moment (d ∷ ds) (r ∷ rs) sees taken conf p =
    let both = both_are (is_configured_or_default m d.meta.index)
    (list_all (λ (x : DirectEvent). is_configured_or_default m x.meta.index) ds) conf in
    (put_small m held moment d r sees taken.0.1 both.0 p.0, each_small m held moment ds rs sees taken.1 both.1 p.1)

-- ---- the command

may_put : (b : Bool) → first ((not b, refusals.UnknownIndex) ∷ []) ≡ None → b ≡ true
may_put true e = refl
may_put false e = absurd (some_none e)

pub direct_small : (choose : Chooser) (history : List TimedCommand) (events : List DirectEvent) (moment : ℤ) (held : StoreState)
    (outcomes : List Routed) →
    MayBeDone choose history (Direct events) moment held → ArePut held.config.limits held.config.props moment events outcomes →
    AllByRecursion IsSmall outcomes
direct_small choose history events moment held outcomes may p =
    let m : State = state_after choose history in
    each_small m held moment events outcomes may.sees may.taken.0
    (may_put (list_all (λ (d : DirectEvent). is_configured_or_default m d.meta.index) events) may.no_cause) p

pub direct_works : (choose : Chooser) (history : List TimedCommand) (events : List DirectEvent) (moment : ℤ) (held : StoreState)
    (worked : ChannelEffect) →
    MayBeDone choose history (Direct events) moment held → ArePut held.config.limits held.config.props moment events worked.outcomes →
    worked.change ≡ change.Same → worked.items ≡ [] → IsWorked choose history (Direct events) moment held worked
direct_works choose history events moment held worked may p change_is items_are =
    alike choose history (Direct events) moment held worked (record { change = change.Same; outcomes = worked.outcomes; items = [] })
    change_is refl items_are (record {
      channels = may.sees.channels;
      room = tt;
      outcomes = all_put choose (state_after choose history) held moment events worked.outcomes may.chooser may.sees p;
      items = refl;
    })

-- one more
pub put_more : (set : LimitSet) (entries : List PropsEntry) (moment : ℤ) (events : List DirectEvent) (outcomes : List Routed)
    (direct : DirectEvent) (routed : Routed) →
    ArePut set entries moment events outcomes → IsPut set entries moment direct routed →
    ArePut set entries moment (events ++ direct ∷ []) (outcomes ++ routed ∷ [])
put_more set entries moment [] [] direct routed h p = (p, tt)
put_more set entries moment [] (r ∷ rs) direct routed h p = absurd h
put_more set entries moment (d ∷ ds) [] direct routed h p = absurd h
put_more set entries moment (d ∷ ds) (r ∷ rs) direct routed h p = (h.0, put_more set entries moment ds rs direct routed h.1 p)

pub all_at : {X : Type 0} (P : X → Type 0) (xs : List X) → AllByRecursion P xs → All P xs
all_at P [] h k d l = absurd (omega (arith, l))
all_at P (x ∷ xs) h zero d l = h.0
all_at P (x ∷ xs) h (suc k) d l = all_at P xs h.1 k d (omega (arith, l))
