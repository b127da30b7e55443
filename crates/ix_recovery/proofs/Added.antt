-- What a command adds is small, and came at moments in range.
use Rattle.std.proofs.Common.{◌≡◌, ℕ, ◌≤◌, ◌<◌, ◌^◌, zero, suc, ℤ, Bool, true, false, List, [], ◌∷◌, ◌++◌, map, drop, length, refl, arith}
use Rattle.std.specs.Prelude.{Option, Some, None, IfSome, unwrap_or}
use Rattle.std.specs.List.{AllByRecursion}
use Rattle.std.proofs.lemmas.List.Elements.{recursion_from_All}
use Rattle.ix_base.specs.Stream.{Dated, dated}
use Rattle.ix_base.specs.declared.events.ChannelMeta.{ChannelMeta}
use Rattle.ix_base.specs.declared.events.Event.{Event}
use Rattle.ix_base.specs.declared.events.Routed.{Routed}
use Rattle.ix_base.specs.declared.events.Routed.TheVariants.{To, Null}
use Rattle.ix_parse.specs.Form.{IsMoment}
use Rattle.ix_items.specs.declared.items.Kept.{Kept}
use Rattle.ix_state.specs.Configs.{IsChooser}
use Rattle.ix_state.specs.Taken.{IsDirect, IsTakenCommand}
use Rattle.ix_recovery.proofs.Members.{all_flat}
use Rattle.ix_model.specs.Given.{Chooser, resolved}
use Rattle.ix_model.specs.State.{State, ChannelHistory, life_name, life_in}
use Rattle.ix_model.specs.Step.{past, block_adds, end_adds, direct_event, direct_adds, outcomes}
use Rattle.ix_model.specs.declared.commands.Command.{Command}
use Rattle.ix_model.specs.declared.commands.Command.TheVariants.{Begin, Block, End, Tick, Roll, Thaw, Configure, Direct}
use Rattle.ix_model.specs.declared.commands.Direct.{Direct as DirectEvent}
use Rattle.ix_model.proofs.Named.{all_found}
use Rattle.ix_parse.specs.Carry.{HasMoments}
use Rattle.ix_parse.specs.Limits.{KeepsLimits, IsSmall, size_of, HasArrival, EventsAreSmall, ArrivalsAreMoments}
use Rattle.ix_parse.specs.Settled.{settled}
use Rattle.ix_props.specs.declared.settings.Settings.{Settings}
use Rattle.ix_transforms.specs.Sizes as sizes
use Rattle.ix_transforms.proofs.SizeLemmas.{changed-sizes, changed-moments}
use Rattle.ix_recovery.proofs.RangeLives.{more_moments, chosen_keep, IsLimited, IsReached}
use Rattle.ix_state.proofs.Loaded.{AreLoaded}

-- an outcome that is small and arrived in range
abbrev pub IsFit : Routed → Type 0
IsFit (To event) = (size_of event < 2 ^ 24) × IsMoment event.arrival
IsFit Null = Unit {0}

fit_by : (r : Routed) → IsSmall r → HasArrival r → IsFit r
fit_by (To event) small arrival = (small, arrival)
fit_by Null small arrival = tt

fit_all : (rs : List Routed) → AllByRecursion IsSmall rs → AllByRecursion HasArrival rs → AllByRecursion IsFit rs
fit_all [] s a = tt
fit_all (r ∷ rs) s a = (fit_by r s.0 a.0, fit_all rs s.1 a.1)

fit_behind : (n : ℕ) (rs : List Routed) → AllByRecursion IsFit rs → AllByRecursion IsFit (drop n rs)
fit_behind zero rs h = h
fit_behind (suc n) [] h = tt
fit_behind (suc n) (r ∷ rs) h = fit_behind n rs h.1

-- ---- events that come already cut

direct_fit_by : (before : Event) (r : Routed) → sizes.KeepsSizes before → IsMoment before.arrival → sizes.HasSizes before r →
    sizes.HasMoments before r → IsFit r
direct_fit_by before Null k m s a = tt
direct_fit_by before (To event) k m s a =
    let after : sizes.KeepsSizes event = s.1 k in
    let raw : length event.raw ≤ 8388608 = s.0 in (
      omega (arith, raw, after.index, after.host, after.source, after.sourcetype, after.meta),
      subst_arrival event.arrival before.arrival a.1 m,
    )
  where
    subst_arrival : (x y : ℤ) → x ≡ y → IsMoment y → IsMoment x
    subst_arrival x y e h = rw e h

index_short : (o : Option (List ℕ)) → IfSome o (λ (name : List ℕ). length name ≤ 1024) → length (unwrap_or o []) ≤ 4096
index_short None b = omega arith
index_short (Some name) b = omega (arith, b)

direct_keeps : (settings : Settings) (meta : ChannelMeta) (moment : ℤ) (direct : DirectEvent) → KeepsLimits settings meta →
    sizes.KeepsSizes (direct_event settings meta moment direct)
direct_keeps settings meta moment direct k = record {
  index = index_short meta.index k.index;
  host = omega (arith, k.host);
  source = k.source;
  sourcetype = omega (arith, k.sourcetype);
  meta = omega arith;
}

direct_fit : (choose : Chooser) (force : List Kept) (moment : ℤ) (direct : DirectEvent) →
    KeepsLimits (choose force (resolved force direct.meta)) (resolved force direct.meta) →
    IsMoment moment → IsFit (direct_adds choose force moment direct)
direct_fit choose force moment direct k i =
    let meta : ChannelMeta = resolved force direct.meta in
    let settings : Settings = choose force meta in
    let before : Event = direct_event settings meta moment direct in
    direct_fit_by before (direct_adds choose force moment direct) (direct_keeps settings meta moment direct k) i
    (changed-sizes settings.seds settings.transforms before) (changed-moments settings.seds settings.transforms before)

-- ---- a command

module _ (small : EventsAreSmall) (arrivals : ArrivalsAreMoments) where
  settled_fit : (s : Settings) (meta : ChannelMeta) (stream : List Dated) (closed : Bool) → KeepsLimits s meta → HasMoments stream →
      AllByRecursion IsFit (settled s meta stream closed)
  settled_fit s meta stream closed k m =
      fit_all (settled s meta stream closed)
      (recursion_from_All IsSmall (settled s meta stream closed) (small s meta stream closed k))
      (recursion_from_All HasArrival (settled s meta stream closed) (arrivals s meta stream closed m))

  past_fit : (life : ChannelHistory) (rs : List Routed) → AllByRecursion IsFit rs → AllByRecursion IsFit (past life rs)
  past_fit life rs h = fit_behind (length (settled life.settings life.meta life.stream false)) rs h

  end_fit : (life : ChannelHistory) → IsLimited life → AllByRecursion IsFit (end_adds (Some life))
  end_fit life h =
      past_fit life (settled life.settings life.meta life.stream true)
      (settled_fit life.settings life.meta life.stream true h.limits h.moments)

  end_adds_fit : (o : Option ChannelHistory) → ((life : ChannelHistory) → o ≡ Some life → IsLimited life) →
      AllByRecursion IsFit (end_adds o)
  end_adds_fit None h = tt
  end_adds_fit (Some life) h = end_fit life (h life refl)

  block_adds_fit : (bytes : List ℕ) (moment : ℤ) (o : Option ChannelHistory) → IsMoment moment →
      ((life : ChannelHistory) → o ≡ Some life → IsLimited life) →
      AllByRecursion IsFit (block_adds bytes moment o)
  block_adds_fit bytes moment None i h = tt
  block_adds_fit bytes moment (Some life) i h =
      let l = h life refl in
      let stream = life.stream ++ dated bytes moment in
      past_fit life (settled life.settings life.meta stream false)
      (settled_fit life.settings life.meta stream false l.limits (more_moments life.stream bytes moment l.moments i))

  ends_fit : (lives : List ChannelHistory) → AllByRecursion IsLimited lives →
      AllByRecursion (λ (life : ChannelHistory). AllByRecursion IsFit (end_adds (Some life))) lives
  ends_fit [] h = tt
  ends_fit (life ∷ lives) h = (end_fit life h.0, ends_fit lives h.1)

  directs_fit : (choose : Chooser) (force : List Kept) (moment : ℤ) (events : List DirectEvent) → IsChooser choose → AreLoaded force →
      IsMoment moment →
      AllByRecursion IsDirect events → AllByRecursion IsFit (map (direct_adds choose force moment) events)
  directs_fit choose force moment [] chooser l i h = tt
  directs_fit choose force moment (e ∷ events) chooser l i h = (
    direct_fit choose force moment e (chosen_keep choose force e.meta chooser l h.0.1) i,
    directs_fit choose force moment events chooser l i h.1,
  )

  pub adds_fit : (choose : Chooser) (m : State) (command : Command) (moment : ℤ) → IsChooser choose → IsReached m → IsMoment moment →
      IsTakenCommand command →
      AllByRecursion IsFit (outcomes choose m command moment)
  adds_fit choose m (Begin channel meta) moment chooser h i t = tt
  adds_fit choose m (Block channel bytes spot) moment chooser h i t =
      block_adds_fit bytes moment (life_in m channel) i (λ life e. all_found IsLimited life_name channel life m.channels h.lives e)
  adds_fit choose m (End channel) moment chooser h i t =
      end_adds_fit (life_in m channel) (λ life e. all_found IsLimited life_name channel life m.channels h.lives e)
  adds_fit choose m Tick moment chooser h i t = tt
  adds_fit choose m (Roll index) moment chooser h i t = tt
  adds_fit choose m (Thaw index id) moment chooser h i t = tt
  adds_fit choose m (Configure config) moment chooser h i t =
      all_flat IsFit (λ (life : ChannelHistory). end_adds (Some life)) m.channels (ends_fit m.channels h.lives)
  adds_fit choose m (Direct events) moment chooser h i t = directs_fit choose m.force moment events chooser h.loaded i t.0
