-- A Tick and the command behind it, or the command alone, lead to the state behind both.
use Rattle.std.proofs.Common.{◌≡◌, ◌≤◌, ℤ, Bool, true, false, List, [], ◌∷◌, ◌++◌, refl, sym, ap, ◌∙◌, subst, append_assoc, arith}
use Rattle.std.specs.Prelude.{◌&&◌, Option, Some, None}
use Rattle.std.specs.List.{AllZip}
use Rattle.std.proofs.lemmas.List.Elements.{Contains-append_left, Contains-append_right}
use Rattle.std.specs.List.Sorted.{IsPermutation, IsSortedBy}
use Rattle.ix_base.specs.declared.files.File.{File}
use Rattle.ix_bounds.specs.Parts.{Parts, IsPartsOf}
use Rattle.ix_bounds.specs.Within.{AreWithin}
use Rattle.ix_bounds.proofs.Seen.{bounds_are_seen}
use Rattle.ix_items.specs.declared.items.Entry.{Entry}
use Rattle.ix_items.specs.declared.items.Kept.{Kept}
use Rattle.ix_commit.specs.Contents.{Contents}
use Rattle.ix_commit.specs.declared.write_batch.WriteBatch.{WriteBatch}
use Rattle.ix_state.specs.Taken.{IsTaken, AreGiven}
use Rattle.ix_model.specs.Bounds.{KeepsBounds, come_to}
use Rattle.ix_model.specs.Given.{Chooser}
use Rattle.ix_model.specs.Judged as machine
use Rattle.ix_model.specs.Judged.{waits_for_tick, needs_tick, adds}
use Rattle.ix_model.specs.Ranked.{ranks_before}
use Rattle.ix_model.specs.State.{State, ChannelHistory, empty}
use Rattle.ix_model.specs.Step.{state_after, effective}
use Rattle.ix_model.specs.declared.commands.Command.{Command}
use Rattle.ix_model.specs.declared.commands.Command.TheVariants.{Begin, Block, End, Tick, Roll, Thaw, Configure, Direct}
use Rattle.ix_model.specs.declared.commands.TimedCommand.{TimedCommand}
use Rattle.ix_model.proofs.Following.{after_more}
use Rattle.ix_model.proofs.Renewing.{renews_after}
use Rattle.ix_model.proofs.Stepping.{sound_after}
use Rattle.ix_model.specs.Done.{AreLetGo}
use Rattle.ix_model.specs.OnDisk.{HasNoneFrom}
use Rattle.ix_model.specs.Snap.{snapshot_of}
use Rattle.ix_model.specs.Shelved.{IsSet}
use Rattle.ix_state.specs.Held.{IsOpen, SeesChannels, ledger_of}
use Rattle.ix_state.specs.declared.state.StoreState.{StoreState}
use Rattle.ix_state.specs.declared.state.OpenChannel.{OpenChannel}
use Rattle.ix_state.specs.declared.state.CatalogState.{CatalogState}
use Rattle.ix_store.specs.Making.{LeadsOn, with_order}
use Rattle.ix_store.specs.Written.{AreDone}
use Rattle.ix_store.proofs.Booked.{all_more, done_later}
use Rattle.ix_store.proofs.Going.{let_go_on}
use Rattle.ix_bounds.specs.Ticked.{IsTicked}
use Rattle.ix_bounds.proofs.Ticking.{ticks}
use Rattle.ix_apply.specs.Made.{MayFollow, IsPair, IsBegun, Begins, TickMayCome, IsTickOf, pair_with, done_with_more}
use Rattle.ix_apply.specs.Next.{IsReady}
use Rattle.ix_apply.specs.Seen.{parts_of}
use Rattle.ix_apply.specs.Steps.{StorageRepresents, MayCome, IsStep, SeesConfig, order_of}
use Rattle.ix_apply.specs.declared.effect.Effect.{Effect}
use Rattle.ix_apply.specs.declared.prepared.Ticked.{Ticked}
use Rattle.ix_apply.specs.declared.context.CommandContext.{CommandContext}
use Rattle.ix_apply.proofs.Measured.{parts_seen}

-- ---- what is taken is held

pub ready_of : (choose : Chooser) (history : List TimedCommand) (order : TimedCommand) (held : StoreState) (step : Effect) →
    IsStep choose history order held step →
    KeepsBounds (state_after choose (history ++ order ∷ [])) → IsReady choose (history ++ order ∷ []) held step.next
ready_of choose history order held step h bounds later taken =
    let m : State = state_after choose (history ++ order ∷ []) in
    let config : SeesConfig m later.config = subst (SeesConfig m) (sym taken.config_is) h.config in
    record {
      channels = record {
        kept = config.kept;
        set = config.set;
        config = config.sound;
        channels = subst (λ (os : List OpenChannel). AllZip IsOpen m.channels os) (sym taken.channels_are) h.channels;
        spots = taken.spots_are ∙ h.spots_are;
      };
      storage = record {
        shelves_are = taken.shelves_are ∙ h.rest.shelves_are;
        ledger_is = subst (λ (l : List Entry). IsPermutation l m.catalog.ledger) (sym taken.ledger_is) h.rest.ledger_is;
        ledger_rises = subst (IsSortedBy ranks_before) (sym taken.ledger_is) h.rest.ledger_rises;
        last_is = taken.last_is ∙ h.rest.last_is;
        tick_is = taken.tick_is ∙ h.rest.tick_is;
      };
      bounds = bounds;
    }

-- ---- what stands before

stands_first : (choose : Chooser) (history : List TimedCommand) (order : TimedCommand) (held : StoreState) (begun : CatalogState) →
    MayFollow choose history order held → IsBegun held begun →
    StorageRepresents choose history held begun
stands_first choose history order held begun f b =
    let s = f.holds.storage in
    record {
      chooser = f.chooser;
      given = f.given;
      channels = f.holds.channels;
      rest = record {
        shelves_are = b.shelves ∙ s.shelves_are;
        ledger_is = subst (λ (o : Option (List Entry)).
            IsPermutation (ledger_of held.view.ledger o) (state_after choose history).catalog.ledger) (sym b.ledger) s.ledger_is;
        ledger_rises = subst (λ (o : Option (List Entry)). IsSortedBy ranks_before (ledger_of held.view.ledger o)) (sym b.ledger)
            s.ledger_rises;
        last_is = b.last ∙ s.last_is;
        tick_is = b.tick ∙ s.tick_is;
      };
    }

channels_then : (held : StoreState) (order : TimedCommand) (m later : State) → IsTicked order m later → SeesChannels m held →
    SeesChannels later held
channels_then held order m later t s = record {
  kept = s.kept ∙ sym t.force;
  set = subst (λ (f : List Kept). IsSet f held.config.limits) (sym t.force) s.set;
  config = s.config;
  channels = subst (λ (ls : List ChannelHistory). AllZip IsOpen ls held.channels.items) (sym t.channels) s.channels;
  spots = s.spots ∙ sym t.spots;
}

-- ---- commands that wait for a Tick

both_true : (a b : Bool) → (a && b) ≡ true → a ≡ true
both_true true b h = refl
both_true false b h = h

false_true : false ≡ true → ⊥
false_true e = cc

none_moved : (m : State) (command : Command) (moment : ℤ) → waits_for_tick command ≡ true → machine.moved m command moment ≡ 0
none_moved m (Begin channel meta) moment w = refl
none_moved m (Block channel bytes spot) moment w = refl
none_moved m (End channel) moment w = refl
none_moved m Tick moment w = absurd (false_true w)
none_moved m (Roll index) moment w = absurd (false_true w)
none_moved m (Thaw index id) moment w = absurd (false_true w)
none_moved m (Configure config) moment w = absurd (false_true w)
none_moved m (Direct events) moment w = refl

waits : (m : State) (order : TimedCommand) → needs_tick m order ≡ true → waits_for_tick order.command ≡ true
waits m order h = both_true (waits_for_tick order.command) _ h

-- ---- histories

next_later : (choose : Chooser) (before later : List TimedCommand) →
    (state_after choose before).catalog.next_file ≤ (state_after choose (before ++ later)).catalog.next_file
next_later choose before later =
    subst (λ (m : State). (state_after choose before).catalog.next_file ≤ m.catalog.next_file) (sym (after_more choose empty before later))
    (renews_after choose (state_after choose before) later (sound_after choose before)).later

pub come : (choose : Chooser) (history : List TimedCommand) (order : TimedCommand) →
    state_after choose (with_order choose history order) ≡ come_to choose (state_after choose history) order
come choose history order = after_more choose empty history (adds (state_after choose history) order)

-- the bounds of what a command leads to, by its parts
pub within_is : (choose : Chooser) (history : List TimedCommand) (order : TimedCommand) (p : Parts) →
    IsPartsOf (come_to choose (state_after choose history) order) p →
    (AreWithin p → KeepsBounds (come_to choose (state_after choose history) order))
    × (KeepsBounds (come_to choose (state_after choose history) order) → AreWithin p)
within_is choose history order p =
    subst (λ (m : State). IsPartsOf m p → (AreWithin p → KeepsBounds m) × (KeepsBounds m → AreWithin p)) (come choose history order)
    (bounds_are_seen choose (with_order choose history order) p)

-- ---- with a Tick

module _ (choose : Chooser) (history : List TimedCommand) (command : Command) (given : ℤ) (held : StoreState) (begun : CatalogState)
    (moment : ℤ)
    (h : Begins choose history (order_of command given) held begun moment true) where
  abbrev order : TimedCommand
  order = order_of command given

  abbrev half : List TimedCommand
  half = history ++ order_of Tick given ∷ []

  ticked : IsTicked order (state_after choose history) (state_after choose half)
  ticked = ticks choose history order

  waiting : waits_for_tick command ≡ true
  waiting = waits (state_after choose history) order h.due_is

  added : with_order choose history order ≡ half ++ order ∷ []
  added =
      let is : adds (state_after choose history) order ≡ order_of Tick given ∷ order ∷ [] = rw h.due_is refl in
      ap (λ (l : List TimedCommand). history ++ l) is ∙ sym (append_assoc history (order_of Tick given ∷ []) (order ∷ []))

  pub tick_may_come : TickMayCome choose history given held begun moment
  tick_may_come = record { stands = stands_first choose history order held begun h.follows h.is_begun; moment_is = h.moment_is }

  half_given : AreGiven half
  half_given = all_more IsTaken history (order_of Tick given ∷ []) h.follows.given (tt, tt)

  pub then_may_come : (first : Effect) → IsStep choose history (order_of Tick given) held first → (w : CommandContext) → w.held.now ≡ held →
      w.storage.now ≡ first.next.storage →
      w.moment ≡ moment → MayCome choose half order w
  then_may_come first s w a b c = record {
    stands = subst (λ (x : StoreState). StorageRepresents choose half x w.storage.now) (sym a)
        (subst (StorageRepresents choose half held) (sym b) (record {
          chooser = h.follows.chooser;
          given = half_given;
          channels = channels_then held order (state_after choose history) (state_after choose half) ticked h.follows.holds.channels;
          rest = s.rest;
        }));
    taken = h.follows.taken;
    no_cause = ticked.judgement waiting ∙ h.follows.no_cause;
    moment_is = c ∙ (h.moment_is ∙ sym ticked.moment);
  }

  none_then : (contents : Contents) → HasNoneFrom (state_after choose history).catalog.next_file contents →
      HasNoneFrom (state_after choose half).catalog.next_file contents
  none_then contents none file from = none file (let a = ticked.files in omega (arith, a, from))

  pub tick_pair : (first second : Effect) → IsStep choose history (order_of Tick given) held first → IsStep choose half order held second →
      IsPair choose history order held (pair_with first second)
  tick_pair first second s t =
      let whole : state_after choose (with_order choose history order) ≡ come_to choose (state_after choose history) order =
      come choose history order in
      let at : state_after choose (half ++ order ∷ []) ≡ come_to choose (state_after choose history) order =
      ap (state_after choose) (sym added) ∙ whole in
      record {
        ready = λ bounds.
            subst (λ (l : List TimedCommand). IsReady choose l held second.next) (sym added)
            (ready_of choose half order held second t (subst KeepsBounds (sym at) bounds));
        parts = subst (λ (m : State). IsPartsOf m (parts_of held second.next)) at (parts_seen choose half order held second t);
        ticks = sym h.due_is;
        leads = λ old none. (
          s.leads old none,
          subst (λ (l : List TimedCommand). LeadsOn second.draft old (snapshot_of choose half) (snapshot_of choose l)) (sym added)
              (t.leads old (none_then old.contents none)),
        );
        done = subst (λ (l : List TimedCommand). AreDone (state_after choose l).catalog (second.done_with ++ first.done_with)) (sym added)
            (all_more _ second.done_with first.done_with t.done (done_later choose half (order ∷ []) first.done_with s.done));
        let_go = subst (λ (l : List TimedCommand). AreLetGo (state_after choose history).catalog (state_after choose l).catalog
            (second.done_with ++ first.done_with)) (sym added)
            (let_go_on (state_after choose history).catalog (state_after choose half).catalog
            (state_after choose (half ++ order ∷ [])).catalog first.done_with second.done_with (second.done_with ++ first.done_with)
            (λ file c. Contains-append_right second.done_with first.done_with file c)
            (λ file c. Contains-append_left second.done_with first.done_with file c) s.let_go t.let_go);
        many = t.many ∙ (none_moved (state_after choose half) command (effective (state_after choose half).last given) waiting
            ∙ sym (none_moved (state_after choose history) command (effective (state_after choose history).last given) waiting));
      }

  -- the same with what is left of a Tick
  pub ticked_pair : (t : Ticked) (second : Effect) (is : IsTickOf choose history given held t) → IsStep choose half order held second →
      IsPair choose history order held (record { first = Some t.draft; step = done_with_more second t.done_with })
  ticked_pair t second is s =
      subst (λ (d : WriteBatch). IsPair choose history order held (record { first = Some d; step = done_with_more second t.done_with }))
      (sym is.draft)
      (subst (λ (f : List File). IsPair choose history order held (record { first = Some is.step.draft; step = done_with_more second f }))
      (sym is.files)
      (tick_pair is.step second is.is_step s))

  -- where the state behind both keeps the bounds, so does that between them
  pub half_bounds : KeepsBounds (come_to choose (state_after choose history) order) → KeepsBounds (state_after choose half)
  half_bounds bounds =
      let later = next_later choose half (order ∷ []) in
      let at : state_after choose (half ++ order ∷ []) ≡ come_to choose (state_after choose history) order =
      ap (state_after choose) (sym added) ∙ come choose history order in
      let next : (state_after choose (half ++ order ∷ [])).catalog.next_file ≡ (come_to choose (state_after choose history)
      order).catalog.next_file = ap (λ (m : State). m.catalog.next_file) at in
      let most = bounds.next_file in
      ticked.bounds h.follows.holds.bounds (omega (arith, later, next, most))

  pub whole_bounds : KeepsBounds (come_to choose (state_after choose history) order) → KeepsBounds (state_after choose (half ++ order ∷ []))
  whole_bounds bounds = subst KeepsBounds (sym (ap (state_after choose) (sym added) ∙ come choose history order)) bounds

-- ---- without one

module _ (choose : Chooser) (history : List TimedCommand) (command : Command) (given : ℤ) (held : StoreState) (begun : CatalogState)
    (moment : ℤ)
    (h : Begins choose history (order_of command given) held begun moment false) where
  abbrev its : TimedCommand
  its = order_of command given

  alone : with_order choose history its ≡ history ++ its ∷ []
  alone =
      let is : adds (state_after choose history) its ≡ its ∷ [] = rw h.due_is refl in
      ap (λ (l : List TimedCommand). history ++ l) is

  pub may_come : (w : CommandContext) → w.held.now ≡ held → w.storage.now ≡ begun → w.moment ≡ moment → MayCome choose history its w
  may_come w a b c = record {
    stands = subst (λ (x : StoreState). StorageRepresents choose history x w.storage.now) (sym a)
        (subst (StorageRepresents choose history held) (sym b) (stands_first choose history its held begun h.follows h.is_begun));
    taken = h.follows.taken;
    no_cause = h.follows.no_cause;
    moment_is = c ∙ h.moment_is;
  }

  at_end : state_after choose (history ++ its ∷ []) ≡ come_to choose (state_after choose history) its
  at_end = ap (state_after choose) (sym alone) ∙ come choose history its

  pub plain_pair : (step : Effect) → IsStep choose history its held step →
      IsPair choose history its held (record { first = None; step = step })
  plain_pair step t = record {
    ready = λ bounds.
        subst (λ (l : List TimedCommand). IsReady choose l held step.next) (sym alone)
        (ready_of choose history its held step t (subst KeepsBounds (sym at_end) bounds));
    parts = subst (λ (m : State). IsPartsOf m (parts_of held step.next)) at_end (parts_seen choose history its held step t);
    ticks = sym h.due_is;
    leads = λ old none.
        subst (λ (l : List TimedCommand). LeadsOn step.draft old (snapshot_of choose history) (snapshot_of choose l)) (sym alone)
        (t.leads old none);
    done = subst (λ (l : List TimedCommand). AreDone (state_after choose l).catalog step.done_with) (sym alone) t.done;
    let_go = subst (λ (l : List TimedCommand). AreLetGo (state_after choose history).catalog (state_after choose l).catalog step.done_with)
        (sym alone) t.let_go;
    many = t.many;
  }

  pub end_bounds : KeepsBounds (come_to choose (state_after choose history) its) → KeepsBounds (state_after choose (history ++ its ∷ []))
  end_bounds bounds = subst KeepsBounds (sym at_end) bounds
