-- What is dealt leads from the state before a command to that behind it.
use Rattle.std.proofs.Common.{◌≡◌, ℤ, List, [], ◌∷◌, ◌++◌, refl, sym, ap, ◌∙◌, subst}
use Rattle.ix_base.specs.declared.events.Routed.{Routed}
use Rattle.ix_commit.specs.Drafts.{with_pieces}
use Rattle.ix_commit.specs.Snapshot.{Forgets}
use Rattle.ix_bounds.proofs.Orders.{deals_same as deals_alike}
use Rattle.ix_life.specs.declared.sets.LimitSet.{LimitSet}
use Rattle.ix_model.specs.Bounds.{KeepsBounds}
use Rattle.ix_model.specs.Given.{Chooser}
use Rattle.ix_model.specs.Judged as judging
use Rattle.ix_model.specs.State.{State, Catalog, empty}
use Rattle.ix_model.specs.Step as machine
use Rattle.ix_model.specs.Step.{state_after, stepped}
use Rattle.ix_model.specs.declared.commands.Command.{Command}
use Rattle.ix_model.specs.declared.commands.Command.TheVariants.{Begin, Block, End, Tick, Roll, Thaw, Configure, Direct}
use Rattle.ix_model.specs.declared.commands.TimedCommand.{TimedCommand}
use Rattle.ix_model.proofs.Ascending.{in_order_after}
use Rattle.ix_model.proofs.Ledgers.{all_after, ticks_alone}
use Rattle.ix_model.proofs.Renewing.{behind_after}
use Rattle.ix_model.proofs.Stepping.{sound_after}
use Rattle.ix_effects.specs.Moving.{Precedes, IsDealing, deals, IsMoved}
use Rattle.ix_effects.specs.Working.{here, shelves_in, begun, worked, dealt, CanBeSaid}
use Rattle.ix_effects.specs.declared.catalog_effect.Base.{Base}
use Rattle.ix_effects.proofs.Going.{deals_let_none_go}
use Rattle.ix_effects.proofs.Numbers.{keeps_numbers, is_balanced}
use Rattle.ix_effects.proofs.Saying.{can_be_said}
use Rattle.ix_effects.proofs.Standing.{later_is, Stays, Fills, left_leads}
use Rattle.ix_catalog.specs.Dealing.{deal_all}
use Rattle.ix_catalog.specs.Numbers.{KeepsNumbers, IsBalanced}
use Rattle.ix_catalog.specs.declared.placer.Work.{Work}
use Rattle.ix_catalog.specs.declared.index_table.IndexTable.{IndexTable}
use Rattle.ix_model.specs.Contents.{contents_of}
use Rattle.ix_model.specs.Done.{AreLetGo}
use Rattle.ix_model.specs.OnDisk.{AreFiled}
use Rattle.ix_model.specs.OnDisk as laws
use Rattle.ix_model.specs.Shelved.{IsSet, shelved}
use Rattle.ix_model.proofs.DealtFiles.{deals_lead}
use Rattle.ix_model.proofs.DealtShelves.{deals_same}
use Rattle.ix_state.specs.Held.{SeesBeside}

-- ---- the shelves and files that dealing leaves

pub dealt_shelves : (choose : Chooser) (history : List TimedCommand) (set : LimitSet) (moment : ℤ) (outcomes : List Routed) →
    let m : State = state_after choose history in
    IsSet m.force set →
    (laws.worked set m.force moment m.catalog outcomes).shelves ≡ shelved m.force (machine.deal_all m.force moment m.catalog outcomes)
dealt_shelves choose history set moment outcomes i =
    let m : State = state_after choose history in
    deals_same m.force set moment m.catalog.ledger m.catalog (laws.begun m.force m.catalog) outcomes i
    (all_after choose history) (in_order_after choose history).indexes refl refl

dealt_filed : (choose : Chooser) (history : List TimedCommand) (set : LimitSet) (moment : ℤ) (outcomes : List Routed) →
    let m : State = state_after choose history in
    IsSet m.force set → AreFiled set m.force moment m.catalog outcomes
dealt_filed choose history set moment outcomes i =
    let m : State = state_after choose history in
    let l = deals_lead m.force set moment m.catalog.ledger (contents_of m.catalog) m.catalog (laws.begun m.force m.catalog) outcomes i
    (record {
      all = all_after choose history;
      ascending = (in_order_after choose history).indexes;
      behind = behind_after choose empty history tt;
    })
    refl refl (record { fit = tt; lead = λ file bytes e. e }) in
    record { fit = l.fit; lead = l.lead }

-- in whatever order the ledger stands
pub worked_is : (m : State) (b : Base) (outcomes : List Routed) → SeesBeside m b.ledger.now b.storage.now →
    worked b outcomes ≡ laws.worked b.set.now m.force b.moment m.catalog outcomes
worked_is m b outcomes sees =
    deals_alike (here b) m.catalog.ledger sees.ledger_is b.set.now b.moment (begun b) outcomes
    ∙ ap (λ (s : IndexTable). deal_all b.set.now m.catalog.ledger b.moment (record { shelves = s; pieces = [] }) outcomes) sees.shelves_are

pub dealt_fills : (choose : Chooser) (history : List TimedCommand) (later : State) (set : LimitSet) (moment : ℤ) (outcomes : List Routed) →
    let m : State = state_after choose history in
    IsSet m.force set → later.catalog ≡ machine.deal_all m.force moment m.catalog outcomes →
    Fills m later (laws.worked set m.force moment m.catalog outcomes).pieces []
dealt_fills choose history later set moment outcomes i e old none =
    let m : State = state_after choose history in
    let filed = dealt_filed choose history set moment outcomes i in (
      filed.fit,
      tt,
      subst (λ (s : Catalog). Forgets (with_pieces (laws.worked set m.force moment m.catalog outcomes).pieces
          (contents_of m.catalog)) (contents_of s)) (sym e) filed.lead,
    )

-- ---- commands that deal and do no more

record IsPlain (choose : Chooser) (m : State) (command : Command) (moment : ℤ) : Type 0 where
  catalog : (stepped choose m command moment).catalog ≡ machine.deal_all m.force moment m.catalog (machine.outcomes choose m command moment)
  force : (stepped choose m command moment).force ≡ m.force
  tick : (stepped choose m command moment).tick ≡ m.tick
  ledger : (stepped choose m command moment).catalog.ledger ≡ m.catalog.ledger
  moved : 0 ≡ judging.moved m command moment

is_plain : (choose : Chooser) (m : State) (command : Command) (moment : ℤ) → IsDealing command → IsPlain choose m command moment
is_plain choose m (Begin channel meta) moment h = record {
  catalog = refl;
  force = refl;
  tick = refl;
  ledger = ticks_alone choose m (Begin channel meta) moment (λ q. cc);
  moved = refl;
}
is_plain choose m (Block channel bytes spot) moment h =
    record {
      catalog = refl;
      force = refl;
      tick = refl;
      ledger = ticks_alone choose m (Block channel bytes spot) moment (λ q. cc);
      moved = refl;
    }
is_plain choose m (End channel) moment h = record {
  catalog = refl;
  force = refl;
  tick = refl;
  ledger = ticks_alone choose m (End channel) moment (λ q. cc);
  moved = refl;
}
is_plain choose m Tick moment h = absurd h
is_plain choose m (Roll index) moment h = absurd h
is_plain choose m (Thaw index id) moment h = absurd h
is_plain choose m (Configure config) moment h = absurd h
is_plain choose m (Direct events) moment h = record {
  catalog = refl;
  force = refl;
  tick = refl;
  ledger = ticks_alone choose m (Direct events) moment (λ q. cc);
  moved = refl;
}

module _ (choose : Chooser) (history : List TimedCommand) (order : TimedCommand) (b : Base) (outcomes : List Routed)
    (p : Precedes choose history order b) (d : deals b outcomes choose history order) where
  abbrev m : State
  m = state_after choose history

  abbrev later : State
  later = state_after choose (history ++ order ∷ [])

  abbrev work : Work
  work = laws.worked b.set.now m.force b.moment m.catalog outcomes

  is_later : later ≡ stepped choose m order.command b.moment
  is_later = later_is choose history order b p

  plain : IsPlain choose m order.command b.moment
  plain = is_plain choose m order.command b.moment d.0

  catalog_is : later.catalog ≡ machine.deal_all m.force b.moment m.catalog outcomes
  catalog_is =
      ap (λ (x : State). x.catalog) is_later ∙ plain.catalog ∙ ap (machine.deal_all m.force b.moment m.catalog) (sym d.1)

  force_is : later.force ≡ m.force
  force_is = ap (λ (x : State). x.force) is_later ∙ plain.force

  stays : Stays m later b.moment
  stays = record {
    ledger = ap (λ (x : State). x.catalog.ledger) is_later ∙ plain.ledger;
    last = ap (λ (x : State). x.last) is_later;
    tick = ap (λ (x : State). x.tick) is_later ∙ plain.tick;
  }

  work_is : worked b outcomes ≡ work
  work_is = worked_is m b outcomes p.sees

  shelves_are : (worked b outcomes).shelves ≡ shelved later.force later.catalog
  shelves_are =
      ap (λ (w : Work). w.shelves) work_is
      ∙ dealt_shelves choose history b.set.now b.moment outcomes p.set_is
      ∙ ap (shelved m.force) (sym catalog_is)
      ∙ ap (λ f. shelved f later.catalog) (sym force_is)

  fills : Fills m later (worked b outcomes).pieces []
  fills = subst (λ (w : Work). Fills m later w.pieces []) (sym work_is)
      (dealt_fills choose history later b.set.now b.moment outcomes p.set_is catalog_is)

  pub deal_moves : IsMoved choose history order b.ledger.now b.moment (dealt b outcomes)
  deal_moves = left_leads m later order.command b (worked b outcomes).shelves (worked b outcomes).pieces [] 0 p.sees stays shelves_are fills
      plain.moved
      (subst (λ (s : Catalog). AreLetGo m.catalog s []) (sym catalog_is)
      (deals_let_none_go m.force b.moment m.catalog outcomes (sound_after choose history)))

  -- within the bounds nothing that dealing asks fails
  pub deal_full : KeepsBounds m → KeepsBounds later →
      (KeepsNumbers (shelves_in b) → IsBalanced (shelves_in b) → KeepsNumbers (worked b outcomes).shelves →
      CanBeSaid [] (shelves_in b) (worked b outcomes).shelves → ⊥) → ⊥
  deal_full h k over =
      let same : shelves_in b ≡ shelved m.force m.catalog = p.sees.shelves_are in
      over (subst KeepsNumbers (sym same) (keeps_numbers m.force m h)) (subst IsBalanced (sym same) (is_balanced choose history m.force))
      (subst KeepsNumbers (sym shelves_are) (keeps_numbers later.force later k))
      (can_be_said choose history order b [] (worked b outcomes).shelves p shelves_are tt k)
