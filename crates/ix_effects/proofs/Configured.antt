-- A change of settings leads from the state before it to that behind it.
use Rattle.std.proofs.Common.{◌≡◌, List, [], ◌∷◌, ◌++◌, refl, sym, ap, ◌∙◌, subst}
use Rattle.std.specs.List.Sorted.{IsPermutation}
use Rattle.ix_base.specs.declared.events.Routed.{Routed}
use Rattle.ix_items.specs.declared.items.Kept.{Kept}
use Rattle.ix_commit.specs.declared.file_copy.FileCopy.{FileCopy}
use Rattle.ix_life.specs.declared.sets.LimitSet.{LimitSet}
use Rattle.ix_life.specs.declared.views.IndexView.{IndexView}
use Rattle.ix_model.specs.Bounds.{KeepsBounds}
use Rattle.ix_model.specs.Given.{Chooser}
use Rattle.ix_model.specs.Judged as judging
use Rattle.ix_model.specs.State.{State, Catalog}
use Rattle.ix_model.specs.Step as machine
use Rattle.ix_model.specs.Step.{state_after, stepped}
use Rattle.ix_model.specs.declared.commands.Command.{Command}
use Rattle.ix_model.specs.declared.commands.Command.TheVariants.{Configure}
use Rattle.ix_model.specs.declared.commands.TimedCommand.{TimedCommand}
use Rattle.ix_model.proofs.Ledgers.{ticks_alone}
use Rattle.ix_model.proofs.Stepping.{sound_after}
use Rattle.ix_model.specs.Done.{AreLetGo}
use Rattle.ix_effects.specs.Moving.{Precedes, Configures, IsMoved}
use Rattle.ix_effects.specs.Working.{here, shelves_in, worked, left, configured_shelves, configured, CanBeSaid, Reshelves}
use Rattle.ix_effects.specs.declared.catalog_effect.Base.{Base}
use Rattle.ix_effects.proofs.Dealt.{dealt_shelves, worked_is, dealt_fills}
use Rattle.ix_effects.proofs.Going.{deals_let_none_go}
use Rattle.ix_effects.proofs.Numbers.{keeps_numbers, is_balanced}
use Rattle.ix_effects.proofs.Saying.{can_be_said}
use Rattle.ix_effects.proofs.Standing.{later_is, Stays, Fills, left_leads}
use Rattle.ix_catalog.specs.Numbers.{KeepsNumbers, IsBalanced}
use Rattle.ix_catalog.specs.Shelves.{with_indexes}
use Rattle.ix_catalog.specs.declared.placer.Work.{Work}
use Rattle.ix_catalog.specs.declared.index_table.IndexTable.{IndexTable}
use Rattle.ix_model.specs.OnDisk as laws
use Rattle.ix_model.specs.Shelved.{shelved, shelved_indexes}

-- ---- what is put together

pub shelves_together : (b : Base) (outcomes : List Routed) (next : LimitSet) (w : Work) (indexes new : List IndexView) →
    w ≡ worked b outcomes →
    ((other : List IndexView) → Reshelves (here b) next w.shelves.indexes other → indexes ≡ other) →
    Reshelves (here b) next (worked b outcomes).shelves.indexes new →
    with_indexes indexes w.shelves.next_file w.shelves ≡ configured_shelves b outcomes new
shelves_together b outcomes next w indexes new e f r =
    let same : indexes ≡ new = f new (subst (λ (x : Work). Reshelves (here b) next x.shelves.indexes new) (sym e) r) in
    ap (λ (vs : List IndexView). with_indexes vs w.shelves.next_file w.shelves) same
    ∙ ap (λ (x : Work). with_indexes new x.shelves.next_file x.shelves) e

pub put_together : (b : Base) (outcomes : List Routed) (next : LimitSet) (w : Work) (indexes new : List IndexView)
    (copies : List FileCopy) → w ≡ worked b outcomes → copies ≡ [] →
    ((other : List IndexView) → Reshelves (here b) next w.shelves.indexes other → indexes ≡ other) →
    Reshelves (here b) next (worked b outcomes).shelves.indexes new →
    left b (with_indexes indexes w.shelves.next_file w.shelves) w.pieces copies 0 ≡ configured b outcomes new
put_together b outcomes next w indexes new copies e n f r =
    ap (λ (cs : List FileCopy). left b (with_indexes indexes w.shelves.next_file w.shelves) w.pieces cs 0) n
    ∙ ap (λ (s : IndexTable). left b s w.pieces [] 0) (shelves_together b outcomes next w indexes new e f r)
    ∙ ap (λ (x : Work). left b (configured_shelves b outcomes new) x.pieces [] 0) e

-- ---- the command

module _ (choose : Chooser) (history : List TimedCommand) (order : TimedCommand) (b : Base) (outcomes : List Routed) (next : LimitSet)
    (p : Precedes choose history order b) (d : Configures b outcomes next choose history order) where
  abbrev m : State
  m = state_after choose history

  abbrev later : State
  later = state_after choose (history ++ order ∷ [])

  abbrev work : Work
  work = laws.worked b.set.now m.force b.moment m.catalog outcomes

  is_later : later ≡ stepped choose m (Configure d.config) b.moment
  is_later = later_is choose history order b p ∙ ap (λ (k : Command). stepped choose m k b.moment) d.command

  catalog_is : later.catalog ≡ machine.deal_all m.force b.moment m.catalog outcomes
  catalog_is =
      ap (λ (x : State). x.catalog) is_later
      ∙ ap (λ (k : Command). machine.deal_all m.force b.moment m.catalog (machine.outcomes choose m k b.moment)) (sym d.command)
      ∙ ap (machine.deal_all m.force b.moment m.catalog) (sym d.outcomes_are)

  force_is : later.force ≡ d.config.kept
  force_is = ap (λ (x : State). x.force) is_later

  stays : Stays m later b.moment
  stays = record {
    ledger = ap (λ (x : State). x.catalog.ledger) is_later ∙ ticks_alone choose m (Configure d.config) b.moment (λ q. cc);
    last = ap (λ (x : State). x.last) is_later;
    tick = ap (λ (x : State). x.tick) is_later;
  }

  work_is : worked b outcomes ≡ work
  work_is = worked_is m b outcomes p.sees

  -- under the old settings
  old_shelves : (worked b outcomes).shelves ≡ shelved m.force later.catalog
  old_shelves =
      ap (λ (w : Work). w.shelves) work_is
      ∙ dealt_shelves choose history b.set.now b.moment outcomes p.set_is
      ∙ ap (shelved m.force) (sym catalog_is)

  pub reshelved : Reshelves (here b) next (worked b outcomes).shelves.indexes (shelved_indexes d.config.kept later.catalog.indexes)
  reshelved = record {
    choose = choose;
    history = history ++ order ∷ [];
    before = m.force;
    behind = d.config.kept;
    limits = d.limits;
    settings = d.settings;
    old_is = ap (λ (s : IndexTable). s.indexes) old_shelves;
    ledger_is = subst (IsPermutation (here b)) (sym stays.ledger) p.sees.ledger_is;
    new_is = refl;
  }

  shelves_are : configured_shelves b outcomes (shelved_indexes d.config.kept later.catalog.indexes) ≡ shelved later.force later.catalog
  shelves_are =
      ap (λ (s : IndexTable). with_indexes (shelved_indexes d.config.kept later.catalog.indexes) s.next_file s) old_shelves
      ∙ ap (λ (f : List Kept). shelved f later.catalog) (sym force_is)

  fills : Fills m later (worked b outcomes).pieces []
  fills = subst (λ (w : Work). Fills m later w.pieces []) (sym work_is)
      (dealt_fills choose history later b.set.now b.moment outcomes p.set_is catalog_is)

  pub configure_moves : IsMoved choose history order b.ledger.now b.moment
      (configured b outcomes (shelved_indexes d.config.kept later.catalog.indexes))
  configure_moves =
      left_leads m later order.command b (configured_shelves b outcomes (shelved_indexes d.config.kept later.catalog.indexes))
      (worked b outcomes).pieces [] 0
      p.sees stays shelves_are fills (ap (λ (k : Command). judging.moved m k b.moment) (sym d.command))
      (subst (λ (s : Catalog). AreLetGo m.catalog s []) (sym catalog_is)
      (deals_let_none_go m.force b.moment m.catalog outcomes (sound_after choose history)))

  pub configure_full : KeepsBounds m → KeepsBounds later →
      (KeepsNumbers (shelves_in b) → IsBalanced (shelves_in b) → KeepsNumbers (worked b outcomes).shelves →
      CanBeSaid [] (shelves_in b) (configured_shelves b outcomes (shelved_indexes d.config.kept later.catalog.indexes)) → ⊥) → ⊥
  configure_full h k over =
      let same : shelves_in b ≡ shelved m.force m.catalog = p.sees.shelves_are in
      over (subst KeepsNumbers (sym same) (keeps_numbers m.force m h)) (subst IsBalanced (sym same) (is_balanced choose history m.force))
      (subst KeepsNumbers (sym old_shelves) (keeps_numbers m.force later k))
      (can_be_said choose history order b [] (configured_shelves b outcomes (shelved_indexes d.config.kept later.catalog.indexes)) p
      shelves_are tt k)
