-- A roll leads from the state before it to that behind it.
use Rattle.std.proofs.Common.{◌≡◌, ℕ, Bool, true, false, List, [], ◌∷◌, ◌++◌, refl, sym, ap, ◌∙◌, subst}
use Rattle.std.specs.Prelude.{Option, Some, None, unwrap_or}
use Rattle.std.specs.List.{count_by}
use Rattle.std.specs.Option.{option_map}
use Rattle.ix_items.specs.declared.items.Kept.{Kept}
use Rattle.ix_commit.specs.Contents.{Contents}
use Rattle.ix_life.specs.Placing.{is_open}
use Rattle.ix_model.specs.Bounds.{KeepsBounds}
use Rattle.ix_model.specs.Buckets.{Index, buckets}
use Rattle.ix_model.specs.Given.{Chooser}
use Rattle.ix_model.specs.Judged as judging
use Rattle.ix_model.specs.Shown.{configured, index_view}
use Rattle.ix_model.specs.State.{State, Catalog, index_name, fresh_index}
use Rattle.ix_model.specs.Step as machine
use Rattle.ix_model.specs.Step.{state_after, stepped}
use Rattle.ix_model.specs.declared.commands.Command.{Command}
use Rattle.ix_model.specs.declared.commands.Command.TheVariants.{Roll}
use Rattle.ix_model.specs.declared.commands.TimedCommand.{TimedCommand}
use Rattle.ix_model.proofs.Ascending.{in_order_after}
use Rattle.ix_model.proofs.Stepping.{sound_after}
use Rattle.ix_effects.specs.Moving.{Precedes, IsMoved}
use Rattle.ix_effects.specs.Working.{shelves_in, rolled, CanBeSaid}
use Rattle.ix_effects.specs.declared.catalog_effect.Base.{Base}
use Rattle.ix_effects.proofs.Going.{rolls_let_none_go}
use Rattle.ix_effects.proofs.Saying.{can_be_said}
use Rattle.ix_effects.proofs.Standing.{later_is, Stays, Fills, left_leads}
use Rattle.ix_catalog.specs.Lists.{find}
use Rattle.ix_catalog.specs.Shelves.{view_name}
use Rattle.ix_catalog.specs.Turning.{roll, open_in}
use Rattle.ix_catalog.specs.declared.index_table.IndexTable.{IndexTable}
use Rattle.ix_model.specs.Contents.{contents_of}
use Rattle.ix_model.specs.Done.{AreLetGo}
use Rattle.ix_model.specs.Shelved.{shelved}
use Rattle.ix_model.proofs.Listing.{among, or_fresh}
use Rattle.ix_model.proofs.Rising.{seen_by}
use Rattle.ix_model.proofs.RolledFiles.{rolls_filed}
use Rattle.ix_model.proofs.RolledShelves.{rolls_same}

open_seen : (force : List Kept) (index : List ℕ) (b : Bool) (o : Option Index) →
    open_in (option_map (index_view force) (or_fresh b index o)) ≡ count_by is_open (buckets (unwrap_or o (fresh_index index)).slots)
open_seen force index b (Some i) = refl
open_seen force index true None = refl
open_seen force index false None = refl

module _ (choose : Chooser) (history : List TimedCommand) (order : TimedCommand) (b : Base) (index : List ℕ)
    (p : Precedes choose history order b) (is : order.command ≡ Roll index) where
  abbrev m : State
  m = state_after choose history

  abbrev later : State
  later = state_after choose (history ++ order ∷ [])

  is_later : later ≡ stepped choose m (Roll index) b.moment
  is_later = later_is choose history order b p ∙ ap (λ (k : Command). stepped choose m k b.moment) is

  catalog_is : later.catalog ≡ machine.roll index m.catalog
  catalog_is = ap (λ (x : State). x.catalog) is_later

  stays : Stays m later b.moment
  stays = record {
    ledger = ap (λ (x : State). x.catalog.ledger) is_later;
    last = ap (λ (x : State). x.last) is_later;
    tick = ap (λ (x : State). x.tick) is_later;
  }

  shelves_are : roll index (shelves_in b) ≡ shelved later.force later.catalog
  shelves_are =
      ap (roll index) p.sees.shelves_are
      ∙ rolls_same m.force index m.catalog (sound_after choose history) (in_order_after choose history).indexes
      ∙ ap (shelved m.force) (sym catalog_is)
      ∙ ap (λ f. shelved f later.catalog) (sym (ap (λ (x : State). x.force) is_later))

  contents_are : contents_of m.catalog ≡ contents_of later.catalog
  contents_are = sym (rolls_filed index m.catalog) ∙ ap contents_of (sym catalog_is)

  fills : Fills m later [] []
  fills old none = (tt, tt, λ file bytes e. ap (λ (c : Contents). c file) contents_are ∙ e)

  counted : open_in (find view_name index (shelves_in b).indexes) ≡ judging.moved m order.command b.moment
  counted =
      ap (λ (s : IndexTable). open_in (find view_name index s.indexes)) p.sees.shelves_are
      ∙ ap open_in (seen_by m.force m.catalog.indexes index)
      ∙ open_seen m.force index (among (configured m.force) index) (find index_name index m.catalog.indexes)
      ∙ ap (λ (k : Command). judging.moved m k b.moment) (sym is)

  pub roll_moves : IsMoved choose history order b.ledger.now b.moment (rolled b index)
  roll_moves = left_leads m later order.command b (roll index (shelves_in b)) [] [] (open_in (find view_name index (shelves_in b).indexes))
      p.sees stays shelves_are fills counted
      (subst (λ (s : Catalog). AreLetGo m.catalog s []) (sym catalog_is) (rolls_let_none_go index m.catalog))

  pub roll_full : KeepsBounds later → (CanBeSaid [] (shelves_in b) (roll index (shelves_in b)) → ⊥) → ⊥
  roll_full k over = over (can_be_said choose history order b [] (roll index (shelves_in b)) p shelves_are tt k)
