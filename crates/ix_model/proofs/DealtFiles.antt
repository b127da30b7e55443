-- All bytes of a list of outcomes, one event behind the other.
use Rattle.std.proofs.Common.{◌≡◌, ℕ, ℤ, List, [], ◌∷◌, refl, sym, ap, ◌∙◌, subst}
use Rattle.std.specs.Prelude.{Option, Some, None, fold}
use Rattle.std.specs.Option.{option_map}
use Rattle.ix_base.specs.declared.events.Event.{Event}
use Rattle.ix_base.specs.declared.events.Routed.{Routed}
use Rattle.ix_base.specs.declared.events.Routed.TheVariants.{To, Null}
use Rattle.ix_items.specs.declared.items.Entry.{Entry}
use Rattle.ix_items.specs.declared.items.Kept.{Kept}
use Rattle.ix_commit.specs.Contents.{Contents}
use Rattle.ix_commit.specs.Drafts.{with_piece, with_pieces, AreFit}
use Rattle.ix_commit.specs.Snapshot.{Forgets}
use Rattle.ix_commit.specs.declared.write_batch.Append.{Append}
use Rattle.ix_life.specs.declared.sets.LimitSet.{LimitSet}
use Rattle.ix_life.specs.declared.views.IndexView.{IndexView}
use Rattle.ix_model.specs.Given.{limits}
use Rattle.ix_model.specs.Given as given
use Rattle.ix_model.specs.Shown.{configured, with_fresh, index_view}
use Rattle.ix_model.specs.State.{Catalog, empty, index_name, index_in}
use Rattle.ix_model.specs.Step as machine
use Rattle.ix_model.proofs.Ascending.{keeps_ascending}
use Rattle.ix_model.proofs.Ledgers.{HasAll, keeps_all, deal_grows}
use Rattle.ix_model.proofs.Renewing.{IsBehind, keeps_spans, apart_behind}
use Rattle.ix_catalog.specs.Buckets.{named}
use Rattle.ix_catalog.specs.Dealing.{piece, joined, put_in, deal_to, deal, deal_all}
use Rattle.ix_catalog.specs.Lists.{find, AreAscending}
use Rattle.ix_catalog.specs.Shelves.{view_name}
use Rattle.ix_catalog.specs.declared.placer.Work.{Work}
use Rattle.ix_catalog.specs.declared.index_table.IndexTable.{IndexTable}
use Rattle.ix_model.specs.Contents.{contents_of}
use Rattle.ix_model.specs.Shelved.{IsSet, shelved}
use Rattle.ix_model.proofs.DealtShelves.{deal_same}
use Rattle.ix_model.proofs.FiledDeals.{IsPut, event_put}
use Rattle.ix_model.proofs.Homes.{home_same, home_listed}
use Rattle.ix_model.proofs.Listing.{found_fresh}
use Rattle.ix_model.proofs.Names.{find_map}
use Rattle.ix_model.proofs.Pieces.{with_joined, fit_joined, fit_more, forgets_piece, forgets_then}

-- what every catalog of a history is
pub record IsOrdered (s : Catalog) : Type 0 where
  pub all : HasAll s
  pub ascending : AreAscending index_name s.indexes
  pub behind : IsBehind empty.catalog s

ordered_deal : (force : List Kept) (moment : ℤ) (s : Catalog) (o : Routed) → IsOrdered s → IsOrdered (machine.deal force moment s o)
ordered_deal force moment s o h = record {
  all = keeps_all.deals force moment s o h.all;
  ascending = keeps_ascending.deals force moment s o h.ascending;
  behind = (keeps_spans empty.catalog).deals force moment s o h.behind;
}

-- the pieces so far lead from the contents at the start to those of the catalog
pub record LeadTo (start : Contents) (pieces : List Append) (s : Catalog) : Type 0 where
  pub fit : AreFit start pieces
  pub lead : Forgets (with_pieces pieces start) (contents_of s)

one_more : (start : Contents) (pieces : List Append) (p : Append) (s new : Catalog) → LeadTo start pieces s → IsPut s new p →
    LeadTo start (joined p pieces) new
one_more start pieces p s new h put = record {
  fit = fit_joined p pieces start h.fit (fit_more p (with_pieces pieces start) (contents_of s) h.lead put.fit);
  lead = subst (λ (c : Contents). Forgets c (contents_of new)) (sym (with_joined p pieces start))
      (forgets_then (with_piece p (with_pieces pieces start)) (with_piece p (contents_of s)) (contents_of new)
      (forgets_piece p (with_pieces pieces start) (contents_of s) h.lead put.fit) put.lead);
}

to_leads : (force : List Kept) (set : LimitSet) (moment : ℤ) (start : Contents) (s : Catalog) (w : Work) (event : Event)
    (o : Option (List ℕ)) → IsSet force set → IsOrdered s →
    w.shelves ≡ shelved force s → LeadTo start w.pieces s → AreAscending index_name (machine.deal_to force moment s event o).indexes →
    given.home force event.index ≡ o →
    LeadTo start (deal_to s.ledger moment event o w).pieces (machine.deal_to force moment s event o)
to_leads force set moment start s w event None i h e l a k = record { fit = l.fit; lead = l.lead }
to_leads force set moment start s w event (Some name) i h e l a k =
    let v = index_view force (index_in s.indexes name) in
    let found : find view_name name w.shelves.indexes ≡ Some v =
    ap (λ (x : IndexTable). find view_name name x.indexes) e
    ∙ find_map index_name view_name (index_view force) (λ j. refl) name (fold with_fresh s.indexes (configured force))
    ∙ ap (option_map (index_view force)) (found_fresh (configured force) s.indexes name (home_listed force set event.index name i k)) in
    let it = named name event in
    let number : s.next_file ≡ w.shelves.next_file = sym (ap (λ (x : IndexTable). x.next_file) e) in
    let put : IsPut s (machine.put_event force moment s it name) (piece v.limits w.shelves.next_file it v.buckets) =
    subst (λ (n : ℕ). IsPut s (machine.put_event force moment s it name) (piece v.limits n it v.buckets)) number
    (event_put force moment s it name h.all.sound (apart_behind s h.behind) a) in
    subst (λ (x : Option IndexView). LeadTo start (put_in s.ledger moment it x w).pieces (machine.put_event force moment s it name))
    (sym found)
    (one_more start w.pieces (piece v.limits w.shelves.next_file it v.buckets) s (machine.put_event force moment s it name) l put)

deal_leads : (force : List Kept) (set : LimitSet) (moment : ℤ) (start : Contents) (s : Catalog) (w : Work) (o : Routed) → IsSet force set →
    IsOrdered s →
    w.shelves ≡ shelved force s → LeadTo start w.pieces s →
    LeadTo start (deal set s.ledger moment w o).pieces (machine.deal force moment s o)
deal_leads force set moment start s w (To event) i h e l =
    subst (λ (x : Option (List ℕ)). LeadTo start (deal_to s.ledger moment event x w).pieces (machine.deal force moment s (To event)))
    (sym (home_same force set event.index i))
    (to_leads force set moment start s w event (given.home force event.index) i h e l (ordered_deal force moment s (To event) h).ascending
    refl)
deal_leads force set moment start s w Null i h e l = record { fit = l.fit; lead = l.lead }

pub deals_lead : (force : List Kept) (set : LimitSet) (moment : ℤ) (ledger : List Entry) (start : Contents) (s : Catalog) (w : Work)
    (os : List Routed) → IsSet force set → IsOrdered s →
    s.ledger ≡ ledger → w.shelves ≡ shelved force s → LeadTo start w.pieces s →
    LeadTo start (deal_all set ledger moment w os).pieces (machine.deal_all force moment s os)
deals_lead force set moment ledger start s w [] i h g e l = l
deals_lead force set moment ledger start s w (o ∷ os) i h g e l =
    let same = subst (λ (es : List Entry). (deal set es moment w o).shelves ≡ shelved force (machine.deal force moment s o)) g
    (deal_same force set moment s w o i h.all h.ascending e) in
    let led = subst (λ (es : List Entry). LeadTo start (deal set es moment w o).pieces (machine.deal force moment s o)) g
    (deal_leads force set moment start s w o i h e l) in
    deals_lead force set moment ledger start (machine.deal force moment s o) (deal set ledger moment w o) os i
    (ordered_deal force moment s o h)
    (deal_grows force moment s o ∙ g) same led
