-- A Roll does on the shelves what it does in the machine.
use Rattle.std.proofs.Common.{◌≡◌, ℕ, suc, Bool, List, [], ◌∷◌, ◌++◌, map, refl, sym, ap, ◌∙◌}
use Rattle.std.specs.Prelude.{None, Some, fold, if◌then◌else◌, option_to_list}
use Rattle.std.proofs.lemmas.List.{map-append}
use Rattle.ix_base.specs.declared.events.Event.{Event}
use Rattle.ix_items.specs.declared.items.Bucket.{Bucket}
use Rattle.ix_items.specs.declared.items.Kept.{Kept}
use Rattle.ix_life.specs.Placing.{takes_events}
use Rattle.ix_model.specs.Buckets.{Standing, live, frozen, Slot, listed, buckets}
use Rattle.ix_model.specs.Keeping.{closed_slot}
use Rattle.ix_model.specs.Keeping as kept
use Rattle.ix_model.specs.Placed.{change_live}
use Rattle.ix_model.specs.Shown.{configured, with_fresh, index_view}
use Rattle.ix_model.specs.State.{Catalog, index_name}
use Rattle.ix_model.specs.Step.{closed_index}
use Rattle.ix_model.specs.Step as machine
use Rattle.ix_model.specs.Sums.{IsStandingOf, AreSoundFrom, IsSound}
use Rattle.ix_model.proofs.Named.{all_found}
use Rattle.ix_model.proofs.Stepping.{AllSound}
use Rattle.ix_catalog.specs.Buckets.{rolled, rolled_if_open}
use Rattle.ix_catalog.specs.Lists.{AreAscending}
use Rattle.ix_catalog.specs.Shelves.{view_name, with_buckets, with_indexes}
use Rattle.ix_catalog.specs.Turning.{rolled_index, roll}
use Rattle.ix_life.specs.declared.views.IndexView.{IndexView}
use Rattle.ix_model.specs.Shelved.{shelved}
use Rattle.ix_model.proofs.Listing.{sound_fresh, change_fresh}
use Rattle.ix_model.proofs.Names.{change_map}

one_closed : (index : List ℕ) (id : ℕ) (events : List Event) (standing : Standing) → IsStandingOf index id events standing →
    map rolled_if_open (option_to_list (listed standing)) ≡ option_to_list (listed (change_live kept.closed standing))
one_closed index id events (live b) h = refl
one_closed index id events (frozen e None) h = refl
one_closed index id events (frozen e (Some b)) h =
    ap (λ (x : Bool). (if x then rolled b else b) ∷ []) (ap takes_events h.1.state_is)

buckets_closed : (index : List ℕ) (id : ℕ) (slots : List Slot) → AreSoundFrom index id slots →
    map rolled_if_open (buckets slots) ≡ buckets (map closed_slot slots)
buckets_closed index id [] h = refl
buckets_closed index id (s ∷ slots) h =
    map-append rolled_if_open (option_to_list (listed s.standing)) (buckets slots)
    ∙ ap (λ (bs : List Bucket). bs ++ map rolled_if_open (buckets slots)) (one_closed index id s.events s.standing h.0)
    ∙ ap (λ (bs : List Bucket). option_to_list (listed (change_live kept.closed s.standing))
    ++ bs) (buckets_closed index (suc id) slots h.1)

pub rolls_same : (force : List Kept) (index : List ℕ) (s : Catalog) → AllSound s → AreAscending index_name s.indexes →
    roll index (shelved force s) ≡ shelved force (machine.roll index s)
rolls_same force index s h l =
    let seen = fold with_fresh s.indexes (configured force) in
    let sound = sound_fresh (configured force) s.indexes h in
    ap (λ (is : List IndexView). with_indexes is s.next_file (shelved force s))
    (change_map index_name view_name (index_view force) (λ i. refl) closed_index rolled_index index seen
    (λ i e. ap (λ (bs : List Bucket). with_buckets bs (index_view force i))
    (buckets_closed i.name 0 i.slots (all_found IsSound index_name index i seen sound e)))
    ∙ ap (map (index_view force)) (sym (change_fresh (configured force) s.indexes index closed_index (λ i. refl) (λ n. refl) l)))
