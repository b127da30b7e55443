-- No event goes to a volume, whatever settings were in force.
use Rattle.std.proofs.Common.{◌≡◌, ℕ, ◌+◌, ℤ, Bool, true, false, List, [], ◌∷◌, ◌++◌, map, refl, ap, subst}
use Rattle.std.specs.Prelude.{Option, Some, None, ◌&&◌, ◌||◌, not, is_some, if◌then◌else◌, codes, bytes_eq}
use Rattle.std.specs.List.{AllByRecursion, flat_map}
use Rattle.ix_base.specs.declared.events.Event.{Event}
use Rattle.ix_base.specs.declared.events.Routed.{Routed}
use Rattle.ix_base.specs.declared.events.Routed.TheVariants.{To, Null}
use Rattle.ix_conf.specs.Value.{entry_at}
use Rattle.ix_conf.specs.declared.layers.MergedEntry.{MergedEntry}
use Rattle.ix_items.specs.declared.items.Kept.{Kept}
use Rattle.ix_life.specs.Limits.{listed_with, listed_at, main_of, listed, named as limits_named}
use Rattle.ix_life.specs.Stanzas.{is_default, is_volume, is_index_stanza, is_index}
use Rattle.ix_life.specs.declared.sets.IndexLimits.{IndexLimits}
use Rattle.ix_life.specs.declared.sets.LimitSet.{LimitSet}
use Rattle.ix_model.specs.Buckets.{Index}
use Rattle.ix_model.specs.Given.{Chooser, entries, is_configured, home}
use Rattle.ix_model.specs.State.{State, Catalog, index_name, fresh_index, empty}
use Rattle.ix_model.specs.Step.{filled, deal_to, deal, deal_all, outcomes, files_taken, all_turned, closed_index, thawed_index, moves}
use Rattle.ix_model.specs.Step.{force, effective, step, after_from}
use Rattle.ix_model.specs.declared.commands.Command.{Command}
use Rattle.ix_model.specs.declared.commands.Command.TheVariants.{Begin, Block, End, Tick, Roll, Thaw, Configure, Direct}
use Rattle.ix_model.specs.declared.commands.TimedCommand.{TimedCommand}
use Rattle.ix_model.proofs.Named.{by_test, same_bytes, all_change, all_change_or_insert}
use Rattle.ix_catalog.specs.Buckets.{named}
use Rattle.ix_model.specs.Shelved.{IsSet}
use Rattle.ix_model.proofs.Homes.{home_listed}
use Rattle.ix_model.proofs.Listing.{among}
use Rattle.ix_bounds.specs.Names.{CommandBringsLimits, BringsLimits, HasName, NamesAreNoVolumes}

some_same : {X : Type 0} {x y : X} → Some x ≡ Some y → x ≡ y
some_same e = cc

none_some : {X : Type 0} {x : X} → None ≡ Some x → ⊥
none_some e = cc

-- ---- names of indexes

stanza_no_volume : (d v : Bool) → (not d && not v) ≡ true → v ≡ false
stanza_no_volume true v e = cc
stanza_no_volume false true e = cc
stanza_no_volume false false e = refl

index_no_volume : (m d v s : Bool) → (m ≡ true → v ≡ false) → (m || ((not d && not v) && s)) ≡ true → v ≡ false
index_no_volume true d v s h e = h refl
index_no_volume false true v s h e = cc
index_no_volume false false true s h e = cc
index_no_volume false false false s h e = refl

main_no_volume : (name : List ℕ) → bytes_eq name (codes "main") ≡ true → is_volume name ≡ false
main_no_volume name t = ap is_volume (same_bytes name (codes "main") t)

pub no_volume : (es : List MergedEntry) (name : List ℕ) → is_index es name ≡ true → is_volume name ≡ false
no_volume es name t =
    index_no_volume (bytes_eq name (codes "main")) (is_default name) (is_volume name) (is_some (entry_at name [] es)) (main_no_volume name)
    t

abbrev IsIndexName : List ℕ → Type 0
IsIndexName name = is_volume name ≡ false

all_behind : (xs ys : List IndexLimits) → AllByRecursion (λ (x : IndexLimits). IsIndexName x.name) xs →
    AllByRecursion (λ (x : IndexLimits). IsIndexName x.name) ys →
    AllByRecursion (λ (x : IndexLimits). IsIndexName x.name) (xs ++ ys)
all_behind [] ys h k = k
all_behind (x ∷ xs) ys h k = (h.0, all_behind xs ys h.1 k)

one_listed : (all : List MergedEntry) (e : MergedEntry) (key : List ℕ) →
    AllByRecursion (λ (x : IndexLimits). IsIndexName x.name) (listed_with all e key)
one_listed all e (b ∷ key) = tt
one_listed all e [] =
    by_test (is_index_stanza e.stanza)
    (λ t. rw t (stanza_no_volume (is_default e.stanza) (is_volume e.stanza) t, tt))
    (λ t. rw t tt)

all_listed : (all es : List MergedEntry) → AllByRecursion (λ (x : IndexLimits). IsIndexName x.name) (flat_map (listed_at all) es)
all_listed all [] = tt
all_listed all (e ∷ es) = all_behind (listed_at all e) (flat_map (listed_at all) es) (one_listed all e e.key) (all_listed all es)

main_listed : (all : List MergedEntry) (o : Option MergedEntry) →
    AllByRecursion (λ (x : IndexLimits). IsIndexName x.name) (if is_some o then [] else limits_named all (codes "main") ∷ [])
main_listed all (Some e) = tt
main_listed all None = (refl, tt)

listed_names : (es : List MergedEntry) → AllByRecursion (λ (x : IndexLimits). IsIndexName x.name) (listed es)
listed_names es = all_behind (flat_map (listed_at es) es) (main_of es) (all_listed es es) (main_listed es (entry_at (codes "main") [] es))

found_name : (xs : List IndexLimits) (name : List ℕ) → AllByRecursion (λ (x : IndexLimits). IsIndexName x.name) xs →
    among (map (λ (x : IndexLimits). x.name) xs) name ≡ true →
    IsIndexName name
found_name [] name h t = absurd (false_true t)
  where
    false_true : false ≡ true → ⊥
    false_true e = cc
found_name (x ∷ xs) name h t =
    by_test (bytes_eq x.name name)
    (λ u. subst IsIndexName (same_bytes x.name name u) h.0)
    (λ u. found_name xs name h.1 (rw u at t))

-- ---- where events go

abbrev GoesToIndexes : List Kept → Type 0
GoesToIndexes kept = (index name : List ℕ) → home kept index ≡ Some name → IsIndexName name

by_set : (kept : List Kept) (set : LimitSet) → IsSet kept set → GoesToIndexes kept
by_set kept set h = λ index name e. found_name (listed (entries kept)) name (listed_names (entries kept))
    (home_listed kept set index name h e)

by_none : GoesToIndexes []
by_none = λ index name e.
    by_test (is_configured [] index)
    (λ t. subst IsIndexName (some_same (rw t at e)) (no_volume (entries []) index t))
    (λ t. absurd (none_some (rw t at e)))

by_command : (old : List Kept) (command : Command) → CommandBringsLimits command → GoesToIndexes old → GoesToIndexes (force old command)
by_command old (Begin channel meta) b h = h
by_command old (Block channel bytes spot) b h = h
by_command old (End channel) b h = h
by_command old Tick b h = h
by_command old (Roll index) b h = h
by_command old (Thaw index id) b h = h
by_command old (Configure config) b h = by_set config.kept config.limits b
by_command old (Direct events) b h = h

-- ---- the catalog

abbrev AreNamed : Catalog → Type 0
AreNamed s = AllByRecursion HasName s.indexes

one_dealt : (kept : List Kept) (moment : ℤ) (s : Catalog) (event : Event) (o : Option (List ℕ)) →
    ((name : List ℕ) → o ≡ Some name → IsIndexName name) → AreNamed s →
    AreNamed (deal_to kept moment s event o)
one_dealt kept moment s event None g h = h
one_dealt kept moment s event (Some name) g h =
    all_change_or_insert HasName index_name name (filled kept moment s.next_file (s.counts.placed + 1) (named name event))
    (fresh_index name) s.indexes h
    (λ i p. p) (g name refl)

dealt : (kept : List Kept) (moment : ℤ) (s : Catalog) (o : Routed) → GoesToIndexes kept → AreNamed s → AreNamed (deal kept moment s o)
dealt kept moment s (To event) g h = one_dealt kept moment s event (home kept event.index) (g event.index) h
dealt kept moment s Null g h = h

all_dealt : (kept : List Kept) (moment : ℤ) (s : Catalog) (os : List Routed) → GoesToIndexes kept → AreNamed s →
    AreNamed (deal_all kept moment s os)
all_dealt kept moment s [] g h = h
all_dealt kept moment s (o ∷ os) g h = all_dealt kept moment (deal kept moment s o) os g (dealt kept moment s o g h)

turned : (kept : List Kept) (moment : ℤ) (file : ℕ) (is : List Index) → AllByRecursion HasName is →
    AllByRecursion HasName (all_turned kept moment file is)
turned kept moment file [] h = tt
turned kept moment file (i ∷ is) h = (h.0, turned kept moment (file + files_taken kept moment i) is h.1)

moved : (kept : List Kept) (command : Command) (moment : ℤ) (s : Catalog) → AreNamed s → AreNamed (moves kept command moment s)
moved kept (Begin channel meta) moment s h = h
moved kept (Block channel bytes spot) moment s h = h
moved kept (End channel) moment s h = h
moved kept Tick moment s h = turned kept moment s.next_file s.indexes h
moved kept (Roll index) moment s h = all_change HasName index_name index closed_index s.indexes h (λ i p. p)
moved kept (Thaw index id) moment s h = all_change HasName index_name index (thawed_index id s.next_file) s.indexes h (λ i p. p)
moved kept (Configure config) moment s h = h
moved kept (Direct events) moment s h = h

one_step : (choose : Chooser) (m : State) (o : TimedCommand) → GoesToIndexes m.force → AreNamed m.catalog →
    AreNamed (step choose m o).catalog
one_step choose m o g h =
    let moment = effective m.last o.moment in
    moved m.force o.command moment (deal_all m.force moment m.catalog (outcomes choose m o.command moment))
    (all_dealt m.force moment m.catalog (outcomes choose m o.command moment) g h)

all_steps : (choose : Chooser) (m : State) (history : List TimedCommand) → AllByRecursion BringsLimits history → GoesToIndexes m.force →
    AreNamed m.catalog →
    AreNamed (after_from choose m history).catalog
all_steps choose m [] b g h = h
all_steps choose m (o ∷ history) b g h = all_steps choose (step choose m o) history b.1 (by_command m.force o.command b.0 g)
    (one_step choose m o g h)

pub names_are_no_volumes : NamesAreNoVolumes
names_are_no_volumes choose history b = all_steps choose empty history b by_none tt
