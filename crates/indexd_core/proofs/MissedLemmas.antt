-- An index whose name is too long for one is missed once the store is open.
use Rattle.std.proofs.Common.{◌≡◌, ◌≤◌, ℕ, ℤ, Bool, true, false, List, [], ◌∷◌, map, length, take, refl, sym, ap, subst}
use Rattle.std.proofs.Common.{inl, inr, ◌⊎◌, arith}
use Rattle.std.specs.Prelude.{Option, Some, None, Err, is_some, is_none, ◌==◌, ◌&&◌, nat_lt, codes, bytes_eq, filter, if◌then◌else◌}
use Rattle.std.specs.List.{AllByRecursion}
use Rattle.ix_base.specs.Clocks.{Moments, Answered}
use Rattle.ix_base.specs.Told.{Told}
use Rattle.ix_base.specs.declared.events.ChannelMeta.{ChannelMeta}
use Rattle.ix_manifest.specs.Book.{NamedItems}
use Rattle.ix_conf.specs.Value.{is_at, entry_at}
use Rattle.ix_conf.specs.declared.layers.MergedEntry.{MergedEntry}
use Rattle.ix_disk.specs.Moments.{Always}
use Rattle.ix_disk.specs.declared.disk.Disk.{Ghosts}
use Rattle.ix_items.specs.declared.items.Kept.{Kept}
use Rattle.ix_state.specs.Configs.{IsConfig}
use Rattle.ix_state.specs.Taken.{IsTaken, AreGiven}
use Rattle.ix_life.specs.Stanzas.{is_index_stanza}
use Rattle.ix_life.specs.declared.limits.Limits.{Limits}
use Rattle.ix_life.specs.declared.sets.LimitSet.{LimitSet}
use Rattle.ix_model.proofs.Following.{after_more}
use Rattle.ix_model.proofs.Named.{by_test, same_bytes}
use Rattle.ix_model.specs.Given.{Chooser, entry, entries, is_configured, limits}
use Rattle.ix_model.specs.State.{State, empty}
use Rattle.ix_model.specs.Step.{state_after}
use Rattle.ix_model.specs.declared.commands.Config.{Config}
use Rattle.ix_model.specs.declared.commands.TimedCommand.{TimedCommand}
use Rattle.ix_run.specs.Giving.{given_all}
use Rattle.ix_model.specs.Shelved.{IsSet}
use Rattle.ix_store.specs.Holding.{Represents}
use Rattle.ix_store.specs.Written.{RecoversTo}
use Rattle.ix_store.specs.declared.store.Store.{Store}
use Rattle.indexd_run.specs.Ends.{same_entry, same_kept}
use Rattle.indexd_run.specs.Opened as opened
use Rattle.indexd_run.specs.Opened.{configuring, Configures, HasOpened, HasStopped, Past, course}
use Rattle.indexd_run.specs.Previews.{is_missing_in, HasFed, Fed, Misses}
use Rattle.indexd_run.specs.Shortened.{IsOfCheckpoint}
use Rattle.indexd_run.specs.Stops.{loses}
use Rattle.indexd_run.specs.declared.stop.Stop.{Stop}
use Rattle.indexd_run.specs.declared.stop.Stop.TheVariants as stops
use Rattle.indexd_run.proofs.Feeding.{none_fed}
use Rattle.indexd_run.proofs.Joining.{front_has, begun_taken, fed_when}
use Rattle.indexd_run.proofs.Shortening.{stopped_short, fed_stop}
use Rattle.indexd_run.proofs.Tasks.{none_given}
use Rattle.indexd_core.specs.Stored.{is_long}

both_are : (a b : Bool) → (a && b) ≡ true → (a ≡ true) × (b ≡ true)
both_are true b e = (refl, e)
both_are false b e = absurd (cc)

-- ---- settings that are the same

same_numbers : (a b : ℕ) → (a == b) ≡ true → a ≡ b
same_numbers a b e = grind arith

same_of : (a b : Kept) → same_entry a b ≡ true → a ≡ b
same_of a b e =
    let file = both_are (a.file == b.file) _ e in
    let stanza = both_are (bytes_eq a.stanza b.stanza) _ file.1 in
    let key = both_are (bytes_eq a.key b.key) (bytes_eq a.value b.value) stanza.1 in
    let file_is = same_numbers a.file b.file file.0 in
    let stanza_is = same_bytes a.stanza b.stanza stanza.0 in
    let key_is = same_bytes a.key b.key key.0 in
    let value_is = same_bytes a.value b.value key.1 in
    λ i. record { file = file_is i; stanza = stanza_is i; key = key_is i; value = value_is i }

all_same : (a b : List Kept) → same_kept a b ≡ true → a ≡ b
all_same [] [] e = refl
all_same [] (b ∷ bs) e = absurd (cc)
all_same (a ∷ more) [] e = absurd (cc)
all_same (a ∷ more) (b ∷ bs) e =
    let both = both_are (same_entry a b) (same_kept more bs) e in
    let here = same_of a b both.0 in
    let behind = all_same more bs both.1 in
    λ i. here i ∷ behind i

-- the settings of a run that is open are those that it was given
in_force : (choose : Chooser) (mounted configured : List TimedCommand) (config : Config) (is_same : Bool) →
    opened.is_configured choose mounted config ≡ is_same →
    Configures is_same config configured → (state_after choose (given_all choose mounted configured)).force ≡ config.kept
in_force choose mounted configured config true same none =
    subst (λ (orders : List TimedCommand). (state_after choose (given_all choose mounted orders)).force ≡ config.kept) (sym none)
    (all_same (state_after choose mounted).force config.kept same)
in_force choose mounted configured config false other one =
    subst (λ (orders : List TimedCommand). (state_after choose (given_all choose mounted orders)).force ≡ config.kept) (sym one.1)
    (ap (λ (m : State). m.force) (after_more choose empty mounted (configuring config one.0 ∷ [])))

-- ---- names of indexes are short

abbrev IsBrief : List ℕ → Type 0
IsBrief name = length name ≤ 1024

abbrev AreBrief : List Kept → Type 0
AreBrief force = AllByRecursion (λ (kept : Kept). length kept.stanza ≤ 1024) force

abbrev EntriesAreBrief : List MergedEntry → Type 0
EntriesAreBrief es = AllByRecursion (λ (e : MergedEntry). length e.stanza ≤ 1024) es

some_of : (test : Kept → Bool) (force : List Kept) → AreBrief force → EntriesAreBrief (map entry (filter test force))
some_of test [] h = tt
some_of test (k ∷ force) h =
    by_test (test k)
    (λ t. rw t (h.0, some_of test force h.1))
    (λ t. rw t (some_of test force h.1))

entry_brief : (name : List ℕ) (es : List MergedEntry) → EntriesAreBrief es → is_some (entry_at name [] es) ≡ true → IsBrief name
entry_brief name [] h e = absurd (cc)
entry_brief name (x ∷ es) h e =
    by_test (is_at name [] x)
    (λ t. subst IsBrief (sym (same_bytes name x.stanza (both_are (bytes_eq name x.stanza) (bytes_eq [] x.key) t).0)) h.0)
    (λ t. entry_brief name es h.1 (rw t at e))

pub configured_brief : (force : List Kept) (name : List ℕ) → AreBrief force → is_configured force name ≡ true → IsBrief name
configured_brief force name h e =
    by_test (bytes_eq name (codes "main"))
    (λ t. subst IsBrief (sym (same_bytes name (codes "main") t)) (let short : 4 ≤ 1024 = omega arith in short))
    (λ t. (let both = both_are (is_index_stanza name) (is_some (entry_at name [] (entries force))) (rw t at e) in
    entry_brief name (entries force) (some_of (λ (kept : Kept). kept.file == 3) force h) both.1))

too_long : (n : ℕ) → nat_lt 1024 n ≡ true → n ≤ 1024 → ⊥
too_long n long brief = grind arith

unless : (b : Bool) (found : Limits) → (b ≡ true → ⊥) → is_none (if b then Some found else None) ≡ true
unless true found not = absurd (not refl)
unless false found not = refl

missing_in : (force : List Kept) (set : LimitSet) (index : Option (List ℕ)) → AreBrief force → IsSet force set → is_long index ≡ true →
    is_missing_in set index ≡ true
missing_in force set None brief is long = absurd (cc)
missing_in force set (Some index) brief is long =
    subst (λ (found : Option Limits). is_none found ≡ true) (sym (is.limits.limits index))
    (unless (is_configured force index) (limits force index)
    (λ there. too_long (length index) long (configured_brief force index brief there)))

-- ---- the run

missed_by : (choose : Chooser) (begun : List TimedCommand) (config : Config) (origin : ChannelMeta) → IsConfig config →
    (state_after choose begun).force ≡ config.kept →
    is_long origin.index ≡ true → Misses choose begun origin true
missed_by choose begun config origin is forced long = record {
  limits = config.limits;
  in_force = subst (λ (force : List Kept). IsSet force config.limits) (sym forced) is.limits;
  answers = missing_in config.kept config.limits origin.index is.stanzas is.limits long;
}

-- it ends so, or its checkpoint stops it
pub missed : {D : Type 0} (d : Ghosts D) {M : Type 0} (fits : NamedItems → Type 0) (holds : Chooser → List TimedCommand → M →
    Type 0) (past : Past) (config : Config) (store later : Store M) (ahead mid ahead' : Option Moments) (first at last : D)
    (origin : ChannelMeta)
    (left : Option (List ℕ)) (moment : ℤ) (other : Stop) →
    IsConfig config → is_long origin.index ≡ true → AreGiven past.history →
    HasOpened d fits holds past (course config ahead mid first at) store → Told (Answered moment) mid ahead' →
    later.run ≡ store.run → (other ≡ stops.NotFound) ⊎ IsOfCheckpoint other →
    ((now : List TimedCommand) (base : ℕ) → AreGiven now → Represents d fits holds past.choose now base (length now) store at →
    Always d at last (RecoversTo fits store.run past.choose now)) →
    (loses other ≡ false → (now : List TimedCommand) (base : ℕ) → AreGiven now →
    Represents d fits holds past.choose now base (length now) store at →
    Represents d fits holds past.choose now base (length now) later last) →
    HasStopped other d IsTaken fits past (course config ahead ahead' first last) (left ≡ left)
    (HasFed past.choose origin (Err other) ahead' left left)
missed d fits holds past config store later ahead mid ahead' first at last origin left moment other is long given ready told
    same why images held =
    let begun : List TimedCommand = given_all past.choose (take ready.count past.history) ready.configured in
    let forced : (state_after past.choose begun).force ≡ config.kept =
    in_force past.choose (take ready.count past.history) ready.configured config
    (opened.is_configured past.choose (take ready.count past.history) config) refl
    ready.configures in
    let all : AreGiven begun = begun_taken IsTaken (λ moment. tt) past.choose (take ready.count past.history) config
    (opened.is_configured past.choose (take ready.count past.history) config) ready.configured (λ moment. is)
    (front_has IsTaken ready.count past.history given) ready.configures in
    let fed = none_fed past.choose ready.count begun origin moment left (missed_by past.choose begun config origin is forced long) in
    inr (fed_when d fits holds past config store ahead mid first at last ready later origin moment ahead' told left left
    IsTaken (Err other)
    (stopped_short d fits store.run holds IsTaken past.choose begun ready.count store later at at last stops.NotFound other
    (λ orders. orders ≡ []) (λ orders. Fed past.choose ready.count begun origin moment (Err other) left left orders
    × AreGiven (given_all past.choose begun orders))
    (λ orders none. (
      subst (λ (os : List TimedCommand). Fed past.choose ready.count begun origin moment (Err other) left left os) (sym none)
          (fed_stop past.choose ready.count begun origin moment stops.NotFound other left left [] why fed),
      subst (λ (os : List TimedCommand). AreGiven (given_all past.choose begun os)) (sym none) all,
    ))
    (λ orders none. subst (λ (os : List TimedCommand). AreGiven (given_all past.choose begun os)) (sym none) all)
    same (λ lost. absurd (cc)) (λ kept now taken hold. images now ready.count taken hold)
    (λ kept also now taken hold. held also now ready.count taken hold)
    (none_given d fits holds past.choose begun ready.count store at (λ orders. orders ≡ []) refl ready.hold)))

-- only the disk is at fault where it says so
pub by_disk : (P : Type 0) → (stops.NotFound ≡ stops.Disk) ⊎ P → P
by_disk P (inl is) = absurd (cc)
by_disk P (inr rose) = rose
