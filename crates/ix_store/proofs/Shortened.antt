-- A store behind a checkpoint.
use Rattle.std.proofs.Common.{◌≡◌, ◌≤◌, ◌<◌, ◌+◌, ◌*◌, ◌-◌, ◌^◌, ℕ, zero, suc, Bool, true, false, List, [], ◌∷◌, ◌++◌, length, take, refl}
use Rattle.std.proofs.Common.{sym, ap, ◌∙◌, subst, arith, inl, inr, length-append}
use Rattle.std.specs.Prelude.{Option, Some, None, if◌then◌else◌, ◌⊎◌}
use Rattle.std.specs.Int.{to_be_bytes, w64}
use Rattle.std.proofs.lemmas.List.Concat.{flat_map-append}
use Rattle.ix_base.specs.declared.files.Area.TheVariants.{Meta}
use Rattle.ix_base.specs.declared.files.File.{File}
use Rattle.ix_disk.specs.Image.{Image}
use Rattle.ix_disk.specs.Moments.{Always}
use Rattle.ix_disk.proofs.Runs.{always_weaker}
use Rattle.ix_disk.specs.declared.disk.Disk.{Ghosts}
use Rattle.ix_coding.specs.Spelling.{byte, four, eight}
use Rattle.ix_items.specs.Spelling.{item_bytes, body_bytes, field_bytes, files_bytes}
use Rattle.ix_items.specs.declared.items.Item.{Item}
use Rattle.ix_items.specs.declared.items.Item.TheVariants as items
use Rattle.ix_log.specs.Log.{blocks}
use Rattle.ix_log.proofs.Blocks.{length-blocks_push}
use Rattle.ix_manifest.specs.Book.{Name, NamedItems, named, is_same, after_item, empty, removals_in, replay, Replays}
use Rattle.ix_manifest.specs.Root.{Taken, roots, current}
use Rattle.ix_manifest.specs.Slots.{items_of}
use Rattle.ix_manifest.specs.declared.staged_item.StagedItem.{StagedItem}
use Rattle.ix_manifest.proofs.Applying.{replay_behind}
use Rattle.ix_manifest.proofs.Renaming.{same_name}
use Rattle.ix_manifest.specs.Whole.{removal, whole_body}
use Rattle.ix_commit.specs.Shortening.{shortened, Tells}
use Rattle.ix_commit.specs.Snapshot.{Snapshot, KeepsEither, AreFree, Held, NothingStaged, log_of}
use Rattle.ix_commit.proofs.Beginning.{held_always}
use Rattle.ix_commit.proofs.Holding.{nothing_staged, number_in}
use Rattle.ix_model.specs.Done.{AreLetGo}
use Rattle.ix_model.specs.Given.{Chooser}
use Rattle.ix_model.specs.Step.{state_after}
use Rattle.ix_model.specs.declared.commands.TimedCommand.{TimedCommand}
use Rattle.ix_model.proofs.Named.{by_test}
use Rattle.ix_model.specs.Snap.{snapshot_of}
use Rattle.ix_store.specs.Holding.{AreCounted, Represents}
use Rattle.ix_store.specs.Telling.{with_run}
use Rattle.ix_store.specs.Written.{over, IsOf, RecoversTo, AreDone}
use Rattle.ix_store.specs.declared.group.CommitGroup.{CommitGroup}
use Rattle.ix_store.specs.declared.store.Store.{Store}
use Rattle.ix_store.proofs.Booked.{over_other}
use Rattle.ix_store.proofs.Counted.{take_whole}

none_some : {X : Type 0} {x : X} → None ≡ Some x → ⊥
none_some e = cc

-- ---- what is told

-- the items of a state, and behind them the run, lead to what the run has written, but for the last
-- removals
pub tells_over : (told : List Item) (run : ℕ) (removed : Option Item) (book : NamedItems) → replay told empty ≡ book →
    Tells (with_run (Some run) told) (over run removed book)
tells_over told run removed book listed name other =
    ap (λ (b : NamedItems). b name) (replay_behind told (items.Run run ∷ []) empty)
    ∙ ap (λ (b : NamedItems). after_item (items.Run run) b name) listed
    ∙ ap (λ (t : Bool). if is_same (named 2 [] 0) name then Some (items.Run run) else if t then removed else book name) (sym other)

abbrev WithLog : File → ℕ → Option Item → NamedItems → Name → Type 0
WithLog log run removed book name = after_item (removal log) (over run removed book) name ≡ over run (Some (removal log)) book name

chosen : {T : Type 0} (test : Bool) (x y : T) → test ≡ false → (if test then x else y) ≡ y
chosen true x y is = absurd cc
chosen false x y is = refl

with_log : (log : File) (run : ℕ) (removed : Option Item) (book : NamedItems) (name : Name) → WithLog log run removed book name
with_log log run removed book name =
    by_test (is_same (named 2 [] 0) name)
    (λ t. subst (WithLog log run removed book) (same_name (named 2 [] 0) name t) refl)
    (λ t. by_test (is_same (named 12 [] 0) name)
    (λ u. subst (WithLog log run removed book) (same_name (named 12 [] 0) name u) refl)
    (λ u. chosen (is_same (named 12 [] 0) name) (Some (removal log)) (over run removed book name) u
    ∙ over_other run removed book name t u ∙ sym (over_other run (Some (removal log)) book name t u)))

-- with the old log as the one file that is done with
pub shortened_over : (log : File) (run : ℕ) (removed : Option Item) (book : NamedItems) →
    after_item (removal log) (over run removed book) ≡ over run (Some (removal log)) book
shortened_over log run removed book = λ i name. with_log log run removed book name i

-- ---- how much is told

long_run : (run : ℕ) → length (body_bytes (items.Run run ∷ [])) ≡ 9
unfolding item_bytes field_bytes byte eight
long_run run = refl

long_removal : (log : File) → length (body_bytes (removal log ∷ [])) ≡ 14
unfolding item_bytes field_bytes files_bytes byte four eight
long_removal log = refl

-- ---- a committed snapshot fits

abbrev Last : (NamedItems → Type 0) → NamedItems → NamedItems → Type 0
Last fits from to = (to ≡ from) ⊎ fits to

last_fits : (fits : NamedItems → Type 0) (bodies : List (List ℕ)) (from to : NamedItems) → Replays fits bodies from to → Last fits from to
last_fits fits [] from to is = inl is
last_fits fits (body ∷ bodies) from to is = by (last_fits fits bodies (replay is.0 from) to is.3)
  where
    by : Last fits (replay is.0 from) to → Last fits from to
    by (inl same) = inr (subst fits (sym same) is.2)
    by (inr fit) = inr fit

-- each number of the root log has bytes of its own
roots_longer : (k : ℕ) → 5 * k ≤ length (blocks (roots k))
roots_longer zero = omega arith
roots_longer (suc k) = omega (arith, roots_longer k, length-blocks_push (roots k) (to_be_bytes w64 (k + 2)))

module _ {D : Type 0} (g : Ghosts D) {M : Type 0} (fits : NamedItems → Type 0) (holds : Chooser → List TimedCommand → M →
    Type 0) (choose : Chooser) (h : List TimedCommand) (base : ℕ) (store : Store M) (disk : D)
    (hold : Represents g fits holds choose h base (length h) store disk) (idle : NothingStaged store.committer) where
  abbrev s : Snapshot
  s = hold.old

  abbrev log : File
  log = log_of store.committer

  log_meta : log.area ≡ Meta
  log_meta = ap (λ (f : File). f.area) hold.committed.file

  log_number : log.number < 2 ^ 63
  log_number =
      let n = ap number_in hold.committed.file in
      let place = hold.committed.root.place in
      let room = store.committer.root.in_range.0 in
      let long = roots_longer hold.committed.checkpoints in
      omega (arith, n, place, room, long)

  pub held_both : Held g fits store.committer disk s s
  held_both = record {
    usable = hold.staged.ready.usable;
    committed = hold.committed;
    stages = nothing_staged store.committer s idle.0 idle.1.0 idle.1.1;
    fit = λ some. absurd (omega (arith, some, ap length idle.1.1));
    free = subst (λ (f : File). AreFree f s) (sym hold.committed.file) hold.committed.free;
  }

  s_is : IsOf store.run s (snapshot_of choose h)
  s_is = subst (IsOf store.run s) (ap (snapshot_of choose) (take_whole h)) hold.staged.old_is

  not_empty : s.book ≡ empty → ⊥
  not_empty e = none_some (sym (ap (λ (b : NamedItems). b (named 2 [] 0)) e) ∙ ap (λ (b : NamedItems). b (named 2 [] 0)) s_is.book)

  fit_now : fits (over store.run s_is.removed (snapshot_of choose h).book)
  fit_now = by (last_fits (Taken fits (current hold.committed.checkpoints)) hold.committed.bodies empty s.book hold.committed.replayed)
    where
      by : Last (Taken fits (current hold.committed.checkpoints)) empty s.book →
          fits (over store.run s_is.removed (snapshot_of choose h).book)
      by (inl same) = absurd (not_empty same)
      by (inr taken) = subst fits s_is.book taken.fit

  abbrev short : Snapshot
  short = shortened log s

  short_book : short.book ≡ over store.run (Some (removal log)) (snapshot_of choose h).book
  short_book = ap (after_item (removal log)) s_is.book ∙ shortened_over log store.run s_is.removed (snapshot_of choose h).book

  short_is : IsOf store.run short (snapshot_of choose h)
  short_is = record { removed = Some (removal log); book = short_book; contents = s_is.contents }

  module _ (told : List Item) (listed : replay told empty ≡ (snapshot_of choose h).book)
      (law : (run : ℕ) (removed : Option Item) (f : File) → f.area ≡ Meta → f.number < 2 ^ 63 →
      fits (over run removed (snapshot_of choose h).book) → fits (over run (Some (removal f)) (snapshot_of choose h).book)) where
    pub tells : Tells (with_run (Some store.run) told) s.book
    tells = subst (Tells (with_run (Some store.run) told)) (sym s_is.book)
        (tells_over told store.run s_is.removed (snapshot_of choose h).book listed)

    pub fit_short : fits short.book
    fit_short = subst fits (sym short_book) (law store.run s_is.removed log log_meta log_number fit_now)

  pub stands_short : (image : Image) → KeepsEither fits s short image → RecoversTo fits store.run choose h image
  stands_short image (inl keeps) = record { snapshot = s; written = s_is; keeps = keeps }
  stands_short image (inr keeps) = record { snapshot = short; written = short_is; keeps = keeps }

  -- nothing was done
  pub stands_still : Always g disk disk (RecoversTo fits store.run choose h)
  stands_still = always_weaker g disk disk (KeepsEither fits s s) (RecoversTo fits store.run choose h) by
      (held_always g fits store.committer disk s s held_both)
    where
      by : (image : Image) → KeepsEither fits s s image → RecoversTo fits store.run choose h image
      by image (inl keeps) = record { snapshot = s; written = s_is; keeps = keeps }
      by image (inr keeps) = record { snapshot = s; written = s_is; keeps = keeps }

  -- nothing was made: the same is held on the disk as it is now
  pub holds_still : (later : Store M) (now : D) → later ≡ store → Held g fits store.committer now s s →
      Represents g fits holds choose h base (length h) later now
  holds_still later now same held =
      subst (λ (x : Store M). Represents g fits holds choose h base (length h) x now) (sym same)
      (record { old = s; committed = held.committed; staged = hold.staged })

  -- all is held in the new log
  pub holds_short : (later : Store M) (now : D) → Held g fits later.committer now short short → NothingStaged later.committer →
      later.memory ≡ store.memory → later.run ≡ store.run → later.drawn ≡ store.drawn → later.committed ≡ store.committed →
      later.closed ≡ store.closed → later.group ≡ store.group →
      Represents g fits holds choose h base (length h) later now
  holds_short later now held idle_now memory run drawn committed closed group =
      let st = hold.staged in
      let is : IsOf later.run short (snapshot_of choose h) = subst (λ (r : ℕ). IsOf r short (snapshot_of choose h)) (sym run) short_is in
      record {
        old = short;
        committed = held.committed;
        staged = record {
          from_base = st.from_base;
          within = st.within;
          memory = subst (holds choose h) (sym memory) st.memory;
          old_is = subst (IsOf later.run short) (ap (snapshot_of choose) (sym (take_whole h))) is;
          new = short;
          new_is = is;
          run = subst (λ (r : ℕ). r < 2 ^ 63) (sym run) st.run;
          is_open = closed ∙ st.is_open;
          ready = record {
            usable = held.usable;
            logged = ap (λ (f : File). f.area) held.committed.file;
            stages = held.stages;
            fit = held.fit;
            free = held.free;
          };
          idle = λ whole. idle_now;
          done = subst (λ (x : CommitGroup). AreDone (state_after choose h).catalog x.done_with) (sym group) st.done;
          removals = ap (λ (l : List StagedItem). removals_in (replay (items_of l) empty)) (idle_now.1.1 ∙ sym (st.idle refl).1.1)
              ∙ st.removals ∙ ap (λ (x : CommitGroup). x.done_with) (sym group);
          let_go = subst (λ (x : CommitGroup). AreLetGo (state_after choose (take (length h) h)).catalog (state_after choose h).catalog
              x.done_with) (sym group) st.let_go;
          counted = subst (λ (x : CommitGroup). AreCounted later.drawn later.committed x h base (length h)) (sym group)
              (subst (λ (n : ℕ). AreCounted n later.committed store.group h base (length h)) (sym drawn)
              (subst (λ (n : ℕ). AreCounted store.drawn n store.group h base (length h)) (sym committed) st.counted));
        };
      }

-- all of it has room in one body
pub room_for : (told : List Item) (run : ℕ) (log : File) → length (body_bytes told) < 2 ^ 32 - 64 →
    length (whole_body (with_run (Some run) told) log) < 2 ^ 32
room_for told run log few =
    let with_it = told ++ items.Run run ∷ [] in
    omega (
      arith,
      few,
      ap length (flat_map-append item_bytes with_it (removal log ∷ [])),
      length-append (body_bytes with_it) (body_bytes (removal log ∷ [])),
      ap length (flat_map-append item_bytes told (items.Run run ∷ [])),
      length-append (body_bytes told) (body_bytes (items.Run run ∷ [])),
      long_run run,
      long_removal log,
    )
