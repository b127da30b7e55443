-- A store that is committed, and one that is mounted.
use Rattle.std.proofs.Common.{◌≡◌, ◌≢◌, ◌≤◌, ◌<◌, ◌^◌, ℕ, zero, suc, Bool, true, false, List, [], ◌∷◌, length, take, drop, refl, sym, ap}
use Rattle.std.proofs.Common.{◌∙◌, subst, arith, inl, inr}
use Rattle.std.specs.Prelude.{Option, Some, None, Result, Err, ◌⊎◌, ◌==◌, ◌+◌, if◌then◌else◌, nat_lt, not}
use Rattle.std.specs.List.{AllByRecursion}
use Rattle.std.proofs.lemmas.Bool.Decides.{nat_tests}
use Rattle.ix_base.specs.declared.files.File.{File}
use Rattle.ix_disk.specs.Image.{Image}
use Rattle.ix_disk.specs.declared.disk.Disk.{Ghosts}
use Rattle.ix_items.specs.declared.items.Item.{Item}
use Rattle.ix_items.specs.declared.items.Item.TheVariants as items
use Rattle.ix_manifest.specs.Book.{Name, NamedItems, NoneUnder, named, name_of, is_same, run_of, run_in, removals_in, replay, empty}
use Rattle.ix_manifest.specs.Book.{Replays, has_settings}
use Rattle.ix_manifest.specs.Root.{Taken}
use Rattle.ix_manifest.specs.Slots.{items_of}
use Rattle.ix_manifest.specs.declared.staged_item.StagedItem.{StagedItem}
use Rattle.ix_manifest.proofs.InPlace.{none_under}
use Rattle.ix_manifest.proofs.Renaming.{same_name}
use Rattle.ix_commit.specs.Mounting.{IsFamily, AllKeep, IsMountedAt, IsPending}
use Rattle.ix_commit.specs.Reads.{first_items, next_run}
use Rattle.ix_commit.specs.Snapshot.{Snapshot, KeepsEither, Held, NothingStaged, IsLike, log_of}
use Rattle.ix_commit.specs.declared.committer.Committer.{Committer}
use Rattle.ix_commit.specs.declared.mounting.MountFault.{MountFault as KeptFault}
use Rattle.ix_commit.specs.declared.mounting.MountFault.TheVariants as kept
use Rattle.ix_commit.specs.declared.mounting.PendingMount.{PendingMount}
use Rattle.ix_commit.proofs.Pending.{either, pending_now, pending_like}
use Rattle.ix_model.specs.Done.{AreLetGo}
use Rattle.ix_model.specs.Given.{Chooser}
use Rattle.ix_model.specs.Step.{state_after}
use Rattle.ix_model.specs.declared.commands.TimedCommand.{TimedCommand}
use Rattle.ix_model.proofs.Named.{by_test}
use Rattle.ix_model.specs.Snap.{snapshot_of, snapshot_of_prefix}
use Rattle.ix_model.proofs.Family.{family}
use Rattle.ix_store.specs.Counting.{numbers, weights, has_turn, capped}
use Rattle.ix_store.specs.Faults.{fault_of}
use Rattle.ix_store.specs.Written.{over, IsOf, RecoversTo, AreDone}
use Rattle.ix_store.specs.Holding.{AreCounted, IsReady, Represents, IsMounted}
use Rattle.ix_store.specs.declared.fault.MountFault.{MountFault}
use Rattle.ix_store.specs.declared.fault.MountFault.TheVariants as faults
use Rattle.ix_store.specs.declared.group.CommitGroup.{CommitGroup}
use Rattle.ix_store.specs.declared.store.Store.{Store}
use Rattle.ix_store.proofs.Going.{let_none_go}
use Rattle.ix_store.proofs.Counted.{drop_taken, drop_whole, take_whole, take_taken, length_taken, not_below}

-- ---- a commit

pub held_of : {D : Type 0} (g : Ghosts D) {M : Type 0} (fits : NamedItems → Type 0) (holds : Chooser → List TimedCommand → M →
    Type 0) (choose : Chooser) (h : List TimedCommand) (base k : ℕ) (store : Store M) (disk : D) →
    (hold : Represents g fits holds choose h base k store disk) → Held g fits store.committer disk hold.old hold.staged.new
held_of g fits holds choose h base k store disk hold =
    let r = hold.staged.ready in
    record { usable = r.usable; committed = hold.committed; stages = r.stages; fit = r.fit; free = r.free }

pub stands_either : {D : Type 0} (g : Ghosts D) {M : Type 0} (fits : NamedItems → Type 0) (holds : Chooser → List TimedCommand → M →
    Type 0) (choose : Chooser) (h : List TimedCommand) (base k : ℕ) (store : Store M) (disk : D) →
    (hold : Represents g fits holds choose h base k store disk) (image : Image) → KeepsEither fits hold.old hold.staged.new image →
    RecoversTo fits store.run choose (take k h) image ⊎ RecoversTo fits store.run choose h image
stands_either g fits holds choose h base k store disk hold image (inl keeps) =
    inl (record { snapshot = hold.old; written = hold.staged.old_is; keeps = keeps })
stands_either g fits holds choose h base k store disk hold image (inr keeps) =
    inr (record { snapshot = hold.staged.new; written = hold.staged.new_is; keeps = keeps })

ready_of : {D : Type 0} (g : Ghosts D) (fits : NamedItems → Type 0) (committer : Committer) (disk : D) (s : Snapshot) →
    Held g fits committer disk s s → IsReady fits committer s s
ready_of g fits committer disk s held = record {
  usable = held.usable;
  logged = ap (λ (f : File). f.area) held.committed.file;
  stages = held.stages;
  fit = held.fit;
  free = held.free;
}

-- all is committed
counted_all : (drawn : ℕ) (group next : CommitGroup) (h : List TimedCommand) (base k : ℕ) (committed new_drawn : ℕ) →
    AreCounted drawn committed group h base k → new_drawn ≡ drawn →
    next.weight ≡ 0 → next.turned ≡ false → next.waiting ≡ false → AreCounted new_drawn drawn next h base (length h)
counted_all drawn group next h base k committed new_drawn counted same weight turned waiting = record {
  drawn_are = same ∙ counted.drawn_are;
  committed_are = counted.drawn_are ∙ ap (λ (l : List TimedCommand). numbers (drop base l)) (sym (take_whole h));
  weight = weight ∙ ap (λ (l : List TimedCommand). capped (weights l)) (sym (drop_whole h));
  turned = turned ∙ ap has_turn (sym (drop_whole h));
  waiting = waiting ∙ sym (not_below (length h));
}

pub holds_all : {D : Type 0} (g : Ghosts D) {M : Type 0} (fits : NamedItems → Type 0) (holds : Chooser → List TimedCommand → M →
    Type 0) (choose : Chooser) (h : List TimedCommand) (base k : ℕ) (before store : Store M) (was disk : D) →
    (hold : Represents g fits holds choose h base k before was) → Held g fits store.committer disk hold.staged.new hold.staged.new →
    NothingStaged store.committer →
    store.memory ≡ before.memory → store.run ≡ before.run → store.drawn ≡ before.drawn → store.committed ≡ before.drawn →
    store.closed ≡ before.closed →
    store.group.done_with ≡ [] → store.group.weight ≡ 0 → store.group.turned ≡ false → store.group.waiting ≡ false →
    Represents g fits holds choose h base (length h) store disk
holds_all g fits holds choose h base k before store was disk hold held idle memory run drawn committed closed done weight turned waiting =
    let st = hold.staged in
    let whole : snapshot_of choose h ≡ snapshot_of_prefix choose h (length h) = ap (snapshot_of choose) (sym (take_whole h)) in
    let is : IsOf store.run st.new (snapshot_of choose h) = subst (λ (r : ℕ). IsOf r st.new (snapshot_of choose h)) (sym run) st.new_is in
    record {
      old = st.new;
      committed = held.committed;
      staged = record {
        from_base = (let a = st.from_base in let b = st.within in omega (arith, a, b));
        within = omega arith;
        memory = subst (holds choose h) (sym memory) st.memory;
        old_is = subst (IsOf store.run st.new) whole is;
        new = st.new;
        new_is = is;
        run = subst (λ (r : ℕ). r < 2 ^ 63) (sym run) st.run;
        is_open = closed ∙ st.is_open;
        ready = ready_of g fits store.committer disk st.new held;
        idle = λ whole. idle;
        done = subst (AreDone (state_after choose h).catalog) (sym done) tt;
        removals = ap (λ (l : List StagedItem). removals_in (replay (items_of l) empty)) idle.1.1 ∙ sym done;
        let_go = subst (λ (l : List TimedCommand). AreLetGo (state_after choose l).catalog (state_after choose h).catalog
            store.group.done_with) (sym (take_whole h)) (let_none_go (state_after choose h).catalog store.group.done_with);
        counted = subst (λ (n : ℕ). AreCounted store.drawn n store.group h base (length h)) (sym committed)
            (counted_all before.drawn before.group store.group h base k before.committed store.drawn st.counted drawn weight turned
            waiting);
      };
    }

-- ---- what a log leads to

pub unlike : (n name : Name) → n.kind ≢ name.kind → is_same n name ≡ false
unlike n name ne = by_test (is_same n name) (λ t. absurd (ne (ap (λ (m : Name). m.kind) (same_name n name t)))) (λ t. t)

-- no other name of the kinds of the run and of last removals is an item's
beside_run : (item : Item) (name : Name) → name.kind ≡ 2 → is_same (named 2 [] 0) name ≡ false → is_same (name_of item) name ≡ false
beside_run (items.Settings kept) name kind t = unlike (named 1 [] 0) name (λ e. absurd (omega (arith, e, kind)))
beside_run (items.Run run) name kind t = t
beside_run (items.Moments last tick) name kind t = unlike (named 3 [] 0) name (λ e. absurd (omega (arith, e, kind)))
beside_run (items.Channel text meta carry) name kind t = unlike (named 4 text 0) name (λ e. absurd (omega (arith, e, kind)))
beside_run (items.Ended text) name kind t = unlike (named 4 text 0) name (λ e. absurd (omega (arith, e, kind)))
beside_run (items.Bucket index bucket) name kind t = unlike (named 6 index bucket.id) name (λ e. absurd (omega (arith, e, kind)))
beside_run (items.Gone index id) name kind t = unlike (named 6 index id) name (λ e. absurd (omega (arith, e, kind)))
beside_run (items.Ledger entry) name kind t = unlike (named 8 entry.index entry.id) name (λ e. absurd (omega (arith, e, kind)))
beside_run (items.Counts settled nulled dropped placed) name kind t = unlike (named 9 [] 0) name (λ e. absurd (omega (arith, e, kind)))
beside_run (items.Spot spot) name kind t = unlike (named 10 spot.path 0) name (λ e. absurd (omega (arith, e, kind)))
beside_run (items.NextFile number) name kind t = unlike (named 11 [] 0) name (λ e. absurd (omega (arith, e, kind)))
beside_run (items.Removals files) name kind t = unlike (named 12 [] 0) name (λ e. absurd (omega (arith, e, kind)))
beside_run (items.NextId index id) name kind t = unlike (named 13 index 0) name (λ e. absurd (omega (arith, e, kind)))

beside_removals : (item : Item) (name : Name) → name.kind ≡ 12 → is_same (named 12 [] 0) name ≡ false → is_same (name_of item) name ≡ false
beside_removals (items.Settings kept) name kind t = unlike (named 1 [] 0) name (λ e. absurd (omega (arith, e, kind)))
beside_removals (items.Run run) name kind t = unlike (named 2 [] 0) name (λ e. absurd (omega (arith, e, kind)))
beside_removals (items.Moments last tick) name kind t = unlike (named 3 [] 0) name (λ e. absurd (omega (arith, e, kind)))
beside_removals (items.Channel text meta carry) name kind t = unlike (named 4 text 0) name (λ e. absurd (omega (arith, e, kind)))
beside_removals (items.Ended text) name kind t = unlike (named 4 text 0) name (λ e. absurd (omega (arith, e, kind)))
beside_removals (items.Bucket index bucket) name kind t = unlike (named 6 index bucket.id) name (λ e. absurd (omega (arith, e, kind)))
beside_removals (items.Gone index id) name kind t = unlike (named 6 index id) name (λ e. absurd (omega (arith, e, kind)))
beside_removals (items.Ledger entry) name kind t = unlike (named 8 entry.index entry.id) name (λ e. absurd (omega (arith, e, kind)))
beside_removals (items.Counts settled nulled dropped placed) name kind t = unlike (named 9 [] 0) name (λ e. absurd (omega (arith, e, kind)))
beside_removals (items.Spot spot) name kind t = unlike (named 10 spot.path 0) name (λ e. absurd (omega (arith, e, kind)))
beside_removals (items.NextFile number) name kind t = unlike (named 11 [] 0) name (λ e. absurd (omega (arith, e, kind)))
beside_removals (items.Removals files) name kind t = t
beside_removals (items.NextId index id) name kind t = unlike (named 13 index 0) name (λ e. absurd (omega (arith, e, kind)))

none_of : (name : Name) → ((item : Item) → is_same (name_of item) name ≡ false) → (xs : List Item) → NoneUnder name xs
none_of name each [] = tt
none_of name each (x ∷ xs) = (each x, none_of name each xs)

-- under a name that no item has nothing stands
none_stands : (fits : NamedItems → Type 0) (name : Name) → ((item : Item) → is_same (name_of item) name ≡ false) →
    (bodies : List (List ℕ)) (from to : NamedItems) → from name ≡ None → Replays fits bodies from to → to name ≡ None
none_stands fits name each [] from to none is = ap (λ (b : NamedItems). b name) is ∙ none
none_stands fits name each (body ∷ bodies) from to none is =
    none_stands fits name each bodies (replay is.0 from) to (none_under is.0 name from (none_of name each is.0) ∙ none) is.3

run_none : (choose : Chooser) (h : List TimedCommand) (text : List ℕ) (number : ℕ) →
    (snapshot_of choose h).book (named 2 text number) ≡ None
run_none choose [] text number = refl
run_none choose (o ∷ h) text number = refl

removals_none : (choose : Chooser) (h : List TimedCommand) (text : List ℕ) (number : ℕ) →
    (snapshot_of choose h).book (named 12 text number) ≡ None
removals_none choose [] text number = refl
removals_none choose (o ∷ h) text number = refl

left_none : (choose : Chooser) (h : List TimedCommand) (name : Name) (kind : ℕ) →
    ((text : List ℕ) (number : ℕ) → (snapshot_of choose h).book (named kind text number) ≡ None) → name.kind ≡ kind →
    (snapshot_of choose h).book name ≡ None
left_none choose h name kind none is = ap (snapshot_of choose h).book path ∙ none name.text name.number
  where
    path : name ≡ named kind name.text name.number
    path = λ i. record { kind = is i; text = name.text; number = name.number }

some_run : (o : Option Item) (n : ℕ) → run_of o ≡ n → 1 ≤ n → o ≡ Some (items.Run n)
some_run None n is l = absurd (omega (arith, is, l))
some_run (Some (items.Settings kept)) n is l = absurd (omega (arith, is, l))
some_run (Some (items.Run run)) n is l = ap (λ (r : ℕ). Some (items.Run r)) is
some_run (Some (items.Moments last tick)) n is l = absurd (omega (arith, is, l))
some_run (Some (items.Channel name meta carry)) n is l = absurd (omega (arith, is, l))
some_run (Some (items.Ended name)) n is l = absurd (omega (arith, is, l))
some_run (Some (items.Bucket index bucket)) n is l = absurd (omega (arith, is, l))
some_run (Some (items.Gone index id)) n is l = absurd (omega (arith, is, l))
some_run (Some (items.Ledger entry)) n is l = absurd (omega (arith, is, l))
some_run (Some (items.Counts settled nulled dropped placed)) n is l = absurd (omega (arith, is, l))
some_run (Some (items.Spot spot)) n is l = absurd (omega (arith, is, l))
some_run (Some (items.NextFile number)) n is l = absurd (omega (arith, is, l))
some_run (Some (items.Removals files)) n is l = absurd (omega (arith, is, l))
some_run (Some (items.NextId index id)) n is l = absurd (omega (arith, is, l))

chosen : {T : Type 0} (test : Bool) (x y : T) → test ≡ false → (if test then x else y) ≡ y
chosen true x y is = absurd cc
chosen false x y is = refl

is_kind : (a b : ℕ) → (a == b) ≡ true → a ≡ b
is_kind a b t = grind (arith, nat_tests)

not_kind : (a b : ℕ) → (a == b) ≡ false → a ≢ b
not_kind a b t = λ e. grind (arith, nat_tests)

-- a snapshot that a log leads to, in a run
module _ (choose : Chooser) (h : List TimedCommand) (now : Snapshot) (run : ℕ)
    (bare : (name : Name) → ((item : Item) → is_same (name_of item) name ≡ false) → now.book name ≡ None)
    (like : IsLike now (snapshot_of choose h)) (is : run_in now.book ≡ run) (some : 1 ≤ run) where
  abbrev removed : Option Item
  removed = now.book (named 12 [] 0)

  other_same : (name : Name) → is_same (named 2 [] 0) name ≡ false → is_same (named 12 [] 0) name ≡ false →
      now.book name ≡ (snapshot_of choose h).book name
  other_same name t u = by_test (name.kind == 2)
      (λ a. let kind = is_kind name.kind 2 a in bare name (λ x. beside_run x name kind t)
      ∙ sym (left_none choose h name 2 (run_none choose h) kind))
      (λ a. by_test (name.kind == 12)
      (λ b. let kind = is_kind name.kind 12 b in bare name (λ x. beside_removals x name kind u)
      ∙ sym (left_none choose h name 12 (removals_none choose h) kind))
      (λ b. like.books name (not_kind name.kind 2 a) (not_kind name.kind 12 b)))

  at_name : (name : Name) → now.book name ≡ over run removed (snapshot_of choose h).book name
  at_name name = by_test (is_same (named 2 [] 0) name)
      (λ t. subst (λ (n : Name). now.book n ≡ over run removed (snapshot_of choose h).book n) (same_name (named 2 [] 0) name t)
      (some_run (now.book (named 2 [] 0)) run is some))
      (λ t. by_test (is_same (named 12 [] 0) name)
      (λ u. subst (λ (n : Name). now.book n ≡ over run removed (snapshot_of choose h).book n) (same_name (named 12 [] 0) name u) refl)
      (λ u. other_same name t u ∙ sym (chosen (is_same (named 2 [] 0) name) (Some (items.Run run))
      (if is_same (named 12 [] 0) name then removed else (snapshot_of choose h).book name) t
      ∙ chosen (is_same (named 12 [] 0) name) removed ((snapshot_of choose h).book name) u)))

  pub written_is : IsOf run now (snapshot_of choose h)
  written_is = record { removed = removed; book = λ i name. at_name name i; contents = like.contents }

-- ---- a mount

pub kept_damaged : {T : Type 0} (fault : KeptFault) (file : File) (at : ℕ) (shown : MountFault) → shown ≡ fault_of fault →
    ◌≡◌ {A = Result T MountFault} (Err shown) (Err (faults.Damaged file at)) → fault ≡ kept.Damaged file at
kept_damaged kept.Disk file at shown is e = absurd cc
kept_damaged (kept.Damaged f a) file at shown is e = cc
kept_damaged kept.Full file at shown is e = absurd cc
kept_damaged kept.NoMemory file at shown is e = absurd cc

pub kept_full : {T : Type 0} (fault : KeptFault) (shown : MountFault) → shown ≡ fault_of fault →
    ◌≡◌ {A = Result T MountFault} (Err shown) (Err faults.Full) → fault ≡ kept.Full
kept_full kept.Disk shown is e = absurd cc
kept_full (kept.Damaged f a) shown is e = absurd cc
kept_full kept.Full shown is e = refl
kept_full kept.NoMemory shown is e = absurd cc

pub family_from : (choose : Chooser) (h : List TimedCommand) (k : ℕ) → IsFamily (snapshot_of_prefix choose h) k (length h)
family_from choose h k =
    let f = family choose h in
    record {
      told = λ i j a b c d near. f.told i j (omega arith) b (omega arith) d near;
      apart = λ i a b. f.apart i (omega arith) b;
      settled = λ i a b. f.settled i (omega arith) b;
    }

counted_none : (group : CommitGroup) (h : List TimedCommand) (n : ℕ) → n ≤ length h → group.weight ≡ 0 → group.turned ≡ false →
    group.waiting ≡ false → AreCounted 0 0 group (take n h) n n
counted_none group h n le weight turned waiting =
    let none = drop_taken n h in
    record {
      drawn_are = ap numbers (sym none);
      committed_are = ap numbers (sym none) ∙ ap (λ (l : List TimedCommand). numbers (drop n l)) (sym (take_taken n h));
      weight = weight ∙ ap (λ (l : List TimedCommand). capped (weights l)) (sym none);
      turned = turned ∙ ap has_turn (sym none);
      waiting = waiting ∙ sym (ap (nat_lt n) (length_taken n h le) ∙ not_below n);
    }

-- the book behind the last body was judged
last_fits : (fits : NamedItems → Type 0) (bodies : List (List ℕ)) (from to : NamedItems) → Replays fits bodies from to → (to ≡ from)
    ⊎ fits to
last_fits fits [] from to is = inl is
last_fits fits (body ∷ bodies) from to is = by (last_fits fits bodies (replay is.0 from) to is.3)
  where
    by : (to ≡ replay is.0 from) ⊎ fits to → (to ≡ from) ⊎ fits to
    by (inl e) = inr (subst fits (sym e) is.2)
    by (inr fit) = inr fit

all_taken : {X : Type 0} (P : X → Type 0) (n : ℕ) (xs : List X) → AllByRecursion P xs → AllByRecursion P (take n xs)
all_taken P zero xs all = tt
all_taken P (suc n) [] all = tt
all_taken P (suc n) (x ∷ xs) all = (all.0, all_taken P n xs all.1)

-- what a mount finds
module _ {D : Type 0} (g : Ghosts D) (fits : NamedItems →
    Type 0) (committer : Committer) (disk : D) (book : NamedItems) (choose : Chooser) (h : List TimedCommand) (k : ℕ) (image : Image)
    (at : IsMountedAt g fits committer disk book (snapshot_of_prefix choose h) k (length h) image) where
  abbrev run : ℕ
  run = run_in book

  begun : 1 ≤ run_in at.now.book
  begun = let found = at.run in omega (arith, found)

  begun_too : 1 ≤ run
  begun_too = let made = ap run_in at.made in omega (arith, begun, made)

  replayed : Replays (Taken fits (log_of committer)) at.held.committed.bodies empty at.now.book
  replayed = subst (λ (f : File). Replays (Taken fits f) at.held.committed.bodies empty at.now.book) (sym at.held.committed.file)
      at.held.committed.replayed

  pub found_is : IsOf run at.now (snapshot_of choose (take at.which h))
  found_is = written_is choose (take at.which h) at.now run
      (λ name each. none_stands (Taken fits (log_of committer)) name each at.held.committed.bodies empty at.now.book refl replayed) at.like
      (sym (ap run_in at.made)) begun_too

  pub found_fits : fits book
  found_fits = by (last_fits (Taken fits (log_of committer)) at.held.committed.bodies empty at.now.book replayed)
    where
      by : (at.now.book ≡ empty) ⊎ Taken fits (log_of committer) at.now.book → fits book
      by (inl e) = absurd (let none = ap run_in e in omega (arith, begun, none))
      by (inr taken) = subst fits (sym at.made) taken.fit

-- what is there before a mount goes on: a state comes of it
pub pending_unsound : {D : Type 0} (g : Ghosts D) (fits : NamedItems →
    Type 0) (pending : PendingMount) (disk : D) (now : NamedItems) (is : IsPending g fits pending disk now) (choose : Chooser)
    (h : List TimedCommand) (run k : ℕ) (keeps : AllKeep g disk fits run (snapshot_of_prefix choose h) k (length h)) (image : Image) →
    g.may_leave disk image → (is_chooser : Chooser → Type 0) (takes : TimedCommand → Type 0) → is_chooser choose → AllByRecursion takes h →
    ((choose : Chooser) (history : List TimedCommand) (run : ℕ) (removed : Option Item) → is_chooser choose →
    AllByRecursion takes history → now ≡ over run removed (snapshot_of choose history).book → ⊥) → ⊥
pending_unsound g fits pending disk now is choose h run k keeps image left is_chooser takes chooser given none =
    let room = either pending.has_room in
    let n = (keeps image left).which in
    let found = pending_like g fits pending disk now is (snapshot_of_prefix choose h) run k (length h) (family_from choose h k) keeps image
    left room in
    let s : Snapshot = found.0 in
    let same : s.book ≡ now = found.1 in
    let written = written_is choose (take n h) s (run_in now)
    (λ name each. ap (λ (b : NamedItems). b name) same ∙ bare_now name each (pending_now g fits pending disk now is room))
    found.2 (ap run_in same) found.3 in
    none choose (take n h) (run_in now) written.removed chooser (all_taken takes n h given) (sym same ∙ written.book)
  where
    bare_now : (name : Name) → ((item : Item) → is_same (name_of item) name ≡ false) → (now ≡ next_run is.book) ⊎ (now ≡ is.book) →
        now name ≡ None
    bare_now name each which = by which
      where
        bare : is.book name ≡ None
        bare = none_stands (Taken fits (log_of is.as_read)) name each is.read.bodies empty is.book refl is.read.replayed

        begins : List Item
        begins = first_items (not (has_settings is.book)) (run_in is.book + 1)

        by : (now ≡ next_run is.book) ⊎ (now ≡ is.book) → now name ≡ None
        by (inl next) = ap (λ (b : NamedItems). b name) next ∙ none_under begins name is.book (none_of name each begins) ∙ bare
        by (inr old) = ap (λ (b : NamedItems). b name) old ∙ bare

pub holds_mounted : {D : Type 0} (g : Ghosts D) {M : Type 0} (fits : NamedItems → Type 0) (holds : Chooser → List TimedCommand → M →
    Type 0) (is_chooser : Chooser → Type 0) (takes : TimedCommand →
    Type 0) (choose : Chooser) (h : List TimedCommand) (k : ℕ) (image : Image) (store : Store M) (disk : D) (book : NamedItems) →
    is_chooser choose → AllByRecursion takes h → (at : IsMountedAt g fits store.committer disk book (snapshot_of_prefix choose h) k
    (length h)
    image) →
    ((choose : Chooser) (history : List TimedCommand) (run : ℕ) (removed : Option Item) → is_chooser choose → AllByRecursion takes history →
    fits book → book ≡ over run removed (snapshot_of choose history).book → holds choose history store.memory) →
    store.run ≡ run_in book → run_in book < 2 ^ 63 → NothingStaged store.committer → store.drawn ≡ 0 → store.committed ≡ 0 →
    store.closed ≡ false →
    store.group.done_with ≡ [] → store.group.weight ≡ 0 → store.group.turned ≡ false → store.group.waiting ≡ false →
    IsMounted g fits holds choose h k image store disk
holds_mounted g fits holds is_chooser takes choose h k image store disk book chooser given at memory run small idle drawn committed closed
    done weight turned waiting =
    let n = at.which in
    let prefix = take n h in
    let made = ap run_in at.made in
    let found = at.run in
    let same : run_in at.now.book ≡ store.run = sym made ∙ sym run in
    let is : IsOf store.run at.now (snapshot_of choose prefix) =
    subst (λ (r : ℕ). IsOf r at.now (snapshot_of choose prefix)) (sym run) (found_is g fits store.committer disk book choose h k image at)
    in
    record {
      count = n;
      least = at.least;
      most = at.most;
      found = at.kept;
      keeps = at.keeps;
      stands = at.stands;
      run = sym same ∙ found;
      hold = record {
        old = at.now;
        committed = at.held.committed;
        staged = record {
          from_base = omega arith;
          within = (let l = length_taken n h at.most in omega (arith, l));
          memory = memory choose prefix store.run is.removed chooser (all_taken takes n h given)
              (found_fits g fits store.committer disk book choose h k image at) (at.made ∙ is.book);
          old_is = subst (λ (l : List TimedCommand). IsOf store.run at.now (snapshot_of choose l)) (sym (take_taken n h)) is;
          new = at.now;
          new_is = is;
          run = (omega (arith, small, run));
          is_open = closed;
          ready = ready_of g fits store.committer disk at.now at.held;
          idle = λ whole. idle;
          done = subst (AreDone (state_after choose prefix).catalog) (sym done) tt;
          removals = ap (λ (l : List StagedItem). removals_in (replay (items_of l) empty)) idle.1.1 ∙ sym done;
          let_go = subst (λ (l : List TimedCommand). AreLetGo (state_after choose l).catalog (state_after choose prefix).catalog
              store.group.done_with) (sym (take_taken n h)) (let_none_go (state_after choose prefix).catalog store.group.done_with);
          counted = subst (λ (a : ℕ). AreCounted a store.committed store.group prefix n n) (sym drawn)
              (subst (λ (a : ℕ). AreCounted 0 a store.group prefix n n) (sym committed)
              (counted_none store.group h n at.most weight turned waiting));
        };
      };
    }
