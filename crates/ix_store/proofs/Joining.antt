-- A store behind a further command, a commit and a mount.
use Rattle.std.proofs.Common.{◌≡◌, ◌≤◌, ◌<◌, ◌+◌, ◌^◌, ℕ, ℤ, Bool, true, false, List, ◌++◌, length, take, drop, refl, sym, ap, ◌∙◌, subst}
use Rattle.std.proofs.Common.{arith, length-append}
use Rattle.std.specs.Prelude.{Some, None, if◌then◌else◌, is_some, ◌||◌}
use Rattle.std.specs.List.{AllByRecursion}
use Rattle.std.proofs.lemmas.List.Elements.{Contains-append_left, Contains-append_right}
use Rattle.ix_base.specs.declared.files.Area.TheVariants.{Meta}
use Rattle.ix_base.specs.declared.files.File.{File}
use Rattle.ix_items.specs.declared.items.Item.TheVariants as items
use Rattle.ix_log.specs.Log.{file_of, IsAtEnd}
use Rattle.ix_log.specs.declared.log.Log.{Log}
use Rattle.ix_disk.specs.declared.disk.Disk.{Ghosts}
use Rattle.ix_manifest.specs.Book.{NamedItems, empty, removals_in, replay}
use Rattle.ix_manifest.specs.Root.{Taken, roots}
use Rattle.ix_manifest.specs.Slots.{items_of}
use Rattle.ix_manifest.specs.declared.staged_item.StagedItem.{StagedItem}
use Rattle.ix_commit.specs.Snapshot.{Snapshot, IsCommitted, Stages, AreFree, NothingStaged, log_of}
use Rattle.ix_commit.specs.Undo.{IsSame, HasSameLogs}
use Rattle.ix_commit.specs.declared.committer.Committer.{Committer}
use Rattle.ix_commit.proofs.Steps.{stages_same}
use Rattle.ix_model.specs.Done.{AreLetGo}
use Rattle.ix_model.specs.Given.{Chooser}
use Rattle.ix_model.specs.Judged.{adds, draws, needs_tick}
use Rattle.ix_model.specs.State.{State}
use Rattle.ix_model.specs.Step.{state_after}
use Rattle.ix_model.specs.declared.answers.Accepted.{Accepted}
use Rattle.ix_model.specs.declared.commands.Command.TheVariants.{Tick}
use Rattle.ix_model.specs.declared.commands.TimedCommand.{TimedCommand}
use Rattle.ix_model.specs.Snap.{snapshot_of, snapshot_of_prefix}
use Rattle.ix_store.specs.Counting.{number_of, weight_of, is_turn, numbers, weights, has_turn, capped}
use Rattle.ix_store.specs.Written.{over, IsOf, AreDone}
use Rattle.ix_store.specs.Making.{IsMade, LeadsThrough, with_last, with_order, with_tick}
use Rattle.ix_store.specs.Holding.{AreCounted, IsReady, RepresentsStaged, IsAccepted, IsUnchanged, HasSameRun, holding}
use Rattle.ix_store.specs.declared.group.CommitGroup.{CommitGroup}
use Rattle.ix_store.specs.declared.memory.Made.{Made}
use Rattle.ix_store.specs.declared.store.Store.{Store}
use Rattle.ix_store.proofs.Counted.{numbers_more, weights_more, has_turn_more, drop_more, take_more, capped_more, is_below}
use Rattle.ix_store.proofs.Going.{let_go_on, removals_staged}
use Rattle.ix_store.proofs.Booked.{Led, led_by, none_before, left_contents, done_later, all_more, done_no_logs, done_free}

-- ---- what a command adds

adds_numbers : (m : State) (order : TimedCommand) → numbers (adds m order) ≡ number_of order.command
adds_numbers m order = by (needs_tick m order) refl
  where
    by : (t : Bool) → needs_tick m order ≡ t → numbers (adds m order) ≡ number_of order.command
    by true is = rw is (omega arith)
    by false is = rw is (omega arith)

adds_weights : (m : State) (order : TimedCommand) → weights (adds m order) ≡ weight_of order.command
adds_weights m order = by (needs_tick m order) refl
  where
    by : (t : Bool) → needs_tick m order ≡ t → weights (adds m order) ≡ weight_of order.command
    by true is = rw is (omega arith)
    by false is = rw is (omega arith)

or_false : (a : Bool) → (a || false) ≡ a
or_false true = refl
or_false false = refl

or_true : (a : Bool) → (a || true) ≡ true
or_true true = refl
or_true false = refl

adds_turn : (m : State) (order : TimedCommand) → has_turn (adds m order) ≡ (is_turn order.command || needs_tick m order)
adds_turn m order = by (needs_tick m order) refl
  where
    by : (t : Bool) → needs_tick m order ≡ t → has_turn (adds m order) ≡ (is_turn order.command || needs_tick m order)
    by true is = rw is (sym (or_true (is_turn order.command)))
    by false is = rw is refl

adds_some : (m : State) (order : TimedCommand) → 1 ≤ length (adds m order)
adds_some m order = by (needs_tick m order) refl
  where
    by : (t : Bool) → needs_tick m order ≡ t → 1 ≤ length (adds m order)
    by true is = rw is (omega arith)
    by false is = rw is (omega arith)

-- ---- counts

pub counted_more : (drawn committed after_drawn : ℕ) (group next : CommitGroup) (m : State) (h : List TimedCommand) (order : TimedCommand)
    (base k : ℕ) → base ≤ k → k ≤ length h →
    AreCounted drawn committed group h base k →
    (draws order.command ≡ true → drawn < 2 ^ 63) → after_drawn ≡ (if draws order.command then capped (drawn + 1) else drawn) →
    next.weight ≡ capped (group.weight + weight_of order.command) →
    next.turned ≡ (group.turned || (is_turn order.command || needs_tick m order)) → next.waiting ≡ true →
    AreCounted after_drawn committed next (h ++ adds m order) base k
counted_more drawn committed after_drawn group next m h order base k from within counted number is weight turned waiting =
    let a = adds m order in
    let base_in : base ≤ length h = omega (arith, from, within) in
    record {
      drawn_are = (let n = ap numbers (drop_more base h a base_in) ∙ numbers_more (drop base h) a in let d = counted.drawn_are in
          let e = adds_numbers m order in let f = one_more (draws order.command) refl in omega (arith, n, d, e, f));
      committed_are = counted.committed_are ∙ ap (λ (l : List TimedCommand). numbers (drop base l)) (sym (take_more k h a within));
      weight = weight ∙ ap (λ (n : ℕ). capped (n + weight_of order.command)) counted.weight
          ∙ capped_more (weights (drop k h)) (weight_of order.command)
          ∙ ap capped (ap (λ (n : ℕ). weights (drop k h) + n) (sym (adds_weights m order))
          ∙ sym (ap weights (drop_more k h a within) ∙ weights_more (drop k h) a));
      turned = turned ∙ ap (λ (t : Bool). t || (is_turn order.command || needs_tick m order)) counted.turned
          ∙ ap (λ (t : Bool). has_turn (drop k h) || t) (sym (adds_turn m order))
          ∙ sym (ap has_turn (drop_more k h a within) ∙ has_turn_more (drop k h) a);
      waiting = waiting ∙ sym (is_below k (length (h ++ a)) (let s = adds_some m order in let l = length-append h a in
          omega (arith, s, l, within)));
    }
  where
    one_more : (t : Bool) → draws order.command ≡ t → after_drawn ≡ drawn + number_of order.command
    one_more true e = let n = number e in let one : number_of order.command ≡ 1 = ap (λ (t : Bool). if t then 1 else 0) e in
        let f : after_drawn ≡ capped (drawn + 1) = is ∙ ap (λ (t : Bool). if t then capped (drawn + 1) else drawn) e in
        omega (arith, n, one, f)
    one_more false e = let none : number_of order.command ≡ 0 = ap (λ (t : Bool). if t then 1 else 0) e in
        let f : after_drawn ≡ drawn = is ∙ ap (λ (t : Bool). if t then capped (drawn + 1) else drawn) e in omega (arith, none, f)

-- ---- what is staged

-- the logs are the same
pub committed_same : {D : Type 0} (g : Ghosts D) (fits : NamedItems → Type 0) (a b : Committer) (disk : D) (s : Snapshot) →
    HasSameLogs a b → IsCommitted g fits a disk s → IsCommitted g fits b disk s
committed_same g fits a b disk s same committed = record {
  checkpoints = committed.checkpoints;
  number = same.number ∙ committed.number;
  root_file = ap file_of same.root ∙ committed.root_file;
  root = subst (λ (l : Log). IsAtEnd g l disk (roots committed.checkpoints)) (sym same.root) committed.root;
  file = ap file_of same.log ∙ committed.file;
  bodies = committed.bodies;
  end = subst (λ (l : Log). IsAtEnd g l disk committed.bodies) (sym same.log) committed.end;
  replayed = committed.replayed;
  contents = committed.contents;
  apart = committed.apart;
  free = committed.free;
}

-- the same is staged
pub ready_same : (fits : NamedItems → Type 0) (a b : Committer) (old new : Snapshot) → IsSame a b → IsReady fits a old new →
    IsReady fits b old new
ready_same fits a b old new same ready =
    let log = ap file_of same.logs.log in
    record {
      usable = same.logs.closed ∙ ready.usable;
      logged = ap (λ (f : File). f.area) log ∙ ready.logged;
      stages = stages_same a b old new same ready.stages;
      fit = λ some. subst (λ (f : File). Taken fits f new.book) (sym log)
          (ready.fit (let l = ap (λ (l : List StagedItem). length l) same.slots in omega (arith, some, l)));
      free = subst (λ (f : File). AreFree f new) (sym log) ready.free;
    }

idle_same : (a b : Committer) → IsSame a b → NothingStaged a → NothingStaged b
idle_same a b same idle = (same.parts ∙ idle.0, (same.copies ∙ idle.1.0, same.slots ∙ idle.1.1))

-- more is staged, with files to be removed that are done with
pub ready_more : (fits : NamedItems → Type 0) (a b : Committer) (choose : Chooser) (h : List TimedCommand) (run : ℕ) (files : List File)
    (old new last : Snapshot) → HasSameLogs a b → IsReady fits a old new → Stages b old last →
    last.book ≡ over run (Some (items.Removals files)) (snapshot_of choose h).book → last.contents ≡ (snapshot_of choose h).contents →
    fits (over run (Some (items.Removals files)) (snapshot_of choose h).book) → AreDone (state_after choose h).catalog files →
    IsReady fits b old last
ready_more fits a b choose h run files old new last same ready stages book contents fit done =
    let log : log_of b ≡ log_of a = ap file_of same.log in
    let meta : (log_of b).area ≡ Meta = ap (λ (f : File). f.area) log ∙ ready.logged in
    let s = (state_after choose h).catalog in
    record {
      usable = same.closed ∙ ready.usable;
      logged = meta;
      stages = stages;
      fit = λ some. subst (Taken fits (log_of b)) (sym book) (record { fit = fit; apart = done_no_logs s (log_of b) files meta done });
      free = subst (λ (bk : NamedItems). AreFree (log_of b) (record { book = bk; contents = last.contents })) (sym book)
          (done_free s (log_of b) last.contents files meta (contents ∙ left_contents choose h) done);
    }

-- ---- stores

module _ {M : Type 0} (fits : NamedItems → Type 0) (holds : Chooser → List TimedCommand → M →
    Type 0) (choose : Chooser) (h : List TimedCommand) (base k : ℕ) (before store : Store M) (old : Snapshot) where
  pub staged_same : IsUnchanged before store → RepresentsStaged fits holds choose h base k before old →
      RepresentsStaged fits holds choose h base k store old
  staged_same same st = record {
    from_base = st.from_base;
    within = st.within;
    memory = subst (holds choose h) (sym same.memory) st.memory;
    old_is = subst (λ (r : ℕ). IsOf r old (snapshot_of_prefix choose h k)) (sym same.run) st.old_is;
    new = st.new;
    new_is = subst (λ (r : ℕ). IsOf r st.new (snapshot_of choose h)) (sym same.run) st.new_is;
    run = subst (λ (r : ℕ). r < 2 ^ 63) (sym same.run) st.run;
    is_open = same.closed ∙ st.is_open;
    ready = ready_same fits before.committer store.committer old st.new same.committer st.ready;
    idle = λ whole. idle_same before.committer store.committer same.committer (st.idle whole);
    done = subst (λ (g : CommitGroup). AreDone (state_after choose h).catalog g.done_with) (sym same.group) st.done;
    removals = ap (λ (l : List StagedItem). removals_in (replay (items_of l) empty)) same.committer.slots ∙ st.removals
        ∙ ap (λ (g : CommitGroup). g.done_with) (sym same.group);
    let_go = subst (λ (g : CommitGroup). AreLetGo (state_after choose (take k h)).catalog (state_after choose h).catalog g.done_with)
        (sym same.group) st.let_go;
    counted = subst (λ (g : CommitGroup). AreCounted store.drawn store.committed g h base k) (sym same.group)
        (subst (λ (n : ℕ). AreCounted n store.committed before.group h base k) (sym same.drawn)
        (subst (λ (n : ℕ). AreCounted before.drawn n before.group h base k) (sym same.committed) st.counted));
  }

  module _ {N : Type 0} (is_ready : Chooser → List TimedCommand → N → Type 0) (order : TimedCommand) (made : Made N) where
    pub staged_more : IsMade is_ready fits choose h order before.drawn made → HasSameLogs before.committer store.committer →
        store.run ≡ before.run → store.committed ≡ before.committed → store.closed ≡ before.closed →
        holds choose (with_order choose h order) store.memory →
        ((old new mid to : Snapshot) → Stages before.committer old new →
        LeadsThrough made.first (with_last (items.Removals (before.group.done_with ++ made.done_with)) made.second) old new mid to →
        Stages store.committer old to) →
        store.group.done_with ≡ before.group.done_with ++ made.done_with →
        store.drawn ≡ (if draws order.command then capped (before.drawn + 1) else before.drawn) →
        store.group.weight ≡ capped (before.group.weight + weight_of order.command) →
        store.group.turned ≡ (before.group.turned || (is_turn order.command || is_some made.first)) → store.group.waiting ≡ true →
        RepresentsStaged fits holds choose h base k before old →
        RepresentsStaged fits holds choose (with_order choose h order) base k store old
    staged_more is logs run committed closed memory stage done_is drawn weight turned waiting st =
        let m = state_after choose h in
        let next = with_order choose h order in
        let files = before.group.done_with ++ made.done_with in
        let done : AreDone (state_after choose next).catalog files =
        all_more _ before.group.done_with made.done_with (done_later choose h (adds m order) before.group.done_with st.done) is.done in
        let led : Led before.run files made.first made.second old st.new (snapshot_of choose next) =
        led_by before.run files made.first made.second old (snapshot_of choose h) (snapshot_of choose (with_tick h order))
        (snapshot_of choose next) st.new (is.leads old (none_before choose h k old st.old_is.contents)) st.new_is in
        let stages = stage old st.new led.mid led.last st.ready.stages led.leads in
        let front : take k next ≡ take k h = take_more k h (adds m order) st.within in
        record {
          from_base = st.from_base;
          within = (let w = st.within in let l = length-append h (adds m order) in omega (arith, w, l));
          memory = memory;
          old_is = subst (λ (r : ℕ). IsOf r old (snapshot_of_prefix choose next k)) (sym run)
              (subst (λ (l : List TimedCommand). IsOf before.run old (snapshot_of choose l)) (sym front) st.old_is);
          new = led.last;
          new_is = subst (λ (r : ℕ). IsOf r led.last (snapshot_of choose next)) (sym run)
              (record { removed = Some (items.Removals files); book = led.book; contents = led.contents });
          run = subst (λ (r : ℕ). r < 2 ^ 63) (sym run) st.run;
          is_open = closed ∙ st.is_open;
          ready = ready_more fits before.committer store.committer choose next before.run files old st.new led.last logs st.ready stages
              led.book
              led.contents (is.fit before.run files st.run done) done;
          idle = λ whole. absurd (let w = st.within in let l = length-append h (adds m order) in let s = adds_some m order in
              omega (arith, w, l, s, whole));
          done = subst (AreDone (state_after choose next).catalog) (sym done_is) done;
          removals = removals_staged before.committer store.committer made.first made.second files old st.new led.mid led.last stage
              st.ready.stages led.leads ∙ sym done_is;
          let_go = subst (λ (l : List File). AreLetGo (state_after choose (take k next)).catalog (state_after choose next).catalog l)
              (sym done_is)
              (subst (λ (l : List TimedCommand). AreLetGo (state_after choose l).catalog (state_after choose next).catalog files)
              (sym front)
              (let_go_on (state_after choose (take k h)).catalog m.catalog (state_after choose next).catalog before.group.done_with
              made.done_with files
              (λ file c. Contains-append_left before.group.done_with made.done_with file c)
              (λ file c. Contains-append_right before.group.done_with made.done_with file c) st.let_go is.let_go));
          counted = subst (λ (n : ℕ). AreCounted store.drawn n store.group next base k) (sym committed)
              (counted_more before.drawn before.committed store.drawn before.group store.group m h order base k st.from_base st.within
              st.counted is.allowed.number drawn weight
              (turned ∙ ap (λ (t : Bool). before.group.turned || (is_turn order.command || t)) is.ticks) waiting);
        }

-- an accepted command
module _ {M N : Type 0} (fits : NamedItems → Type 0) (holds : Chooser → List TimedCommand → M →
    Type 0) (choose : Chooser) (h : List TimedCommand) (base k : ℕ)
    (is_ready : Chooser → List TimedCommand → N → Type 0) (order : TimedCommand) (made : Made N) (before took final : Store M)
    (old : Snapshot) (draws_it turned_it : Bool) (answer : Accepted) where
  pub accepted : IsMade is_ready fits choose h order before.drawn made → HasSameRun before took →
      holds choose (with_order choose h order) took.memory →
      ((old new mid to : Snapshot) → Stages before.committer old new →
      LeadsThrough made.first (with_last (items.Removals (before.group.done_with ++ made.done_with)) made.second) old new mid to →
      Stages took.committer old to) →
      took.group.done_with ≡ before.group.done_with ++ made.done_with → took.group.weight ≡ capped (before.group.weight + made.weight) →
      took.group.turned ≡ (before.group.turned || (turned_it || is_some made.first)) → took.group.waiting ≡ true →
      made.weight ≡ weight_of order.command → draws_it ≡ draws order.command → turned_it ≡ is_turn order.command →
      final.memory ≡ took.memory → final.committer ≡ took.committer → final.run ≡ took.run → final.committed ≡ took.committed →
      final.group ≡ took.group → final.closed ≡ took.closed →
      final.drawn ≡ (if draws_it then capped (took.drawn + 1) else took.drawn) →
      answer.run ≡ final.run → answer.number ≡ (if draws_it then Some took.drawn else None) → answer.moved ≡ made.moved →
      RepresentsStaged fits holds choose h base k before old → IsAccepted fits holds (holding choose h base k) order before final
      old answer
  accepted is same memory stage done weight turned waiting heavy draw turn memory_is committer_is run_is committed_is group_is closed_is
      drawn_is answer_run number moved st =
      record {
        allowed = is.allowed;
        answers = record {
          run_is = answer_run ∙ run_is ∙ same.run;
          number = number ∙ ap (λ (n : ℕ). if draws_it then Some n else None) same.drawn
              ∙ ap (λ (t : Bool). if t then Some before.drawn else None) draw;
          moved_are = moved ∙ is.moved;
        };
        staged = staged_more fits holds choose h base k before final old is_ready order made is
            (subst (HasSameLogs before.committer) (sym committer_is) same.logs) (run_is ∙ same.run) (committed_is
            ∙ same.committed) (closed_is
            ∙ same.closed)
            (subst (holds choose (with_order choose h order)) (sym memory_is) memory)
            (λ old new mid to stages leads. subst (λ (kp : Committer). Stages kp old to) (sym committer_is)
            (stage old new mid to stages leads))
            (ap (λ (g : CommitGroup). g.done_with) group_is ∙ done)
            (drawn_is ∙ ap (λ (n : ℕ). if draws_it then capped (n + 1) else n) same.drawn
            ∙ ap (λ (t : Bool). if t then capped (before.drawn + 1) else before.drawn) draw)
            (ap (λ (g : CommitGroup). g.weight) group_is ∙ weight ∙ ap (λ (n : ℕ). capped (before.group.weight + n)) heavy)
            (ap (λ (g : CommitGroup). g.turned) group_is ∙ turned
            ∙ ap (λ (t : Bool). before.group.turned || (t || is_some made.first)) turn)
            (ap (λ (g : CommitGroup). g.waiting) group_is ∙ waiting) st;
      }

-- ---- what is taken

pub more_taken : (takes : TimedCommand → Type 0) → ((moment : ℤ) → takes (record { command = Tick; moment = moment })) →
    (choose : Chooser) (h : List TimedCommand) (order : TimedCommand) →
    AllByRecursion takes h → takes order → AllByRecursion takes (with_order choose h order)
more_taken takes ticks choose h order all one = all_more takes h (adds (state_after choose h) order) all
    (by (needs_tick (state_after choose h) order) refl)
  where
    by : (t : Bool) → needs_tick (state_after choose h) order ≡ t → AllByRecursion takes (adds (state_after choose h) order)
    by true is = rw is (ticks order.moment, (one, tt))
    by false is = rw is (one, tt)
