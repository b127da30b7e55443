-- How visits follow each other.
use Rattle.std.proofs.Common.{◌≡◌, ◌≤◌, ◌<◌, ◌+◌, ◌∙◌, ℕ, ℤ, true, false, List, [], ◌∷◌, length, ◌++◌, refl, sym, ap, subst}
use Rattle.std.proofs.Common.{inl, inr, Option, Some, None, Result, Ok, Err, arith, append_assoc, append-nil}
use Rattle.std.specs.Prelude.{IfSome}
use Rattle.std.specs.List.{AllByRecursion}
use Rattle.std.proofs.lemmas.Bool.{false≢true}
use Rattle.std.proofs.lemmas.Bool.Decides.{nat_tests}
use Rattle.ix_base.specs.Clocks.{Moments, Answered}
use Rattle.ix_base.specs.Faults.{Rose}
use Rattle.ix_base.specs.Told.{Told, IsFrontOf, Wrote, Began}
use Rattle.ix_base.specs.declared.files.File.{File}
use Rattle.ix_manifest.specs.Book.{NamedItems}
use Rattle.ix_disk.specs.Image.{Image}
use Rattle.ix_disk.specs.Moments.{Always}
use Rattle.ix_disk.specs.declared.disk.Disk.{Ghosts}
use Rattle.ix_disk.proofs.Runs.{always_begins, rose_earlier, rose_later}
use Rattle.ix_http.specs.Asked.{Fits}
use Rattle.ix_commit.specs.Snapshot.{KnowsLogLength, LogsAtEnd}
use Rattle.ix_commit.specs.declared.fault.CommitFault.{CommitFault}
use Rattle.ix_commit.specs.declared.fault.CommitFault.TheVariants as commits
use Rattle.ix_net.specs.Links.{Standing, LinkStep}
use Rattle.ix_net.specs.Listeners.{Handed, Begins, TakesFirst, Adds, handed_back, has_risen}
use Rattle.ix_net.proofs.GoesLemmas.{not_risen}
use Rattle.ix_model.specs.declared.commands.TimedCommand.{TimedCommand}
use Rattle.ix_store.specs.Holding.{Represents}
use Rattle.ix_store.specs.declared.store.Store.{Store}
use Rattle.ix_serve.specs.Answer.{Says, is_whole}
use Rattle.ix_serve.specs.Entries.{entry}
use Rattle.ix_serve.specs.Serving.{IsClean, IsOpen, IsTold, Serves, outcome}
use Rattle.ix_serve.specs.declared.served.Served.{Served}
use Rattle.ix_serve.specs.declared.served.ServeFault.{ServeFault}
use Rattle.ix_serve.specs.declared.served.ServeFault.TheVariants as fault
use Rattle.ix_sessions.specs.Connections.{Comes, Visit, Listened, listened, HasHeard, turns_of, backs_of, held_by, IsVisit, AreVisits}
use Rattle.ix_sessions.specs.Connections.{EndsAt, EndsIn, IsUndamagedEnd, Taken, HandedBack, Attends, Visits, Hears, Listens, break_of}
use Rattle.ix_sessions.specs.Connections.{is_open_end, hearing}
use Rattle.ix_serve.specs.Kinds.{Kind}
use Rattle.ix_sessions.specs.Feeding.{Start, start, Turn, AreSafe, AreTold, Has, first_entry, history_after, known}
use Rattle.ix_sessions.specs.Feeding.{reply_text}
use Rattle.ix_sessions.specs.declared.serve.Heard.{Heard}
use Rattle.ix_sessions.specs.declared.serve.Heard.TheVariants as heard
use Rattle.ix_sessions.proofs.Growing.{held_in, knows_on, safe_on}
use Rattle.ix_sessions.proofs.Turning.{Either, behind_commit, all_held, gave_begun, gave_clean, gave_came}

-- ---- what the listener tells

told_through : {A : Type 0} (first second step : A → A → Type 0) → ((a b c : A) → first a b → second b c → step a c) → (x y z : Option A) →
    Told first x y → Told second y z → Told step x z
told_through first second step joins None None None p q = tt
told_through first second step joins None None (Some c) p q = absurd q
told_through first second step joins None (Some b) z p q = absurd p
told_through first second step joins (Some a) None z p q = absurd p
told_through first second step joins (Some a) (Some b) None p q = absurd q
told_through first second step joins (Some a) (Some b) (Some c) p q = joins a b c p q

taken_on : (held : List (Option (List ℕ))) (next : Option (List ℕ)) (x y z : Option (List (Option (List ℕ)))) → Told (Taken held) x y →
    Told (TakesFirst next) y z → Told (Taken (held ++ next ∷ [])) x z
taken_on held next = told_through (Taken held) (TakesFirst next) (Taken (held ++ next ∷ []))
    (λ a b c p q. p ∙ ap (λ (l : List (Option (List ℕ))). held ++ l) q ∙ sym (append_assoc held (next ∷ []) c))

handed_on : (backs : List Handed) (back : Handed) (x y z : Option (List Handed)) → Told (HandedBack backs) x y → Told (Adds back) y z →
    Told (HandedBack (backs ++ back ∷ [])) x z
handed_on backs back = told_through (HandedBack backs) (Adds back) (HandedBack (backs ++ back ∷ []))
    (λ a b c p q. q ∙ ap (λ (l : List Handed). l ++ back ∷ []) p ∙ append_assoc a backs (back ∷ []))

pub none_taken : (x : Option (List (Option (List ℕ)))) → Told (Taken []) x x
none_taken None = tt
none_taken (Some a) = refl

pub none_handed : (x : Option (List Handed)) → Told (HandedBack []) x x
none_handed None = tt
none_handed (Some a) = sym (append-nil a)

-- ---- what is written on a connection

written_alone : (bytes : List ℕ) (given given' : Option (List ℕ)) → IfSome given (λ was. was ≡ []) → Told (Wrote bytes) given given' →
    IfSome given' (λ now. now ≡ bytes)
written_alone bytes None None none told = tt
written_alone bytes None (Some now) none told = absurd told
written_alone bytes (Some was) None none told = tt
written_alone bytes (Some was) (Some now) none told = told ∙ ap (λ (l : List ℕ). l ++ bytes) none

begun_alone : (bytes : List ℕ) (given given' : Option (List ℕ)) → IfSome given (λ was. was ≡ []) → Told (Began bytes) given given' →
    IfSome given' (λ now. IsFrontOf now bytes)
begun_alone bytes None None none told = tt
begun_alone bytes None (Some now) none told = absurd told
begun_alone bytes (Some was) None none told = tt
begun_alone bytes (Some was) (Some now) none told = subst (λ (l : List ℕ). IsFrontOf l bytes)
    (sym (told.written ∙ ap (λ (l : List ℕ). l ++ told.part) none)) told.is_front

rose_risen : (before now : ℕ) → Rose before now → has_risen before now ≡ true
rose_risen before now (inl less) = grind (arith, nat_tests)
rose_risen before now (inr most) = grind (arith, nat_tests)

pub attends : {D : Type 0} (g : Ghosts D) {M : Type 0} (kind : Kind M) (s : Start D) (came : Result Served ServeFault) (from to : Listened)
    (ahead ahead' : Option Moments)
    (begun ended : Standing) (faults faults' : ℕ) (left left' given given' : Option (List ℕ)) (store : Store M) (new : D) (moment : ℤ) →
    Begins begun left given faults → LinkStep begun ended → Told (TakesFirst left) from.waiting to.waiting →
    Told (Adds (handed_back ended given' faults')) from.handed to.handed →
    Told (Answered moment) ahead ahead' →
    (serves : Serves g kind (first_entry s moment) (outcome came (IsClean faults faults' begun ended) given given') left left' store
    s.disk new) →
    (came ≡ Err fault.Link → Rose faults faults') → AllByRecursion kind.takes (s.history ++ serves.answers.answer.more) →
    Attends g kind s came (hearing from ahead) (hearing to ahead') store new
attends g kind s came from to ahead ahead' begun ended faults faults' left left' given given' store new moment begins goes waits backs shown
    serves by_link taken =
    let held : ended.held ≡ left = goes.held ∙ begins.held in
    let start : ended.start ≡ faults = goes.start ∙ begins.start in
    let answer = serves.answers.answer in
    record {
      read = serves.read;
      answer = answer;
      left = left';
      back = handed_back ended given' faults';
      moment = moment;
      took = subst (λ (x : Option (List ℕ)). Told (Fits serves.read) x left') (sym held) serves.took;
      shown = shown;
      says = serves.answers.may_be;
      reply_came = gave_came answer.reply (is_whole serves.read) (IsClean faults faults' begun ended) came given given' serves.answers.gave;
      replied = record {
        whole = λ unrisen.
            written_alone (reply_text answer.reply) given given' begins.written
            (gave_clean answer.reply _ (IsClean faults faults' begun ended) came given given' serves.answers.gave
            (inl (λ rose. not_risen ended.start faults' unrisen (subst (λ (n : ℕ). Rose n faults') (sym start) rose)))).told;
        front = begun_alone (reply_text answer.reply) given given' begins.written
            (gave_begun answer.reply _ (IsClean faults faults' begun ended) came given given' serves.answers.gave).told;
      };
      by_link = λ failed. rose_risen ended.start faults' (subst (λ (n : ℕ). Rose n faults') (sym start) (by_link failed));
      waits = subst (λ (x : Option (List ℕ)). Told (TakesFirst x) from.waiting to.waiting) (sym held) waits;
      backs = backs;
      taken = taken;
      held = serves.answers.held;
      images = serves.answers.images;
      undamaged = serves.answers.undamaged;
    }

-- ---- the end of a run

pub stays_open : (came : Result Served ServeFault) → break_of came ≡ None → IsOpen came
stays_open (Ok value) none = tt
stays_open (Err fault.Disk) none = absurd (cc none)
stays_open (Err (fault.Damaged file at)) none = absurd (cc none)
stays_open (Err fault.Link) none = tt
stays_open (Err fault.Cut) none = tt

pub damaged_visit : (came : Result Served ServeFault) (cause : CommitFault) (file : File) (at : ℕ) → break_of came ≡ Some cause →
    cause ≡ commits.Damaged file at → came ≡ Err (fault.Damaged file at)
damaged_visit (Ok value) cause file at is damaged = absurd (cc is)
damaged_visit (Err fault.Disk) cause file at is damaged = absurd (cc (is, damaged))
damaged_visit (Err (fault.Damaged f a)) cause file at is damaged = cc
damaged_visit (Err fault.Link) cause file at is damaged = absurd (cc is)
damaged_visit (Err fault.Cut) cause file at is damaged = absurd (cc is)

-- a disk that fails ends it
pub disk_visit : (came : Result Served ServeFault) (cause : CommitFault) → break_of came ≡ Some cause → cause ≡ commits.Disk →
    came ≡ Err fault.Disk
disk_visit (Ok value) cause is failed = absurd (cc is)
disk_visit (Err fault.Disk) cause is failed = refl
disk_visit (Err (fault.Damaged f a)) cause is failed = absurd (cc (is, failed))
disk_visit (Err fault.Link) cause is failed = absurd (cc is)
disk_visit (Err fault.Cut) cause is failed = absurd (cc is)

broken_is : (a b : CommitFault) → heard.Broken a ≡ heard.Broken b → a ≡ b
broken_is a b is = cc

-- ---- visits that follow each other

pub safe_visits : {D : Type 0} (g : Ghosts D) (fits : NamedItems →
    Type 0) (s : Start D) (visits : List (Visit D)) (ahead ahead' : Option Moments) → AreVisits g fits s visits ahead ahead' →
    AreSafe g fits s (turns_of visits)
safe_visits g fits s [] ahead ahead' are = tt
safe_visits g fits s (visit ∷ earlier) ahead ahead' are = (safe_visits g fits s earlier ahead are.0 are.1, are.2.turn.safe)

module _ {D : Type 0} (g : Ghosts D) {M : Type 0} (kind : Kind M) (s : Start D) (count : ℕ) (from mid to : Listened)
    (ahead ahead' ahead'' : Option Moments) (before store : Store M) (disk new : D)
    (came : Result Served ServeFault) (same : before.run ≡ s.run) (goes_on : store.run ≡ before.run)
    (visited : Visits g kind s count (hearing from ahead) (hearing mid ahead') before disk)
    (next : Attends g kind (start s.choose (history_after s (turns_of visited.visits)) s.base visited.kept before.run disk) came
    (hearing mid ahead') (hearing to ahead'') store new)
    (tells : IsTold g disk → IsTold g new) where
  turn : Turn D
  turn = record { kept = visited.kept; moment = next.moment; read = next.read; answer = next.answer; result = came; disk = new }

  visit : Visit D
  visit = record { turn = turn; back = next.back }

  visit_on : IsVisit g kind.fits s visited.visits visit ahead' ahead''
  unfolding turn visit
  visit_on = record {
    left = next.left;
    turn = record {
      safe = safe_on g kind s (turns_of visited.visits) turn before store disk same goes_on visited.at visited.knows
          visited.hold.staged.within next.held next.images;
      took = next.took;
      shown = next.shown;
      says = subst (λ (r : ℕ). Says (entry s.choose (history_after s (turns_of visited.visits)) s.base visited.kept r next.moment)
          (IsTold g new) next.read came next.answer) same next.says;
      came = next.reply_came;
    };
    replied = next.replied;
    by_link = next.by_link;
  }

  visits_on_are : AreVisits g kind.fits s (visit ∷ visited.visits) ahead ahead''
  visits_on_are = (ahead', visited.are, visit_on)

  heard_on : HasHeard (visit ∷ visited.visits) from to
  unfolding turn visit
  heard_on = record {
    waits = taken_on (held_by visited.visits) next.back.held from.waiting mid.waiting to.waiting visited.heard.waits next.waits;
    backs = handed_on (backs_of visited.visits) next.back from.handed mid.handed to.handed visited.heard.backs next.backs;
  }

  visits_told : IsTold g s.disk → IsTold g new × AreTold g (turns_of (visit ∷ visited.visits))
  unfolding turn visit
  visits_told is = let past = visited.told is in (tells past.0, (tells past.0, past.1))

  pub visits_on : break_of came ≡ None → Visits g kind s (count + 1) (hearing from ahead) (hearing to ahead'') store new
  unfolding turn visit
  visits_on none =
      let fine = stays_open came none in
      let held = next.held fine in
      record {
        visits = visit ∷ visited.visits;
        are = visits_on_are;
        made = omega (arith, visited.made);
        on = (none, visited.on);
        heard = heard_on;
        taken = next.taken;
        at = refl;
        kept = held.count;
        knows = knows_on g kind s (turns_of visited.visits) turn before store disk same goes_on visited.at visited.knows
            visited.hold.staged.within next.held next.images fine;
        hold = held.hold;
        told = visits_told;
      }

  pub hears_broken : (requests : ℕ) (cause : CommitFault) → count < requests → break_of came ≡ Some cause →
      Hears g kind s requests (heard.Broken cause) (hearing from ahead) (hearing to ahead'') store new
  unfolding turn visit
  hears_broken requests cause less is = record {
    visits = visit ∷ visited.visits;
    are = visits_on_are;
    ends = (omega (arith, less, visited.made), is, visited.on);
    heard = heard_on;
    taken = next.taken;
    told = λ t. (visits_told t).1;
    held = λ up. absurd (false≢true up);
    behind = always_begins g new (Has kind.fits s (turn ∷ turns_of visited.visits) (known s (turn ∷ turns_of visited.visits)))
        visit_on.turn.safe.settled;
    undamaged = λ file at damaged image seen. next.undamaged file at (damaged_visit came cause file at is (broken_is _ _ damaged)) image
        seen;
  }

module _ {D : Type 0} (g : Ghosts D) {M : Type 0} (kind : Kind M) (s : Start D) (count : ℕ) (from to : Listened)
    (ahead ahead' : Option Moments) (store : Store M) (new : D) (same : store.run ≡ s.run)
    (visited : Visits g kind s count (hearing from ahead) (hearing to ahead') store new) where
  hears : (requests : ℕ) (end : Heard) → EndsAt requests end visited.visits → IsUndamagedEnd g new end →
      Hears g kind s requests end (hearing from ahead) (hearing to ahead') store new
  hears requests end ends undamaged =
      let turns = turns_of visited.visits in
      record {
        visits = visited.visits;
        are = visited.are;
        ends = ends;
        heard = visited.heard;
        taken = visited.taken;
        told = λ t. (visited.told t).1;
        held = λ up. (visited.kept, visited.knows, visited.hold);
        behind = subst (λ (d : D). Always g d new (Has kind.fits s turns (known s turns))) (sym visited.at)
            (always_begins g new (Has kind.fits s turns (known s turns))
            (held_in g kind.fits kind.holds s.choose (history_after s turns) s.base visited.kept (known s turns) s.run store new same
            visited.knows visited.hold));
        undamaged = undamaged;
      }

  -- all were served
  pub hears_all : (requests : ℕ) → count ≡ requests → Hears g kind s requests heard.Done (hearing from ahead) (hearing to ahead') store new
  hears_all requests most = hears requests heard.Done (visited.made ∙ most, visited.on) (λ file at is image seen. cc is)

  -- the listener failed, which left all as it was
  pub hears_stopped : (requests : ℕ) → count < requests →
      (waiting : Option (List (Option (List ℕ)))) (handed : Option (List Handed)) (ahead'' : Option Moments) (later : Store M) (last : D) →
      waiting ≡ to.waiting → handed ≡ to.handed → ahead'' ≡ ahead' → later ≡ store → last ≡ new →
      Hears g kind s requests heard.Listener (hearing from ahead) (hearing (listened waiting handed) ahead'') later last
  hears_stopped requests less waiting handed ahead'' later last w b a l d =
      subst (λ (x : Option (List (Option (List ℕ)))). Hears g kind s requests heard.Listener (hearing from ahead)
      (hearing (listened x handed) ahead'') later last) (sym w)
      (subst (λ (x : Option (List Handed)). Hears g kind s requests heard.Listener (hearing from ahead)
      (hearing (listened to.waiting x) ahead'') later last)
      (sym b)
      (subst (λ (x : Option Moments). Hears g kind s requests heard.Listener (hearing from ahead) (hearing to x) later last) (sym a)
      (subst (λ (x : Store M). Hears g kind s requests heard.Listener (hearing from ahead) (hearing to ahead') x last) (sym l)
      (subst (λ (x : D). Hears g kind s requests heard.Listener (hearing from ahead) (hearing to ahead') store x) (sym d)
      (hears requests heard.Listener (omega (arith, less, visited.made), visited.on) (λ file at is image seen. cc is))))))

-- what is so of a store and a disk that were left alone
pub over_still : {D : Type 0} (g : Ghosts D) {M : Type 0} (store later : Store M) (disk last : D) → later ≡ store → last ≡ disk →
    LogsAtEnd g store.committer disk → LogsAtEnd g later.committer last
over_still {D} g {M} store later disk last s d is = subst (λ (x : Store M). LogsAtEnd g x.committer last) (sym s)
    (subst (λ (x : D). LogsAtEnd g store.committer x) (sym d) is)

pub measured_still : {D : Type 0} (g : Ghosts D) {M : Type 0} (store later : Store M) (disk last : D) → later ≡ store → last ≡ disk →
    KnowsLogLength g store.committer disk → KnowsLogLength g later.committer last
measured_still {D} g {M} store later disk last s d is =
    subst (λ (x : Store M). KnowsLogLength g x.committer last) (sym s) (subst (λ (x : D). KnowsLogLength g store.committer x) (sym d) is)

-- ---- the commit at the end

module _ {D : Type 0} (g : Ghosts D) {M : Type 0} (kind : Kind M) (s : Start D) (requests : ℕ) (end : Heard) (from to : Listened)
    (ahead ahead' : Option Moments) (store : Store M) (mid : D)
    (heard_all : Hears g kind s requests end (hearing from ahead) (hearing to ahead') store mid) where
  -- the store was not open for a commit
  pub listens_closed : is_open_end end ≡ false → Listens g kind s requests end (hearing from ahead) (hearing to ahead') store mid
  listens_closed down = record {
    visits = heard_all.visits;
    are = heard_all.are;
    ends = inl heard_all.ends;
    heard = heard_all.heard;
    taken = heard_all.taken;
    told = heard_all.told;
    behind = heard_all.behind;
    undamaged = heard_all.undamaged;
    held = λ up. absurd (false≢true (sym down ∙ up));
    all = λ up. absurd (false≢true (sym down ∙ up));
  }

  abbrev after : List TimedCommand
  after = history_after s (turns_of heard_all.visits)

  module _ (up : is_open_end end ≡ true) (same : store.run ≡ s.run) (later : Store M) (new : D)
      (images : (kept : ℕ) → Represents g kind.fits kind.holds s.choose after s.base kept store mid →
      Always g mid new (Either kind.fits s.choose after store.run kept)) where
    -- a commit behind the visits
    listens_on : (last : Heard) → EndsIn requests last heard_all.visits → IsUndamagedEnd g new last →
        (is_open_end last ≡ true → Represents g kind.fits kind.holds s.choose after s.base (length after) later new) →
        (is_open_end last ≡ true → later.run ≡ s.run) →
        Listens g kind s requests last (hearing from ahead) (hearing to ahead') later new
    listens_on last ends undamaged held goes_on =
        let was = heard_all.held up in
        record {
          visits = heard_all.visits;
          are = heard_all.are;
          ends = ends;
          heard = heard_all.heard;
          taken = heard_all.taken;
          told = heard_all.told;
          behind = behind_commit g kind s (turns_of heard_all.visits) store mid new was.0 same was.1 was.2 (images was.0 was.2)
              heard_all.behind;
          undamaged = undamaged;
          held = held;
          all = λ is. all_held g kind s (turns_of heard_all.visits) later new (goes_on is) (held is);
        }

    -- the commit was made
    pub listens_committed : later.run ≡ s.run → ((kept : ℕ) → Represents g kind.fits kind.holds s.choose after s.base kept store mid →
        Represents g kind.fits kind.holds s.choose after s.base (length after) later new) →
        Listens g kind s requests end (hearing from ahead) (hearing to ahead') later new
    listens_committed same_run done = listens_on end (inl heard_all.ends)
        (λ file at is image seen. absurd (false≢true (sym (ap is_open_end is) ∙ up)))
        (λ _. done (heard_all.held up).0 (heard_all.held up).2) (λ _. same_run)

    -- the commit met a fault
    pub listens_broken : (cause : CommitFault) → ((kept : ℕ) → Represents g kind.fits kind.holds s.choose after s.base kept store mid →
        (file : File) (at : ℕ) → cause ≡ commits.Damaged file at → (image : Image) → g.seen new ≡ Some image → ⊥) →
        Listens g kind s requests (heard.Broken cause) (hearing from ahead) (hearing to ahead') later new
    listens_broken cause undamaged = listens_on (heard.Broken cause) (inr (cause, refl, end, up, heard_all.ends))
        (λ file at is image seen. undamaged (heard_all.held up).0 (heard_all.held up).2 file at (broken_is _ _ is) image seen)
        (λ is. absurd (false≢true is)) (λ is. absurd (false≢true is))

-- ---- the counts of faults

pub comes_visited : (listener listener' disk disk' disk'' : ℕ) (came : Result Served ServeFault) (cause : CommitFault) →
    break_of came ≡ Some cause → listener ≤ listener' → disk ≤ disk' → disk' ≤ disk'' →
    (came ≡ Err fault.Disk → Rose disk' disk'') → Comes listener listener' disk disk'' (heard.Broken cause)
comes_visited listener listener' disk disk' disk'' came cause broke later on after by_disk = record {
  listener_later = later;
  disk_later = omega (arith, on, after);
  by_listener = λ is. absurd (cc is);
  by_disk = λ is. rose_later disk disk' disk'' on (by_disk (disk_visit came cause broke (broken_is cause commits.Disk is)));
}

pub comes_stopped : (listener listener' listener'' disk disk' : ℕ) → listener ≤ listener' → listener' ≤ listener'' →
    Rose listener' listener'' → disk ≤ disk' → Comes listener listener'' disk disk' heard.Listener
comes_stopped listener listener' listener'' disk disk' first later rose on = record {
  listener_later = omega (arith, first, later);
  disk_later = on;
  by_listener = λ is. rose_later listener listener' listener'' first rose;
  by_disk = λ is. absurd (cc is);
}

pub comes_done : (listener listener' disk disk' : ℕ) → listener ≤ listener' → disk ≤ disk' → Comes listener listener' disk disk' heard.Done
comes_done listener listener' disk disk' later on = record {
  listener_later = later;
  disk_later = on;
  by_listener = λ is. absurd (cc is);
  by_disk = λ is. absurd (cc is);
}

-- behind the commit at the end

module _ (listener listener' disk disk' disk'' : ℕ) (end : Heard) (first : Comes listener listener' disk disk' end) (later : disk' ≤ disk'')
  where
    pub comes_committed : Comes listener listener' disk disk'' end
    comes_committed = record {
      listener_later = first.listener_later;
      disk_later = omega (arith, first.disk_later, later);
      by_listener = first.by_listener;
      by_disk = λ is. rose_earlier disk disk' disk'' (first.by_disk is) later;
    }

    pub comes_broken : (cause : CommitFault) → (cause ≡ commits.Disk → Rose disk' disk'') →
        Comes listener listener' disk disk'' (heard.Broken cause)
    comes_broken cause rose = record {
      listener_later = first.listener_later;
      disk_later = omega (arith, first.disk_later, later);
      by_listener = λ is. absurd (cc is);
      by_disk = λ is. rose_later disk disk' disk'' first.disk_later (rose (broken_is cause commits.Disk is));
    }
