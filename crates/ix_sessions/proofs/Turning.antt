-- How turns over one link follow each other.
use Rattle.std.proofs.Common.{◌≡◌, ◌≤◌, ◌+◌, ◌⊎◌, ◌∙◌, ℕ, ℤ, Bool, true, false, List, [], ◌∷◌, length, take, ◌++◌, refl, sym, ap, subst}
use Rattle.std.proofs.Common.{⊎_elim, inl, inr, Option, Some, None, Result, Ok, Err, arith}
use Rattle.std.specs.Prelude.{nat_eq, if◌then◌else◌}
use Rattle.std.specs.List.{AllByRecursion}
use Rattle.std.proofs.lemmas.Bool.{false≢true}
use Rattle.ix_base.specs.Clocks.{Answered}
use Rattle.ix_base.specs.Faults.{Rose}
use Rattle.ix_base.specs.Told.{Told, HasWritten, HasBegun}
use Rattle.ix_base.specs.declared.files.File.{File}
use Rattle.ix_base.proofs.ToldLemmas.{written_is_begun, then_written, then_begun, nothing_written, nothing_begun}
use Rattle.ix_manifest.specs.Book.{NamedItems}
use Rattle.ix_disk.specs.Image.{Image}
use Rattle.ix_disk.specs.Moments.{Always}
use Rattle.ix_disk.specs.declared.disk.Disk.{Ghosts}
use Rattle.ix_disk.proofs.Runs.{always_begins, always_on, always_weaker, rose_earlier, rose_later}
use Rattle.ix_commit.specs.declared.fault.CommitFault.{CommitFault}
use Rattle.ix_commit.specs.declared.fault.CommitFault.TheVariants as commits
use Rattle.ix_model.specs.Given.{Chooser}
use Rattle.ix_model.specs.declared.commands.TimedCommand.{TimedCommand}
use Rattle.ix_store.specs.Holding.{Represents}
use Rattle.ix_store.specs.Written.{RecoversTo}
use Rattle.ix_store.specs.declared.store.Store.{Store}
use Rattle.ix_store.proofs.Counted.{take_whole}
use Rattle.ix_store.proofs.Lawful.{held_stands}
use Rattle.ix_serve.specs.Answer.{Says, is_whole}
use Rattle.ix_serve.specs.Entries.{entry}
use Rattle.ix_serve.specs.Kinds.{Kind}
use Rattle.ix_sessions.specs.Feeding.{Comes, Start, Coming, Turn, IsTurn, AreSafe, Came, Has, history_after, disk_after, reply_text}
use Rattle.ix_sessions.specs.Feeding.{known, AreTurns, EndsAs, AreTold, IsUndamagedEnd, Reaches, Feeds, Runs, IsWholeEnd, is_open_end, talk}
use Rattle.ix_sessions.specs.Feeding.{end_of, most_requests}
use Rattle.ix_serve.specs.Prefixes.{StandsIn}
use Rattle.ix_serve.specs.Replies.{Reply, text_of}
use Rattle.ix_serve.specs.Serving.{Wrote, Gave, IsOpen, IsTold, Serves, outcome}
use Rattle.ix_sessions.specs.declared.feed.Fed.{Fed}
use Rattle.ix_sessions.specs.declared.feed.Fed.TheVariants as fed
use Rattle.ix_serve.specs.declared.served.Served.{Served}
use Rattle.ix_serve.specs.declared.served.Served.TheVariants as served
use Rattle.ix_serve.specs.declared.served.ServeFault.{ServeFault}
use Rattle.ix_serve.specs.declared.served.ServeFault.TheVariants as fault
use Rattle.ix_serve.proofs.Answering.{wrote_begun, wrote_clean}
use Rattle.ix_serve.proofs.Standing.{of_all}
use Rattle.ix_sessions.proofs.Growing.{held_in, knows_on, safe_on}

-- ---- what is written

-- a front of what was to be said
pub gave_begun : (r : Option Reply) (delimited : Bool) (clean : Type 0) (result : Result Served ServeFault)
    (given given' : Option (List ℕ)) → Gave r delimited clean result given given' → HasBegun (reply_text r) given given'
gave_begun None delimited clean result given given' is =
    subst (λ (x : Option (List ℕ)). HasBegun [] given x) (sym is) (nothing_begun [] given)
gave_begun (Some r) delimited clean result given given' is = wrote_begun r delimited clean result given given' is

abbrev pub IsExact : Result Served ServeFault → Type 0
IsExact (Ok value) = Unit {0}
IsExact (Err fault.Disk) = ⊥
IsExact (Err (fault.Damaged file at)) = ⊥
IsExact (Err fault.Link) = ⊥
IsExact (Err fault.Cut) = Unit {0}

wrote_whole : (r : Reply) (delimited : Bool) (clean : Type 0) (result : Result Served ServeFault) (given given' : Option (List ℕ)) →
    IsExact result → Wrote r delimited clean result given given' → HasWritten (text_of r) given given'
wrote_whole r delimited clean (Ok served.Ended) given given' whole is = absurd is
wrote_whole r delimited clean (Ok (served.Reply status d unshortened)) given given' whole is = is.2
wrote_whole r delimited clean (Err fault.Disk) given given' whole is = absurd whole
wrote_whole r delimited clean (Err (fault.Damaged file at)) given given' whole is = absurd whole
wrote_whole r delimited clean (Err fault.Link) given given' whole is = absurd whole
wrote_whole r delimited clean (Err fault.Cut) given given' whole is = absurd is

-- the whole of it
gave_whole : (r : Option Reply) (delimited : Bool) (clean : Type 0) (result : Result Served ServeFault) (given given' : Option (List ℕ)) →
    IsExact result → Gave r delimited clean result given given' → HasWritten (reply_text r) given given'
gave_whole None delimited clean result given given' whole is =
    subst (λ (x : Option (List ℕ)). HasWritten [] given x) (sym is) (nothing_written given)
gave_whole (Some r) delimited clean result given given' whole is = wrote_whole r delimited clean result given given' whole is

-- where the link is clean
pub gave_clean : (r : Option Reply) (delimited : Bool) (clean : Type 0) (result : Result Served ServeFault)
    (given given' : Option (List ℕ)) → Gave r delimited clean result given given' → clean → HasWritten (reply_text r) given given'
gave_clean None delimited clean result given given' is sent =
    subst (λ (x : Option (List ℕ)). HasWritten [] given x) (sym is) (nothing_written given)
gave_clean (Some r) delimited clean result given given' is sent = wrote_clean r delimited clean result given given' is sent

-- ---- the end of a run

-- a turn that is not the last
pub stays_open : (n : ℕ) (result : Result Served ServeFault) → end_of n result ≡ None → IsOpen result × IsExact result
stays_open n (Ok value) none = (tt, tt)
stays_open n (Err fault.Disk) none = absurd (cc none)
stays_open n (Err (fault.Damaged file at)) none = absurd (cc none)
stays_open n (Err fault.Link) none = absurd (cc none)
stays_open n (Err fault.Cut) none = absurd (cc none)

some_is : (a b : Fed) → Some a ≡ Some b → a ≡ b
some_is a b is = cc

pub whole_end : (n : ℕ) (result : Result Served ServeFault) (end : Fed) → end_of n result ≡ Some end → IsWholeEnd end → IsExact result
whole_end n (Ok value) end is whole = tt
whole_end n (Err fault.Disk) end is whole = subst IsWholeEnd (sym (some_is _ end is)) whole
whole_end n (Err (fault.Damaged file at)) end is whole = subst IsWholeEnd (sym (some_is _ end is)) whole
whole_end n (Err fault.Link) end is whole = subst IsWholeEnd (sym (some_is _ end is)) whole
whole_end n (Err fault.Cut) end is whole = tt

pub open_end : (n : ℕ) (result : Result Served ServeFault) (end : Fed) → end_of n result ≡ Some end → is_open_end end ≡ true → IsOpen result
open_end n (Ok value) end is up = tt
open_end n (Err fault.Disk) end is up = absurd (false≢true (ap is_open_end (some_is _ end is) ∙ up))
open_end n (Err (fault.Damaged file at)) end is up = absurd (false≢true (ap is_open_end (some_is _ end is) ∙ up))
open_end n (Err fault.Link) end is up = tt
open_end n (Err fault.Cut) end is up = tt

unread_end : (b : Bool) (n : ℕ) (cause : CommitFault) → (if b then fed.NoMemory else fed.Unreadable n) ≡ fed.Broken cause → ⊥
unread_end true n cause is = cc
unread_end false n cause is = cc

-- a run that ends by damage does so in its last turn
pub damaged_turn : (n : ℕ) (result : Result Served ServeFault) (file : File) (at : ℕ) →
    end_of n result ≡ Some (fed.Broken (commits.Damaged file at)) → result ≡ Err (fault.Damaged file at)
damaged_turn n (Ok served.Ended) file at is = absurd (cc)
damaged_turn n (Ok (served.Reply status true unshortened)) file at is = absurd (cc)
damaged_turn n (Ok (served.Reply status false unshortened)) file at is =
    absurd (unread_end (nat_eq status 503) n (commits.Damaged file at) (some_is _ _ is))
damaged_turn n (Err fault.Disk) file at is = absurd (cc)
damaged_turn n (Err (fault.Damaged f a)) file at is = cc
damaged_turn n (Err fault.Link) file at is = absurd (cc)
damaged_turn n (Err fault.Cut) file at is = absurd (cc)

-- ---- turns that follow each other

pub safe_turns : {D : Type 0} (g : Ghosts D) (fits : NamedItems → Type 0) (s : Start D) (turns : List (Turn D)) (from to : Coming) →
    AreTurns g fits s turns from to → AreSafe g fits s turns
safe_turns g fits s [] from to are = tt
safe_turns g fits s (turn ∷ earlier) from to are = (safe_turns g fits s earlier from are.0 are.1, are.2.safe)

-- what comes of a request is what was written
pub gave_came : (r : Option Reply) (delimited : Bool) (clean : Type 0) (result : Result Served ServeFault)
    (given given' : Option (List ℕ)) → Gave r delimited clean result given given' → Came r delimited result
gave_came None delimited clean result given given' is = tt
gave_came (Some r) delimited clean (Ok served.Ended) given given' is = is
gave_came (Some r) delimited clean (Ok (served.Reply status whole unshortened)) given given' is = (is.0, is.1)
gave_came (Some r) delimited clean (Err fault.Disk) given given' is = tt
gave_came (Some r) delimited clean (Err (fault.Damaged file at)) given given' is = tt
gave_came (Some r) delimited clean (Err fault.Link) given given' is = tt
gave_came (Some r) delimited clean (Err fault.Cut) given given' is = is

-- ---- one turn more

module _ {D : Type 0} (g : Ghosts D) {M : Type 0} (kind : Kind M) (s : Start D) (count : ℕ) (from mid to : Coming)
    (given given' given'' : Option (List ℕ)) (before store : Store M) (disk new : D)
    (moment : ℤ) (clean clean' : Type 0) (result : Result Served ServeFault)
    (same : before.run ≡ s.run) (goes_on : store.run ≡ before.run) (shown : Told (Answered moment) mid.ahead to.ahead)
    (reached : Reaches g kind s count (talk from given) (talk mid given') before disk)
    (serves : Serves g kind (entry s.choose (history_after s reached.turns) s.base reached.kept before.run moment)
    (outcome result clean given' given'') mid.left to.left store disk new)
    (tells : IsTold g disk → IsTold g new) (taken : AllByRecursion kind.takes (history_after s reached.turns ++ serves.answers.answer.more))
  where
    turn : Turn D
    turn = record { kept = reached.kept; moment = moment; read = serves.read; answer = serves.answers.answer; result = result; disk = new }

    turn_on : IsTurn g kind.fits s reached.turns turn mid to
    unfolding turn
    turn_on = record {
      safe = safe_on g kind s reached.turns turn before store disk same goes_on reached.at reached.knows reached.hold.staged.within
          serves.answers.held serves.answers.images;
      took = serves.took;
      shown = shown;
      says = subst (λ (r : ℕ). Says (entry s.choose (history_after s reached.turns) s.base reached.kept r moment) (IsTold g new) serves.read
          result serves.answers.answer) same serves.answers.may_be;
      came = gave_came serves.answers.answer.reply (is_whole serves.read) clean result given' given'' serves.answers.gave;
    }

    turns_on : AreTurns g kind.fits s (turn ∷ reached.turns) from to
    turns_on = (mid, reached.are, turn_on)

    behind_on : Always g (disk_after s (turn ∷ reached.turns)) new (Has kind.fits s (turn ∷ reached.turns) (known s (turn ∷ reached.turns)))
    unfolding turn
    behind_on = always_begins g new (Has kind.fits s (turn ∷ reached.turns) (known s (turn ∷ reached.turns))) turn_on.safe.settled

    told_on : IsTold g s.disk → IsTold g new × AreTold g (turn ∷ reached.turns)
    unfolding turn
    told_on is = let before = reached.told is in (tells before.0, (tells before.0, before.1))

    pub reach_on : end_of (count + 1) result ≡ None → Reaches g kind s (count + 1) (talk from given) (talk to given'') store new
    unfolding turn
    reach_on none =
        let fine = stays_open (count + 1) result none in
        let held = serves.answers.held fine.0 in record {
          turns = turn ∷ reached.turns;
          are = turns_on;
          taken = taken;
          served = omega (arith, reached.served);
          on = (subst (λ (n : ℕ). end_of (n + 1) result ≡ None) (sym reached.served) none, reached.on);
          written = then_written reached.written (gave_whole serves.answers.answer.reply _ clean result given' given'' fine.1
              serves.answers.gave);
          at = refl;
          kept = held.count;
          knows = knows_on g kind s reached.turns turn before store disk same goes_on reached.at reached.knows reached.hold.staged.within
              serves.answers.held serves.answers.images fine.0;
          hold = held.hold;
          told = told_on;
        }

    pub feeds_on : (clean' → clean) → (end : Fed) → end_of (count + 1) result ≡ Some end →
        Feeds g kind s end clean' (talk from given) (talk to given'') store new
    unfolding turn
    feeds_on cleaner end is = record {
      turns = turn ∷ reached.turns;
      are = turns_on;
      taken = taken;
      ends = inl (subst (λ (n : ℕ). end_of (n + 1) result ≡ Some end) (sym reached.served) is, reached.on);
      written = λ whole. then_written reached.written (gave_whole serves.answers.answer.reply _ clean result given' given''
          (whole_end (count + 1) result end is whole) serves.answers.gave);
      sent = λ sent. then_written reached.written (gave_clean serves.answers.answer.reply _ clean result given' given'' serves.answers.gave
          (cleaner sent));
      begun = then_begun reached.written (gave_begun serves.answers.answer.reply _ clean result given' given'' serves.answers.gave);
      told = λ is. (told_on is).1;
      held = λ up.
          let stays = open_end (count + 1) result end is up in
          let held = serves.answers.held stays in (
            held.count,
            knows_on g kind s reached.turns turn before store disk same goes_on reached.at reached.knows reached.hold.staged.within
                serves.answers.held serves.answers.images stays,
            held.hold,
          );
      behind = behind_on;
      undamaged = λ file at broken image seen. serves.answers.undamaged file at
          (damaged_turn (count + 1) result file at (is ∙ ap (λ (e : Fed). Some e) broken)) image seen;
    }

-- a run that was not ended by a turn
pub feeds_all : {D : Type 0} (g : Ghosts D) {M : Type 0} (kind : Kind M) (s : Start D) (clean : Type 0) (from to : Coming)
    (given given' : Option (List ℕ)) (store : Store M) (new : D) (count : ℕ) → count ≡ most_requests → store.run ≡ s.run →
    (reached : Reaches g kind s count (talk from given) (talk to given') store new) →
    Feeds g kind s fed.Endless clean (talk from given) (talk to given') store new
feeds_all g kind s clean from to given given' store new count most same reached = record {
  turns = reached.turns;
  are = reached.are;
  taken = reached.taken;
  ends = inr (refl, reached.served ∙ most, reached.on);
  written = λ _. reached.written;
  sent = λ _. reached.written;
  begun = written_is_begun reached.written;
  told = λ is. (reached.told is).1;
  held = λ _. (reached.kept, reached.knows, reached.hold);
  behind = subst (λ (d : _). Always g d new (Has kind.fits s reached.turns (known s reached.turns))) (sym reached.at)
      (always_begins g new (Has kind.fits s reached.turns (known s reached.turns))
      (held_in g kind.fits kind.holds s.choose (history_after s reached.turns) s.base reached.kept (known s reached.turns) s.run store new
      same reached.knows reached.hold));
  undamaged = λ file at is image seen. cc is;
}

-- ---- the commit at the end

broken_is : (a b : CommitFault) → fed.Broken a ≡ fed.Broken b → a ≡ b
broken_is a b is = cc

-- what a commit says of the images, of which the first `kept` commands were committed before
abbrev pub Either : (NamedItems → Type 0) → Chooser → List TimedCommand → ℕ → ℕ → Image → Type 0
Either fits choose after r kept image = RecoversTo fits r choose (take kept after) image ⊎ RecoversTo fits r choose after image

-- each image has what is known, and goes on having it through a commit
pub behind_commit : {D : Type 0} (g : Ghosts D) {M : Type 0} (kind : Kind M) (s : Start D) (turns : List (Turn D)) (store : Store M)
    (mid new : D) (kept : ℕ) → store.run ≡ s.run → known s turns ≤ kept →
    Represents g kind.fits kind.holds s.choose (history_after s turns) s.base kept store mid →
    Always g mid new (Either kind.fits s.choose (history_after s turns) store.run kept) →
    Always g (disk_after s turns) mid (Has kind.fits s turns (known s turns)) →
    Always g (disk_after s turns) new (Has kind.fits s turns (known s turns))
behind_commit g kind s turns store mid new kept same knows hold images before =
    let after = history_after s turns in
    let within = hold.staged.within in
    always_on g (disk_after s turns) mid new (Has kind.fits s turns (known s turns)) before
    (always_weaker g mid new (Either kind.fits s.choose after store.run kept) (Has kind.fits s turns (known s turns))
    (λ image. subst (λ (r : ℕ). Either kind.fits s.choose after r kept image →
    StandsIn kind.fits s.run s.choose after (known s turns) image) (sym same)
    (⊎_elim (λ some. record { count = kept; least = knows; most = within; stands = some })
    (of_all kind.fits s.run s.choose after (known s turns) (omega (arith, knows, within)) image)))
    images)

-- all is in every image
pub all_held : {D : Type 0} (g : Ghosts D) {M : Type 0} (kind : Kind M) (s : Start D) (turns : List (Turn D)) (store : Store M) (disk : D) →
    store.run ≡ s.run →
    Represents g kind.fits kind.holds s.choose (history_after s turns) s.base (length (history_after s turns)) store disk →
    (image : Image) → g.may_leave disk image → RecoversTo kind.fits s.run s.choose (history_after s turns) image
all_held g kind s turns store disk same hold image may =
    let after = history_after s turns in
    subst (λ (r : ℕ). RecoversTo kind.fits r s.choose after image) same
    (subst (λ (l : List TimedCommand). RecoversTo kind.fits store.run s.choose l image) (take_whole after)
    (held_stands g kind.fits kind.holds s.choose after s.base (length after) store disk hold image may))

module _ {D : Type 0} (g : Ghosts D) {M : Type 0} (kind : Kind M) (s : Start D) (end : Fed) (clean : Type 0) (from to : Coming)
    (given given' : Option (List ℕ)) (store : Store M) (mid : D)
    (feeds : Feeds g kind s end clean (talk from given) (talk to given') store mid) where
  -- the store was not open for a commit
  pub runs_closed : is_open_end end ≡ false → Runs g kind s end clean (talk from given) (talk to given') store mid
  runs_closed down = record {
    turns = feeds.turns;
    are = feeds.are;
    taken = feeds.taken;
    ends = inl feeds.ends;
    written = feeds.written;
    sent = feeds.sent;
    begun = feeds.begun;
    told = feeds.told;
    behind = feeds.behind;
    undamaged = feeds.undamaged;
    held = λ up. absurd (false≢true (sym down ∙ up));
    all = λ up. absurd (false≢true (sym down ∙ up));
  }

  abbrev after : List TimedCommand
  after = history_after s feeds.turns

  module _ (up : is_open_end end ≡ true) (same : store.run ≡ s.run) (later : Store M) (new : D)
      (images : (kept : ℕ) → Represents g kind.fits kind.holds s.choose after s.base kept store mid →
      Always g mid new (Either kind.fits s.choose after store.run kept)) where
    -- a commit behind the turns
    runs_on : (last : Fed) → EndsAs last feeds.turns → (IsWholeEnd last → IsWholeEnd end) → IsUndamagedEnd g new last →
        (is_open_end last ≡ true → Represents g kind.fits kind.holds s.choose after s.base (length after) later new) →
        (is_open_end last ≡ true → later.run ≡ s.run) →
        Runs g kind s last clean (talk from given) (talk to given') later new
    runs_on last ends whole undamaged held goes_on =
        let was = feeds.held up in
        record {
          turns = feeds.turns;
          are = feeds.are;
          taken = feeds.taken;
          ends = ends;
          written = λ is. feeds.written (whole is);
          sent = feeds.sent;
          begun = feeds.begun;
          told = feeds.told;
          behind = behind_commit g kind s feeds.turns store mid new was.0 same was.1 was.2 (images was.0 was.2) feeds.behind;
          undamaged = undamaged;
          held = held;
          all = λ is. all_held g kind s feeds.turns later new (goes_on is) (held is);
        }

    -- the commit was made
    pub runs_committed : later.run ≡ s.run → ((kept : ℕ) → Represents g kind.fits kind.holds s.choose after s.base kept store mid →
        Represents g kind.fits kind.holds s.choose after s.base (length after) later new) →
        Runs g kind s end clean (talk from given) (talk to given') later new
    runs_committed same_run done = runs_on end (inl feeds.ends) (λ is. is)
        (λ file at is image seen. absurd (false≢true (sym (ap is_open_end is) ∙ up)))
        (λ _. done (feeds.held up).0 (feeds.held up).2) (λ _. same_run)

    -- the commit met a fault
    pub runs_broken : (cause : CommitFault) → ((kept : ℕ) → Represents g kind.fits kind.holds s.choose after s.base kept store mid →
        (file : File) (at : ℕ) → cause ≡ commits.Damaged file at → (image : Image) → g.seen new ≡ Some image → ⊥) →
        Runs g kind s (fed.Broken cause) clean (talk from given) (talk to given') later new
    runs_broken cause undamaged = runs_on (fed.Broken cause) (inr (cause, refl, end, up, feeds.ends)) (λ is. absurd is)
        (λ file at is image seen. undamaged (feeds.held up).0 (feeds.held up).2 file at (broken_is _ _ is) image seen)
        (λ is. absurd (false≢true is)) (λ is. absurd (false≢true is))

-- ---- the counts of faults

unread_link : (b : Bool) (n : ℕ) → (if b then fed.NoMemory else fed.Unreadable n) ≡ fed.Link → ⊥
unread_link true n is = cc
unread_link false n is = cc

-- a run that ends by a fault of the link or the disk does so in its last turn
link_turn : (n : ℕ) (result : Result Served ServeFault) → end_of n result ≡ Some fed.Link → result ≡ Err fault.Link
link_turn n (Ok served.Ended) is = absurd (cc)
link_turn n (Ok (served.Reply status true unshortened)) is = absurd (cc)
link_turn n (Ok (served.Reply status false unshortened)) is = absurd (unread_link (nat_eq status 503) n (some_is _ _ is))
link_turn n (Err fault.Disk) is = absurd (cc)
link_turn n (Err (fault.Damaged file at)) is = absurd (cc)
link_turn n (Err fault.Link) is = refl
link_turn n (Err fault.Cut) is = absurd (cc)

disk_turn : (n : ℕ) (result : Result Served ServeFault) → end_of n result ≡ Some (fed.Broken commits.Disk) → result ≡ Err fault.Disk
disk_turn n (Ok served.Ended) is = absurd (cc)
disk_turn n (Ok (served.Reply status true unshortened)) is = absurd (cc)
disk_turn n (Ok (served.Reply status false unshortened)) is = absurd (unread_end (nat_eq status 503) n commits.Disk (some_is _ _ is))
disk_turn n (Err fault.Disk) is = refl
disk_turn n (Err (fault.Damaged file at)) is = absurd (cc)
disk_turn n (Err fault.Link) is = absurd (cc)
disk_turn n (Err fault.Cut) is = absurd (cc)

pub comes_ended : (n link link' link'' disk disk' disk'' : ℕ) (result : Result Served ServeFault) (end : Fed) → end_of n result ≡ Some end →
    link ≤ link' → link' ≤ link'' → disk ≤ disk' → disk' ≤ disk'' →
    (result ≡ Err fault.Link → Rose link' link'') → (result ≡ Err fault.Disk → Rose disk' disk'') → Comes link link'' disk disk'' end
comes_ended n link link' link'' disk disk' disk'' result end came first later on after by_link by_disk = record {
  link_later = omega (arith, first, later);
  disk_later = omega (arith, on, after);
  by_link = λ is. rose_later link link' link'' first (by_link (link_turn n result (came ∙ ap (λ (e : Fed). Some e) is)));
  by_disk = λ is. rose_later disk disk' disk'' on (by_disk (disk_turn n result (came ∙ ap (λ (e : Fed). Some e) is)));
}

pub comes_endless : (link link' disk disk' : ℕ) → link ≤ link' → disk ≤ disk' → Comes link link' disk disk' fed.Endless
comes_endless link link' disk disk' later on = record {
  link_later = later;
  disk_later = on;
  by_link = λ is. absurd (cc is);
  by_disk = λ is. absurd (cc is);
}

-- behind the commit at the end

module _ (link link' disk disk' disk'' : ℕ) (end : Fed) (first : Comes link link' disk disk' end) (later : disk' ≤ disk'') where
  pub comes_committed : Comes link link' disk disk'' end
  comes_committed = record {
    link_later = first.link_later;
    disk_later = omega (arith, first.disk_later, later);
    by_link = first.by_link;
    by_disk = λ is. rose_earlier disk disk' disk'' (first.by_disk is) later;
  }

  pub comes_broken : (cause : CommitFault) → (cause ≡ commits.Disk → Rose disk' disk'') → Comes link link' disk disk'' (fed.Broken cause)
  comes_broken cause rose = record {
    link_later = first.link_later;
    disk_later = omega (arith, first.disk_later, later);
    by_link = λ is. absurd (cc is);
    by_disk = λ is. rose_later disk disk' disk'' first.disk_later (rose (broken_is cause commits.Disk is));
  }
