-- How answers come about.
use Rattle.std.proofs.Common.{◌≡◌, ◌≤◌, ◌⊎◌, ◌∙◌, ℕ, Bool, true, false, List, [], length, drop, refl, sym, subst, ⊎_elim, inl, inr, Option}
use Rattle.std.proofs.Common.{Some, None, Result, Ok, Err, arith}
use Rattle.std.specs.Prelude.{IfOk, IfErr, OnOk}
use Rattle.std.proofs.lemmas.List.{append-nil}
use Rattle.std.proofs.lemmas.Bool.{false≢true}
use Rattle.ix_base.specs.Faults.{Rose}
use Rattle.ix_base.specs.declared.files.File.{File}
use Rattle.ix_base.specs.Told.{Told, HasWritten, HasBegun}
use Rattle.ix_base.proofs.ToldLemmas.{written_is_begun}
use Rattle.ix_disk.proofs.Runs.{rose_later}
use Rattle.ix_disk.specs.Moments.{Always}
use Rattle.ix_disk.specs.declared.disk.Disk.{Ghosts}
use Rattle.ix_http.specs.Asked.{Fits}
use Rattle.ix_http.specs.Limits.{IsWithin}
use Rattle.ix_http.specs.declared.kinds.Kind.{Kind as ReplyKind}
use Rattle.ix_commit.specs.Undo.{HasSameLogs}
use Rattle.ix_commit.specs.declared.fault.CommitFault.{CommitFault}
use Rattle.ix_commit.specs.declared.fault.CommitFault.TheVariants as commits
use Rattle.ix_net.specs.Links.{Standing}
use Rattle.ix_model.specs.Bounds.{IsAllowed, IsRefused}
use Rattle.ix_model.specs.declared.answers.Accepted.{Accepted}
use Rattle.ix_model.specs.declared.answers.Refusal.{Refusal}
use Rattle.ix_model.specs.declared.commands.Command.{Command}
use Rattle.ix_model.specs.declared.commands.TimedCommand.{TimedCommand}
use Rattle.ix_store.specs.Counting.{is_due}
use Rattle.ix_store.specs.Holding.{Represents, IsAccepted, IsUnchanged, holding}
use Rattle.ix_store.specs.Making.{with_order}
use Rattle.ix_store.specs.declared.store.Store.{Store}
use Rattle.ix_store.proofs.Joining.{staged_same}
use Rattle.ix_store.proofs.Lawful.{held_then}
use Rattle.ix_serve.specs.Answer.{Answer, Found, Says, MayChange, is_whole, accepted, answer_of_fault}
use Rattle.ix_serve.specs.Entries.{Entry, state, order}
use Rattle.ix_serve.specs.Kinds.{Kind}
use Rattle.ix_serve.specs.Prefixes.{StandsIn}
use Rattle.ix_serve.specs.Replies.{Reply, reply, text_of, refused}
use Rattle.ix_serve.specs.Serving.{Wrote, Gave, IsClean, IsOpen, IsUndamaged, IsTold, HoldsFrom, Answers, Serves, Comes, outcome}
use Rattle.ix_serve.specs.declared.served.Served.{Served}
use Rattle.ix_serve.specs.declared.served.Served.TheVariants as served
use Rattle.ix_serve.specs.declared.served.ServeFault.{ServeFault}
use Rattle.ix_serve.specs.declared.served.ServeFault.TheVariants as fault
use Rattle.ix_serve.proofs.Standing.{same_run, standing}

-- ---- what is written

-- it is a front of the reply at least
pub wrote_begun : (r : Reply) (delimited : Bool) (clean : Type 0) (result : Result Served ServeFault) (given given' : Option (List ℕ)) →
    Wrote r delimited clean result given given' → HasBegun (text_of r) given given'
wrote_begun r delimited clean (Ok served.Ended) given given' is = absurd is
wrote_begun r delimited clean (Ok (served.Reply status whole unshortened)) given given' is = written_is_begun is.2
wrote_begun r delimited clean (Err fault.Disk) given given' is = is.0
wrote_begun r delimited clean (Err (fault.Damaged file at)) given given' is = is.0
wrote_begun r delimited clean (Err fault.Link) given given' is = is.0
wrote_begun r delimited clean (Err fault.Cut) given given' is = absurd is

-- where the link is clean it is all of it
pub wrote_clean : (r : Reply) (delimited : Bool) (clean : Type 0) (result : Result Served ServeFault) (given given' : Option (List ℕ)) →
    Wrote r delimited clean result given given' → clean → HasWritten (text_of r) given given'
wrote_clean r delimited clean (Ok served.Ended) given given' is sent = absurd is
wrote_clean r delimited clean (Ok (served.Reply status whole unshortened)) given given' is sent = is.2
wrote_clean r delimited clean (Err fault.Disk) given given' is sent = is.1 sent
wrote_clean r delimited clean (Err (fault.Damaged file at)) given given' is sent = is.1 sent
wrote_clean r delimited clean (Err fault.Link) given given' is sent = is.1 sent
wrote_clean r delimited clean (Err fault.Cut) given given' is sent = absurd is

begun_broken : (r : Reply) (delimited : Bool) (clean : Type 0) (cause : CommitFault) (given given' : Option (List ℕ)) →
    HasBegun (text_of r) given given' → (clean → HasWritten (text_of r) given given') →
    Wrote r delimited clean (Err (answer_of_fault cause)) given given'
begun_broken r delimited clean commits.Disk given given' is all = (is, all)
begun_broken r delimited clean (commits.Damaged file at) given given' is all = (is, all)

-- a reply that was written before a fault of the disk is answered
pub gave_up : (r : Reply) (delimited : Bool) (clean : Type 0) (result : Result Served ServeFault) (cause : CommitFault)
    (given given' : Option (List ℕ)) →
    Wrote r delimited clean result given given' → Wrote r delimited clean (Err (answer_of_fault cause)) given given'
gave_up r delimited clean result cause given given' is =
    begun_broken r delimited clean cause given given' (wrote_begun r delimited clean result given given' is)
    (wrote_clean r delimited clean result given given' is)

-- behind a commit, the reply was written as before
pub wrote_settled : (r : Reply) (delimited : Bool) (clean : Type 0) (came result : Result Served ServeFault)
    (given given' : Option (List ℕ)) →
    (result ≡ came) ⊎ ((cause : CommitFault) × (result ≡ Err (answer_of_fault cause))) →
    Wrote r delimited clean came given given' → Wrote r delimited clean result given given'
wrote_settled r delimited clean came result given given' either is = ⊎_elim
    (λ (same : result ≡ came). subst (λ (x : Result Served ServeFault). Wrote r delimited clean x given given') (sym same) is)
    (λ (w : (cause : CommitFault) × (result ≡ Err (answer_of_fault cause))).
    subst (λ (x : Result Served ServeFault). Wrote r delimited clean x given given') (sym w.1)
    (begun_broken r delimited clean w.0 given given' (wrote_begun r delimited clean came given given' is)
    (wrote_clean r delimited clean came given given' is)))
    either

wrote_cleaner : (r : Reply) (delimited : Bool) (clean clean' : Type 0) (result : Result Served ServeFault)
    (given given' : Option (List ℕ)) → (clean' → clean) →
    Wrote r delimited clean result given given' → Wrote r delimited clean' result given given'
wrote_cleaner r delimited clean clean' (Ok served.Ended) given given' so is = is
wrote_cleaner r delimited clean clean' (Ok (served.Reply status whole unshortened)) given given' so is = is
wrote_cleaner r delimited clean clean' (Err fault.Disk) given given' so is = (is.0, λ c. is.1 (so c))
wrote_cleaner r delimited clean clean' (Err (fault.Damaged file at)) given given' so is = (is.0, λ c. is.1 (so c))
wrote_cleaner r delimited clean clean' (Err fault.Link) given given' so is = (is.0, λ c. is.1 (so c))
wrote_cleaner r delimited clean clean' (Err fault.Cut) given given' so is = is

pub gave_cleaner : (r : Option Reply) (delimited : Bool) (clean clean' : Type 0) (result : Result Served ServeFault)
    (given given' : Option (List ℕ)) → (clean' → clean) →
    Gave r delimited clean result given given' → Gave r delimited clean' result given given'
gave_cleaner None delimited clean clean' result given given' so is = is
gave_cleaner (Some r) delimited clean clean' result given given' so is = wrote_cleaner r delimited clean clean' result given given' so is

-- a reply by its status and its body
pub gave_as : (status status' : ℕ) (kind : ReplyKind) (body body' : List ℕ) (delimited : Bool) (clean : Type 0)
    (result : Result Served ServeFault) (given given' : Option (List ℕ)) → status ≡ status' → body ≡ body' →
    Wrote (reply status kind body) delimited clean result given given' →
    Wrote (reply status' kind body') delimited clean result given given'
gave_as status status' kind body body' delimited clean result given given' one other is =
    subst (λ (n : ℕ). Wrote (reply n kind body') delimited clean result given given') one
    (subst (λ (b : List ℕ). Wrote (reply status kind b) delimited clean result given given') other is)

-- what is clean over a longer time is so over its last part
pub clean_behind : (first mid last : ℕ) (begun between now : Standing) → first ≤ mid → begun.writing ≤ between.writing →
    IsClean first last begun now → IsClean mid last between now
clean_behind first mid last begun between now le less = ⊎_elim
    (λ sent. inl (λ rose. sent (rose_later first mid last le rose)))
    (λ sent. inr (λ rose. sent (rose_later begun.writing between.writing now.writing less rose)))

-- where both counts rose it is not clean
pub not_clean : (before now : ℕ) (begun ended : Standing) → Rose before now → Rose begun.writing ended.writing →
    IsClean before now begun ended → ⊥
not_clean before now begun ended rose wrote = ⊎_elim (λ sent. sent rose) (λ sent. sent wrote)

-- ---- faults

pub open_undamaged : {D : Type 0} (g : Ghosts D) (new : D) (result : Result Served ServeFault) → IsOpen result → IsUndamaged g new result
open_undamaged g new result stays file at is image seen = absurd (subst IsOpen is stays)

-- a store that has failed is not open
pub closed : (cause : CommitFault) → IsOpen (Err (answer_of_fault cause)) → ⊥
closed commits.Disk is = is
closed (commits.Damaged file at) is = is

pub not_open : (error : ServeFault) (cause : CommitFault) → error ≡ answer_of_fault cause → IsOpen (Err error) → ⊥
not_open error cause same stays = closed cause (subst (λ (f : ServeFault). IsOpen (Err f)) same stays)

pub err_back : (a b : ServeFault) → (let result : Result Served ServeFault = Err a in result ≡ Err b) → a ≡ b
err_back a b is = cc

pub disk_back : (cause : CommitFault) → answer_of_fault cause ≡ fault.Disk → cause ≡ commits.Disk
disk_back commits.Disk is = refl
disk_back (commits.Damaged file at) is = absurd (cc is)

pub no_link : (cause : CommitFault) → answer_of_fault cause ≡ fault.Link → ⊥
no_link commits.Disk is = cc
no_link (commits.Damaged file at) is = cc

-- calls that leave the store open
pub comes_open : (link link' link'' disk disk' : ℕ) (result : Result Served ServeFault) → link ≤ link' → link' ≤ link'' →
    (result ≡ Err fault.Link → Rose link' link'') → disk ≤ disk' → IsOpen result →
    Comes link link'' disk disk' result
comes_open link link' link'' disk disk' result first later failed on stays = record {
  link_later = omega (arith, first, later);
  disk_later = on;
  by_link = λ is. rose_later link link' link'' first (failed is);
  by_disk = λ is. absurd (subst IsOpen is stays);
}

-- calls that close it
pub comes_closed : (link link' disk disk' : ℕ) (result : Result Served ServeFault) (cause : CommitFault) →
    result ≡ Err (answer_of_fault cause) → link ≤ link' → disk ≤ disk' →
    (cause ≡ commits.Disk → Rose disk disk') → Comes link link' disk disk' result
comes_closed link link' disk disk' result cause same first later rose = record {
  link_later = first;
  disk_later = later;
  by_link = λ is. absurd (no_link cause (err_back (answer_of_fault cause) fault.Link (sym same ∙ is)));
  by_disk = λ is. rose (disk_back cause (err_back (answer_of_fault cause) fault.Disk (sym same ∙ is)));
}

-- more calls of the link before
pub comes_later : (link link' link'' disk disk' : ℕ) (result : Result Served ServeFault) → link ≤ link' →
    Comes link' link'' disk disk' result → Comes link link'' disk disk' result
comes_later link link' link'' disk disk' result first comes = record {
  link_later = omega (arith, first, comes.link_later);
  disk_later = comes.disk_later;
  by_link = λ is. rose_later link link' link'' first (comes.by_link is);
  by_disk = comes.by_disk;
}

-- a commit behind a call of the link
pub comes_settled : (link link' disk disk' : ℕ) (came result : Result Served ServeFault) → link ≤ link' →
    (came ≡ Err fault.Link → Rose link link') →
    (result ≡ came) ⊎ ((cause : CommitFault) × (result ≡ Err (answer_of_fault cause))) → disk ≤ disk' →
    (result ≡ Err fault.Disk → Rose disk disk') → Comes link link' disk disk' result
comes_settled link link' disk disk' came result first failed either later broken = record {
  link_later = first;
  disk_later = later;
  by_link = λ is. ⊎_elim
      (λ (same : result ≡ came). failed (sym same ∙ is))
      (λ (w : (cause : CommitFault) × (result ≡ Err (answer_of_fault cause))).
      absurd (no_link w.0 (err_back (answer_of_fault w.0) fault.Link (sym w.1 ∙ is))))
      either;
  by_disk = broken;
}

-- ---- answers

module _ {D : Type 0} (g : Ghosts D) {M : Type 0} (kind : Kind M) (e : Entry) where
  -- all is committed
  pub due_held : (commits : Bool) (h : List TimedCommand) (store : Store M) (disk : D) → e.kept ≤ length h →
      Represents g kind.fits kind.holds e.choose h e.base (length h) store disk → HoldsFrom g kind.fits kind.holds e commits h store disk
  due_held commits h store disk within hold = record { count = length h; least = within; hold = hold; all = λ _. refl }

  -- nothing is to be committed
  pub undue_held : (commits : Bool) (h : List TimedCommand) (store : Store M) (disk : D) → commits ≡ false →
      Represents g kind.fits kind.holds e.choose h e.base e.kept store disk → HoldsFrom g kind.fits kind.holds e commits h store disk
  undue_held commits h store disk undue hold = record {
    count = e.kept;
    least = omega arith;
    hold = hold;
    all = λ is. absurd (false≢true (sym undue ∙ is));
  }

  -- nothing was added
  pub queried : (may : Answer → Type 0) (delimited : Bool) (clean : Type 0) (result : Result Served ServeFault)
      (given given' : Option (List ℕ)) (store : Store M) (old new : D) (r : Option Reply) (commits : Bool) →
      (let a : Answer = record { reply = r; more = []; commits = commits } in may a) → Gave r delimited clean result given given' →
      (IsOpen result → HoldsFrom g kind.fits kind.holds e commits e.history store new) →
      Always g old new (StandsIn kind.fits e.run e.choose e.history e.kept) → IsUndamaged g new result →
      Answers g kind e may delimited (outcome result clean given given') store old new
  queried may delimited clean result given given' store old new r commits may_be gave held images undamaged = record {
    answer = record { reply = r; more = []; commits = commits };
    may_be = may_be;
    gave = gave;
    held = λ stays. subst (λ (l : List TimedCommand). HoldsFrom g kind.fits kind.holds e commits l store new) (sym (append-nil e.history))
        (held stays);
    images = subst (λ (l : List TimedCommand). Always g old new (StandsIn kind.fits e.run e.choose l e.kept)) (sym (append-nil e.history))
        images;
    undamaged = undamaged;
  }

  -- nothing was added and the disk left alone
  pub idle : (may : Answer → Type 0) (delimited : Bool) (clean : Type 0) (result : Result Served ServeFault)
      (given given' : Option (List ℕ)) (store : Store M) (disk : D) (r : Option Reply) →
      (let a : Answer = record { reply = r; more = []; commits = false } in may a) → Gave r delimited clean result given given' →
      IsOpen result →
      store.run ≡ e.run → Represents g kind.fits kind.holds e.choose e.history e.base e.kept store disk →
      Answers g kind e may delimited (outcome result clean given given') store disk disk
  idle may delimited clean result given given' store disk r may_be gave stays run hold =
      queried may delimited clean result given given' store disk disk r false may_be gave
      (λ _. undue_held false e.history store disk refl hold)
      (subst (λ (n : ℕ). Always g disk disk (StandsIn kind.fits n e.choose e.history e.kept)) run
      (standing g kind.fits kind.holds e.choose e.history e.base e.kept store disk hold))
      (open_undamaged g disk result stays)

  -- a command was accepted
  pub changed : (command : Command) (good : Reply) (clean : Type 0) (result : Result Served ServeFault) (given given' : Option (List ℕ))
      (before mid store : Store M) (old new : D) (answer : Accepted) →
      (hold : Represents g kind.fits kind.holds e.choose e.history e.base e.kept before old) →
      IsAccepted kind.fits kind.holds (holding e.choose e.history e.base e.kept) (order e command) before mid hold.old answer →
      Wrote good true clean result given given' → (IsOpen result →
      HoldsFrom g kind.fits kind.holds e (is_due (drop e.kept (with_order e.choose e.history (order e command))))
      (with_order e.choose e.history (order e command)) store new) →
      Always g old new (StandsIn kind.fits e.run e.choose (with_order e.choose e.history (order e command)) e.kept) → IsUndamaged g new
      result →
      Answers g kind e (MayChange e command good) true (outcome result clean given given') store old new
  changed command good clean result given given' before mid store old new answer hold is gave held images undamaged = record {
    answer = accepted e command good;
    may_be = inl (subst (λ (n : ℕ). IsAllowed e.choose false n (state e) (order e command)) hold.staged.counted.drawn_are is.allowed, refl);
    gave = gave;
    held = held;
    images = images;
    undamaged = undamaged;
  }

  -- store and disk hold it
  pub held_accepted : (command : Command) (before mid : Store M) (disk : D) (answer : Accepted)
      (hold : Represents g kind.fits kind.holds e.choose e.history e.base e.kept before disk) → HasSameLogs before.committer mid.committer →
      IsAccepted kind.fits kind.holds (holding e.choose e.history e.base e.kept) (order e command) before mid hold.old answer →
      Represents g kind.fits kind.holds e.choose (with_order e.choose e.history (order e command)) e.base e.kept mid disk
  held_accepted command before mid disk answer hold logs is =
      held_then g kind.fits kind.holds e.choose e.history (with_order e.choose e.history (order e command)) e.base e.kept before mid disk
      hold logs
      is.staged

  pub run_accepted : (command : Command) (before mid : Store M) (disk : D) (answer : Accepted)
      (hold : Represents g kind.fits kind.holds e.choose e.history e.base e.kept before disk) →
      IsAccepted kind.fits kind.holds (holding e.choose e.history e.base e.kept) (order e command) before mid hold.old answer → mid.run ≡
      before.run
  run_accepted command before mid disk answer hold is = same_run before.run mid.run hold.old _ _ hold.staged.old_is is.staged.old_is

  -- a command was refused
  pub refused_so : (command : Command) (good : Reply) (clean : Type 0) (result : Result Served ServeFault) (given given' : Option (List ℕ))
      (before store : Store M) (disk : D) (refusal : Refusal) →
      before.run ≡ e.run → (hold : Represents g kind.fits kind.holds e.choose e.history e.base e.kept before disk) →
      HasSameLogs before.committer store.committer → IsUnchanged before store →
      IsRefused e.choose false before.drawn (state e) (order e command) refusal → Wrote (refused refusal) true clean result given given' →
      IsOpen result →
      Answers g kind e (MayChange e command good) true (outcome result clean given given') store disk disk
  refused_so command good clean result given given' before store disk refusal run hold logs same is gave stays =
      idle (MayChange e command good) true clean result given given' store disk (Some (refused refusal))
      (inr (
        refusal,
        subst (λ (n : ℕ). IsRefused e.choose false n (state e) (order e command) refusal) hold.staged.counted.drawn_are is,
        refl,
      ))
      gave stays (same.run ∙ run)
      (held_then g kind.fits kind.holds e.choose e.history e.history e.base e.kept before store disk hold logs
      (staged_same kind.fits kind.holds e.choose e.history e.base e.kept before store hold.old same hold.staged))

  -- the same said otherwise
  pub answered : (may may' : Answer → Type 0) (delimited : Bool) (clean : Type 0) (result : Result Served ServeFault)
      (given given' : Option (List ℕ)) (store : Store M) (old new : D) →
      ((a : Answer) → may a → may' a) → Answers g kind e may delimited (outcome result clean given given') store old new →
      Answers g kind e may' delimited (outcome result clean given given') store old new
  answered may may' delimited clean result given given' store old new so is = record {
    answer = is.answer;
    may_be = so is.answer is.may_be;
    gave = is.gave;
    held = is.held;
    images = is.images;
    undamaged = is.undamaged;
  }

  -- the same over a longer time
  pub cleaner : (may : Answer → Type 0) (delimited : Bool) (clean clean' : Type 0) (result : Result Served ServeFault)
      (given given' given'' : Option (List ℕ)) (store : Store M) (old new : D) →
      (clean' → clean) → given ≡ given'' → Answers g kind e may delimited (outcome result clean given given') store old new →
      Answers g kind e may delimited (outcome result clean' given'' given') store old new
  cleaner may delimited clean clean' result given given' given'' store old new so same is = record {
    answer = is.answer;
    may_be = is.may_be;
    gave = subst (λ (x : Option (List ℕ)). Gave is.answer.reply delimited clean' result x given') same
        (gave_cleaner is.answer.reply delimited clean clean' result given given' so is.gave);
    held = is.held;
    images = is.images;
    undamaged = is.undamaged;
  }

  -- what was read, and what is answered to it
  pub served_so : (clean : Type 0) (result : Result Served ServeFault) (left left' left'' given given' : Option (List ℕ)) (store : Store M)
      (old new : D) (actual read : Found) →
      actual ≡ read → left'' ≡ left' → Told (Fits actual) left left' → IfOk actual IsWithin →
      Answers g kind e (Says e (IsTold g new) read result) (is_whole read) (outcome result clean given given') store old new →
      Serves g kind e (outcome result clean given given') left left'' store old new
  served_so clean result left left' left'' given given' store old new actual read is same took limits answers = record {
    read = read;
    took = subst (λ (l : Option (List ℕ)). Told (Fits read) left l) (sym same) (subst (λ (r : Found). Told (Fits r) left left') is took);
    within = subst (λ (r : Found). IfOk r IsWithin) is limits;
    answers = answers;
  }

-- what a commit names
pub damaged_back : (cause : CommitFault) (file : File) (at : ℕ) → answer_of_fault cause ≡ fault.Damaged file at →
    cause ≡ commits.Damaged file at
damaged_back commits.Disk file at is = absurd (cc is)
damaged_back (commits.Damaged f a) file at is = cc

-- ---- results

pub if_ok : {T E : Type 0} {P Q : T → Type 0} (result : Result T E) → ((x : T) → P x → Q x) → IfOk result P → IfOk result Q
if_ok (Ok x) so is = so x is
if_ok (Err e) so is = tt

pub if_err : {T E : Type 0} {P Q : E → Type 0} (result : Result T E) → ((x : E) → P x → Q x) → IfErr result P → IfErr result Q
if_err (Ok x) so is = tt
if_err (Err e) so is = so e is

pub on_ok : {T E P Q : Type 0} (result : Result T E) → (P → Q) → OnOk result P → OnOk result Q
on_ok (Ok x) so is = so is
on_ok (Err e) so is = tt

pub on_ok_always : {T E P : Type 0} (result : Result T E) → P → OnOk result P
on_ok_always (Ok x) is = is
on_ok_always (Err e) is = tt
