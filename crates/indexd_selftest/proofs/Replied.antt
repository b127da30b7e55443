-- A request that asks for one command alone is sent, and replied to.
use Rattle.std.proofs.Common.{◌≡◌, ◌<◌, ◌≤◌, ◌⊎◌, ◌++◌, ◌∙◌, ℕ, ℤ, Bool, true, false, List, refl, sym, ap, subst, inl, inr, arith}
use Rattle.std.proofs.Common.{Option, Some, None, Result, Ok, Err}
use Rattle.std.specs.Prelude.{if◌then◌else◌, nat_eq}
use Rattle.std.specs.List.{AllByRecursion}
use Rattle.std.proofs.lemmas.Bool.{eqb-true, eqb-false, true≢false}
use Rattle.ix_disk.specs.declared.disk.Disk.{Ghosts}
use Rattle.ix_heads.specs.declared.faults.LinkFault.TheVariants as link
use Rattle.ix_http.specs.declared.kinds.Ask.{Ask}
use Rattle.ix_http.specs.declared.kinds.Ask.TheVariants as asks
use Rattle.ix_http.specs.declared.kinds.Incoming.{Incoming}
use Rattle.ix_manifest.specs.Book.{NamedItems}
use Rattle.ix_model.specs.Bounds.{IsRefused}
use Rattle.ix_model.specs.Given.{Chooser}
use Rattle.ix_model.specs.Judged.{adds, judged}
use Rattle.ix_model.specs.declared.answers.Refusal.{Refusal}
use Rattle.ix_model.specs.declared.answers.Refusal.TheVariants as refusals
use Rattle.ix_model.specs.declared.commands.Command.{Command}
use Rattle.ix_model.specs.declared.commands.Command.TheVariants as commands
use Rattle.ix_model.specs.declared.commands.Command.TheVariants.{Tick}
use Rattle.ix_model.specs.declared.commands.TimedCommand.{TimedCommand}
use Rattle.ix_serve.specs.Answer.{Answer, Found, MayBe, MayChange, Says, is_whole, says}
use Rattle.ix_serve.specs.Entries.{Entry, entry, drawn, state, order}
use Rattle.ix_serve.specs.Kinds.{kind}
use Rattle.ix_serve.specs.Replies.{Reply, acked, begun, no_memory, refusal_status, refused}
use Rattle.ix_serve.specs.Serving.{Gave, IsOpen, IsTold, IsUndamaged, Serves, Wrote, outcome}
use Rattle.ix_serve.specs.Taking.{TakesAsks}
use Rattle.ix_serve.specs.declared.served.Served.{Served}
use Rattle.ix_serve.specs.declared.served.Served.TheVariants as served
use Rattle.ix_serve.specs.declared.served.ServeFault.{ServeFault}
use Rattle.ix_serve.specs.declared.served.ServeFault.TheVariants as fault
use Rattle.ix_serve.proofs.Taking.{says_taken}
use Rattle.ix_store.specs.Making.{with_order}
use Rattle.ix_store.specs.declared.store.Store.{Store}
use Rattle.indexd_selftest.specs.Faults.{is_replied, of_served}
use Rattle.indexd_selftest.specs.Full.{HasNoRoom}
use Rattle.indexd_selftest.specs.Given.{AsksFor, RepresentsAll, IsAsked, IsChange, good_status}
use Rattle.indexd_selftest.specs.History.{moment, sent}
use Rattle.indexd_selftest.specs.declared.fault.SelftestFault.{SelftestFault}
use Rattle.indexd_selftest.specs.declared.fault.SelftestFault.TheVariants.{NoMemory, Full}
use Rattle.indexd_selftest.proofs.Refused.{refused_full}

-- ---- what is answered to a request that asks for a command

-- The command was accepted, or refused for its cause: what is added then, and what is replied.
data IsAnswered (e : Entry) (command : Command) (good : ℕ) (answer : Answer) : Type 0 where
  accepts : (reply : Reply) → answer.reply ≡ Some reply → reply.status ≡ good → answer.more ≡ adds (state e) (order e command) →
      IsAnswered e command good answer
  refuses : (refusal : Refusal) (reply : Reply) → answer.reply ≡ Some reply → reply.status ≡ refusal_status refusal →
      IsRefused e.choose false (drawn e) (state e) (order e command) refusal → IsAnswered e command good answer

change_answered : (e : Entry) (command : Command) (good : Reply) (answer : Answer) → MayChange e command good answer →
    IsAnswered e command good.status answer
change_answered e command good answer (inl is) =
    accepts good (ap (λ (a : Answer). a.reply) is.1) refl (ap (λ (a : Answer). a.more) is.1)
change_answered e command good answer (inr (refusal, why, is)) =
    refuses refusal (refused refusal) (ap (λ (a : Answer). a.reply) is) refl why

-- what is asked by asking for a command
ask_answered : (ask : Ask) (command : Command) → IsChange ask command → (e : Entry) (told : Type 0) (result : Result Served ServeFault)
    (answer : Answer) → MayBe e told ask result answer → IsAnswered e command (good_status ask) answer
ask_answered (asks.Begin channel meta) command is e told result answer may =
    subst (λ (c : Command). IsAnswered e c 201 answer) (sym is) (change_answered e (commands.Begin channel meta) (begun channel) answer may)
ask_answered (asks.Block channel bytes) command is e told result answer may =
    subst (λ (c : Command). IsAnswered e c 200 answer) (sym is)
    (change_answered e (commands.Block channel bytes None) (acked (drawn e) e.run) answer may)
ask_answered (asks.End channel) command is e told result answer may =
    subst (λ (c : Command). IsAnswered e c 200 answer) (sym is)
    (change_answered e (commands.End channel) (acked (drawn e) e.run) answer may)
ask_answered (asks.Acks run numbers) command is e told result answer may = absurd is
ask_answered asks.Buckets command is e told result answer may = absurd is
ask_answered (asks.Events index range) command is e told result answer may = absurd is

-- the same, whatever was read: but for want of memory, or where the link failed
read_answered : (ask : Ask) (command : Command) → IsChange ask command → (e : Entry) (told : Type 0) (read : Found)
    (result : Result Served ServeFault) (answer : Answer) → IsAsked ask read → Says e told read result answer →
    IsAnswered e command (good_status ask) answer ⊎ (result ≡ Err fault.Link)
read_answered ask command is e told (Ok incoming) result answer asked says =
    let P : Incoming → Type 0 = λ (i : Incoming). Says e told (Ok i) result answer in
    inl (ask_answered ask command is e told result answer (subst P asked says))
read_answered ask command is e told (Err link.Failed) result answer asked says = inr says.0
read_answered ask command is e told (Err link.Cut) result answer asked says = absurd asked
read_answered ask command is e told (Err (link.NoMemory known)) result answer asked says =
    inl (refuses refusals.NoMemory no_memory (ap (λ (a : Answer). a.reply) says) refl tt)

-- ---- what was written

-- a reply that was given has the status that is told
wrote_status : (o : Option Reply) (reply : Reply) (delimited whole unshortened : Bool) (clean : Type 0) (status : ℕ)
    (given given' : Option (List ℕ)) → o ≡ Some reply →
    Gave o delimited clean (Ok (served.Reply status whole unshortened)) given given' → status ≡ reply.status
wrote_status o reply delimited whole unshortened clean status given given' is gave =
    let P : Option Reply → Type 0 =
    λ (x : Option Reply). Gave x delimited clean (Ok (served.Reply status whole unshortened)) given given' in
    let wrote : Wrote reply delimited clean (Ok (served.Reply status whole unshortened)) given given' = subst P is gave in
    wrote.0

-- what came of a request that was replied to with a status
as_replied : (came : Result Served ServeFault) (wanted : ℕ) → is_replied came wanted ≡ true →
    (whole : Bool) × (unshortened : Bool) × (came ≡ Ok (served.Reply wanted whole unshortened))
as_replied (Ok served.Ended) wanted is = absurd (true≢false (sym is))
as_replied (Ok (served.Reply status whole unshortened)) wanted is =
    (whole, unshortened, ap (λ (s : ℕ). Ok (served.Reply s whole unshortened)) (eqb-true status wanted is))
as_replied (Err fault) wanted is = absurd (true≢false (sym is))

pub replied_open : (came : Result Served ServeFault) (wanted : ℕ) → is_replied came wanted ≡ true → IsOpen came
replied_open (Ok value) wanted is = tt
replied_open (Err fault) wanted is = absurd (true≢false (sym is))

-- ---- a command that was accepted

-- no refusal is replied to so
refused_above : (refusal : Refusal) → 404 ≤ refusal_status refusal
refused_above refusals.Closed = omega arith
refused_above refusals.NoChannel = omega arith
refused_above refusals.ChannelOpen = omega arith
refused_above refusals.UnknownIndex = omega arith
refused_above refusals.NoBucket = omega arith
refused_above refusals.NotArchived = omega arith
refused_above refusals.AlreadyThawed = omega arith
refused_above refusals.TooManyChannels = omega arith
refused_above refusals.Full = omega arith
refused_above refusals.NoMemory = omega arith

below_no : (status replied refusal : ℕ) → status < 404 → 404 ≤ refusal → status ≡ replied → replied ≡ refusal → ⊥
below_no status replied refusal below above told said = omega (arith, below, above, told, said)

-- so a command that is replied to with a low status was accepted
accepts_low : (e : Entry) (command : Command) (good status : ℕ) (answer : Answer) (delimited whole unshortened : Bool) (clean : Type 0)
    (given given' : Option (List ℕ)) → status < 404 → IsAnswered e command good answer →
    Gave answer.reply delimited clean (Ok (served.Reply status whole unshortened)) given given' →
    answer.more ≡ adds (state e) (order e command)
accepts_low e command good status answer delimited whole unshortened clean given given' low (accepts reply is said more) gave = more
accepts_low e command good status answer delimited whole unshortened clean given given' low (refuses refusal reply is said why) gave =
    absurd (below_no status reply.status (refusal_status refusal) low (refused_above refusal)
    (wrote_status answer.reply reply delimited whole unshortened clean status given given' is gave) said)

no_link : (status : ℕ) (whole unshortened : Bool) → (let r : Result Served ServeFault = Ok (served.Reply status whole unshortened) in
    r ≡ Err fault.Link) → ⊥
no_link status whole unshortened is = cc

module _ {D : Type 0} (d : Ghosts D) {M : Type 0} (takes : TimedCommand → Type 0) (fits : NamedItems → Type 0) (holds : Chooser →
    List TimedCommand → M → Type 0) (ticks : (moment : ℤ) → takes (record { command = Tick; moment = moment })) (asked : TakesAsks takes)
    (request : List ℕ) (command : Command) (choose : Chooser) (history : List TimedCommand) (base k run status : ℕ)
    (whole unshortened : Bool) (clean : Type 0) (rest : List ℕ) (given given' : Option (List ℕ)) (store : Store M) (old new : D)
    (wants : AsksFor request status command) (taken : AllByRecursion takes history) where
  abbrev e : Entry
  e = entry choose history base k run moment

  abbrev result : Result Served ServeFault
  result = Ok (served.Reply status whole unshortened)

  added : (read : Found) (answer : Answer) → IsAsked wants.ask read → Says e (IsTold d new) read result answer →
      Gave answer.reply (is_whole read) clean result given given' → answer.more ≡ adds (state e) (order e command)
  added read answer is says gave =
      by (read_answered wants.ask command wants.change e (IsTold d new) read result answer is says)
    where
      by : IsAnswered e command (good_status wants.ask) answer ⊎ (result ≡ Err fault.Link) →
          answer.more ≡ adds (state e) (order e command)
      by (inl answered) = accepts_low e command (good_status wants.ask) status answer (is_whole read) whole unshortened clean given given'
          wants.low answered gave
      by (inr failed) = absurd (no_link status whole unshortened failed)

  sent_holds : Serves d (kind takes fits holds) e (outcome result clean given given') (Some request) (Some rest) store old new →
      RepresentsAll d takes fits holds choose (with_order choose history (sent command)) base store new
  sent_holds serves =
      let answers = serves.answers in
      let is = added serves.read answers.answer (wants.read serves.read rest serves.took) answers.may_be answers.gave in
      let held = answers.held tt in
      let P : List TimedCommand → Type 0 =
      λ (more : List TimedCommand). RepresentsAll d takes fits holds choose (history ++ more) base store new in
      subst P is (record {
        kept = held.count;
        hold = held.hold;
        taken = says_taken takes ticks asked e taken (IsTold d new) serves.read result answers.answer serves.within answers.may_be;
      })

-- A request that asks for a command alone was served and replied to with the status of that: the
-- store holds the command behind the others.
pub sent_by : {D : Type 0} (d : Ghosts D) {M : Type 0} (takes : TimedCommand → Type 0) (fits : NamedItems → Type 0) (holds : Chooser →
    List TimedCommand → M → Type 0) (ticks : (moment : ℤ) → takes (record { command = Tick; moment = moment })) (asked : TakesAsks takes)
    (request : List ℕ) (command : Command) (choose : Chooser) (history : List TimedCommand) (base k run status : ℕ) (clean : Type 0)
    (left : Option (List ℕ)) (rest : List ℕ) (given given' : Option (List ℕ)) (store : Store M) (old new : D)
    (came : Result Served ServeFault) →
    AsksFor request status command → AllByRecursion takes history → left ≡ Some request → is_replied came status ≡ true →
    Serves d (kind takes fits holds) (entry choose history base k run moment) (outcome came clean given given') left (Some rest) store old
    new →
    RepresentsAll d takes fits holds choose (with_order choose history (sent command)) base store new
sent_by d takes fits holds ticks asked request command choose history base k run status clean left rest given given' store old new came
    wants taken is replied serves =
    let same = as_replied came status replied in
    let P : Result Served ServeFault → Type 0 =
    λ (r : Result Served ServeFault). Serves d (kind takes fits holds) (entry choose history base k run moment)
    (outcome r clean given given') left (Some rest) store old new in
    let Q : Option (List ℕ) → Type 0 =
    λ (l : Option (List ℕ)). Serves d (kind takes fits holds) (entry choose history base k run moment)
    (outcome (Ok (served.Reply status same.0 same.1)) clean given given') l (Some rest) store old new in
    sent_holds d takes fits holds ticks asked request command choose history base k run status same.0 same.1 clean rest given given' store
    old new wants taken (subst Q is (subst P same.2 serves))

-- ---- a command that has no room

not_full : (let fault : SelftestFault = NoMemory in fault ≡ Full) → ⊥
not_full is = cc

not_memory : (t : Bool) → (if t then NoMemory else Full) ≡ Full → t ≡ false
not_memory true is = absurd (not_full is)
not_memory false is = refl

module _ {D : Type 0} (d : Ghosts D) (choose : Chooser) (history : List TimedCommand) (base k run : ℕ) (command : Command)
    (none : judged (state (entry choose history base k run moment)) command ≡ None) (wanted : ℕ) (new : D) (told : IsTold d new) where
  abbrev now : Entry
  now = entry choose history base k run moment

  -- a reply with another status is one of a refusal, and that of want of memory is 503
  by_status : (status replied : ℕ) (answer : Answer) → nat_eq status 503 ≡ false → nat_eq status wanted ≡ false → status ≡ replied →
      ((refusal : Refusal) × (replied ≡ refusal_status refusal)
      × IsRefused choose false (drawn now) (state now) (sent command) refusal) ⊎ (replied ≡ wanted) →
      HasNoRoom choose base history (sent command)
  by_status status replied answer some other is (inl (refusal, said, why)) =
      refused_full choose (drawn now) (state now) (sent command) none refusal
      (λ memory. eqb-false status 503 some (is ∙ said ∙ ap refusal_status memory)) why
  by_status status replied answer some other is (inr said) = absurd (eqb-false status wanted other (is ∙ said))

  cause_of : (answer : Answer) (reply : Reply) → answer.reply ≡ Some reply → IsAnswered now command wanted answer →
      ((refusal : Refusal) × (reply.status ≡ refusal_status refusal)
      × IsRefused choose false (drawn now) (state now) (sent command) refusal) ⊎ (reply.status ≡ wanted)
  cause_of answer reply is (accepts other same said more) = inr (ap (λ (r : Reply). r.status) (one_reply other same) ∙ said)
    where
      one_reply : (other : Reply) → answer.reply ≡ Some other → reply ≡ other
      one_reply other same = let e : Some reply ≡ Some other = sym is ∙ same in cc
  cause_of answer reply is (refuses refusal other same said why) =
      inl (refusal, ap (λ (r : Reply). r.status) (one_reply other same) ∙ said, why)
    where
      one_reply : (other : Reply) → answer.reply ≡ Some other → reply ≡ other
      one_reply other same = let e : Some reply ≡ Some other = sym is ∙ same in cc

  reply_in : (answer : Answer) → IsAnswered now command wanted answer → (reply : Reply) × (answer.reply ≡ Some reply)
  reply_in answer (accepts reply is said more) = (reply, is)
  reply_in answer (refuses refusal reply is said why) = (reply, is)

  -- a reply was to be written, so that it did not end otherwise
  gave_some : (came : Result Served ServeFault) (o : Option Reply) (reply : Reply) (delimited : Bool) (clean : Type 0)
      (given given' : Option (List ℕ)) → o ≡ Some reply → Gave o delimited clean came given given' →
      Wrote reply delimited clean came given given'
  gave_some came o reply delimited clean given given' is gave =
      subst (λ (x : Option Reply). Gave x delimited clean came given given') is gave

  answered_full : (came : Result Served ServeFault) (answer : Answer) (delimited : Bool) (clean : Type 0)
      (given given' : Option (List ℕ)) → of_served came ≡ Full → is_replied came wanted ≡ false →
      IsAnswered now command wanted answer → Gave answer.reply delimited clean came given given' → IsUndamaged d new came →
      HasNoRoom choose base history (sent command)
  answered_full (Ok served.Ended) answer delimited clean given given' full other answered gave undamaged =
      let reply = reply_in answer answered in
      absurd (gave_some (Ok served.Ended) answer.reply reply.0 delimited clean given given' reply.1 gave)
  answered_full (Ok (served.Reply status whole unshortened)) answer delimited clean given given' full other answered gave undamaged =
      let reply = reply_in answer answered in
      by_status status reply.0.status answer (not_memory (nat_eq status 503) full) other
      (wrote_status answer.reply reply.0 delimited whole unshortened clean status given given' reply.1 gave)
      (cause_of answer reply.0 reply.1 answered)
  answered_full (Err fault.Disk) answer delimited clean given given' full other answered gave undamaged = absurd (not_full full)
  answered_full (Err (fault.Damaged file place)) answer delimited clean given given' full other answered gave undamaged =
      absurd (undamaged file place refl told.0 told.1)
  answered_full (Err fault.Link) answer delimited clean given given' full other answered gave undamaged = absurd (not_full full)
  answered_full (Err fault.Cut) answer delimited clean given given' full other answered gave undamaged =
      let reply = reply_in answer answered in
      absurd (gave_some (Err fault.Cut) answer.reply reply.0 delimited clean given given' reply.1 gave)

module _ {D : Type 0} (d : Ghosts D) {M : Type 0} (takes : TimedCommand → Type 0) (fits : NamedItems → Type 0) (holds : Chooser →
    List TimedCommand → M → Type 0) (request : List ℕ) (command : Command) (choose : Chooser) (history : List TimedCommand)
    (base k run status : ℕ) (clean : Type 0) (rest : List ℕ) (given given' : Option (List ℕ)) (store : Store M) (old new : D)
    (came : Result Served ServeFault)
    (wants : AsksFor request status command) (none : judged (state (entry choose history base k run moment)) command ≡ None)
    (told : IsTold d new) (other : is_replied came status ≡ false) (full : of_served came ≡ Full) where
  abbrev asks_at : Entry
  asks_at = entry choose history base k run moment

  abbrev AreServed : Type 0
  AreServed = Serves d (kind takes fits holds) asks_at (outcome came clean given given') (Some request) (Some rest) store old new

  by_answer : (serves : AreServed) →
      IsAnswered asks_at command (good_status wants.ask) serves.answers.answer ⊎ (came ≡ Err fault.Link) →
      HasNoRoom choose base history (sent command)
  by_answer serves (inl answered) = answered_full d choose history base k run command none status new told came serves.answers.answer
      (is_whole serves.read) clean given given' full other
      (subst (λ (good : ℕ). IsAnswered asks_at command good serves.answers.answer) wants.good answered)
      serves.answers.gave serves.answers.undamaged
  by_answer serves (inr failed) = absurd (not_full (sym (ap of_served failed) ∙ full))

  serves_full : AreServed → HasNoRoom choose base history (sent command)
  serves_full serves = by_answer serves (read_answered wants.ask command wants.change asks_at (IsTold d new) serves.read came
      serves.answers.answer (wants.read serves.read rest serves.took) serves.answers.may_be)

-- A request that asks for a command alone was not replied to with the status of that, and that is
-- no want of memory: the command has no room.
pub sent_full : {D : Type 0} (d : Ghosts D) {M : Type 0} (takes : TimedCommand → Type 0) (fits : NamedItems → Type 0) (holds : Chooser →
    List TimedCommand → M → Type 0) (request : List ℕ) (command : Command) (choose : Chooser) (history : List TimedCommand)
    (base k run status : ℕ) (clean : Type 0) (left : Option (List ℕ)) (rest : List ℕ) (given given' : Option (List ℕ)) (store : Store M)
    (old new : D) (came : Result Served ServeFault) →
    AsksFor request status command → judged (state (entry choose history base k run moment)) command ≡ None → IsTold d new →
    left ≡ Some request → is_replied came status ≡ false → of_served came ≡ Full →
    Serves d (kind takes fits holds) (entry choose history base k run moment) (outcome came clean given given') left (Some rest) store old
    new →
    HasNoRoom choose base history (sent command)
sent_full d takes fits holds request command choose history base k run status clean left rest given given' store old new came wants none
    told is other full serves =
    let Q : Option (List ℕ) → Type 0 =
    λ (l : Option (List ℕ)). Serves d (kind takes fits holds) (entry choose history base k run moment) (outcome came clean given given') l
    (Some rest) store old new in
    serves_full d takes fits holds request command choose history base k run status clean rest given given' store old new came wants none
    told other full (subst Q is serves)
