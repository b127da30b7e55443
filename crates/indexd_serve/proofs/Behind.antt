-- A checkpoint behind requests changes nothing of what was answered: every image since stands for
-- all that was accepted.
use Rattle.std.proofs.Common.{◌≡◌, ◌≤◌, ◌∙◌, ℕ, true, false, List, length, refl, sym, ap, subst, arith, inl, inr, Option, Result}
use Rattle.std.proofs.Common.{Ok, Err}
use Rattle.std.specs.Prelude.{OnOk}
use Rattle.std.specs.List.{AllByRecursion}
use Rattle.std.proofs.lemmas.Bool.{false≢true}
use Rattle.ix_base.specs.Clocks.{Moments}
use Rattle.ix_base.specs.declared.files.File.{File}
use Rattle.ix_manifest.specs.Book.{NamedItems}
use Rattle.ix_manifest.specs.declared.fault.CheckpointFault.{CheckpointFault}
use Rattle.ix_manifest.specs.declared.fault.CheckpointFault.TheVariants as checkpoints
use Rattle.ix_disk.proofs.Runs.{always_on, always_weaker}
use Rattle.ix_disk.specs.Image.{Image}
use Rattle.ix_disk.specs.Moments.{Always}
use Rattle.ix_disk.specs.declared.disk.Disk.{Ghosts}
use Rattle.ix_sessions.proofs.Growing.{knows_within}
use Rattle.ix_sessions.proofs.Turning.{safe_turns}
use Rattle.ix_sessions.proofs.Visiting.{safe_visits}
use Rattle.ix_sessions.specs.Connections as connections
use Rattle.ix_sessions.specs.Connections.{Listened, Listens, turns_of, hearing}
use Rattle.ix_serve.specs.Kinds.{Kind}
use Rattle.ix_sessions.specs.Feeding.{AreSafe, Has, Start, coming, Turn, Runs, disk_after, history_after, known, is_open_end, talk}
use Rattle.ix_sessions.specs.declared.feed.Fed.{Fed}
use Rattle.ix_sessions.specs.declared.feed.Fed.TheVariants as fed
use Rattle.ix_sessions.specs.declared.serve.Heard.{Heard}
use Rattle.ix_sessions.specs.declared.serve.Heard.TheVariants as heard
use Rattle.ix_commit.specs.declared.fault.CommitFault.TheVariants as commits
use Rattle.ix_model.specs.declared.commands.TimedCommand.{TimedCommand}
use Rattle.ix_store.proofs.Counted.{take_whole}
use Rattle.ix_store.specs.Written.{RecoversTo}
use Rattle.ix_store.specs.declared.store.Store.{Store}
use Rattle.indexd_serve.specs.Ends.{fed_behind, FedBehind, is_short, heard_end, heard_behind, HeardBehind, is_short_served}
use Rattle.indexd_serve.specs.Serving.{Requests, Connections, session, exchange}
use Rattle.indexd_serve.specs.declared.end.ServeEnd.{ServeEnd}
use Rattle.indexd_serve.specs.declared.end.ServeEnd.TheVariants as serving

-- ---- images

module _ {D : Type 0} (g : Ghosts D) (fits : NamedItems →
    Type 0) (s : Start D) (of_store : ℕ) (turns : List (Turn D)) (mid last : D) (same : of_store ≡ s.run)
    (within : s.kept ≤ length s.history) (safe : AreSafe g fits s turns)
    (before : Always g (disk_after s turns) mid (Has fits s turns (known s turns)))
    (made : Always g mid last (RecoversTo fits of_store s.choose (history_after s turns))) where
  abbrev now : List TimedCommand
  now = history_after s turns

  stands_in : (image : Image) → RecoversTo fits of_store s.choose now image → Has fits s turns (known s turns) image
  stands_in image stands = record {
    count = length now;
    least = knows_within g fits s turns within safe;
    most = omega arith;
    stands = subst (λ (l : List TimedCommand). RecoversTo fits s.run s.choose l image) (sym (take_whole now))
        (subst (λ (r : ℕ). RecoversTo fits r s.choose now image) same stands);
  }

  behind_on : Always g (disk_after s turns) last (Has fits s turns (known s turns))
  behind_on = always_on g (disk_after s turns) mid last (Has fits s turns (known s turns)) before
      (always_weaker g mid last _ _ stands_in made)

  all_on : (image : Image) → g.may_leave last image → RecoversTo fits s.run s.choose now image
  all_on image may = subst (λ (r : ℕ). RecoversTo fits r s.choose now image) same (made.now image may)

-- ---- ends

ends_behind : (first : Fed) (shortened : Result Unit CheckpointFault) → is_open_end first ≡ true →
    FedBehind first (fed_behind first shortened)
ends_behind first (Ok done) up = inl refl
ends_behind first (Err checkpoints.Disk) up = inr (up, inr refl)
ends_behind first (Err checkpoints.NoMemory) up = inr (up, inl refl)

serves_behind : (first : Heard) (shortened : Result Unit CheckpointFault) → connections.is_open_end first ≡ true →
    HeardBehind first (heard_behind first shortened)
serves_behind first (Ok done) up = inl refl
serves_behind first (Err checkpoints.Disk) up = inr (up, inr refl)
serves_behind first (Err checkpoints.NoMemory) up = inr (up, inl refl)

-- where the end tells of a short log the checkpoint was made
made_short : (first : Fed) (shortened : Result Unit CheckpointFault) (P : Type 0) → OnOk shortened P →
    is_short (fed_behind first shortened) ≡ true → P
made_short first (Ok done) P ok is = ok
made_short first (Err checkpoints.Disk) P ok is = absurd (cc)
made_short first (Err checkpoints.NoMemory) P ok is = absurd (cc)

pub short_behind : (first : Fed) (shortened : Result Unit CheckpointFault) (end : Fed) (P : Type 0) → end ≡ fed_behind first shortened →
    OnOk shortened P → is_short end ≡ true → P
short_behind first shortened end P same ok is = made_short first shortened P ok (sym (ap is_short same) ∙ is)

served_short : (first : Heard) (shortened : Result Unit CheckpointFault) (P : Type 0) → OnOk shortened P →
    is_short_served (heard_behind first shortened) ≡ true → P
served_short first (Ok done) P ok is = ok
served_short first (Err checkpoints.Disk) P ok is = absurd (cc)
served_short first (Err checkpoints.NoMemory) P ok is = absurd (cc)

pub short_served : (first : Heard) (shortened : Result Unit CheckpointFault) (end : ServeEnd) (P : Type 0) →
    end ≡ heard_behind first shortened → OnOk shortened P → is_short_served end ≡ true → P
short_served first shortened end P same ok is = served_short first shortened P ok (sym (ap is_short_served same) ∙ is)

-- an end behind which the store is closed tells of none
pub closed_short : (first : Fed) → is_open_end first ≡ false → is_short first ≡ true → ⊥
closed_short fed.Ended down is = cc
closed_short (fed.Unreadable request) down is = cc
closed_short fed.NoMemory down is = cc
closed_short fed.Endless down is = cc
closed_short fed.Link down is = cc
closed_short (fed.Broken cause) down is = cc

served_closed : (first : Heard) → connections.is_open_end first ≡ false → is_short_served (heard_end first) ≡ true → ⊥
served_closed heard.Done down is = cc
served_closed heard.Listener down is = cc
served_closed (heard.Broken commits.Disk) down is = cc
served_closed (heard.Broken (commits.Damaged file at)) down is = cc

pub closed_served : (first : Heard) (end : ServeEnd) → connections.is_open_end first ≡ false → end ≡ heard_end first →
    is_short_served end ≡ true → ⊥
closed_served first end down same is = served_closed first down (sym (ap is_short_served same) ∙ is)

-- a run that blames a file as damaged did so before the checkpoint
open_undamaged : (file : File) (at : ℕ) (first : Fed) → is_open_end first ≡ true → first ≡ fed.Broken (commits.Damaged file at) → ⊥
open_undamaged file at first up is = false≢true (sym (ap is_open_end is) ∙ up)

pub undamaged_behind : (first : Fed) (shortened : Result Unit CheckpointFault) (file : File) (at : ℕ) → is_open_end first ≡ true →
    fed_behind first shortened ≡ fed.Broken (commits.Damaged file at) → ⊥
undamaged_behind first (Ok done) file at up is = open_undamaged file at first up is
undamaged_behind first (Err checkpoints.Disk) file at up is = cc
undamaged_behind first (Err checkpoints.NoMemory) file at up is = cc

pub damaged_heard : (first : Heard) (file : File) (at : ℕ) → heard_end first ≡ serving.Damaged file at →
    first ≡ heard.Broken (commits.Damaged file at)
damaged_heard heard.Done file at is = absurd (cc)
damaged_heard heard.Listener file at is = absurd (cc)
damaged_heard (heard.Broken commits.Disk) file at is = absurd (cc)
damaged_heard (heard.Broken (commits.Damaged f a)) file at is = cc

pub undamaged_served : (first : Heard) (shortened : Result Unit CheckpointFault) (file : File) (at : ℕ) →
    connections.is_open_end first ≡ true → heard_behind first shortened ≡ serving.Damaged file at → ⊥
undamaged_served first (Ok done) file at up is = false≢true (sym (ap connections.is_open_end (damaged_heard first file at is)) ∙ up)
undamaged_served first (Err checkpoints.Disk) file at up is = cc
undamaged_served first (Err checkpoints.NoMemory) file at up is = cc

-- the disk failed at the requests, or at the checkpoint
pub disk_behind : (first : Fed) (shortened : Result Unit CheckpointFault) → is_open_end first ≡ true →
    fed_behind first shortened ≡ fed.Broken commits.Disk → shortened ≡ Err checkpoints.Disk
disk_behind first (Ok done) up is = absurd (false≢true (sym (ap is_open_end is) ∙ up))
disk_behind first (Err checkpoints.Disk) up is = refl
disk_behind first (Err checkpoints.NoMemory) up is = absurd (cc)

pub disk_heard : (first : Heard) → heard_end first ≡ serving.Disk → first ≡ heard.Broken commits.Disk
disk_heard heard.Done is = absurd (cc)
disk_heard heard.Listener is = absurd (cc)
disk_heard (heard.Broken commits.Disk) is = refl
disk_heard (heard.Broken (commits.Damaged file at)) is = absurd (cc)

pub disk_served : (first : Heard) (shortened : Result Unit CheckpointFault) → connections.is_open_end first ≡ true →
    heard_behind first shortened ≡ serving.Disk → shortened ≡ Err checkpoints.Disk
disk_served first (Ok done) up is = absurd (false≢true (sym (ap connections.is_open_end (disk_heard first is)) ∙ up))
disk_served first (Err checkpoints.Disk) up is = refl
disk_served first (Err checkpoints.NoMemory) up is = absurd (cc)

-- the link failed at the requests
pub link_behind : (first : Fed) (shortened : Result Unit CheckpointFault) → fed_behind first shortened ≡ fed.Link → first ≡ fed.Link
link_behind first (Ok done) is = is
link_behind first (Err checkpoints.Disk) is = absurd (cc)
link_behind first (Err checkpoints.NoMemory) is = absurd (cc)

pub listener_heard : (first : Heard) → heard_end first ≡ serving.Listener → first ≡ heard.Listener
listener_heard heard.Done is = absurd (cc)
listener_heard heard.Listener is = refl
listener_heard (heard.Broken commits.Disk) is = absurd (cc)
listener_heard (heard.Broken (commits.Damaged file at)) is = absurd (cc)

pub listener_served : (first : Heard) (shortened : Result Unit CheckpointFault) → heard_behind first shortened ≡ serving.Listener →
    first ≡ heard.Listener
listener_served first (Ok done) is = listener_heard first is
listener_served first (Err checkpoints.Disk) is = absurd (cc)
listener_served first (Err checkpoints.NoMemory) is = absurd (cc)

-- ---- the whole, over one link

module _ {D : Type 0} (g : Ghosts D) {M : Type 0} (kind : Kind M) (s : Start D) (first : Fed) (clean : Type 0)
    (left left' : Option (List ℕ)) (ahead ahead' : Option Moments) (given given' : Option (List ℕ)) (store : Store M) (mid : D)
    (runs : Runs g kind s first clean (talk (coming left ahead) given) (talk (coming left' ahead') given') store mid) where
  pub requests_closed : (now : List TimedCommand) × (AllByRecursion kind.takes now
      × Requests g kind.fits first clean (exchange left left' given given') (session s ahead ahead' now mid))
  requests_closed = (
    history_after s runs.turns,
    (
      runs.taken,
      record {
        turns = runs.turns;
        now_is = refl;
        are = runs.are;
        first = first;
        ends = runs.ends;
        ends_behind = inl refl;
        written = runs.written;
        sent = runs.sent;
        begun = runs.begun;
        told = runs.told;
        behind = runs.behind;
        all = runs.all;
      },
    ),
  )

  pub requests_behind : (shortened : Result Unit CheckpointFault) (end : Fed) (last : D) → end ≡ fed_behind first shortened →
      is_open_end first ≡ true → store.run ≡ s.run → s.kept ≤ length s.history →
      Always g mid last (RecoversTo kind.fits store.run s.choose (history_after s runs.turns)) →
      (now : List TimedCommand) × (AllByRecursion kind.takes now
      × Requests g kind.fits end clean (exchange left left' given given') (session s ahead ahead' now last))
  requests_behind shortened end last is up same within made =
      let safe = safe_turns g kind.fits s runs.turns (coming left ahead) (coming left' ahead') runs.are in (
        history_after s runs.turns,
        (
          runs.taken,
          record {
            turns = runs.turns;
            now_is = refl;
            are = runs.are;
            first = first;
            ends = runs.ends;
            ends_behind = subst (FedBehind first) (sym is) (ends_behind first shortened up);
            written = runs.written;
            sent = runs.sent;
            begun = runs.begun;
            told = runs.told;
            behind = behind_on g kind.fits s store.run runs.turns mid last same within safe runs.behind made;
            all = λ opened. all_on g kind.fits s store.run runs.turns mid last same within safe runs.behind made;
          },
        ),
      )

-- ---- over a connection each

module _ {D : Type 0} (g : Ghosts D) {M : Type 0} (kind : Kind M) (s : Start D) (requests : ℕ) (first : Heard) (from to : Listened)
    (ahead ahead' : Option Moments) (store : Store M) (mid : D)
    (listens : Listens g kind s requests first (hearing from ahead) (hearing to ahead') store mid) where
  pub connections_closed : (end : ServeEnd) → end ≡ heard_end first → (now : List TimedCommand)
      × (AllByRecursion kind.takes now × Connections g kind.fits requests end from to (session s ahead ahead' now mid))
  connections_closed end is = (
    history_after s (turns_of listens.visits),
    (
      listens.taken,
      record {
        visits = listens.visits;
        now_is = refl;
        are = listens.are;
        first = first;
        ends = listens.ends;
        ends_behind = inl is;
        heard = listens.heard;
        told = listens.told;
        behind = listens.behind;
        all = listens.all;
      },
    ),
  )

  pub connections_behind : (shortened : Result Unit CheckpointFault) (end : ServeEnd) (last : D) → end ≡ heard_behind first shortened →
      connections.is_open_end first ≡ true → store.run ≡ s.run → s.kept ≤ length s.history →
      Always g mid last (RecoversTo kind.fits store.run s.choose (history_after s (turns_of listens.visits))) →
      (now : List TimedCommand) × (AllByRecursion kind.takes now
      × Connections g kind.fits requests end from to (session s ahead ahead' now last))
  connections_behind shortened end last is up same within made =
      let safe = safe_visits g kind.fits s listens.visits ahead ahead' listens.are in (
        history_after s (turns_of listens.visits),
        (
          listens.taken,
          record {
            visits = listens.visits;
            now_is = refl;
            are = listens.are;
            first = first;
            ends = listens.ends;
            ends_behind = subst (HeardBehind first) (sym is) (serves_behind first shortened up);
            heard = listens.heard;
            told = listens.told;
            behind = behind_on g kind.fits s store.run (turns_of listens.visits) mid last same within safe listens.behind made;
            all = λ opened. all_on g kind.fits s store.run (turns_of listens.visits) mid last same within safe listens.behind made;
          },
        ),
      )
