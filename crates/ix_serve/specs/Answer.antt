-- What is answered to a request.
use Rattle.std.specs.Prelude.{◌≡◌, ◌⊎◌, ℕ, Bool, true, false, List, [], ◌++◌, map, drop, Option, Some, None, Result, Ok, Err}
use Rattle.std.specs.List.{list_any}
use Rattle.ix_base.specs.declared.events.Range.{Range}
use Rattle.ix_export.specs.Lines.{text}
use Rattle.ix_heads.specs.declared.faults.LinkFault.{LinkFault}
use Rattle.ix_heads.specs.declared.faults.LinkFault.TheVariants as link
use Rattle.ix_http.specs.declared.kinds.Ask.{Ask}
use Rattle.ix_http.specs.declared.kinds.Ask.TheVariants as asks
use Rattle.ix_http.specs.declared.kinds.Incoming.{Incoming}
use Rattle.ix_http.specs.declared.kinds.Incoming.TheVariants as was
use Rattle.ix_commit.specs.declared.fault.CommitFault.{CommitFault}
use Rattle.ix_commit.specs.declared.fault.CommitFault.TheVariants as commits
use Rattle.ix_model.specs.Bounds.{IsAllowed, IsRefused}
use Rattle.ix_model.specs.Judged.{adds}
use Rattle.ix_model.specs.Shown.{view}
use Rattle.ix_model.specs.declared.answers.Refusal.{Refusal}
use Rattle.ix_model.specs.declared.commands.Command.{Command}
use Rattle.ix_model.specs.declared.commands.Command.TheVariants as commands
use Rattle.ix_model.specs.declared.commands.TimedCommand.{TimedCommand}
use Rattle.ix_report.specs.Listing.{listing}
use Rattle.ix_store.specs.Counting.{is_due}
use Rattle.ix_store.specs.Exporting.{is_seen, exported}
use Rattle.ix_serve.specs.Entries.{Entry, state, drawn, is_acked, is_pending, order}
use Rattle.ix_serve.specs.Replies.{Reply, begun, acked, acks, plain, unread, refused, broken, no_memory, events_reply}
use Rattle.ix_serve.specs.declared.served.Served.{Served}
use Rattle.ix_serve.specs.declared.served.Served.TheVariants as served
use Rattle.ix_serve.specs.declared.served.ServeFault.{ServeFault}
use Rattle.ix_serve.specs.declared.served.ServeFault.TheVariants as fault

-- a reply or silence, the commands that are added, and whether all is committed then
pub record Answer : Type 0 where
  pub reply : Option Reply
  pub more : List TimedCommand
  pub commits : Bool

abbrev pub says : Bool → Reply → Answer
says commits reply = record { reply = Some reply; more = []; commits = commits }

abbrev pub silence : Answer
silence = record { reply = None; more = []; commits = false }

-- want of memory, which adds nothing
abbrev pub declined : Answer
declined = says false no_memory

-- ---- commands

-- an accepted command is committed where the group is due then
abbrev pub accepted : Entry → Command → Reply → Answer
accepted e command good = record {
  reply = Some good;
  more = adds (state e) (order e command);
  commits = is_due (drop e.kept (e.history ++ adds (state e) (order e command)));
}

-- it is accepted where it is allowed, and refused for its cause, of which want of memory is one
abbrev pub MayChange : Entry → Command → Reply → Answer → Type 0
MayChange e command good a =
    (IsAllowed e.choose false (drawn e) (state e) (order e command) × (a ≡ accepted e command good))
    ⊎ ((refusal : Refusal) × IsRefused e.choose false (drawn e) (state e) (order e command) refusal × (a ≡ says false (refused refusal)))

-- ---- questions

abbrev pub MayList : Entry → Answer → Type 0
MayList e a = (a ≡ says false (plain (listing (view (state e))))) ⊎ (a ≡ declined)

-- What is said of an index: lines where it is seen, and where the disk tells what it reads they are
-- those of its events.
pub record IsExport (told : Type 0) (e : Entry) (index : List ℕ) (range : Range) (reply : Reply) : Type 0 where
  pub lines : List ℕ
  pub is : reply ≡ events_reply (is_seen (state e) index) lines
  pub known : told → reply ≡ events_reply (is_seen (state e) index) (text range (exported (state e) index))

abbrev pub answer_of_fault : CommitFault → ServeFault
answer_of_fault commits.Disk = fault.Disk
answer_of_fault (commits.Damaged file at) = fault.Damaged file at

-- the lines of an index, behind a commit of all; or the fault of the disk, which is answered behind
-- its reply
abbrev pub MayExport : Entry → Type 0 → List ℕ → Range → Result Served ServeFault → Answer → Type 0
MayExport e told index range result a =
    ((reply : Reply) × IsExport told e index range reply × (a ≡ says true reply))
    ⊎ (a ≡ declined)
    ⊎ ((cause : CommitFault) × (result ≡ Err (answer_of_fault cause)) × (a ≡ says false (broken cause)))

-- ---- the answer to an ask

abbrev pub MayBe : Entry → Type 0 → Ask → Result Served ServeFault → Answer → Type 0
MayBe e told (asks.Begin channel meta) result a = MayChange e (commands.Begin channel meta) (begun channel) a
MayBe e told (asks.Block channel bytes) result a = MayChange e (commands.Block channel bytes None) (acked (drawn e) e.run) a
MayBe e told (asks.End channel) result a = MayChange e (commands.End channel) (acked (drawn e) e.run) a
MayBe e told (asks.Acks run numbers) result a =
    (a ≡ says (list_any (is_pending e run) numbers) (acks (map (is_acked e run) numbers))) ⊎ (a ≡ declined)
MayBe e told asks.Buckets result a = MayList e a
MayBe e told (asks.Events index range) result a = MayExport e told index range result a

-- ---- the answer to what was read

-- what reading answers: what was found, or why nothing was
abbrev pub Found : Type 0
Found = Result Incoming LinkFault

abbrev pub Says : Entry → Type 0 → Found → Result Served ServeFault → Answer → Type 0
Says e told (Ok was.Ended) result a = (result ≡ Ok served.Ended) × (a ≡ silence)
Says e told (Ok (was.Asked ask)) result a = MayBe e told ask result a
Says e told (Ok (was.Refused why delimited)) result a = a ≡ says false (unread why)
Says e told (Err link.Failed) result a = (result ≡ Err fault.Link) × (a ≡ silence)
Says e told (Err link.Cut) result a = (result ≡ Err fault.Cut) × (a ≡ silence)
Says e told (Err (link.NoMemory whole)) result a = a ≡ declined

-- whether it was read whole, and another request may follow
abbrev pub is_whole : Found → Bool
is_whole (Ok was.Ended) = true
is_whole (Ok (was.Asked ask)) = true
is_whole (Ok (was.Refused why delimited)) = delimited
is_whole (Err link.Failed) = false
is_whole (Err link.Cut) = false
is_whole (Err (link.NoMemory whole)) = whole
