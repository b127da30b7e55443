-- What an export is replied with.
use Rattle.std.specs.Prelude.{◌≡◌, ◌⊎◌, ℕ, List, Some}
use Rattle.ix_base.specs.declared.events.Range.{Range}
use Rattle.ix_base.specs.declared.files.File.{File}
use Rattle.ix_disk.specs.Image.{Image}
use Rattle.ix_disk.specs.declared.disk.Disk.{Ghosts}
use Rattle.ix_http.specs.declared.kinds.HttpFault.TheVariants as http
use Rattle.ix_commit.specs.declared.fault.CommitFault.{CommitFault}
use Rattle.ix_life.specs.declared.views.View.{View}
use Rattle.ix_commit.specs.declared.fault.CommitFault.TheVariants as commits
use Rattle.ix_store.specs.Placing.{ReadsBad}
use Rattle.ix_serve.specs.Answer.{IsExport}
use Rattle.ix_serve.specs.Entries.{Entry}
use Rattle.ix_serve.specs.Replies.{Reply, plain, unread, refused, no_memory}
use Rattle.ix_serve.specs.declared.events.Exported.{Exported}
use Rattle.ix_serve.specs.declared.events.Exported.TheVariants as exports

abbrev pub reply_of : Exported → Reply
reply_of (exports.Lines text) = plain text
reply_of exports.TooLong = unread http.TooLong
reply_of (exports.Refused refusal) = refused refusal

abbrev pub MayReply : Type 0 → Entry → List ℕ → Range → Reply → Type 0
MayReply told e index range reply = (reply ≡ no_memory) ⊎ IsExport told e index range reply

-- damage is named as the disk reads, and as a state shows its buckets
abbrev pub IsPlacedBy : {D : Type 0} → Ghosts D → View → D → CommitFault → Type 0
IsPlacedBy d shown disk cause = (file : File) (at : ℕ) → cause ≡ commits.Damaged file at → ReadsBad d shown disk file at

-- the cause is no damage of a disk that tells what it reads
abbrev pub IsNoDamage : {D : Type 0} → Ghosts D → D → CommitFault → Type 0
IsNoDamage d disk cause = (file : File) (at : ℕ) → cause ≡ commits.Damaged file at → (image : Image) → d.seen disk ≡ Some image → ⊥
