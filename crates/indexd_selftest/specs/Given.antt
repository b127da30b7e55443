-- What requests of a selftest come to.
use Rattle.std.specs.Prelude.{◌≡◌, ◌<◌, ℕ, List, [], None, Ok, Err}
use Rattle.std.specs.List.{AllByRecursion}
use Rattle.ix_disk.specs.Image.{Image}
use Rattle.ix_disk.specs.declared.disk.Disk.{Ghosts}
use Rattle.ix_heads.specs.declared.faults.LinkFault.TheVariants as link
use Rattle.ix_http.specs.Asked.{Fits}
use Rattle.ix_http.specs.declared.kinds.Ask.{Ask}
use Rattle.ix_http.specs.declared.kinds.Ask.TheVariants as asks
use Rattle.ix_http.specs.declared.kinds.Incoming.TheVariants as was
use Rattle.ix_manifest.specs.Book.{NamedItems}
use Rattle.ix_model.specs.Given.{Chooser}
use Rattle.ix_model.specs.declared.commands.Command.{Command}
use Rattle.ix_model.specs.declared.commands.Command.TheVariants as commands
use Rattle.ix_model.specs.declared.commands.Config.{Config}
use Rattle.ix_model.specs.declared.commands.TimedCommand.{TimedCommand}
use Rattle.ix_run.specs.Giving.{given_all}
use Rattle.ix_serve.specs.Answer.{Found}
use Rattle.ix_store.specs.Holding.{Represents}
use Rattle.ix_store.specs.Written.{RecoversTo}
use Rattle.ix_store.specs.declared.store.Store.{Store}
use Rattle.indexd_selftest.specs.Blocks.{AreCut}
use Rattle.indexd_selftest.specs.History.{orders}
use Rattle.indexd_selftest.specs.Lines.{stream}

-- ---- requests

-- this is asked, unless the link fails or there is no room in memory
abbrev pub IsAsked : Ask → Found → Type 0
IsAsked ask (Ok incoming) = incoming ≡ was.Asked ask
IsAsked ask (Err link.Failed) = Unit {0}
IsAsked ask (Err link.Cut) = ⊥
IsAsked ask (Err (link.NoMemory whole)) = Unit {0}

-- this is asked by asking for a command
abbrev pub IsChange : Ask → Command → Type 0
IsChange (asks.Begin channel meta) command = command ≡ commands.Begin channel meta
IsChange (asks.Block channel bytes) command = command ≡ commands.Block channel bytes None
IsChange (asks.End channel) command = command ≡ commands.End channel
IsChange (asks.Acks run numbers) command = ⊥
IsChange asks.Buckets command = ⊥
IsChange (asks.Events index range) command = ⊥

-- the status of the reply to an accepted command
abbrev pub good_status : Ask → ℕ
good_status (asks.Begin channel meta) = 201
good_status (asks.Block channel bytes) = 200
good_status (asks.End channel) = 200
good_status (asks.Acks run numbers) = 200
good_status asks.Buckets = 200
good_status (asks.Events index range) = 200

-- The request asks for the command alone, and this is the status of the reply where it is accepted.
-- No refusal is replied to so.
pub record AsksFor (request : List ℕ) (status : ℕ) (command : Command) : Type 0 where
  pub ask : Ask
  pub change : IsChange ask command
  pub read : (found : Found) (rest : List ℕ) → Fits found request rest → IsAsked ask found
  pub good : good_status ask ≡ status
  pub low : status < 404

-- ---- stores

-- A store and a disk hold the history, which may be given.
pub record RepresentsAll {D : Type 0} (d : Ghosts D) {M : Type 0} (takes : TimedCommand → Type 0) (fits : NamedItems →
    Type 0) (holds : Chooser → List TimedCommand → M → Type 0) (choose : Chooser) (history : List TimedCommand) (base : ℕ)
    (store : Store M) (disk : D) : Type 0 where
  pub kept : ℕ
  pub hold : Represents d fits holds choose history base kept store disk
  pub taken : AllByRecursion takes history

-- every image of the disk stands for this run and this history, which may be given
pub record AllRecover {D : Type 0} (d : Ghosts D) (takes : TimedCommand → Type 0) (fits : NamedItems → Type 0) (run : ℕ)
    (choose : Chooser) (history : List TimedCommand) (disk : D) : Type 0 where
  pub taken : AllByRecursion takes history
  pub stand : (image : Image) → d.may_leave disk image → RecoversTo fits run choose history image

-- a disk holds all commands of a selftest, as its first run leaves them
pub record IsFilled {D : Type 0} (d : Ghosts D) (is_chooser : Chooser → Type 0) (takes : TimedCommand → Type 0) (fits : NamedItems →
    Type 0) (config : Config) (seed count : ℕ) (disk : D) : Type 0 where
  pub blocks : List (List ℕ)
  pub cut : AreCut seed (stream count) blocks
  pub stands : (choose : Chooser) → is_chooser choose → AllRecover d takes fits 1 choose (given_all choose [] (orders config blocks)) disk
