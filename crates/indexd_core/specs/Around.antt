-- All that the program works over.
use Rattle.std.specs.Prelude.{ℕ, List, Option}
use Rattle.ix_base.specs.Clocks.{Moments}
use Rattle.ix_base.specs.declared.clocks.Clock.{Ghosts as ClockGhosts}
use Rattle.ix_base.specs.declared.sinks.Sink.{Ghosts as SinkGhosts}
use Rattle.ix_base.specs.declared.sources.Source.{Ghosts as SourceGhosts}
use Rattle.ix_fs.specs.declared.trees.Tree.{Ghosts as TreeGhosts}
use Rattle.ix_fs.specs.declared.trees.TreeFile.{TreeFile}
use Rattle.ix_net.specs.declared.listener.Listener.{Ghosts as ListenerGhosts}
use Rattle.ix_model.specs.declared.commands.Config.{Config}
use Rattle.ix_sessions.specs.Connections.{Listened, listened}
use Rattle.indexd_run.specs.Opened.{Course, course}
use Rattle.indexd_core.specs.Sides.{Side, side}

-- All that the program works over, as it stands: the files of settings, and how often the tree has
-- failed and has missed a file; what the clock is to tell; the input and the output; what the
-- listener tells, how often it has failed, and how many connections are out; the disk.
pub record Around (D : Type 0) : Type 0 where
  pub files : Option (List TreeFile)
  pub failed : ℕ
  pub missing : ℕ
  pub ahead : Option Moments
  pub input : Side
  pub output : Side
  pub heard : Listened
  pub deaf : ℕ
  pub out : ℕ
  pub disk : D

abbrev pub around : {D : Type 0} → Option (List TreeFile) → ℕ → ℕ → Option Moments → Side → Side → Listened → ℕ → ℕ → D → Around D
around files failed missing ahead input output heard deaf out disk = record {
  files = files;
  failed = failed;
  missing = missing;
  ahead = ahead;
  input = input;
  output = output;
  heard = heard;
  deaf = deaf;
  out = out;
  disk = disk;
}

-- what a source, a sink, a clock, a tree and a listener tell, with the disk
abbrev pub around_of : {S W C T L K D : Type 0} → SourceGhosts S → SinkGhosts W → ClockGhosts C → TreeGhosts T → ListenerGhosts L K → S → W → C →
    T → L → D → Around D
around_of s w c t l input output clock tree listener disk =
    around (t.files tree) (t.faults tree) (t.missing tree) (c.ahead clock) (side (s.faults input) (s.left input))
    (side (w.faults output) (w.given output)) (listened (l.waiting listener) (l.handed listener)) (l.faults listener) (l.out listener) disk

-- What a command works over that has no store: the files of settings, and how often the tree has
-- failed; what the clock is to tell; the input and the output.
pub record Outside : Type 0 where
  pub files : Option (List TreeFile)
  pub failed : ℕ
  pub ahead : Option Moments
  pub input : Side
  pub output : Side

abbrev pub outside : Option (List TreeFile) → ℕ → Option Moments → Side → Side → Outside
outside files failed ahead input output = record { files = files; failed = failed; ahead = ahead; input = input; output = output }

abbrev pub outside_of : {S W C T : Type 0} → SourceGhosts S → SinkGhosts W → ClockGhosts C → TreeGhosts T → S → W → C → T → Outside
outside_of s w c t input output clock tree =
    outside (t.files tree) (t.faults tree) (c.ahead clock) (side (s.faults input) (s.left input)) (side (w.faults output) (w.given output))

-- what there is of it in all
abbrev pub but_store : {D : Type 0} → Around D → Outside
but_store all = outside all.files all.failed all.ahead all.input all.output

-- the course of a run with these settings, from what stood at its start to what stands at its exit
abbrev pub course_of : {D : Type 0} → Config → Around D → Around D → Course D
course_of config from to = course config from.ahead to.ahead from.disk to.disk
