use Rattle.std.proofs.Common.{◌≡◌, true}
use Rattle.ix_sessions.proofs.Turning.{safe_turns}
use Rattle.ix_sessions.proofs.Visiting.{safe_visits}
use Rattle.ix_sessions.specs.Connections as connections
use Rattle.ix_sessions.specs.Connections.{turns_of}
use Rattle.ix_sessions.specs.Feeding as feeding
use Rattle.ix_replay.specs.Fits.{fits}
use Rattle.indexd_serve.specs.Serving.{begun_with}
use Rattle.indexd_core.proofs.ChainLemmas.{goes_on, from_mount, from_commit, keeps_known}
use Rattle.indexd_core.proofs.chain.the_next_run_may_begin.Goals as goal

pub returns : goal.returns
returns g c = record {
  anywhere = λ past before disk later image may leaves tells stop.
      goes_on g.D.Disk g.E.Disk g.met.D.Disk.only_now past before disk may leaves later image tells stop;
  mounted = λ past now new_run count before disk later image may given passes tells stop.
      from_mount g.D.Disk g.E.Disk g.met.D.Disk.only_now past before disk may now new_run count given passes later image tells stop;
  done = λ past before disk later image may keeps tells stop.
      from_commit g.D.Disk g.E.Disk g.met.D.Disk.only_now past before disk may keeps later image tells stop;
  fed = λ past run end failed failed' link later image may was tells.
      let s = begun_with past was.count was.configured was.new_run was.middle in
      keeps_known g.D.Disk g.E.Disk g.met.D.Disk.only_now s was.now run.disk later image may.chooser was.given tells was.served.turns
      (feeding.is_open_end was.served.first ≡ true) was.served.now_is (safe_turns g.D.Disk fits s was.served.turns _ _ was.served.are)
      was.served.behind was.served.all;
  heard = λ past run requests end from to later image may was tells.
      let s = begun_with past was.count was.configured was.new_run was.middle in
      keeps_known g.D.Disk g.E.Disk g.met.D.Disk.only_now s was.now run.disk later image may.chooser was.given tells
      (turns_of was.served.visits) (connections.is_open_end was.served.first ≡ true) was.served.now_is
      (safe_visits g.D.Disk fits s was.served.visits _ _ was.served.are) was.served.behind was.served.all;
}
