use Rattle.std.proofs.Common.{w64, SFits}
use Rattle.std.proofs.lemmas.Int.{to_z-of_z}
use Rattle.std.proofs.Common.{◌++◌, rules}
use Rattle.std.specs.Prelude.{IsErrOf}
use Rattle.ix_base.specs.Clocks.{clamped}
use Rattle.ix_base.specs.Stream.{dated}
use Rattle.ix_channels.specs.declared.channel_effect.WorkFault.TheVariants as faults
use Rattle.ix_channels.proofs.feeding.feed_open.Goals as goal

pub returns-in_err-items-clause-full : goal.returns-in_err-items-clause-full
returns-in_err-items-clause-full c = λ was chance settings meta stream stands limits moments name stated.
    let f : SFits w64 c.args.moment = c.ranges.moment in
    let takes = simp to_z-of_z at (c.in_ok-fed.ensures.takes settings meta stream stands) in
    let given = c.from_residual-in_err-items.ensures in
    let err = c.in_err-items.was in
    let full : IsErrOf c.said_alone.result faults.Full = search (rules, was, given, err) in
    c.said_alone.ensures.full full settings meta (stream ++ dated c.args.bytes.now (clamped c.args.moment)) takes.0 moments name stated

pub returns-clause-done : goal.returns-clause-done
returns-clause-done c =
    let f : SFits w64 c.args.moment = c.ranges.moment in
    record {
      takes = λ settings meta stream stands. simp to_z-of_z at (c.in_ok-fed.ensures.takes settings meta stream stands);
      said = λ settings meta stream stands.
          let takes = simp to_z-of_z at (c.in_ok-fed.ensures.takes settings meta stream stands) in
          c.in_ok-items.ensures.said settings meta (stream ++ dated c.args.bytes.now (clamped c.args.moment)) takes.0;
    }
