use Rattle.std.proofs.Common.{take, rules}
use Rattle.std.specs.Prelude.{IsErrOf}
use Rattle.ix_channels.specs.declared.channel_effect.WorkFault.TheVariants as faults
use Rattle.ix_channels.proofs.EndedLemmas.{none_yet, ended_step, ended_all, life_of}
use Rattle.ix_channels.proofs.endings.end_each.Goals as goal

pub loop-found-init : goal.loop-found-init
loop-found-init c = none_yet c.args.limits.now _ c.new.ensures.items c.new-2.ensures.items

pub loop-found-preserved : goal.loop-found-preserved
loop-found-preserved c =
    ended_step c.args.limits.now c.args.channels.now c.loop-found.found-index c.found-item.result c.add.new.self c.loop-found-test.true
    c.found-item.is
    (c.in_ok-add.ensures.added (take c.loop-found.found-index c.args.channels.now) c.loop-found.invariant)

pub returns-clause-ended : goal.returns-clause-ended
returns-clause-ended c =
    ended_all c.args.limits.now c.args.channels.now c.loop-found.found-index c.loop-found.endings c.loop-found-test.false
    c.loop-found.invariant

pub returns-in_err-add-clause-full : goal.returns-in_err-add-clause-full
returns-in_err-add-clause-full c = λ was chance lives zip short.
    let given = c.from_residual.ensures in
    let err = c.in_err-add.was in
    let full : IsErrOf c.add.result faults.Full = search (rules, was, given, err) in
    let life = life_of lives c.args.channels.now c.loop-found.found-index c.found-item.result zip short c.loop-found-test.true
    c.found-item.is in
    c.add.ensures.full full chance life.life life.is_open life.short
