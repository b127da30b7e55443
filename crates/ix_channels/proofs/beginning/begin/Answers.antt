use Rattle.std.proofs.Common.{[], subst, rules, List, sym}
use Rattle.ix_channels.proofs.Failing.{no_failure, memory_no_full}
use Rattle.ix_catalog.specs.Numbers.{HasRecord}
use Rattle.ix_base.specs.declared.events.Routed.{Routed}
use Rattle.std.proofs.lemmas.List.Elements.{All-nil}
use Rattle.std.specs.List.{All}
use Rattle.std.specs.Prelude.{IsErrOf}
use Rattle.ix_base.specs.declared.events.ChannelMeta.{ChannelMeta}
use Rattle.ix_channels.specs.Begun.{IsBegun}
use Rattle.ix_channels.specs.declared.channel_effect.WorkFault.TheVariants as faults
use Rattle.ix_channels.proofs.BegunLemmas.{begin_works}
use Rattle.ix_channels.proofs.Within.{begin_fine}
use Rattle.ix_channels.proofs.beginning.begin.Goals as goal

pub returns-clause-done : goal.returns-clause-done
returns-clause-done c = λ choose history moment may.
    let held = c.args.held.now in
    let o = c.in_ok-begun.begun in
    let b = subst (λ (w : ChannelMeta). IsBegun held.config.props c.args.channel w o) c.in_ok-meta.ensures c.in_ok-begun.ensures in
    begin_works choose history c.args.channel c.args.meta moment held o _ may b c.in_ok-change.ensures.changed c.in_ok-change.ensures.room
    c.new.ensures
    (λ settings stated stands. c.in_ok-items.ensures.said settings stated [] stands)

pub returns-in_err-items-clause-full : goal.returns-in_err-items-clause-full
returns-in_err-items-clause-full c = λ was choose history moment may within.
    let held = c.args.held.now in
    let o = c.in_ok-begun.begun in
    let b = subst (λ (w : ChannelMeta). IsBegun held.config.props c.args.channel w o) c.in_ok-meta.ensures c.in_ok-begun.ensures in
    let fine = begin_fine choose history c.args.channel c.args.meta moment held o may within b in
    let given = c.from_residual-in_err-items.ensures in
    let err = c.in_err-items.was in
    let full : IsErrOf c.said_alone.result faults.Full = search (rules, was, given, err) in
    c.said_alone.ensures.full full fine.0 fine.1 [] fine.2.0 tt fine.2.1 fine.2.2

pub returns-in_err-meta-clause-full : goal.returns-in_err-meta-clause-full
returns-in_err-meta-clause-full c = λ was choose history moment may within.
    memory_no_full c.from_residual.result c.from_residual.ensures.1 was

pub returns-in_err-begun-clause-full : goal.returns-in_err-begun-clause-full
returns-in_err-begun-clause-full c = λ was choose history moment may within.
    memory_no_full c.from_residual-in_err-begun.result c.from_residual-in_err-begun.ensures.1 was

pub returns-in_err-change-clause-full : goal.returns-in_err-change-clause-full
returns-in_err-change-clause-full c = λ was choose history moment may within.
    memory_no_full c.from_residual-in_err-change.result c.from_residual-in_err-change.ensures.1 was

pub returns-clause-full : goal.returns-clause-full
returns-clause-full c = λ was choose history moment may within. no_failure _ _ was

pub returns-clause-small : goal.returns-clause-small
returns-clause-small c = subst (λ (l : List Routed). All (HasRecord c.args.held.now.config.limits) l) (sym c.new.ensures)
    (All-nil (HasRecord c.args.held.now.config.limits))

pub returns-clause-room : goal.returns-clause-room
returns-clause-room c = c.in_ok-change.ensures.room

pub returns-clause-proper : goal.returns-clause-proper
returns-clause-proper c = c.in_ok-items.ensures.proper
