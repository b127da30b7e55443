use Rattle.std.proofs.Common.{◌≡◌, ◌<◌, List, [], ◌∷◌, ◌∙◌, ap, subst, length, rules, sym, refl}
use Rattle.ix_channels.proofs.Failing.{no_failure, same_fault}
use Rattle.ix_catalog.specs.Numbers.{HasRecord}
use Rattle.ix_items.specs.Spelling.{HasSpelling}
use Rattle.ix_base.specs.declared.events.Routed.{Routed}
use Rattle.std.specs.Prelude.{IsErrOf, Some, None}
use Rattle.std.specs.List.{position, All, AllByRecursion}
use Rattle.ix_items.specs.declared.items.Item.{Item}
use Rattle.ix_items.specs.declared.items.Item.TheVariants as items
use Rattle.ix_model.specs.declared.commands.Command.TheVariants.{End}
use Rattle.ix_state.specs.Causes.{has_name}
use Rattle.ix_state.specs.declared.state.OpenChannel.{OpenChannel}
use Rattle.ix_channels.specs.declared.change.ChannelChange.TheVariants as change
use Rattle.ix_channels.specs.declared.channel_effect.WorkFault.TheVariants as faults
use Rattle.ix_channels.proofs.Alike.{alike}
use Rattle.ix_channels.proofs.TakenLemmas.{none_ended, end_works}
use Rattle.ix_channels.proofs.Within.{brief_chance, end_fine}
use Rattle.ix_channels.proofs.ending.end.Goals as goal

pub returns-in_default-clause-done : goal.returns-in_default-clause-done
returns-in_default-clause-done c = λ choose history moment may.
    let none : position (has_name c.args.channel.now) c.args.held.now.channels.items ≡ None =
    cc (c.in_default.ensures.value, c.as_slice.ensures.value) in
    absurd (none_ended choose history c.args.channel.now moment c.args.held.now may none)

pub returns-in_err-ending-clause-full : goal.returns-in_err-ending-clause-full
returns-in_err-ending-clause-full c = λ was choose history moment may within.
    let held = c.args.held.now in
    let channel = c.args.channel.now in
    let place : position (has_name channel) held.channels.items ≡ Some c.in-Some.at =
    cc (c.in-Some.ensures.value, c.as_slice.ensures.value) in
    let fine = end_fine choose history channel moment held c.in-Some.at c.index-found.result.now may within place c.index-found.ensures in
    let given = c.from_residual.ensures in
    let err = c.in_err-ending.was in
    let full : IsErrOf c.end_open.result faults.Full = search (rules, was, given, err) in
    c.end_open.ensures.full full (brief_chance choose history (End channel) moment held may) fine.settings fine.stated fine.stream
    fine.stands fine.limits fine.name

pub returns-clause-done : goal.returns-clause-done
returns-clause-done c = λ choose history moment may.
    let held = c.args.held.now in
    let channel = c.args.channel.now in
    let o = c.index-found.result.now in
    let e = c.in_ok-ending.ending in
    let w = c.in_ok-worked.worked in
    let place : position (has_name channel) held.channels.items ≡ Some c.in-Some.at =
    cc (c.in-Some.ensures.value, c.as_slice.ensures.value) in
    let short : c.in-Some.at < length c.as_slice.result.now = c.in-Some.ensures.within in
    let within : c.in-Some.at < length held.channels.items =
    subst (λ (l : List OpenChannel). c.in-Some.at < length l) c.as_slice.ensures.value short in
    alike choose history (End channel) moment held w
    (record { change = change.Ended c.in-Some.at; outcomes = e.outcomes; items = items.Ended o.name ∷ [] }) c.in_ok-worked.ensures.change
    c.in_ok-worked.ensures.outcomes
    (c.in_ok-worked.ensures.items ∙ ap (λ (x : Item). x ∷ []) c.in_ok-ending.ensures.said)
    (end_works choose history channel moment held c.in-Some.at o e.outcomes may place within c.index-found.ensures
    c.in_ok-ending.ensures.settles)

pub returns-in_err-worked-clause-full : goal.returns-in_err-worked-clause-full
returns-in_err-worked-clause-full c = λ was choose history moment may within.
    c.worked.ensures.full (same_fault c.worked.result c.from_residual-in_err-worked.result c.in_err-worked.field-0.0 faults.Full
    c.in_err-worked.was c.from_residual-in_err-worked.ensures.1 was)

pub returns-clause-full : goal.returns-clause-full
returns-clause-full c = λ was choose history moment may within. no_failure _ _ was

pub returns-clause-small : goal.returns-clause-small
returns-clause-small c = subst (λ (l : List Routed). All (HasRecord c.args.held.now.config.limits) l) (sym c.in_ok-worked.ensures.outcomes)
    c.in_ok-ending.ensures.small

pub returns-clause-proper : goal.returns-clause-proper
returns-clause-proper c = subst (λ (l : List Item). AllByRecursion HasSpelling l) (sym c.in_ok-worked.ensures.items)
    (subst HasSpelling refl c.in_ok-ending.ensures.proper, tt)
