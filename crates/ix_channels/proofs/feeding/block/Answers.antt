use Rattle.std.proofs.Common.{w64, SFits, sym}
use Rattle.ix_channels.proofs.Failing.{no_failure}
use Rattle.ix_catalog.specs.Numbers.{HasRecord}
use Rattle.ix_items.specs.declared.items.Item.{Item}
use Rattle.ix_items.specs.Spelling.{HasSpelling}
use Rattle.ix_base.specs.declared.events.Routed.{Routed}
use Rattle.std.proofs.lemmas.Int.{to_z-of_z}
use Rattle.std.proofs.Common.{◌≡◌, ◌<◌, List, subst, length, rules}
use Rattle.std.specs.Prelude.{IsErrOf, Some, None}
use Rattle.std.specs.List.{position, All, AllByRecursion}
use Rattle.ix_model.specs.declared.commands.Command.TheVariants.{Block}
use Rattle.ix_state.specs.Causes.{has_name}
use Rattle.ix_state.specs.declared.state.OpenChannel.{OpenChannel}
use Rattle.ix_channels.specs.declared.change.ChannelChange.TheVariants as change
use Rattle.ix_channels.specs.declared.channel_effect.WorkFault.TheVariants as faults
use Rattle.ix_channels.proofs.Alike.{alike}
use Rattle.ix_channels.proofs.TakenLemmas.{none_blocked, block_works}
use Rattle.ix_channels.proofs.Within.{brief_chance, block_fine, block_moments}
use Rattle.ix_channels.proofs.feeding.block.Goals as goal

pub returns-in_default-clause-done : goal.returns-in_default-clause-done
returns-in_default-clause-done c = λ choose history spot may.
    let none : position (has_name c.args.channel.now) c.args.held.now.channels.items ≡ None =
    cc (c.in_default.ensures.value, c.as_slice.ensures.value) in
    absurd (none_blocked choose history c.args.channel.now c.args.bytes.now spot c.args.moment c.args.held.now may none)

pub returns-in_err-fed-clause-full : goal.returns-in_err-fed-clause-full
returns-in_err-fed-clause-full c = λ was choose history spot may within.
    let f : SFits w64 c.args.moment = c.ranges.moment in
    let held = c.args.held.now in
    let channel = c.args.channel.now in
    let bytes = c.args.bytes.now in
    let place : position (has_name channel) held.channels.items ≡ Some c.in-Some.at =
    cc (c.in-Some.ensures.value, c.as_slice.ensures.value) in
    let fine = block_fine choose history channel bytes spot c.args.moment held c.in-Some.at c.index-found.result.now may within place
    c.index-found.ensures in
    let given = c.from_residual.ensures in
    let err = c.in_err-fed.was in
    let full : IsErrOf c.feed_open.result faults.Full = search (rules, was, given, err) in
    c.feed_open.ensures.full full (brief_chance choose history (Block channel bytes spot) c.args.moment held may) fine.settings fine.stated
    fine.stream fine.stands fine.limits
    (simp to_z-of_z (block_moments choose history (Block channel bytes spot) bytes c.args.moment held fine.stream may fine.moments))
    fine.name fine.meta

pub returns-clause-done : goal.returns-clause-done
returns-clause-done c = λ choose history spot may.
    let held = c.args.held.now in
    let channel = c.args.channel.now in
    let bytes = c.args.bytes.now in
    let fed = c.in_ok-fed.fed in
    let f : SFits w64 c.args.moment = c.ranges.moment in
    let done = simp to_z-of_z at c.in_ok-fed.ensures.done in
    let place : position (has_name channel) held.channels.items ≡ Some c.in-Some.at =
    cc (c.in-Some.ensures.value, c.as_slice.ensures.value) in
    let short : c.in-Some.at < length c.as_slice.result.now = c.in-Some.ensures.within in
    let within : c.in-Some.at < length held.channels.items =
    subst (λ (l : List OpenChannel). c.in-Some.at < length l) c.as_slice.ensures.value short in
    alike choose history (Block channel bytes spot) c.args.moment held c.worked.result
    (record { change = change.Fed c.in-Some.at fed.channel; outcomes = fed.outcomes; items = fed.items }) c.worked.ensures.change
    c.worked.ensures.outcomes c.worked.ensures.items
    (block_works choose history channel bytes spot c.args.moment held c.in-Some.at c.index-found.result.now fed may place within
    c.index-found.ensures done)

pub returns-clause-full : goal.returns-clause-full
returns-clause-full c = λ was choose history spot may within. no_failure _ _ was

pub returns-clause-small : goal.returns-clause-small
returns-clause-small c = subst (λ (l : List Routed). All (HasRecord c.args.held.now.config.limits) l) (sym c.worked.ensures.outcomes)
    c.in_ok-fed.ensures.small

pub returns-clause-proper : goal.returns-clause-proper
returns-clause-proper c = subst (λ (l : List Item). AllByRecursion HasSpelling l) (sym c.worked.ensures.items) c.in_ok-fed.ensures.proper
