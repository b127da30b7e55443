use Rattle.std.proofs.Common.{List, sym, subst, rules}
use Rattle.std.specs.Prelude.{IsErrOf}
use Rattle.std.specs.List.{All, AllZip, AllByRecursion}
use Rattle.ix_items.specs.Spelling.{HasSpelling}
use Rattle.ix_model.specs.Step.{state_after}
use Rattle.ix_model.specs.declared.commands.Command.TheVariants.{Configure}
use Rattle.ix_catalog.specs.Numbers.{HasRecord}
use Rattle.ix_state.specs.Held.{IsOpen}
use Rattle.ix_state.specs.declared.state.OpenChannel.{OpenChannel}
use Rattle.ix_channels.specs.Ended.{AreEnded}
use Rattle.ix_channels.specs.declared.channel_effect.WorkFault.TheVariants as faults
use Rattle.ix_channels.proofs.EndedLemmas.{end_all_works}
use Rattle.ix_channels.proofs.Sized.{names_short}
use Rattle.ix_channels.proofs.Within.{brief_chance}
use Rattle.ix_channels.proofs.endings.end_all.Goals as goal

pub returns-clause-done : goal.returns-clause-done
returns-clause-done c = λ choose history config moment may.
    let held = c.args.held.now in
    let endings = c.in_ok-endings.endings in
    end_all_works choose history config moment held endings c.worked.result may
    (subst (λ (os : List OpenChannel). AreEnded held.config.limits os endings) c.as_slice.ensures.value c.in_ok-endings.ensures.ended)
    c.worked.ensures.change c.worked.ensures.outcomes c.worked.ensures.items

pub returns-clause-proper : goal.returns-clause-proper
returns-clause-proper c = subst (AllByRecursion HasSpelling) (sym c.worked.ensures.items) c.in_ok-endings.ensures.ended.proper

pub returns-clause-small : goal.returns-clause-small
returns-clause-small c = subst (All (HasRecord c.args.held.now.config.limits)) (sym c.worked.ensures.outcomes)
    c.in_ok-endings.ensures.ended.small

pub returns-in_err-endings-clause-full : goal.returns-in_err-endings-clause-full
returns-in_err-endings-clause-full c = λ was choose history config moment may within.
    let held = c.args.held.now in
    let given = c.from_residual.ensures in
    let err = c.in_err-endings.was in
    let full : IsErrOf c.end_each.result faults.Full = search (rules, was, given, err) in
    c.end_each.ensures.full full (brief_chance choose history (Configure config) moment held may) (state_after choose history).channels
    (subst (λ (os : List OpenChannel). AllZip IsOpen (state_after choose history).channels os) (sym c.as_slice.ensures.value)
    may.sees.channels)
    (names_short (state_after choose history) within.before)
