use Rattle.std.proofs.Common.{w64, SFits}
use Rattle.ix_channels.proofs.Failing.{no_failure, memory_no_full}
use Rattle.ix_catalog.specs.Numbers.{HasRecord}
use Rattle.ix_items.specs.declared.items.Item.{Item}
use Rattle.ix_items.specs.Spelling.{HasSpelling}
use Rattle.std.proofs.lemmas.Int.{to_z-of_z}
use Rattle.std.proofs.Common.{List, refl, sym, subst}
use Rattle.std.specs.List.{All, AllByRecursion}
use Rattle.ix_base.specs.declared.events.Routed.{Routed}
use Rattle.ix_model.specs.declared.commands.Command.TheVariants.{Direct}
use Rattle.ix_parse.specs.Limits.{IsSmall}
use Rattle.ix_channels.proofs.PutLemmas.{all_at, direct_small, direct_works}
use Rattle.ix_channels.proofs.Within.{brief_chance}
use Rattle.ix_channels.proofs.putting.direct.Goals as goal

pub returns-then-have_records-clause-done : goal.returns-then-have_records-clause-done
returns-then-have_records-clause-done c = λ choose history may.
    let f : SFits w64 c.args.moment = c.ranges.moment in
    let put = simp to_z-of_z at c.in_ok-outcomes.ensures in
    direct_works choose history c.args.events c.args.moment c.args.held.now _ may put refl c.new.ensures

pub returns-else-have_records-clause-full : goal.returns-else-have_records-clause-full
returns-else-have_records-clause-full c = λ was choose history may within.
    let held = c.args.held.now in
    let outcomes = c.in_ok-outcomes.outcomes in
    let f : SFits w64 c.args.moment = c.ranges.moment in
    let put = simp to_z-of_z at c.in_ok-outcomes.ensures in
    c.have_records.ensures.no c.if-have_records.false (brief_chance choose history (Direct c.args.events) c.args.moment held may)
    (subst (λ (l : List Routed). All IsSmall l) (sym c.as_slice.ensures)
    (all_at IsSmall outcomes (direct_small choose history c.args.events c.args.moment held outcomes may put)))

pub returns-in_err-outcomes-clause-full : goal.returns-in_err-outcomes-clause-full
returns-in_err-outcomes-clause-full c = λ was choose history may within. memory_no_full c.from_residual.result c.from_residual.ensures.1 was

pub returns-then-have_records-clause-full : goal.returns-then-have_records-clause-full
returns-then-have_records-clause-full c = λ was choose history may within. no_failure _ _ was

pub returns-then-have_records-clause-small : goal.returns-then-have_records-clause-small
returns-then-have_records-clause-small c = subst (λ (l : List Routed). All (HasRecord c.args.held.now.config.limits) l) c.as_slice.ensures
    (c.have_records.ensures.yes c.if-have_records.true)

pub returns-then-have_records-clause-proper : goal.returns-then-have_records-clause-proper
returns-then-have_records-clause-proper c = subst (λ (l : List Item). AllByRecursion HasSpelling l) (sym c.new.ensures) tt
