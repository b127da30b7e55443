use Rattle.std.proofs.Common.{w64, SFits, List, subst}
use Rattle.ix_catalog.specs.Numbers.{HasRecord}
use Rattle.std.proofs.lemmas.Int.{to_z-of_z}
use Rattle.std.proofs.Common.{List, sym, subst}
use Rattle.std.specs.List.{All}
use Rattle.ix_base.specs.declared.events.Routed.{Routed}
use Rattle.ix_parse.specs.Limits.{IsSmall}
use Rattle.ix_channels.proofs.feeding.feed_within.Goals as goal

pub returns-else-have_records-clause-full : goal.returns-else-have_records-clause-full
returns-else-have_records-clause-full c = λ was chance settings meta stream stands limits.
    c.have_records.ensures.no c.if-have_records.false chance
    (subst (λ (l : List Routed). All IsSmall l) (sym c.as_slice.ensures) (c.in_ok-fed.ensures.small settings meta stream stands limits))

pub returns-then-have_records-clause-takes : goal.returns-then-have_records-clause-takes
returns-then-have_records-clause-takes c = λ settings meta stream stands.
    let f : SFits w64 c.args.moment = c.ranges.moment in
    simp to_z-of_z at (c.in_ok-fed.ensures.takes settings meta stream stands)

pub returns-then-have_records-clause-small : goal.returns-then-have_records-clause-small
returns-then-have_records-clause-small c = subst (λ (l : List Routed). All (HasRecord c.args.limits.now) l) c.as_slice.ensures
    (c.have_records.ensures.yes c.if-have_records.true)
