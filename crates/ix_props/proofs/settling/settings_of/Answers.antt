use Rattle.std.proofs.lemmas.Result.{IfOk-weaker}
use Rattle.ix_props.specs.Ranking.{found, lent}
use Rattle.ix_props.proofs.SettledLemmas.{settled}
use Rattle.ix_props.proofs.UsableLemmas.{small_lookahead}
use Rattle.ix_props.proofs.settling.settings_of.Goals as goal

pub settle-requires : goal.settle-requires
settle-requires c =
    rw c.deref.ensures.value (small_lookahead _ c.args.entries.now (lent c.in_ok-chosen.chosen.items) c.requires c.in_ok-chosen.ensures)

pub returns : goal.returns
returns c =
    IfOk-weaker c.settle.result _ _
    (λ s set. settled c.args.entries.now c.args.meta.now c.in_ok-sourcetype.sourcetype (found c.in_ok-ranks.ranks)
    (lent c.in_ok-chosen.chosen.items) s
    (rw (c.as_slice-source.ensures, c.as_slice-host.ensures) at c.in_ok-ranks.ensures) c.in_ok-sourcetype.ensures
    (rw c.as_slice.ensures at c.in_ok-chosen.ensures) (rw c.deref.ensures.value at set))
    c.settle.ensures
