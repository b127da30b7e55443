use Rattle.std.proofs.Common.{sym, subst}
use Rattle.std.proofs.lemmas.Result.{IfOk-weaker}
use Rattle.ix_props.specs.Choice.{Holds}
use Rattle.ix_props.specs.Settings.{origin_of}
use Rattle.ix_props.specs.Sound.{AreSound}
use Rattle.ix_props.proofs.OneLemmas.{one_chosen}
use Rattle.ix_props.proofs.UsableLemmas.{usable}
use Rattle.ix_props.proofs.props.Props.settings.Goals as goal

pub returns-clause-usable : goal.returns-clause-usable
returns-clause-usable c =
    IfOk-weaker c.settings_of.result _ _
    (λ s are. usable c.as_slice.result.now c.args.meta.now s
    (subst (λ entries. AreSound entries) (sym c.as_slice.ensures) c.self.invariant) are)
    c.settings_of.ensures

pub returns-clause-one_choice : goal.returns-clause-one_choice
returns-clause-one_choice c =
    λ sourcetype key found other a b.
    one_chosen c.args.self.now (Holds c.args.self.now (origin_of c.args.meta.now sourcetype)) key found other a b
