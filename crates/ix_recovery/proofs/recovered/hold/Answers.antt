use Rattle.std.proofs.Common.{◌≡◌, List, ℕ, rules, refl, sym, ap, subst, inl, inr}
use Rattle.ix_recovery.proofs.Failing.{memory_no_bad}
use Rattle.std.specs.Prelude.{Err}
use Rattle.std.proofs.lemmas.Result.{err_from_is_err_and}
use Rattle.ix_base.specs.declared.events.Spot.{Spot}
use Rattle.ix_model.specs.State.{spot_path}
use Rattle.ix_recovery.specs.declared.faults.RecoveryFault.TheVariants as faults
use Rattle.ix_recovery.specs.declared.gathering.Carried.{Carried}
use Rattle.ix_recovery.specs.declared.gathering.Placed.{Placed}
use Rattle.ix_recovery.specs.Faults.{by_config}
use Rattle.ix_recovery.specs.Recalled.{AreSorted, AreResumed, AreShelved, HasBad}
use Rattle.ix_recovery.proofs.Refusals.{bad_config}
use Rattle.ix_recovery.proofs.recovered.hold.Goals as goal

pub returns-clause-recalled : goal.returns-clause-recalled
returns-clause-recalled c =
    let limits = c.in_ok-config.config.limits in
    record {
      config = c.in_ok-config.ensures.ok.0;
      kept = c.in_ok-config.ensures.ok.1;
      channels = subst (λ (given : List Carried). AreResumed given c.in_ok-config.config.props c.in_ok-channels.channels.items)
          c.into_vec-2.ensures c.in_ok-channels.ensures.opened;
      spots = subst (λ (given : List Spot). AreSorted spot_path given c.spots_by_path.result.items) c.into_vec-3.ensures
          c.spots_by_path.ensures;
      indexes =
          subst (λ (names : List (List ℕ)). AreShelved names c.args.gathered.buckets limits c.in_ok-indexes.indexes) c.into_vec.ensures
          (subst (λ (placed : List Placed). AreShelved c.into_vec.result.items placed limits c.in_ok-indexes.indexes) c.as_slice.ensures
          c.in_ok-indexes.ensures);
      ledger = c.in_ok-ledger.ensures;
      settled = refl;
      nulled = refl;
      dropped = refl;
      placed = refl;
      next_file = refl;
      last = search rules;
      tick = search rules;
    }

pub returns-in_err-config-clause-bad : goal.returns-in_err-config-clause-bad
returns-in_err-config-clause-bad c = λ subject is.
    let p = err_from_is_err_and c.from_residual.result c.from_residual.ensures.1 in
    let p1 = p.1 in
    let p2 = p.2 in
    let gives : faults.Bad subject ≡ by_config c.in_err-config.field-0.0 = cc in
    let fault = bad_config c.in_err-config.field-0.0 subject gives in
    inl (
      fault.1,
      record {
        some = λ none. c.in_err-config.ensures.empty none (ap (λ f. Err f) fault.0);
        none = λ config is_config kept. c.in_err-config.ensures.unsound (ap (λ f. Err f) fault.0) config is_config kept;
      },
    )

pub returns-in_err-channels-clause-bad : goal.returns-in_err-channels-clause-bad
returns-in_err-channels-clause-bad c = λ subject is.
    let p = err_from_is_err_and c.from_residual-in_err-channels.result c.from_residual-in_err-channels.ensures.1 in
    let p1 = p.1 in
    let p2 = p.2 in
    let gives : c.in_err-channels.field-0.0 ≡ faults.Bad subject = cc in
    inr (record {
      config = c.in_ok-config.config;
      is_config = c.in_ok-config.ensures.ok.0;
      kept = c.in_ok-config.ensures.ok.1;
      has_bad = subst (λ (given : List Carried). HasBad given c.in_ok-config.config.props subject) c.into_vec-2.ensures
          (c.in_err-channels.ensures.bad subject (ap (λ f. Err f) gives));
    })

pub returns-in_err-indexes-clause-bad : goal.returns-in_err-indexes-clause-bad
returns-in_err-indexes-clause-bad c = λ subject is. memory_no_bad c.from_residual-in_err-indexes.result subject
    c.from_residual-in_err-indexes.ensures.1 is

pub returns-in_err-ledger-clause-bad : goal.returns-in_err-ledger-clause-bad
returns-in_err-ledger-clause-bad c = λ subject is. memory_no_bad c.from_residual-in_err-ledger.result subject
    c.from_residual-in_err-ledger.ensures.1 is
