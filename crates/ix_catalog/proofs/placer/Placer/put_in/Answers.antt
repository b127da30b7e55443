use Rattle.std.proofs.Common.{◌≡◌, ◌<◌, ◌≤◌, ◌+◌, ◌^◌, ◌∙◌, ℕ, sym, ap, subst, Some, None, rules, arith}
use Rattle.std.proofs.lemmas.Result.{IfOk-from_err}
use Rattle.ix_commit.specs.declared.write_batch.Append.{Append}
use Rattle.ix_life.specs.declared.placing.Target.{Target}
use Rattle.ix_catalog.specs.Dealing.{joined}
use Rattle.ix_catalog.specs.Filling.{opened}
use Rattle.ix_catalog.specs.Numbers.{KeepsIndex}
use Rattle.ix_catalog.specs.declared.placer.DealFault.TheVariants as faults
use Rattle.ix_catalog.proofs.Failing.{ok_no_fault, same_fault}
use Rattle.ix_catalog.proofs.Placings.{goes, filled_old, filled_new, piece_by, fresh_by, file_by}
use Rattle.ix_catalog.proofs.placer.Placer.put_in.Goals as goal

pub returns-in_ok-put_into-in-Some : goal.returns-in_ok-put_into-in-Some
returns-in_ok-put_into-in-Some c =
    let a = c.args.placement.now in
    let v = c.args.view.now in
    let e : (goes a.event.now v).into ≡ Some c.in-Some.id = search rules in
    record {
      view = c.in_ok-put_into-in-Some.ensures.view ∙ sym
          (filled_old c.args.self.now.ledger.now c.args.self.now.moment a.file a.used a.event.now v c.in-Some.id e);
      pieces = c.in_ok-put_into-in-Some.ensures.pieces ∙ ap (λ (p : Append). joined p c.args.pieces.now)
          (sym (piece_by a.file a.event.now v (Some c.in-Some.id) e));
      fresh = sym (fresh_by a.event.now v (Some c.in-Some.id) e);
      kept = c.in_ok-put_into-in-Some.ensures.kept;
      file = subst (λ (n : ℕ). n < 2 ^ 63) (sym (file_by a.file a.event.now v (Some c.in-Some.id) e)) c.requires.file;
      full = λ is. absurd (ok_no_fault is);
    }

pub returns-in_err-put_into-in-Some : goal.returns-in_err-put_into-in-Some
returns-in_err-put_into-in-Some c =
    let a = c.args.placement.now in
    let v = c.args.view.now in
    let e : (goes a.event.now v).into ≡ Some c.in-Some.id = search rules in
    record {
      view = IfOk-from_err _ _ c.from_residual.ensures.0;
      pieces = IfOk-from_err _ _ c.from_residual.ensures.0;
      fresh = IfOk-from_err _ _ c.from_residual.ensures.0;
      kept = IfOk-from_err _ _ c.from_residual.ensures.0;
      file = IfOk-from_err _ _ c.from_residual.ensures.0;
      full = λ is keeps short.
          c.put_into.ensures.full (same_fault c.put_into.result c.from_residual.result c.in_err-put_into-in-Some.field-0.0 faults.Full
          c.in_err-put_into-in-Some.was c.from_residual.ensures.1 is)
          (subst KeepsIndex (filled_old c.args.self.now.ledger.now c.args.self.now.moment a.file a.used a.event.now v c.in-Some.id e)
          keeps);
    }

pub returns-in_ok-put_new-in-None : goal.returns-in_ok-put_new-in-None
returns-in_ok-put_new-in-None c =
    let a = c.args.placement.now in
    let v = c.args.view.now in
    let d = c.args.self.now in
    let g : c.place-target.result ≡ goes a.event.now v = search rules in
    let e : (goes a.event.now v).into ≡ None = ap (λ (t : Target). t.into) (sym g) ∙ c.in-None.is in
    record {
      view = c.in_ok-put_new-in-None.ensures.view ∙ ap (λ (t : Target). opened d.ledger.now d.moment a.event.now a.file a.used t v) g
          ∙ sym (filled_new d.ledger.now d.moment a.file a.used a.event.now v e);
      pieces = c.in_ok-put_new-in-None.ensures.pieces ∙ ap (λ (p : Append). joined p c.args.pieces.now)
          (sym (piece_by a.file a.event.now v None e));
      fresh = sym (fresh_by a.event.now v None e);
      kept = c.in_ok-put_new-in-None.ensures.kept;
      file = subst (λ (n : ℕ). n < 2 ^ 63) (sym (file_by a.file a.event.now v None e)) c.in_ok-put_new-in-None.ensures.file;
      full = λ is. absurd (ok_no_fault is);
    }

past_end : (behind file : ℕ) → behind ≡ file + 1 → behind < 2 ^ 63 → 2 ^ 63 ≤ file + 1 → ⊥
past_end behind file is short long = omega arith

pub returns-in_err-put_new-in-None : goal.returns-in_err-put_new-in-None
returns-in_err-put_new-in-None c =
    let a = c.args.placement.now in
    let v = c.args.view.now in
    let g : c.place-target.result ≡ goes a.event.now v = search rules in
    let e : (goes a.event.now v).into ≡ None = ap (λ (t : Target). t.into) (sym g) ∙ c.in-None.is in
    let r = c.from_residual-in_err-put_new-in-None in
    record {
      view = IfOk-from_err _ _ r.ensures.0;
      pieces = IfOk-from_err _ _ r.ensures.0;
      fresh = IfOk-from_err _ _ r.ensures.0;
      kept = IfOk-from_err _ _ r.ensures.0;
      file = IfOk-from_err _ _ r.ensures.0;
      full = λ is keeps short.
          past_end _ a.file (file_by a.file a.event.now v None e) short
          (c.put_new.ensures.full (same_fault c.put_new.result r.result c.in_err-put_new-in-None.field-0.0 faults.Full
          c.in_err-put_new-in-None.was r.ensures.1 is));
    }
