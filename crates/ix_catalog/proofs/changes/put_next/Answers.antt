use Rattle.std.proofs.Common.{◌≡◌, ◌<◌, ◌≤◌, ℕ, Bool, true, false, sym, ◌∙◌, arith}
use Rattle.std.proofs.lemmas.Result.{IfOk-from_err}
use Rattle.ix_catalog.proofs.Merging.{kept_put, changed_put, both_long, first_some, gone_put, made_put}
use Rattle.ix_catalog.proofs.changes.put_next.Goals as goal

one : 0 < 1
one = omega arith

two : 0 < 2
two = omega arith

no_more : (n : ℕ) → 0 ≤ n
no_more n = omega arith

both : {b : Bool} → b ≡ true → b ≡ false → ⊥
both t f = cc

pub returns-then-comes_first : goal.returns-then-comes_first
returns-then-comes_first c =
    let first = sym c.comes_first.ensures ∙ c.if-comes_first.true in
    record {
      put = gone_put _ _ _ _ _ _ first c.in_ok-put_gone.ensures.put c.in_ok-put_gone.ensures.proper;
      old_taken = first_some c.args.old.now c.args.new.now first;
      new_taken = no_more _;
      some_taken = one;
    }

pub returns-then-comes_first-2 : goal.returns-then-comes_first-2
returns-then-comes_first-2 c =
    let first = sym c.comes_first-2.ensures ∙ c.if-comes_first-2.true in
    record {
      put = made_put _ _ _ _ _ _ first c.in_ok-put_standing.ensures.put c.in_ok-put_standing.ensures.proper;
      old_taken = no_more _;
      new_taken = first_some c.args.new.now c.args.old.now first;
      some_taken = one;
    }

pub returns-in_ok-put_standing-2 : goal.returns-in_ok-put_standing-2
returns-in_ok-put_standing-2 c =
    let here = sym c.comes_first.ensures ∙ c.if-comes_first.false in
    let there = sym c.comes_first-2.ensures ∙ c.if-comes_first-2.false in
    let long = both_long c.args.old.now c.args.new.now c.requires.some here there in
    record {
      put = changed_put _ _ _ _ _ _ _ _ c.requires.some here there (λ same. both (c.is_same.ensures.1 same) c.if-not-is_same.true)
          c.in_ok-put_standing-2.ensures.put c.in_ok-put_standing-2.ensures.proper;
      old_taken = long.0;
      new_taken = long.1;
      some_taken = two;
    }

pub returns-else-not-is_same : goal.returns-else-not-is_same
returns-else-not-is_same c =
    let here = sym c.comes_first.ensures ∙ c.if-comes_first.false in
    let there = sym c.comes_first-2.ensures ∙ c.if-comes_first-2.false in
    let long = both_long c.args.old.now c.args.new.now c.requires.some here there in
    record {
      put = kept_put _ _ _ _ _ _ c.requires.some here there (c.is_same.ensures.0 c.if-not-is_same.false);
      old_taken = long.0;
      new_taken = long.1;
      some_taken = two;
    }

pub returns-in_err-put_gone : goal.returns-in_err-put_gone
returns-in_err-put_gone c = record {
  put = IfOk-from_err _ _ c.from_residual.ensures.0;
  old_taken = IfOk-from_err _ _ c.from_residual.ensures.0;
  new_taken = IfOk-from_err _ _ c.from_residual.ensures.0;
  some_taken = IfOk-from_err _ _ c.from_residual.ensures.0;
}

pub returns-in_err-put_standing : goal.returns-in_err-put_standing
returns-in_err-put_standing c = record {
  put = IfOk-from_err _ _ c.from_residual-in_err-put_standing.ensures.0;
  old_taken = IfOk-from_err _ _ c.from_residual-in_err-put_standing.ensures.0;
  new_taken = IfOk-from_err _ _ c.from_residual-in_err-put_standing.ensures.0;
  some_taken = IfOk-from_err _ _ c.from_residual-in_err-put_standing.ensures.0;
}

pub returns-in_err-put_standing-2 : goal.returns-in_err-put_standing-2
returns-in_err-put_standing-2 c = record {
  put = IfOk-from_err _ _ c.from_residual-in_err-put_standing-2.ensures.0;
  old_taken = IfOk-from_err _ _ c.from_residual-in_err-put_standing-2.ensures.0;
  new_taken = IfOk-from_err _ _ c.from_residual-in_err-put_standing-2.ensures.0;
  some_taken = IfOk-from_err _ _ c.from_residual-in_err-put_standing-2.ensures.0;
}
