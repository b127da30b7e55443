use Rattle.std.proofs.Common.{◌≡◌, Bool, true, false, sym, ◌∙◌}
use Rattle.ix_state.proofs.CheckLemmas.{stand_well, stands_test}
use Rattle.ix_state.proofs.files.stand_well.Goals as goal

true_false : (b : Bool) → b ≡ true → b ≡ false → ⊥
true_false true e f = cc
true_false false e f = cc

pub returns-then-stands_well : goal.returns-then-stands_well
returns-then-stands_well c = record {
  ok = stand_well c.args.kept.now (sym c.stands_well.ensures ∙ c.if-stands_well.true);
  unsound = λ e. cc;
}

pub returns-else-stands_well : goal.returns-else-stands_well
returns-else-stands_well c = record {
  ok = tt;
  unsound = λ e well. true_false _ (c.stands_well.ensures ∙ stands_test c.args.kept.now well) c.if-stands_well.false;
}
