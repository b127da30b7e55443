use Rattle.std.proofs.Common.{◌≡◌, ◌+◌, ◌≤◌, [], ◌∷◌, ◌++◌, length, sym, subst, arith}
use Rattle.std.proofs.lemmas.Result.{IfOk-from_err, IfOk-weaker}
use Rattle.ix_pikevm.specs.Code.{Spans}
use Rattle.ix_pikevm.specs.Ran.{Grown}
use Rattle.ix_pikevm.specs.Replays.{replay_one}
use Rattle.ix_pikevm.specs.Tidied.{Groups, ComesTo, over}
use Rattle.ix_pikevm.specs.declared.cells.Event.TheVariants.{Began, Ended}
use Rattle.ix_pikevm.proofs.RunLemmas.{grown-none, grown-both}
use Rattle.ix_pikevm.proofs.TidyLemmas.{comes-left, comes-group}
use Rattle.ix_pikevm.proofs.tidy.add_group.Goals as goal

pub returns-in-None : goal.returns-in-None
returns-in-None c = record {
  trail = λ groups at is.
      subst (λ g. ComesTo c.args.cells.now.items c.args.earlier (λ before. record { began = []; groups = over before (groups ++ g ∷ []) }))
      (sym c.in-None.is)
      (comes-left c.args.cells.now.items c.args.earlier groups is);
  grown = grown-none c.args.cells.now.items;
  short = omega arith;
}

pub returns-in_err-began-in-Some : goal.returns-in_err-began-in-Some
returns-in_err-began-in-Some c = record {
  trail = IfOk-from_err c.from_residual.result _ c.from_residual.ensures.0;
  grown = IfOk-from_err c.from_residual.result _ c.from_residual.ensures.0;
  short = IfOk-from_err c.from_residual.result _ c.from_residual.ensures.0;
}

pub returns-in_ok-began-in-Some : goal.returns-in_ok-began-in-Some
returns-in_ok-began-in-Some c = record {
  trail = IfOk-weaker c.add-in-Some.result
      (λ t. (spans : Groups → Spans) → ComesTo c.add.new.cells.items c.in_ok-began-in-Some.began spans →
      ComesTo c.add-in-Some.new.cells.items t (λ before. replay_one (Ended c.args.number c.in-Some.place) (spans before)))
      (λ t. (groups : Groups) → c.args.number ≡ length groups + 1 →
      ComesTo c.args.cells.now.items c.args.earlier (λ before. record { began = []; groups = over before groups }) →
      ComesTo c.add-in-Some.new.cells.items t (λ before. record { began = []; groups = over before (groups ++ c.args.group ∷ []) }))
      (λ t ended groups at is.
      subst (λ g. ComesTo c.add-in-Some.new.cells.items t (λ before. record { began = []; groups = over before (groups ++ g ∷ []) }))
      (sym c.in-Some.is)
      (comes-group c.add-in-Some.new.cells.items t c.args.number c.in-Some.from c.in-Some.place groups at
      (ended (λ before. replay_one (Began c.in-Some.from) (record { began = []; groups = over before groups }))
      (c.in_ok-began-in-Some.ensures.trail (λ before. record { began = []; groups = over before groups }) is))))
      c.add-in-Some.ensures.trail;
  grown = IfOk-weaker c.add-in-Some.result (λ _. Grown c.add.new.cells.items c.add-in-Some.new.cells.items)
      (λ _. Grown c.args.cells.now.items c.add-in-Some.new.cells.items) (λ _ more. grown-both c.in_ok-began-in-Some.ensures.grown more)
      c.add-in-Some.ensures.grown;
  short = IfOk-weaker c.add-in-Some.result (λ _. length c.add-in-Some.new.cells.items ≡ length c.add.new.cells.items + 1)
      (λ _. length c.add-in-Some.new.cells.items ≤ length c.args.cells.now.items + 2)
      (λ _ one. omega (arith, one, c.in_ok-began-in-Some.ensures.short)) c.add-in-Some.ensures.short;
}
