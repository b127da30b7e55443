use Rattle.std.proofs.Common.{rules, ◌≡◌, ◌+◌, ◌*◌, ◌≤◌, le_of_eq, [], length, sym, ap, subst, arith, take}
use lib.Seq.{take_all}
use Rattle.std.proofs.lemmas.Result.{IfOk-from_err}
use Rattle.ix_pikevm.specs.Tidied.{ComesTo, over}
use Rattle.ix_pikevm.proofs.RunLemmas.{grown-none, grown-both}
use Rattle.ix_pikevm.proofs.TidyLemmas.{comes-nothing, take-next}
use Rattle.ix_pikevm.proofs.tidy.add_groups.Goals as goal

pub loop-at-init : goal.loop-at-init
loop-at-init c = record { trail = comes-nothing c.args.cells.now.items; short = omega arith; grown = grown-none c.args.cells.now.items }

pub loop-at-preserved : goal.loop-at-preserved
loop-at-preserved c =
    record {
      trail = subst (λ g. ComesTo c.add_group.new.cells.items c.in_ok-trail.trail (λ before. record { began = []; groups = over before g }))
          (sym (take-next c.args.groups.now c.loop-at.at c.group_at.result c.group_at.ensures))
          (c.in_ok-trail.ensures.trail (take c.loop-at.at c.args.groups.now)
          (let l : length (take c.loop-at.at c.args.groups.now) ≡ c.loop-at.at = search rules in
          ap (λ n. n + 1) (sym l)) c.loop-at.invariant.trail);
      short = omega (arith, c.loop-at.invariant.short, c.in_ok-trail.ensures.short);
      grown = grown-both c.loop-at.invariant.grown c.in_ok-trail.ensures.grown;
    }

pub returns-in_err-trail : goal.returns-in_err-trail
returns-in_err-trail c = record {
  trail = IfOk-from_err c.from_residual.result _ c.from_residual.ensures.0;
  grown = IfOk-from_err c.from_residual.result _ c.from_residual.ensures.0;
  short = IfOk-from_err c.from_residual.result _ c.from_residual.ensures.0;
}

pub returns : goal.returns
returns c =
    let last : c.loop-at.at ≡ length c.args.groups.now = omega arith in
    record {
      trail = subst (λ g. ComesTo c.loop-at.cells.items c.loop-at.trail (λ before. record { began = []; groups = over before g }))
          (take_all c.loop-at.at c.args.groups.now (le_of_eq (sym last))) c.loop-at.invariant.trail;
      grown = c.loop-at.invariant.grown;
      short = subst (λ n. length c.loop-at.cells.items ≤ length c.args.cells.now.items + 2 * n) last c.loop-at.invariant.short;
    }
