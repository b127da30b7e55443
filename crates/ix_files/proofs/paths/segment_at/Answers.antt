use Rattle.std.proofs.Common.{◌≡◌, ◌-◌, ℕ, suc, false, drop, sym, ◌∙◌, subst, arith}
use Rattle.ix_files.specs.Paths.{has_slash}
use Rattle.ix_files.proofs.Segments.{none_behind, behind_slash}
use Rattle.ix_files.proofs.paths.segment_at.Goals as goal

pub returns-else-path-at-ne47-clause-at : goal.returns-else-path-at-ne47-clause-at
returns-else-path-at-ne47-clause-at c =
    let k : ℕ = c.loop-at.at - 1 in
    let is : suc k ≡ c.loop-at.at = omega (arith, c.loop-at-test.true) in
    sym (behind_slash c.args.path.now k (omega (arith, c.loop-at-test.true, c.loop-at.invariant.within)) c.if-path-at-ne47.false
    (subst (λ (n : ℕ). has_slash (drop n c.args.path.now) ≡ false) (sym is) c.loop-at.invariant.rest) ∙ is)

pub returns-after-loop-at-clause-at : goal.returns-after-loop-at-clause-at
returns-after-loop-at-clause-at c =
    let none : c.loop-at.at ≡ 0 = omega (arith, c.loop-at-test.false) in
    none ∙ sym (none_behind c.args.path.now (subst (λ (n : ℕ). has_slash (drop n c.args.path.now) ≡ false) none c.loop-at.invariant.rest))
