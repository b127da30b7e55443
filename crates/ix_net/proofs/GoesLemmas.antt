-- Laws of what calls leave of a link's standing, and of counts that rise.
use Rattle.std.proofs.Common.{◌≡◌, ℕ, ◌≤◌, true, false, refl, ◌∙◌, inl, inr, arith}
use Rattle.std.proofs.lemmas.Bool.Decides.{nat_tests}
use Rattle.ix_base.specs.Faults.{Rose}
use Rattle.ix_net.specs.Links.{Standing, IsCaused, LinkStep}
use Rattle.ix_net.specs.Listeners.{has_risen}

rose-before : (a b c : ℕ) → a ≤ b → Rose b c → Rose a c
rose-before a b c le (inl less) = inl (omega (arith, le, less))
rose-before a b c le (inr most) = inr most

rose-behind : (a b c : ℕ) → Rose a b → b ≤ c → Rose a c
rose-behind a b c (inl less) le = inl (omega (arith, le, less))
rose-behind a b c (inr most) le = inr (omega (arith, le, most))

caused-on : (a b c : Standing) → a.reading ≤ b.reading → a.writing ≤ b.writing → b.reading ≤ c.reading → b.writing ≤ c.writing →
    IsCaused a b → IsCaused b c → IsCaused a c
caused-on a b c ra wa rb wb p (inr (inl q)) = inr (inl (q.0, rose-before a.reading b.reading c.reading ra q.1))
caused-on a b c ra wa rb wb p (inr (inr q)) = inr (inr (q.0, rose-before a.writing b.writing c.writing wa q.1))
caused-on a b c ra wa rb wb (inl p) (inl q) = inl (q ∙ p)
caused-on a b c ra wa rb wb (inr (inl p)) (inl q) = inr (inl (q ∙ p.0, rose-behind a.reading b.reading c.reading p.1 rb))
caused-on a b c ra wa rb wb (inr (inr p)) (inl q) = inr (inr (q ∙ p.0, rose-behind a.writing b.writing c.writing p.1 wb))

-- no call
pub goes_nowhere : (a : Standing) → LinkStep a a
goes_nowhere a = record {
  held = refl;
  start = refl;
  lent = refl;
  reading = omega arith;
  writing = omega arith;
  side = inl refl;
}

-- one call behind another
pub goes_on : {a b c : Standing} → LinkStep a b → LinkStep b c → LinkStep a c
goes_on {a} {b} {c} p q = record {
  held = q.held ∙ p.held;
  start = q.start ∙ p.start;
  lent = q.lent ∙ p.lent;
  reading = omega (arith, p.reading, q.reading);
  writing = omega (arith, p.writing, q.writing);
  side = caused-on a b c p.reading p.writing q.reading q.writing p.side q.side;
}

pub ruleset goings = (goes_nowhere, goes_on)

-- what is told of a count is whether it rose
pub risen-rose : (before now : ℕ) → has_risen before now ≡ true → Rose before now
risen-rose before now is = grind (arith, nat_tests)

pub not_risen : (before now : ℕ) → has_risen before now ≡ false → Rose before now → ⊥
not_risen before now is (inl less) = grind (arith, nat_tests)
not_risen before now is (inr most) = grind (arith, nat_tests)
