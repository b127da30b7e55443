use Rattle.std.proofs.Common.{◌∙◌, subst, arith}
use Rattle.std.specs.Prelude.{◌==◌, ◌||◌}
use Rattle.ix_match.specs.Few.{Lists}
use Rattle.ix_match.proofs.FewLemmas.{passed}
use Rattle.ix_match.proofs.few.passed_over.Goals as goal

pub returns-in-One : goal.returns-in-One
returns-in-One c =
    c.unwrap_or.ensures
    ∙ passed c.args.set.now (λ x. x == c.in-One.a) c.args.bytes.now c.memchr.result
    (subst (λ f. Lists f c.args.set.now) c.in-One.is c.requires)
    (λ k. omega (arith, c.type_inv.bytes k)) c.memchr.ensures

pub returns-in-Two : goal.returns-in-Two
returns-in-Two c =
    c.unwrap_or-in-Two.ensures
    ∙ passed c.args.set.now (λ x. x == c.in-Two.a || x == c.in-Two.b) c.args.bytes.now c.memchr2.result
    (subst (λ f. Lists f c.args.set.now) c.in-Two.is c.requires) (λ k. omega (arith, c.type_inv.bytes k)) c.memchr2.ensures

pub returns-in-Three : goal.returns-in-Three
returns-in-Three c =
    c.unwrap_or-in-Three.ensures
    ∙ passed c.args.set.now (λ x. x == c.in-Three.a || x == c.in-Three.b || x == c.in-Three.c) c.args.bytes.now c.memchr3.result
    (subst (λ f. Lists f c.args.set.now) c.in-Three.is c.requires) (λ k. omega (arith, c.type_inv.bytes k)) c.memchr3.ensures
