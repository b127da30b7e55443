use Rattle.std.proofs.Common.{◌≡◌, true, false, subst, arith}
use Rattle.std.specs.Prelude.{IfSome}
use Rattle.ix_match.specs.Searches.{IsKept}
use Rattle.ix_match.proofs.scan.forget.Goals as goal

pub returns-in-Some : goal.returns-in-Some
returns-in-Some c = λ rows before bytes k.
    c.stand.ensures rows before bytes (λ yes. absurd (let e : false ≡ true = yes in grind (arith, e)))
    (subst (λ o. IfSome o (λ old. IsKept rows old.search)) c.in-Some.is k)
