use Rattle.std.proofs.Common.{subst}
use Rattle.std.specs.Prelude.{IfSome}
use Rattle.ix_match.specs.Searches.{IsKept, KeepsFor}
use Rattle.ix_match.proofs.scan.go_on_with.Goals as goal

pub go_on-requires : goal.go_on-requires
go_on-requires g c =
    let rows = c.args.p.now.rows in
    c.stand.ensures rows c.args.input.before c.args.input.bytes.now
    (λ yes. subst (λ o. IfSome o (λ k. KeepsFor rows k c.args.input.before c.args.input.bytes.now)) c.in-Some.is (c.requires.goes_on yes))
    (subst (λ o. IfSome o (λ k. IsKept rows k.search)) c.in-Some.is c.requires.kept)

pub go_on-requires-in-None : goal.go_on-requires-in-None
go_on-requires-in-None g c = c.in_ok-made-in-None.ensures.kept c.args.input.before c.args.input.bytes.now
