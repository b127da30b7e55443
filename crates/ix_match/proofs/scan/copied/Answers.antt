use Rattle.std.proofs.Common.{subst}
use Rattle.std.specs.Prelude.{IfSome}
use Rattle.ix_pikevm.specs.Finders.{HasRoom}
use Rattle.ix_match.specs.Searches.{KeepsFor}
use Rattle.ix_match.proofs.scan.copied.Goals as goal

pub copy-requires : goal.copy-requires
copy-requires c = subst (λ o. IfSome o (λ k. HasRoom k.search.finder k.search.room)) c.in-Some.is c.requires

pub returns-in_ok-copy-in-Some-clause-kept : goal.returns-in_ok-copy-in-Some-clause-kept
returns-in_ok-copy-in-Some-clause-kept c = λ rows before bytes k.
    c.in_ok-copy-in-Some.ensures rows before bytes (subst (λ o. IfSome o (λ old. KeepsFor rows old before bytes)) c.in-Some.is k)
