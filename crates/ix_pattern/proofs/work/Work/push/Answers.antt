use Rattle.std.proofs.Common.{arith}
use Rattle.std.proofs.lemmas.Grind.{common_steps}
use Rattle.ix_pattern.proofs.RowsLemmas.{work-inside, work-made, work-grew}
use Rattle.ix_pattern.proofs.work.Work.push.Goals as goal

pub invariant_of-self-2 : goal.invariant_of-self-2
invariant_of-self-2 c = work-inside _ _ _ _ _ c.self.view_is c.self.invariant c.requires c.in_ok-push.ensures.items

pub returns-clause-made : goal.returns-clause-made
returns-clause-made c = work-made _ _ _ _ _ _ c.self.view_is (grind (arith, common_steps)) c.in_ok-push.ensures.items

pub returns-clause-grew : goal.returns-clause-grew
returns-clause-grew c = work-grew _ _ _ _ _ c.self.view_is c.in_ok-push.ensures.items
