use Rattle.ix_commit.proofs.Cutting.{grew_on}
use Rattle.ix_commit.proofs.drafting.stage_pair.Goals as goal

pub returns-in_err-stage_all-2-clause-grew : goal.returns-in_err-stage_all-2-clause-grew
returns-in_err-stage_all-2-clause-grew c = grew_on c.args.committer.now c.stage_all.new.committer c.stage_all-2.new.committer
    c.stage_all.ensures.grew c.stage_all-2.ensures.grew

pub returns-clause-grew : goal.returns-clause-grew
returns-clause-grew c = grew_on c.args.committer.now c.stage_all.new.committer c.stage_all-2.new.committer c.stage_all.ensures.grew
    c.stage_all-2.ensures.grew

pub returns-clause-staged : goal.returns-clause-staged
returns-clause-staged c = λ old new mid to stages first second.
    c.in_ok-stage_all-2.ensures.staged old mid to (c.in_ok-stage_all.ensures.staged old new mid stages first) second
