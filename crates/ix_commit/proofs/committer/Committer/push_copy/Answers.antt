use Rattle.std.proofs.Common.{refl}
use Rattle.ix_commit.proofs.Cutting.{grew_as, grew_copies}
use Rattle.ix_commit.proofs.Steps.{stages_copy}
use Rattle.ix_commit.proofs.committer.Committer.push_copy.Goals as goal

pub returns-in_err-push-clause-grew : goal.returns-in_err-push-clause-grew
returns-in_err-push-clause-grew c = grew_as _ _ (record { root = refl; log = refl; number = refl; first = refl; closed = refl }) refl refl
    c.in_err-push.ensures.err refl

pub returns-clause-staged : goal.returns-clause-staged
returns-clause-staged c = λ old new stages fit. stages_copy c.args.self.now _ old new c.args.copied fit refl c.in_ok-push.ensures.ok refl
    stages

pub returns-clause-grew : goal.returns-clause-grew
returns-clause-grew c = grew_copies _ _ _ (record { root = refl; log = refl; number = refl; first = refl; closed = refl }) refl refl
    c.in_ok-push.ensures.ok refl
