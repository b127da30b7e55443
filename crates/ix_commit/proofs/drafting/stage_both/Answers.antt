use Rattle.std.proofs.Common.{List, subst, sym, ◌∙◌}
use Rattle.ix_manifest.specs.Slots.{items_of, AreOnce}
use Rattle.ix_manifest.specs.declared.staged_item.StagedItem.{StagedItem}
use Rattle.ix_commit.proofs.Failing.{no_failure}
use Rattle.ix_commit.proofs.drafting.stage_both.Goals as goal

pub returns-in-Ok-clause-staged : goal.returns-in-Ok-clause-staged
returns-in-Ok-clause-staged c = λ old new mid to stages first second.
    c.drop_older.ensures.staged old to (c.in-Ok.ensures.staged old new mid to stages first second)

pub returns-in-Ok-clause-root : goal.returns-in-Ok-clause-root
returns-in-Ok-clause-root c = c.drop_older.ensures.logs.root ∙ c.stage_pair.ensures.grew.logs.root

pub returns-in-Ok-clause-log : goal.returns-in-Ok-clause-log
returns-in-Ok-clause-log c = c.drop_older.ensures.logs.log ∙ c.stage_pair.ensures.grew.logs.log

pub returns-in-Ok-clause-number : goal.returns-in-Ok-clause-number
returns-in-Ok-clause-number c = c.drop_older.ensures.logs.number ∙ c.stage_pair.ensures.grew.logs.number

pub returns-in-Ok-clause-first : goal.returns-in-Ok-clause-first
returns-in-Ok-clause-first c = c.drop_older.ensures.logs.first ∙ c.stage_pair.ensures.grew.logs.first

pub returns-in-Ok-clause-closed : goal.returns-in-Ok-clause-closed
returns-in-Ok-clause-closed c = c.drop_older.ensures.logs.closed ∙ c.stage_pair.ensures.grew.logs.closed

pub returns-in-Ok-clause-bytes : goal.returns-in-Ok-clause-bytes
returns-in-Ok-clause-bytes c = c.drop_older.ensures.bytes ∙ c.stage_pair.ensures.grew.bytes

pub returns-in-Ok-clause-once : goal.returns-in-Ok-clause-once
returns-in-Ok-clause-once c = c.drop_older.ensures.once c.args.committer.now c.in_ok-before.ensures c.stage_pair.ensures.grew

pub returns-in-Ok-clause-full : goal.returns-in-Ok-clause-full
returns-in-Ok-clause-full c = λ is. absurd (no_failure _ _ is)

pub returns-clause-err : goal.returns-clause-err
returns-clause-err c = c.restore.ensures c.args.committer.now c.in_ok-before.ensures c.stage_pair.ensures.grew

pub returns-clause-root : goal.returns-clause-root
returns-clause-root c = (c.restore.ensures c.args.committer.now c.in_ok-before.ensures c.stage_pair.ensures.grew).logs.root

pub returns-clause-log : goal.returns-clause-log
returns-clause-log c = (c.restore.ensures c.args.committer.now c.in_ok-before.ensures c.stage_pair.ensures.grew).logs.log

pub returns-clause-number : goal.returns-clause-number
returns-clause-number c = (c.restore.ensures c.args.committer.now c.in_ok-before.ensures c.stage_pair.ensures.grew).logs.number

pub returns-clause-first : goal.returns-clause-first
returns-clause-first c = (c.restore.ensures c.args.committer.now c.in_ok-before.ensures c.stage_pair.ensures.grew).logs.first

pub returns-clause-closed : goal.returns-clause-closed
returns-clause-closed c = (c.restore.ensures c.args.committer.now c.in_ok-before.ensures c.stage_pair.ensures.grew).logs.closed

pub returns-clause-bytes : goal.returns-clause-bytes
returns-clause-bytes c = (c.restore.ensures c.args.committer.now c.in_ok-before.ensures c.stage_pair.ensures.grew).bytes

pub returns-clause-once : goal.returns-clause-once
returns-clause-once c = λ once. subst (λ (s : List StagedItem). AreOnce (items_of s))
    (sym (c.restore.ensures c.args.committer.now c.in_ok-before.ensures c.stage_pair.ensures.grew).slots) once
