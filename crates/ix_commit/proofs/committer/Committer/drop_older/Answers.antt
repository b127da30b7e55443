use Rattle.std.proofs.Common.{List, refl, subst, sym}
use Rattle.ix_manifest.specs.Slots.{items_of, AreOnce}
use Rattle.ix_manifest.specs.declared.staged_item.StagedItem.{StagedItem}
use Rattle.ix_commit.proofs.Cutting.{fits_slots, cut_slots_back}
use Rattle.ix_commit.proofs.Steps.{stages_slots}
use Rattle.ix_commit.proofs.committer.Committer.drop_older.Goals as goal

pub drop_older-self-requires-clause-from : goal.drop_older-self-requires-clause-from
drop_older-self-requires-clause-from c = fits_slots c.args.mark.now c.requires.0 c.args.self.now c.requires.1 c.requires.2

pub returns-clause-staged : goal.returns-clause-staged
returns-clause-staged c = λ old new stages. stages_slots c.args.self.now _ old new refl refl c.drop_older-self.ensures.book
    c.drop_older-self.ensures.proper stages

pub returns-clause-once : goal.returns-clause-once
returns-clause-once c = λ committer is grew once. c.drop_older-self.ensures.once
    (subst (λ (l : List StagedItem). AreOnce (items_of l)) (sym (cut_slots_back c.args.mark.now committer c.args.self.now is grew)) once)
