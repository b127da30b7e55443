use Rattle.std.proofs.Common.{take, sym, subst, refl, ◌∙◌}
use Rattle.ix_base.specs.declared.files.Area.TheVariants.{Meta}
use Rattle.ix_commit.specs.Contents.{Contents}
use Rattle.ix_commit.specs.Snapshot.{Stages}
use Rattle.ix_commit.specs.Drafts.{with_copies}
use Rattle.ix_commit.specs.declared.file_copy.FileCopy.{FileCopy}
use Rattle.ix_commit.specs.declared.file_copy.CopyTarget.TheVariants.{Cold}
use Rattle.ix_commit.proofs.Cutting.{grew_self, grew_on}
use Rattle.ix_commit.proofs.Steps.{with_copies_more, fit_copy_at}
use Rattle.ix_commit.proofs.drafting.stage_copies.Goals as goal

abbrev none : FileCopy
none = record { from = record { area = Meta; number = 0 }; place = Cold; number = 0; len = 0 }

pub loop-copied-init : goal.loop-copied-init
loop-copied-init c = record { staged = λ old new stages fit. stages; grew = grew_self c.args.committer.now; size = refl }

pub returns-in_err-push_copy-clause-grew : goal.returns-in_err-push_copy-clause-grew
returns-in_err-push_copy-clause-grew c = grew_on c.args.committer.now c.loop-copied.committer c.push_copy.new.self
    c.loop-copied.invariant.grew
    c.push_copy.ensures.grew

pub loop-copied-preserved : goal.loop-copied-preserved
loop-copied-preserved c =
    let xs = c.args.copies.now in
    let i = c.loop-copied.copied-index in
    let inv = c.loop-copied.invariant in
    record {
      staged = λ old new stages fit.
          let before = with_copies (take i xs) new.contents in
          let is = fit_copy_at old.contents new.contents xs i none c.loop-copied-test.true fit in
          let step = c.in_ok-push_copy.ensures.staged old (record { book = new.book; contents = before }) (inv.staged old new stages fit) is
          in
          subst (λ (s : Contents). Stages c.push_copy.new.self old (record { book = new.book; contents = s }))
          (sym (with_copies_more xs i none new.contents c.loop-copied-test.true)) step;
      grew = grew_on c.args.committer.now c.loop-copied.committer c.push_copy.new.self inv.grew c.push_copy.ensures.grew;
      size = c.push_copy.ensures.size ∙ inv.size;
    }
