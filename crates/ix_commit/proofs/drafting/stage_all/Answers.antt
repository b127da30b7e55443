use Rattle.std.proofs.Common.{sym, subst, List}
use Rattle.ix_items.specs.declared.items.Item.{Item}
use Rattle.ix_manifest.specs.Book.{replay}
use Rattle.ix_commit.specs.Snapshot.{Stages}
use Rattle.ix_commit.specs.Drafts.{AreFit, AreFitCopies, with_pieces, with_copies}
use Rattle.ix_commit.specs.declared.file_copy.FileCopy.{FileCopy}
use Rattle.ix_commit.specs.declared.write_batch.Append.{Append}
use Rattle.ix_commit.proofs.Cutting.{grew_on}
use Rattle.ix_commit.proofs.Steps.{stages_less}
use Rattle.ix_commit.proofs.drafting.stage_all.Goals as goal

pub returns-in_err-stage_copies-clause-grew : goal.returns-in_err-stage_copies-clause-grew
returns-in_err-stage_copies-clause-grew c = grew_on c.args.committer.now c.stage_pieces.new.committer c.stage_copies.new.committer
    c.stage_pieces.ensures.grew c.stage_copies.ensures.grew

pub returns-in_err-stage_items-clause-grew : goal.returns-in_err-stage_items-clause-grew
returns-in_err-stage_items-clause-grew c =
    grew_on c.args.committer.now c.stage_pieces.new.committer c.stage_items.new.committer c.stage_pieces.ensures.grew
    (grew_on c.stage_pieces.new.committer c.stage_copies.new.committer c.stage_items.new.committer c.stage_copies.ensures.grew
    c.stage_items.ensures.grew)

pub returns-clause-grew : goal.returns-clause-grew
returns-clause-grew c =
    grew_on c.args.committer.now c.stage_pieces.new.committer c.stage_items.new.committer c.stage_pieces.ensures.grew
    (grew_on c.stage_pieces.new.committer c.stage_copies.new.committer c.stage_items.new.committer c.stage_copies.ensures.grew
    c.stage_items.ensures.grew)

pub returns-clause-staged : goal.returns-clause-staged
returns-clause-staged c = λ old new to stages leads.
    let draft = c.args.draft in
    let pieced = with_pieces draft.pieces new.contents in
    let copied = with_copies draft.copies pieced in
    let one : Stages c.stage_pieces.new.committer old (record { book = new.book; contents = pieced }) =
    subst (λ (ps : List Append). Stages c.stage_pieces.new.committer old
    (record { book = new.book; contents = with_pieces ps new.contents }))
    c.as_slice.ensures
    (c.in_ok-stage_pieces.ensures.staged old new stages (subst (AreFit new.contents) (sym c.as_slice.ensures) leads.pieces)) in
    let two : Stages c.stage_copies.new.committer old (record { book = new.book; contents = copied }) =
    subst (λ (xs : List FileCopy). Stages c.stage_copies.new.committer old (record { book = new.book; contents = with_copies xs pieced }))
    c.as_slice-2.ensures
    (c.in_ok-stage_copies.ensures.staged old (record { book = new.book; contents = pieced }) one
    (subst (AreFitCopies old.contents pieced) (sym c.as_slice-2.ensures) leads.copies)) in
    let three : Stages c.stage_items.new.committer old (record { book = replay draft.items new.book; contents = copied }) =
    subst (λ (xs : List Item). Stages c.stage_items.new.committer old (record { book = replay xs new.book; contents = copied }))
    c.into_vec.ensures
    (c.in_ok-stage_items.ensures.staged old (record { book = new.book; contents = copied }) two) in
    stages_less c.stage_items.new.committer old (record { book = replay draft.items new.book; contents = copied }) to three leads.items
    leads.contents
