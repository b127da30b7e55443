use Rattle.std.proofs.Common.{[], ◌++◌, length, take, ◌∙◌, ap, arith}
use Rattle.std.specs.Prelude.{slice_range}
use Rattle.ix_transforms.specs.Writing.{written}
use Rattle.ix_transforms.specs.Seds.{raw_limit}
use Rattle.ix_transforms.proofs.TextLemmas.{cut-on}
use Rattle.ix_transforms.proofs.ReplaceLemmas.{all-wider}
use Rattle.ix_transforms.proofs.substitution.Substitution.add.Goals as goal

pub add_parts-requires-clause-spans : goal.add_parts-requires-clause-spans
add_parts-requires-clause-spans c =
    let text = c.args.self.now.text.now in
    let found = c.args.found.now in
    rw c.as_slice.ensures (all-wider found.start found.end 0 (length text) found.groups (omega arith) c.requires.lies.within
    c.requires.lies.spans)

pub returns : goal.returns
returns c =
    let parts = c.args.self.now.parts.now in
    let text = c.args.self.now.text.now in
    let found = c.args.found.now in
    record {
      room = c.in_ok-add_parts.ensures.room;
      added = c.in_ok-add_parts.ensures.added
          ∙ ap (λ spans. take raw_limit (c.add_within.new.out ++ written parts [] text spans)) c.as_slice.ensures
          ∙ cut-on raw_limit c.args.out.now (slice_range text c.args.from found.start) (written parts [] text found.groups)
          c.add_within.new.out c.in_ok-add_within.ensures.added;
    }
