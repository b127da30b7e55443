use Rattle.std.proofs.Common.{[], ◌++◌, drop, ◌∙◌, ap}
use Rattle.std.specs.Prelude.{slice_range}
use Rattle.std.proofs.lemmas.List.{take_rest}
use Rattle.ix_transforms.specs.Writing.{written}
use Rattle.ix_transforms.specs.Seds.{raw_limit, cut}
use Rattle.ix_transforms.proofs.TextLemmas.{cut-on}
use Rattle.ix_transforms.proofs.substitution.Substitution.replace_one.Goals as goal

pub returns : goal.returns
returns c =
    let text = c.args.self.now.text.now in
    let found = c.args.found.now in
    let front = slice_range text 0 found.start ++ written c.args.self.now.parts.now [] text found.groups in
    c.in_ok-add_within.ensures.added
    ∙ ap (λ rest. cut (c.add.new.out ++ rest)) (take_rest text found.end)
    ∙ cut-on raw_limit c.new-out.result front (drop found.end text) c.add.new.out c.in_ok-add.ensures.added
    ∙ ap (λ out. cut (out ++ (front ++ drop found.end text))) c.new-out.ensures
