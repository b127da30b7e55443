use Rattle.std.proofs.Common.{◌++◌, List, ℕ, Option, Some, take, sym, ap, ◌∙◌}
use Rattle.ix_disk.specs.Image.{content}
use Rattle.ix_disk.specs.Contents.{with_rest, ones_in}
use Rattle.ix_disk.proofs.Halves.{marked}
use Rattle.ix_disk.proofs.held.Held.mark_rest.Goals as goal

pub returns-in-Some-clause-torn : goal.returns-in-Some-clause-torn
returns-in-Some-clause-torn c =
    let held = c.args.self.now in
    ap (λ (l : List ℕ). Some (take held.same (content held.bytes) ++ l)) c.fill.ensures
    ∙ marked held.bytes held.same c.args.at c.args.count c.in-Some.rest held.within c.requires
    ∙ ap (λ (r : Option (List ℕ)). ones_in c.args.at c.args.count (with_rest held.bytes held.same r)) (sym c.in-Some.is)
