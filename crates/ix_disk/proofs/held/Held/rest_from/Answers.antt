use Rattle.std.proofs.Common.{◌-◌, ◌++◌, List, ℕ, Option, Some, take, drop, sym, ap, ◌∙◌}
use Rattle.ix_disk.specs.Image.{content}
use Rattle.ix_disk.specs.Contents.{with_rest}
use Rattle.ix_disk.proofs.Halves.{parted}
use Rattle.ix_disk.proofs.held.Held.rest_from.Goals as goal

pub returns : goal.returns
returns c =
    let held = c.args.self.now in
    let at = c.args.at in
    ap (λ (l : List ℕ). Some (take at (content held.bytes) ++ l))
    (c.in_ok-whole.ensures
    ∙ ap (λ (xs : List ℕ). take (held.same - at) (drop at xs) ++ c.as_slice.result.now) c.lend.ensures
    ∙ ap (λ (rest : List ℕ). take (held.same - at) (drop at (content held.bytes)) ++ rest) c.as_slice.ensures)
    ∙ parted held.bytes at held.same c.in-Some.rest c.requires
    ∙ ap (λ (r : Option (List ℕ)). with_rest held.bytes held.same r) (sym c.in-Some.is)
