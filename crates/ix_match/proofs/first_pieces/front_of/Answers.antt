use Rattle.std.proofs.Common.{◌≡◌, ◌-◌, length, [], sym, ◌∙◌, ap, subst, arith}
use Rattle.ix_pattern.specs.Rows.{piece_at}
use Rattle.ix_match.specs.Fronts.{passes, fronts, ArePieces}
use Rattle.ix_match.proofs.first_pieces.front_of.Goals as goal

pub returns : goal.returns
returns c =
    let root : c.root.result ≡ length c.args.p.now.rows - 1 = (let last = c.root.ensures.last in omega (arith, last)) in
    let came = c.in_ok-passes.ensures in
    record {
      pieces = subst (λ k. ArePieces c.args.p.now.rows c.add_fronts.new.pieces.items (fronts (piece_at c.args.p.now.rows k))) root
          (came.pieces [] (subst (λ l. ArePieces c.args.p.now.rows l []) (sym c.new-pieces.ensures.items) tt));
      passes_is = came.passes_is ∙ ap (λ k. passes (piece_at c.args.p.now.rows k)) root;
      anchored_is = c.is_anchored-anchored.ensures;
    }
