use Rattle.std.proofs.Common.{rules, ◌≡◌, ◌++◌, take, subst, sym, List, ℕ}
use Rattle.indexd_settings.specs.Layers.{IsBegun}
use Rattle.indexd_settings.proofs.LayerLemmas.{begun_further}
use Rattle.indexd_settings.proofs.layers.read_piece.Goals as goal

pub returns-clause-begun : goal.returns-clause-begun
returns-clause-begun g c = λ begun.
    let files = g.T.Tree.files c.args.tree.now in
    let P : List ℕ → Type 0 = λ t. IsBegun files c.args.path.now t in
    let more : c.extend.new.self ≡ c.args.text.now ++ take c.in_ok-n.n c.read.new.buf = search rules in
    subst P (sym more) (begun_further files c.args.path.now c.args.text.now c.read.new.buf c.in_ok-n.n (search rules) (search rules) begun)
