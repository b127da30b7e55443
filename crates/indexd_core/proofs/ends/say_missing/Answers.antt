use Rattle.std.proofs.Common.{◌≡◌, ◌++◌, ℕ, List, ap, ◌∙◌, subst}
use Rattle.std.specs.Prelude.{codes}
use Rattle.indexd_core.specs.Prepared.{not_found_line}
use Rattle.indexd_core.specs.Sides.{side}
use Rattle.indexd_core.specs.Stored.{named_by, tail_of}
use Rattle.indexd_core.specs.Texts.{Said}
use Rattle.indexd_core.proofs.StoredLemmas.{missing_line}
use Rattle.indexd_core.proofs.ends.say_missing.Goals as goal

pub returns-clause-said : goal.returns-clause-said
returns-clause-said g c =
    let tail : c.as_bytes.result.now ≡ tail_of c.args.named.id =
    cc (c.as_bytes.ensures.value, c.as_str.ensures.value, c.tail_of-tail.ensures) in
    let whole : codes "indexd: not found: " ++ c.args.named.index.now
    ++ c.as_bytes.result.now ≡ not_found_line (named_by c.args.named.index.now c.args.named.id) =
    ap (λ (l : List ℕ). codes "indexd: not found: " ++ c.args.named.index.now ++ l) tail
    ∙ missing_line (codes "indexd: not found: ") c.args.named.index.now c.args.named.id in
    subst (λ (text : List ℕ). Said text (side (g.W.Sink.faults c.args.output.now) (g.W.Sink.given c.args.output.now))
    (side (g.W.Sink.faults c.put_three.new.output) (g.W.Sink.given c.put_three.new.output))) whole c.put_three.ensures.said
