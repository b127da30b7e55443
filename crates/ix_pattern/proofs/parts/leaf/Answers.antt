use Rattle.std.proofs.Common.{refl, ◌∙◌, ap, sym, false}
use Rattle.ix_pattern.specs.declared.pattern.Node.TheVariants as node
use Rattle.ix_pattern.proofs.PartLemmas.{leaf-made, leaf_row}
use Rattle.ix_pattern.proofs.parts.leaf.Goals as goal
use Rattle.ix_pattern.proofs.parts.leaf.Goals.{in-Bytes, in-Start, in-Finish, in-Word}

pub returns : goal.returns
returns c =
    leaf-made _ _ _ _ _
    (elim c.match-leaf.branch [
      | in-Bytes w ↦ w.node-is ∙ ap leaf_row (sym w.in-Bytes.is)
      | in-Start w ↦ w.node-is ∙ ap (λ s. (node.Start w.in-Start.lines, s, false)) w.none.ensures ∙ ap leaf_row (sym w.in-Start.is)
      | in-Finish w ↦ w.node-is ∙ ap (λ s. (node.Finish w.in-Finish.lines, s, false)) w.none-in-Finish.ensures
          ∙ ap leaf_row (sym w.in-Finish.is)
      | in-Word w ↦ w.node-is ∙ ap (λ s. (node.Word, s, false)) w.none-in-Word.ensures ∙ ap leaf_row (sym w.in-Word.is)
    ])
    c.in_ok-piece.ensures.grew c.in_ok-piece.ensures.number.1 c.in_ok-piece.ensures.made refl refl refl
