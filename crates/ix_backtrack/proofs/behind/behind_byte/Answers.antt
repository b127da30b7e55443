use Rattle.std.proofs.Common.{get_or, sym, ◌∙◌, arith}
use Rattle.std.proofs.lemmas.Option.{slice_get-get_or}
use Rattle.ix_pikevm.specs.Code.{history, set_in, sets_of}
use Rattle.ix_pikevm.specs.Leaf.{text_of}
use Rattle.ix_backtrack.proofs.FrameLemmas.{byte-here}
use Rattle.ix_backtrack.proofs.behind.behind_byte.Goals as goal

pub returns-clause-ways : goal.returns-clause-ways
returns-clause-ways g c =
    λ mean blank cells. byte-here (mean c.args.next (history cells c.args.frame.trail)) (set_in (sets_of c.args.p.now.rows) c.args.set)
    (text_of c.args.input) c.args.frame.place (get_or c.args.input.bytes.now c.args.frame.place 0) _
    (slice_get-get_or c.args.input.bytes.now c.args.frame.place 0 (omega arith)) (sym c.if-not-takes.false ∙ c.takes.ensures)

pub returns-then-not-takes : goal.returns-then-not-takes
returns-then-not-takes g c = record {
  ways =
      λ mean blank cells. byte-here (mean c.args.next (history cells c.args.frame.trail)) (set_in (sets_of c.args.p.now.rows) c.args.set)
      (text_of c.args.input) c.args.frame.place (get_or c.args.input.bytes.now c.args.frame.place 0) _
      (slice_get-get_or c.args.input.bytes.now c.args.frame.place 0 (omega arith)) (sym c.if-not-takes.true ∙ c.takes.ensures);
  known = λ n count next frame. tt;
}
