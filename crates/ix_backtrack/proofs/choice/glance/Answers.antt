use Rattle.std.proofs.Common.{get_or, sym, ◌∙◌, arith}
use Rattle.std.proofs.lemmas.Option.{slice_get-get_or}
use Rattle.ix_pikevm.specs.declared.code.Instr.TheVariants.{Byte}
use Rattle.ix_pikevm.specs.Code.{history, set_in, sets_of}
use Rattle.ix_pikevm.specs.Leaf.{text_of}
use Rattle.ix_backtrack.proofs.FrameLemmas.{byte-here}
use Rattle.ix_backtrack.proofs.choice.glance.Goals as goal

pub takes-requires : goal.takes-requires
takes-requires g c = c.requires.code.sets c.args.frame.pc (Byte c.in-Byte.set c.in-Byte.next) c.in-Byte.ensures

pub returns-then-not-takes-clause-glances : goal.returns-then-not-takes-clause-glances
returns-then-not-takes-clause-glances g c =
    λ blank mean rank m cells. m.gives c.args.frame.pc (Byte c.in-Byte.set c.in-Byte.next) c.in-Byte.ensures
    (history cells c.args.frame.trail) c.args.frame.place (omega arith)
    ∙ byte-here (mean c.in-Byte.next (history cells c.args.frame.trail)) (set_in (sets_of c.args.p.now.rows) c.in-Byte.set)
    (text_of c.args.input) c.args.frame.place (get_or c.args.input.bytes.now c.args.frame.place 0) _
    (slice_get-get_or c.args.input.bytes.now c.args.frame.place 0 (omega arith)) (sym c.if-not-takes.true ∙ c.takes.ensures)

pub returns-clause-glances : goal.returns-clause-glances
returns-clause-glances g c =
    λ blank mean rank m cells. m.gives c.args.frame.pc (Byte c.in-Byte.set c.in-Byte.next) c.in-Byte.ensures
    (history cells c.args.frame.trail) c.args.frame.place (omega arith)
    ∙ byte-here (mean c.in-Byte.next (history cells c.args.frame.trail)) (set_in (sets_of c.args.p.now.rows) c.in-Byte.set)
    (text_of c.args.input) c.args.frame.place (get_or c.args.input.bytes.now c.args.frame.place 0) _
    (slice_get-get_or c.args.input.bytes.now c.args.frame.place 0 (omega arith)) (sym c.if-not-takes.false ∙ c.takes.ensures)

pub returns-clause-known : goal.returns-clause-known
returns-clause-known g c =
    λ n h. record {
      pc = c.requires.code.targets c.args.frame.pc (Byte c.in-Byte.set c.in-Byte.next) c.in-Byte.ensures;
      trail = h.trail;
      place = omega arith;
    }
