use Rattle.std.proofs.Common.{[], get_or, sym, ◌∙◌, ap, arith}
use Rattle.std.proofs.lemmas.Option.{slice_get-get_or}
use Rattle.ix_pikevm.specs.declared.code.Instr.TheVariants.{Byte, TextEnd}
use Rattle.ix_pikevm.specs.Code.{set_in, sets_of, tested}
use Rattle.ix_pikevm.specs.Leaf.{leaf_ways, at, text_of}
use Rattle.ix_backtrack.proofs.FrameLemmas.{byte-here, not-true}
use Rattle.ix_backtrack.proofs.choice.dies.Goals as goal

pub takes-requires : goal.takes-requires
takes-requires g c = c.requires.code.sets c.args.pc (Byte c.in-Byte.set c.in-Byte.next) c.in-Byte.ensures

pub returns-then-place-input : goal.returns-then-place-input
returns-then-place-input g c =
    λ is blank mean rank m h. m.gives c.args.pc (Byte c.in-Byte.set c.in-Byte.next) c.in-Byte.ensures h c.args.place c.requires.within
    ∙ byte-here (mean c.in-Byte.next h) (set_in (sets_of c.args.p.now.rows) c.in-Byte.set) (text_of c.args.input) c.args.place
    (get_or c.args.input.bytes.now c.args.place 0) _
    (slice_get-get_or c.args.input.bytes.now c.args.place 0 (omega arith)) (sym (not-true c.takes.result is) ∙ c.takes.ensures)

pub returns-in-Never : goal.returns-in-Never
returns-in-Never g c =
    λ is blank mean rank m h. m.gives c.args.pc (TextEnd c.in-TextEnd.lines c.in-TextEnd.next) c.in-TextEnd.ensures h c.args.place
    c.requires.within
    ∙ ap (tested (mean c.in-TextEnd.next h)) (sym (c.finish.ensures []) ∙ ap (λ l. leaf_ways l (at c.args.place [])) c.in-Never.is)
