use Rattle.std.proofs.Common.{[], ◌++◌, length, length-append, sym, ◌∙◌, ap, subst, arith}
use Rattle.std.proofs.lemmas.Result.{IfOk-from_err}
use Rattle.ix_pattern.specs.Ways.{here, is_start}
use Rattle.ix_pikevm.specs.Code.{history, tested}
use Rattle.ix_pikevm.specs.Leaf.{at}
use Rattle.ix_pikevm.specs.declared.code.Instr.TheVariants.{Match, Byte, Split, Jump, Begin, Finish, TextStart, TextEnd, Word}
use Rattle.ix_pikevm.specs.declared.cells.Event.TheVariants.{Began, Ended}
use Rattle.ix_pikevm.proofs.RunLemmas.{grown-none}
use Rattle.ix_backtrack.specs.Frames.{IsFrame}
use Rattle.ix_backtrack.proofs.FrameLemmas.{event-ways}
use Rattle.ix_backtrack.proofs.turn.turn.Goals as goal

pub behind_byte-requires : goal.behind_byte-requires
behind_byte-requires g c = c.requires.code.sets c.args.frame.pc (Byte c.in-Byte.set c.in-Byte.next) c.in-Byte.ensures

pub returns-in-Match-clause-turns : goal.returns-in-Match-clause-turns
returns-in-Match-clause-turns g c =
    λ blank mean rank m later. m.gives c.args.frame.pc Match c.in-Match.ensures
    (history (c.args.cells.now.items ++ later) c.args.frame.trail) c.args.frame.place c.requires.known.place

pub returns-in-Byte-clause-turns : goal.returns-in-Byte-clause-turns
returns-in-Byte-clause-turns g c =
    λ blank mean rank m later. m.gives c.args.frame.pc (Byte c.in-Byte.set c.in-Byte.next) c.in-Byte.ensures
    (history (c.args.cells.now.items ++ later) c.args.frame.trail) c.args.frame.place c.requires.known.place
    ∙ c.behind_byte.ensures.ways mean blank (c.args.cells.now.items ++ later)

pub returns-in-Byte-clause-known : goal.returns-in-Byte-clause-known
returns-in-Byte-clause-known g c =
    c.behind_byte.ensures.known _ _ (c.requires.code.targets c.args.frame.pc (Byte c.in-Byte.set c.in-Byte.next) c.in-Byte.ensures)
    c.requires.known

pub returns-in-Split-clause-turns : goal.returns-in-Split-clause-turns
returns-in-Split-clause-turns g c =
    λ blank mean rank m later. m.gives c.args.frame.pc (Split c.in-Split.first c.in-Split.other) c.in-Split.ensures
    (history (c.args.cells.now.items ++ later) c.args.frame.trail) c.args.frame.place c.requires.known.place
    ∙ c.choice.ensures.chooses blank mean rank m (c.args.cells.now.items ++ later)

pub returns-in-Split-clause-known : goal.returns-in-Split-clause-known
returns-in-Split-clause-known g c =
    let t = c.requires.code.targets c.args.frame.pc (Split c.in-Split.first c.in-Split.other) c.in-Split.ensures in
    c.choice.ensures.known (length c.args.cells.now.items)
    (record { pc = t.0; trail = c.requires.known.trail; place = c.requires.known.place })
    (record { pc = t.1; trail = c.requires.known.trail; place = c.requires.known.place })

pub choice-requires-clause-first : goal.choice-requires-clause-first
choice-requires-clause-first g c = (c.requires.code.targets c.args.frame.pc (Split c.in-Split.first c.in-Split.other) c.in-Split.ensures).0

pub choice-requires-clause-other : goal.choice-requires-clause-other
choice-requires-clause-other g c = (c.requires.code.targets c.args.frame.pc (Split c.in-Split.first c.in-Split.other) c.in-Split.ensures).1

pub returns-in-Jump-clause-turns : goal.returns-in-Jump-clause-turns
returns-in-Jump-clause-turns g c =
    λ blank mean rank m later. m.gives c.args.frame.pc (Jump c.in-Jump.next) c.in-Jump.ensures
    (history (c.args.cells.now.items ++ later) c.args.frame.trail) c.args.frame.place c.requires.known.place

pub returns-in-Jump-clause-known : goal.returns-in-Jump-clause-known
returns-in-Jump-clause-known g c =
    record {
      pc = c.requires.code.targets c.args.frame.pc (Jump c.in-Jump.next) c.in-Jump.ensures;
      trail = c.requires.known.trail;
      place = c.requires.known.place;
    }

pub returns-in_ok-f-in-Begin-clause-turns : goal.returns-in_ok-f-in-Begin-clause-turns
returns-in_ok-f-in-Begin-clause-turns g c =
    λ blank mean rank m later. m.gives c.args.frame.pc (Begin c.in-Begin.next) c.in-Begin.ensures
    (history (c.behind_event.new.cells.items ++ later) c.args.frame.trail) c.args.frame.place c.requires.known.place
    ∙ event-ways mean c.args.cells.now.items c.behind_event.new.cells.items later c.args.frame.trail c.args.frame.place c.in-Begin.next
    (Began c.args.frame.place) c.in_ok-f-in-Begin.f
    c.requires.known.trail c.in_ok-f-in-Begin.ensures.is c.in_ok-f-in-Begin.ensures.cells

pub returns-in_ok-f-in-Begin-clause-known : goal.returns-in_ok-f-in-Begin-clause-known
returns-in_ok-f-in-Begin-clause-known g c =
    subst (IsFrame (length c.args.code.now) (length c.behind_event.new.cells.items) (length c.args.input.bytes.now))
    (sym c.in_ok-f-in-Begin.ensures.is)
    (record {
      pc = c.requires.code.targets c.args.frame.pc (Begin c.in-Begin.next) c.in-Begin.ensures;
      trail = rw (c.in_ok-f-in-Begin.ensures.cells, length-append) (omega arith);
      place = c.requires.known.place;
    })

pub returns-in_ok-f-in-Finish-clause-turns : goal.returns-in_ok-f-in-Finish-clause-turns
returns-in_ok-f-in-Finish-clause-turns g c =
    λ blank mean rank m later. m.gives c.args.frame.pc (Finish c.in-Finish.number c.in-Finish.next) c.in-Finish.ensures
    (history (c.behind_event-in-Finish.new.cells.items ++ later) c.args.frame.trail) c.args.frame.place c.requires.known.place
    ∙ event-ways mean c.args.cells.now.items c.behind_event-in-Finish.new.cells.items later c.args.frame.trail c.args.frame.place
    c.in-Finish.next (Ended c.in-Finish.number c.args.frame.place) c.in_ok-f-in-Finish.f
    c.requires.known.trail c.in_ok-f-in-Finish.ensures.is c.in_ok-f-in-Finish.ensures.cells

pub returns-in_ok-f-in-Finish-clause-known : goal.returns-in_ok-f-in-Finish-clause-known
returns-in_ok-f-in-Finish-clause-known g c =
    subst (IsFrame (length c.args.code.now) (length c.behind_event-in-Finish.new.cells.items) (length c.args.input.bytes.now))
    (sym c.in_ok-f-in-Finish.ensures.is)
    (record {
      pc = c.requires.code.targets c.args.frame.pc (Finish c.in-Finish.number c.in-Finish.next) c.in-Finish.ensures;
      trail = rw (c.in_ok-f-in-Finish.ensures.cells, length-append) (omega arith);
      place = c.requires.known.place;
    })

pub returns-in-TextStart-clause-turns : goal.returns-in-TextStart-clause-turns
returns-in-TextStart-clause-turns g c =
    λ blank mean rank m later. m.gives c.args.frame.pc (TextStart c.in-TextStart.lines c.in-TextStart.next) c.in-TextStart.ensures
    (history (c.args.cells.now.items ++ later) c.args.frame.trail) c.args.frame.place c.requires.known.place
    ∙ ap (tested (mean c.in-TextStart.next (history (c.args.cells.now.items ++ later) c.args.frame.trail)))
    (sym (c.start-leaf.ensures (at c.args.frame.place [])
    ∙ ap (λ b. here (is_start c.in-TextStart.lines b) (at c.args.frame.place [])) c.byte_before.ensures))
    ∙ c.behind_leaf.ensures.ways mean blank (c.args.cells.now.items ++ later)

pub returns-in-TextStart-clause-known : goal.returns-in-TextStart-clause-known
returns-in-TextStart-clause-known g c =
    c.behind_leaf.ensures.known _ _ _ (c.requires.code.targets c.args.frame.pc (TextStart c.in-TextStart.lines c.in-TextStart.next)
    c.in-TextStart.ensures) c.requires.known

pub returns-in-TextEnd-clause-turns : goal.returns-in-TextEnd-clause-turns
returns-in-TextEnd-clause-turns g c =
    λ blank mean rank m later. m.gives c.args.frame.pc (TextEnd c.in-TextEnd.lines c.in-TextEnd.next) c.in-TextEnd.ensures
    (history (c.args.cells.now.items ++ later) c.args.frame.trail) c.args.frame.place c.requires.known.place
    ∙ ap (tested (mean c.in-TextEnd.next (history (c.args.cells.now.items ++ later) c.args.frame.trail))) (sym (c.finish-leaf.ensures []))
    ∙ c.behind_leaf-in-TextEnd.ensures.ways mean blank (c.args.cells.now.items ++ later)

pub returns-in-TextEnd-clause-known : goal.returns-in-TextEnd-clause-known
returns-in-TextEnd-clause-known g c =
    c.behind_leaf-in-TextEnd.ensures.known _ _ _ (c.requires.code.targets c.args.frame.pc (TextEnd c.in-TextEnd.lines c.in-TextEnd.next)
    c.in-TextEnd.ensures) c.requires.known

pub returns-in-Word-clause-turns : goal.returns-in-Word-clause-turns
returns-in-Word-clause-turns g c =
    λ blank mean rank m later. m.gives c.args.frame.pc (Word c.in-Word.next) c.in-Word.ensures
    (history (c.args.cells.now.items ++ later) c.args.frame.trail) c.args.frame.place c.requires.known.place
    ∙ ap (tested (mean c.in-Word.next (history (c.args.cells.now.items ++ later) c.args.frame.trail))) (sym (c.word-leaf.ensures []))
    ∙ c.behind_leaf-in-Word.ensures.ways mean blank (c.args.cells.now.items ++ later)

pub returns-in-Word-clause-known : goal.returns-in-Word-clause-known
returns-in-Word-clause-known g c =
    c.behind_leaf-in-Word.ensures.known _ _ _ (c.requires.code.targets c.args.frame.pc (Word c.in-Word.next) c.in-Word.ensures)
    c.requires.known

pub returns-in_err-f-in-Begin : goal.returns-in_err-f-in-Begin
returns-in_err-f-in-Begin g c = record {
  turns = IfOk-from_err c.from_residual.result _ c.from_residual.ensures.0;
  known = IfOk-from_err c.from_residual.result _ c.from_residual.ensures.0;
  grown = IfOk-from_err c.from_residual.result _ c.from_residual.ensures.0;
}

pub returns-in_err-f-in-Finish : goal.returns-in_err-f-in-Finish
returns-in_err-f-in-Finish g c = record {
  turns = IfOk-from_err c.from_residual-in_err-f-in-Finish.result _ c.from_residual-in_err-f-in-Finish.ensures.0;
  known = IfOk-from_err c.from_residual-in_err-f-in-Finish.result _ c.from_residual-in_err-f-in-Finish.ensures.0;
  grown = IfOk-from_err c.from_residual-in_err-f-in-Finish.result _ c.from_residual-in_err-f-in-Finish.ensures.0;
}

pub returns-in-Match-clause-grown : goal.returns-in-Match-clause-grown
returns-in-Match-clause-grown g c = grown-none c.args.cells.now.items

pub returns-in-Byte-clause-grown : goal.returns-in-Byte-clause-grown
returns-in-Byte-clause-grown g c = grown-none c.args.cells.now.items

pub returns-in-Split-clause-grown : goal.returns-in-Split-clause-grown
returns-in-Split-clause-grown g c = grown-none c.args.cells.now.items

pub returns-in-Jump-clause-grown : goal.returns-in-Jump-clause-grown
returns-in-Jump-clause-grown g c = grown-none c.args.cells.now.items

pub returns-in-TextStart-clause-grown : goal.returns-in-TextStart-clause-grown
returns-in-TextStart-clause-grown g c = grown-none c.args.cells.now.items

pub returns-in-TextEnd-clause-grown : goal.returns-in-TextEnd-clause-grown
returns-in-TextEnd-clause-grown g c = grown-none c.args.cells.now.items

pub returns-in-Word-clause-grown : goal.returns-in-Word-clause-grown
returns-in-Word-clause-grown g c = grown-none c.args.cells.now.items

pub returns-in-Look-clause-grown : goal.returns-in-Look-clause-grown
returns-in-Look-clause-grown g c = grown-none c.args.cells.now.items

pub returns-in_ok-f-in-Begin-clause-grown : goal.returns-in_ok-f-in-Begin-clause-grown
returns-in_ok-f-in-Begin-clause-grown g c = record { added = _; is = c.in_ok-f-in-Begin.ensures.cells }

pub returns-in_ok-f-in-Finish-clause-grown : goal.returns-in_ok-f-in-Finish-clause-grown
returns-in_ok-f-in-Finish-clause-grown g c = record { added = _; is = c.in_ok-f-in-Finish.ensures.cells }
