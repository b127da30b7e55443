use Rattle.std.proofs.Common.{◌<◌, [], ◌++◌, length, length-append, refl, sym, ◌∙◌, ap, subst, arith}
use Rattle.ix_pattern.specs.Ways.{here, is_start}
use Rattle.ix_pikevm.specs.Code.{history}
use Rattle.ix_pikevm.specs.Leaf.{leaf_ways, at}
use Rattle.ix_pikevm.specs.declared.code.Instr.TheVariants.{Match, Split, Jump, Begin, Finish, TextStart, TextEnd, Word, Look}
use Rattle.ix_pikevm.specs.declared.cells.Event.TheVariants.{Began, Ended}
use Rattle.ix_pikevm.proofs.ActLemmas.{leads-one, leads-two, leads-event, leaf-does}
use Rattle.ix_pikevm.proofs.acts.act_at.Goals as goal

pub returns-in-Match-clause-does : goal.returns-in-Match-clause-does
returns-in-Match-clause-does c =
    λ real ag rows blank mean rank m lk later. record {
      way = _;
      is = m.gives c.args.thread.pc Match c.in-Match.ensures (history (c.args.cells.now.items ++ later) c.args.thread.trail) c.args.place
          ag.within;
      best = refl;
    }

pub returns-in-Split-clause-does : goal.returns-in-Split-clause-does
returns-in-Split-clause-does c =
    λ real ag rows blank mean rank m lk later. leads-two _ rank _ _ _ _
    (m.gives c.args.thread.pc (Split c.in-Split.first c.in-Split.other) c.in-Split.ensures
    (history (c.args.cells.now.items ++ later) c.args.thread.trail) c.args.place ag.within)
    (m.falls c.args.thread.pc (Split c.in-Split.first c.in-Split.other) c.in-Split.ensures)

pub returns-in-Split-clause-known : goal.returns-in-Split-clause-known
returns-in-Split-clause-known c =
    let t = c.requires.code c.args.thread.pc (Split c.in-Split.first c.in-Split.other) c.in-Split.ensures in
    ((t.0, c.requires.known.1), (t.1, c.requires.known.1))

pub returns-in-Jump-clause-does : goal.returns-in-Jump-clause-does
returns-in-Jump-clause-does c =
    λ real ag rows blank mean rank m lk later. leads-one _ rank _ _ _
    (m.gives c.args.thread.pc (Jump c.in-Jump.next) c.in-Jump.ensures (history (c.args.cells.now.items ++ later) c.args.thread.trail)
    c.args.place ag.within) (m.falls c.args.thread.pc (Jump c.in-Jump.next) c.in-Jump.ensures)

pub returns-in-Jump-clause-known : goal.returns-in-Jump-clause-known
returns-in-Jump-clause-known c =
    (c.requires.code c.args.thread.pc (Jump c.in-Jump.next) c.in-Jump.ensures, c.requires.known.1)

pub returns-in_ok-t-in-Begin-clause-does : goal.returns-in_ok-t-in-Begin-clause-does
returns-in_ok-t-in-Begin-clause-does c =
    λ real ag rows blank mean rank m lk later. leads-event c.args.code.now mean rank c.args.cells.now.items c.with_event.new.cells.items
    later c.args.place c.in-Begin.next (Began c.args.place) c.args.thread c.in_ok-t-in-Begin.t
    (λ h. m.gives c.args.thread.pc (Begin c.in-Begin.next) c.in-Begin.ensures h c.args.place ag.within)
    (m.falls c.args.thread.pc (Begin c.in-Begin.next) c.in-Begin.ensures) c.requires.known.1 c.in_ok-t-in-Begin.ensures.pc
    c.in_ok-t-in-Begin.ensures.trail c.in_ok-t-in-Begin.ensures.cells

pub returns-in_ok-t-in-Begin-clause-known : goal.returns-in_ok-t-in-Begin-clause-known
returns-in_ok-t-in-Begin-clause-known c =
    let n = c.requires.code c.args.thread.pc (Begin c.in-Begin.next) c.in-Begin.ensures in (
      subst (λ k. k < length c.args.code.now) (sym c.in_ok-t-in-Begin.ensures.pc) n,
      rw (c.in_ok-t-in-Begin.ensures.cells, length-append) (omega (arith, c.in_ok-t-in-Begin.ensures.trail)),
    )

pub returns-in_ok-t-in-Finish-clause-does : goal.returns-in_ok-t-in-Finish-clause-does
returns-in_ok-t-in-Finish-clause-does c =
    λ real ag rows blank mean rank m lk later. leads-event c.args.code.now mean rank c.args.cells.now.items
    c.with_event-in-Finish.new.cells.items later c.args.place c.in-Finish.next (Ended c.in-Finish.number c.args.place) c.args.thread
    c.in_ok-t-in-Finish.t
    (λ h. m.gives c.args.thread.pc (Finish c.in-Finish.number c.in-Finish.next) c.in-Finish.ensures h c.args.place ag.within)
    (m.falls c.args.thread.pc (Finish c.in-Finish.number c.in-Finish.next) c.in-Finish.ensures) c.requires.known.1
    c.in_ok-t-in-Finish.ensures.pc c.in_ok-t-in-Finish.ensures.trail c.in_ok-t-in-Finish.ensures.cells

pub returns-in_ok-t-in-Finish-clause-known : goal.returns-in_ok-t-in-Finish-clause-known
returns-in_ok-t-in-Finish-clause-known c =
    let n = c.requires.code c.args.thread.pc (Finish c.in-Finish.number c.in-Finish.next) c.in-Finish.ensures in (
      subst (λ k. k < length c.args.code.now) (sym c.in_ok-t-in-Finish.ensures.pc) n,
      rw (c.in_ok-t-in-Finish.ensures.cells, length-append) (omega (arith, c.in_ok-t-in-Finish.ensures.trail)),
    )

pub returns-in-TextStart-clause-does : goal.returns-in-TextStart-clause-does
returns-in-TextStart-clause-does c =
    λ real ag rows blank mean rank m lk later. leaf-does c.args.code.now mean blank rank (c.args.cells.now.items
    ++ later) c.args.place c.args.thread c.in-TextStart.next c.start-leaf.result _ c.behind.result
    (m.gives c.args.thread.pc (TextStart c.in-TextStart.lines c.in-TextStart.next) c.in-TextStart.ensures
    (history (c.args.cells.now.items ++ later) c.args.thread.trail) c.args.place ag.within)
    (c.start-leaf.ensures (record { place = c.args.place; groups = [] })
    ∙ ap (λ b. here (is_start c.in-TextStart.lines b) (record { place = c.args.place; groups = [] })) (c.byte_before.ensures
    ∙ ag.starts))
    (c.behind.ensures.ways mean blank rank (c.args.cells.now.items
    ++ later) c.args.place (rank c.args.thread.pc) (m.falls c.args.thread.pc (TextStart c.in-TextStart.lines c.in-TextStart.next)
    c.in-TextStart.ensures))

pub returns-in-TextStart-clause-known : goal.returns-in-TextStart-clause-known
returns-in-TextStart-clause-known c =
    c.behind.ensures.known _ _ (c.requires.code c.args.thread.pc (TextStart c.in-TextStart.lines c.in-TextStart.next)
    c.in-TextStart.ensures) c.requires.known

pub returns-in-TextEnd-clause-does : goal.returns-in-TextEnd-clause-does
returns-in-TextEnd-clause-does c =
    λ real ag rows blank mean rank m lk later. leaf-does c.args.code.now mean blank rank (c.args.cells.now.items
    ++ later) c.args.place c.args.thread c.in-TextEnd.next c.finish-leaf.result _ c.behind-in-TextEnd.result
    (m.gives c.args.thread.pc (TextEnd c.in-TextEnd.lines c.in-TextEnd.next) c.in-TextEnd.ensures
    (history (c.args.cells.now.items ++ later) c.args.thread.trail) c.args.place ag.within) (c.finish-leaf.ensures []
    ∙ ag.ends c.in-TextEnd.lines)
    (c.behind-in-TextEnd.ensures.ways mean blank rank (c.args.cells.now.items
    ++ later) c.args.place (rank c.args.thread.pc) (m.falls c.args.thread.pc (TextEnd c.in-TextEnd.lines c.in-TextEnd.next)
    c.in-TextEnd.ensures))

pub returns-in-TextEnd-clause-known : goal.returns-in-TextEnd-clause-known
returns-in-TextEnd-clause-known c =
    c.behind-in-TextEnd.ensures.known _ _ (c.requires.code c.args.thread.pc (TextEnd c.in-TextEnd.lines c.in-TextEnd.next)
    c.in-TextEnd.ensures) c.requires.known

pub returns-in-Word-clause-does : goal.returns-in-Word-clause-does
returns-in-Word-clause-does c =
    λ real ag rows blank mean rank m lk later. leaf-does c.args.code.now mean blank rank (c.args.cells.now.items
    ++ later) c.args.place c.args.thread c.in-Word.next c.word-leaf.result _ c.behind-in-Word.result
    (m.gives c.args.thread.pc (Word c.in-Word.next) c.in-Word.ensures (history (c.args.cells.now.items ++ later) c.args.thread.trail)
    c.args.place ag.within) (c.word-leaf.ensures [] ∙ ag.words)
    (c.behind-in-Word.ensures.ways mean blank rank (c.args.cells.now.items
    ++ later) c.args.place (rank c.args.thread.pc) (m.falls c.args.thread.pc (Word c.in-Word.next) c.in-Word.ensures))

pub returns-in-Word-clause-known : goal.returns-in-Word-clause-known
returns-in-Word-clause-known c =
    c.behind-in-Word.ensures.known _ _ (c.requires.code c.args.thread.pc (Word c.in-Word.next) c.in-Word.ensures) c.requires.known

pub returns-in-TextStart-clause-bytes : goal.returns-in-TextStart-clause-bytes
returns-in-TextStart-clause-bytes c =
    c.behind.ensures.bytes c.args.code.now c.args.thread

pub returns-in-TextEnd-clause-bytes : goal.returns-in-TextEnd-clause-bytes
returns-in-TextEnd-clause-bytes c =
    c.behind-in-TextEnd.ensures.bytes c.args.code.now c.args.thread

pub returns-in-Word-clause-bytes : goal.returns-in-Word-clause-bytes
returns-in-Word-clause-bytes c =
    c.behind-in-Word.ensures.bytes c.args.code.now c.args.thread

pub returns-in-Look-clause-does : goal.returns-in-Look-clause-does
returns-in-Look-clause-does c =
    λ real ag rows blank mean rank m lk later.
    let l = lk c.args.thread.pc c.in-Look.piece c.in-Look.next c.in-Look.ensures in
    leaf-does c.args.code.now mean blank rank (c.args.cells.now.items
    ++ later) c.args.place c.args.thread c.in-Look.next c.look_at-leaf.result _ c.behind-in-Look.result
    (m.gives c.args.thread.pc (Look c.in-Look.piece c.in-Look.next) c.in-Look.ensures
    (history (c.args.cells.now.items ++ later) c.args.thread.trail) c.args.place ag.within)
    (ap (λ k. leaf_ways k (at c.args.place [])) (c.look_at-leaf.ensures l.leaf l.kept) ∙ l.same)
    (c.behind-in-Look.ensures.ways mean blank rank (c.args.cells.now.items
    ++ later) c.args.place (rank c.args.thread.pc) (m.falls c.args.thread.pc (Look c.in-Look.piece c.in-Look.next) c.in-Look.ensures))

pub returns-in-Look-clause-known : goal.returns-in-Look-clause-known
returns-in-Look-clause-known c =
    c.behind-in-Look.ensures.known _ _ (c.requires.code c.args.thread.pc (Look c.in-Look.piece c.in-Look.next) c.in-Look.ensures)
    c.requires.known

pub returns-in-Look-clause-bytes : goal.returns-in-Look-clause-bytes
returns-in-Look-clause-bytes c =
    c.behind-in-Look.ensures.bytes c.args.code.now c.args.thread
