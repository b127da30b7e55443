use Rattle.std.proofs.Common.{◌≡◌, ◌<◌, ◌≤◌, IfOk, OnOk, max, length, true, false, [], ◌∷◌, ◌++◌, set, length-append, sym, ◌∙◌, ap, subst}
use Rattle.std.proofs.Common.{arith}
use Rattle.std.proofs.Math.Nat.{le_refl, le_trans}
use Rattle.std.proofs.lemmas.Result.{IfOk-from_err, IfOk-weaker}
use Rattle.ix_pattern.specs.Piece.{seq, either, count, group, ahead, IsPlain}
use Rattle.ix_pattern.specs.Rows.{piece_at}
use Rattle.ix_pikevm.specs.declared.code.Instr.TheVariants.{Jump, Byte, Begin, Finish, TextStart, TextEnd, Word, Look}
use Rattle.ix_pikevm.specs.Looks.{HasNoLook}
use Rattle.ix_pikevm.specs.Aims.{Writes, pre, pre_maybe, pre_turns}
use Rattle.ix_pikevm.proofs.WriteLemmas.{writes-nothing, writes-byte, writes-start, writes-finish, writes-word, writes-group, writes-look}
use Rattle.ix_pikevm.proofs.ChainLemmas.{chaining-first, chaining-seq, chaining-either, chaining-end, part-fits}
use Rattle.ix_pikevm.proofs.EmitLemmas.{emitted, put-within, put-longer, in-any, byte-no-look, start-no-look, end-no-look, word-no-look}
use Rattle.ix_pikevm.proofs.EmitLemmas.{jump-no-look}
use Rattle.ix_pikevm.proofs.SettleLemmas.{none-left}
use Rattle.ix_pikevm.proofs.PlainLemmas.{IsNoLook, no-look-push, no-look-set, choice-no-look}
use Rattle.ix_pikevm.proofs.CountLemmas.{writes-turns-none, writes-turn, writes-maybe-none, writes-maybe, writes-star, writes-count-some}
use Rattle.ix_pikevm.proofs.CountLemmas.{writes-count-none}
use Rattle.ix_pikevm.proofs.compile.+writing.Goals as goal

pub write_piece-returns-in-Nothing : goal.write_piece-returns-in-Nothing
write_piece-returns-in-Nothing t c = record {
  writes = subst (λ q. Writes c.args.p.now.rows (pre q) c.args.next c.args.code.now.items c.args.code.now.items c.args.next)
      (sym c.in-Nothing.ensures.is) (writes-nothing c.args.p.now.rows c.args.next c.args.code.now.items);
  within = c.requires.next;
  grown = le_refl (length c.args.code.now.items);
  plain = λ pl free. free;
}

pub write_piece-returns-in-Bytes : goal.write_piece-returns-in-Bytes
write_piece-returns-in-Bytes t c = record {
  writes = emitted c.args.code.now.items c.emit.new.code.items (Byte c.args.piece c.args.next)
      (λ begin. Writes c.args.p.now.rows (pre (piece_at c.args.p.now.rows c.args.piece)) c.args.next c.args.code.now.items
      c.emit.new.code.items begin) c.emit.result (λ begin code here.
      subst (λ q. Writes c.args.p.now.rows (pre q) c.args.next c.args.code.now.items c.emit.new.code.items begin)
      (sym c.in-Bytes.ensures.is) (writes-byte c.args.p.now.rows c.args.piece c.args.next c.args.code.now.items c.emit.new.code.items begin
      code here c.requires.piece c.in-Bytes.ensures.node)) c.emit.ensures.code c.emit.ensures.pc;
  within = emitted c.args.code.now.items c.emit.new.code.items (Byte c.args.piece c.args.next)
      (λ begin. begin < length c.emit.new.code.items) c.emit.result
      (put-within c.args.code.now.items c.emit.new.code.items (Byte c.args.piece c.args.next)) c.emit.ensures.code c.emit.ensures.pc;
  grown = emitted c.args.code.now.items c.emit.new.code.items (Byte c.args.piece c.args.next)
      (λ _. length c.args.code.now.items ≤ length c.emit.new.code.items) c.emit.result
      (λ pc code here. put-longer c.args.code.now.items c.emit.new.code.items (Byte c.args.piece c.args.next) code) c.emit.ensures.code
      c.emit.ensures.pc;
  plain = emitted c.args.code.now.items c.emit.new.code.items (Byte c.args.piece c.args.next)
      (λ _. IsPlain (piece_at c.args.p.now.rows c.args.piece) → HasNoLook c.args.code.now.items →
      HasNoLook c.emit.new.code.items) c.emit.result (λ pc code here pl free.
      no-look-push c.args.code.now.items c.emit.new.code.items (Byte c.args.piece c.args.next) code (byte-no-look c.args.piece c.args.next)
      free) c.emit.ensures.code c.emit.ensures.pc;
}

pub write_piece-returns-in-Start : goal.write_piece-returns-in-Start
write_piece-returns-in-Start t c = record {
  writes = emitted c.args.code.now.items c.emit-in-Start.new.code.items (TextStart c.in-Start.lines c.args.next)
      (λ begin. Writes c.args.p.now.rows (pre (piece_at c.args.p.now.rows c.args.piece)) c.args.next c.args.code.now.items
      c.emit-in-Start.new.code.items begin) c.emit-in-Start.result
      (λ begin code here. subst (λ q. Writes c.args.p.now.rows (pre q) c.args.next c.args.code.now.items c.emit-in-Start.new.code.items
      begin) (sym c.in-Start.ensures.is) (writes-start c.args.p.now.rows c.in-Start.lines c.args.next c.args.code.now.items
      c.emit-in-Start.new.code.items begin code here)) c.emit-in-Start.ensures.code c.emit-in-Start.ensures.pc;
  within = emitted c.args.code.now.items c.emit-in-Start.new.code.items (TextStart c.in-Start.lines c.args.next)
      (λ begin. begin < length c.emit-in-Start.new.code.items) c.emit-in-Start.result
      (put-within c.args.code.now.items c.emit-in-Start.new.code.items (TextStart c.in-Start.lines c.args.next))
      c.emit-in-Start.ensures.code c.emit-in-Start.ensures.pc;
  grown = emitted c.args.code.now.items c.emit-in-Start.new.code.items (TextStart c.in-Start.lines c.args.next)
      (λ _. length c.args.code.now.items ≤ length c.emit-in-Start.new.code.items) c.emit-in-Start.result
      (λ pc code here. put-longer c.args.code.now.items c.emit-in-Start.new.code.items (TextStart c.in-Start.lines c.args.next) code)
      c.emit-in-Start.ensures.code c.emit-in-Start.ensures.pc;
  plain = emitted c.args.code.now.items c.emit-in-Start.new.code.items (TextStart c.in-Start.lines c.args.next)
      (λ _. IsPlain (piece_at c.args.p.now.rows c.args.piece) → HasNoLook c.args.code.now.items →
      HasNoLook c.emit-in-Start.new.code.items) c.emit-in-Start.result
      (λ pc code here pl free. no-look-push c.args.code.now.items c.emit-in-Start.new.code.items (TextStart c.in-Start.lines c.args.next)
      code (start-no-look c.in-Start.lines c.args.next) free) c.emit-in-Start.ensures.code c.emit-in-Start.ensures.pc;
}

pub write_piece-returns-in-Finish : goal.write_piece-returns-in-Finish
write_piece-returns-in-Finish t c = record {
  writes = emitted c.args.code.now.items c.emit-in-Finish.new.code.items (TextEnd c.in-Finish.lines c.args.next)
      (λ begin. Writes c.args.p.now.rows (pre (piece_at c.args.p.now.rows c.args.piece)) c.args.next c.args.code.now.items
      c.emit-in-Finish.new.code.items begin) c.emit-in-Finish.result
      (λ begin code here. subst (λ q. Writes c.args.p.now.rows (pre q) c.args.next c.args.code.now.items c.emit-in-Finish.new.code.items
      begin) (sym c.in-Finish.ensures.is) (writes-finish c.args.p.now.rows c.in-Finish.lines c.args.next c.args.code.now.items
      c.emit-in-Finish.new.code.items begin code here)) c.emit-in-Finish.ensures.code c.emit-in-Finish.ensures.pc;
  within = emitted c.args.code.now.items c.emit-in-Finish.new.code.items (TextEnd c.in-Finish.lines c.args.next)
      (λ begin. begin < length c.emit-in-Finish.new.code.items) c.emit-in-Finish.result
      (put-within c.args.code.now.items c.emit-in-Finish.new.code.items (TextEnd c.in-Finish.lines c.args.next))
      c.emit-in-Finish.ensures.code c.emit-in-Finish.ensures.pc;
  grown = emitted c.args.code.now.items c.emit-in-Finish.new.code.items (TextEnd c.in-Finish.lines c.args.next)
      (λ _. length c.args.code.now.items ≤ length c.emit-in-Finish.new.code.items) c.emit-in-Finish.result
      (λ pc code here. put-longer c.args.code.now.items c.emit-in-Finish.new.code.items (TextEnd c.in-Finish.lines c.args.next) code)
      c.emit-in-Finish.ensures.code c.emit-in-Finish.ensures.pc;
  plain = emitted c.args.code.now.items c.emit-in-Finish.new.code.items (TextEnd c.in-Finish.lines c.args.next)
      (λ _. IsPlain (piece_at c.args.p.now.rows c.args.piece) → HasNoLook c.args.code.now.items →
      HasNoLook c.emit-in-Finish.new.code.items) c.emit-in-Finish.result
      (λ pc code here pl free. no-look-push c.args.code.now.items c.emit-in-Finish.new.code.items (TextEnd c.in-Finish.lines c.args.next)
      code (end-no-look c.in-Finish.lines c.args.next) free) c.emit-in-Finish.ensures.code c.emit-in-Finish.ensures.pc;
}

pub write_piece-returns-in-Word : goal.write_piece-returns-in-Word
write_piece-returns-in-Word t c = record {
  writes = emitted c.args.code.now.items c.emit-in-Word.new.code.items (Word c.args.next)
      (λ begin. Writes c.args.p.now.rows (pre (piece_at c.args.p.now.rows c.args.piece)) c.args.next c.args.code.now.items
      c.emit-in-Word.new.code.items begin) c.emit-in-Word.result
      (λ begin code here. subst (λ q. Writes c.args.p.now.rows (pre q) c.args.next c.args.code.now.items c.emit-in-Word.new.code.items
      begin) (sym c.in-Word.ensures.is) (writes-word c.args.p.now.rows c.args.next c.args.code.now.items c.emit-in-Word.new.code.items begin
      code here)) c.emit-in-Word.ensures.code c.emit-in-Word.ensures.pc;
  within = emitted c.args.code.now.items c.emit-in-Word.new.code.items (Word c.args.next)
      (λ begin. begin < length c.emit-in-Word.new.code.items) c.emit-in-Word.result
      (put-within c.args.code.now.items c.emit-in-Word.new.code.items (Word c.args.next)) c.emit-in-Word.ensures.code
      c.emit-in-Word.ensures.pc;
  grown = emitted c.args.code.now.items c.emit-in-Word.new.code.items (Word c.args.next)
      (λ _. length c.args.code.now.items ≤ length c.emit-in-Word.new.code.items) c.emit-in-Word.result
      (λ pc code here. put-longer c.args.code.now.items c.emit-in-Word.new.code.items (Word c.args.next) code) c.emit-in-Word.ensures.code
      c.emit-in-Word.ensures.pc;
  plain = emitted c.args.code.now.items c.emit-in-Word.new.code.items (Word c.args.next)
      (λ _. IsPlain (piece_at c.args.p.now.rows c.args.piece) → HasNoLook c.args.code.now.items →
      HasNoLook c.emit-in-Word.new.code.items) c.emit-in-Word.result
      (λ pc code here pl free. no-look-push c.args.code.now.items c.emit-in-Word.new.code.items (Word c.args.next) code
      (word-no-look c.args.next) free) c.emit-in-Word.ensures.code c.emit-in-Word.ensures.pc;
}

pub write_piece-returns-in-Ahead : goal.write_piece-returns-in-Ahead
write_piece-returns-in-Ahead t c = record {
  writes = emitted c.args.code.now.items c.emit-in-Ahead.new.code.items (Look c.args.piece c.args.next)
      (λ begin. Writes c.args.p.now.rows (pre (piece_at c.args.p.now.rows c.args.piece)) c.args.next c.args.code.now.items
      c.emit-in-Ahead.new.code.items begin) c.emit-in-Ahead.result
      (λ begin code here. (writes-look c.args.p.now.rows c.args.piece (piece_at c.args.p.now.rows c.in-Ahead._inside) c.in-Ahead._wanted
      c.args.next c.args.code.now.items c.emit-in-Ahead.new.code.items begin code here c.in-Ahead.ensures.is
      (record {
        below = c.requires.piece;
        sound = c.requires.sound;
        inside = piece_at c.args.p.now.rows c.in-Ahead._inside;
        wanted = c.in-Ahead._wanted;
        is = c.in-Ahead.ensures.is;
      }))) c.emit-in-Ahead.ensures.code c.emit-in-Ahead.ensures.pc;
  within = emitted c.args.code.now.items c.emit-in-Ahead.new.code.items (Look c.args.piece c.args.next)
      (λ begin. begin < length c.emit-in-Ahead.new.code.items) c.emit-in-Ahead.result
      (put-within c.args.code.now.items c.emit-in-Ahead.new.code.items (Look c.args.piece c.args.next)) c.emit-in-Ahead.ensures.code
      c.emit-in-Ahead.ensures.pc;
  grown = emitted c.args.code.now.items c.emit-in-Ahead.new.code.items (Look c.args.piece c.args.next)
      (λ _. length c.args.code.now.items ≤ length c.emit-in-Ahead.new.code.items) c.emit-in-Ahead.result
      (λ pc code here. put-longer c.args.code.now.items c.emit-in-Ahead.new.code.items (Look c.args.piece c.args.next) code)
      c.emit-in-Ahead.ensures.code c.emit-in-Ahead.ensures.pc;
  plain = in-any (IsPlain (piece_at c.args.p.now.rows c.args.piece) → HasNoLook c.args.code.now.items →
      HasNoLook c.emit-in-Ahead.new.code.items) c.emit-in-Ahead.result
      (λ pl free. absurd (let q : IsPlain (ahead (piece_at c.args.p.now.rows c.in-Ahead._inside) c.in-Ahead._wanted) = subst IsPlain
      c.in-Ahead.ensures.is pl in q));
}

pub write_piece-returns-in-Seq : goal.write_piece-returns-in-Seq
write_piece-returns-in-Seq t c = record {
  writes = subst (λ q. IfOk c.write_sequence.result (λ begin.
      Writes c.args.p.now.rows (pre q) c.args.next c.args.code.now.items c.write_sequence.new.code.items begin)) (sym c.in-Seq.ensures.is)
      c.write_sequence.ensures.writes;
  within = c.write_sequence.ensures.within;
  grown = c.write_sequence.ensures.grown;
  plain = subst (λ q. OnOk c.write_sequence.result (IsPlain q → HasNoLook c.args.code.now.items →
      HasNoLook c.write_sequence.new.code.items)) (sym c.in-Seq.ensures.is) c.write_sequence.ensures.plain;
}

pub write_piece-returns-in-Either : goal.write_piece-returns-in-Either
write_piece-returns-in-Either t c = record {
  writes = subst (λ q. IfOk c.write_alternatives.result
      (λ begin. Writes c.args.p.now.rows (pre q) c.args.next c.args.code.now.items c.write_alternatives.new.code.items begin))
      (sym c.in-Either.ensures.is) c.write_alternatives.ensures.writes;
  within = c.write_alternatives.ensures.within;
  grown = c.write_alternatives.ensures.grown;
  plain = subst (λ q. OnOk c.write_alternatives.result (IsPlain q → HasNoLook c.args.code.now.items →
      HasNoLook c.write_alternatives.new.code.items)) (sym c.in-Either.ensures.is) c.write_alternatives.ensures.plain;
}

pub write_piece-returns-in_ok-further-in-None : goal.write_piece-returns-in_ok-further-in-None
write_piece-returns-in_ok-further-in-None t c = record {
  writes = IfOk-weaker c.write_turns.result (λ begin. Writes c.args.p.now.rows
      (pre_turns (piece_at c.args.p.now.rows c.in-Count.inside) c.in-Count.least) c.in_ok-further-in-None.further
      c.write_star.new.code.items c.write_turns.new.code.items begin)
      (λ begin. Writes c.args.p.now.rows (pre (piece_at c.args.p.now.rows c.args.piece)) c.args.next c.args.code.now.items
      c.write_turns.new.code.items begin) (λ begin turns.
      subst (λ q. Writes c.args.p.now.rows (pre q) c.args.next c.args.code.now.items c.write_turns.new.code.items begin)
      (ap (λ m. count (piece_at c.args.p.now.rows c.in-Count.inside) c.in-Count.least m c.in-Count.lazy) (sym c.in-None.is)
      ∙ sym c.in-Count.ensures.is)
      (writes-count-none c.args.p.now.rows (piece_at c.args.p.now.rows c.in-Count.inside) c.in-Count.least c.in-Count.lazy c.args.next
      c.args.code.now.items c.write_star.new.code.items c.write_turns.new.code.items c.in_ok-further-in-None.further begin
      c.in_ok-further-in-None.ensures.writes turns)) c.write_turns.ensures.writes;
  within = c.write_turns.ensures.within;
  grown = IfOk-weaker c.write_turns.result (λ _. length c.write_star.new.code.items ≤ length c.write_turns.new.code.items)
      (λ _. length c.args.code.now.items ≤ length c.write_turns.new.code.items)
      (λ _ longer. le_trans c.in_ok-further-in-None.ensures.grown longer) c.write_turns.ensures.grown;
  plain = IfOk-weaker c.write_turns.result (λ _. IsPlain (piece_at c.args.p.now.rows c.in-Count.inside) →
      HasNoLook c.write_star.new.code.items → HasNoLook c.write_turns.new.code.items)
      (λ _. IsPlain (piece_at c.args.p.now.rows c.args.piece) → HasNoLook c.args.code.now.items →
      HasNoLook c.write_turns.new.code.items) (λ _ turns pl free.
      let q : IsPlain (piece_at c.args.p.now.rows c.in-Count.inside) = subst IsPlain c.in-Count.ensures.is pl in
      turns q (c.in_ok-further-in-None.ensures.plain q free)) c.write_turns.ensures.plain;
}

pub write_piece-returns-in_ok-further-in-Some : goal.write_piece-returns-in_ok-further-in-Some
write_piece-returns-in_ok-further-in-Some t c = record {
  writes = IfOk-weaker c.write_turns-in-Some.result (λ begin.
      Writes c.args.p.now.rows (pre_turns (piece_at c.args.p.now.rows c.in-Count.inside) c.in-Count.least) c.in_ok-further-in-Some.further
      c.write_maybe.new.code.items c.write_turns-in-Some.new.code.items begin)
      (λ begin. Writes c.args.p.now.rows (pre (piece_at c.args.p.now.rows c.args.piece)) c.args.next c.args.code.now.items
      c.write_turns-in-Some.new.code.items begin) (λ begin turns.
      subst (λ q. Writes c.args.p.now.rows (pre q) c.args.next c.args.code.now.items c.write_turns-in-Some.new.code.items begin)
      (ap (λ m. count (piece_at c.args.p.now.rows c.in-Count.inside) c.in-Count.least m c.in-Count.lazy) (sym c.in-Some.is)
      ∙ sym c.in-Count.ensures.is)
      (writes-count-some c.args.p.now.rows (piece_at c.args.p.now.rows c.in-Count.inside) c.in-Count.least c.in-Some.most c.in-Count.lazy
      c.args.next c.args.code.now.items c.write_maybe.new.code.items c.write_turns-in-Some.new.code.items
      c.in_ok-further-in-Some.further begin
      (subst (λ k. Writes c.args.p.now.rows (pre_maybe (piece_at c.args.p.now.rows c.in-Count.inside) c.in-Count.lazy k) c.args.next
      c.args.code.now.items c.write_maybe.new.code.items c.in_ok-further-in-Some.further) c.saturating_sub.ensures
      c.in_ok-further-in-Some.ensures.writes) turns)) c.write_turns-in-Some.ensures.writes;
  within = c.write_turns-in-Some.ensures.within;
  grown = IfOk-weaker c.write_turns-in-Some.result (λ _. length c.write_maybe.new.code.items ≤ length c.write_turns-in-Some.new.code.items)
      (λ _. length c.args.code.now.items ≤ length c.write_turns-in-Some.new.code.items)
      (λ _ longer. le_trans c.in_ok-further-in-Some.ensures.grown longer) c.write_turns-in-Some.ensures.grown;
  plain = IfOk-weaker c.write_turns-in-Some.result (λ _. IsPlain (piece_at c.args.p.now.rows c.in-Count.inside) →
      HasNoLook c.write_maybe.new.code.items → HasNoLook c.write_turns-in-Some.new.code.items)
      (λ _. IsPlain (piece_at c.args.p.now.rows c.args.piece) → HasNoLook c.args.code.now.items →
      HasNoLook c.write_turns-in-Some.new.code.items) (λ _ turns pl free.
      let q : IsPlain (piece_at c.args.p.now.rows c.in-Count.inside) = subst IsPlain c.in-Count.ensures.is pl in
      turns q (c.in_ok-further-in-Some.ensures.plain q free)) c.write_turns-in-Some.ensures.plain;
}

pub write_piece-returns-in_ok-start-in-Group : goal.write_piece-returns-in_ok-start-in-Group
write_piece-returns-in_ok-start-in-Group t c = record {
  writes = emitted c.write_piece.new.code.items c.emit-in-Group-2.new.code.items (Begin c.in_ok-start-in-Group.start)
      (λ begin. Writes c.args.p.now.rows (pre (piece_at c.args.p.now.rows c.args.piece)) c.args.next c.args.code.now.items
      c.emit-in-Group-2.new.code.items begin) c.emit-in-Group-2.result
      (λ begin code here. subst (λ q. Writes c.args.p.now.rows (pre q) c.args.next c.args.code.now.items c.emit-in-Group-2.new.code.items
      begin) (sym c.in-Group.ensures.is)
      (writes-group c.args.p.now.rows c.in-Group.number (piece_at c.args.p.now.rows c.in-Group.inside) c.args.next c.args.code.now.items
      c.emit-in-Group.new.code.items c.write_piece.new.code.items c.emit-in-Group-2.new.code.items c.in_ok-end-in-Group.end
      c.in_ok-start-in-Group.start begin c.in_ok-end-in-Group.ensures.code c.in_ok-end-in-Group.ensures.pc
      c.in_ok-start-in-Group.ensures.writes code here)) c.emit-in-Group-2.ensures.code c.emit-in-Group-2.ensures.pc;
  within = emitted c.write_piece.new.code.items c.emit-in-Group-2.new.code.items (Begin c.in_ok-start-in-Group.start)
      (λ begin. begin < length c.emit-in-Group-2.new.code.items) c.emit-in-Group-2.result
      (put-within c.write_piece.new.code.items c.emit-in-Group-2.new.code.items (Begin c.in_ok-start-in-Group.start))
      c.emit-in-Group-2.ensures.code c.emit-in-Group-2.ensures.pc;
  grown = emitted c.write_piece.new.code.items c.emit-in-Group-2.new.code.items (Begin c.in_ok-start-in-Group.start)
      (λ _. length c.args.code.now.items ≤ length c.emit-in-Group-2.new.code.items) c.emit-in-Group-2.result
      (λ pc code here. le_trans (le_trans (put-longer c.args.code.now.items c.emit-in-Group.new.code.items
      (Finish c.in-Group.number c.args.next) c.in_ok-end-in-Group.ensures.code) c.in_ok-start-in-Group.ensures.grown)
      (put-longer c.write_piece.new.code.items c.emit-in-Group-2.new.code.items (Begin c.in_ok-start-in-Group.start) code))
      c.emit-in-Group-2.ensures.code c.emit-in-Group-2.ensures.pc;
  plain = in-any (IsPlain (piece_at c.args.p.now.rows c.args.piece) → HasNoLook c.args.code.now.items →
      HasNoLook c.emit-in-Group-2.new.code.items) c.emit-in-Group-2.result
      (λ pl free. absurd (let q : IsPlain (group c.in-Group.number (piece_at c.args.p.now.rows c.in-Group.inside)) = subst IsPlain
      c.in-Group.ensures.is pl in q));
}

pub write_piece-returns-in_err-further-in-None : goal.write_piece-returns-in_err-further-in-None
write_piece-returns-in_err-further-in-None t c = record {
  writes = IfOk-from_err c.from_residual.result _ c.from_residual.ensures.0;
  within = IfOk-from_err c.from_residual.result _ c.from_residual.ensures.0;
  grown = IfOk-from_err c.from_residual.result _ c.from_residual.ensures.0;
  plain = IfOk-from_err c.from_residual.result _ c.from_residual.ensures.0;
}

pub write_piece-returns-in_err-further-in-Some : goal.write_piece-returns-in_err-further-in-Some
write_piece-returns-in_err-further-in-Some t c = record {
  writes = IfOk-from_err c.from_residual-in_err-further-in-Some.result _ c.from_residual-in_err-further-in-Some.ensures.0;
  within = IfOk-from_err c.from_residual-in_err-further-in-Some.result _ c.from_residual-in_err-further-in-Some.ensures.0;
  grown = IfOk-from_err c.from_residual-in_err-further-in-Some.result _ c.from_residual-in_err-further-in-Some.ensures.0;
  plain = IfOk-from_err c.from_residual-in_err-further-in-Some.result _ c.from_residual-in_err-further-in-Some.ensures.0;
}

pub write_piece-returns-in_err-end-in-Group : goal.write_piece-returns-in_err-end-in-Group
write_piece-returns-in_err-end-in-Group t c = record {
  writes = IfOk-from_err c.from_residual-in_err-end-in-Group.result _ c.from_residual-in_err-end-in-Group.ensures.0;
  within = IfOk-from_err c.from_residual-in_err-end-in-Group.result _ c.from_residual-in_err-end-in-Group.ensures.0;
  grown = IfOk-from_err c.from_residual-in_err-end-in-Group.result _ c.from_residual-in_err-end-in-Group.ensures.0;
  plain = IfOk-from_err c.from_residual-in_err-end-in-Group.result _ c.from_residual-in_err-end-in-Group.ensures.0;
}

pub write_piece-returns-in_err-start-in-Group : goal.write_piece-returns-in_err-start-in-Group
write_piece-returns-in_err-start-in-Group t c = record {
  writes = IfOk-from_err c.from_residual-in_err-start-in-Group.result _ c.from_residual-in_err-start-in-Group.ensures.0;
  within = IfOk-from_err c.from_residual-in_err-start-in-Group.result _ c.from_residual-in_err-start-in-Group.ensures.0;
  grown = IfOk-from_err c.from_residual-in_err-start-in-Group.result _ c.from_residual-in_err-start-in-Group.ensures.0;
  plain = IfOk-from_err c.from_residual-in_err-start-in-Group.result _ c.from_residual-in_err-start-in-Group.ensures.0;
}

pub write_sequence-returns-in_err-last : goal.write_sequence-returns-in_err-last
write_sequence-returns-in_err-last t c = record {
  writes = IfOk-from_err c.from_residual.result _ c.from_residual.ensures.0;
  within = IfOk-from_err c.from_residual.result _ c.from_residual.ensures.0;
  grown = IfOk-from_err c.from_residual.result _ c.from_residual.ensures.0;
  plain = IfOk-from_err c.from_residual.result _ c.from_residual.ensures.0;
}

pub write_sequence-returns-in_err-now : goal.write_sequence-returns-in_err-now
write_sequence-returns-in_err-now t c = record {
  writes = IfOk-from_err c.from_residual-in_err-now.result _ c.from_residual-in_err-now.ensures.0;
  within = IfOk-from_err c.from_residual-in_err-now.result _ c.from_residual-in_err-now.ensures.0;
  grown = IfOk-from_err c.from_residual-in_err-now.result _ c.from_residual-in_err-now.ensures.0;
  plain = IfOk-from_err c.from_residual-in_err-now.result _ c.from_residual-in_err-now.ensures.0;
}

pub write_alternatives-returns-in_err-last : goal.write_alternatives-returns-in_err-last
write_alternatives-returns-in_err-last t c = record {
  writes = IfOk-from_err c.from_residual.result _ c.from_residual.ensures.0;
  within = IfOk-from_err c.from_residual.result _ c.from_residual.ensures.0;
  grown = IfOk-from_err c.from_residual.result _ c.from_residual.ensures.0;
  plain = IfOk-from_err c.from_residual.result _ c.from_residual.ensures.0;
}

pub write_alternatives-returns-in_err-now : goal.write_alternatives-returns-in_err-now
write_alternatives-returns-in_err-now t c = record {
  writes = IfOk-from_err c.from_residual-in_err-now.result _ c.from_residual-in_err-now.ensures.0;
  within = IfOk-from_err c.from_residual-in_err-now.result _ c.from_residual-in_err-now.ensures.0;
  grown = IfOk-from_err c.from_residual-in_err-now.result _ c.from_residual-in_err-now.ensures.0;
  plain = IfOk-from_err c.from_residual-in_err-now.result _ c.from_residual-in_err-now.ensures.0;
}

pub write_sequence-returns-in_err-now-2 : goal.write_sequence-returns-in_err-now-2
write_sequence-returns-in_err-now-2 t c = record {
  writes = IfOk-from_err c.from_residual-in_err-now-2.result _ c.from_residual-in_err-now-2.ensures.0;
  within = IfOk-from_err c.from_residual-in_err-now-2.result _ c.from_residual-in_err-now-2.ensures.0;
  grown = IfOk-from_err c.from_residual-in_err-now-2.result _ c.from_residual-in_err-now-2.ensures.0;
  plain = IfOk-from_err c.from_residual-in_err-now-2.result _ c.from_residual-in_err-now-2.ensures.0;
}

pub write_alternatives-returns-in_err-turn : goal.write_alternatives-returns-in_err-turn
write_alternatives-returns-in_err-turn t c = record {
  writes = IfOk-from_err c.from_residual-in_err-turn.result _ c.from_residual-in_err-turn.ensures.0;
  within = IfOk-from_err c.from_residual-in_err-turn.result _ c.from_residual-in_err-turn.ensures.0;
  grown = IfOk-from_err c.from_residual-in_err-turn.result _ c.from_residual-in_err-turn.ensures.0;
  plain = IfOk-from_err c.from_residual-in_err-turn.result _ c.from_residual-in_err-turn.ensures.0;
}

pub write_alternatives-returns-in_err-now-2 : goal.write_alternatives-returns-in_err-now-2
write_alternatives-returns-in_err-now-2 t c = record {
  writes = IfOk-from_err c.from_residual-in_err-now-2.result _ c.from_residual-in_err-now-2.ensures.0;
  within = IfOk-from_err c.from_residual-in_err-now-2.result _ c.from_residual-in_err-now-2.ensures.0;
  grown = IfOk-from_err c.from_residual-in_err-now-2.result _ c.from_residual-in_err-now-2.ensures.0;
  plain = IfOk-from_err c.from_residual-in_err-now-2.result _ c.from_residual-in_err-now-2.ensures.0;
}

pub write_star-returns-in_err-pc : goal.write_star-returns-in_err-pc
write_star-returns-in_err-pc t c = record {
  writes = IfOk-from_err c.from_residual.result _ c.from_residual.ensures.0;
  within = IfOk-from_err c.from_residual.result _ c.from_residual.ensures.0;
  grown = IfOk-from_err c.from_residual.result _ c.from_residual.ensures.0;
  plain = IfOk-from_err c.from_residual.result _ c.from_residual.ensures.0;
}

pub write_star-returns-in_err-turn : goal.write_star-returns-in_err-turn
write_star-returns-in_err-turn t c = record {
  writes = IfOk-from_err c.from_residual-in_err-turn.result _ c.from_residual-in_err-turn.ensures.0;
  within = IfOk-from_err c.from_residual-in_err-turn.result _ c.from_residual-in_err-turn.ensures.0;
  grown = IfOk-from_err c.from_residual-in_err-turn.result _ c.from_residual-in_err-turn.ensures.0;
  plain = IfOk-from_err c.from_residual-in_err-turn.result _ c.from_residual-in_err-turn.ensures.0;
}

pub write_maybe-returns-in_err-turn : goal.write_maybe-returns-in_err-turn
write_maybe-returns-in_err-turn t c = record {
  writes = IfOk-from_err c.from_residual.result _ c.from_residual.ensures.0;
  within = IfOk-from_err c.from_residual.result _ c.from_residual.ensures.0;
  grown = IfOk-from_err c.from_residual.result _ c.from_residual.ensures.0;
  plain = IfOk-from_err c.from_residual.result _ c.from_residual.ensures.0;
}

pub write_maybe-returns-in_err-now : goal.write_maybe-returns-in_err-now
write_maybe-returns-in_err-now t c = record {
  writes = IfOk-from_err c.from_residual-in_err-now.result _ c.from_residual-in_err-now.ensures.0;
  within = IfOk-from_err c.from_residual-in_err-now.result _ c.from_residual-in_err-now.ensures.0;
  grown = IfOk-from_err c.from_residual-in_err-now.result _ c.from_residual-in_err-now.ensures.0;
  plain = IfOk-from_err c.from_residual-in_err-now.result _ c.from_residual-in_err-now.ensures.0;
}

pub write_turns-returns-in_err-now : goal.write_turns-returns-in_err-now
write_turns-returns-in_err-now t c = record {
  writes = IfOk-from_err c.from_residual.result _ c.from_residual.ensures.0;
  within = IfOk-from_err c.from_residual.result _ c.from_residual.ensures.0;
  grown = IfOk-from_err c.from_residual.result _ c.from_residual.ensures.0;
  plain = IfOk-from_err c.from_residual.result _ c.from_residual.ensures.0;
}

pub write_sequence-returns : goal.write_sequence-returns
write_sequence-returns t c = record {
  writes = chaining-end c.args.p.now.rows true (max c.args.first c.args.rest)
      (seq (piece_at c.args.p.now.rows c.args.first) (piece_at c.args.p.now.rows c.args.rest)) c.args.next c.args.code.now.items
      c.loop-part.parts.items c.loop-part.code.items c.loop-part.now
      (none-left c.loop-part.parts.items c.pop.new.self.items _ c.in_default.ensures.items c.in_default.ensures.rest
      c.in_default.ensures.cases.0) c.loop-part.invariant;
  within = c.loop-part.invariant.within;
  grown = c.loop-part.invariant.grown;
  plain = c.loop-part.invariant.plain;
}

pub write_alternatives-returns : goal.write_alternatives-returns
write_alternatives-returns t c = record {
  writes = chaining-end c.args.p.now.rows false (max c.args.first c.args.rest)
      (either (piece_at c.args.p.now.rows c.args.first) (piece_at c.args.p.now.rows c.args.rest)) c.args.next c.args.code.now.items
      c.loop-part.parts.items c.loop-part.code.items c.loop-part.now
      (none-left c.loop-part.parts.items c.pop.new.self.items _ c.in_default.ensures.items c.in_default.ensures.rest
      c.in_default.ensures.cases.0) c.loop-part.invariant;
  within = c.loop-part.invariant.within;
  grown = c.loop-part.invariant.grown;
  plain = c.loop-part.invariant.plain;
}

pub write_maybe-returns : goal.write_maybe-returns
write_maybe-returns t c = record {
  writes = let e : c.loop-i._i ≡ c.args.times = omega arith in
      subst (λ k. Writes c.args.p.now.rows (pre_maybe (piece_at c.args.p.now.rows c.args.inside) c.args.lazy k) c.args.next
      c.args.code.now.items c.loop-i.code.items c.loop-i.now) e c.loop-i.invariant.writes;
  within = c.loop-i.invariant.within;
  grown = c.loop-i.invariant.grown;
  plain = c.loop-i.invariant.plain;
}

pub write_turns-returns : goal.write_turns-returns
write_turns-returns t c = record {
  writes = let e : c.loop-i._i ≡ c.args.times = omega arith in
      subst (λ k. Writes c.args.p.now.rows (pre_turns (piece_at c.args.p.now.rows c.args.inside) k) c.args.next c.args.code.now.items
      c.loop-i.code.items c.loop-i.now) e c.loop-i.invariant.writes;
  within = c.loop-i.invariant.within;
  grown = c.loop-i.invariant.grown;
  plain = c.loop-i.invariant.plain;
}

pub write_star-returns-clause-writes : goal.write_star-returns-clause-writes
write_star-returns-clause-writes t c =
    writes-star c.args.p.now.rows (piece_at c.args.p.now.rows c.args.inside) c.args.lazy c.args.next c.args.code.now.items
    c.emit.new.code.items c.write_piece.new.code.items (set c.write_piece.new.code.items c.in_ok-pc.pc c.choice.result)
    (Jump c.args.next) c.in_ok-pc.pc c.in_ok-turn.turn c.requires.takes
    c.in_ok-pc.ensures.code c.in_ok-pc.ensures.pc c.requires.next tt c.in_ok-turn.ensures.writes
    (ap (set c.write_piece.new.code.items c.in_ok-pc.pc) c.choice.ensures)

pub write_maybe-loop-i-init : goal.write_maybe-loop-i-init
write_maybe-loop-i-init t c =
    record {
      writes = writes-maybe-none c.args.p.now.rows (piece_at c.args.p.now.rows c.args.inside) c.args.lazy c.args.next
          c.args.code.now.items;
      within = c.requires.next;
      grown = omega arith;
      plain = λ pl free. free;
    }

pub write_maybe-loop-i-preserved : goal.write_maybe-loop-i-preserved
write_maybe-loop-i-preserved t c =
    record {
      writes = writes-maybe c.args.p.now.rows (piece_at c.args.p.now.rows c.args.inside) c.args.lazy c.loop-i._i c.args.next
          c.args.code.now.items c.loop-i.code.items c.write_piece.new.code.items c.emit.new.code.items c.loop-i.now c.in_ok-turn.turn
          c.in_ok-now.now
          c.loop-i.invariant.writes c.in_ok-turn.ensures.writes (c.in_ok-now.ensures.code
          ∙ ap (λ i. c.write_piece.new.code.items ++ i ∷ []) c.choice.ensures) c.in_ok-now.ensures.pc;
      within = rw (c.in_ok-now.ensures.code, c.in_ok-now.ensures.pc, length-append) (omega arith);
      grown = rw (c.in_ok-now.ensures.code, length-append) (omega (arith, c.loop-i.invariant.grown, c.in_ok-turn.ensures.grown));
      plain = λ pl free. no-look-push c.write_piece.new.code.items c.emit.new.code.items c.choice.result c.in_ok-now.ensures.code
          (subst IsNoLook (sym c.choice.ensures) (choice-no-look c.args.lazy c.in_ok-turn.turn c.args.next))
          (c.in_ok-turn.ensures.plain pl (c.loop-i.invariant.plain pl free));
    }

pub write_turns-loop-i-init : goal.write_turns-loop-i-init
write_turns-loop-i-init t c =
    record {
      writes = writes-turns-none c.args.p.now.rows (piece_at c.args.p.now.rows c.args.inside) c.args.next c.args.code.now.items;
      within = c.requires.next;
      grown = omega arith;
      plain = λ pl free. free;
    }

pub write_turns-loop-i-preserved : goal.write_turns-loop-i-preserved
write_turns-loop-i-preserved t c =
    record {
      writes = writes-turn c.args.p.now.rows (piece_at c.args.p.now.rows c.args.inside) c.loop-i._i c.args.next c.args.code.now.items
          c.loop-i.code.items c.write_piece.new.code.items c.loop-i.now c.in_ok-now.now c.loop-i.invariant.writes
          c.in_ok-now.ensures.writes;
      within = c.in_ok-now.ensures.within;
      grown = omega (arith, c.loop-i.invariant.grown, c.in_ok-now.ensures.grown);
      plain = λ pl free. c.in_ok-now.ensures.plain pl (c.loop-i.invariant.plain pl free);
    }

pub write_star-returns-clause-plain : goal.write_star-returns-clause-plain
write_star-returns-clause-plain t c = λ pl free.
    no-look-set c.write_piece.new.code.items c.in_ok-pc.pc c.choice.result
    (subst IsNoLook (sym c.choice.ensures) (choice-no-look c.args.lazy c.in_ok-turn.turn c.args.next))
    (c.in_ok-turn.ensures.plain pl (no-look-push c.args.code.now.items c.emit.new.code.items (Jump c.args.next) c.in_ok-pc.ensures.code
    (jump-no-look c.args.next) free))

pub write_sequence-loop-part-init : goal.write_sequence-loop-part-init
write_sequence-loop-part-init t c =
    chaining-first c.args.p.now.rows true (max c.args.first c.args.rest)
    (seq (piece_at c.args.p.now.rows c.args.first) (piece_at c.args.p.now.rows c.args.rest)) c.args.next c.args.code.now.items
    c.chain_of.new.parts.items c.in_ok-last.last c.write_piece.new.code.items c.in_ok-now.now
    c.in_ok-last.ensures c.in_ok-now.ensures.writes c.in_ok-now.ensures.within c.in_ok-now.ensures.grown c.in_ok-now.ensures.plain

pub write_sequence-loop-part-preserved : goal.write_sequence-loop-part-preserved
write_sequence-loop-part-preserved t c =
    chaining-seq c.args.p.now.rows (max c.args.first c.args.rest)
    (seq (piece_at c.args.p.now.rows c.args.first) (piece_at c.args.p.now.rows c.args.rest)) c.args.next c.args.code.now.items
    c.loop-part.parts.items c.pop.new.self.items c.in-Some.part c.loop-part.code.items c.write_piece-in-Some.new.code.items
    c.loop-part.now c.in_ok-now-2.now
    c.in-Some.ensures.items c.in_ok-now-2.ensures.writes c.in_ok-now-2.ensures.within c.in_ok-now-2.ensures.grown
    c.in_ok-now-2.ensures.plain c.loop-part.invariant

pub write_alternatives-loop-part-init : goal.write_alternatives-loop-part-init
write_alternatives-loop-part-init t c =
    chaining-first c.args.p.now.rows false (max c.args.first c.args.rest)
    (either (piece_at c.args.p.now.rows c.args.first) (piece_at c.args.p.now.rows c.args.rest)) c.args.next c.args.code.now.items
    c.chain_of.new.parts.items c.in_ok-last.last c.write_piece.new.code.items c.in_ok-now.now
    c.in_ok-last.ensures c.in_ok-now.ensures.writes c.in_ok-now.ensures.within c.in_ok-now.ensures.grown c.in_ok-now.ensures.plain

pub write_alternatives-loop-part-preserved : goal.write_alternatives-loop-part-preserved
write_alternatives-loop-part-preserved t c =
    chaining-either c.args.p.now.rows (max c.args.first c.args.rest)
    (either (piece_at c.args.p.now.rows c.args.first) (piece_at c.args.p.now.rows c.args.rest)) c.args.next c.args.code.now.items
    c.loop-part.parts.items c.pop.new.self.items c.in-Some.part c.loop-part.code.items c.write_piece-in-Some.new.code.items
    c.emit.new.code.items c.loop-part.now c.in_ok-turn.turn c.in_ok-now-2.now
    c.in-Some.ensures.items c.in_ok-turn.ensures.writes c.in_ok-turn.ensures.grown c.in_ok-turn.ensures.plain c.in_ok-now-2.ensures.code
    c.in_ok-now-2.ensures.pc
    (rw (c.in_ok-now-2.ensures.code, c.in_ok-now-2.ensures.pc, length-append) (omega arith))
    (rw (c.in_ok-now-2.ensures.code, length-append) (omega arith)) c.loop-part.invariant

pub write_sequence-write_piece-requires-in-Some : goal.write_sequence-write_piece-requires-in-Some
write_sequence-write_piece-requires-in-Some t c =
    let f = part-fits c.args.p.now.rows true (max c.args.first c.args.rest)
    (seq (piece_at c.args.p.now.rows c.args.first) (piece_at c.args.p.now.rows c.args.rest)) c.args.next c.args.code.now.items
    c.loop-part.parts.items c.pop.new.self.items c.in-Some.part c.loop-part.code.items c.loop-part.now c.in-Some.ensures.items
    c.loop-part.invariant in
    let a = c.requires.first.0 in
    let b = c.requires.rest.0 in
    let l = f.0 in
    (omega (arith, l), (omega (arith, l, a, b), (f.1, c.loop-part.invariant.within)))

pub write_alternatives-write_piece-requires-in-Some : goal.write_alternatives-write_piece-requires-in-Some
write_alternatives-write_piece-requires-in-Some t c =
    let f = part-fits c.args.p.now.rows false (max c.args.first c.args.rest)
    (either (piece_at c.args.p.now.rows c.args.first) (piece_at c.args.p.now.rows c.args.rest)) c.args.next c.args.code.now.items
    c.loop-part.parts.items c.pop.new.self.items c.in-Some.part c.loop-part.code.items c.loop-part.now c.in-Some.ensures.items
    c.loop-part.invariant in
    let a = c.requires.first.0 in
    let b = c.requires.rest.0 in
    let l = f.0 in (
      omega (arith, l),
      (
        omega (arith, l, a, b),
        (
          f.1,
          (let w = c.loop-part.invariant.within in let g = c.loop-part.invariant.grown in
              let n = c.requires.next in omega (arith, g, n)),
        ),
      ),
    )
