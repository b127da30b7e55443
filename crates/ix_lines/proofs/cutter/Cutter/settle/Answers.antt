use Rattle.std.proofs.Common.{◌≡◌, ◌∙◌, ap, ◌+◌, ◌*◌, ◌-◌, ◌≤◌, List, drop, take, length, refl, sym, subst, arith, ℕ, rules, w64}
use mir.Val.{SFits}
use Rattle.std.specs.List.{zip}
use Rattle.std.proofs.Math.Facts.{to_z-of_z}
use Rattle.std.proofs.Math.Nat.{le_trans}
use Rattle.std.proofs.lemmas.List.{length-drop, length-take}
use Rattle.std.proofs.lemmas.Result.{IfOk-from_err}
use Rattle.ix_pattern.specs.Rows.{Shape}
use Rattle.ix_match.specs.Attempt.{reach}
use Rattle.ix_lines.specs.Walk.{walk}
use Rattle.ix_lines.specs.Breaks.{breaks_by}
use Rattle.ix_lines.specs.Moments.{moments_of}
use Rattle.ix_lines.specs.Pending.{dated_in}
use Rattle.ix_match.specs.Scans.{GoesOn}
use Rattle.ix_lines.specs.Seek.{last_byte, seek, IsWithin, end_of, most_looks}
use Rattle.ix_lines.specs.Begun.{IsBegun, StopsBegun}
use Rattle.ix_lines.proofs.Looking.{there, moved-on, searched, searched-again}
use Rattle.ix_lines.specs.Settle.{Settles}
use Rattle.ix_lines.specs.declared.breaks.Found.{Found}
use Rattle.ix_lines.specs.declared.breaks.Found.TheVariants.{Break, Stop}
use Rattle.ix_lines.proofs.Answering.{any-err}
use Rattle.ix_lines.proofs.SeekLemmas.{rest-is}
use Rattle.ix_lines.proofs.Settling.{came-first, stop-within, break-within, part-is, bytes-taken, sought, came-break, came-stop, came-some}
use Rattle.ix_lines.proofs.Settling.{moment-is, part-lent}
use Rattle.ix_lines.proofs.cutter.Cutter.settle.Goals as goal

pub loop-found-init : goal.loop-found-init
loop-found-init g c =
    let p = c.args.pending.now in
    record {
      order = omega arith;
      within = omega arith;
      points = c.new-cursor.ensures.stands c.as_slice-runs.result.now;
      behind = omega (arith, c.new-cursor.ensures.passed);
      came = λ stretch keeps.
          came-first (breaks_by c.args.self.now.breaker.pattern) c.args.unfinished c.args.self.now.truncate p.before (dated_in p) stretch
          c.args.self.now.kept c.args.out.now keeps;
      breaker = refl;
      goes_on = c.requires.goes_on;
      first = λ start. refl;
      counted = omega arith;
      again = λ begun. omega arith;
      truncate = refl;
      lines = λ short. short;
      later = omega arith;
    }

pub moment_at-moment-requires-clause-stands : goal.moment_at-moment-requires-clause-stands
moment_at-moment-requires-clause-stands g c = c.loop-found.invariant.points

pub moment_at-moment-requires-clause-on : goal.moment_at-moment-requires-clause-on
moment_at-moment-requires-clause-on g c = c.loop-found.invariant.behind

pub returns-in_err-found-clause-walk : goal.returns-in_err-found-clause-walk
returns-in_err-found-clause-walk g c = IfOk-from_err c.from_residual.result _ c.from_residual.ensures.0

pub returns-in_err-found-clause-within : goal.returns-in_err-found-clause-within
returns-in_err-found-clause-within g c = IfOk-from_err c.from_residual.result _ c.from_residual.ensures.0

pub returns-in_err-found-clause-short : goal.returns-in_err-found-clause-short
returns-in_err-found-clause-short g c = IfOk-from_err c.from_residual.result _ c.from_residual.ensures.0

pub returns-in_err-found-clause-goes_on : goal.returns-in_err-found-clause-goes_on
returns-in_err-found-clause-goes_on g c = IfOk-from_err c.from_residual.result _ c.from_residual.ensures.0

pub returns-in_err-found-clause-begun : goal.returns-in_err-found-clause-begun
returns-in_err-found-clause-begun g c = IfOk-from_err c.from_residual.result _ c.from_residual.ensures.0

pub returns-in_err-found-clause-counted : goal.returns-in_err-found-clause-counted
returns-in_err-found-clause-counted g c = IfOk-from_err c.from_residual.result _ c.from_residual.ensures.0

pub returns-in_err-found-clause-again : goal.returns-in_err-found-clause-again
returns-in_err-found-clause-again g c = IfOk-from_err c.from_residual.result _ c.from_residual.ensures.0

pub returns-in_err-add-in-Stop-clause-walk : goal.returns-in_err-add-in-Stop-clause-walk
returns-in_err-add-in-Stop-clause-walk g c = IfOk-from_err c.from_residual-in_err-add-in-Stop.result _
    c.from_residual-in_err-add-in-Stop.ensures.0

pub returns-in_err-add-in-Stop-clause-within : goal.returns-in_err-add-in-Stop-clause-within
returns-in_err-add-in-Stop-clause-within g c = IfOk-from_err c.from_residual-in_err-add-in-Stop.result _
    c.from_residual-in_err-add-in-Stop.ensures.0

pub returns-in_err-add-in-Stop-clause-short : goal.returns-in_err-add-in-Stop-clause-short
returns-in_err-add-in-Stop-clause-short g c = IfOk-from_err c.from_residual-in_err-add-in-Stop.result _
    c.from_residual-in_err-add-in-Stop.ensures.0

pub returns-in_err-add-in-Stop-clause-goes_on : goal.returns-in_err-add-in-Stop-clause-goes_on
returns-in_err-add-in-Stop-clause-goes_on g c = IfOk-from_err c.from_residual-in_err-add-in-Stop.result _
    c.from_residual-in_err-add-in-Stop.ensures.0

pub returns-in_err-add-in-Stop-clause-begun : goal.returns-in_err-add-in-Stop-clause-begun
returns-in_err-add-in-Stop-clause-begun g c = IfOk-from_err c.from_residual-in_err-add-in-Stop.result _
    c.from_residual-in_err-add-in-Stop.ensures.0

pub returns-in_err-add-in-Stop-clause-counted : goal.returns-in_err-add-in-Stop-clause-counted
returns-in_err-add-in-Stop-clause-counted g c = IfOk-from_err c.from_residual-in_err-add-in-Stop.result _
    c.from_residual-in_err-add-in-Stop.ensures.0

pub returns-in_err-add-in-Stop-clause-again : goal.returns-in_err-add-in-Stop-clause-again
returns-in_err-add-in-Stop-clause-again g c = IfOk-from_err c.from_residual-in_err-add-in-Stop.result _
    c.from_residual-in_err-add-in-Stop.ensures.0

pub returns-in_err-end_line-in-Break-clause-walk : goal.returns-in_err-end_line-in-Break-clause-walk
returns-in_err-end_line-in-Break-clause-walk g c = IfOk-from_err c.from_residual-in_err-end_line-in-Break.result _
    c.from_residual-in_err-end_line-in-Break.ensures.0

pub returns-in_err-end_line-in-Break-clause-within : goal.returns-in_err-end_line-in-Break-clause-within
returns-in_err-end_line-in-Break-clause-within g c = IfOk-from_err c.from_residual-in_err-end_line-in-Break.result _
    c.from_residual-in_err-end_line-in-Break.ensures.0

pub returns-in_err-end_line-in-Break-clause-short : goal.returns-in_err-end_line-in-Break-clause-short
returns-in_err-end_line-in-Break-clause-short g c = IfOk-from_err c.from_residual-in_err-end_line-in-Break.result _
    c.from_residual-in_err-end_line-in-Break.ensures.0

pub returns-in_err-end_line-in-Break-clause-goes_on : goal.returns-in_err-end_line-in-Break-clause-goes_on
returns-in_err-end_line-in-Break-clause-goes_on g c = IfOk-from_err c.from_residual-in_err-end_line-in-Break.result _
    c.from_residual-in_err-end_line-in-Break.ensures.0

pub returns-in_err-end_line-in-Break-clause-begun : goal.returns-in_err-end_line-in-Break-clause-begun
returns-in_err-end_line-in-Break-clause-begun g c = IfOk-from_err c.from_residual-in_err-end_line-in-Break.result _
    c.from_residual-in_err-end_line-in-Break.ensures.0

pub returns-in_err-end_line-in-Break-clause-counted : goal.returns-in_err-end_line-in-Break-clause-counted
returns-in_err-end_line-in-Break-clause-counted g c = IfOk-from_err c.from_residual-in_err-end_line-in-Break.result _
    c.from_residual-in_err-end_line-in-Break.ensures.0

pub returns-in_err-end_line-in-Break-clause-again : goal.returns-in_err-end_line-in-Break-clause-again
returns-in_err-end_line-in-Break-clause-again g c = IfOk-from_err c.from_residual-in_err-end_line-in-Break.result _
    c.from_residual-in_err-end_line-in-Break.ensures.0

pub returns-in_err-found-clause-breaker : goal.returns-in_err-found-clause-breaker
returns-in_err-found-clause-breaker g c = c.seek.ensures.pattern ∙ c.loop-found.invariant.breaker

pub returns-in_err-found-clause-truncate : goal.returns-in_err-found-clause-truncate
returns-in_err-found-clause-truncate g c = c.loop-found.invariant.truncate

pub returns-in_err-found-clause-later : goal.returns-in_err-found-clause-later
returns-in_err-found-clause-later g c = le_trans c.loop-found.invariant.later c.seek.ensures.later

pub returns-in_err-found-clause-lines : goal.returns-in_err-found-clause-lines
returns-in_err-found-clause-lines g c = c.loop-found.invariant.lines

pub returns-in_err-add-in-Stop-clause-breaker : goal.returns-in_err-add-in-Stop-clause-breaker
returns-in_err-add-in-Stop-clause-breaker g c = c.seek.ensures.pattern ∙ c.loop-found.invariant.breaker

pub returns-in_err-add-in-Stop-clause-truncate : goal.returns-in_err-add-in-Stop-clause-truncate
returns-in_err-add-in-Stop-clause-truncate g c = c.loop-found.invariant.truncate

pub returns-in_err-add-in-Stop-clause-later : goal.returns-in_err-add-in-Stop-clause-later
returns-in_err-add-in-Stop-clause-later g c = le_trans c.loop-found.invariant.later c.seek.ensures.later

pub returns-in_err-add-in-Stop-clause-lines : goal.returns-in_err-add-in-Stop-clause-lines
returns-in_err-add-in-Stop-clause-lines g c = c.loop-found.invariant.lines

pub returns-in_err-end_line-in-Break-clause-breaker : goal.returns-in_err-end_line-in-Break-clause-breaker
returns-in_err-end_line-in-Break-clause-breaker g c = c.seek.ensures.pattern ∙ c.loop-found.invariant.breaker

pub returns-in_err-end_line-in-Break-clause-truncate : goal.returns-in_err-end_line-in-Break-clause-truncate
returns-in_err-end_line-in-Break-clause-truncate g c = c.loop-found.invariant.truncate

pub returns-in_err-end_line-in-Break-clause-later : goal.returns-in_err-end_line-in-Break-clause-later
returns-in_err-end_line-in-Break-clause-later g c = le_trans c.loop-found.invariant.later c.seek.ensures.later

pub returns-in_err-end_line-in-Break-clause-lines : goal.returns-in_err-end_line-in-Break-clause-lines
returns-in_err-end_line-in-Break-clause-lines g c = λ short. c.end_line.ensures.short (c.loop-found.invariant.lines short)

pub returns-in-Stop-clause-breaker : goal.returns-in-Stop-clause-breaker
returns-in-Stop-clause-breaker g c = c.seek.ensures.pattern ∙ c.loop-found.invariant.breaker

pub returns-in-Stop-clause-truncate : goal.returns-in-Stop-clause-truncate
returns-in-Stop-clause-truncate g c = c.loop-found.invariant.truncate

pub returns-in-Stop-clause-later : goal.returns-in-Stop-clause-later
returns-in-Stop-clause-later g c = le_trans c.loop-found.invariant.later c.seek.ensures.later

pub returns-in-Stop-clause-lines : goal.returns-in-Stop-clause-lines
returns-in-Stop-clause-lines g c = c.loop-found.invariant.lines

pub overflow_add-at : goal.overflow_add-at
overflow_add-at g c =
    let all = c.as_slice-bytes.result.now in
    let w = stop-within all c.loop-found.at c.in-Stop.n reach c.in_ok-found.found c.in-Stop.is c.loop-found.invariant.within
    c.in_ok-found.ensures.within in
    omega (arith, w.0)

pub slice_bounds-add-end : goal.slice_bounds-add-end
slice_bounds-add-end g c =
    let all = c.as_slice-bytes.result.now in
    let w = stop-within all c.loop-found.at c.in-Stop.n reach c.in_ok-found.found c.in-Stop.is c.loop-found.invariant.within
    c.in_ok-found.ensures.within in
    omega (arith, w.0)

pub overflow_add-result : goal.overflow_add-result
overflow_add-result g c =
    let all = c.as_slice-bytes.result.now in
    let w = stop-within all c.loop-found.at c.in-Stop.n reach c.in_ok-found.found c.in-Stop.is c.loop-found.invariant.within
    c.in_ok-found.ensures.within in
    omega (arith, w.0)

pub returns-in-Stop-clause-within : goal.returns-in-Stop-clause-within
returns-in-Stop-clause-within g c =
    let all = c.as_slice-bytes.result.now in
    let w = stop-within all c.loop-found.at c.in-Stop.n reach c.in_ok-found.found c.in-Stop.is c.loop-found.invariant.within
    c.in_ok-found.ensures.within in
    omega (arith, w.0, ap length c.as_slice-bytes.ensures)

pub returns-in-Stop-clause-short : goal.returns-in-Stop-clause-short
returns-in-Stop-clause-short g c =
    let all = c.as_slice-bytes.result.now in
    let w = stop-within all c.loop-found.at c.in-Stop.n reach c.in_ok-found.found c.in-Stop.is c.loop-found.invariant.within
    c.in_ok-found.ensures.within in
    omega (arith, w.1, ap length c.as_slice-bytes.ensures)

pub overflow_add-part : goal.overflow_add-part
overflow_add-part g c =
    let all = c.as_slice-bytes.result.now in
    let w = break-within all c.loop-found.at c.in-Break.from c.in-Break.to c.in-Break.end reach c.in_ok-found.found c.in-Break.is
    c.loop-found.invariant.within c.in_ok-found.ensures.within in
    omega arith

pub slice_bounds-part-end : goal.slice_bounds-part-end
slice_bounds-part-end g c =
    let all = c.as_slice-bytes.result.now in
    let w = break-within all c.loop-found.at c.in-Break.from c.in-Break.to c.in-Break.end reach c.in_ok-found.found c.in-Break.is
    c.loop-found.invariant.within c.in_ok-found.ensures.within in
    omega arith

pub overflow_add-start : goal.overflow_add-start
overflow_add-start g c =
    let all = c.as_slice-bytes.result.now in
    let w = break-within all c.loop-found.at c.in-Break.from c.in-Break.to c.in-Break.end reach c.in_ok-found.found c.in-Break.is
    c.loop-found.invariant.within c.in_ok-found.ensures.within in
    omega arith

pub overflow_add-at-in-Break : goal.overflow_add-at-in-Break
overflow_add-at-in-Break g c =
    let all = c.as_slice-bytes.result.now in
    let w = break-within all c.loop-found.at c.in-Break.from c.in-Break.to c.in-Break.end reach c.in_ok-found.found c.in-Break.is
    c.loop-found.invariant.within c.in_ok-found.ensures.within in
    omega arith

pub loop-found-smaller : goal.loop-found-smaller
loop-found-smaller g c =
    let all = c.as_slice-bytes.result.now in
    let w = break-within all c.loop-found.at c.in-Break.from c.in-Break.to c.in-Break.end reach c.in_ok-found.found c.in-Break.is
    c.loop-found.invariant.within c.in_ok-found.ensures.within in
    omega (arith, w.2, w.3)

pub returns-in_err-found-clause-err : goal.returns-in_err-found-clause-err
returns-in_err-found-clause-err g c = any-err c.from_residual.result (λ stretch keeps.
    came-some (breaks_by c.args.self.now.breaker.pattern) c.args.unfinished c.args.self.now.truncate _ c.args.pending.now.before _
    c.loop-found.start c.loop-found.at c.loop-found.self.kept
    c.args.out.now c.loop-found.out c.loop-found.out (c.loop-found.invariant.came stretch keeps) refl)

pub returns-in_err-add-in-Stop-clause-err : goal.returns-in_err-add-in-Stop-clause-err
returns-in_err-add-in-Stop-clause-err g c = any-err c.from_residual-in_err-add-in-Stop.result (λ stretch keeps.
    came-some (breaks_by c.args.self.now.breaker.pattern) c.args.unfinished c.args.self.now.truncate _ c.args.pending.now.before _
    c.loop-found.start c.loop-found.at c.loop-found.self.kept
    c.args.out.now c.loop-found.out c.loop-found.out (c.loop-found.invariant.came stretch keeps) refl)

pub returns-in_err-end_line-in-Break-clause-err : goal.returns-in_err-end_line-in-Break-clause-err
returns-in_err-end_line-in-Break-clause-err g c = any-err c.from_residual-in_err-end_line-in-Break.result (λ stretch keeps.
    came-some (breaks_by c.args.self.now.breaker.pattern) c.args.unfinished c.args.self.now.truncate _ c.args.pending.now.before _
    c.loop-found.start c.loop-found.at c.loop-found.self.kept
    c.args.out.now c.loop-found.out c.end_line.new.out (c.loop-found.invariant.came stretch keeps) c.in_err-end_line-in-Break.ensures.err)

pub returns-in-Stop-clause-walk : goal.returns-in-Stop-clause-walk
returns-in-Stop-clause-walk g c = λ stretch keeps.
    let p = c.args.pending.now in
    let bs = p.bytes in
    let ms = moments_of p.runs.items in
    let all = c.as_slice-bytes.result.now in
    let is : all ≡ bs = c.as_slice-bytes.ensures in
    let at = c.loop-found.at in
    let start = c.loop-found.start in
    let end = c.loop-found.at + c.in-Stop.n in
    let inv = c.loop-found.invariant in
    let m = c.moment_at-moment.result in
    let fits : SFits w64 m = search rules in
    let moment = moment-is p.runs.items c.as_slice-runs.result.now start m c.as_slice-runs.ensures.value c.moment_at-moment.ensures.moment
    in
    let f = sought (breaks_by c.args.self.now.breaker.pattern) c.args.unfinished p.before c.last_byte-before.result bs
    (take (length all - at) (drop at all)) ms at (Stop c.in-Stop.n) c.requires.paired
    (c.last_byte-before.ensures ∙ ap (λ l. last_byte p.before (take at l)) is) (rest-is all at ∙ ap (drop at) is)
    (sym c.in-Stop.is ∙ c.in_ok-found.ensures.is
    ∙ ap (λ (q : Shape). seek (breaks_by q) c.args.unfinished c.last_byte-before.result (take (length all - at) (drop at all))) inv.breaker)
    in
    subst (λ (b : List ℕ). Settles c.args.self.now.truncate
    (walk (breaks_by c.args.self.now.breaker.pattern) c.args.unfinished p.before stretch 0 (zip bs ms)) (last_byte p.before b)
    c.add.new.self
    (drop end (zip bs ms)) c.args.out.now c.loop-found.out)
    (bytes-taken bs ms end c.requires.paired)
    (came-stop (breaks_by c.args.self.now.breaker.pattern) c.requires.stable c.args.unfinished c.args.self.now.truncate _ p.before
    (zip bs ms) start at c.in-Stop.n
    c.loop-found.self.kept c.add.new.self c.args.out.now c.loop-found.out _ m (inv.came stretch keeps) inv.order f
    (part-is bs ms start end m c.requires.paired moment)
    (λ s q k part. c.in_ok-add-in-Stop.ensures s q k (part-lent bs all start end m _ q is (to_z-of_z fits) part)))

pub loop-found-preserved : goal.loop-found-preserved
loop-found-preserved g c =
    let p = c.args.pending.now in
    let bs = p.bytes in
    let ms = moments_of p.runs.items in
    let all = c.as_slice-bytes.result.now in
    let is : all ≡ bs = c.as_slice-bytes.ensures in
    let at = c.loop-found.at in
    let start = c.loop-found.start in
    let end = c.loop-found.at + c.in-Break.from in
    let inv = c.loop-found.invariant in
    let m = c.moment_at-moment.result in
    let fits : SFits w64 m = search rules in
    let moment = moment-is p.runs.items c.as_slice-runs.result.now start m c.as_slice-runs.ensures.value c.moment_at-moment.ensures.moment
    in
    let w = subst (λ (f : Found). IsWithin f (length (take (length all - at) (drop at all))) reach) c.in-Break.is
    c.in_ok-found.ensures.within in
    let f = sought (breaks_by c.args.self.now.breaker.pattern) c.args.unfinished p.before c.last_byte-before.result bs
    (take (length all - at) (drop at all)) ms at
    (Break c.in-Break.from c.in-Break.to c.in-Break.end) c.requires.paired
    (c.last_byte-before.ensures ∙ ap (λ l. last_byte p.before (take at l)) is) (rest-is all at ∙ ap (drop at) is)
    (sym c.in-Break.is ∙ c.in_ok-found.ensures.is
    ∙ ap (λ (q : Shape). seek (breaks_by q) c.args.unfinished c.last_byte-before.result (take (length all - at) (drop at all))) inv.breaker)
    in
    record {
      order = omega (arith, w.1);
      within = omega (arith, w.3, inv.within, length-take (length all - at) (drop at all), length-drop at all);
      points = c.moment_at-moment.ensures.stands;
      behind = omega (arith, c.moment_at-moment.ensures.on, inv.order);
      came = λ stretch keeps.
          came-break (breaks_by c.args.self.now.breaker.pattern) c.requires.stable c.args.unfinished c.args.self.now.truncate _ p.before
          (zip bs ms) start at c.in-Break.from c.in-Break.to c.in-Break.end
          c.loop-found.self.kept c.end_line.new.self c.args.out.now c.loop-found.out c.end_line.new.out _ m (inv.came stretch keeps)
          inv.order w.1 f
          (part-is bs ms start end m c.requires.paired moment)
          (λ s q k part. c.in_ok-end_line-in-Break.ensures.ok s q k (part-lent bs all start end m _ q is (to_z-of_z fits) part));
      breaker = c.in_ok-found.ensures.pattern ∙ inv.breaker;
      goes_on = moved-on c.seek.new.self.scan p.before c.last_byte-before.result bs (take (length all - at) (drop at all)) at c.in-Break.end
          (c.last_byte-before.ensures ∙ ap (λ l. last_byte p.before (take at l)) is) (rest-is all at ∙ ap (drop at) is)
          (subst (λ (f : Found). GoesOn c.seek.new.self.scan
          (last_byte c.last_byte-before.result (take (end_of f) (take (length all - at) (drop at all))))
          (drop (end_of f) (take (length all - at) (drop at all))))
          c.in-Break.is c.in_ok-found.ensures.goes_on);
      counted = searched c.args.self.now.breaker.pattern c.loop-found.self.breaker.pattern at c.in-Break.end (at + c.in-Break.end)
          c.args.steps.now c.loop-found.steps c.seek.new.steps inv.breaker refl inv.counted
          (subst (λ (f : Found). c.seek.new.steps ≤ c.loop-found.steps + c.loop-found.self.breaker.pattern.weight * 512 * most_looks f)
          c.in-Break.is c.in_ok-found.ensures.counted);
      first = λ none. absurd (omega (arith, none, w.2));
      again = λ begun.
          searched-again c.args.self.now.breaker.pattern c.loop-found.self.breaker.pattern c.args.self.now.breaker c.loop-found.self.breaker
          at c.in-Break.end (at + c.in-Break.end - 1)
          c.args.steps.now c.loop-found.steps c.seek.new.steps inv.breaker w.2 (omega (arith, w.2)) inv.first begun (inv.again begun)
          (subst (λ (f : Found). c.seek.new.steps ≤ c.loop-found.steps + c.loop-found.self.breaker.pattern.weight * 512 * most_looks f)
          c.in-Break.is c.in_ok-found.ensures.counted)
          (subst (λ (f : Found). IsBegun c.loop-found.self.breaker →
          c.seek.new.steps ≤ c.loop-found.steps + c.loop-found.self.breaker.pattern.weight * 512 * (most_looks f - 1))
          c.in-Break.is c.in_ok-found.ensures.again);
      truncate = inv.truncate;
      lines = λ short. c.in_ok-end_line-in-Break.ensures.short (inv.lines short);
      later = omega (arith, inv.later, c.in_ok-found.ensures.later);
    }

pub seek-requires : goal.seek-requires
seek-requires g c =
    let p = c.args.pending.now in
    let all = c.as_slice-bytes.result.now in
    let is : all ≡ p.bytes = c.as_slice-bytes.ensures in
    let at = c.loop-found.at in
    there c.loop-found.self.breaker.scan c.last_byte-before.result _ (take (length all - at) (drop at all)) _
    (sym (c.last_byte-before.ensures ∙ ap (λ l. last_byte p.before (take at l)) is))
    (sym (rest-is all at ∙ ap (drop at) is)) c.loop-found.invariant.goes_on

pub returns-in-Stop-clause-goes_on : goal.returns-in-Stop-clause-goes_on
returns-in-Stop-clause-goes_on g c =
    let p = c.args.pending.now in
    let all = c.as_slice-bytes.result.now in
    let is : all ≡ p.bytes = c.as_slice-bytes.ensures in
    let at = c.loop-found.at in
    moved-on c.seek.new.self.scan p.before c.last_byte-before.result p.bytes (take (length all - at) (drop at all)) at c.in-Stop.n
    (c.last_byte-before.ensures ∙ ap (λ l. last_byte p.before (take at l)) is) (rest-is all at ∙ ap (drop at) is)
    (subst (λ (f : Found). GoesOn c.seek.new.self.scan (last_byte c.last_byte-before.result
    (take (end_of f) (take (length all - at) (drop at all)))) (drop (end_of f) (take (length all - at) (drop at all))))
    c.in-Stop.is c.in_ok-found.ensures.goes_on)

pub returns-in-Stop-clause-counted : goal.returns-in-Stop-clause-counted
returns-in-Stop-clause-counted g c =
    let inv = c.loop-found.invariant in
    let at = c.loop-found.at in
    searched c.args.self.now.breaker.pattern c.loop-found.self.breaker.pattern at (c.in-Stop.n + 1) (at + c.in-Stop.n + 1) c.args.steps.now
    c.loop-found.steps c.seek.new.steps inv.breaker (omega arith) inv.counted
    (subst (λ (f : Found). c.seek.new.steps ≤ c.loop-found.steps + c.loop-found.self.breaker.pattern.weight * 512 * most_looks f)
    c.in-Stop.is c.in_ok-found.ensures.counted)

pub returns-in-Stop-clause-begun : goal.returns-in-Stop-clause-begun
returns-in-Stop-clause-begun g c = λ before.
    let all = c.as_slice-bytes.result.now in
    let is : length all ≡ length c.args.pending.now.bytes = ap length c.as_slice-bytes.ensures in
    let at = c.loop-found.at in
    let slice = take (length all - at) (drop at all) in
    subst (λ (f : Found). StopsBegun f (length slice) c.seek.new.self) c.in-Stop.is c.in_ok-found.ensures.begun
    (omega (arith, before, is, length-drop at all, ap length (rest-is all at)))

pub returns-in-Stop-clause-again : goal.returns-in-Stop-clause-again
returns-in-Stop-clause-again g c = λ begun.
    let inv = c.loop-found.invariant in
    let at = c.loop-found.at in
    searched-again c.args.self.now.breaker.pattern c.loop-found.self.breaker.pattern c.args.self.now.breaker c.loop-found.self.breaker at
    (c.in-Stop.n + 1) (at + c.in-Stop.n)
    c.args.steps.now c.loop-found.steps c.seek.new.steps inv.breaker (omega arith) (omega arith) inv.first begun (inv.again begun)
    (subst (λ (f : Found). c.seek.new.steps ≤ c.loop-found.steps + c.loop-found.self.breaker.pattern.weight * 512 * most_looks f)
    c.in-Stop.is c.in_ok-found.ensures.counted)
    (subst (λ (f : Found). IsBegun c.loop-found.self.breaker →
    c.seek.new.steps ≤ c.loop-found.steps + c.loop-found.self.breaker.pattern.weight * 512 * (most_looks f - 1))
    c.in-Stop.is c.in_ok-found.ensures.again)
