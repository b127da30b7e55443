use Rattle.std.proofs.Common.{◌≡◌, ℕ, ◌+◌, ◌-◌, ◌<◌, ◌≤◌, Bool, List, length, take, drop, get_or, Option, refl, sym, ◌∙◌, ap, subst, arith}
use Rattle.std.specs.Prelude.{not, take_while, ◌≢◌}
use Rattle.std.proofs.lemmas.List.{length-drop}
use Rattle.std.proofs.lemmas.Result.{IfOk-from_err}
use Rattle.std.proofs.Math.Nat.{le_trans}
use Rattle.ix_pattern.specs.Piece.{in_set}
use Rattle.ix_pattern.specs.Rows.{Shape}
use Rattle.ix_match.specs.Attempt.{reach}
use Rattle.ix_match.specs.Starts.{AreStarts}
use Rattle.ix_lines.specs.Begun.{Breaking}
use Rattle.ix_lines.specs.Walk.{Look}
use Rattle.ix_lines.specs.Breaks.{breaks_by}
use Rattle.ix_lines.specs.Seek.{look_of, IsSized, last_byte, seek}
use Rattle.ix_lines.specs.declared.breaks.BreakLook.{BreakLook}
use Rattle.ix_lines.specs.declared.breaks.BreakLook.TheVariants.{Match}
use Rattle.ix_lines.proofs.SeekLemmas.{Sought, past-zero, sought-none, sought-more, sought-match, sought-end, looked-at, rest-is}
use Rattle.ix_lines.proofs.Attempts.{breaks-wait, sought-over, over-within}
use Rattle.ix_lines.proofs.Looking.{anew, stood, there, one-more, no-more, one-again}
use Rattle.ix_match.proofs.StartLemmas.{reach-some}
use Rattle.ix_lines.proofs.breaks.Breaker.seek.Goals as goal

-- the place of the next attempt, and what it comes to
placed : (p q now : Shape) (starts : List Bool) (u : Bool) (before r : Option ℕ) (bytes : List ℕ) (at n : ℕ) (l : Look) →
    AreStarts q starts → q ≡ now → now ≡ p → ((k : ℕ) → get_or bytes k 0 < 256) → at ≤ length bytes →
    Sought (breaks_by p) u before bytes at →
    n ≡ length (take_while (λ b. not (in_set starts b)) (take (length bytes - at) (drop at bytes))) → at + n ≢ length bytes →
    r ≡ last_byte before (take (at + n) bytes) → l ≡ breaks_by now r (take (length bytes - (at + n)) (drop (at + n) bytes)) u →
    Sought (breaks_by p) u before bytes (at + n) × (at + n < length bytes)
    × (breaks_by p (last_byte before (take (at + n) bytes)) (drop (at + n) bytes) u ≡ l)
placed p q now starts u before r bytes at n l are same same' low h s over far b e =
    let within = over-within (λ b. not (in_set starts b)) bytes at n h over in (
      sought-over p q starts u before bytes at n are (same ∙ same') low s over,
      omega (arith, within, far),
      looked-at (breaks_by p) u before r bytes (take (length bytes - (at + n)) (drop (at + n) bytes)) (at + n) l b (rest-is bytes (at + n))
          (e ∙ ap (λ x. breaks_by x r (take (length bytes - (at + n)) (drop (at + n) bytes)) u) same'),
    )

-- a match lies within the bytes
match-within : (bytes : List ℕ) (place from to end : ℕ) (l : BreakLook) → l ≡ Match from to end → place ≤ length bytes →
    IsSized l (length (take (length bytes - place) (drop place bytes))) → (from ≤ to) × (to ≤ end) × (0 < end)
    × (place + end ≤ length bytes)
match-within bytes place from to end l is h sized =
    let m = subst (λ (x : BreakLook). IsSized x (length (take (length bytes - place) (drop place bytes)))) is sized in
    let e : length (take (length bytes - place) (drop place bytes)) ≡ length bytes - place = ap length (rest-is bytes place)
    ∙ length-drop place bytes in
    (m.0, m.1, m.2, omega (arith, m.3, e, h))

pub loop-at-init : goal.loop-at-init
loop-at-init g c = record {
  within = omega arith;
  sought = past-zero (seek (breaks_by c.args.self.now.pattern) c.args.unfinished c.args.before c.args.bytes.now);
  pattern = refl;
  first = λ start. refl;
  counted = omega arith;
  again = λ begun. omega arith;
  later = omega arith;
}

pub overflow_add-place : goal.overflow_add-place
overflow_add-place g c =
    let within = over-within (λ b. not (in_set c.self.inside.scan.starts b)) c.args.bytes.now c.loop-at.at c.passed_over.result
    c.loop-at.invariant.within c.passed_over.ensures in
    omega (arith, within)

pub slice_bounds-look-start : goal.slice_bounds-look-start
slice_bounds-look-start g c =
    let within = over-within (λ b. not (in_set c.self.inside.scan.starts b)) c.args.bytes.now c.loop-at.at c.passed_over.result
    c.loop-at.invariant.within c.passed_over.ensures in
    omega (arith, within)

pub overflow_add-at : goal.overflow_add-at
overflow_add-at g c =
    let within = over-within (λ b. not (in_set c.self.inside.scan.starts b)) c.args.bytes.now c.loop-at.at c.passed_over.result
    c.loop-at.invariant.within c.passed_over.ensures in
    omega (arith, within, c.if-place-bytes.false)

pub loop-at-smaller : goal.loop-at-smaller
loop-at-smaller g c =
    let within = over-within (λ b. not (in_set c.self.inside.scan.starts b)) c.args.bytes.now c.loop-at.at c.passed_over.result
    c.loop-at.invariant.within c.passed_over.ensures in
    omega (arith, within, c.if-place-bytes.false)

pub overflow_add-place-in-Match : goal.overflow_add-place-in-Match
overflow_add-place-in-Match g c =
    let within = over-within (λ b. not (in_set c.self.inside.scan.starts b)) c.args.bytes.now c.loop-at.at c.passed_over.result
    c.loop-at.invariant.within c.passed_over.ensures in
    let place : ℕ = c.loop-at.at + c.passed_over.result in
    let sized = match-within c.args.bytes.now place c.in-Match.from c.in-Match.to c.in-Match.end c.in_ok-look.field-0 c.in-Match.is within
    c.in_ok-look.ensures.sized in
    omega arith

pub overflow_add-result : goal.overflow_add-result
overflow_add-result g c =
    let within = over-within (λ b. not (in_set c.self.inside.scan.starts b)) c.args.bytes.now c.loop-at.at c.passed_over.result
    c.loop-at.invariant.within c.passed_over.ensures in
    let place : ℕ = c.loop-at.at + c.passed_over.result in
    let sized = match-within c.args.bytes.now place c.in-Match.from c.in-Match.to c.in-Match.end c.in_ok-look.field-0 c.in-Match.is within
    c.in_ok-look.ensures.sized in
    omega arith

pub overflow_add-result-in-Match : goal.overflow_add-result-in-Match
overflow_add-result-in-Match g c =
    let within = over-within (λ b. not (in_set c.self.inside.scan.starts b)) c.args.bytes.now c.loop-at.at c.passed_over.result
    c.loop-at.invariant.within c.passed_over.ensures in
    let place : ℕ = c.loop-at.at + c.passed_over.result in
    let sized = match-within c.args.bytes.now place c.in-Match.from c.in-Match.to c.in-Match.end c.in_ok-look.field-0 c.in-Match.is within
    c.in_ok-look.ensures.sized in
    omega arith

pub overflow_add-result-in-Match-2 : goal.overflow_add-result-in-Match-2
overflow_add-result-in-Match-2 g c =
    let within = over-within (λ b. not (in_set c.self.inside.scan.starts b)) c.args.bytes.now c.loop-at.at c.passed_over.result
    c.loop-at.invariant.within c.passed_over.ensures in
    let place : ℕ = c.loop-at.at + c.passed_over.result in
    let sized = match-within c.args.bytes.now place c.in-Match.from c.in-Match.to c.in-Match.end c.in_ok-look.field-0 c.in-Match.is within
    c.in_ok-look.ensures.sized in
    omega arith

pub returns-in-Match-clause-within : goal.returns-in-Match-clause-within
returns-in-Match-clause-within g c =
    let within = over-within (λ b. not (in_set c.self.inside.scan.starts b)) c.args.bytes.now c.loop-at.at c.passed_over.result
    c.loop-at.invariant.within c.passed_over.ensures in
    let place : ℕ = c.loop-at.at + c.passed_over.result in
    let sized = match-within c.args.bytes.now place c.in-Match.from c.in-Match.to c.in-Match.end c.in_ok-look.field-0 c.in-Match.is within
    c.in_ok-look.ensures.sized in
    (omega (arith, sized.0), omega (arith, sized.1), omega (arith, sized.2), sized.3)

pub returns-in_err-look-clause-is : goal.returns-in_err-look-clause-is
returns-in_err-look-clause-is g c = IfOk-from_err c.from_residual.result _ c.from_residual.ensures.0

pub returns-in_err-look-clause-within : goal.returns-in_err-look-clause-within
returns-in_err-look-clause-within g c = IfOk-from_err c.from_residual.result _ c.from_residual.ensures.0

pub returns-in_err-look-clause-goes_on : goal.returns-in_err-look-clause-goes_on
returns-in_err-look-clause-goes_on g c = IfOk-from_err c.from_residual.result _ c.from_residual.ensures.0

pub returns-in_err-look-clause-begun : goal.returns-in_err-look-clause-begun
returns-in_err-look-clause-begun g c = IfOk-from_err c.from_residual.result _ c.from_residual.ensures.0

pub returns-in_err-look-clause-counted : goal.returns-in_err-look-clause-counted
returns-in_err-look-clause-counted g c = IfOk-from_err c.from_residual.result _ c.from_residual.ensures.0

pub returns-in_err-look-clause-again : goal.returns-in_err-look-clause-again
returns-in_err-look-clause-again g c = IfOk-from_err c.from_residual.result _ c.from_residual.ensures.0

pub returns-in_err-look-clause-pattern : goal.returns-in_err-look-clause-pattern
returns-in_err-look-clause-pattern g c = c.look.ensures.pattern ∙ c.stand.ensures.pattern ∙ c.loop-at.invariant.pattern

pub returns-then-place-bytes-clause-later : goal.returns-then-place-bytes-clause-later
returns-then-place-bytes-clause-later g c = c.loop-at.invariant.later

pub returns-clause-later : goal.returns-clause-later
returns-clause-later g c = c.loop-at.invariant.later

pub returns-in_err-look-clause-later : goal.returns-in_err-look-clause-later
returns-in_err-look-clause-later g c = le_trans c.loop-at.invariant.later c.look.ensures.later

pub returns-in-More-clause-later : goal.returns-in-More-clause-later
returns-in-More-clause-later g c = le_trans c.loop-at.invariant.later c.look.ensures.later

pub returns-in-Match-clause-later : goal.returns-in-Match-clause-later
returns-in-Match-clause-later g c = le_trans c.loop-at.invariant.later c.look.ensures.later

pub returns-clause-is : goal.returns-clause-is
returns-clause-is g c =
    sym (sought-end (breaks_by c.args.self.now.pattern) c.args.unfinished c.args.before c.args.bytes.now c.loop-at.at
    c.loop-at.invariant.sought (omega (arith, c.loop-at-test.false)))

pub look-requires : goal.look-requires
look-requires g c =
    let bs = c.args.bytes.now in
    let place : ℕ = c.loop-at.at + c.passed_over.result in
    stood c.args.self.now c.loop-at.self c.stand.new.self c.args.before c.last_byte.result bs (take (length bs - place) (drop place bs))
    c.loop-at.at place (omega arith)
    c.stand.ensures.first c.stand.ensures.other c.loop-at.invariant.first c.requires c.last_byte.ensures (rest-is bs place)

pub returns-then-place-bytes-clause-is : goal.returns-then-place-bytes-clause-is
returns-then-place-bytes-clause-is g c =
    let p = c.args.self.now.pattern in
    let same = ap (λ (b : Breaking). b.pattern) c.self.view_is ∙ c.loop-at.invariant.pattern in
    let s = sought-over p c.self.inside.pattern c.self.inside.scan.starts c.args.unfinished c.args.before c.args.bytes.now c.loop-at.at
    c.passed_over.result
    c.self.invariant.2 same (λ k. omega (arith, c.type_inv.bytes k)) c.loop-at.invariant.sought c.passed_over.ensures in
    sym (sought-end (breaks_by p) c.args.unfinished c.args.before c.args.bytes.now (c.loop-at.at + c.passed_over.result) s (omega arith))

pub returns-then-place-bytes-clause-within : goal.returns-then-place-bytes-clause-within
returns-then-place-bytes-clause-within g c = (omega arith, omega (arith, reach-some))

pub returns-then-place-bytes-clause-pattern : goal.returns-then-place-bytes-clause-pattern
returns-then-place-bytes-clause-pattern g c = c.stand.ensures.pattern ∙ c.loop-at.invariant.pattern

pub returns-then-place-bytes-clause-goes_on : goal.returns-then-place-bytes-clause-goes_on
returns-then-place-bytes-clause-goes_on g c =
    let place : ℕ = c.loop-at.at + c.passed_over.result in
    stood c.args.self.now c.loop-at.self c.stand.new.self c.args.before _ c.args.bytes.now _ c.loop-at.at place (omega arith)
    c.stand.ensures.first c.stand.ensures.other
    c.loop-at.invariant.first c.requires refl refl

pub returns-then-place-bytes-clause-begun : goal.returns-then-place-bytes-clause-begun
returns-then-place-bytes-clause-begun g c = λ before. absurd (omega (arith, before))

pub returns-then-place-bytes-clause-counted : goal.returns-then-place-bytes-clause-counted
returns-then-place-bytes-clause-counted g c = no-more c.args.self.now.pattern c.loop-at.at (c.loop-at.at + c.passed_over.result + 1) _ _
    (omega arith) c.loop-at.invariant.counted

pub returns-then-place-bytes-clause-again : goal.returns-then-place-bytes-clause-again
returns-then-place-bytes-clause-again g c = λ begun.
    no-more c.args.self.now.pattern (c.loop-at.at - 1) (c.loop-at.at + c.passed_over.result + 1 - 1) _ _ (omega arith)
    (c.loop-at.invariant.again begun)

pub loop-at-preserved : goal.loop-at-preserved
loop-at-preserved g c =
    let bs = c.args.bytes.now in
    let p = c.args.self.now.pattern in
    let same = ap (λ (b : Breaking). b.pattern) c.self.view_is ∙ sym c.stand.ensures.pattern in
    let pattern = c.stand.ensures.pattern ∙ c.loop-at.invariant.pattern in
    let at = placed p c.self.inside.pattern c.stand.new.self.pattern c.self.inside.scan.starts c.args.unfinished c.args.before
    c.last_byte.result bs
    c.loop-at.at c.passed_over.result (look_of c.in_ok-look.field-0) c.self.invariant.2 same pattern
    (λ k. omega (arith, c.type_inv.bytes k))
    c.loop-at.invariant.within c.loop-at.invariant.sought c.passed_over.ensures c.if-place-bytes.false c.last_byte.ensures
    c.in_ok-look.ensures.is in record {
      within = omega (arith, at.1);
      sought = sought-none (breaks_by p) c.args.unfinished c.args.before bs (c.loop-at.at + c.passed_over.result) at.0 at.1 (at.2
          ∙ ap look_of c.in-No.is);
      pattern = c.in_ok-look.ensures.pattern ∙ pattern;
      first = λ start. absurd (omega (arith, start));
      counted = one-more p c.stand.new.self.pattern c.loop-at.at (c.loop-at.at + c.passed_over.result + 1) _ _ _ pattern (omega arith)
          c.loop-at.invariant.counted c.in_ok-look.ensures.counted;
      again = λ begun.
          one-again c.args.self.now.pattern c.stand.new.self.pattern c.args.self.now c.loop-at.self c.stand.new.self c.loop-at.at
          (c.loop-at.at + c.passed_over.result) (c.loop-at.at + c.passed_over.result + 1 - 1) _ _ _
          pattern (omega arith) (omega arith) c.stand.ensures.first c.loop-at.invariant.first begun (c.loop-at.invariant.again begun)
          c.in_ok-look.ensures.counted c.look.ensures.again;
      later = omega (arith, c.loop-at.invariant.later, c.in_ok-look.ensures.later);
    }

pub returns-in-More-clause-is : goal.returns-in-More-clause-is
returns-in-More-clause-is g c =
    let bs = c.args.bytes.now in
    let p = c.args.self.now.pattern in
    let same = ap (λ (b : Breaking). b.pattern) c.self.view_is ∙ sym c.stand.ensures.pattern in
    let pattern = c.stand.ensures.pattern ∙ c.loop-at.invariant.pattern in
    let at = placed p c.self.inside.pattern c.stand.new.self.pattern c.self.inside.scan.starts c.args.unfinished c.args.before
    c.last_byte.result bs
    c.loop-at.at c.passed_over.result (look_of c.in_ok-look.field-0) c.self.invariant.2 same pattern
    (λ k. omega (arith, c.type_inv.bytes k))
    c.loop-at.invariant.within c.loop-at.invariant.sought c.passed_over.ensures c.if-place-bytes.false c.last_byte.ensures
    c.in_ok-look.ensures.is in
    sym (sought-more (breaks_by p) c.args.unfinished c.args.before bs (c.loop-at.at + c.passed_over.result) at.0 at.1 (at.2
    ∙ ap look_of c.in-More.is))

pub returns-in-More-clause-within : goal.returns-in-More-clause-within
returns-in-More-clause-within g c =
    let bs = c.args.bytes.now in
    let p = c.args.self.now.pattern in
    let same = ap (λ (b : Breaking). b.pattern) c.self.view_is ∙ sym c.stand.ensures.pattern in
    let pattern = c.stand.ensures.pattern ∙ c.loop-at.invariant.pattern in
    let at = placed p c.self.inside.pattern c.stand.new.self.pattern c.self.inside.scan.starts c.args.unfinished c.args.before
    c.last_byte.result bs
    c.loop-at.at c.passed_over.result (look_of c.in_ok-look.field-0) c.self.invariant.2 same pattern
    (λ k. omega (arith, c.type_inv.bytes k))
    c.loop-at.invariant.within c.loop-at.invariant.sought c.passed_over.ensures c.if-place-bytes.false c.last_byte.ensures
    c.in_ok-look.ensures.is in
    let place : ℕ = c.loop-at.at + c.passed_over.result in
    let waits : length (drop place bs) < reach = breaks-wait p (last_byte c.args.before (take place bs)) (drop place bs) c.args.unfinished
    (at.2 ∙ ap look_of c.in-More.is) in
    (omega (arith, at.1), omega (arith, waits, length-drop place bs))

pub returns-in-More-clause-pattern : goal.returns-in-More-clause-pattern
returns-in-More-clause-pattern g c = c.in_ok-look.ensures.pattern ∙ c.stand.ensures.pattern ∙ c.loop-at.invariant.pattern

pub returns-in-More-clause-goes_on : goal.returns-in-More-clause-goes_on
returns-in-More-clause-goes_on g c =
    there c.look.new.self.scan _ _ _ _ c.last_byte.ensures (rest-is c.args.bytes.now (c.loop-at.at + c.passed_over.result))
    c.in_ok-look.ensures.goes_on

pub returns-in-More-clause-begun : goal.returns-in-More-clause-begun
returns-in-More-clause-begun g c = λ before.
    let bs = c.args.bytes.now in
    let place : ℕ = c.loop-at.at + c.passed_over.result in
    c.in_ok-look.ensures.begun (omega (arith, before, length-drop place bs, ap length (rest-is bs place)))

pub returns-in-More-clause-counted : goal.returns-in-More-clause-counted
returns-in-More-clause-counted g c =
    one-more c.args.self.now.pattern c.stand.new.self.pattern c.loop-at.at (c.loop-at.at + c.passed_over.result + 1) _ _ _
    (c.stand.ensures.pattern ∙ c.loop-at.invariant.pattern) (omega arith)
    c.loop-at.invariant.counted c.in_ok-look.ensures.counted

pub returns-in-More-clause-again : goal.returns-in-More-clause-again
returns-in-More-clause-again g c = λ begun.
    one-again c.args.self.now.pattern c.stand.new.self.pattern c.args.self.now c.loop-at.self c.stand.new.self c.loop-at.at
    (c.loop-at.at + c.passed_over.result) (c.loop-at.at + c.passed_over.result + 1 - 1) _ _ _
    (c.stand.ensures.pattern ∙ c.loop-at.invariant.pattern) (omega arith) (omega arith) c.stand.ensures.first c.loop-at.invariant.first
    begun (c.loop-at.invariant.again begun) c.in_ok-look.ensures.counted c.look.ensures.again

pub returns-in-Match-clause-is : goal.returns-in-Match-clause-is
returns-in-Match-clause-is g c =
    let bs = c.args.bytes.now in
    let p = c.args.self.now.pattern in
    let same = ap (λ (b : Breaking). b.pattern) c.self.view_is ∙ sym c.stand.ensures.pattern in
    let pattern = c.stand.ensures.pattern ∙ c.loop-at.invariant.pattern in
    let at = placed p c.self.inside.pattern c.stand.new.self.pattern c.self.inside.scan.starts c.args.unfinished c.args.before
    c.last_byte.result bs
    c.loop-at.at c.passed_over.result (look_of c.in_ok-look.field-0) c.self.invariant.2 same pattern
    (λ k. omega (arith, c.type_inv.bytes k))
    c.loop-at.invariant.within c.loop-at.invariant.sought c.passed_over.ensures c.if-place-bytes.false c.last_byte.ensures
    c.in_ok-look.ensures.is in
    sym (sought-match (breaks_by p) c.args.unfinished c.args.before bs (c.loop-at.at + c.passed_over.result) c.in-Match.from c.in-Match.to
    c.in-Match.end
    at.0 at.1 (at.2 ∙ ap look_of c.in-Match.is))

pub returns-in-Match-clause-pattern : goal.returns-in-Match-clause-pattern
returns-in-Match-clause-pattern g c = c.stand-in-Match.ensures.pattern ∙ c.in_ok-look.ensures.pattern ∙ c.stand.ensures.pattern
    ∙ c.loop-at.invariant.pattern

pub returns-in-Match-clause-goes_on : goal.returns-in-Match-clause-goes_on
returns-in-Match-clause-goes_on g c =
    let place : ℕ = c.loop-at.at + c.passed_over.result in
    let sized = subst (λ (l : BreakLook). IsSized l (length (take (length c.args.bytes.now - place) (drop place c.args.bytes.now))))
    c.in-Match.is c.in_ok-look.ensures.sized in
    anew c.stand-in-Match.new.self.scan c.look.new.self.scan _ _ (c.stand-in-Match.ensures.other (omega (arith, sized.2)))

pub returns-in-Match-clause-counted : goal.returns-in-Match-clause-counted
returns-in-Match-clause-counted g c =
    let place : ℕ = c.loop-at.at + c.passed_over.result in
    let sized = subst (λ (l : BreakLook). IsSized l (length (take (length c.args.bytes.now - place) (drop place c.args.bytes.now))))
    c.in-Match.is c.in_ok-look.ensures.sized in
    one-more c.args.self.now.pattern c.stand.new.self.pattern c.loop-at.at (c.loop-at.at + c.passed_over.result + c.in-Match.end) _ _ _
    (c.stand.ensures.pattern ∙ c.loop-at.invariant.pattern)
    (omega (arith, sized.2)) c.loop-at.invariant.counted c.in_ok-look.ensures.counted

pub returns-in-Match-clause-again : goal.returns-in-Match-clause-again
returns-in-Match-clause-again g c = λ begun.
    let place : ℕ = c.loop-at.at + c.passed_over.result in
    let sized = subst (λ (l : BreakLook). IsSized l (length (take (length c.args.bytes.now - place) (drop place c.args.bytes.now))))
    c.in-Match.is c.in_ok-look.ensures.sized in
    one-again c.args.self.now.pattern c.stand.new.self.pattern c.args.self.now c.loop-at.self c.stand.new.self c.loop-at.at
    (c.loop-at.at + c.passed_over.result) (c.loop-at.at + c.passed_over.result + c.in-Match.end - 1) _ _ _
    (c.stand.ensures.pattern ∙ c.loop-at.invariant.pattern) (omega arith) (omega (arith, sized.2)) c.stand.ensures.first
    c.loop-at.invariant.first begun (c.loop-at.invariant.again begun) c.in_ok-look.ensures.counted c.look.ensures.again

pub returns-clause-within : goal.returns-clause-within
returns-clause-within g c = (c.loop-at.invariant.within, omega (arith, c.loop-at-test.false, reach-some))

pub returns-clause-pattern : goal.returns-clause-pattern
returns-clause-pattern g c = c.stand-2.ensures.pattern ∙ c.loop-at.invariant.pattern

pub returns-clause-goes_on : goal.returns-clause-goes_on
returns-clause-goes_on g c =
    stood c.args.self.now c.loop-at.self c.stand-2.new.self c.args.before _ c.args.bytes.now _ c.loop-at.at c.loop-at.at (omega arith)
    c.stand-2.ensures.first c.stand-2.ensures.other
    c.loop-at.invariant.first c.requires refl refl

pub returns-clause-begun : goal.returns-clause-begun
returns-clause-begun g c = λ before. absurd (omega (arith, before, c.loop-at-test.false))

pub returns-clause-counted : goal.returns-clause-counted
returns-clause-counted g c = no-more c.args.self.now.pattern c.loop-at.at (c.loop-at.at + 1) _ _ (omega arith) c.loop-at.invariant.counted

pub returns-clause-again : goal.returns-clause-again
returns-clause-again g c = λ begun. no-more c.args.self.now.pattern (c.loop-at.at - 1) (c.loop-at.at + 1 - 1) _ _ (omega arith)
    (c.loop-at.invariant.again begun)
