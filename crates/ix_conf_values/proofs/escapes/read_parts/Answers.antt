use Rattle.std.proofs.Common.{◌∙◌, sym}
use Rattle.ix_conf_values.proofs.EscapeLemmas.{parts_begun, parts_escaped, parts_backslash, parts_plain, parts_refused, parts_open}
use Rattle.ix_conf_values.proofs.EscapeLemmas.{parts_ended}
use Rattle.ix_conf_values.proofs.escapes.read_parts.Goals as goal
use Rattle.ix_conf_values.proofs.escapes.read_parts.Goals.{then-escaped+in-Some+in_ok-push, else-escaped+then-byte-eq92}
use Rattle.ix_conf_values.proofs.escapes.read_parts.Goals.{else-escaped+else-byte-eq92+in_ok-push-2}

pub loop-byte-init : goal.loop-byte-init
loop-byte-init c = parts_begun c.args.text.now c.new-found.result c.new-found.ensures

pub returns-in_default : goal.returns-in_default
returns-in_default c =
    sym (parts_refused c.args.text.now c.loop-byte.byte-index c.loop-byte.found c.loop-byte-test.true (sym c.in_default.ensures))
    ∙ (rw c.if-escaped.true at c.loop-byte.invariant)

pub returns-then-escaped-2 : goal.returns-then-escaped-2
returns-then-escaped-2 c =
    sym (parts_open c.args.text.now c.loop-byte.byte-index c.loop-byte.found c.loop-byte-test.false)
    ∙ (rw c.if-escaped-2.true at c.loop-byte.invariant)

pub returns : goal.returns
returns c =
    sym (parts_ended c.args.text.now c.loop-byte.byte-index c.loop-byte.found c.loop-byte-test.false)
    ∙ (rw c.if-escaped-2.false at c.loop-byte.invariant)

pub loop-byte-preserved : goal.loop-byte-preserved
loop-byte-preserved c =
    elim c.if-escaped.branch [
      | then-escaped+in-Some+in_ok-push w ↦
          rw (w.found-is, w.in_ok-push.ensures.ok, w.escaped-is)
          (sym (parts_escaped c.args.text.now c.loop-byte.byte-index c.loop-byte.found w.in-Some.part c.loop-byte-test.true
          (sym w.in-Some.ensures))
          ∙ (rw w.if-escaped.true at c.loop-byte.invariant))
      | else-escaped+then-byte-eq92 w ↦
          rw (w.found-is, w.escaped-is)
          (sym (parts_backslash c.args.text.now c.loop-byte.byte-index c.loop-byte.found c.loop-byte-test.true w.if-byte-eq92.true)
          ∙ (rw w.if-escaped.false at c.loop-byte.invariant))
      | else-escaped+else-byte-eq92+in_ok-push-2 w ↦
          rw (w.found-is, w.in_ok-push-2.ensures.ok, w.escaped-is, w.if-escaped.false)
          (sym (parts_plain c.args.text.now c.loop-byte.byte-index c.loop-byte.found c.loop-byte-test.true w.if-byte-eq92.false)
          ∙ (rw w.if-escaped.false at c.loop-byte.invariant))
    ]
