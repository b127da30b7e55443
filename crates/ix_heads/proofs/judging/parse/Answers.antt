use Rattle.std.proofs.Common.{sym, subst, IsUtf8}
use Rattle.httparse.specs.Spans.{IsRequestWithin, span_bytes}
use Rattle.httparse.specs.declared.spans.RequestSpans.{RequestSpans}
use Rattle.ix_heads.specs.Judging.{IsHeadAt}
use Rattle.ix_heads.proofs.FrontLemmas.{len_is_all}
use Rattle.ix_heads.proofs.judging.parse.Goals as goal

pub returns-in-Ok-Complete-clause-judged : goal.returns-in-Ok-Complete-clause-judged
returns-in-Ok-Complete-clause-judged c =
    let found = rw c.in-Ok-Complete.field-0-is at c.in-Ok-Complete.ensures.complete in
    let P : RequestSpans → Type 0 = λ s. IsHeadAt c.args.bytes.now c.parse_request.new.headers s in
    subst P (sym c.in-Ok-Complete.spans-is) (record {
      len = len_is_all c.args.bytes.now _ _ c.requires.some c.requires.before found;
      head = found.0;
      at = found.1;
    })

pub returns-in-Ok-Complete-clause-within : goal.returns-in-Ok-Complete-clause-within
returns-in-Ok-Complete-clause-within c =
    let found = rw c.in-Ok-Complete.field-0-is at c.in-Ok-Complete.ensures.complete in
    let within = rw c.in-Ok-Complete.field-0-is at c.in-Ok-Complete.ensures.within in
    let P : RequestSpans → Type 0 = λ s. IsRequestWithin c.args.bytes.now c.parse_request.new.headers s
    × IsUtf8 (span_bytes c.args.bytes.now s.path) in
    subst P (sym c.in-Ok-Complete.spans-is) (within, subst IsUtf8 (sym found.1.path) found.1.reads.0.target_text)
