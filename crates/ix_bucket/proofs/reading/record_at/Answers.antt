use Rattle.std.proofs.Common.{◌≡◌, length, sym, ◌∙◌, subst, List, ℕ}
use Rattle.std.proofs.lemmas.Bool.{eqb-true}
use Rattle.ix_base.specs.Lent.{lent_event}
use Rattle.ix_coding.specs.Spelling.{IsShort}
use Rattle.ix_bucket.proofs.Records.{fields_alone, record_found}
use Rattle.ix_bucket.proofs.reading.record_at.Goals as goal

pub returns-clause-found : goal.returns-clause-found
returns-clause-found c =
    let event = lent_event c.in_ok-event.event in
    let none : length c.in_ok-event.left.now ≡ 0 = eqb-true _ _ (sym c.is_empty.ensures ∙ c.if-not-is_empty.false) in
    record_found event c.args.bytes.now c.in_ok-fields.fields.now c.in_ok-fields.rest.now c.in_ok-fields.ensures.found.0
    (fields_alone event c.in_ok-fields.fields.now c.in_ok-event.left.now c.in_ok-event.ensures.found none)

pub returns-clause-ranged : goal.returns-clause-ranged
returns-clause-ranged c =
    let event = lent_event c.in_ok-event.event in
    let none : length c.in_ok-event.left.now ≡ 0 = eqb-true _ _ (sym c.is_empty.ensures ∙ c.if-not-is_empty.false) in
    let alone = fields_alone event c.in_ok-fields.fields.now c.in_ok-event.left.now c.in_ok-event.ensures.found none in
    record {
      time = c.in_ok-event.ensures.ranged.0;
      arrival = c.in_ok-event.ensures.ranged.1;
      size = subst (λ (l : List ℕ). IsShort l) alone c.in_ok-fields.ensures.found.1;
    }
