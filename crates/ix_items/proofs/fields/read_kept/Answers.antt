use Rattle.ix_items.specs.declared.items.Kept.{Kept}
use Rattle.ix_items.proofs.Rows.{kept_found}
use Rattle.ix_items.proofs.fields.read_kept.Goals as goal

pub returns-clause-found : goal.returns-clause-found
returns-clause-found c =
    let file = c.in_ok-file.ensures.found in
    let stanza = c.in_ok-stanza.ensures.found in
    let key = c.in_ok-key.ensures.found in
    let value = c.in_ok-value.ensures.found in
    let kept : Kept = record {
      file = c.in_ok-file.file;
      stanza = c.in_ok-stanza.stanza;
      key = c.in_ok-key.key;
      value = c.in_ok-value.value;
    } in (
      kept_found kept _ _ _ _ _ file.0 stanza.0 key.0 value.0,
      record { from = file.1; to = file.2; stanza = stanza.1; key = key.1; value = value.1 },
    )
