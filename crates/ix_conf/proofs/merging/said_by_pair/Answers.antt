use Rattle.std.proofs.Common.{[], ◌∷◌, ◌++◌, List, ap, ◌∙◌}
use Rattle.ix_conf.specs.declared.layers.MergedEntry.{MergedEntry}
use Rattle.ix_conf.proofs.SaidLemmas.{said_key, said_no_key}
use Rattle.ix_conf.proofs.merging.said_by_pair.Goals as goal
use Rattle.ix_conf.proofs.merging.said_by_pair.Goals.{then-not-is_empty+in_ok-setting+in_ok-push-2, else-not-is_empty}

pub returns : goal.returns
returns c =
    let layer = c.args.layer.now in
    let stanza = c.args.stanza.now in
    let key = c.args.key.now in
    let value = c.args.value.now in
    let lent = c.as_slice.result.now in
    let own = c.in_ok-own_entry.field-0 in
    let begun = c.new-entries.result.items in
    elim c.if-not-is_empty.branch [
      | then-not-is_empty+in_ok-setting+in_ok-push-2 w ↦
          let setting = w.in_ok-setting.field-0 in
          rw w.entries-is (said_key layer stanza key value lent c.is_empty.result own setting begun
          w.push-then-not-is_empty.new.entries.items c.new-entries.ensures.items c.as_slice.ensures c.in_ok-own_entry.ensures
          w.in_ok-setting.ensures
          (w.in_ok-push-2.ensures ∙ ap (λ (l : List MergedEntry). l ++ setting ∷ []) c.in_ok-push.ensures) c.is_empty.ensures
          w.if-not-is_empty.true)
      | else-not-is_empty w ↦
          rw w.entries-is (said_no_key layer stanza key value lent c.is_empty.result own begun c.push.new.entries.items
          c.new-entries.ensures.items c.as_slice.ensures c.in_ok-own_entry.ensures c.in_ok-push.ensures c.is_empty.ensures
          w.if-not-is_empty.false)
    ]
