use Rattle.std.proofs.Common.{◌≡◌, ◌∙◌, ◌++◌, ◌/◌, length, sym, ap}
use Rattle.std.specs.Prelude.{Option}
use Rattle.std.specs.Option.{option_or}
use Rattle.std.proofs.lemmas.Result.{IfOk-weaker}
use Rattle.std.proofs.lemmas.List.{take-append-drop}
use Rattle.ix_conf.specs.declared.layers.MergedEntry.{MergedEntry}
use Rattle.ix_conf.specs.Value.{in_file, entry_at}
use Rattle.ix_conf.proofs.MergeLemmas.{said_ascending, file_append}
use Rattle.ix_conf.proofs.merging.+file_entries.Goals as goal

pub returns-in-len1-clause-ascending : goal.returns-in-len1-clause-ascending
returns-in-len1-clause-ascending t c =
    IfOk-weaker c.said_entries.result _ _ (λ all h. rw h (said_ascending c.args.layer.now c.entry-item.result)) c.said_entries.ensures

pub returns-in_ok-high-in_default-clause-entry : goal.returns-in_ok-high-in_default-clause-entry
returns-in_ok-high-in_default-clause-entry t c =
    let file = c.args.file.now in
    let front = c.split_at.result.0.now in
    let back = c.split_at.result.1.now in
    let whole : front ++ back ≡ file = rw (c.split_at.ensures.front, c.split_at.ensures.back) (take-append-drop (length file / 2) file) in
    let low = c.in_ok-low-in_default.ensures.entry in
    let high = c.in_ok-high-in_default.ensures.entry in
    IfOk-weaker c.combine.result _ _ (λ all h stanza key.
    h stanza key
    ∙ ap (λ (o : Option MergedEntry). option_or o (entry_at stanza key c.in_ok-low-in_default.low.items)) (high stanza key)
    ∙ ap (option_or (in_file stanza key c.args.layer.now back)) (low stanza key)
    ∙ sym (file_append stanza key c.args.layer.now front back)
    ∙ ap (in_file stanza key c.args.layer.now) whole)
    c.combine.ensures.entry
