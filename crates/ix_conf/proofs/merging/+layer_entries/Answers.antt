use Rattle.std.proofs.Common.{◌≡◌, ◌∙◌, ◌++◌, ◌/◌, length, sym, ap}
use Rattle.std.specs.Prelude.{Option}
use Rattle.std.specs.Option.{option_or}
use Rattle.std.proofs.lemmas.Result.{IfOk-weaker}
use Rattle.std.proofs.lemmas.List.{take-append-drop}
use Rattle.ix_conf.specs.declared.layers.MergedEntry.{MergedEntry}
use Rattle.ix_conf.specs.Value.{in_layers, entry_at}
use Rattle.ix_conf.proofs.MergeLemmas.{layers_append}
use Rattle.ix_conf.proofs.merging.+layer_entries.Goals as goal

pub returns-in_ok-low-in_default-clause-entry : goal.returns-in_ok-low-in_default-clause-entry
returns-in_ok-low-in_default-clause-entry t c =
    let layers = c.args.layers.now in
    let front = c.split_at.result.0.now in
    let back = c.split_at.result.1.now in
    let whole : front ++ back ≡ layers = rw (
      c.split_at.ensures.front,
      c.split_at.ensures.back,
    ) (take-append-drop (length layers / 2) layers) in
    let high = c.in_ok-high-in_default.ensures.entry in
    let low = c.in_ok-low-in_default.ensures.entry in
    IfOk-weaker c.combine.result _ _ (λ all h stanza key.
    h stanza key
    ∙ ap (λ (o : Option MergedEntry). option_or o (entry_at stanza key c.in_ok-low-in_default.low.items)) (high stanza key)
    ∙ ap (option_or (in_layers stanza key front)) (low stanza key)
    ∙ sym (layers_append stanza key front back)
    ∙ ap (in_layers stanza key) whole)
    c.combine.ensures.entry
