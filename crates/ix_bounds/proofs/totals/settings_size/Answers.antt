use Rattle.std.proofs.Common.{◌+◌, ℕ, List, length, ap, sym, ◌∙◌}
use Rattle.std.specs.List.{sum_by}
use Rattle.std.proofs.lemmas.List.{take_all}
use Rattle.ix_items.specs.Spelling.{kept_bytes}
use Rattle.ix_items.specs.declared.items.Kept.{Kept}
use Rattle.ix_replay.proofs.Lengths.{length_settings}
use Rattle.ix_catalog.specs.Measures.{capped}
use Rattle.ix_bounds.proofs.totals.settings_size.Goals as goal

pub returns : goal.returns
returns c =
    c.loop-one.invariant
    ∙ ap (λ (l : List Kept). capped (5 + sum_by (λ (k : Kept). length (kept_bytes k)) l))
    (take_all c.loop-one.one-index c.args.kept.now c.loop-one-test.false)
    ∙ ap (λ (n : ℕ). capped n) (sym (length_settings c.args.kept.now))
