use Rattle.std.proofs.Common.{ℕ, ◌+◌, ◌-◌, ◌^◌, List, length, min, ap, sym, ◌∙◌}
use Rattle.std.specs.List.{sum_by}
use Rattle.std.proofs.lemmas.List.{take_all}
use Rattle.ix_items.specs.Spelling.{kept_bytes}
use Rattle.ix_items.specs.declared.items.Kept.{Kept}
use Rattle.ix_replay.proofs.Lengths.{length_settings}
use Rattle.ix_replay.proofs.sizes.settings_size.Goals as goal

pub returns : goal.returns
returns c =
    c.loop-one.invariant
    ∙ ap (λ (l : List Kept). min (5 + sum_by (λ (k : Kept). length (kept_bytes k)) l) (2 ^ 64 - 1))
    (take_all c.loop-one.one-index c.args.kept.now c.loop-one-test.false)
    ∙ ap (λ (n : ℕ). min n (2 ^ 64 - 1)) (sym (length_settings c.args.kept.now))
