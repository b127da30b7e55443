use Rattle.std.proofs.Common.{◌≡◌, ◌≤◌, drop, IfSome}
use Rattle.indexd_settings.specs.Layers.{layers_read, led_by, IsOfText}
use Rattle.std.specs.List.{AllByRecursion}
use Rattle.indexd_settings.proofs.layers.SettingsFile.read_layers.Given as goal

abbrev pub invariant-loop-name : goal.invariant-loop-name
invariant-loop-name g l =
    IfSome (g.T.Tree.files l.initial.tree) (λ all. layers_read all l.self l.names ≡ led_by l.layers
    (layers_read all l.self (drop l.name-index l.names)))
    × (g.T.Tree.files l.tree ≡ g.T.Tree.files l.initial.tree)
    × (g.T.Tree.faults l.initial.tree ≤ g.T.Tree.faults l.tree)
    × (g.T.Tree.missing l.initial.tree ≤ g.T.Tree.missing l.tree)
    × AllByRecursion IsOfText l.layers
