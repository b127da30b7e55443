use Rattle.std.proofs.Common.{◌≡◌, ◌++◌, take, map}
use Rattle.indexd_settings.specs.Layers.{app_layer}
use Rattle.indexd_settings.proofs.layers.push_apps.Given as goal

abbrev pub invariant-loop-app : goal.invariant-loop-app
invariant-loop-app l = l.names ≡ l.initial.names ++ map (app_layer l.kind) (take l.app-index l.apps)
