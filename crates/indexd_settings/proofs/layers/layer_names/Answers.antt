use Rattle.std.proofs.Common.{◌≡◌, ◌∙◌, ℕ, List, [], ◌∷◌, ◌++◌, ap, ap₂, codes, map}
use Rattle.indexd_settings.specs.Layers.{app_layer}
use Rattle.indexd_settings.proofs.layers.layer_names.Goals as goal

with_one : List (List ℕ) → List ℕ → List (List ℕ)
with_one names name = names ++ name ∷ []

pub returns : goal.returns
unfolding with_one
returns c =
    let first : c.push.new.self ≡ codes "etc/system/local" ∷ [] = c.in_ok-push.ensures.ok
    ∙ ap₂ with_one c.new-names.ensures c.in_ok-copy_of.ensures in
    let locals = c.in_ok-push_apps.ensures ∙ ap (λ (names : List (List ℕ)). names
    ++ map (app_layer (codes "/local")) c.args.apps.now) first in
    let defaults = c.in_ok-push_apps-2.ensures ∙ ap (λ (names : List (List ℕ)). names
    ++ map (app_layer (codes "/default")) c.args.apps.now) locals in
    c.in_ok-push-2.ensures.ok ∙ ap₂ with_one defaults c.in_ok-copy_of-2.ensures
