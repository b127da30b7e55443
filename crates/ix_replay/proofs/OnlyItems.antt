-- The items that stand once, looked for by the numbers of their names.
use Rattle.std.proofs.Common.{◌≡◌, ℕ, List, Bool, get_or, true, false, None, refl, ap, subst, ◌∙◌}
use Rattle.std.specs.Prelude.{IsSome}
use Rattle.std.specs.BTreeMap.{BTreeMap, get}
use Rattle.std.specs.Ordering.{nat_cmp}
use Rattle.ix_items.specs.declared.items.Item.{Item}
use Rattle.ix_manifest.specs.Book.{Name, empty, name_of, is_same, replay}
use Rattle.ix_manifest.specs.Keys.{key, key_in}
use Rattle.ix_manifest.proofs.Renaming.{same_name}
use Rattle.ix_replay.specs.Known.{AreKnown}
use Rattle.ix_replay.proofs.ListSteps.{none_stands}

-- nothing stands under a name whose number has no entry
pub none_known : (places : BTreeMap ℕ ℕ) (items : List Item) (name : Name) → AreKnown places items → get nat_cmp places (key name) ≡ None →
    replay items empty name ≡ None
none_known places items name known none =
    none_stands items name (λ k d within. other (get_or items k d) (known k d within) (is_same (name_of (get_or items k d)) name) refl)
  where
    other : (x : Item) → IsSome (get nat_cmp places (key_in x)) → (t : Bool) → is_same (name_of x) name ≡ t →
        is_same (name_of x) name ≡ false
    other x some false told = told
    other x some true told =
        let here : key_in x ≡ key name = ap key (same_name (name_of x) name told) in
        let no : IsSome {T = ℕ} None = subst (IsSome {T = ℕ}) (ap (get nat_cmp places) here ∙ none) some in
        absurd cc
