-- The transforms that a value names.
use Rattle.std.specs.Prelude.{◌≡◌, ℕ, List, [], ◌∷◌, Some, None, IsSome, slice_get, take}
use Rattle.ix_pattern.specs.declared.faults.BreakFault.TheVariants as breaks
use Rattle.ix_conf.specs.Value.{entry_at}
use Rattle.ix_conf.specs.declared.layers.MergedEntry.{MergedEntry}
use Rattle.ix_conf_values.specs.declared.transforms.Transform.{Transform}
use Rattle.ix_conf_values.specs.Transforms.{IsTransformOf, HasDestination, RefusesKey, RefusesRegex, values_of}
use Rattle.ix_props.specs.Names.{names}
use Rattle.ix_props.specs.declared.values.Value.{Value}
use Rattle.ix_props.specs.declared.values.Value.TheVariants as value
use Rattle.ix_props.specs.declared.faults.SettingFault.{SettingFault}
use Rattle.ix_props.specs.declared.faults.SettingFault.TheVariants as fault

-- the stanza of this name is there, and the transform was read of it
pub record IsTransformNamed (transforms : List MergedEntry) (name : List ℕ) (transform : Transform) : Type 0 where
  pub stanza : IsSome (entry_at name [] transforms)
  pub is_read : IsTransformOf name (values_of transforms name) transform
  pub destination : HasDestination transform

-- one transform for each name
abbrev pub AreTransforms : List MergedEntry → List (List ℕ) → List Transform → Type 0
AreTransforms transforms [] [] = Unit {0}
AreTransforms transforms [] (t ∷ ts) = ⊥
AreTransforms transforms (name ∷ names) [] = ⊥
AreTransforms transforms (name ∷ names) (t ∷ ts) = IsTransformNamed transforms name t × AreTransforms transforms names ts

-- a name of an entry's value is that of no transform, or its transform is refused; want of memory
-- may be answered at any time
abbrev pub RefusesTransformNamed : List MergedEntry → MergedEntry → List ℕ → SettingFault → Type 0
RefusesTransformNamed transforms e name (fault.UnknownTransform stanza key unknown) =
    (stanza ≡ e.stanza) × (key ≡ e.key) × (unknown ≡ name) × (entry_at name [] transforms ≡ None)
RefusesTransformNamed transforms e name (fault.BadValue stanza key) =
    (stanza ≡ name) × IsSome (entry_at name [] transforms) × RefusesKey (values_of transforms name) key
RefusesTransformNamed transforms e name (fault.BadPattern stanza key (breaks.Pattern fault)) =
    (stanza ≡ name) × IsSome (entry_at name [] transforms) × RefusesRegex (values_of transforms name) key fault
RefusesTransformNamed transforms e name fault.NoMemory = Unit {0}
RefusesTransformNamed transforms e name other = ⊥

-- the first name that is refused, behind transforms
pub data RefusesNames (transforms : List MergedEntry) (e : MergedEntry) (names : List (List ℕ)) (why : SettingFault) : Type 0 where
  no_memory : why ≡ fault.NoMemory → RefusesNames transforms e names why
  first : (i : ℕ) (name : List ℕ) (before : List Transform) → slice_get names i ≡ Some name →
      AreTransforms transforms (take i names) before → RefusesTransformNamed transforms e name why → RefusesNames transforms e names why

abbrev pub IsTransformList : List MergedEntry → List ℕ → Value → Type 0
IsTransformList transforms text (value.Transforms found) = AreTransforms transforms (names text) found
IsTransformList transforms text other = ⊥
