-- Entries are read one after the other.
use Rattle.std.proofs.Common.{◌≡◌, ℕ, ◌+◌, ◌<◌, List, [], ◌∷◌, ◌++◌, get_or, length, take, sym, subst, ap, ◌∙◌, add-one, length-append}
use Rattle.std.proofs.Common.{arith, Some, None}
use Rattle.std.specs.Prelude.{slice_get}
use Rattle.std.proofs.Math.Seq.{take-suc}
use Rattle.std.proofs.lemmas.Option.{slice_get-get_or}
use Rattle.ix_conf.specs.declared.layers.MergedEntry.{MergedEntry}
use Rattle.ix_conf_values.specs.declared.transforms.Transform.{Transform}
use Rattle.ix_props.specs.declared.props.PropsEntry.{PropsEntry}
use Rattle.ix_props.specs.Lists.{AreTransforms, IsTransformNamed, RefusesTransformNamed, RefusesNames, first}
use Rattle.ix_props.specs.declared.faults.SettingFault.{SettingFault}
use Rattle.ix_props.specs.Props.{AreRead, IsRead}

-- one more entry
pub AreRead-more : (ts zs es : List MergedEntry) (before : List PropsEntry) (e : MergedEntry) (entry : PropsEntry) →
    slice_get es (length before) ≡ Some e → AreRead ts zs (take (length before) es) before → IsRead ts zs e entry →
    AreRead ts zs (take (length (before ++ entry ∷ [])) es) (before ++ entry ∷ [])
AreRead-more ts zs [] [] e entry here read is = cc
AreRead-more ts zs (x ∷ es) [] e entry here read is =
    let same : e ≡ x = grind arith in
    (subst (λ y. IsRead ts zs y entry) same is, tt)
AreRead-more ts zs [] (b ∷ before) e entry here read is = absurd read
AreRead-more ts zs (x ∷ es) (b ∷ before) e entry here read is = (read.0, AreRead-more ts zs es before e entry here read.1 is)

-- no entry is left
pub AreRead-whole : (ts zs es : List MergedEntry) (before : List PropsEntry) →
    slice_get es (length before) ≡ None → AreRead ts zs (take (length before) es) before → AreRead ts zs es before
AreRead-whole ts zs [] [] none read = tt
AreRead-whole ts zs (x ∷ es) [] none read = cc
AreRead-whole ts zs [] (b ∷ before) none read = absurd read
AreRead-whole ts zs (x ∷ es) (b ∷ before) none read = (read.0, AreRead-whole ts zs es before none read.1)

-- one more transform
AreTransforms-more : (ts : List MergedEntry) (names : List (List ℕ)) (found : List Transform) (name : List ℕ) (t : Transform) →
    AreTransforms ts names found → IsTransformNamed ts name t → AreTransforms ts (names ++ name ∷ []) (found ++ t ∷ [])
AreTransforms-more ts [] [] name t are is = (is, tt)
AreTransforms-more ts [] (x ∷ found) name t are is = absurd are
AreTransforms-more ts (n ∷ names) [] name t are is = absurd are
AreTransforms-more ts (n ∷ names) (x ∷ found) name t are is = (are.0, AreTransforms-more ts names found name t are.1 is)

pub AreTransforms-next : (ts : List MergedEntry) (names : List (List ℕ)) (found : List Transform) (i : ℕ) (d name : List ℕ)
    (t : Transform) →
    i < length names → name ≡ get_or names i d → AreTransforms ts (take i names) found → IsTransformNamed ts name t →
    AreTransforms ts (take (i + 1) names) (found ++ t ∷ [])
AreTransforms-next ts names found i d name t here same are is =
    rw (add-one, take-suc names i d, ← same) (AreTransforms-more ts (take i names) found name t are is)

-- a name behind transforms is refused
pub refused : (ts : List MergedEntry) (e : MergedEntry) (names items : List (List ℕ)) (found : List Transform) (i : ℕ) (d name : List ℕ)
    (why : SettingFault) →
    items ≡ names → i < length items → name ≡ get_or items i d → AreTransforms ts (take i items) found →
    RefusesTransformNamed ts e name why → RefusesNames ts e names why
refused ts e names items found i d name why same here is are why_not =
    subst (λ xs. RefusesNames ts e xs why) same (first i name found (slice_get-get_or items i d here
    ∙ ap (λ n. Some n) (sym is)) are why_not)

pub longer : {A : Type 0} (xs new : List A) (x : A) → new ≡ xs ++ x ∷ [] → length new ≡ length xs + 1
longer xs new x is = rw is (omega (arith, length-append xs (x ∷ [])))
