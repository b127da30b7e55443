-- Classes are those of the chosen entries whose keys begin so.
use Rattle.std.proofs.Common.{◌≡◌, ℕ, ◌<◌, Bool, true, false, List, [], ◌∷◌, ◌++◌, Some, refl, sym, ap, ◌∙◌, bytes_eq, length, arith}
use Rattle.std.specs.Prelude.{if◌then◌else◌}
use Rattle.std.specs.List.{AllByRecursion, Contains}
use Rattle.std.specs.declared.cmp.Ordering.TheVariants.{Less}
use Rattle.std.specs.Ordering.{is_eq, nat_cmp}
use Rattle.std.specs.Cmp.Lexicographic.{slice_cmp, nat_list_eq_equiv}
use Rattle.std.proofs.lemmas.List.Elements.{Contains-append_right}
use Rattle.std.proofs.Common.{append_assoc, append-nil, Bor, drop, get_or, ◌+◌, add-one}
use Rattle.std.proofs.Math.Seq.{drop-cons}
use Rattle.std.proofs.lemmas.Map.Text.{is_eq-slice_cmp}
use Rattle.ix_props.specs.Kinds.{begins_with}
use Rattle.ix_props.specs.Ranking.{lent, set_in, AreInOrder, classes_in}
use Rattle.ix_conf_values.specs.declared.seds.Sed.{Sed}
use Rattle.ix_conf_values.specs.declared.transforms.Transform.{Transform}
use Rattle.ix_props.specs.Settings.{Class, AreRising, AreClasses, change_of, changes, transforms_of, chain}
use Rattle.ix_props.specs.declared.props.PropsEntry.{PropsEntry}
use Rattle.ix_props.specs.declared.values.Value.{Value}
use Rattle.ix_props.proofs.NearestLemmas.{same_bytes}

abbrev Later : List ℕ → Class → Type 0
Later key c = slice_cmp nat_cmp key c.0 ≡ Less

abbrev IsSetIn : List ℕ → List PropsEntry → Class → Type 0
IsSetIn prefix es c = (begins_with prefix c.0 ≡ true) × (set_in es c.0 ≡ Some c.1)

with_class : (x : Bool) (P : Class → Type 0) (c : Class) (cs : List Class) → P c → AllByRecursion P cs →
    AllByRecursion P (if x then c ∷ cs else cs)
with_class true P c cs here rest = (here, rest)
with_class false P c cs here rest = rest

classes_later : (prefix key : List ℕ) (es : List PropsEntry) → AllByRecursion (λ (d : PropsEntry). slice_cmp nat_cmp key d.key ≡ Less) es →
    AllByRecursion (Later key) (classes_in prefix es)
classes_later prefix key [] less = tt
classes_later prefix key (e ∷ es) less = with_class (begins_with prefix e.key) (Later key) (
  e.key,
  e.value,
) (classes_in prefix es) less.0 (classes_later prefix key es less.1)

risen : (x : Bool) (c : Class) (cs : List Class) → AllByRecursion (Later c.0) cs → AreRising cs → AreRising (if x then c ∷ cs else cs)
risen true c cs later rest = (later, rest)
risen false c cs later rest = rest

classes_rise : (prefix : List ℕ) (es : List PropsEntry) → AreInOrder es → AreRising (classes_in prefix es)
classes_rise prefix [] order = tt
classes_rise prefix (e ∷ es) order =
    risen (begins_with prefix e.key) (e.key, e.value) (classes_in prefix es) (classes_later prefix e.key es order.0)
    (classes_rise prefix es order.1)

differ : (a b : List ℕ) → slice_cmp nat_cmp a b ≡ Less → bytes_eq b a ≡ false
differ a b less = nat_list_eq_equiv.symm b a ∙ sym (is_eq-slice_cmp a b) ∙ ap is_eq less

widen : (prefix : List ℕ) (e : PropsEntry) (es : List PropsEntry) (cs : List Class) → AllByRecursion (Later e.key) cs →
    AllByRecursion (IsSetIn prefix es) cs →
    AllByRecursion (IsSetIn prefix (e ∷ es)) cs
widen prefix e es [] later set = tt
widen prefix e es (c ∷ cs) later set = ((set.0.0, rw (differ e.key c.0 later.0) set.0.1), widen prefix e es cs later.1 set.1)

itself : (key : List ℕ) → bytes_eq key key ≡ true
itself key = nat_list_eq_equiv.refl key

set_step : (prefix : List ℕ) (e : PropsEntry) (es : List PropsEntry) (x : Bool) → begins_with prefix e.key ≡ x →
    AllByRecursion (IsSetIn prefix (e ∷ es)) (classes_in prefix es) →
    AllByRecursion (IsSetIn prefix (e ∷ es)) (if x then (e.key, e.value) ∷ classes_in prefix es else classes_in prefix es)
set_step prefix e es true p rest = ((p, rw (itself e.key) refl), rest)
set_step prefix e es false p rest = rest

classes_set : (prefix : List ℕ) (es : List PropsEntry) → AreInOrder es → AllByRecursion (IsSetIn prefix es) (classes_in prefix es)
classes_set prefix [] order = tt
classes_set prefix (e ∷ es) order =
    set_step prefix e es (begins_with prefix e.key) refl
    (widen prefix e es (classes_in prefix es) (classes_later prefix e.key es order.0) (classes_set prefix es order.1))

first : (c : Class) (cs : List Class) → Contains (c ∷ cs) c
first c cs = (0, omega arith, refl)

more : (x : Bool) (c d : Class) (cs : List Class) → Contains cs d → Contains (if x then c ∷ cs else cs) d
more true c d cs rest = Contains-append_right (c ∷ []) cs d rest
more false c d cs rest = rest

all_step : (prefix key : List ℕ) (v : Value) (e : PropsEntry) (es : List PropsEntry) (x : Bool) → bytes_eq key e.key ≡ x →
    begins_with prefix key ≡ true →
    (if x then Some e.value else set_in es key) ≡ Some v → (set_in es key ≡ Some v → Contains (classes_in prefix es) (key, v)) →
    Contains (classes_in prefix (e ∷ es)) (key, v)
all_step prefix key v e es true p begins set ih =
    let same : key ≡ e.key = same_bytes key e.key p in
    let value : e.value ≡ v = cc in
    let begins' : begins_with prefix e.key ≡ true = rw (← same) begins in
    rw (begins', same, ← value) (first (e.key, e.value) (classes_in prefix es))
all_step prefix key v e es false p begins set ih = more (begins_with prefix e.key) (e.key, e.value) (key, v) (classes_in prefix es) (ih set)

classes_all : (prefix key : List ℕ) (v : Value) (es : List PropsEntry) → begins_with prefix key ≡ true → set_in es key ≡ Some v →
    Contains (classes_in prefix es) (key, v)
classes_all prefix key v [] begins set = absurd (cc)
classes_all prefix key v (e ∷ es) begins set =
    all_step prefix key v e es (bytes_eq key e.key) refl begins set (λ there. classes_all prefix key v es begins there)

pub classes : (prefix : List ℕ) (es : List PropsEntry) → AreInOrder es → AreClasses (set_in es) prefix (classes_in prefix es)
classes prefix es order = record {
  rising = classes_rise prefix es order;
  each = classes_set prefix es order;
  all = λ key v begins set. classes_all prefix key v es begins set;
}

-- ---- classes are added one after the other
changes_cons : (prefix : List ℕ) (e : PropsEntry) (es : List PropsEntry) →
    changes (classes_in prefix (e ∷ es)) ≡ changes (classes_in prefix (e ∷ [])) ++ changes (classes_in prefix es)
changes_cons prefix e es = by (begins_with prefix e.key)
  where
    by : (x : Bool) → changes (if x then (e.key, e.value) ∷ classes_in prefix es else classes_in prefix es)
        ≡ changes (if x then (e.key, e.value) ∷ [] else []) ++ changes (classes_in prefix es)
    by true = sym (ap (λ xs. xs ++ changes (classes_in prefix es)) (append-nil (change_of e.value)))
    by false = refl

chain_cons : (prefix : List ℕ) (e : PropsEntry) (es : List PropsEntry) →
    chain (classes_in prefix (e ∷ es)) ≡ chain (classes_in prefix (e ∷ [])) ++ chain (classes_in prefix es)
chain_cons prefix e es = by (begins_with prefix e.key)
  where
    by : (x : Bool) → chain (if x then (e.key, e.value) ∷ classes_in prefix es else classes_in prefix es)
        ≡ chain (if x then (e.key, e.value) ∷ [] else []) ++ chain (classes_in prefix es)
    by true = sym (ap (λ xs. xs ++ chain (classes_in prefix es)) (append-nil (transforms_of e.value)))
    by false = refl

-- the rest of lent entries, and the first of it
pub rest_of : (es : List (Bor PropsEntry)) (i : ℕ) (d b : Bor PropsEntry) → i < length es → b ≡ get_or es i d → lent (drop i es) ≡ b.now
    ∷ lent (drop (i + 1) es)
rest_of es i d b within is = rw (add-one, drop-cons es i d, ← is) refl

pub changes_step : (prefix : List ℕ) (old new : List Sed) (rest next whole : List PropsEntry) (e : PropsEntry) → rest ≡ e ∷ next →
    old ++ changes (classes_in prefix rest) ≡ changes (classes_in prefix whole) → new ≡ old ++ changes (classes_in prefix (e ∷ [])) →
    new ++ changes (classes_in prefix next) ≡ changes (classes_in prefix whole)
changes_step prefix old new rest next whole e is so_far put =
    rw (put, append_assoc) (ap (λ xs. old ++ xs) (sym (changes_cons prefix e next)) ∙ (rw is at so_far))

pub chain_step : (prefix : List ℕ) (old new : List Transform) (rest next whole : List PropsEntry) (e : PropsEntry) → rest ≡ e ∷ next →
    old ++ chain (classes_in prefix rest) ≡ chain (classes_in prefix whole) → new ≡ old ++ chain (classes_in prefix (e ∷ [])) →
    new ++ chain (classes_in prefix next) ≡ chain (classes_in prefix whole)
chain_step prefix old new rest next whole e is so_far put =
    rw (put, append_assoc) (ap (λ xs. old ++ xs) (sym (chain_cons prefix e next)) ∙ (rw is at so_far))
