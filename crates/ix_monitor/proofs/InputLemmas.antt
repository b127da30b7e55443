-- The entries of inputs.conf, taken one after the other.
use Rattle.std.proofs.Common.{◌≡◌, ℕ, ◌+◌, ◌<◌, Bool, false, true, List, [], ◌∷◌, refl, sym, ap, ◌∙◌, drop, length, get_or, Option, Some}
use Rattle.std.proofs.Common.{None, arith}
use Rattle.std.specs.Prelude.{slice_get, ◌&&◌, ◌||◌, ◌==◌}
use Rattle.std.specs.List.{list_any}
use Rattle.std.specs.Option.{option_or}
use Rattle.std.proofs.lemmas.List.{drop_more}
use Rattle.ix_conf.specs.declared.layers.MergedEntry.{MergedEntry}
use Rattle.ix_life.specs.declared.sets.LimitSet.{LimitSet}
use Rattle.ix_life.proofs.ItemLemmas.{drop_at, drop_past}
use Rattle.ix_monitor.specs.declared.faults.InputFault.{InputFault}
use Rattle.ix_monitor.specs.declared.faults.InputFault.TheVariants.{BadValue, BadStanza, NoMemory}
use Rattle.ix_monitor.specs.Inputs.{first_fault, fault_at, fault_with, value_fault, Refuses}
use Rattle.ix_monitor.specs.Paths.{has_star_before_slash}

-- the entry of a key is judged by its value
pub fault_of_value : (limits : LimitSet) (e : MergedEntry) (key : List ℕ) → 0 < length key → fault_with limits e key ≡ value_fault limits e
fault_of_value limits e [] some = absurd (omega arith)
fault_of_value limits e (b ∷ key) some = refl

next : (limits : LimitSet) (xs : List MergedEntry) (i : ℕ) (x : MergedEntry) → slice_get xs i ≡ Some x
    → first_fault limits (drop i xs) ≡ option_or (fault_at limits x) (first_fault limits (drop (i + 1) xs))
next limits xs i x e = ap (first_fault limits) (drop_at xs i x e)

pub fault_free : (limits : LimitSet) (xs : List MergedEntry) (i : ℕ) (x : MergedEntry) → slice_get xs i ≡ Some x → fault_at limits x ≡ None
    → (whole : Option InputFault) → first_fault limits (drop i xs) ≡ whole → first_fault limits (drop (i + 1) xs) ≡ whole
fault_free limits xs i x e none whole known =
    sym (ap (λ o. option_or o (first_fault limits (drop (i + 1) xs))) none) ∙ sym (next limits xs i x e) ∙ known

pub fault_here : (limits : LimitSet) (xs : List MergedEntry) (i : ℕ) (x : MergedEntry) (fault : InputFault) → slice_get xs i ≡ Some x →
    Refuses (fault_at limits x) fault
    → (whole : Option InputFault) → first_fault limits (drop i xs) ≡ whole → Refuses whole fault
fault_here limits xs i x (BadValue stanza key) e found whole known =
    sym known ∙ next limits xs i x e ∙ ap (λ o. option_or o (first_fault limits (drop (i + 1) xs))) found
fault_here limits xs i x (BadStanza stanza) e found whole known =
    sym known ∙ next limits xs i x e ∙ ap (λ o. option_or o (first_fault limits (drop (i + 1) xs))) found
fault_here limits xs i x NoMemory e found whole known = tt

pub fault_none : (limits : LimitSet) (xs : List MergedEntry) (i : ℕ) → slice_get xs i ≡ None → (whole : Option InputFault) →
    first_fault limits (drop i xs) ≡ whole → whole ≡ None
fault_none limits xs i e whole known = sym known ∙ ap (first_fault limits) (drop_past xs i e)
