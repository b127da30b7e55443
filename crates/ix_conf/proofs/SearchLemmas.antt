-- Laws of a search among ascending entries.
use Rattle.std.proofs.Common.{◌≡◌, ℕ, zero, suc, ◌+◌, ◌<◌, ◌≤◌, ◌⊎◌, inl, inr, false, List, [], ◌∷◌, length, get_or, refl, sym, ap, ◌∙◌}
use Rattle.std.proofs.Common.{subst, arith}
use Rattle.std.specs.Prelude.{None, slice_get}
use Rattle.std.specs.List.{AllByRecursion}
use Rattle.std.specs.declared.cmp.Ordering.TheVariants.{Less, Equal, Greater}
use Rattle.std.specs.Ordering.{ordering_reverse, is_eq}
use Rattle.std.proofs.lemmas.Bool.{cases_lt}
use Rattle.std.proofs.lemmas.List.{get_or_default}
use Rattle.ix_conf.specs.declared.layers.MergedEntry.{MergedEntry}
use Rattle.ix_conf.specs.Value.{Place, place, place_cmp, is_at, entry_at, IsBefore, IsAscending}
use Rattle.ix_conf.proofs.MergeLemmas.{place_total, is_at_cmp}

all_at : (x : MergedEntry) (xs : List MergedEntry) (j : ℕ) (d : MergedEntry) → AllByRecursion (IsBefore x) xs → j < length xs →
    IsBefore x (get_or xs j d)
all_at x [] j d all h = absurd (omega arith)
all_at x (y ∷ ys) zero d all h = all.0
all_at x (y ∷ ys) (suc j) d all h = all_at x ys j d all.1 (omega arith)

pub in_order : (xs : List MergedEntry) → IsAscending xs → (i j : ℕ) (d e : MergedEntry) → i < j → j < length xs →
    IsBefore (get_or xs i d) (get_or xs j e)
in_order [] asc i j d e h g = absurd (omega arith)
in_order (x ∷ xs) asc i zero d e h g = absurd (omega arith)
in_order (x ∷ xs) asc zero (suc j) d e h g = all_at x xs j e asc.0 (omega arith)
in_order (x ∷ xs) asc (suc i) (suc j) d e h g = in_order xs asc.1 i j d e (omega arith) (omega arith)

at_less : (stanza key : List ℕ) (x : MergedEntry) → place_cmp (stanza, key) (place x) ≡ Less → is_at stanza key x ≡ false
at_less stanza key x h = is_at_cmp stanza key x ∙ ap is_eq h

at_greater : (stanza key : List ℕ) (x : MergedEntry) → place_cmp (place x) (stanza, key) ≡ Less → is_at stanza key x ≡ false
at_greater stanza key x h = is_at_cmp stanza key x ∙ ap is_eq (place_total.antisymm (stanza, key) (place x) ∙ ap ordering_reverse h)

turn : (stanza key : List ℕ) (x : MergedEntry) → place_cmp (stanza, key) (place x) ≡ Greater → place_cmp (place x) (stanza, key) ≡ Less
turn stanza key x h = let p : Place = (stanza, key) in place_total.antisymm (place x) p ∙ ap ordering_reverse h

same_or_less : (i m : ℕ) → i < m + 1 → (i < m) ⊎ (i ≡ m)
same_or_less i m h = elim (cases_lt i m) [ inl l ↦ inl l | inr l ↦ inr (omega arith) ]

-- nothing from a later entry on is in the place
pub above_middle : (stanza key : List ℕ) (xs : List MergedEntry) (m : ℕ) (e : MergedEntry) → IsAscending xs → m < length xs →
    e ≡ get_or xs m e
    → place_cmp (stanza, key) (place e) ≡ Less → (i : ℕ) (d : MergedEntry) → m ≤ i → i < length xs →
    is_at stanza key (get_or xs i d) ≡ false
above_middle stanza key xs m e asc within here less i d after inside = elim (same_or_less m i (omega arith)) [
  | inl more ↦
      let p : Place = (stanza, key) in
      let next : IsBefore e (get_or xs i d) = rw here (in_order xs asc m i e d more inside) in
      at_less stanza key (get_or xs i d) (place_total.trans p (place e) (place (get_or xs i d)) less next)
  | inr same ↦
      let P : ℕ → Type 0 = λ n. is_at stanza key (get_or xs n d) ≡ false in
      let Q : MergedEntry → Type 0 = λ x. is_at stanza key x ≡ false in
      subst P same (subst Q (here ∙ get_or_default xs m e d within) (at_less stanza key e less))
]

-- nothing up to an earlier entry is in the place
pub below_middle : (stanza key : List ℕ) (xs : List MergedEntry) (m : ℕ) (e : MergedEntry) → IsAscending xs → m < length xs →
    e ≡ get_or xs m e
    → place_cmp (stanza, key) (place e) ≡ Greater → (i : ℕ) (d : MergedEntry) → i < m + 1 → is_at stanza key (get_or xs i d) ≡ false
below_middle stanza key xs m e asc within here greater i d before = elim (same_or_less i m before) [
  | inl less ↦
      let p : Place = (stanza, key) in
      let next : IsBefore (get_or xs i d) e = rw here (in_order xs asc i m d e less within) in
      at_greater stanza key (get_or xs i d) (place_total.trans (place (get_or xs i d)) (place e) p next (turn stanza key e greater))
  | inr same ↦
      let P : ℕ → Type 0 = λ n. is_at stanza key (get_or xs n d) ≡ false in
      let Q : MergedEntry → Type 0 = λ x. is_at stanza key x ≡ false in
      subst P (sym same) (subst Q (here ∙ get_or_default xs m e d within) (at_greater stanza key e (turn stanza key e greater)))
]

-- the entry in the place is the first one there
pub found_there : (stanza key : List ℕ) (xs : List MergedEntry) (m : ℕ) (d : MergedEntry) → IsAscending xs → m < length xs
    → place_cmp (stanza, key) (place (get_or xs m d)) ≡ Equal → entry_at stanza key xs ≡ slice_get xs m
found_there stanza key [] m d asc within here = absurd (omega arith)
found_there stanza key (x ∷ xs) zero d asc within here = rw (is_at_cmp stanza key x ∙ ap is_eq here) refl
found_there stanza key (x ∷ xs) (suc m) d asc within here =
    let y = get_or xs m d in
    let p : Place = (stanza, key) in
    let before = all_at x xs m d asc.0 (omega arith) in
    let less = place_total.antisymm (place y) (place x) ∙ ap ordering_reverse before in
    let none : is_at stanza key x ≡ false = is_at_cmp stanza key x ∙ ap is_eq (place_total.congr p (place y) (place x) here ∙ less) in
    rw none (found_there stanza key xs m d asc.1 (omega arith) here)

pub not_there : (stanza key : List ℕ) (xs : List MergedEntry) →
    ((i : ℕ) (d : MergedEntry) → i < length xs → is_at stanza key (get_or xs i d) ≡ false)
    → entry_at stanza key xs ≡ None
not_there stanza key [] none = refl
not_there stanza key (x ∷ xs) none =
    let rest = not_there stanza key xs (λ i d h. none (suc i) d (omega arith)) in
    rw (none 0 x (omega arith), rest) refl
