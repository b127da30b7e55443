-- Laws of ascending entries.
use Rattle.std.proofs.Common.{◌≡◌, ℕ, ◌&&◌, Bool, true, false, cond, List, [], ◌∷◌, ◌++◌, refl, sym, ap, ◌∙◌, subst, Ordering}
use Rattle.std.specs.Prelude.{Option, Some, None}
use Rattle.std.specs.Option.{option_or}
use Rattle.std.specs.List.{AllByRecursion}
use Rattle.std.specs.declared.cmp.Ordering.TheVariants.{Less, Equal, Greater}
use Rattle.std.specs.Ordering.{ordering_then, ordering_reverse, is_eq, nat_cmp}
use Rattle.std.specs.Cmp.{IsTotalOrder}
use Rattle.std.specs.Cmp.Lexicographic.{slice_cmp}
use Rattle.std.proofs.lemmas.Cmp.{then_total, on_total, nat_list_cmp_total}
use Rattle.std.proofs.lemmas.Map.Text.{is_eq-slice_cmp}
use Rattle.std.proofs.lemmas.Bool.{true≢false}
use Rattle.ix_conf.specs.declared.layers.MergedEntry.{MergedEntry}
use Rattle.ix_conf.specs.declared.layers.Layer.{Layer}
use Rattle.ix_conf.specs.declared.entries.Entry.{Entry}
use Rattle.ix_conf.specs.declared.entries.Entry.TheVariants.{Stanza, Pair}
use Rattle.ix_conf.specs.Value.{Place, place, place_cmp, is_at, entry_at, said_by, in_file, in_layers, IsBefore, IsAscending}
use Rattle.ix_conf.specs.Merging.{Pops, Takes, fronts_cmp}

pub place_total : IsTotalOrder place_cmp
place_total = then_total (on_total (λ (p : Place). p.0) nat_list_cmp_total) (on_total (λ (p : Place). p.1) nat_list_cmp_total)

pub before_trans : (a b c : MergedEntry) → IsBefore a b → IsBefore b c → IsBefore a c
before_trans a b c h g = place_total.trans (place a) (place b) (place c) h g

pub is_at_cmp : (stanza key : List ℕ) (e : MergedEntry) → is_at stanza key e ≡ is_eq (place_cmp (stanza, key) (place e))
is_at_cmp stanza key e =
    rw (← is_eq-slice_cmp stanza e.stanza, ← is_eq-slice_cmp key e.key)
    (by (slice_cmp nat_cmp stanza e.stanza) (slice_cmp nat_cmp key e.key))
  where
    by : (o p : Ordering) → (is_eq o && is_eq p) ≡ is_eq (ordering_then o p)
    by Less p = refl
    by Equal p = refl
    by Greater p = refl

pub eq_from_is_eq : (o : Ordering) → is_eq o ≡ true → o ≡ Equal
eq_from_is_eq Less h = absurd (true≢false (sym h))
eq_from_is_eq Equal h = refl
eq_from_is_eq Greater h = absurd (true≢false (sym h))

-- what stands behind an entry is in another place
pub not_behind : (stanza key : List ℕ) (e x : MergedEntry) → is_at stanza key e ≡ true → IsBefore e x → is_at stanza key x ≡ false
not_behind stanza key e x here before =
    let same = eq_from_is_eq _ (sym (is_at_cmp stanza key e) ∙ here) in
    is_at_cmp stanza key x ∙ ap is_eq (place_total.congr (stanza, key) (place e) (place x) same ∙ before)

pub absent_behind : (stanza key : List ℕ) (e : MergedEntry) (xs : List MergedEntry) → is_at stanza key e ≡ true →
    AllByRecursion (IsBefore e) xs
    → entry_at stanza key xs ≡ None
absent_behind stanza key e [] here before = refl
absent_behind stanza key e (x ∷ xs) here before =
    let first = not_behind stanza key e x here before.0 in
    let rest = absent_behind stanza key e xs here before.1 in
    rw (first, rest) refl

-- entries in one place
pub same_place : (stanza key : List ℕ) (a b : MergedEntry) → place_cmp (place a) (place b) ≡ Equal → is_at stanza key a ≡ is_at stanza key b
same_place stanza key a b same =
    let p : Place = (stanza, key) in
    let turned = ap ordering_reverse (place_total.congr (place a) (place b) p same) in
    is_at_cmp stanza key a ∙ ap is_eq (place_total.antisymm p (place a) ∙ turned ∙ sym (place_total.antisymm p (place b)))
    ∙ sym (is_at_cmp stanza key b)

pub turned_before : (a b : MergedEntry) → place_cmp (place a) (place b) ≡ Greater → IsBefore b a
turned_before a b h = place_total.antisymm (place b) (place a) ∙ ap ordering_reverse h

-- an entry in the place of another stands before what that stands before
pub before_alike : (a b x : MergedEntry) → place_cmp (place a) (place b) ≡ Equal → IsBefore b x → IsBefore a x
before_alike a b x same before = place_total.congr (place a) (place b) (place x) same ∙ before

pub all_before : (a b : MergedEntry) (xs : List MergedEntry) → IsBefore a b → AllByRecursion (IsBefore b) xs →
    AllByRecursion (IsBefore a) xs
all_before a b [] h all = tt
all_before a b (x ∷ xs) h all = (before_trans a b x h all.0, all_before a b xs h all.1)

pub all_alike : (a b : MergedEntry) (xs : List MergedEntry) → place_cmp (place a) (place b) ≡ Equal → AllByRecursion (IsBefore b) xs →
    AllByRecursion (IsBefore a) xs
all_alike a b [] h all = tt
all_alike a b (x ∷ xs) h all = (before_alike a b x h all.0, all_alike a b xs h all.1)

pub or_assoc : (a b c : Option MergedEntry) → option_or (option_or a b) c ≡ option_or a (option_or b c)
or_assoc None b c = refl
or_assoc (Some x) b c = refl

pub or_none : (a : Option MergedEntry) → option_or a None ≡ a
or_none None = refl
or_none (Some x) = refl

pub entry_append : (stanza key : List ℕ) (xs ys : List MergedEntry)
    → entry_at stanza key (xs ++ ys) ≡ option_or (entry_at stanza key xs) (entry_at stanza key ys)
entry_append stanza key [] ys = refl
entry_append stanza key (x ∷ xs) ys = by (is_at stanza key x) (entry_append stanza key xs ys)
  where
    by : (t : Bool) → entry_at stanza key (xs ++ ys) ≡ option_or (entry_at stanza key xs) (entry_at stanza key ys)
        → cond t (Some x) (entry_at stanza key (xs ++ ys)) ≡ option_or (cond t (Some x) (entry_at stanza key xs)) (entry_at stanza key ys)
    by true h = refl
    by false h = h

-- the entries of a list that were joined so far stand before those that are left
abbrev IsBetween : List MergedEntry → List MergedEntry → MergedEntry → Type 0
IsBetween high low e = AllByRecursion (IsBefore e) high × AllByRecursion (IsBefore e) low

pub record Merging (all high low : List MergedEntry) (found : List ℕ → List ℕ → Option MergedEntry) : Type 0 where
  pub ascending : IsAscending all
  pub high_ascending : IsAscending high
  pub low_ascending : IsAscending low
  pub before : AllByRecursion (IsBetween high low) all
  pub entry : (stanza key : List ℕ) → option_or (entry_at stanza key all)
      (option_or (entry_at stanza key high) (entry_at stanza key low)) ≡ found stanza key

-- the first of two lists, and what is left of them
record IsFirst (high low : List MergedEntry) (e : MergedEntry) (high' low' : List MergedEntry) : Type 0 where
  pub high_ascending : IsAscending high'
  pub low_ascending : IsAscending low'
  pub before : IsBetween high' low' e
  pub behind : (a : MergedEntry) → IsBetween high low a → IsBefore a e × IsBetween high' low' a
  pub entry : (stanza key : List ℕ) → option_or (entry_at stanza key high) (entry_at stanza key low)
      ≡ option_or (entry_at stanza key (e ∷ [])) (option_or (entry_at stanza key high') (entry_at stanza key low'))

ascending_push : (high low : List MergedEntry) (e : MergedEntry) (high' low' : List MergedEntry) (xs : List MergedEntry)
    → ((a : MergedEntry) → IsBetween high low a → IsBefore a e × IsBetween high' low' a)
    → AllByRecursion (IsBetween high low) xs → IsAscending xs → IsAscending (xs ++ e ∷ [])
ascending_push high low e high' low' [] behind before asc = (tt, tt)
ascending_push high low e high' low' (x ∷ xs) behind before asc =
    (all_push xs asc.0 (behind x before.0).0, ascending_push high low e high' low' xs behind before.1 asc.1)
  where
    all_push : (ys : List MergedEntry) → AllByRecursion (IsBefore x) ys → IsBefore x e → AllByRecursion (IsBefore x) (ys ++ e ∷ [])
    all_push [] all h = (h, tt)
    all_push (y ∷ ys) all h = (all.0, all_push ys all.1 h)

between_push : (high low : List MergedEntry) (e : MergedEntry) (high' low' : List MergedEntry) (xs : List MergedEntry)
    → ((a : MergedEntry) → IsBetween high low a → IsBefore a e × IsBetween high' low' a) → IsBetween high' low' e
    → AllByRecursion (IsBetween high low) xs → AllByRecursion (IsBetween high' low') (xs ++ e ∷ [])
between_push high low e high' low' [] behind last before = (last, tt)
between_push high low e high' low' (x ∷ xs) behind last before =
    ((behind x before.0).1, between_push high low e high' low' xs behind last before.1)

merging_push : (all high low : List MergedEntry) (e : MergedEntry) (high' low' : List MergedEntry) (found : List ℕ → List ℕ →
    Option MergedEntry)
    → Merging all high low found → IsFirst high low e high' low' → Merging (all ++ e ∷ []) high' low' found
merging_push all high low e high' low' found m first = record {
  ascending = ascending_push high low e high' low' all first.behind m.before m.ascending;
  high_ascending = first.high_ascending;
  low_ascending = first.low_ascending;
  before = between_push high low e high' low' all first.behind first.before m.before;
  entry = λ stanza key.
      let rest = option_or (entry_at stanza key high') (entry_at stanza key low') in
      ap (λ (o : Option MergedEntry). option_or o rest) (entry_append stanza key all (e ∷ []))
      ∙ or_assoc (entry_at stanza key all) (entry_at stanza key (e ∷ [])) rest
      ∙ ap (option_or (entry_at stanza key all)) (sym (first.entry stanza key)) ∙ m.entry stanza key;
}

-- the head of a list is what its entry gives, and then the rest
entry_head : (stanza key : List ℕ) (e : MergedEntry) (xs : List MergedEntry)
    → entry_at stanza key (e ∷ xs) ≡ option_or (entry_at stanza key (e ∷ [])) (entry_at stanza key xs)
entry_head stanza key e xs = entry_append stanza key (e ∷ []) xs

first_high : (h : MergedEntry) (hs ls : List MergedEntry) → IsAscending (h ∷ hs) → IsAscending ls → AllByRecursion (IsBefore h) ls
    → IsFirst (h ∷ hs) ls h hs ls
first_high h hs ls asc low before = record {
  high_ascending = asc.1;
  low_ascending = low;
  before = (asc.0, before);
  behind = λ a between. (between.0.0, (between.0.1, between.1));
  entry = λ stanza key.
      ap (λ (o : Option MergedEntry). option_or o (entry_at stanza key ls)) (entry_head stanza key h hs)
      ∙ or_assoc (entry_at stanza key (h ∷ [])) (entry_at stanza key hs) (entry_at stanza key ls);
}

-- an entry of the low list that stands before the high one
or_swap : (t : Bool) (e : MergedEntry) (a b : Option MergedEntry) → (t ≡ true → a ≡ None)
    → option_or a (option_or (cond t (Some e) None) b) ≡ option_or (cond t (Some e) None) (option_or a b)
or_swap true e a b none = rw (none refl) refl
or_swap false e a b none = refl

first_low : (l : MergedEntry) (hs ls : List MergedEntry) → IsAscending hs → IsAscending (l ∷ ls) → AllByRecursion (IsBefore l) hs
    → IsFirst hs (l ∷ ls) l hs ls
first_low l hs ls high asc before = record {
  high_ascending = high;
  low_ascending = asc.1;
  before = (before, asc.0);
  behind = λ a between. (between.1.0, (between.0, between.1.1));
  entry = λ stanza key.
      ap (option_or (entry_at stanza key hs)) (entry_head stanza key l ls)
      ∙ or_swap (is_at stanza key l) l (entry_at stanza key hs) (entry_at stanza key ls)
      (λ here. absent_behind stanza key l hs here before);
}

-- of two in one place the low one is gone
or_gone : (t : Bool) (h l : MergedEntry) (a b : Option MergedEntry)
    → option_or (option_or (cond t (Some h) None) a) (option_or (cond t (Some l) None) b) ≡ option_or (cond t (Some h) None) (option_or a b)
or_gone true h l a b = refl
or_gone false h l a b = refl

first_both : (h l : MergedEntry) (hs ls : List MergedEntry) → IsAscending (h ∷ hs) → IsAscending (l ∷ ls) →
    place_cmp (place h) (place l) ≡ Equal
    → IsFirst (h ∷ hs) (l ∷ ls) h hs ls
first_both h l hs ls high low same = record {
  high_ascending = high.1;
  low_ascending = low.1;
  before = (high.0, all_alike h l ls same low.0);
  behind = λ a between. (between.0.0, (between.0.1, between.1.1));
  entry = λ stanza key.
      ap (λ (o : Option MergedEntry). option_or o (entry_at stanza key (l ∷ ls))) (entry_head stanza key h hs)
      ∙ ap (option_or (option_or (entry_at stanza key (h ∷ [])) (entry_at stanza key hs))) (entry_head stanza key l ls)
      ∙ ap (λ (t : Bool). option_or (option_or (entry_at stanza key (h ∷ [])) (entry_at stanza key hs))
      (option_or (cond t (Some l) None) (entry_at stanza key ls)))
      (sym (same_place stanza key h l same))
      ∙ or_gone (is_at stanza key h) h l (entry_at stanza key hs) (entry_at stanza key ls);
}

moved : (all : List MergedEntry) (found : List ℕ → List ℕ → Option MergedEntry) (h e : MergedEntry) (hs high ls low : List MergedEntry)
    → h ≡ e → hs ≡ high → ls ≡ low → Merging (all ++ h ∷ []) hs ls found → Merging (all ++ e ∷ []) high low found
moved all found h e hs high ls low p q r m =
    let P : MergedEntry → Type 0 = λ x. Merging (all ++ x ∷ []) high low found in
    let Q : List MergedEntry → Type 0 = λ x. Merging (all ++ h ∷ []) x low found in
    let R : List MergedEntry → Type 0 = λ x. Merging (all ++ h ∷ []) hs x found in
    subst P p (subst Q q (subst R r m))

-- one entry more is joined
pub merging_step : (all hs ls : List MergedEntry) (found : List ℕ → List ℕ →
    Option MergedEntry) (e : MergedEntry) (high low : List MergedEntry)
    → Merging all hs ls found → Takes (fronts_cmp hs ls) hs ls (Some e) high low → Merging (all ++ e ∷ []) high low found
merging_step all [] [] found e high low m t = absurd (by t.0)
  where
    by : [] ≡ e ∷ low → ⊥
    by h = cc
merging_step all [] (l ∷ ls) found e high low m t =
    moved all found l e [] high ls low (by t.0).0 (sym t.1) (by t.0).1
    (merging_push all [] (l ∷ ls) l [] ls found m (first_low l [] ls tt m.low_ascending tt))
  where
    by : l ∷ ls ≡ e ∷ low → (l ≡ e) × (ls ≡ low)
    by h = (cc, cc)
merging_step all (h ∷ hs) [] found e high low m t =
    moved all found h e hs high [] low (by t.0).0 (by t.0).1 (sym t.1)
    (merging_push all (h ∷ hs) [] h hs [] found m (first_high h hs [] m.high_ascending tt tt))
  where
    by : h ∷ hs ≡ e ∷ high → (h ≡ e) × (hs ≡ high)
    by h = (cc, cc)
merging_step all (h ∷ hs) (l ∷ ls) found e high low m t = by (place_cmp (place h) (place l)) refl t
  where
    parts : (x : MergedEntry) (xs ys : List MergedEntry) → x ∷ xs ≡ e ∷ ys → (x ≡ e) × (xs ≡ ys)
    parts x xs ys h = (cc, cc)

    tails : (x y : MergedEntry) (xs ys : List MergedEntry) → x ∷ xs ≡ y ∷ ys → xs ≡ ys
    tails x y xs ys h = cc

    gone : (o : Option MergedEntry) → Pops (l ∷ ls) o low → ls ≡ low
    gone None h = absurd (none h.0)
      where
        none : l ∷ ls ≡ [] → ⊥
        none e = cc
    gone (Some x) h = tails l x ls low h

    by : (o : Ordering) → place_cmp (place h) (place l) ≡ o → Takes o (h ∷ hs) (l ∷ ls) (Some e) high low →
        Merging (all ++ e ∷ []) high low found
    by Less c t =
        let p = parts h hs high t.0 in
        moved all found h e hs high (l ∷ ls) low p.0 p.1 (sym t.1)
        (merging_push all (h ∷ hs) (l ∷ ls) h hs (l ∷ ls) found m
        (first_high h hs (l ∷ ls) m.high_ascending m.low_ascending (c, all_before h l ls c m.low_ascending.0)))
    by Equal c t =
        let p = parts h hs high t.0 in
        moved all found h e hs high ls low p.0 p.1 (gone t.1.0 t.1.1)
        (merging_push all (h ∷ hs) (l ∷ ls) h hs ls found m (first_both h l hs ls m.high_ascending m.low_ascending c))
    by Greater c t =
        let p = parts l ls low t.0 in
        let before = turned_before h l c in
        moved all found l e (h ∷ hs) high ls low p.0 (sym t.1) p.1
        (merging_push all (h ∷ hs) (l ∷ ls) l (h ∷ hs) ls found m
        (first_low l (h ∷ hs) ls m.high_ascending m.low_ascending (before, all_before l h hs before m.high_ascending.0)))

-- both lists are empty where nothing is left to be taken
pub nothing_left : (hs ls high low : List MergedEntry) → Takes (fronts_cmp hs ls) hs ls None high low → (hs ≡ []) × (ls ≡ [])
nothing_left [] ls high low t = (refl, t.0.0)
nothing_left (h ∷ hs) [] high low t = (t.0.0, refl)
nothing_left (h ∷ hs) (l ∷ ls) high low t = by (place_cmp (place h) (place l)) t
  where
    no : (x : MergedEntry) (xs : List MergedEntry) → x ∷ xs ≡ [] → ⊥
    no x xs e = cc

    by : (o : Ordering) → Takes o (h ∷ hs) (l ∷ ls) None high low → (h ∷ hs ≡ []) × (l ∷ ls ≡ [])
    by Less t = absurd (no h hs t.0.0)
    by Equal t = absurd (no h hs t.0.0)
    by Greater t = absurd (no l ls t.0.0)

pub merging_start : (hs ls : List MergedEntry) → IsAscending hs → IsAscending ls
    → Merging [] hs ls (λ stanza key. option_or (entry_at stanza key hs) (entry_at stanza key ls))
merging_start hs ls high low =
    record { ascending = tt; high_ascending = high; low_ascending = low; before = tt; entry = λ stanza key. refl }

pub merging_end : (all hs ls : List MergedEntry) (found : List ℕ → List ℕ → Option MergedEntry) → (hs ≡ []) × (ls ≡ []) →
    Merging all hs ls found
    → (stanza key : List ℕ) → entry_at stanza key all ≡ found stanza key
merging_end all hs ls found none m stanza key =
    sym (or_none (entry_at stanza key all))
    ∙ ap (option_or (entry_at stanza key all)) (sym (ap
    (λ (xs : List MergedEntry). option_or (entry_at stanza key xs) (entry_at stanza key ls)) none.0
    ∙ ap (entry_at stanza key) none.1))
    ∙ m.entry stanza key

-- what files and layers say, in two halves
self_turned : (o : Ordering) → o ≡ ordering_reverse o → o ≡ Equal
self_turned Less h = cc
self_turned Equal h = refl
self_turned Greater h = cc

pub said_ascending : (layer : List ℕ) (e : Entry) → IsAscending (said_by layer e)
said_ascending layer (Stanza name) = (tt, tt)
said_ascending layer (Pair stanza [] value) = (tt, tt)
said_ascending layer (Pair stanza (b ∷ key) value) =
    let same : slice_cmp nat_cmp stanza stanza ≡ Equal = self_turned _ (nat_list_cmp_total.antisymm stanza stanza) in
    ((ap (λ (o : Ordering). ordering_then o Less) same, tt), (tt, tt))

pub file_append : (stanza key layer : List ℕ) (xs ys : List Entry)
    → in_file stanza key layer (xs ++ ys) ≡ option_or (in_file stanza key layer ys) (in_file stanza key layer xs)
file_append stanza key layer [] ys = sym (or_none (in_file stanza key layer ys))
file_append stanza key layer (x ∷ xs) ys =
    let said = entry_at stanza key (said_by layer x) in
    ap (λ (o : Option MergedEntry). option_or o said) (file_append stanza key layer xs ys)
    ∙ or_assoc (in_file stanza key layer ys) (in_file stanza key layer xs) said

pub layers_append : (stanza key : List ℕ) (xs ys : List Layer)
    → in_layers stanza key (xs ++ ys) ≡ option_or (in_layers stanza key xs) (in_layers stanza key ys)
layers_append stanza key [] ys = refl
layers_append stanza key (x ∷ xs) ys =
    let file = in_file stanza key x.name x.file in
    ap (option_or file) (layers_append stanza key xs ys) ∙ sym (or_assoc file (in_layers stanza key xs) (in_layers stanza key ys))
