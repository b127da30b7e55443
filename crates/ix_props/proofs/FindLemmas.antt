-- Values are looked for from the last entry to the first, and listed in the order of their keys.
use Rattle.std.proofs.Common.{◌≡◌, ℕ, ℤ, suc, ◌-◌, ◌≤◌, ◌<◌, arith, drop, Bool, true, false, List, [], ◌∷◌, Some, None, refl, sym, ap, ◌∙◌}
use Rattle.std.proofs.Common.{subst, bytes_eq, codes, length, map, Bor, get_or, Ordering}
use Rattle.std.specs.Prelude.{Option}
use Rattle.std.specs.Option.{option_map}
use Rattle.std.specs.List.{AllByRecursion}
use Rattle.std.specs.List.Sorted.{IsStrictlySortedBy}
use Rattle.std.specs.Map.{update, lookup, keys_of}
use Rattle.std.specs.BTreeMap.{BTreeMap, IsOrdered}
use Rattle.std.specs.declared.cmp.Ordering.TheVariants.{Less}
use Rattle.std.specs.Ordering.{is_eq, nat_cmp}
use Rattle.std.specs.Cmp.Lexicographic.{slice_cmp, nat_list_eq_equiv}
use Rattle.std.proofs.Math.Seq.{drop-cons}
use Rattle.std.proofs.lemmas.Cmp.{on_total, nat_list_cmp_total}
use Rattle.std.proofs.lemmas.List.Elements.{recursion_from_All}
use Rattle.std.proofs.lemmas.Map.Text.{is_eq-slice_cmp}
use Rattle.std.proofs.lemmas.Map.Views.{All-found}
use Rattle.ix_props.specs.Choice.{value_in, number_of}
use Rattle.ix_props.specs.Ranking.{found, Ranks, Ranked, lent_candidate, at_key, ranked, gives_way, nearer, nearest, value_of, set_in}
use Rattle.ix_props.specs.Ranking.{AreInOrder, AreNearest}
use Rattle.ix_props.specs.declared.choosing.Candidate.{Candidate}
use Rattle.ix_props.specs.declared.props.PropsEntry.{PropsEntry}
use Rattle.ix_props.specs.declared.ranks.Rank.{Rank}
use Rattle.ix_props.proofs.NearestLemmas.{same_bytes, nearest_is_in}

turned : (a b : List ℕ) → bytes_eq a b ≡ bytes_eq b a
turned a b = nat_list_eq_equiv.symm a b

-- ---- one entry more, from the last to the first
pub dropped : (entries : List PropsEntry) (at : ℕ) (e d : PropsEntry) → 0 < at → at ≤ length entries → e ≡ get_or entries (at - 1) d →
    drop (at - 1) entries ≡ e ∷ drop at entries
dropped entries at e d above within is =
    let here : at - 1 < length entries = omega arith in
    let next : suc (at - 1) ≡ at = omega arith in
    rw (drop-cons entries (at - 1) d, next, ← is) refl

pub none_dropped : (entries : List PropsEntry) (at : ℕ) → (0 < at → ⊥) → drop at entries ≡ entries
none_dropped entries at never = let none : at ≡ 0 = omega (arith, never) in rw none refl

-- ---- priorities
pub priority_put : (e : PropsEntry) (part : List PropsEntry) (f g : List ℕ → Option (Option ℤ)) → bytes_eq e.key (codes "priority") ≡ true →
    ((name : List ℕ) → g name ≡ update bytes_eq f e.stanza (Some (number_of e.value)) name) →
    ((s : List ℕ) → f s ≡ option_map number_of (value_in s (codes "priority") part)) →
    (s : List ℕ) → g s ≡ option_map number_of (value_in s (codes "priority") (e ∷ part))
priority_put e part f g is put so_far s = by (bytes_eq e.stanza s) refl
  where
    key : bytes_eq (codes "priority") e.key ≡ true
    key = turned (codes "priority") e.key ∙ is

    by : (x : Bool) → bytes_eq e.stanza s ≡ x → g s ≡ option_map number_of (value_in s (codes "priority") (e ∷ part))
    by true p = rw (turned s e.stanza, p, key) (rw p at (put s))
    by false p = rw (turned s e.stanza, p) (rw p at (put s) ∙ so_far s)

pub priority_there : (e : PropsEntry) (part : List PropsEntry) (f g : List ℕ → Option (Option ℤ)) (t : List ℕ) (n : Option ℤ) →
    bytes_eq e.key (codes "priority") ≡ true →
    t ≡ e.stanza → n ≡ number_of e.value → ((name : List ℕ) → g name ≡ update bytes_eq f t (Some n) name) →
    ((s : List ℕ) → f s ≡ option_map number_of (value_in s (codes "priority") part)) →
    (s : List ℕ) → g s ≡ option_map number_of (value_in s (codes "priority") (e ∷ part))
priority_there e part f g t n is same number put so_far s =
    priority_put e part f g is
    (subst (λ m. (name : List ℕ) → g name ≡ update bytes_eq f e.stanza (Some m) name) number
    (subst (λ u. (name : List ℕ) → g name ≡ update bytes_eq f u (Some n) name) same put)) so_far s

pub priority_skip : (e : PropsEntry) (part : List PropsEntry) (f : List ℕ → Option (Option ℤ)) → bytes_eq e.key (codes "priority") ≡ false →
    ((s : List ℕ) → f s ≡ option_map number_of (value_in s (codes "priority") part)) →
    (s : List ℕ) → f s ≡ option_map number_of (value_in s (codes "priority") (e ∷ part))
priority_skip e part f is so_far s = by (bytes_eq s e.stanza) refl
  where
    key : bytes_eq (codes "priority") e.key ≡ false
    key = turned (codes "priority") e.key ∙ is

    by : (x : Bool) → bytes_eq s e.stanza ≡ x → f s ≡ option_map number_of (value_in s (codes "priority") (e ∷ part))
    by true p = rw (p, key) (so_far s)
    by false p = rw p (so_far s)

-- ---- the nearest entry of each key
pub way_given : (c : Ranked) (m : List ℕ → Option Ranked) → gives_way c (m c.0.key) ≡ true → (key : List ℕ) →
    m key ≡ nearer (at_key key c) (m key)
way_given c m gives key = by (bytes_eq key c.0.key) refl
  where
    by : (x : Bool) → bytes_eq key c.0.key ≡ x → m key ≡ nearer (at_key key c) (m key)
    by false p = rw p refl
    by true p =
        let there : gives_way c (m key) ≡ true = rw (same_bytes key c.0.key p) gives in
        rw (p, there) refl

pub way_taken : (c : Candidate) (m n : List ℕ → Option Candidate) →
    gives_way (lent_candidate c) (option_map lent_candidate (m c.entry.now.key)) ≡ false →
    ((name : List ℕ) → n name ≡ update bytes_eq m c.entry.now.key (Some c) name) → (key : List ℕ) →
    option_map lent_candidate (n key) ≡ nearer (at_key key (lent_candidate c)) (option_map lent_candidate (m key))
way_taken c m n gives put key = by (bytes_eq c.entry.now.key key) refl
  where
    by : (x : Bool) → bytes_eq c.entry.now.key key ≡ x →
        option_map lent_candidate (n key) ≡ nearer (at_key key (lent_candidate c)) (option_map lent_candidate (m key))
    by false p =
        let at : n key ≡ m key = rw p at (put key) in
        rw (turned key c.entry.now.key, p, at) refl
    by true p =
        let at : n key ≡ Some c = rw p at (put key) in
        let there : gives_way (lent_candidate c) (option_map lent_candidate (m key)) ≡ false =
        rw (sym (same_bytes c.entry.now.key key p)) gives in
        rw (turned key c.entry.now.key, p, at, there) refl

pub ranked_here : (f : Ranks) (key : List ℕ) (e : PropsEntry) (r : Rank) → f e.stanza ≡ Some r → ranked f key e ≡ at_key key (e, r)
ranked_here f key e r is = rw is refl

pub ranked_nowhere : (f : Ranks) (key : List ℕ) (e : PropsEntry) → f e.stanza ≡ None → ranked f key e ≡ None
ranked_nowhere f key e is = by (bytes_eq key e.key) refl
  where
    by : (x : Bool) → bytes_eq key e.key ≡ x → ranked f key e ≡ None
    by true p = rw (p, is) refl
    by false p = rw p refl

-- ---- the list of a map's entries
abbrev pub Pairs : Type 0
Pairs = List (Bor (List ℕ) × Candidate)

abbrev pub entries_of : Pairs → List PropsEntry
entries_of ps = map (λ (p : Bor (List ℕ) × Candidate). p.1.entry.now) ps

abbrev AreKeyed : Pairs → Type 0
AreKeyed ps = AllByRecursion (λ (p : Bor (List ℕ) × Candidate). p.0.now ≡ p.1.entry.now.key) ps

abbrev pub key_cmp : Bor (List ℕ) → Bor (List ℕ) → Ordering
key_cmp x y = slice_cmp nat_cmp x.now y.now

set_step : (key : List ℕ) (p : Bor (List ℕ) × Candidate) (ps : Pairs) (x : Bool) → bytes_eq key p.0.now ≡ x → p.0.now ≡ p.1.entry.now.key →
    set_in (entries_of ps) key ≡ option_map value_of (option_map lent_candidate
    (lookup (λ (k : Bor (List ℕ)). is_eq (slice_cmp nat_cmp key k.now)) ps)) →
    set_in (entries_of (p ∷ ps)) key ≡ option_map value_of
    (option_map lent_candidate (lookup (λ (k : Bor (List ℕ)). is_eq (slice_cmp nat_cmp key k.now)) (p ∷ ps)))
set_step key p ps true q keyed ih =
    let at : bytes_eq key p.1.entry.now.key ≡ true = rw (← keyed) q in
    let is : is_eq (slice_cmp nat_cmp key p.0.now) ≡ true = is_eq-slice_cmp key p.0.now ∙ q in
    rw (at, is) refl
set_step key p ps false q keyed ih =
    let at : bytes_eq key p.1.entry.now.key ≡ false = rw (← keyed) q in
    let is : is_eq (slice_cmp nat_cmp key p.0.now) ≡ false = is_eq-slice_cmp key p.0.now ∙ q in
    rw (at, is) ih

set_of : (key : List ℕ) (ps : Pairs) → AreKeyed ps →
    set_in (entries_of ps) key ≡ option_map value_of (option_map lent_candidate
    (lookup (λ (k : Bor (List ℕ)). is_eq (slice_cmp nat_cmp key k.now)) ps))
set_of key [] keyed = refl
set_of key (p ∷ ps) keyed = set_step key p ps (bytes_eq key p.0.now) refl keyed.0 (set_of key ps keyed.1)

all_less : (k : Bor (List ℕ)) (key : List ℕ) (ps : Pairs) → k.now ≡ key → AreKeyed ps →
    AllByRecursion (λ y. key_cmp k y ≡ Less) (keys_of ps) →
    AllByRecursion (λ (d : PropsEntry). slice_cmp nat_cmp key d.key ≡ Less) (entries_of ps)
all_less k key [] is keyed less = tt
all_less k key (p ∷ ps) is keyed less = (
  sym (ap (λ n. slice_cmp nat_cmp n p.1.entry.now.key) is) ∙ sym (ap (λ n. slice_cmp nat_cmp k.now n) keyed.0) ∙ less.0,
  all_less k key ps is keyed.1 less.1,
)

order_of : (ps : Pairs) → AreKeyed ps → IsStrictlySortedBy key_cmp (keys_of ps) → AreInOrder (entries_of ps)
unfolding IsStrictlySortedBy
order_of [] keyed sorted = tt
order_of (p ∷ ps) keyed sorted = (all_less p.0 p.1.entry.now.key ps keyed.0 keyed.1 sorted.0, order_of ps keyed.1 sorted.1)

pub listed : (f : Ranks) (entries : List PropsEntry) (m : BTreeMap (Bor (List ℕ)) Candidate) → IsOrdered key_cmp m →
    ((key : List ℕ) → option_map lent_candidate (found m key) ≡ nearest f key entries) → AreNearest f entries (entries_of m.entries)
listed f entries m sorted is =
    let keyed : AreKeyed m.entries = recursion_from_All (λ (p : Bor (List ℕ) × Candidate). p.0.now ≡ p.1.entry.now.key) m.entries
    (λ k d within.
    let at = All-found (on_total (λ (b : Bor (List ℕ)). b.now) nat_list_cmp_total) m sorted k d within in
    let p = get_or m.entries k d in
    (nearest_is_in f p.0.now entries (lent_candidate p.1) (sym (is p.0.now) ∙ ap (λ c. option_map lent_candidate c) at)).key_is) in
    record {
      in_order = order_of m.entries keyed sorted;
      set = λ key. set_of key m.entries keyed ∙ ap (λ c. option_map value_of c) (is key);
    }
