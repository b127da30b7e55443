-- Of each bucket the ledger has its entry where it is frozen, and no other; and a turn's entries
-- stand as it freezes.
use Rattle.std.proofs.Common.{◌≡◌, ◌<◌, ◌≤◌, ℕ, zero, suc, ◌+◌, ℤ, Bool, true, false, List, [], ◌∷◌, ◌++◌, map, refl, sym, ap, ◌∙◌, arith}
use Rattle.std.proofs.Common.{subst, inl, inr}
use Rattle.std.specs.Prelude.{Option, Some, None, ◌⊎◌, ◌==◌, if◌then◌else◌, slice_get, option_to_list, unwrap_or, bytes_eq}
use Rattle.std.specs.List.{AllByRecursion, sum_by, flat_map}
use Rattle.std.specs.declared.cmp.Ordering.TheVariants.{Less}
use Rattle.std.specs.Ordering.{nat_cmp}
use Rattle.std.specs.Cmp.Lexicographic.{slice_cmp}
use Rattle.std.proofs.lemmas.Bool.Decides.{Decides-eqb}
use Rattle.std.proofs.lemmas.List.{map-append}
use Rattle.std.proofs.lemmas.List.Sums.{sum_by-cons}
use Rattle.ix_base.specs.declared.events.Event.{Event}
use Rattle.ix_items.specs.declared.items.Entry.{Entry}
use Rattle.ix_items.specs.declared.items.Kept.{Kept}
use Rattle.ix_items.specs.declared.items.Rule.{Rule}
use Rattle.ix_life.specs.Housekeeping as house
use Rattle.ix_life.specs.declared.picks.Policy.{Policy}
use Rattle.ix_model.specs.Buckets.{Standing, live, frozen, Slot, Index, entered, buckets}
use Rattle.ix_model.specs.Given.{Chooser, limits}
use Rattle.ix_model.specs.Keeping.{turned_by, file_behind, entered_at, entries_of}
use Rattle.ix_catalog.specs.Buckets.{Turn, entry_of, rule_of}
use Rattle.ix_model.specs.Keeping as kept
use Rattle.ix_model.specs.Ledger.{is_of, IsWhole, Freeze, freeze_of, freezes_in, GrowsInOrder}
use Rattle.ix_catalog.specs.Lists.{find, AreAscending}
use Rattle.ix_model.specs.State.{State, index_name, fresh_index, slots_in}
use Rattle.ix_model.specs.Step.{files_taken, entries_in, all_entries, stepped, state_after}
use Rattle.ix_model.specs.Sums.{IsStandingOf, AreSoundFrom, IsSound}
use Rattle.ix_model.specs.declared.commands.Command.TheVariants.{Tick}
use Rattle.ix_model.specs.declared.commands.TimedCommand.{TimedCommand}
use Rattle.ix_model.proofs.Ascending.{less_other, in_order_after}
use Rattle.ix_model.proofs.Freezing.{filter_sum, gain, gained, gain_at, hits, live_one, live_at, housed, most_at}
use Rattle.ix_model.proofs.Ledgers.{gains, all_after, same_entries}
use Rattle.ix_model.proofs.Named.{by_test, same_bytes, bytes_same}
use Rattle.ix_model.proofs.Placing.{In}
use Rattle.ix_model.proofs.Stepping.{sound_after}

true-false : true ≡ false → ⊥
true-false e = cc

-- ---- one bucket's entry

abbrev only : List ℕ → ℕ → (Entry → ℕ) → Entry → ℕ
only index id g e = if is_of index id e then g e else 0

only_name : (index : List ℕ) (id : ℕ) (g : Entry → ℕ) (e : Entry) → bytes_eq e.index index ≡ false → only index id g e ≡ 0
only_name index id g e d = rw d refl

only_id : (index : List ℕ) (id : ℕ) (g : Entry → ℕ) (e : Entry) → (e.id ≡ id → ⊥) → only index id g e ≡ 0
only_id index id g e d = by_test (e.id == id)
    (λ t. absurd (d ((Decides-eqb e.id id).0 t)))
    (λ t. by_test (bytes_eq e.index index) (λ u. rw (u, t) refl) (λ u. rw u refl))

only_it : (index : List ℕ) (id : ℕ) (g : Entry → ℕ) (e : Entry) → bytes_eq e.index index ≡ true → e.id ≡ id → only index id g e ≡ g e
only_it index id g e t u = rw (t, (Decides-eqb e.id id).1 u) refl

other_name : (name index : List ℕ) (id a : ℕ) (g : Entry → ℕ) (events : List Event) (standing : Standing) →
    IsStandingOf name a events standing →
    bytes_eq name index ≡ false → gain (only index id g) standing ≡ 0
other_name name index id a g events (live b) h d = refl
other_name name index id a g events (frozen e other) h d =
    let z = only_name index id g e (ap (λ (n : List ℕ). bytes_eq n index) h.0.index_is ∙ d) in omega (arith, z)

other_id : (name index : List ℕ) (id a : ℕ) (g : Entry → ℕ) (events : List Event) (standing : Standing) →
    IsStandingOf name a events standing →
    (a ≡ id → ⊥) → gain (only index id g) standing ≡ 0
other_id name index id a g events (live b) h d = refl
other_id name index id a g events (frozen e other) h d =
    let z = only_id index id g e (λ p. d (sym h.0.id_is ∙ p)) in omega (arith, z)

its_own : (name index : List ℕ) (id a : ℕ) (g : Entry → ℕ) (events : List Event) (standing : Standing) →
    IsStandingOf name a events standing →
    bytes_eq name index ≡ true → a ≡ id → gain (only index id g) standing ≡ gain g standing
its_own name index id a g events (live b) h d e = refl
its_own name index id a g events (frozen e other) h d s =
    let z = only_it index id g e (ap (λ (n : List ℕ). bytes_eq n index) h.0.index_is ∙ d) (h.0.id_is ∙ s) in omega (arith, z)

none_named : (name index : List ℕ) (id a : ℕ) (g : Entry → ℕ) (slots : List Slot) → AreSoundFrom name a slots →
    bytes_eq name index ≡ false →
    sum_by (gained (only index id g)) slots ≡ 0
none_named name index id a g [] h d = refl
none_named name index id a g (s ∷ slots) h d =
    let b = sum_by-cons (gained (only index id g)) s slots in
    let c = other_name name index id a g s.events s.standing h.0 d in
    let e = none_named name index id (suc a) g slots h.1 d in
    omega (arith, b, c, e)

none_behind : (name index : List ℕ) (id a : ℕ) (g : Entry → ℕ) (slots : List Slot) → AreSoundFrom name a slots → id < a →
    sum_by (gained (only index id g)) slots ≡ 0
none_behind name index id a g [] h l = refl
none_behind name index id a g (s ∷ slots) h l =
    let b = sum_by-cons (gained (only index id g)) s slots in
    let c = other_id name index id a g s.events s.standing h.0 (λ e. omega (arith, e, l)) in
    let d = none_behind name index id (suc a) g slots h.1 (omega (arith, l)) in
    omega (arith, b, c, d)

single_at : (name index : List ℕ) (id a j : ℕ) (g : Entry → ℕ) (slots : List Slot) → AreSoundFrom name a slots →
    bytes_eq name index ≡ true → id ≡ a + j →
    sum_by (gained (only index id g)) slots ≡ gain_at g (slice_get slots j)
single_at name index id a j g [] h t e = refl
single_at name index id a zero g (s ∷ slots) h t e =
    let b = sum_by-cons (gained (only index id g)) s slots in
    let c = its_own name index id a g s.events s.standing h.0 t (omega (arith, e)) in
    let d = none_behind name index id (suc a) g slots h.1 (omega (arith, e)) in
    omega (arith, b, c, d)
single_at name index id a (suc j) g (s ∷ slots) h t e =
    let b = sum_by-cons (gained (only index id g)) s slots in
    let c = other_id name index id a g s.events s.standing h.0 (λ f. omega (arith, e, f)) in
    let d = single_at name index id (suc a) j g slots h.1 t (omega (arith, e)) in
    omega (arith, b, c, d)

-- of names that stand behind one, none is it
others_none : (name index : List ℕ) (id : ℕ) (g : Entry → ℕ) (is : List Index) → AllByRecursion IsSound is →
    AllByRecursion (λ (y : Index). slice_cmp nat_cmp name y.name ≡ Less) is → bytes_eq name index ≡ true →
    sum_by (gains (only index id g)) is ≡ 0
others_none name index id g [] h l t = refl
others_none name index id g (i ∷ is) h l t =
    let b = sum_by-cons (gains (only index id g)) i is in
    let c = none_named i.name index id 0 g i.slots h.0 (by_test (bytes_eq i.name index)
    (λ u. absurd (true-false (sym (bytes_same name i.name (same_bytes name index t ∙ sym (same_bytes i.name index u)))
    ∙ less_other name i.name l.0)))
    (λ u. u)) in
    let d = others_none name index id g is h.1 l.1 t in
    omega (arith, b, c, d)

single_in : (index : List ℕ) (id : ℕ) (g : Entry → ℕ) (is : List Index) → AllByRecursion IsSound is → AreAscending index_name is →
    sum_by (gains (only index id g)) is ≡ gain_at g (slice_get (slots_in is index) id)
single_in index id g [] h l = refl
single_in index id g (i ∷ is) h l =
    sum_by-cons (gains (only index id g)) i is ∙ by (bytes_eq i.name index) refl (single_in index id g is h.1 l.1)
  where
    by : (b : Bool) → bytes_eq i.name index ≡ b → sum_by (gains (only index id g)) is ≡ gain_at g (slice_get (slots_in is index) id) →
        gains (only index id g) i + sum_by (gains (only index id g)) is
        ≡ gain_at g (slice_get (unwrap_or (if b then Some i else find index_name index is) (fresh_index index)).slots id)
    by true t rest =
        let a = single_at i.name index id 0 id g i.slots h.0 t (omega arith) in
        let c = others_none i.name index id g is h.1 l.0 t in
        omega (arith, a, c)
    by false t rest = let a = none_named i.name index id 0 g i.slots h.0 t in omega (arith, a, rest)

pub whole_after : (choose : Chooser) (history : List TimedCommand) → IsWhole (state_after choose history)
whole_after choose history =
    let m : State = state_after choose history in
    let h = all_after choose history in
    record {
      all = same_entries m.catalog h;
      each = λ index id g. filter_sum g (is_of index id) m.catalog.ledger
          ∙ (h.entries (only index id g) ∙ single_in index id g m.catalog.indexes h.sound (in_order_after choose history).indexes);
    }

-- ---- a turn's entries

pub in_hits : (x : ℕ × Rule) (xs : List (ℕ × Rule)) → In x xs → 1 ≤ hits 1 x.0 xs
in_hits x [] i = absurd i
in_hits x (y ∷ xs) i =
    let a = sum_by-cons (λ (z : ℕ × Rule). if z.0 == x.0 then 1 else 0) y xs in
    let b = by i (in_hits x xs) in
    omega (arith, a, b)
  where
    by : (y ≡ x) ⊎ In x xs → (In x xs → 1 ≤ hits 1 x.0 xs) → 1 ≤ (if y.0 == x.0 then 1 else 0) + hits 1 x.0 xs
    by (inl e) rest = rw ((Decides-eqb y.0 x.0).1 (ap (λ (z : ℕ × Rule). z.0) e)) (omega arith)
    by (inr i) rest = let q = rest i in omega (arith, q)

pub found_rule : (x : ℕ × Rule) (xs : List (ℕ × Rule)) → In x xs → hits 1 x.0 xs ≤ 1 → rule_of xs x.0 ≡ Some x.1
found_rule x [] i h = absurd i
found_rule x (y ∷ xs) i h =
    by (y.0 == x.0) refl i (found_rule x xs) (subst (λ (n : ℕ). n ≤ 1) (sum_by-cons (λ (z : ℕ × Rule). if z.0 == x.0 then 1 else 0) y xs) h)
  where
    by : (b : Bool) → (y.0 == x.0) ≡ b → (y ≡ x) ⊎ In x xs → (In x xs → hits 1 x.0 xs ≤ 1 → rule_of xs x.0 ≡ Some x.1) →
        (if b then 1 else 0) + hits 1 x.0 xs ≤ 1 → (if b then Some y.1 else rule_of xs x.0) ≡ Some x.1
    by true t (inl e) rest k = ap (λ (z : ℕ × Rule). Some z.1) e
    by true t (inr j) rest k = let q = in_hits x xs j in absurd (omega (arith, k, q))
    by false t (inl e) rest k = absurd (true-false (sym ((Decides-eqb y.0 x.0).1 (ap (λ (z : ℕ × Rule). z.0) e)) ∙ t))
    by false t (inr j) rest k = rest j (omega (arith, k))

-- how the bucket of a number freezes
abbrev freeze : ℤ → List ℕ → ℕ × Rule → Freeze
freeze moment index x = record { moment = moment; index = index; id = x.0; rule = x.1 }

abbrev Freezes : ℤ → List ℕ → ℕ × Rule → Option Entry → Type 0
Freezes moment index x o = (e : Entry) × ((o ≡ Some e) × (freeze_of e ≡ freeze moment index x))

freezes_at : (t : Turn) (index : List ℕ) (file a n j : ℕ) (rule : Rule) (slots : List Slot) → AreSoundFrom index a slots → n ≡ a + j →
    rule_of t.moves.frozen n ≡ Some rule → 1 ≤ live_at (slice_get slots j) →
    Freezes t.moment t.index (n, rule) (entered_at (slice_get (kept.all_turned t file slots) j))
freezes_at t index file a n j rule [] h e r l = absurd (omega (arith, l))
freezes_at t index file a n zero rule (s ∷ slots) h e r l = by s.standing h.0 l
  where
    by : (standing : Standing) → IsStandingOf index a s.events standing → 1 ≤ live_one standing →
        Freezes t.moment t.index (n, rule) (entered (kept.turned t file standing))
    by (live b) k l =
        let same : b.id ≡ n = k.is_of.id_is ∙ (let q : a ≡ n = omega (arith, e) in q) in (
          entry_of t file rule b,
          (
            ap (λ (o : Option Rule). entered (turned_by t file b o)) (ap (rule_of t.moves.frozen) same ∙ r),
            ap (λ (m : ℕ). freeze t.moment t.index (m, rule)) same,
          ),
        )
    by (frozen f other) k l = absurd (omega (arith, l))
freezes_at t index file a n (suc j) rule (s ∷ slots) h e r l =
    freezes_at t index (file_behind t file s.standing) (suc a) n j rule slots h.1 (omega (arith, e)) r l

in_order : (moment : ℤ) (index : List ℕ) (f : ℕ × Rule → Option Entry) (xs : List (ℕ × Rule)) →
    ((x : ℕ × Rule) → In x xs → Freezes moment index x (f x)) →
    map freeze_of (flat_map (λ (x : ℕ × Rule). option_to_list (f x)) xs) ≡ map (freeze moment index) xs
in_order moment index f [] k = refl
in_order moment index f (x ∷ xs) k =
    let p = k x (inl refl) in
    let rest = flat_map (λ (y : ℕ × Rule). option_to_list (f y)) xs in
    subst (λ (o : Option Entry). map freeze_of (option_to_list o ++ rest) ≡ freeze moment index x
    ∷ map (freeze moment index) xs) (sym p.1.0)
    (ap (λ (y : Freeze). y ∷ map freeze_of rest) p.1.1 ∙ ap (λ (l : List Freeze). freeze moment index x
    ∷ l) (in_order moment index f xs (λ y i. k y (inr i))))

pub live_le : (o : Option Slot) → live_at o ≤ 1
live_le None = omega arith
live_le (Some s) = by s.standing
  where
    by : (standing : Standing) → live_one standing ≤ 1
    by (live b) = omega arith
    by (frozen e other) = omega arith

house_order : (index : List ℕ) (archive : Bool) (moment : ℤ) (p : Policy) (file : ℕ) (slots : List Slot) → AreSoundFrom index 0 slots →
    let t : Turn = record { index = index; archive = archive; moment = moment; moves = house.moves p (buckets slots) } in
    map freeze_of (entries_of t (kept.all_turned t file slots)) ≡ map (freeze moment index) t.moves.frozen
house_order index archive moment p file slots h =
    let t : Turn = record { index = index; archive = archive; moment = moment; moves = house.moves p (buckets slots) } in
    in_order moment index (λ (x : ℕ × Rule). entered_at (slice_get (kept.all_turned t file slots) x.0)) t.moves.frozen
    (λ x i. (let a = housed p (buckets slots) (λ (id : ℕ). if id == x.0 then 1 else 0) in
    let b = most_at index 0 x.0 x.0 slots h (omega arith) in
    let c = live_le (slice_get slots x.0) in
    let d = in_hits x t.moves.frozen i in
    freezes_at t index file 0 x.0 x.0 x.1 slots h (omega arith) (found_rule x t.moves.frozen i (omega (arith, a, b, c)))
    (omega (arith, a, b, d))))

all_in_order : (force : List Kept) (moment : ℤ) (file : ℕ) (is : List Index) → AllByRecursion IsSound is →
    map freeze_of (all_entries force moment file is) ≡ flat_map (freezes_in force moment) is
all_in_order force moment file [] h = refl
all_in_order force moment file (i ∷ is) h =
    let next = file + files_taken force moment i in
    map-append freeze_of (entries_in force moment file i) (all_entries force moment next is)
    ∙ (ap (λ (l : List Freeze). l ++ map freeze_of (all_entries force moment next is))
    (house_order i.name (limits force i.name).archive moment (record { limits = limits force i.name; moment = moment }) file i.slots h.0)
    ∙ ap (λ (l : List Freeze). freezes_in force moment i ++ l) (all_in_order force moment next is h.1))

pub ticks_in_order : (choose : Chooser) (history : List TimedCommand) (moment : ℤ) →
    let m : State = state_after choose history in
    GrowsInOrder m (stepped choose m Tick moment) moment
ticks_in_order choose history moment =
    let m : State = state_after choose history in
    record {
      more = all_entries m.force moment m.catalog.next_file m.catalog.indexes;
      behind = refl;
      in_order = all_in_order m.force moment m.catalog.next_file m.catalog.indexes (sound_after choose history);
    }
