-- What was read of props.conf is usable: breakers take something, counts are in their ranges,
-- changes apply and transforms write.
use Rattle.std.proofs.Common.{◌≡◌, ◌≢◌, ℕ, ℤ, pos, ◌≤◌, ◌<◌, ◌&&◌, ◌⊎◌, inl, inr, Bool, true, false, List, [], ◌∷◌, ◌++◌, Some, None, refl}
use Rattle.std.proofs.Common.{sym, ap, ◌∙◌, subst, bytes_eq, codes, length, arith}
use Rattle.std.specs.Prelude.{Option, if◌then◌else◌, IfSome, int_le, unsigned_abs, neg_ℤ, ◌==◌}
use Rattle.std.specs.Option.{option_map}
use Rattle.std.specs.List.{AllByRecursion}
use Rattle.std.proofs.lemmas.Bool.{true≢false, ne_eqb}
use Rattle.std.proofs.lemmas.Bool.Decides.{nat_tests}
use Rattle.std.proofs.lemmas.Int.{ints}
use Rattle.ix_conf.specs.declared.layers.MergedEntry.{MergedEntry}
use Rattle.ix_pattern.specs.Rows.{Shape, tree}
use Rattle.ix_pattern.specs.Piece.{least_length}
use Rattle.ix_conf_values.specs.Plain.{boolean, number, count_in, number_in}
use Rattle.ix_conf_values.specs.Formats.{format}
use Rattle.ix_conf_values.specs.Seds.{IsApplicable}
use Rattle.ix_conf_values.specs.Transforms.{HasDestination}
use Rattle.ix_conf_values.specs.declared.seds.Sed.{Sed}
use Rattle.ix_conf_values.specs.declared.transforms.Transform.{Transform}
use Rattle.ix_base.specs.declared.events.ChannelMeta.{ChannelMeta}
use Rattle.ix_props.specs.Choice.{value_in, Holds, IsChosen}
use Rattle.ix_props.specs.Kinds.{behind, begins_with, is_ignored, time_kind, event_kind, key_kind, entry_kind}
use Rattle.ix_props.specs.Lists.{AreTransforms}
use Rattle.ix_props.specs.Names.{names}
use Rattle.ix_props.specs.Props.{IsOfKind, AreRead}
use Rattle.ix_props.specs.Ranking.{Ranks, Ranked, nearest, value_of, set_in, AreNearest, IsSmall}
use Rattle.ix_props.specs.Settings.{Class, Chosen, count_or, lookahead_of, IsBreakerOf, change_of, changes, transforms_of, chain}
use Rattle.ix_props.specs.Settings.{origin_of, AreSettings, AreUsable}
use Rattle.ix_props.specs.Sound.{IsSound, AreSound, IsOwnSound}
use Rattle.ix_props.specs.Values.{IsStanza, source_pattern, host_pattern, name}
use Rattle.ix_props.specs.declared.kinds.Kind.{Kind}
use Rattle.ix_props.specs.declared.kinds.Kind.TheVariants as kind
use Rattle.ix_props.specs.declared.props.PropsEntry.{PropsEntry}
use Rattle.ix_props.specs.declared.ranks.Rank.{Rank}
use Rattle.ix_props.specs.declared.settings.Settings.{Settings}
use Rattle.ix_props.specs.declared.values.Value.{Value}
use Rattle.ix_props.specs.declared.values.Value.TheVariants as value
use Rattle.ix_props.proofs.NearestLemmas.{same_bytes, nearest_is_in}

-- ---- what was read is sound
pub sound_from_read : (ts zs es : List MergedEntry) (entries : List PropsEntry) → AreRead ts zs es entries → AreSound entries
sound_from_read ts zs [] [] read = tt
sound_from_read ts zs [] (entry ∷ entries) read = absurd read
sound_from_read ts zs (e ∷ es) [] read = absurd read
sound_from_read ts zs (e ∷ es) (entry ∷ entries) read =
    (record { transforms = ts; zones = zs; said = e; is_read = read.0 }, sound_from_read ts zs es entries read.1)

-- ---- where a value comes from
record Sourced (key : List ℕ) (v : Value) : Type 0 where
  entry : PropsEntry
  sound : IsSound entry
  key_is : key ≡ entry.key
  value_is : entry.value ≡ v

both : (a b : Bool) → (a && b) ≡ true → b ≡ true
both true b h = h
both false b h = absurd (true≢false (sym h))

sourced_step : (s key : List ℕ) (v : Value) (e : PropsEntry) (es : List PropsEntry) (x : Bool) → IsSound e →
    (bytes_eq s e.stanza && bytes_eq key e.key) ≡ x →
    (value_in s key es ≡ Some v → Sourced key v) → (if x then Some e.value else value_in s key es) ≡ Some v → Sourced key v
sourced_step s key v e es true sound p ih is =
    record { entry = e; sound = sound; key_is = same_bytes key e.key (both (bytes_eq s e.stanza) (bytes_eq key e.key) p); value_is = cc }
sourced_step s key v e es false sound p ih is = ih is

sourced : (s key : List ℕ) (v : Value) (entries : List PropsEntry) → AreSound entries → value_in s key entries ≡ Some v → Sourced key v
sourced s key v [] sound has = absurd (cc)
sourced s key v (e ∷ es) sound has =
    sourced_step s key v e es (bytes_eq s e.stanza && bytes_eq key e.key) sound.0 refl (λ there. sourced s key v es sound.1 there) has

record ReadAs (k : Kind) (v : Value) : Type 0 where
  transforms : List MergedEntry
  zones : List MergedEntry
  said : MergedEntry
  is : IsOfKind transforms zones k said v

-- a value of a key is empty, or of the kind of that key
picked : (x y z : Bool) (k : Kind) → x ≡ false → y ≡ false → z ≡ false →
    (if x then kind.Unread else if y then kind.Stanza else if z then kind.Unread else k) ≡ k
picked false false false k p q r = refl
picked true y z k p q r = absurd (true≢false p)
picked false true z k p q r = absurd (true≢false q)
picked false false true k p q r = absurd (true≢false r)

passed : (x y z : Bool) (k : Kind) → y ≡ false → (x ≡ true) ⊎ (z ≡ true) →
    (if x then kind.Unread else if y then kind.Stanza else if z then kind.Unread else k) ≡ kind.Unread
passed true y z k q r = refl
passed false true z k q r = absurd (true≢false q)
passed false false true k q r = refl
passed false false false k q (inl r) = absurd (true≢false (sym r))
passed false false false k q (inr r) = absurd (true≢false (sym r))

kind_of : (b : ℕ) (key : List ℕ) (e : MergedEntry) → b ∷ key ≡ e.key → (entry_kind e ≡ kind.Unread) ⊎ (entry_kind e ≡ key_kind (b ∷ key))
kind_of b key e is = by (is_ignored e.stanza) (length e.value == 0) refl refl
  where
    named : (length e.key == 0) ≡ false
    named = ap (λ (k : List ℕ). length k == 0) (sym is) ∙ ne_eqb (length (b ∷ key)) 0 (λ e. omega arith)

    by : (x y : Bool) → is_ignored e.stanza ≡ x → (length e.value == 0) ≡ y → (entry_kind e ≡ kind.Unread)
        ⊎ (entry_kind e ≡ key_kind (b ∷ key))
    by true y p q = inl (passed (is_ignored e.stanza) (length e.key == 0) (length e.value == 0) (key_kind e.key) named (inl p))
    by false true p q = inl (passed (is_ignored e.stanza) (length e.key == 0) (length e.value == 0) (key_kind e.key) named (inr q))
    by false false p q =
        inr (picked (is_ignored e.stanza) (length e.key == 0) (length e.value == 0) (key_kind e.key) p named q
        ∙ ap (λ k. key_kind k) (sym is))

read_as : (b : ℕ) (key : List ℕ) (v : Value) → Sourced (b ∷ key) v → (v ≡ value.Nothing) ⊎ ReadAs (key_kind (b ∷ key)) v
read_as b key v from =
    let read = from.sound.is_read in
    let of_kind : (k : Kind) → entry_kind from.sound.said ≡ k → IsOfKind from.sound.transforms from.sound.zones k from.sound.said v =
    λ k same. subst (λ x. IsOfKind from.sound.transforms from.sound.zones x from.sound.said v) same
    (subst (λ w. IsOfKind from.sound.transforms from.sound.zones (entry_kind from.sound.said) from.sound.said w) from.value_is read.value)
    in
    elim (kind_of b key from.sound.said (from.key_is ∙ read.key)) [
      | inl none ↦ inl (of_kind kind.Unread none)
      | inr same ↦ inr (record {
        transforms = from.sound.transforms;
        zones = from.sound.zones;
        said = from.sound.said;
        is = of_kind (key_kind (b ∷ key)) same;
      })
    ]

-- ---- what values of a kind are
apart : {A : Type 0} (g : A → Value) (o : Option A) (v : Value) → ((a : A) → g a ≢ v) → option_map g o ≡ Some v → ⊥
apart g None v never is = absurd (cc)
apart g (Some a) v never is = let one : g a ≡ v = cc in never a one

stanza_changes_nothing : (a b : Option (List ℕ)) (sed : Sed) → IsStanza a b (value.Change sed) → ⊥
stanza_changes_nothing (Some text) b sed is = is
stanza_changes_nothing None (Some text) sed is = is
stanza_changes_nothing None None sed is = absurd (cc)

applies : (ts zs : List MergedEntry) (k : Kind) (e : MergedEntry) (sed : Sed) → IsOfKind ts zs k e (value.Change sed) → IsApplicable sed
applies ts zs kind.Unread e sed is = absurd (cc)
applies ts zs kind.Stanza e sed is = absurd (stanza_changes_nothing (source_pattern e) (host_pattern e) sed is)
applies ts zs kind.Breaker e sed is = absurd is
applies ts zs kind.Pattern e sed is = absurd is
applies ts zs kind.Boolean e sed is = absurd (apart (λ (b : Bool). value.Boolean b) (boolean e.value) (value.Change sed)
    (λ a same. absurd (cc)) is)
applies ts zs (kind.Count lo hi) e sed is = absurd (apart (λ (n : ℕ). value.Count n) (count_in lo hi e.value) (value.Change sed)
    (λ a same. absurd (cc)) is)
applies ts zs kind.Lookahead e sed is = absurd (apart (λ (n : ℤ). value.Number n) (number_in (neg_ℤ (pos 1)) (pos 1_048_576) e.value)
    (value.Change sed) (λ a same. absurd (cc)) is)
applies ts zs kind.Priority e sed is = absurd (apart (λ (n : ℤ). value.Number n) (number_in (neg_ℤ (pos 1_000_000)) (pos 1_000_000) e.value)
    (value.Change sed) (λ a same. absurd (cc)) is)
applies ts zs kind.Format e sed is = absurd (apart value.Format (format e.value) (value.Change sed) (λ a same. absurd (cc)) is)
applies ts zs kind.Zone e sed is = absurd is
applies ts zs kind.Change e sed is = is.1
applies ts zs kind.Transforms e sed is = absurd is
applies ts zs kind.Name e sed is = absurd (apart value.Name (name e.value) (value.Change sed) (λ a same. absurd (cc)) is)

stanza_names_nothing : (a b : Option (List ℕ)) (list : List Transform) → IsStanza a b (value.Transforms list) → ⊥
stanza_names_nothing (Some text) b list is = is
stanza_names_nothing None (Some text) list is = is
stanza_names_nothing None None list is = absurd (cc)

destinations : (ts : List MergedEntry) (names : List (List ℕ)) (list : List Transform) → AreTransforms ts names list →
    AllByRecursion HasDestination list
destinations ts [] [] are = tt
destinations ts [] (t ∷ list) are = absurd are
destinations ts (n ∷ names) [] are = absurd are
destinations ts (n ∷ names) (t ∷ list) are = (are.0.destination, destinations ts names list are.1)

writes : (ts zs : List MergedEntry) (k : Kind) (e : MergedEntry) (list : List Transform) → IsOfKind ts zs k e (value.Transforms list) →
    AllByRecursion HasDestination list
writes ts zs kind.Unread e list is = absurd (cc)
writes ts zs kind.Stanza e list is = absurd (stanza_names_nothing (source_pattern e) (host_pattern e) list is)
writes ts zs kind.Breaker e list is = absurd is
writes ts zs kind.Pattern e list is = absurd is
writes ts zs kind.Boolean e list is = absurd (apart (λ (b : Bool). value.Boolean b) (boolean e.value) (value.Transforms list)
    (λ a same. absurd (cc)) is)
writes ts zs (kind.Count lo hi) e list is = absurd (apart (λ (n : ℕ). value.Count n) (count_in lo hi e.value) (value.Transforms list)
    (λ a same. absurd (cc)) is)
writes ts zs kind.Lookahead e list is = absurd (apart (λ (n : ℤ). value.Number n) (number_in (neg_ℤ (pos 1)) (pos 1_048_576) e.value)
    (value.Transforms list) (λ a same. absurd (cc)) is)
writes ts zs kind.Priority e list is = absurd (apart (λ (n : ℤ). value.Number n) (number_in (neg_ℤ (pos 1_000_000)) (pos 1_000_000) e.value)
    (value.Transforms list) (λ a same. absurd (cc)) is)
writes ts zs kind.Format e list is = absurd (apart value.Format (format e.value) (value.Transforms list) (λ a same. absurd (cc)) is)
writes ts zs kind.Zone e list is = absurd is
writes ts zs kind.Change e list is = absurd is
writes ts zs kind.Transforms e list is = destinations ts (names e.value) list is
writes ts zs kind.Name e list is = absurd (apart value.Name (name e.value) (value.Transforms list) (λ a same. absurd (cc)) is)

-- a number in a range
in_range : (least most : ℤ) (text : List ℕ) (n : ℤ) → number_in least most text ≡ Some n → (int_le least n ≡ true) × (int_le n most ≡ true)
in_range least most text n is = by (number text) refl
  where
    test : (z : ℤ) (a b : Bool) → int_le least z ≡ a → int_le z most ≡ b → (if a && b then Some z else None) ≡ Some n →
        (int_le least n ≡ true) × (int_le n most ≡ true)
    test z true true p q is = let one : z ≡ n = cc in (subst (λ m. int_le least m ≡ true) one p, subst (λ m. int_le m most ≡ true) one q)
    test z true false p q is = absurd (cc)
    test z false b p q is = absurd (cc)

    by : (o : Option ℤ) → number text ≡ o → (int_le least n ≡ true) × (int_le n most ≡ true)
    by None p = let never = rw p at is in absurd (cc)
    by (Some z) p = test z (int_le least z) (int_le z most) refl refl (rw p at is)

count_within : (lo hi : ℕ) (text : List ℕ) (n : ℕ) → count_in lo hi text ≡ Some n → (lo ≤ n) × (n ≤ hi)
count_within lo hi text n is = by (number_in (pos lo) (pos hi) text) refl
  where
    bounds : (z : ℤ) → int_le (pos lo) z ≡ true → int_le z (pos hi) ≡ true → (lo ≤ unsigned_abs z) × (unsigned_abs z ≤ hi)
    bounds z p q = (grind (arith, ints), grind (arith, ints))

    by : (o : Option ℤ) → number_in (pos lo) (pos hi) text ≡ o → (lo ≤ n) × (n ≤ hi)
    by None p = let never = rw p at is in absurd (cc)
    by (Some z) p =
        let two = in_range (pos lo) (pos hi) text z p in
        let same = rw p at is in
        let one : unsigned_abs z ≡ n = cc in
        subst (λ m. (lo ≤ m) × (m ≤ hi)) one (bounds z two.0 two.1)

counts : (lo hi : ℕ) (text : List ℕ) (n : ℕ) → option_map value.Count (count_in lo hi text) ≡ Some (value.Count n) → (lo ≤ n) × (n ≤ hi)
counts lo hi text n is = by (count_in lo hi text) refl
  where
    by : (o : Option ℕ) → count_in lo hi text ≡ o → (lo ≤ n) × (n ≤ hi)
    by None p = let never = rw p at is in absurd (cc)
    by (Some m) p = let same = rw p at is in let one : m ≡ n = cc in count_within lo hi text n (p ∙ ap (λ x. Some x) one)

numbers : (least most : ℤ) (text : List ℕ) (n : ℤ) → option_map value.Number (number_in least most text) ≡ Some (value.Number n) →
    int_le n most ≡ true
numbers least most text n is = by (number_in least most text) refl
  where
    by : (o : Option ℤ) → number_in least most text ≡ o → int_le n most ≡ true
    by None p = let never = rw p at is in absurd (cc)
    by (Some m) p = let same = rw p at is in let one : m ≡ n = cc in (in_range least most text n (p ∙ ap (λ x. Some x) one)).1

-- ---- what settings come of it
breaker_ok : (o : Option Value) (shape : Shape) → IsBreakerOf o shape →
    ((p : Shape) → o ≡ Some (value.Pattern p) → (0 < p.groups) × (0 < least_length (tree p.rows))) → (0 < shape.groups)
    × (0 < least_length (tree shape.rows))
breaker_ok None shape is ok = (is.groups, is.takes)
breaker_ok (Some (value.Pattern p)) shape is ok = subst (λ (q : Shape). (0 < q.groups)
    × (0 < least_length (tree q.rows))) (sym is) (ok p refl)
breaker_ok (Some value.Nothing) shape is ok = (is.groups, is.takes)
breaker_ok (Some (value.Source x)) shape is ok = (is.groups, is.takes)
breaker_ok (Some (value.Host x)) shape is ok = (is.groups, is.takes)
breaker_ok (Some (value.Boolean x)) shape is ok = (is.groups, is.takes)
breaker_ok (Some (value.Count x)) shape is ok = (is.groups, is.takes)
breaker_ok (Some (value.Number x)) shape is ok = (is.groups, is.takes)
breaker_ok (Some (value.Format x)) shape is ok = (is.groups, is.takes)
breaker_ok (Some (value.Zone x)) shape is ok = (is.groups, is.takes)
breaker_ok (Some (value.Change x)) shape is ok = (is.groups, is.takes)
breaker_ok (Some (value.Transforms x)) shape is ok = (is.groups, is.takes)
breaker_ok (Some (value.Name x)) shape is ok = (is.groups, is.takes)

count_ok : (o : Option Value) (lo hi d : ℕ) → lo ≤ d → d ≤ hi → ((n : ℕ) → o ≡ Some (value.Count n) → (lo ≤ n) × (n ≤ hi)) →
    (lo ≤ count_or d o) × (count_or d o ≤ hi)
count_ok None lo hi d p q ok = (p, q)
count_ok (Some (value.Count n)) lo hi d p q ok = ok n refl
count_ok (Some value.Nothing) lo hi d p q ok = (p, q)
count_ok (Some (value.Source x)) lo hi d p q ok = (p, q)
count_ok (Some (value.Host x)) lo hi d p q ok = (p, q)
count_ok (Some (value.Pattern x)) lo hi d p q ok = (p, q)
count_ok (Some (value.Boolean x)) lo hi d p q ok = (p, q)
count_ok (Some (value.Number x)) lo hi d p q ok = (p, q)
count_ok (Some (value.Format x)) lo hi d p q ok = (p, q)
count_ok (Some (value.Zone x)) lo hi d p q ok = (p, q)
count_ok (Some (value.Change x)) lo hi d p q ok = (p, q)
count_ok (Some (value.Transforms x)) lo hi d p q ok = (p, q)
count_ok (Some (value.Name x)) lo hi d p q ok = (p, q)

abbrev Within : Option ℕ → Type 0
Within o = IfSome o (λ n. (1 ≤ n) × (n ≤ 1_048_576))

bytes_ok : (n : ℤ) (b : Bool) → int_le n (pos 0) ≡ b → int_le n (pos 1_048_576) ≡ true → Within (if b then None else Some (unsigned_abs n))
bytes_ok n true p q = tt
bytes_ok n false p q = (grind (arith, ints), grind (arith, ints))

lookahead_ok : (o : Option Value) → IsSmall o → Within (lookahead_of o)
lookahead_ok None small = (omega arith, omega arith)
lookahead_ok (Some (value.Number n)) small = bytes_ok n (int_le n (pos 0)) refl small
lookahead_ok (Some value.Nothing) small = (omega arith, omega arith)
lookahead_ok (Some (value.Source x)) small = (omega arith, omega arith)
lookahead_ok (Some (value.Host x)) small = (omega arith, omega arith)
lookahead_ok (Some (value.Pattern x)) small = (omega arith, omega arith)
lookahead_ok (Some (value.Boolean x)) small = (omega arith, omega arith)
lookahead_ok (Some (value.Count x)) small = (omega arith, omega arith)
lookahead_ok (Some (value.Format x)) small = (omega arith, omega arith)
lookahead_ok (Some (value.Zone x)) small = (omega arith, omega arith)
lookahead_ok (Some (value.Change x)) small = (omega arith, omega arith)
lookahead_ok (Some (value.Transforms x)) small = (omega arith, omega arith)
lookahead_ok (Some (value.Name x)) small = (omega arith, omega arith)

small_ok : (o : Option Value) → ((n : ℤ) → o ≡ Some (value.Number n) → int_le n (pos 1_048_576) ≡ true) → IsSmall o
small_ok None ok = tt
small_ok (Some (value.Number n)) ok = ok n refl
small_ok (Some value.Nothing) ok = tt
small_ok (Some (value.Source x)) ok = tt
small_ok (Some (value.Host x)) ok = tt
small_ok (Some (value.Pattern x)) ok = tt
small_ok (Some (value.Boolean x)) ok = tt
small_ok (Some (value.Count x)) ok = tt
small_ok (Some (value.Format x)) ok = tt
small_ok (Some (value.Zone x)) ok = tt
small_ok (Some (value.Change x)) ok = tt
small_ok (Some (value.Transforms x)) ok = tt
small_ok (Some (value.Name x)) ok = tt

change_ok : (v : Value) → ((sed : Sed) → v ≡ value.Change sed → IsApplicable sed) → AllByRecursion IsApplicable (change_of v)
change_ok (value.Change sed) ok = (ok sed refl, tt)
change_ok value.Nothing ok = tt
change_ok (value.Source x) ok = tt
change_ok (value.Host x) ok = tt
change_ok (value.Pattern x) ok = tt
change_ok (value.Boolean x) ok = tt
change_ok (value.Count x) ok = tt
change_ok (value.Number x) ok = tt
change_ok (value.Format x) ok = tt
change_ok (value.Zone x) ok = tt
change_ok (value.Transforms x) ok = tt
change_ok (value.Name x) ok = tt

transforms_ok : (v : Value) → ((list : List Transform) → v ≡ value.Transforms list → AllByRecursion HasDestination list) →
    AllByRecursion HasDestination (transforms_of v)
transforms_ok (value.Transforms list) ok = ok list refl
transforms_ok value.Nothing ok = tt
transforms_ok (value.Source x) ok = tt
transforms_ok (value.Host x) ok = tt
transforms_ok (value.Pattern x) ok = tt
transforms_ok (value.Boolean x) ok = tt
transforms_ok (value.Count x) ok = tt
transforms_ok (value.Number x) ok = tt
transforms_ok (value.Format x) ok = tt
transforms_ok (value.Zone x) ok = tt
transforms_ok (value.Change x) ok = tt
transforms_ok (value.Name x) ok = tt

all_append : {X : Type 0} (P : X → Type 0) (xs ys : List X) → AllByRecursion P xs → AllByRecursion P ys → AllByRecursion P (xs ++ ys)
all_append P [] ys a b = b
all_append P (x ∷ xs) ys a b = (a.0, all_append P xs ys a.1 b)

-- a value that was read, by the kind that its entry has
by_kind : (key : List ℕ) (v : Value) (from : Sourced key v) →
    IsOfKind from.sound.transforms from.sound.zones (entry_kind from.sound.said) from.sound.said v
by_kind key v from =
    subst (λ w. IsOfKind from.sound.transforms from.sound.zones (entry_kind from.sound.said) from.sound.said w) from.value_is
    from.sound.is_read.value

abbrev AreSourced : Chosen → Type 0
AreSourced set = (key : List ℕ) (v : Value) → set key ≡ Some v → Sourced key v

change_applies : (key : List ℕ) (v : Value) (sed : Sed) → Sourced key v → v ≡ value.Change sed → IsApplicable sed
change_applies key v sed from is =
    applies from.sound.transforms from.sound.zones (entry_kind from.sound.said) from.sound.said sed
    (subst (λ w. IsOfKind from.sound.transforms from.sound.zones (entry_kind from.sound.said) from.sound.said w) is (by_kind key v from))

transforms_write : (key : List ℕ) (v : Value) (list : List Transform) → Sourced key v → v ≡ value.Transforms list →
    AllByRecursion HasDestination list
transforms_write key v list from is =
    writes from.sound.transforms from.sound.zones (entry_kind from.sound.said) from.sound.said list
    (subst (λ w. IsOfKind from.sound.transforms from.sound.zones (entry_kind from.sound.said) from.sound.said w) is (by_kind key v from))

changes_apply : (set : Chosen) (prefix : List ℕ) (cs : List Class) → AreSourced set →
    AllByRecursion (λ c. (begins_with prefix c.0 ≡ true) × (set c.0 ≡ Some c.1)) cs → AllByRecursion IsApplicable (changes cs)
changes_apply set prefix [] sourced each = tt
changes_apply set prefix (c ∷ cs) sourced each =
    all_append IsApplicable (change_of c.1) (changes cs)
    (change_ok c.1 (λ sed is. change_applies c.0 c.1 sed (sourced c.0 c.1 each.0.1) is))
    (changes_apply set prefix cs sourced each.1)

chain_writes : (set : Chosen) (prefix : List ℕ) (cs : List Class) → AreSourced set →
    AllByRecursion (λ c. (begins_with prefix c.0 ≡ true) × (set c.0 ≡ Some c.1)) cs → AllByRecursion HasDestination (chain cs)
chain_writes set prefix [] sourced each = tt
chain_writes set prefix (c ∷ cs) sourced each =
    all_append HasDestination (transforms_of c.1) (chain cs)
    (transforms_ok c.1 (λ list is. transforms_write c.0 c.1 list (sourced c.0 c.1 each.0.1) is))
    (chain_writes set prefix cs sourced each.1)

breaker_read : (p : Shape) → Sourced (codes "LINE_BREAKER") (value.Pattern p) → (0 < p.groups) × (0 < least_length (tree p.rows))
breaker_read p from = elim (read_as 76 (codes "INE_BREAKER") (value.Pattern p) from) [
  | inl none ↦ absurd (cc)
  | inr r ↦ (r.is.groups, r.is.takes)
]

events_read : (n : ℕ) → Sourced (codes "MAX_EVENTS") (value.Count n) → (1 ≤ n) × (n ≤ 1_000_000)
unfolding event_kind
events_read n from = elim (read_as 77 (codes "AX_EVENTS") (value.Count n) from) [
  | inl none ↦ absurd (cc)
  | inr r ↦ counts 1 1_000_000 r.said.value n r.is
]

ago_read : (n : ℕ) → Sourced (codes "MAX_DAYS_AGO") (value.Count n) → (0 ≤ n) × (n ≤ 10_951)
unfolding event_kind time_kind
ago_read n from = elim (read_as 77 (codes "AX_DAYS_AGO") (value.Count n) from) [
  | inl none ↦ absurd (cc)
  | inr r ↦ counts 0 10_951 r.said.value n r.is
]

hence_read : (n : ℕ) → Sourced (codes "MAX_DAYS_HENCE") (value.Count n) → (0 ≤ n) × (n ≤ 10_950)
unfolding event_kind time_kind
hence_read n from = elim (read_as 77 (codes "AX_DAYS_HENCE") (value.Count n) from) [
  | inl none ↦ absurd (cc)
  | inr r ↦ counts 0 10_950 r.said.value n r.is
]

lookahead_read : (n : ℤ) → Sourced (codes "MAX_TIMESTAMP_LOOKAHEAD") (value.Number n) → int_le n (pos 1_048_576) ≡ true
unfolding event_kind time_kind
lookahead_read n from = elim (read_as 77 (codes "AX_TIMESTAMP_LOOKAHEAD") (value.Number n) from) [
  | inl none ↦ absurd (cc)
  | inr r ↦ numbers (neg_ℤ (pos 1)) (pos 1_048_576) r.said.value n r.is
]

-- the nearest value of a key comes of an entry
near_sourced : (f : Ranks) (entries list : List PropsEntry) → AreSound entries → AreNearest f entries list → AreSourced (set_in list)
near_sourced f entries list sound near key v is = by (nearest f key entries) refl
  where
    by : (o : Option Ranked) → nearest f key entries ≡ o → Sourced key v
    by None p = let never : None ≡ Some v = sym (ap (λ c. option_map value_of c) p) ∙ sym (near.set key) ∙ is in absurd (cc)
    by (Some c) p =
        let in_es = nearest_is_in f key entries c p in
        let same : Some c.0.value ≡ Some v = sym (ap (λ d. option_map value_of d) p) ∙ sym (near.set key) ∙ is in
        sourced c.0.stanza key v entries sound (in_es.has ∙ same)

pub small_lookahead : (f : Ranks) (entries list : List PropsEntry) → AreSound entries → AreNearest f entries list →
    IsSmall (set_in list (codes "MAX_TIMESTAMP_LOOKAHEAD"))
small_lookahead f entries list sound near =
    small_ok (set_in list (codes "MAX_TIMESTAMP_LOOKAHEAD")) (λ n is.
    lookahead_read n (near_sourced f entries list sound near (codes "MAX_TIMESTAMP_LOOKAHEAD") (value.Number n) is))

chosen_sourced : (entries : List PropsEntry) (H : List ℕ → Rank → Type 0) (key : List ℕ) (v : Value) → AreSound entries →
    IsChosen entries H key (Some v) → Sourced key v
chosen_sourced entries H key v sound is = sourced is.stanza key v entries sound is.has

pub usable : (entries : List PropsEntry) (meta : ChannelMeta) (s : Settings) → AreSound entries → AreSettings entries meta s → AreUsable s
usable entries meta s sound a =
    let H : List ℕ → Rank → Type 0 = Holds entries (origin_of meta s.sourcetype) in
    let from : AreSourced a.set =
    λ key v is. chosen_sourced entries H key v sound (subst (λ o. IsChosen entries H key o) is (a.chosen key)) in
    let breaker = breaker_ok (a.set (codes "LINE_BREAKER")) s.breaker a.breaker
    (λ p is. breaker_read p (from (codes "LINE_BREAKER") (value.Pattern p) is)) in
    let lines = count_ok (a.set (codes "MAX_EVENTS")) 1 1_000_000 256 (omega arith) (omega arith)
    (λ n is. events_read n (from (codes "MAX_EVENTS") (value.Count n) is)) in
    let ago = count_ok (a.set (codes "MAX_DAYS_AGO")) 0 10_951 2000 (omega arith) (omega arith)
    (λ n is. ago_read n (from (codes "MAX_DAYS_AGO") (value.Count n) is)) in
    let hence = count_ok (a.set (codes "MAX_DAYS_HENCE")) 0 10_950 2 (omega arith) (omega arith)
    (λ n is. hence_read n (from (codes "MAX_DAYS_HENCE") (value.Count n) is)) in
    let look = lookahead_ok (a.set (codes "MAX_TIMESTAMP_LOOKAHEAD")) (small_ok (a.set (codes "MAX_TIMESTAMP_LOOKAHEAD"))
    (λ n is. lookahead_read n (from (codes "MAX_TIMESTAMP_LOOKAHEAD") (value.Number n) is))) in
    record {
      groups = breaker.0;
      takes = breaker.1;
      lines = subst (λ n. 1 ≤ n) (sym a.merge.max_lines) lines.0;
      few_lines = subst (λ n. n ≤ 1_000_000) (sym a.merge.max_lines) lines.1;
      ago = subst (λ n. n ≤ 10_951) (sym a.time.days_ago) ago.1;
      hence = subst (λ n. n ≤ 10_950) (sym a.time.days_hence) hence.1;
      lookahead = subst (λ o. Within o) (sym a.time.lookahead) look;
      seds = subst (λ xs. AllByRecursion IsApplicable xs) (sym a.seds.2)
          (changes_apply a.set (codes "SEDCMD-") a.seds.0 from a.seds.1.each);
      transforms = subst (λ xs. AllByRecursion HasDestination xs) (sym a.transforms.2)
          (chain_writes a.set (codes "TRANSFORMS-") a.transforms.0 from a.transforms.1.each);
    }

-- ---- a stanza's own entry
apart_begin : (c b : ℕ) (bs : List ℕ) (s : List ℕ) → (c == b) ≡ false → behind (b ∷ bs) (c ∷ s) ≡ None
apart_begin c b bs s differ = rw differ refl

ignored : (s : List ℕ) → is_ignored s ≡ true → (behind (codes "source::") s ≡ None) × (behind (codes "host::") s ≡ None)
ignored [] is = (refl, refl)
ignored (c ∷ s) is = by (c == 114) (c == 100) refl refl
  where
    by : (x y : Bool) → (c == 114) ≡ x → (c == 100) ≡ y → (behind (codes "source::") (c ∷ s) ≡ None)
        × (behind (codes "host::") (c ∷ s) ≡ None)
    by true y p q =
        let a : (c == 115) ≡ false = grind (arith, nat_tests) in
        let b : (c == 104) ≡ false = grind (arith, nat_tests) in
        (apart_begin c 115 (codes "ource::") s a, apart_begin c 104 (codes "ost::") s b)
    by false true p q =
        let a : (c == 115) ≡ false = grind (arith, nat_tests) in
        let b : (c == 104) ≡ false = grind (arith, nat_tests) in
        (apart_begin c 115 (codes "ource::") s a, apart_begin c 104 (codes "ost::") s b)
    by false false p q = let never = rw (p, q) at is in absurd (true≢false (sym never))

nothing_of : (a b : Option (List ℕ)) (v : Value) → a ≡ None → b ≡ None → v ≡ value.Nothing → IsStanza a b v
nothing_of None None v p q is = is
nothing_of (Some t) b v p q is = absurd (cc)
nothing_of None (Some t) v p q is = absurd (cc)

pub own_sound : (e : PropsEntry) → IsSound e → (length e.key == 0) ≡ true → IsOwnSound e
own_sound e sound empty = by (is_ignored sound.said.stanza) refl
  where
    named : (length sound.said.key == 0) ≡ true
    named = ap (λ (k : List ℕ). length k == 0) (sym sound.is_read.key) ∙ empty

    by : (x : Bool) → is_ignored sound.said.stanza ≡ x → IsOwnSound e
    by true p =
        let none = ignored sound.said.stanza p in
        let read = rw p at sound.is_read.value in
        subst (λ s. IsStanza (behind (codes "source::") s) (behind (codes "host::") s) e.value) (sym sound.is_read.stanza)
        (nothing_of (behind (codes "source::") sound.said.stanza) (behind (codes "host::") sound.said.stanza) e.value none.0 none.1 read)
    by false p =
        let read = rw (p, named) at sound.is_read.value in
        subst (λ s. IsStanza (behind (codes "source::") s) (behind (codes "host::") s) e.value) (sym sound.is_read.stanza) read
