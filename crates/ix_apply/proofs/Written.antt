-- Settings within the bounds of a state can be written.
use Rattle.std.proofs.Common.{◌≡◌, ◌≤◌, ◌<◌, ◌^◌, ℕ, ◌+◌, List, [], ◌∷◌, ◌++◌, length, arith, length-append}
use Rattle.std.specs.Prelude.{All}
use Rattle.std.specs.List.{AllByRecursion, flat_map}
use Rattle.std.proofs.lemmas.List.Elements.{All-from_recursion}
use Rattle.ix_coding.specs.Spelling.{IsShort, byte, four, string}
use Rattle.ix_items.specs.Spelling.{IsKept, kept_bytes, settings_bytes, field_bytes, item_bytes, body_bytes}
use Rattle.ix_items.specs.declared.items.Item.{Item}
use Rattle.ix_items.specs.declared.items.Item.TheVariants as items
use Rattle.ix_items.specs.declared.items.Kept.{Kept}
use Rattle.ix_model.specs.Bounds.{KeepsBounds}
use Rattle.ix_model.specs.State.{State}

abbrev pub HasFile : Kept → Type 0
HasFile kept = (1 ≤ kept.file) × (kept.file ≤ 4)

string_long : (text : List ℕ) → length text + 4 ≤ length (string text)
unfolding string four
string_long text = omega arith

kept_long : (k : Kept) → ((length k.stanza + length k.key) + length k.value) + 12 ≤ length (kept_bytes k)
kept_long k =
    let a = length-append ((byte k.file ++ string k.stanza) ++ string k.key) (string k.value) in
    let b = length-append (byte k.file ++ string k.stanza) (string k.key) in
    let c = length-append (byte k.file) (string k.stanza) in
    let d = string_long k.stanza in
    let e = string_long k.key in
    let f = string_long k.value in
    omega (arith, a, b, c, d, e, f)

all_kept : (kept : List Kept) → length (flat_map kept_bytes kept) < 2 ^ 29 → AllByRecursion HasFile kept → AllByRecursion IsKept kept
all_kept [] l h = tt
all_kept (k ∷ kept) l h =
    let a = length-append (kept_bytes k) (flat_map kept_bytes kept) in
    let b = kept_long k in (
      record {
        from = h.0.0;
        to = h.0.1;
        stanza = omega (arith, a, b, l);
        key = omega (arith, a, b, l);
        value = omega (arith, a, b, l);
      },
      all_kept kept (omega (arith, a, l)) h.1,
    )

as_many : (kept : List Kept) → length kept ≤ length (flat_map kept_bytes kept)
as_many [] = omega arith
as_many (k ∷ kept) =
    let a = length-append (kept_bytes k) (flat_map kept_bytes kept) in
    let b = kept_long k in
    let c = as_many kept in
    omega (arith, a, b, c)

settings_long : (kept : List Kept) → length (flat_map kept_bytes kept) ≤ length (item_bytes (items.Settings kept))
unfolding item_bytes field_bytes settings_bytes
settings_long kept =
    let a = length-append (four (length kept)) (flat_map kept_bytes kept) in
    let b = length-append (byte 1) (four (length kept) ++ flat_map kept_bytes kept) in
    omega (arith, a, b)

first_long : (x : Item) (xs : List Item) → length (item_bytes x) ≤ length (body_bytes (x ∷ xs))
first_long x xs = let a = length-append (item_bytes x) (body_bytes xs) in omega (arith, a)

bound : (m : State) (rest : List Item) → length (body_bytes (items.Settings m.force ∷ rest)) < 2 ^ 29 →
    length (flat_map kept_bytes m.force) < 2 ^ 29
bound m rest h =
    let a = settings_long m.force in
    let b = first_long (items.Settings m.force) rest in
    omega (arith, a, b, h)

pub force_written : (m : State) → KeepsBounds m → AllByRecursion HasFile m.force → IsShort m.force × All IsKept m.force
force_written m h f =
    let l : length (flat_map kept_bytes m.force) < 2 ^ 29 = bound m _ h.items in
    let n = as_many m.force in
    (omega (arith, l, n), All-from_recursion IsKept m.force (all_kept m.force l f))
