-- The items of a body are replayed from left to right.
use Rattle.std.proofs.Common.{◌≡◌, ℕ, ◌+◌, ◌<◌, List, [], ◌∷◌, ◌++◌, length, take, drop, refl, ap, subst, sym, ◌∙◌, arith, append-nil}
use Rattle.std.specs.List.{AllByRecursion}
use Rattle.std.proofs.Math.Seq.{take-add}
use Rattle.std.proofs.lemmas.List.{drop_at, drop-drop}
use Rattle.std.proofs.lemmas.List.Concat.{flat_map-append}
use Rattle.ix_items.specs.declared.items.Item.{Item}
use Rattle.ix_items.specs.Spelling.{HasSpelling, item_bytes, body_bytes}
use Rattle.ix_items.proofs.RowsAgain.{one_body}
use Rattle.ix_manifest.specs.Book.{NamedItems, after_item, replay, AreItems, IsBody, Replays}
use Rattle.ix_manifest.specs.Replaying.{HasApplied}

pub replay_behind : (items more : List Item) (book : NamedItems) → replay (items ++ more) book ≡ replay more (replay items book)
replay_behind [] more book = refl
replay_behind (item ∷ items) more book = replay_behind items more (after_item item book)

proper_behind : (items : List Item) (item : Item) → AllByRecursion HasSpelling items → HasSpelling item →
    AllByRecursion HasSpelling (items ++ item ∷ [])
proper_behind [] item all is = (is, tt)
proper_behind (first ∷ items) item all is = (all.0, proper_behind items item all.1 is)

-- no item yet
pub applied_none : (body : List ℕ) (book : NamedItems) → HasApplied (take 0 body) book book
applied_none body book = record { items = []; are = record { proper = tt; spelled = refl }; replayed = refl }

-- one item more
pub applied_more : (body : List ℕ) (at len : ℕ) (item : Item) (from mid to : NamedItems) → HasApplied (take at body) from mid →
    take len (drop at body) ≡ item_bytes item → HasSpelling item → to ≡ after_item item mid
    → HasApplied (take (at + len) body) from to
applied_more body at len item from mid to so_far here proper is = record {
  items = so_far.items ++ item ∷ [];
  are = record {
    proper = proper_behind so_far.items item so_far.are.proper proper;
    spelled = take-add at len body ∙ both so_far.are.spelled (here ∙ sym (append-nil (item_bytes item)))
        ∙ sym (flat_map-append item_bytes so_far.items (item ∷ []));
  };
  replayed = is ∙ ap (after_item item) so_far.replayed ∙ sym (replay_behind so_far.items (item ∷ []) from);
}
  where
    both : {a b c d : List ℕ} → a ≡ b → c ≡ d → a ++ c ≡ b ++ d
    both p q = λ i. p i ++ q i

-- what is left begins with an item
pub first_item : (items : List Item) (rest : List ℕ) → AreItems items rest → 0 < length rest → (item : Item) × (more : List Item)
    × HasSpelling item × AllByRecursion HasSpelling more × (rest ≡ item_bytes item ++ body_bytes more)
first_item [] rest is some = absurd (omega (arith, some, ap length is.spelled))
first_item (item ∷ more) rest is some = (item, more, is.proper.0, is.proper.1, is.spelled)

pub left_more : (body : List ℕ) (at len : ℕ) (item : Item) (more : List Item) → AllByRecursion HasSpelling more →
    drop at body ≡ item_bytes item ++ body_bytes more → len ≡ length (item_bytes item) → AreItems more (drop (at + len) body)
left_more body at len item more proper is size = record {
  proper = proper;
  spelled = sym (drop-drop len at body) ∙ ap (drop len) is ∙ drop_at (item_bytes item) (body_bytes more) len (sym size);
}

-- the same bodies lead to the same book
pub replays_one : (fits : NamedItems → Type 0) (bodies : List (List ℕ)) (from a b : NamedItems) → Replays fits bodies from a →
    Replays fits bodies from b → a ≡ b
replays_one fits [] from a b is_a is_b = is_a ∙ sym is_b
replays_one fits (body ∷ bodies) from a b is_a is_b =
    let same : is_a.0 ≡ is_b.0 = one_body is_a.0 is_b.0 is_a.1.are.proper is_b.1.are.proper (sym is_a.1.are.spelled ∙ is_b.1.are.spelled) in
    replays_one fits bodies (replay is_b.0 from) a b (subst (λ (items : List Item). Replays fits bodies (replay items from) a) same is_a.3)
    is_b.3

-- a further body leads on
pub replays_push : (fits : NamedItems → Type 0) (bodies : List (List ℕ)) (body : List ℕ) (items : List Item) (from to : NamedItems) →
    Replays fits bodies from to → IsBody items body → fits (replay items to) → Replays fits (bodies ++ body ∷ []) from (replay items to)
replays_push fits [] body items from to same is fit =
    (items, is, subst (λ (b : NamedItems). fits (replay items b)) same fit, ap (replay items) same)
replays_push fits (first ∷ bodies) body items from to replays is fit =
    (replays.0, replays.1, replays.2, replays_push fits bodies body items _ to replays.3 is fit)

-- a further body of a log that replays is a list of items that leads to a book that fits
pub next_is_body : (fits : NamedItems → Type 0) (bodies : List (List ℕ)) (body : List ℕ) (others : List (List ℕ))
    (from mid to : NamedItems) → Replays fits bodies from mid → Replays fits (bodies ++ body ∷ others) from to
    → (items : List Item) × IsBody items body × fits (replay items mid)
next_is_body fits [] body others from mid to same is = (is.0, is.1, subst (λ (b : NamedItems). fits (replay is.0 b)) (sym same) is.2)
next_is_body fits (first ∷ bodies) body others from mid to front is =
    let same : front.0 ≡ is.0 = one_body front.0 is.0 front.1.are.proper is.1.are.proper (sym front.1.are.spelled ∙ is.1.are.spelled) in
    next_is_body fits bodies body others (replay is.0 from) mid to
    (subst (λ (items : List Item). Replays fits bodies (replay items from) mid) same front.3) is.3

-- the items of a body are what it was applied as
pub applied_items : (body : List ℕ) (from to : NamedItems) (items : List Item) → HasApplied body from to → AreItems items body →
    to ≡ replay items from
applied_items body from to items applied is =
    let same : applied.items ≡ items = one_body applied.items items applied.are.proper is.proper (sym applied.are.spelled ∙ is.spelled) in
    applied.replayed ∙ ap (λ (l : List Item). replay l from) same
