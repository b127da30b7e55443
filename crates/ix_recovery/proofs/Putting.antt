-- What several elements give is put behind items, one after the other.
use Rattle.std.proofs.Common.{◌≡◌, ℕ, ◌+◌, ◌<◌, ◌≤◌, List, [], ◌∷◌, ◌++◌, sym, ap, subst, ◌∙◌, length, take, get_or, append_assoc}
use Rattle.std.specs.List.{flat_map, AllByRecursion, AllZip}
use Rattle.std.proofs.lemmas.List.{take_more, take_all}
use Rattle.ix_items.specs.Spelling.{IsInRange}
use Rattle.ix_items.specs.declared.items.Item.{Item}
use Rattle.ix_catalog.proofs.Merging.{all_behind}
use Rattle.ix_catalog.proofs.Putting.{gives_more}
use Rattle.ix_state.specs.declared.state.OpenChannel.{OpenChannel}
use Rattle.ix_recovery.specs.Putting.{IsPut, IsSaid, AreSaid}

pub put_more : {X : Type 0} (give : X → List Item) (xs : List X) (i : ℕ) (x : X) (start before after : List Item) → i < length xs →
    x ≡ get_or xs i x → IsPut give xs i start before
    → after ≡ before ++ give x → AllByRecursion IsInRange (give x) → IsPut give xs (i + 1) start after
put_more give xs i x start before after within is so_far put ranged =
    let done = flat_map give (take i xs) in
    let more : flat_map give (take (i + 1) xs) ≡ done ++ give x = gives_more give xs i x within ∙ ap (λ y. done ++ give y) (sym is) in
    record {
      put = put ∙ ap (λ l. l ++ give x) so_far.put ∙ append_assoc start done (give x) ∙ ap (λ l. start ++ l) (sym more);
      ranged = subst (AllByRecursion IsInRange) (sym more) (all_behind IsInRange done (give x) so_far.ranged ranged);
    }

pub put_all : {X : Type 0} (give : X → List Item) (xs : List X) (i : ℕ) (start after : List Item) → length xs ≤ i →
    IsPut give xs i start after
    → (after ≡ start ++ flat_map give xs) × AllByRecursion IsInRange (flat_map give xs)
put_all give xs i start after past p =
    let is : take i xs ≡ xs = take_all i xs past in
    (p.put ∙ ap (λ l. start ++ flat_map give l) is, subst (λ l. AllByRecursion IsInRange (flat_map give l)) is p.ranged)

-- ---- channels

zip_more : {X Y : Type 0} (R : X → Y → Type 0) (xs : List X) (ys : List Y) (x : X) (y : Y) → AllZip R xs ys → R x y →
    AllZip R (xs ++ x ∷ []) (ys ++ y ∷ [])
zip_more R [] [] x y h r = (r, tt)
zip_more R [] (b ∷ ys) x y h r = absurd h
zip_more R (a ∷ xs) [] x y h r = absurd h
zip_more R (a ∷ xs) (b ∷ ys) x y h r = (h.0, zip_more R xs ys x y h.1 r)

pub said_more : (opens : List OpenChannel) (i : ℕ) (o : OpenChannel) (item : Item) (start before after : List Item) → i < length opens →
    o ≡ get_or opens i o →
    AreSaid (take i opens) start before → IsSaid o item → after ≡ before ++ item ∷ [] → AreSaid (take (i + 1) opens) start after
said_more opens i o item start before after within is so_far says put =
    record {
      channels = so_far.channels ++ item ∷ [];
      said = subst (λ l. AllZip IsSaid l (so_far.channels ++ item ∷ []))
          (ap (λ x. take i opens ++ x ∷ []) is ∙ sym (take_more opens i o within))
          (zip_more IsSaid (take i opens) so_far.channels o item so_far.said says);
      put = put ∙ ap (λ l. l ++ item ∷ []) so_far.put ∙ append_assoc start so_far.channels (item ∷ []);
    }

pub said_all : (opens : List OpenChannel) (i : ℕ) (start after : List Item) → length opens ≤ i → AreSaid (take i opens) start after →
    AreSaid opens start after
said_all opens i start after past h = subst (λ l. AreSaid l start after) (take_all i opens past) h

-- all that channels say is in range
pub said_ranged : (opens : List OpenChannel) (channels : List Item) → AllZip IsSaid opens channels → AllByRecursion IsInRange channels
said_ranged [] [] h = tt
said_ranged [] (x ∷ xs) h = absurd h
said_ranged (o ∷ os) [] h = absurd h
said_ranged (o ∷ os) (x ∷ xs) h = (h.0.ranged, said_ranged os xs h.1)
