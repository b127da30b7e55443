-- The buckets that are listed of an index, by their numbers: what is done to the one of a number is
-- done to the slot at that place.
use Rattle.std.proofs.Common.{◌≡◌, ◌<◌, ℕ, zero, suc, ◌+◌, true, false, List, [], ◌∷◌, ◌++◌, refl, sym, ap, ◌∙◌, arith, subst}
use Rattle.std.specs.Prelude.{Some, None, ◌==◌, if◌then◌else◌, option_to_list, slice_get}
use Rattle.std.proofs.lemmas.Bool.Decides.{Decides-eqb}
use Rattle.std.proofs.lemmas.List.{map-append}
use Rattle.ix_base.specs.declared.events.Event.{Event}
use Rattle.ix_items.specs.declared.items.Bucket.{Bucket}
use Rattle.ix_model.specs.Buckets.{Standing, live, frozen, Slot, listed, buckets}
use Rattle.ix_model.specs.Placed.{change_live}
use Rattle.ix_model.specs.Sums.{IsStandingOf, AreSoundFrom}
use Rattle.ix_model.proofs.Named.{by_test}
use Rattle.ix_catalog.specs.Lists.{update}
use Rattle.ix_catalog.specs.Shelves.{has_id, change_id}

true_false : true ≡ false → ⊥
true_false e = cc

abbrev changed : ℕ → (Bucket → Bucket) → Bucket → Bucket
changed id f b = if has_id id b then f b else b

other_stays : (id : ℕ) (f : Bucket → Bucket) (b : Bucket) → (b.id ≡ id → ⊥) → changed id f b ≡ b
other_stays id f b d = by_test (b.id == id) (λ t. absurd (d ((Decides-eqb b.id id).0 t))) (λ t. rw t refl)

its_own : (id : ℕ) (f : Bucket → Bucket) (b : Bucket) → b.id ≡ id → changed id f b ≡ f b
its_own id f b e = rw ((Decides-eqb b.id id).1 e) refl

others_stay : (id a : ℕ) (f : Bucket → Bucket) (index : List ℕ) (events : List Event) (standing : Standing) →
    IsStandingOf index a events standing → (a ≡ id → ⊥) →
    change_id id f (option_to_list (listed standing)) ≡ option_to_list (listed standing)
others_stay id a f index events (live b) h d = ap (λ (c : Bucket). c ∷ []) (other_stays id f b (λ e. d (sym h.is_of.id_is ∙ e)))
others_stay id a f index events (frozen e None) h d = refl
others_stay id a f index events (frozen e (Some b)) h d =
    ap (λ (c : Bucket). c ∷ []) (other_stays id f b (λ k. d (sym h.1.is_of.id_is ∙ k)))

change_append : (id : ℕ) (f : Bucket → Bucket) (bs cs : List Bucket) → change_id id f (bs ++ cs) ≡ change_id id f bs ++ change_id id f cs
change_append id f bs cs = map-append (changed id f) bs cs

-- those of greater numbers stay
pub greater_stay : (id a : ℕ) (f : Bucket → Bucket) (index : List ℕ) (slots : List Slot) → AreSoundFrom index a slots → id < a →
    change_id id f (buckets slots) ≡ buckets slots
greater_stay id a f index [] h l = refl
greater_stay id a f index (s ∷ slots) h l =
    change_append id f (option_to_list (listed s.standing)) (buckets slots)
    ∙ ap (λ (bs : List Bucket). bs ++ change_id id f (buckets slots))
    (others_stay id a f index s.events s.standing h.0 (λ e. omega (arith, e, l)))
    ∙ ap (λ (bs : List Bucket). option_to_list (listed s.standing) ++ bs) (greater_stay id (suc a) f index slots h.1 (omega (arith, l)))

live_first : (id a : ℕ) (f : Bucket → Bucket) (g : Slot → Slot) (index : List ℕ) (s : Slot) (slots : List Slot) (b : Bucket) →
    ((x : Slot) → (g x).standing ≡ change_live f x.standing) → AreSoundFrom index a (s ∷ slots) → s.standing ≡ live b → id ≡ a →
    change_id id f (buckets (s ∷ slots)) ≡ buckets (g s ∷ slots)
live_first id a f g index s slots b k h e n =
    let sound : IsStandingOf index a s.events (live b) = subst (IsStandingOf index a s.events) e h.0 in
    ap (λ (x : Standing). change_id id f (option_to_list (listed x) ++ buckets slots)) e
    ∙ ap (λ (c : Bucket). c ∷ change_id id f (buckets slots)) (its_own id f b (sound.is_of.id_is ∙ sym n))
    ∙ ap (λ (bs : List Bucket). f b ∷ bs) (greater_stay id (suc a) f index slots h.1 (omega (arith, n)))
    ∙ ap (λ (x : Standing). option_to_list (listed (change_live f x)) ++ buckets slots) (sym e)
    ∙ ap (λ (x : Standing). option_to_list (listed x) ++ buckets slots) (sym (k s))

-- a live bucket changes
pub change_is_update : (id a j : ℕ) (f : Bucket → Bucket) (g : Slot → Slot) (index : List ℕ) (slots : List Slot) (s : Slot) (b : Bucket) →
    ((x : Slot) → (g x).standing ≡ change_live f x.standing) → AreSoundFrom index a slots → slice_get slots j ≡ Some s →
    s.standing ≡ live b → id ≡ a + j →
    change_id id f (buckets slots) ≡ buckets (update j g slots)
change_is_update id a j f g index [] s b k h p e n = refl
change_is_update id a zero f g index (x ∷ slots) s b k h p e n =
    live_first id a f g index x slots b k h (ap (λ (y : Slot). y.standing) (same p) ∙ e) (omega (arith, n))
  where
    same : Some x ≡ Some s → x ≡ s
    same q = cc
change_is_update id a (suc j) f g index (x ∷ slots) s b k h p e n =
    change_append id f (option_to_list (listed x.standing)) (buckets slots)
    ∙ ap (λ (bs : List Bucket). bs ++ change_id id f (buckets slots))
    (others_stay id a f index x.events x.standing h.0 (λ q. omega (arith, q, n)))
    ∙ ap (λ (bs : List Bucket). option_to_list (listed x.standing)
    ++ bs) (change_is_update id (suc a) j f g index slots s b k h.1 p e (omega (arith, n)))
