-- Open channels beside their lives: they stand in the same order, by their names.
use Rattle.std.proofs.Common.{◌≡◌, ℕ, zero, suc, ◌+◌, ◌<◌, ◌≤◌, Bool, true, false, List, [], ◌∷◌, refl, sym, ap, ◌∙◌, subst, length}
use Rattle.std.proofs.Common.{get_or, arith}
use Rattle.std.specs.Prelude.{Some, None, not, nat_lt, bytes_eq}
use Rattle.std.specs.List.{AllZip, position, position_or_len, prefix_len, insert, remove}
use Rattle.std.specs.Ordering.{nat_cmp, is_lt}
use Rattle.std.specs.Cmp.Lexicographic.{slice_cmp}
use Rattle.std.proofs.lemmas.Bool.{ltb-true, ltb-false}
use Rattle.ix_model.specs.State.{ChannelHistory, life_name}
use Rattle.ix_model.proofs.Named.{by_test}
use Rattle.ix_catalog.specs.Lists as lists
use Rattle.ix_catalog.specs.Lists.{find, change, without, update, stands_before}
use Rattle.ix_state.specs.Causes.{has_name}
use Rattle.ix_state.specs.Held.{IsOpen}
use Rattle.ix_state.specs.declared.state.OpenChannel.{OpenChannel}
use Rattle.ix_channels.specs.Places.{is_before, place_for}

false_true : false ≡ true → ⊥
false_true e = cc

none_some : {X : Type 0} {x : X} → None ≡ Some x → ⊥
none_some e = cc

some_same : {X : Type 0} {x y : X} → Some x ≡ Some y → x ≡ y
some_same e = cc

-- ---- the place of a name

-- the channel at this place is the first one of the name
abbrev pub StandsAt : List ℕ → ℕ → List OpenChannel → Type 0
StandsAt name k [] = ⊥
StandsAt name zero (o ∷ os) = has_name name o ≡ true
StandsAt name (suc k) (o ∷ os) = (has_name name o ≡ false) × StandsAt name k os

stands_there : (name : List ℕ) (os : List OpenChannel) → position_or_len (has_name name) os < length os →
    StandsAt name (position_or_len (has_name name) os) os
stands_there name [] l = absurd (omega arith)
stands_there name (o ∷ os) l =
    by_test (has_name name o)
    (λ t. rw t t)
    (λ t. rw (t, one_more) (t, stands_there name os (less (rw t at l))))
  where
    k : ℕ
    k = position_or_len (has_name name) os

    one_more : 1 + k ≡ suc k
    one_more = omega arith

    less : 1 + k < length (o ∷ os) → k < length os
    less h = omega arith

pub stands : (name : List ℕ) (os : List OpenChannel) (k : ℕ) → position (has_name name) os ≡ Some k → StandsAt name k os
stands name os k e =
    by_test (nat_lt p (length os))
    (λ t. subst (λ (j : ℕ). StandsAt name j os) (some_same (rw t at e)) (stands_there name os (ltb-true p (length os) t)))
    (λ t. absurd (none_some (rw t at e)))
  where
    p : ℕ
    p = position_or_len (has_name name) os

prefix_within : {X : Type 0} (p : X → Bool) (xs : List X) → prefix_len p xs ≤ length xs
prefix_within p [] = omega arith
prefix_within p (x ∷ xs) =
    by_test (p x)
    (λ t. rw t (more (prefix_within p xs)))
    (λ t. rw t (omega arith))
  where
    more : prefix_len p xs ≤ length xs → 1 + prefix_len p xs ≤ length (x ∷ xs)
    more h = omega arith

pub found_at : {X : Type 0} (p : X → Bool) (xs : List X) (k : ℕ) → position p xs ≡ Some k → k ≡ position_or_len p xs
found_at p xs k e =
    by_test (nat_lt (position_or_len p xs) (length xs))
    (λ t. sym (some_same (rw t at e)))
    (λ t. absurd (none_some (rw t at e)))

pub found_none : {X : Type 0} (p : X → Bool) (xs : List X) → position p xs ≡ None → length xs ≡ position_or_len p xs
found_none p xs e =
    by_test (nat_lt (position_or_len p xs) (length xs))
    (λ t. absurd (none_some (sym (rw t at e))))
    (λ t. (let past = ltb-false (position_or_len p xs) (length xs) t in
    let within = prefix_within (λ x. not (p x)) xs in
    omega (arith, past, within)))

-- ---- the life at a place

pub record IsOf (name : List ℕ) (ls : List ChannelHistory) (o : OpenChannel) : Type 0 where
  pub life : ChannelHistory
  pub found : find life_name name ls ≡ Some life
  pub is_open : IsOpen life o

same_name : (name : List ℕ) (l : ChannelHistory) (o : OpenChannel) (t : Bool) → IsOpen l o → has_name name o ≡ t → bytes_eq l.name name ≡ t
same_name name l o t h e = ap (λ (n : List ℕ). bytes_eq n name) (sym h.name) ∙ e

pub life_at : (name : List ℕ) (k : ℕ) (ls : List ChannelHistory) (os : List OpenChannel) (o : OpenChannel) → StandsAt name k os →
    AllZip IsOpen ls os → o ≡ get_or os k o → IsOf name ls o
life_at name k [] [] o s h e = absurd s
life_at name k [] (x ∷ os) o s h e = absurd h
life_at name k (l ∷ ls) [] o s h e = absurd h
life_at name zero (l ∷ ls) (x ∷ os) o s h e = record {
  life = l;
  found = rw (same_name name l x true h.0 s) refl;
  is_open = subst (IsOpen l) (sym e) h.0;
}
life_at name (suc k) (l ∷ ls) (x ∷ os) o s h e =
    let rest = life_at name k ls os o s.1 h.1 e in
    record {
      life = rest.life;
      found = rw (same_name name l x false h.0 s.0) rest.found;
      is_open = rest.is_open;
    }

-- ---- changes

pub changed_at : (name : List ℕ) (k : ℕ) (f : ChannelHistory → ChannelHistory) (g : OpenChannel →
    OpenChannel) (ls : List ChannelHistory) (os : List OpenChannel) (o : OpenChannel) → StandsAt name k os → AllZip IsOpen ls os →
    o ≡ get_or os k o → ((l : ChannelHistory) → find life_name name ls ≡ Some l → IsOpen l o → IsOpen (f l) (g o)) →
    AllZip IsOpen (change life_name name f ls) (update k g os)
changed_at name k f g [] [] o s h e each = absurd s
changed_at name k f g [] (x ∷ os) o s h e each = absurd h
changed_at name k f g (l ∷ ls) [] o s h e each = absurd h
changed_at name zero f g (l ∷ ls) (x ∷ os) o s h e each =
    let t = same_name name l x true h.0 s in
    rw t (subst (λ (y : OpenChannel). IsOpen (f l) (g y)) e (each l (rw t refl) (subst (IsOpen l) (sym e) h.0)), h.1)
changed_at name (suc k) f g (l ∷ ls) (x ∷ os) o s h e each =
    let t = same_name name l x false h.0 s.0 in
    rw t (h.0, changed_at name k f g ls os o s.1 h.1 e (λ y found. each y (rw t found)))

pub removed_at : (name : List ℕ) (k : ℕ) (ls : List ChannelHistory) (os : List OpenChannel) → StandsAt name k os → AllZip IsOpen ls os →
    AllZip IsOpen (without life_name name ls) (remove os k)
removed_at name k [] [] s h = absurd s
removed_at name k [] (x ∷ os) s h = absurd h
removed_at name k (l ∷ ls) [] s h = absurd h
removed_at name zero (l ∷ ls) (x ∷ os) s h = rw (same_name name l x true h.0 s) h.1
removed_at name (suc k) (l ∷ ls) (x ∷ os) s h = rw (same_name name l x false h.0 s.0) (h.0, removed_at name k ls os s.1 h.1)

-- ---- one more

before_same : (l x : ChannelHistory) (o y : OpenChannel) (t : Bool) → IsOpen l o → IsOpen x y → is_before o.name y ≡ t →
    stands_before life_name x l ≡ t
before_same l x o y t h k e =
    ap (λ (n : List ℕ). is_lt (slice_cmp nat_cmp n l.name)) (sym k.name)
    ∙ ap (λ (n : List ℕ). is_lt (slice_cmp nat_cmp y.name n)) (sym h.name) ∙ e

pub inserted : (l : ChannelHistory) (o : OpenChannel) (ls : List ChannelHistory) (os : List OpenChannel) → IsOpen l o →
    AllZip IsOpen ls os →
    AllZip IsOpen (lists.insert life_name l ls) (insert os (place_for o.name os) o)
inserted l o [] [] is h = (is, tt)
inserted l o [] (y ∷ os) is h = absurd h
inserted l o (x ∷ ls) [] is h = absurd h
inserted l o (x ∷ ls) (y ∷ os) is h =
    by_test (is_before o.name y)
    (λ t. rw (t, before_same l x o y true is h.0 t, one_more) (h.0, inserted l o ls os is h.1))
    (λ t. rw (t, before_same l x o y false is h.0 t) (is, h))
  where
    k : ℕ
    k = place_for o.name os

    one_more : 1 + k ≡ suc k
    one_more = omega arith
