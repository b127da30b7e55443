-- The nearest entry of a key is that of the first stanza that holds and has the key.
use Rattle.std.proofs.Common.{◌≡◌, ◌≢◌, ℕ, ◌&&◌, Bool, true, false, List, [], ◌∷◌, Some, None, refl, sym, ap, ◌∙◌, subst, IsSome, Ordering}
use Rattle.std.proofs.Common.{bytes_eq}
use Rattle.std.specs.Prelude.{Option, if◌then◌else◌}
use Rattle.std.specs.Option.{option_map}
use Rattle.std.specs.declared.cmp.Ordering.TheVariants.{Less, Equal, Greater}
use Rattle.std.specs.Ordering.{is_gt}
use Rattle.std.proofs.lemmas.Bool.{true≢false}
use Rattle.std.proofs.lemmas.Slice.Eq.{bytes_eq-Decides}
use Rattle.ix_props.specs.Choice.{value_in, order, IsChosen}
use Rattle.ix_props.specs.Ranking.{Ranks, Ranked, ranked, place, nearest, value_of}
use Rattle.ix_props.specs.declared.props.PropsEntry.{PropsEntry}
use Rattle.ix_props.specs.declared.ranks.Rank.{Rank}
use Rattle.ix_props.specs.declared.values.Value.{Value}
use Rattle.ix_props.proofs.OrderLemmas.{not_greater, itself, not_greater_trans, back}

pub same_bytes : (a b : List ℕ) → bytes_eq a b ≡ true → a ≡ b
same_bytes a b e = (bytes_eq-Decides a b).0 e

pub bytes_same : (a b : List ℕ) → a ≡ b → bytes_eq a b ≡ true
bytes_same a b e = (bytes_eq-Decides a b).1 e

-- the ranks are those of the stanzas that hold, or nearer ones of the same stanzas
pub record AreRanksOf (H : List ℕ → Rank → Type 0) (ranks : Ranks) : Type 0 where
  pub sound : (stanza : List ℕ) (rank : Rank) → ranks stanza ≡ Some rank → H stanza rank
  pub least : (stanza : List ℕ) (rank : Rank) → H stanza rank → (r : Rank) × (ranks stanza ≡ Some r)
      × (order (stanza, r) (stanza, rank) ≢ Greater)

-- an entry that is ranked, and the value of its stanza
pub record IsIn (f : Ranks) (key : List ℕ) (es : List PropsEntry) (c : Ranked) : Type 0 where
  pub rank_is : f c.0.stanza ≡ Some c.1
  pub key_is : key ≡ c.0.key
  pub has : value_in c.0.stanza key es ≡ Some c.0.value

not_at : (f : Ranks) (s key : List ℕ) (e : PropsEntry) (r : Rank) → f s ≡ Some r → ranked f key e ≡ None →
    (bytes_eq s e.stanza && bytes_eq key e.key) ≡ false
not_at f s key e r known none = by (bytes_eq s e.stanza) (bytes_eq key e.key) refl refl
  where
    by : (a b : Bool) → bytes_eq s e.stanza ≡ a → bytes_eq key e.key ≡ b → (bytes_eq s e.stanza && bytes_eq key e.key) ≡ false
    by false b p q = rw p refl
    by true false p q = rw (p, q) refl
    by true true p q =
        let same : s ≡ e.stanza = same_bytes s e.stanza p in
        let here : f e.stanza ≡ Some r = rw (← same) known in
        let none' = rw (q, here) at none in
        cc

later : (f : Ranks) (key : List ℕ) (e : PropsEntry) (es : List PropsEntry) (c : Ranked) →
    (bytes_eq c.0.stanza e.stanza && bytes_eq key e.key) ≡ false → IsIn f key es c → IsIn f key (e ∷ es) c
later f key e es c not is = record { rank_is = is.rank_is; key_is = is.key_is; has = rw not is.has }

-- what is ranked is the entry with its rank
record IsRanked (f : Ranks) (key : List ℕ) (e : PropsEntry) (x : Ranked) : Type 0 where
  entry_is : x.0 ≡ e
  key_is : key ≡ e.key
  rank_is : f e.stanza ≡ Some x.1

is_ranked : (f : Ranks) (key : List ℕ) (e : PropsEntry) (x : Ranked) → ranked f key e ≡ Some x → IsRanked f key e x
is_ranked f key e x is = by (bytes_eq key e.key) (f e.stanza) refl refl
  where
    by : (b : Bool) (r : Option Rank) → bytes_eq key e.key ≡ b → f e.stanza ≡ r → IsRanked f key e x
    by false r p q = let never = rw p at is in cc
    by true None p q = let never = rw (p, q) at is in cc
    by true (Some r) p q =
        let yes = rw (p, q) at is in
        record { entry_is = cc; key_is = same_bytes key e.key p; rank_is = cc }

here : (f : Ranks) (key : List ℕ) (e : PropsEntry) (es : List PropsEntry) (x : Ranked) → IsRanked f key e x → IsIn f key (e ∷ es) x
here f key e es x is =
    let at_stanza : bytes_eq x.0.stanza e.stanza ≡ true = bytes_same x.0.stanza e.stanza (ap (λ (n : PropsEntry). n.stanza) is.entry_is) in
    let at_key : bytes_eq key e.key ≡ true = bytes_same key e.key is.key_is in
    record {
      rank_is = rw is.entry_is is.rank_is;
      key_is = rw is.entry_is is.key_is;
      has = rw (at_stanza, at_key) (ap (λ (n : PropsEntry). Some n.value) (sym is.entry_is));
    }

tied : (o : Ordering) → is_gt o ≡ true → o ≢ Greater → ⊥
tied Less g never = true≢false (sym g)
tied Equal g never = true≢false (sym g)
tied Greater g never = never refl

-- another stanza, which comes first, does not stand here
apart : (f : Ranks) (key : List ℕ) (e : PropsEntry) (es : List PropsEntry) (x d : Ranked) → IsRanked f key e x → IsIn f key es d →
    is_gt (order (place x) (place d)) ≡ true → (bytes_eq d.0.stanza e.stanza && bytes_eq key e.key) ≡ false
apart f key e es x d is in_es gives = by (bytes_eq d.0.stanza e.stanza) refl
  where
    by : (b : Bool) → bytes_eq d.0.stanza e.stanza ≡ b → (bytes_eq d.0.stanza e.stanza && bytes_eq key e.key) ≡ false
    by false p = rw p refl
    by true p =
        let same : d.0.stanza ≡ x.0.stanza = same_bytes d.0.stanza e.stanza p ∙ ap (λ (n : PropsEntry). n.stanza) (sym is.entry_is) in
        let rank : Some x.1 ≡ Some d.1 = sym is.rank_is ∙ ap f (sym (same_bytes d.0.stanza e.stanza p)) ∙ in_es.rank_is in
        let one : place x ≡ place d = cc in
        absurd (tied (order (place x) (place d)) gives (subst (λ p. order (place x) p ≢ Greater) one (itself (place x))))

is_in_step : (f : Ranks) (key : List ℕ) (e : PropsEntry) (es : List PropsEntry) (c : Ranked) (x n : Option Ranked) →
    ((d : Ranked) → nearest f key es ≡ Some d → IsIn f key es d) → ranked f key e ≡ x → nearest f key es ≡ n →
    nearest f key (e ∷ es) ≡ Some c → IsIn f key (e ∷ es) c
is_in_step f key e es c None n ih p q is =
    let in_es = ih c (rw p at is) in
    later f key e es c (not_at f c.0.stanza key e c.1 in_es.rank_is p) in_es
is_in_step f key e es c (Some x) None ih p q is =
    let same = rw (p, q) at is in
    let one : x ≡ c = cc in
    subst (λ y. IsIn f key (e ∷ es) y) one (here f key e es x (is_ranked f key e x p))
is_in_step f key e es c (Some x) (Some d) ih p q is = choice (is_gt (order (place x) (place d))) refl
  where
    choice : (b : Bool) → is_gt (order (place x) (place d)) ≡ b → IsIn f key (e ∷ es) c
    choice true g =
        let same = rw (p, q, g) at is in
        let one : d ≡ c = cc in
        let in_es = ih d q in
        subst (λ y. IsIn f key (e ∷ es) y) one (later f key e es d (apart f key e es x d (is_ranked f key e x p) in_es g) in_es)
    choice false g =
        let same = rw (p, q, g) at is in
        let one : x ≡ c = cc in
        subst (λ y. IsIn f key (e ∷ es) y) one (here f key e es x (is_ranked f key e x p))

pub nearest_is_in : (f : Ranks) (key : List ℕ) (es : List PropsEntry) (c : Ranked) → nearest f key es ≡ Some c → IsIn f key es c
nearest_is_in f key [] c is = cc
nearest_is_in f key (e ∷ es) c is = is_in_step f key e es c (ranked f key e) (nearest f key es) (λ d known. nearest_is_in f key es d known)
    refl refl is

-- the nearest entry is there and comes no later
pub record IsLeast (f : Ranks) (key : List ℕ) (es : List PropsEntry) (s : List ℕ) (r : Rank) : Type 0 where
  pub c : Ranked
  pub is : nearest f key es ≡ Some c
  pub before : order (place c) (s, r) ≢ Greater

greater : (o : Ordering) → is_gt o ≡ true → o ≡ Greater
greater Less g = absurd (true≢false (sym g))
greater Equal g = absurd (true≢false (sym g))
greater Greater g = refl

-- one entry more
with_entry : (f : Ranks) (key : List ℕ) (e : PropsEntry) (es : List PropsEntry) (s : List ℕ) (r : Rank) (x : Ranked) →
    ranked f key e ≡ Some x → order (place x) (s, r) ≢ Greater → IsLeast f key (e ∷ es) s r
with_entry f key e es s r x p before = by (nearest f key es) refl
  where
    by : (n : Option Ranked) → nearest f key es ≡ n → IsLeast f key (e ∷ es) s r
    by None q = record { c = x; is = rw (p, q) refl; before = before }
    by (Some d) q = choice (is_gt (order (place x) (place d))) refl
      where
        choice : (b : Bool) → is_gt (order (place x) (place d)) ≡ b → IsLeast f key (e ∷ es) s r
        choice true g = record {
          c = d;
          is = rw (p, q, g) refl;
          before = not_greater_trans (place d) (place x) (s, r) (back (place x) (place d) (greater (order (place x) (place d)) g)) before;
        }
        choice false g = record { c = x; is = rw (p, q, g) refl; before = before }

behind_entry : (f : Ranks) (key : List ℕ) (e : PropsEntry) (es : List PropsEntry) (s : List ℕ) (r : Rank) →
    IsLeast f key es s r → IsLeast f key (e ∷ es) s r
behind_entry f key e es s r least = by (ranked f key e) refl
  where
    by : (x : Option Ranked) → ranked f key e ≡ x → IsLeast f key (e ∷ es) s r
    by None p = record { c = least.c; is = rw (p, least.is) refl; before = least.before }
    by (Some x) p = choice (is_gt (order (place x) (place least.c))) refl
      where
        choice : (b : Bool) → is_gt (order (place x) (place least.c)) ≡ b → IsLeast f key (e ∷ es) s r
        choice true g = record { c = least.c; is = rw (p, least.is, g) refl; before = least.before }
        choice false g = record {
          c = x;
          is = rw (p, least.is, g) refl;
          before = not_greater_trans (place x) (place least.c) (s, r) (not_greater (order (place x) (place least.c)) g) least.before;
        }

both : (a b : Bool) → (a && b) ≡ true → (a ≡ true) × (b ≡ true)
both true true h = (refl, refl)
both true false h = absurd (true≢false (sym h))
both false b h = absurd (true≢false (sym h))

least_step : (f : Ranks) (key : List ℕ) (e : PropsEntry) (es : List PropsEntry) (s : List ℕ) (r : Rank) (b : Bool) → f s ≡ Some r →
    (bytes_eq s e.stanza && bytes_eq key e.key) ≡ b → (IsSome (value_in s key es) → IsLeast f key es s r) →
    IsSome (if b then Some e.value else value_in s key es) → IsLeast f key (e ∷ es) s r
least_step f key e es s r false known p ih has = behind_entry f key e es s r (ih has)
least_step f key e es s r true known p ih has =
    let two = both (bytes_eq s e.stanza) (bytes_eq key e.key) p in
    let same : s ≡ e.stanza = same_bytes s e.stanza two.0 in
    let known' : f e.stanza ≡ Some r = ap f (sym same) ∙ known in
    with_entry f key e es s r (e, r) (rw (two.1, known') refl)
    (subst (λ n. order (e.stanza, r) (n, r) ≢ Greater) (sym same) (itself (e.stanza, r)))

pub nearest_is_least : (f : Ranks) (key : List ℕ) (es : List PropsEntry) (s : List ℕ) (r : Rank) → f s ≡ Some r →
    IsSome (value_in s key es) → IsLeast f key es s r
nearest_is_least f key [] s r known has = absurd (true≢false (sym has))
nearest_is_least f key (e ∷ es) s r known has =
    least_step f key e es s r (bytes_eq s e.stanza && bytes_eq key e.key) known refl (λ there. nearest_is_least f key es s r known there)
    has

nothing_there : (o : Option Value) → (IsSome o → ⊥) → o ≡ None
nothing_there None never = refl
nothing_there (Some v) never = absurd (never refl)

-- what is nearest is what is chosen
pub chosen_by : (entries : List PropsEntry) (H : List ℕ → Rank → Type 0) (f : Ranks) (key : List ℕ) → AreRanksOf H f →
    IsChosen entries H key (option_map value_of (nearest f key entries))
chosen_by entries H f key ranks = by (nearest f key entries) refl
  where
    by : (n : Option Ranked) → nearest f key entries ≡ n → IsChosen entries H key (option_map value_of n)
    by None p = λ stanza rank holds.
        let least = ranks.least stanza rank holds in
        nothing_there (value_in stanza key entries) (λ has. let found = nearest_is_least f key entries stanza least.0 least.1 has in
        absurd (cc (p, found.is)))
    by (Some c) p =
        let is = nearest_is_in f key entries c p in
        record {
          stanza = c.0.stanza;
          rank = c.1;
          holds = ranks.sound c.0.stanza c.1 is.rank_is;
          has = is.has;
          first = λ other r holds has.
              let least = ranks.least other r holds in
              let found = nearest_is_least f key entries other least.0 least.1 has in
              let one : place found.c ≡ (c.0.stanza, c.1) = cc (p, found.is) in
              not_greater_trans (c.0.stanza, c.1) (other, least.0) (
                other,
                r,
              ) (subst (λ a. order a (other, least.0) ≢ Greater) one found.before) least.2;
        }
