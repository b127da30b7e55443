-- Stanzas are ranked one after the other, from the last entry to the first.
use Rattle.std.proofs.Common.{◌≡◌, ◌≢◌, ℕ, ℤ, pos, ◌==◌, ◌&&◌, inl, inr, Bool, true, false, List, [], ◌∷◌, Some, None, refl, sym, ap, ◌∙◌}
use Rattle.std.proofs.Common.{subst, IsSome, bytes_eq, codes, length}
use Rattle.std.specs.Prelude.{Option, if◌then◌else◌}
use Rattle.std.proofs.Common.{arith}
use Rattle.std.proofs.lemmas.Bool.Decides.{nat_tests}
use Rattle.std.specs.Option.{option_map, option_and_then}
use Rattle.std.specs.Map.{update}
use Rattle.std.specs.declared.cmp.Ordering.TheVariants.{Less, Greater}
use Rattle.std.specs.Ordering.{nat_cmp}
use Rattle.std.proofs.lemmas.Bool.{true≢false, ne_eqb}
use Rattle.ix_props.specs.Kinds.{behind}
use Rattle.ix_props.specs.Choice.{Origin, value_in, number_of, stated_priority, HoldsForSource, IsThere, names_source_type, Holds, step_of}
use Rattle.ix_props.specs.Choice.{order}
use Rattle.ix_props.specs.Choice.Holds.{for_source, for_host, for_source_type, for_everything}
use Rattle.ix_props.specs.Ranking.{Ranks, FitsEither, IsRankBy, AreRanks, if_source, plain_rank, rank_for}
use Rattle.ix_props.specs.declared.props.PropsEntry.{PropsEntry}
use Rattle.ix_props.specs.declared.ranks.Nearness.{Nearness}
use Rattle.ix_props.specs.declared.ranks.Nearness.TheVariants.{Source, Host, SourceType, Everything}
use Rattle.ix_props.specs.declared.ranks.Rank.{Rank}
use Rattle.ix_props.specs.declared.values.Value.{Value}
use Rattle.ix_props.proofs.NearestLemmas.{same_bytes, bytes_same, AreRanksOf}
use Rattle.ix_props.proofs.OrderLemmas.{itself}

-- no name begins with both prefixes
pub apart : (s t u : List ℕ) → behind (codes "source::") s ≡ Some t → behind (codes "host::") s ≡ Some u → ⊥
apart [] t u p q = absurd (cc)
apart (b ∷ bs) t u p q = by (b == 115) (b == 104) refl refl
  where
    by : (x y : Bool) → (b == 115) ≡ x → (b == 104) ≡ y → ⊥
    by false y e g = let never = rw e at p in absurd (cc)
    by true false e g = let never = rw g at q in absurd (cc)
    by true true e g = absurd (grind (arith, nat_tests))

-- a stanza has one rank
fits_one : (stated : Option ℤ) (source host s : List ℕ) (r q : Rank) → FitsEither stated source host s r →
    FitsEither stated source host s q → r ≡ q
fits_one stated source host s r q (inl a) (inl b) =
    let same : Some a.text ≡ Some b.text = sym a.is_behind ∙ b.is_behind in
    let texts : a.text ≡ b.text = cc in
    let one = a.rank_is in
    let other = b.rank_is in
    cc
fits_one stated source host s r q (inr a) (inr b) =
    let same : Some a.text ≡ Some b.text = sym a.is_behind ∙ b.is_behind in
    let texts : a.text ≡ b.text = cc in
    let one = a.rank_is in
    let other = b.rank_is in
    cc
fits_one stated source host s r q (inl a) (inr b) = absurd (apart s a.text b.text a.is_behind b.is_behind)
fits_one stated source host s r q (inr a) (inl b) = absurd (apart s b.text a.text b.is_behind a.is_behind)

-- an entry of a key says nothing of whether a stanza is there
pub key_skipped : (b : ℕ) (key s : List ℕ) (e : PropsEntry) (part : List PropsEntry) → e.key ≡ b ∷ key →
    value_in s [] (e ∷ part) ≡ value_in s [] part
key_skipped b key s e part is = by (bytes_eq s e.stanza)
  where
    by : (x : Bool) → (if x && bytes_eq [] e.key then Some e.value else value_in s [] part) ≡ value_in s [] part
    by false = refl
    by true = rw is refl

-- a stanza that has an entry of its own is there, and the others are as before
own_there : (s : List ℕ) (e : PropsEntry) (part : List PropsEntry) → e.key ≡ [] → s ≡ e.stanza → IsThere (e ∷ part) s
own_there s e part is same = rw (bytes_same s e.stanza same, is) refl

other_there : (s : List ℕ) (e : PropsEntry) (part : List PropsEntry) → bytes_eq s e.stanza ≡ false →
    value_in s [] (e ∷ part) ≡ value_in s [] part
other_there s e part p = rw p refl

still_there : (s : List ℕ) (e : PropsEntry) (part : List PropsEntry) → IsThere part s → IsThere (e ∷ part) s
still_there s e part is = by (bytes_eq s e.stanza && bytes_eq [] e.key)
  where
    by : (x : Bool) → IsSome (if x then Some e.value else value_in s [] part)
    by false = is
    by true = refl

pub ranks-key : (b : ℕ) (key : List ℕ) (e : PropsEntry) (part entries : List PropsEntry) (source host : List ℕ) (f : Ranks) → e.key ≡ b
    ∷ key →
    AreRanks part entries source host f → AreRanks (e ∷ part) entries source host f
ranks-key b key e part entries source host f is ranks = record {
  sound = λ s r known. let old = ranks.sound s r known in (still_there s e part old.0, old.1);
  whole = λ s r there fits. ranks.whole s r (subst (λ v. IsSome v) (key_skipped b key s e part is) there) fits;
}

pub ranks-none : (e : PropsEntry) (part entries : List PropsEntry) (source host : List ℕ) (f : Ranks) → e.key ≡ [] →
    IsRankBy (stated_priority entries e.stanza) source host e.stanza None →
    AreRanks part entries source host f → AreRanks (e ∷ part) entries source host f
ranks-none e part entries source host f is never ranks = record {
  sound = λ s r known. let old = ranks.sound s r known in (still_there s e part old.0, old.1);
  whole = λ s r there fits. by s r there fits (bytes_eq s e.stanza) refl;
}
  where
    by : (s : List ℕ) (r : Rank) → IsThere (e ∷ part) s → FitsEither (stated_priority entries s) source host s r → (x : Bool) →
        bytes_eq s e.stanza ≡ x → f s ≡ Some r
    by s r there fits true p =
        absurd (never r (subst (λ n. FitsEither (stated_priority entries n) source host n r) (same_bytes s e.stanza p) fits))
    by s r there fits false p = ranks.whole s r (subst (λ v. IsSome v) (other_there s e part p) there) fits

pub ranks-some : (e : PropsEntry) (part entries : List PropsEntry) (source host : List ℕ) (f g : Ranks) (rank : Rank) → e.key ≡ [] →
    IsRankBy (stated_priority entries e.stanza) source host e.stanza (Some rank) →
    ((name : List ℕ) → g name ≡ update bytes_eq f e.stanza (Some rank) name) →
    AreRanks part entries source host f → AreRanks (e ∷ part) entries source host g
ranks-some e part entries source host f g rank is fits_here put ranks = record {
  sound = λ s r known. sound s r known (bytes_eq e.stanza s) refl;
  whole = λ s r there fits. whole s r there fits (bytes_eq e.stanza s) refl;
}
  where
    sound : (s : List ℕ) (r : Rank) → g s ≡ Some r → (x : Bool) → bytes_eq e.stanza s ≡ x → IsThere (e ∷ part) s
        × FitsEither (stated_priority entries s) source host s r
    sound s r known true p =
        let same : e.stanza ≡ s = same_bytes e.stanza s p in
        let at : Some rank ≡ Some r = sym (rw p at (put s)) ∙ known in
        let one : rank ≡ r = cc in (
          own_there s e part is (sym same),
          subst (λ q. FitsEither (stated_priority entries s) source host s q) one
              (subst (λ n. FitsEither (stated_priority entries n) source host n rank) same fits_here),
        )
    sound s r known false p =
        let old = ranks.sound s r (sym (rw p at (put s)) ∙ known) in
        (still_there s e part old.0, old.1)

    apart_back : (s : List ℕ) → bytes_eq e.stanza s ≡ false → bytes_eq s e.stanza ≡ false
    apart_back s p = by (bytes_eq s e.stanza) refl
      where
        by : (x : Bool) → bytes_eq s e.stanza ≡ x → x ≡ false
        by false q = refl
        by true q = absurd (true≢false (sym (bytes_same e.stanza s (sym (same_bytes s e.stanza q))) ∙ p))

    whole : (s : List ℕ) (r : Rank) → IsThere (e ∷ part) s → FitsEither (stated_priority entries s) source host s r → (x : Bool) →
        bytes_eq e.stanza s ≡ x → g s ≡ Some r
    whole s r there fits true p =
        let same : e.stanza ≡ s = same_bytes e.stanza s p in
        let one : rank ≡ r = fits_one (stated_priority entries s) source host s rank r
        (subst (λ n. FitsEither (stated_priority entries n) source host n rank) same fits_here) fits in
        rw p at (put s) ∙ ap (λ q. Some q) one
    whole s r there fits false p =
        let old : f s ≡ Some r = ranks.whole s r (subst (λ v. IsSome v) (other_there s e part (apart_back s p)) there) fits in
        rw p at (put s) ∙ old

pub ranks-start : (entries : List PropsEntry) (source host : List ℕ) (f : Ranks) → ((s : List ℕ) → f s ≡ None) →
    AreRanks [] entries source host f
ranks-start entries source host f none = record {
  sound = λ s r known. let never : None ≡ Some r = sym (none s) ∙ known in absurd (cc);
  whole = λ s r there fits. absurd (true≢false (sym there));
}

-- the stanzas for sources alone
pub source_ranks : (entries : List PropsEntry) (source host : List ℕ) (f : Ranks) → AreRanks entries entries source host f →
    AreRanksOf (HoldsForSource entries source) (rank_for f None)
source_ranks entries source host f ranks = record {
  sound = λ s r known. sound s r (f s) refl known;
  least = λ s r holds.
      let at : f s ≡ Some r = ranks.whole s r holds.0 (inl holds.1) in
      let near : r.nearness ≡ Source = ap (λ (q : Rank). q.nearness) holds.1.rank_is in
      (r, rw (at, near) refl, itself (s, r));
}
  where
    from_source : (s : List ℕ) (q : Rank) → if_source q.nearness q ≡ Some q → q.nearness ≡ Source
    from_source s q is = by q.nearness refl
      where
        by : (n : Nearness) → q.nearness ≡ n → n ≡ Source
        by Source e = refl
        by Host e = let never = rw e at is in absurd (cc)
        by SourceType e = let never = rw e at is in absurd (cc)
        by Everything e = let never = rw e at is in absurd (cc)

    the_same : (q r : Rank) → if_source q.nearness q ≡ Some r → q ≡ r
    the_same q r is = by q.nearness refl
      where
        by : (n : Nearness) → q.nearness ≡ n → q ≡ r
        by Source e = let yes = rw e at is in cc
        by Host e = let never = rw e at is in absurd (cc)
        by SourceType e = let never = rw e at is in absurd (cc)
        by Everything e = let never = rw e at is in absurd (cc)

    sound : (s : List ℕ) (r : Rank) (o : Option Rank) → f s ≡ o → rank_for f None s ≡ Some r → HoldsForSource entries source s r
    sound s r None e known = let never = rw e at known in absurd (cc)
    sound s r (Some q) e known =
        let is = rw e at known in
        let one : q ≡ r = the_same q r is in
        let near : r.nearness ≡ Source = from_source s r (subst (λ x. if_source x.nearness x ≡ Some r) one is) in
        let old = ranks.sound s r (e ∙ ap (λ x. Some x) one) in (
          old.0,
          elim old.1 [
            | inl a ↦ a
            | inr b ↦ let never : Host ≡ Source = sym (ap (λ (x : Rank). x.nearness) b.rank_is) ∙ near in absurd (cc)
          ],
        )

nearer_kind : (s : List ℕ) (q r : Rank) → nat_cmp (step_of q.nearness) (step_of r.nearness) ≡ Less → order (s, q) (s, r) ≢ Greater
nearer_kind s q r less = λ e. let never : Less ≡ Greater = rw less at e in absurd (cc)

-- a stanza with a pattern is nearer than any without
patterns_first : (stated : Option ℤ) (source host s : List ℕ) (q r : Rank) (n : Nearness) → FitsEither stated source host s q →
    r.nearness ≡ n →
    nat_cmp 0 (step_of n) ≡ Less → nat_cmp 1 (step_of n) ≡ Less → order (s, q) (s, r) ≢ Greater
patterns_first stated source host s q r n (inl a) is l0 l1 =
    let near : q.nearness ≡ Source = ap (λ (x : Rank). x.nearness) a.rank_is in
    nearer_kind s q r (rw (near, is) l0)
patterns_first stated source host s q r n (inr b) is l0 l1 =
    let near : q.nearness ≡ Host = ap (λ (x : Rank). x.nearness) b.rank_is in
    nearer_kind s q r (rw (near, is) l1)

plain_holds : (entries : List PropsEntry) (o : Origin) (s : List ℕ) (r : Rank) → plain_rank o.sourcetype s ≡ Some r → Holds entries o s r
plain_holds entries o s r known = by (bytes_eq s o.sourcetype) (names_source_type s) (bytes_eq s (codes "default")) refl refl refl
  where
    everything : (x : Bool) → bytes_eq s (codes "default") ≡ x →
        (if x then Some (record { nearness = Everything; priority = pos 0 }) else None) ≡ Some r → Holds entries o s r
    everything true p is = for_everything (same_bytes s (codes "default") p) (cc)
    everything false p is = absurd (cc)

    by : (x y z : Bool) → bytes_eq s o.sourcetype ≡ x → names_source_type s ≡ y → bytes_eq s (codes "default") ≡ z → Holds entries o s r
    by true true z p q w = let is = rw (p, q) at known in for_source_type (same_bytes s o.sourcetype p) q (cc)
    by true false z p q w = everything z w (rw (p, q, w) at known)
    by false y z p q w = everything z w (rw (p, w) at known)

pub all_ranks : (entries : List PropsEntry) (o : Origin) (f : Ranks) → AreRanks entries entries o.source o.host f →
    AreRanksOf (Holds entries o) (rank_for f (Some o.sourcetype))
all_ranks entries o f ranks = record {
  sound = λ s r known. sound s r (f s) refl known;
  least = λ s r holds. least s r holds;
}
  where
    sound : (s : List ℕ) (r : Rank) (x : Option Rank) → f s ≡ x → rank_for f (Some o.sourcetype) s ≡ Some r → Holds entries o s r
    sound s r None e known = plain_holds entries o s r (rw e at known)
    sound s r (Some q) e known =
        let is = rw e at known in
        let one : q ≡ r = cc in
        let old = ranks.sound s r (e ∙ ap (λ x. Some x) one) in
        elim old.1 [
          | inl a ↦ for_source (old.0, a)
          | inr b ↦ for_host old.0 b
        ]

    by_pattern : (s : List ℕ) (r : Rank) → f s ≡ Some r → (q : Rank) × (rank_for f (Some o.sourcetype) s ≡ Some q)
        × (order (s, q) (s, r) ≢ Greater)
    by_pattern s r at = (r, rw at refl, itself (s, r))

    for_type : (s : List ℕ) (r : Rank) (x : Option Rank) → f s ≡ x → s ≡ o.sourcetype → names_source_type s ≡ true →
        r ≡ record { nearness = SourceType; priority = pos 0 } → (q : Rank) × (rank_for f (Some o.sourcetype) s ≡ Some q)
        × (order (s, q) (s, r) ≢ Greater)
    for_type s r None e same names is = (r, rw (e, bytes_same s o.sourcetype same, names, is) refl, itself (s, r))
    for_type s r (Some q) e same names is =
        let old = ranks.sound s q e in (
          q,
          rw e refl,
          patterns_first (stated_priority entries s) o.source o.host s q r SourceType old.1 (ap (λ (x : Rank). x.nearness) is)
              refl refl,
        )

    plain_last : (s : List ℕ) (r : Rank) (x y : Bool) → bytes_eq s o.sourcetype ≡ x → names_source_type s ≡ y → f s ≡ None →
        s ≡ codes "default" →
        r ≡ record { nearness = Everything; priority = pos 0 } → (q : Rank) × (rank_for f (Some o.sourcetype) s ≡ Some q)
        × (order (s, q) (s, r) ≢ Greater)
    plain_last s r true true p n e same is =
        let q : Rank = record { nearness = SourceType; priority = pos 0 } in
        (q, rw (e, p, n) refl, nearer_kind s q r (rw is refl))
    plain_last s r true false p n e same is = (r, rw (e, p, n, bytes_same s (codes "default") same, is) refl, itself (s, r))
    plain_last s r false y p n e same is = (r, rw (e, p, bytes_same s (codes "default") same, is) refl, itself (s, r))

    for_all : (s : List ℕ) (r : Rank) (x : Option Rank) → f s ≡ x → s ≡ codes "default" →
        r ≡ record { nearness = Everything; priority = pos 0 } → (q : Rank) × (rank_for f (Some o.sourcetype) s ≡ Some q)
        × (order (s, q) (s, r) ≢ Greater)
    for_all s r None e same is = plain_last s r (bytes_eq s o.sourcetype) (names_source_type s) refl refl e same is
    for_all s r (Some q) e same is =
        let old = ranks.sound s q e in (
          q,
          rw e refl,
          patterns_first (stated_priority entries s) o.source o.host s q r Everything old.1 (ap (λ (x : Rank). x.nearness) is)
              refl refl,
        )

    least : (s : List ℕ) (r : Rank) → Holds entries o s r → (q : Rank) × (rank_for f (Some o.sourcetype) s ≡ Some q)
        × (order (s, q) (s, r) ≢ Greater)
    least s r (for_source h) = by_pattern s r (ranks.whole s r h.0 (inl h.1))
    least s r (for_host there h) = by_pattern s r (ranks.whole s r there (inr h))
    least s r (for_source_type same names is) = for_type s r (f s) refl same names is
    least s r (for_everything same is) = for_all s r (f s) refl same is

-- ---- the steps of the loop
never_empty : (b : ℕ) (k : List ℕ) → (length (b ∷ k) == 0) ≡ false
never_empty b k = ne_eqb (length (b ∷ k)) 0 (λ e. omega arith)

no_key : (k : List ℕ) → (length k == 0) ≡ true → k ≡ []
no_key [] is = refl
no_key (b ∷ k) is = absurd (true≢false (sym is ∙ never_empty b k))

pub ranks-other : (e : PropsEntry) (part entries : List PropsEntry) (source host : List ℕ) (f : Ranks) → (length e.key == 0) ≡ false →
    AreRanks part entries source host f → AreRanks (e ∷ part) entries source host f
ranks-other e part entries source host f is ranks = by e.key refl
  where
    by : (k : List ℕ) → e.key ≡ k → AreRanks (e ∷ part) entries source host f
    by [] same = absurd (true≢false (rw same at is))
    by (b ∷ k) same = ranks-key b k e part entries source host f same ranks

stated_is : (o : Option Value) → option_and_then (λ (p : Option ℤ). p) (option_map number_of o) ≡ option_and_then number_of o
stated_is None = refl
stated_is (Some v) = refl

-- the priority that was found is the one that is stated
pub stated_here : (entries : List PropsEntry) (s t : List ℕ) (f : List ℕ → Option (Option ℤ)) (n : Option ℤ) → t ≡ s →
    n ≡ option_and_then (λ (p : Option ℤ). p) (f t) →
    ((s : List ℕ) → f s ≡ option_map number_of (value_in s (codes "priority") entries)) → n ≡ stated_priority entries s
stated_here entries s t f n same is found =
    is ∙ ap (λ (o : Option (Option ℤ)). option_and_then (λ (p : Option ℤ). p) o) (ap f same ∙ found s)
    ∙ stated_is (value_in s (codes "priority") entries)

pub ranks-put : (e : PropsEntry) (part entries : List PropsEntry) (source host : List ℕ) (f g : Ranks) (rank : Rank) (n : Option ℤ)
    (t : List ℕ) →
    (length e.key == 0) ≡ true → n ≡ stated_priority entries e.stanza → IsRankBy n source host e.stanza (Some rank) → t ≡ e.stanza →
    ((name : List ℕ) → g name ≡ update bytes_eq f t (Some rank) name) →
    AreRanks part entries source host f → AreRanks (e ∷ part) entries source host g
ranks-put e part entries source host f g rank n t is stated fits same put ranks =
    ranks-some e part entries source host f g rank (no_key e.key is) (subst (λ m. IsRankBy m source host e.stanza (Some rank)) stated fits)
    (subst (λ u. (name : List ℕ) → g name ≡ update bytes_eq f u (Some rank) name) same put) ranks

pub ranks-left : (e : PropsEntry) (part entries : List PropsEntry) (source host : List ℕ) (f : Ranks) (n : Option ℤ) →
    (length e.key == 0) ≡ true → n ≡ stated_priority entries e.stanza → IsRankBy n source host e.stanza None →
    AreRanks part entries source host f → AreRanks (e ∷ part) entries source host f
ranks-left e part entries source host f n is stated fits ranks =
    ranks-none e part entries source host f (no_key e.key is) (subst (λ m. IsRankBy m source host e.stanza None) stated fits) ranks
