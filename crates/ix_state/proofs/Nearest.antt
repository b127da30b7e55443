-- The nearest entry of each key, in the order of the keys.
use Rattle.std.proofs.Common.{◌≡◌, ℕ, Bool, true, false, List, [], ◌∷◌, refl, sym, ap, ◌∙◌, Ordering}
use Rattle.std.specs.Prelude.{Option, Some, None, if◌then◌else◌, bytes_eq}
use Rattle.std.specs.Option.{option_map, option_or}
use Rattle.std.specs.List.{AllByRecursion}
use Rattle.std.specs.declared.cmp.Ordering.TheVariants.{Less, Equal, Greater}
use Rattle.std.specs.Ordering.{nat_cmp, is_eq, ordering_reverse}
use Rattle.std.specs.Cmp.Lexicographic.{slice_cmp}
use Rattle.std.proofs.lemmas.Cmp.{nat_list_cmp_total}
use Rattle.std.proofs.lemmas.Map.Text.{is_eq-slice_cmp}
use Rattle.ix_model.proofs.Named.{by_test}
use Rattle.ix_props.specs.Ranking.{Ranks, ranked, nearest, value_of, set_in, AreInOrder, AreNearest}
use Rattle.ix_props.specs.declared.props.PropsEntry.{PropsEntry}
use Rattle.ix_props.specs.declared.values.Value.{Value}
use Rattle.ix_props.proofs.NearestLemmas.{same_bytes}

abbrev cmp : List ℕ → List ℕ → Ordering
cmp a b = slice_cmp nat_cmp a b

abbrev Before : List ℕ → PropsEntry → Type 0
Before key d = cmp key d.key ≡ Less

-- ---- an entry among others in order, where none has its key

abbrev put_by : Ordering → PropsEntry → PropsEntry → List PropsEntry → List PropsEntry → List PropsEntry
put_by Less e x xs more = e ∷ x ∷ xs
put_by Equal e x xs more = x ∷ xs
put_by Greater e x xs more = x ∷ more

abbrev put : PropsEntry → List PropsEntry → List PropsEntry
put e [] = e ∷ []
put e (x ∷ xs) = put_by (cmp e.key x.key) e x xs (put e xs)

before_all : (a b : List ℕ) (xs : List PropsEntry) → cmp a b ≡ Less → AllByRecursion (Before b) xs → AllByRecursion (Before a) xs
before_all a b [] l h = tt
before_all a b (x ∷ xs) l h = (nat_list_cmp_total.trans a b x.key l h.0, before_all a b xs l h.1)

all_by : (key : List ℕ) (o : Ordering) (e x : PropsEntry) (xs more : List PropsEntry) → Before key e →
    AllByRecursion (Before key) (x ∷ xs) →
    AllByRecursion (Before key) more → AllByRecursion (Before key) (put_by o e x xs more)
all_by key Less e x xs more p h m = (p, h)
all_by key Equal e x xs more p h m = h
all_by key Greater e x xs more p h m = (h.0, m)

all_put : (key : List ℕ) (e : PropsEntry) (xs : List PropsEntry) → Before key e → AllByRecursion (Before key) xs →
    AllByRecursion (Before key) (put e xs)
all_put key e [] p h = (p, tt)
all_put key e (x ∷ xs) p h = all_by key (cmp e.key x.key) e x xs (put e xs) p h (all_put key e xs p h.1)

order_by : (o : Ordering) (e x : PropsEntry) (xs : List PropsEntry) → cmp e.key x.key ≡ o → AreInOrder (x ∷ xs) → AreInOrder (put e xs) →
    AreInOrder (put_by o e x xs (put e xs))
order_by Less e x xs is h m = ((is, before_all e.key x.key xs is h.0), h)
order_by Equal e x xs is h m = h
order_by Greater e x xs is h m = (all_put x.key e xs (nat_list_cmp_total.antisymm x.key e.key ∙ ap ordering_reverse is) h.0, m)

order_put : (e : PropsEntry) (xs : List PropsEntry) → AreInOrder xs → AreInOrder (put e xs)
order_put e [] h = (tt, tt)
order_put e (x ∷ xs) h = order_by (cmp e.key x.key) e x xs refl h (order_put e xs h.1)

-- ---- what is set then

or_none : (o : Option Value) → option_or o None ≡ o
or_none None = refl
or_none (Some v) = refl

apart : (key other : List ℕ) → cmp key other ≡ Less → bytes_eq key other ≡ false
apart key other l = sym (is_eq-slice_cmp key other) ∙ ap is_eq l

none_behind : (key : List ℕ) (xs : List PropsEntry) → AllByRecursion (Before key) xs → set_in xs key ≡ None
none_behind key [] h = refl
none_behind key (x ∷ xs) h = rw (apart key x.key h.0) (none_behind key xs h.1)

module _ (key : List ℕ) where
  abbrev alone : PropsEntry → Option Value
  alone e = set_in (e ∷ []) key

  set_by : (o : Ordering) (e x : PropsEntry) (xs : List PropsEntry) → cmp e.key x.key ≡ o → AreInOrder (x ∷ xs) →
      set_in (put e xs) key ≡ option_or (set_in xs key) (alone e) →
      set_in (put_by o e x xs (put e xs)) key ≡ option_or (set_in (x ∷ xs) key) (alone e)
  set_by Less e x xs is h ih =
      by_test (bytes_eq key e.key)
      (λ t. (let none : set_in (x ∷ xs) e.key ≡ None = none_behind e.key (x ∷ xs) (is, before_all e.key x.key xs is h.0) in
      let here : set_in (x ∷ xs) key ≡ None = ap (set_in (x ∷ xs)) (same_bytes key e.key t) ∙ none in
      rw (t, here) refl))
      (λ t. rw t (sym (or_none (set_in (x ∷ xs) key))))
  set_by Equal e x xs is h ih =
      by_test (bytes_eq key x.key)
      (λ t. rw t refl)
      (λ t. (let same : e.key ≡ x.key = same_bytes e.key x.key (sym (is_eq-slice_cmp e.key x.key) ∙ ap is_eq is) in
      rw (t, ap (bytes_eq key) same ∙ t) (sym (or_none (set_in xs key)))))
  set_by Greater e x xs is h ih =
      by_test (bytes_eq key x.key)
      (λ t. rw t refl)
      (λ t. rw t ih)

  set_put : (e : PropsEntry) (xs : List PropsEntry) → AreInOrder xs → set_in (put e xs) key ≡ option_or (set_in xs key) (alone e)
  set_put e [] h = refl
  set_put e (x ∷ xs) h = set_by (cmp e.key x.key) e x xs refl h (set_put e xs h.1)

-- ---- the nearest ones

abbrev has_key : List ℕ → List PropsEntry → Bool
has_key key [] = false
has_key key (e ∷ es) = if bytes_eq key e.key then true else has_key key es

module _ (ranks : Ranks) (entries : List PropsEntry) where
  abbrev wanted : List ℕ → Option Value
  wanted key = option_map value_of (nearest ranks key entries)

  abbrev wanted_in : List PropsEntry → List ℕ → Option Value
  wanted_in part key = if has_key key part then wanted key else None

  record IsListed (part : List PropsEntry) : Type 0 where
    list : List PropsEntry
    in_order : AreInOrder list
    set : (key : List ℕ) → set_in list key ≡ wanted_in part key

  same_key : (key : List ℕ) (e : PropsEntry) (o : Option Value) → bytes_eq key e.key ≡ true → wanted e.key ≡ o → wanted key ≡ o
  same_key key e o t is = ap wanted (same_bytes key e.key t) ∙ is

  none_here : (e : PropsEntry) (part : List PropsEntry) (key : List ℕ) → wanted e.key ≡ None → wanted_in part key ≡ wanted_in (e ∷ part) key
  none_here e part key is =
      by_test (bytes_eq key e.key)
      (λ t. (let none : wanted key ≡ None = same_key key e None t is in
      by_test (has_key key part)
      (λ u. rw (t, u) refl)
      (λ u. rw (t, u) (sym none))))
      (λ t. rw t refl)

  one_here : (e : PropsEntry) (part : List PropsEntry) (key : List ℕ) (v : Value) → wanted e.key ≡ Some v →
      option_or (wanted_in part key) (if bytes_eq key e.key then Some v else None) ≡ wanted_in (e ∷ part) key
  one_here e part key v is =
      by_test (bytes_eq key e.key)
      (λ t. (let one : wanted key ≡ Some v = same_key key e (Some v) t is in
      by_test (has_key key part)
      (λ u. rw (t, u, one) refl)
      (λ u. rw (t, u, one) refl)))
      (λ t. rw t (or_none (wanted_in part key)))

  with_key : (e : PropsEntry) (part : List PropsEntry) (o : Option Value) → wanted e.key ≡ o → IsListed part → IsListed (e ∷ part)
  with_key e part None is h = record { list = h.list; in_order = h.in_order; set = λ key. h.set key ∙ none_here e part key is }
  with_key e part (Some v) is h =
      let one : PropsEntry = record { stanza = []; key = e.key; value = v } in
      record {
        list = put one h.list;
        in_order = order_put one h.list h.in_order;
        set = λ key.
            set_put key one h.list h.in_order
            ∙ ap (λ (o : Option Value). option_or o (if bytes_eq key e.key then Some v else None)) (h.set key)
            ∙ one_here e part key v is;
      }

  listed : (part : List PropsEntry) → IsListed part
  listed [] = record { list = []; in_order = tt; set = λ key. refl }
  listed (e ∷ part) = with_key e part (wanted e.key) refl (listed part)

nothing_ranked : (ranks : Ranks) (key : List ℕ) (e : PropsEntry) → bytes_eq key e.key ≡ false → ranked ranks key e ≡ None
nothing_ranked ranks key e t = rw t refl

nowhere : (ranks : Ranks) (key : List ℕ) (es : List PropsEntry) → has_key key es ≡ false → nearest ranks key es ≡ None
nowhere ranks key [] h = refl
nowhere ranks key (e ∷ es) h =
    by_test (bytes_eq key e.key)
    (λ t. absurd (f (rw t at h)))
    (λ t. rw (nothing_ranked ranks key e t) (nowhere ranks key es (rw t at h)))
  where
    f : true ≡ false → ⊥
    f q = cc

pub nearest_exist : (ranks : Ranks) (entries : List PropsEntry) → (list : List PropsEntry) × AreNearest ranks entries list
nearest_exist ranks entries =
    let all = listed ranks entries entries in (
      all.list,
      record {
        in_order = all.in_order;
        set = λ key.
            all.set key
            ∙ by_test (has_key key entries)
            (λ t. rw t refl)
            (λ t. rw (t, nowhere ranks key entries t) refl);
      },
    )
