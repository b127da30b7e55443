-- The entries of indexes.conf, taken one after the other, and the limits that they give.
use Rattle.std.proofs.Common.{◌≡◌, ℕ, ◌+◌, ◌<◌, Bool, true, false, List, [], ◌∷◌, ◌++◌, refl, sym, ap, subst, ◌∙◌, drop, length, get_or}
use Rattle.std.proofs.Common.{Option, Some, None, append_assoc, arith}
use Rattle.std.specs.Prelude.{slice_get, is_some, bytes_eq, codes, ◌&&◌, ◌||◌, if◌then◌else◌, nat_eq}
use Rattle.std.specs.List.{flat_map, starts_with}
use Rattle.std.specs.Option.{option_or, option_map}
use Rattle.std.proofs.lemmas.List.{append-nil, drop_more}
use Rattle.std.proofs.lemmas.Slice.Eq.{bytes_eq-Decides}
use Rattle.ix_conf.specs.Value.{entry_at}
use Rattle.ix_conf.specs.declared.layers.MergedEntry.{MergedEntry}
use Rattle.ix_life.specs.declared.sets.IndexLimits.{IndexLimits}
use Rattle.ix_life.specs.declared.faults.LimitFault.{LimitFault}
use Rattle.ix_life.specs.declared.faults.LimitFault.TheVariants.{BadValue, BadIndexName, NoMemory}
use Rattle.ix_life.specs.declared.limits.Limits.{Limits}
use Rattle.ix_life.specs.Stanzas.{is_index_stanza, contains}
use Rattle.ix_life.specs.Limits.{first_of, fault_at, fault_with, stanza_fault, value_fault, Refuses, limits, limits_in, index_limits}
use Rattle.ix_life.specs.Listed.{named, listed_with, listed_at, main_of, listed}
use Rattle.ix_life.proofs.ItemLemmas.{drop_at, drop_past}

-- ---- faults

-- the entry of a key is judged by its value
pub fault_of_value : (entries : List MergedEntry) (e : MergedEntry) (key : List ℕ) → 0 < length key →
    fault_with entries e key ≡ value_fault entries e
fault_of_value entries e [] some = absurd (omega arith)
fault_of_value entries e (b ∷ key) some = refl

-- the entry without a key by its stanza
pub fault_of_stanza : (entries : List MergedEntry) (e : MergedEntry) (key : List ℕ) → length key < 1 →
    fault_with entries e key ≡ stanza_fault e.stanza
fault_of_stanza entries e [] none = refl
fault_of_stanza entries e (b ∷ key) none = absurd (omega arith)

pub fault_free : (entries xs : List MergedEntry) (i : ℕ) (x : MergedEntry) → slice_get xs i ≡ Some x → fault_at entries x ≡ None
    → (whole : Option LimitFault) → first_of entries (drop i xs) ≡ whole → first_of entries (drop (i + 1) xs) ≡ whole
fault_free entries xs i x e none whole known =
    let here : first_of entries (drop i xs) ≡ option_or (fault_at entries x) (first_of entries (drop (i + 1) xs)) =
    ap (first_of entries) (drop_at xs i x e) in
    sym (ap (λ o. option_or o (first_of entries (drop (i + 1) xs))) none) ∙ sym here ∙ known

pub fault_here : (entries xs : List MergedEntry) (i : ℕ) (x : MergedEntry) (fault : LimitFault) → slice_get xs i ≡ Some x →
    Refuses (fault_at entries x) fault
    → (whole : Option LimitFault) → first_of entries (drop i xs) ≡ whole → Refuses whole fault
fault_here entries xs i x (BadValue stanza key) e found whole known =
    let here : first_of entries (drop i xs) ≡ option_or (fault_at entries x) (first_of entries (drop (i + 1) xs)) =
    ap (first_of entries) (drop_at xs i x e) in
    sym known ∙ here ∙ ap (λ o. option_or o (first_of entries (drop (i + 1) xs))) found
fault_here entries xs i x (BadIndexName stanza) e found whole known =
    let here : first_of entries (drop i xs) ≡ option_or (fault_at entries x) (first_of entries (drop (i + 1) xs)) =
    ap (first_of entries) (drop_at xs i x e) in
    sym known ∙ here ∙ ap (λ o. option_or o (first_of entries (drop (i + 1) xs))) found
fault_here entries xs i x NoMemory e found whole known = tt

pub fault_none : (entries xs : List MergedEntry) (i : ℕ) → slice_get xs i ≡ None → (whole : Option LimitFault) →
    first_of entries (drop i xs) ≡ whole → whole ≡ None
fault_none entries xs i e whole known = sym known ∙ ap (first_of entries) (drop_past xs i e)

-- ---- what an entry lists

-- the own entry of an index lists that
pub lists_one : (entries : List MergedEntry) (e : MergedEntry) (key : List ℕ) → length key < 1 → is_index_stanza e.stanza ≡ true
    → listed_with entries e key ≡ named entries e.stanza ∷ []
lists_one entries e [] none is = rw is refl
lists_one entries e (b ∷ key) none is = absurd (omega arith)

-- one of another stanza lists none
pub lists_other : (entries : List MergedEntry) (e : MergedEntry) (key : List ℕ) → length key < 1 → is_index_stanza e.stanza ≡ false
    → listed_with entries e key ≡ []
lists_other entries e [] none is = rw is refl
lists_other entries e (b ∷ key) none is = absurd (omega arith)

-- nor does one with a key
pub lists_none : (entries : List MergedEntry) (e : MergedEntry) (key : List ℕ) → 0 < length key → listed_with entries e key ≡ []
lists_none entries e [] some = absurd (omega arith)
lists_none entries e (b ∷ key) some = refl

pub main_listed : (entries : List MergedEntry) → is_some (entry_at (codes "main") [] entries) ≡ true → main_of entries ≡ []
main_listed entries is = rw is refl

pub main_unlisted : (entries : List MergedEntry) → is_some (entry_at (codes "main") [] entries) ≡ false →
    main_of entries ≡ named entries (codes "main") ∷ []
main_unlisted entries is = rw is refl

-- lists to which more or nothing is added
pub more_of : {X : Type 0} (now before more other : List X) → more ≡ other → now ≡ before ++ more → now ≡ before ++ other
more_of now before more other same now_is = now_is ∙ ap (λ l. before ++ l) same

pub none_of : {X : Type 0} (list other : List X) → other ≡ [] → list ≡ list ++ other
none_of list other none = sym (append-nil list) ∙ ap (λ l. list ++ l) (sym none)

pub is_some-map : {A B : Type 0} (f : A → B) (o : Option A) → is_some (option_map f o) ≡ is_some o
is_some-map f None = refl
is_some-map f (Some x) = refl

-- ---- words in a text

pub word_later : (word xs : List ℕ) (i : ℕ) → i < length xs → starts_with nat_eq (drop i xs) word ≡ false → (whole : Bool)
    → contains word (drop i xs) ≡ whole → contains word (drop (i + 1) xs) ≡ whole
word_later word xs i l e whole known =
    let here : drop i xs ≡ get_or xs i 0 ∷ drop (i + 1) xs = drop_more xs i 0 l in
    let miss : starts_with nat_eq (get_or xs i 0 ∷ drop (i + 1) xs) word ≡ false = ap (λ l. starts_with nat_eq l word) (sym here) ∙ e in
    sym (ap (λ b. b || contains word (drop (i + 1) xs)) miss) ∙ sym (ap (contains word) here) ∙ known

pub word_here : (word xs : List ℕ) (i : ℕ) → i < length xs → starts_with nat_eq (drop i xs) word ≡ true → (whole : Bool)
    → contains word (drop i xs) ≡ whole → true ≡ whole
word_here word xs i l e whole known =
    let here : drop i xs ≡ get_or xs i 0 ∷ drop (i + 1) xs = drop_more xs i 0 l in
    let hit : starts_with nat_eq (get_or xs i 0 ∷ drop (i + 1) xs) word ≡ true = ap (λ l. starts_with nat_eq l word) (sym here) ∙ e in
    sym (ap (λ b. b || contains word (drop (i + 1) xs)) hit) ∙ sym (ap (contains word) here) ∙ known

-- ---- the limits of an index in a list

pub limits_later : (index : List ℕ) (xs : List IndexLimits) (i : ℕ) (d : IndexLimits) → i < length xs →
    bytes_eq index (get_or xs i d).name ≡ false
    → (whole : Option Limits) → limits_in index (drop i xs) ≡ whole → limits_in index (drop (i + 1) xs) ≡ whole
limits_later index xs i d l e whole known =
    sym (ap (λ (b : Bool). if b then Some (get_or xs i d).limits else limits_in index (drop (i + 1) xs)) e)
    ∙ sym (ap (limits_in index) (drop_more xs i d l)) ∙ known

pub limits_here : (index : List ℕ) (xs : List IndexLimits) (i : ℕ) (d : IndexLimits) → i < length xs →
    bytes_eq index (get_or xs i d).name ≡ true
    → (whole : Option Limits) → limits_in index (drop i xs) ≡ whole → Some (get_or xs i d).limits ≡ whole
limits_here index xs i d l e whole known =
    sym (ap (λ (b : Bool). if b then Some (get_or xs i d).limits else limits_in index (drop (i + 1) xs)) e)
    ∙ sym (ap (limits_in index) (drop_more xs i d l)) ∙ known

head_or : (b : Bool) (x : Limits) (a c whole : Option Limits) → whole ≡ option_or a c →
    (if b then Some x else whole) ≡ option_or (if b then Some x else a) c
head_or true x a c whole e = refl
head_or false x a c whole e = e

limits_in-append : (index : List ℕ) (xs ys : List IndexLimits) →
    limits_in index (xs ++ ys) ≡ option_or (limits_in index xs) (limits_in index ys)
limits_in-append index [] ys = refl
limits_in-append index (x ∷ xs) ys =
    head_or (bytes_eq index x.name) x.limits (limits_in index xs) (limits_in index ys) (limits_in index (xs ++ ys))
    (limits_in-append index xs ys)

-- what entries give for an index, but for `main`
abbrev given : List MergedEntry → List ℕ → Option MergedEntry → Option Limits
given entries index found = if is_index_stanza index && is_some found then Some (limits entries index) else None

given_none : (entries : List MergedEntry) (index : List ℕ) (b : Bool) → None ≡ (if b && false then Some (limits entries index) else None)
given_none entries index true = refl
given_none entries index false = refl

pub same_name : (a b : List ℕ) → bytes_eq a b ≡ true → a ≡ b
same_name a b e = (bytes_eq-Decides a b).0 e

own_step : (entries : List MergedEntry) (index : List ℕ) (e : MergedEntry) (more : List IndexLimits) (found : Option MergedEntry)
    (p b : Bool)
    → is_index_stanza e.stanza ≡ p → bytes_eq index e.stanza ≡ b → limits_in index more ≡ given entries index found
    → limits_in index ((if p then named entries e.stanza ∷ [] else []) ++ more) ≡ given entries index (if b && true then Some e else found)
own_step entries index e more found true true pe be known =
    let same : index ≡ e.stanza = same_name index e.stanza be in
    let is : is_index_stanza index ≡ true = ap is_index_stanza same ∙ pe in
    rw be (rw is (ap (λ s. Some (limits entries s)) (sym same)))
own_step entries index e more found false true pe be known =
    let same : index ≡ e.stanza = same_name index e.stanza be in
    let is : is_index_stanza index ≡ false = ap is_index_stanza same ∙ pe in
    known ∙ rw is refl
own_step entries index e more found true false pe be known = rw be known
own_step entries index e more found false false pe be known = known

step : (entries : List MergedEntry) (index : List ℕ) (e : MergedEntry) (k : List ℕ) (more : List IndexLimits) (found : Option MergedEntry)
    → limits_in index more ≡ given entries index found
    → limits_in index (listed_with entries e k ++ more) ≡ given entries index
    (if bytes_eq index e.stanza && bytes_eq [] k then Some e else found)
step entries index e [] more found known =
    own_step entries index e more found (is_index_stanza e.stanza) (bytes_eq index e.stanza) refl refl known
step entries index e (b ∷ k) more found known = by (bytes_eq index e.stanza)
  where
    by : (b : Bool) → limits_in index more ≡ given entries index (if b && false then Some e else found)
    by true = known
    by false = known

stanza_limits : (entries es : List MergedEntry) (index : List ℕ) →
    limits_in index (flat_map (listed_at entries) es) ≡ given entries index (entry_at index [] es)
stanza_limits entries [] index = given_none entries index (is_index_stanza index)
stanza_limits entries (e ∷ es) index =
    step entries index e e.key (flat_map (listed_at entries) es) (entry_at index [] es) (stanza_limits entries es index)

main_other : (index : List ℕ) (entries : List MergedEntry) (m : Bool) → bytes_eq index (codes "main") ≡ false
    → limits_in index (if m then [] else named entries (codes "main") ∷ []) ≡ None
main_other index entries true e = refl
main_other index entries false e = rw e refl

or_none : {A : Type 0} (o : Option A) → option_or o None ≡ o
or_none None = refl
or_none (Some x) = refl

main_given : (entries : List MergedEntry) (m : Bool)
    → option_or (if is_index_stanza (codes "main") && m then Some (limits entries (codes "main")) else None)
    (limits_in (codes "main") (if m then [] else named entries (codes "main") ∷ [])) ≡ Some (limits entries (codes "main"))
main_given entries true = refl
main_given entries false = refl

split : (entries : List MergedEntry) (index : List ℕ)
    → limits_in index (listed entries) ≡ option_or (given entries index (entry_at index [] entries)) (limits_in index (main_of entries))
split entries index =
    limits_in-append index (flat_map (listed_at entries) entries) (main_of entries)
    ∙ ap (λ o. option_or o (limits_in index (main_of entries))) (stanza_limits entries entries index)

other_limits : (entries : List MergedEntry) (index : List ℕ) → bytes_eq index (codes "main") ≡ false →
    limits_in index (listed entries) ≡ index_limits entries index
other_limits entries index e =
    split entries index
    ∙ ap (λ o. option_or (given entries index (entry_at index [] entries)) o)
    (main_other index entries (is_some (entry_at (codes "main") [] entries)) e)
    ∙ or_none (given entries index (entry_at index [] entries))
    ∙ ap (λ (b : Bool). if b || (is_index_stanza index && is_some (entry_at index [] entries)) then Some (limits entries index) else None)
    (sym e)

main_limits : (entries : List MergedEntry) → limits_in (codes "main") (listed entries) ≡ index_limits entries (codes "main")
main_limits entries = split entries (codes "main") ∙ main_given entries (is_some (entry_at (codes "main") [] entries))

pub listed_limits : (entries : List MergedEntry) (index : List ℕ) → limits_in index (listed entries) ≡ index_limits entries index
listed_limits entries index = by (bytes_eq index (codes "main")) refl
  where
    by : (b : Bool) → bytes_eq index (codes "main") ≡ b → limits_in index (listed entries) ≡ index_limits entries index
    by true e =
        let P : List ℕ → Type 0 = λ i. limits_in i (listed entries) ≡ index_limits entries i in
        subst P (sym (same_name index (codes "main") e)) (main_limits entries)
    by false e = other_limits entries index e
