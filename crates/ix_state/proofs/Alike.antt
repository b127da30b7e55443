-- Entries that differ in the names of their layers alone say the same.
use Rattle.std.proofs.Common.{◌≡◌, ℕ, Bool, true, false, List, [], ◌∷◌, ◌++◌, map, Option, Some, None, refl, sym, ap, ◌∙◌, codes}
use Rattle.std.specs.Prelude.{is_some, bytes_eq, not, ◌&&◌, ◌||◌, if◌then◌else◌, unwrap_or}
use Rattle.std.specs.Option.{option_map, option_or, option_and_then}
use Rattle.std.specs.List.{AllByRecursion, flat_map}
use Rattle.ix_conf.specs.Value.{is_at, entry_at, IsBefore, IsAscending}
use Rattle.ix_conf.specs.declared.layers.MergedEntry.{MergedEntry}
use Rattle.ix_conf_values.specs.Values.{own_value, stated, value_of}
use Rattle.ix_life.specs.Limits.{is_good_number, names_an_index, is_good, value_fault, fault_with, first_of, first_fault, limits}
use Rattle.ix_life.specs.Limits.{index_limits, listed_with, listed_at, main_of, listed, AreLimits}
use Rattle.ix_life.specs.Kinds.{kind_of, read}
use Rattle.ix_life.specs.Stanzas.{is_default, is_volume, is_index, is_index_stanza}
use Rattle.ix_life.specs.declared.faults.LimitFault.{LimitFault}
use Rattle.ix_life.specs.declared.faults.LimitFault.TheVariants.{BadValue}
use Rattle.ix_life.specs.declared.kinds.Kind.TheVariants as kinds
use Rattle.ix_life.specs.declared.limits.Limits.{Limits}
use Rattle.ix_life.specs.declared.sets.IndexLimits.{IndexLimits}
use Rattle.ix_life.specs.declared.sets.LimitSet.{LimitSet}

-- an entry with another layer
abbrev pub layered : (MergedEntry → List ℕ) → MergedEntry → MergedEntry
layered f e = record { stanza = e.stanza; key = e.key; value = e.value; layer = f e }

-- ---- entries in their places

found_step : (f : MergedEntry → List ℕ) (x : MergedEntry) (b : Bool) (o p : Option MergedEntry) → p ≡ option_map (layered f) o
    → (if b then Some (layered f x) else p) ≡ option_map (layered f) (if b then Some x else o)
found_step f x true o p e = refl
found_step f x false o p e = e

pub found_layered : (f : MergedEntry → List ℕ) (xs : List MergedEntry) (stanza key : List ℕ)
    → entry_at stanza key (map (layered f) xs) ≡ option_map (layered f) (entry_at stanza key xs)
found_layered f [] stanza key = refl
found_layered f (x ∷ xs) stanza key =
    found_step f x (is_at stanza key x) (entry_at stanza key xs) (entry_at stanza key (map (layered f) xs)) (found_layered f xs stanza key)

before_layered : (f : MergedEntry → List ℕ) (x : MergedEntry) (xs : List MergedEntry) → AllByRecursion (IsBefore x) xs
    → AllByRecursion (IsBefore (layered f x)) (map (layered f) xs)
before_layered f x [] h = tt
before_layered f x (y ∷ ys) h = (h.0, before_layered f x ys h.1)

pub ascending_layered : (f : MergedEntry → List ℕ) (xs : List MergedEntry) → IsAscending xs → IsAscending (map (layered f) xs)
ascending_layered f [] h = tt
ascending_layered f (x ∷ xs) h = (before_layered f x xs h.0, ascending_layered f xs h.1)

-- ---- lists that say the same

pub record SayAlike (xs ys : List MergedEntry) : Type 0 where
  pub found : (stanza key : List ℕ) → is_some (entry_at stanza key xs) ≡ is_some (entry_at stanza key ys)
  pub value : (stanza key : List ℕ) → own_value xs stanza key ≡ own_value ys stanza key

some_layered : (f : MergedEntry → List ℕ) (o : Option MergedEntry) → is_some o ≡ is_some (option_map (layered f) o)
some_layered f None = refl
some_layered f (Some x) = refl

value_layered : (f : MergedEntry → List ℕ) (o : Option MergedEntry)
    → option_map (λ (found : List ℕ × List ℕ). found.0) (option_map (λ (entry : MergedEntry). (entry.value, entry.layer)) o)
    ≡ option_map (λ (found : List ℕ × List ℕ). found.0)
    (option_map (λ (entry : MergedEntry). (entry.value, entry.layer)) (option_map (layered f) o))
value_layered f None = refl
value_layered f (Some x) = refl

own_layered : (f : MergedEntry → List ℕ) (xs : List MergedEntry) (stanza key : List ℕ) →
    own_value xs stanza key ≡ own_value (map (layered f) xs) stanza key
own_layered f xs stanza [] = refl
own_layered f xs stanza (b ∷ key) =
    value_layered f (entry_at stanza (b ∷ key) xs)
    ∙ ap (λ (o : Option MergedEntry). option_map (λ (found : List ℕ × List ℕ). found.0)
    (option_map (λ (entry : MergedEntry). (entry.value, entry.layer)) o))
    (sym (found_layered f xs stanza (b ∷ key)))

pub alike_layered : (f : MergedEntry → List ℕ) (xs : List MergedEntry) → SayAlike xs (map (layered f) xs)
alike_layered f xs = record {
  found = λ stanza key. some_layered f (entry_at stanza key xs) ∙ ap is_some (sym (found_layered f xs stanza key));
  value = own_layered f xs;
}

pub values_alike : (xs ys : List MergedEntry) → SayAlike xs ys → (stanza key : List ℕ) → value_of xs stanza key ≡ value_of ys stanza key
values_alike xs ys h stanza key =
    ap (λ (o : Option (List ℕ)). stated (option_or o (own_value xs (codes "default") key))) (h.value stanza key)
    ∙ ap (λ (o : Option (List ℕ)). stated (option_or (own_value ys stanza key) o)) (h.value (codes "default") key)

-- ---- limits

index_alike : (xs ys : List MergedEntry) → SayAlike xs ys → (name : List ℕ) → is_index xs name ≡ is_index ys name
index_alike xs ys h name = ap (λ (b : Bool). bytes_eq name (codes "main") || (is_index_stanza name && b)) (h.found name [])

good_alike : (xs ys : List MergedEntry) → SayAlike xs ys → (stanza key value : List ℕ) →
    is_good xs stanza key value ≡ is_good ys stanza key value
good_alike xs ys h stanza key [] = refl
good_alike xs ys h stanza key (b ∷ bs) =
    ap (λ (t : Bool). is_good_number (kind_of key) (b ∷ bs) && (not (is_default stanza) || (if names_an_index key then t
    else if bytes_eq key (codes "rotatePeriodInSecs") then is_some (read kinds.FromOne (b ∷ bs)) else true))) (index_alike xs ys h (b ∷ bs))

value_fault_alike : (xs ys : List MergedEntry) → SayAlike xs ys → (e : MergedEntry) → value_fault xs e ≡ value_fault ys e
value_fault_alike xs ys h e =
    ap (λ (t : Bool). if is_volume e.stanza || t then None else Some (BadValue e.stanza e.key)) (good_alike xs ys h e.stanza e.key e.value)

fault_alike : (f : MergedEntry → List ℕ) (xs ys : List MergedEntry) → SayAlike xs ys → (e : MergedEntry) (key : List ℕ)
    → fault_with xs e key ≡ fault_with ys (layered f e) key
fault_alike f xs ys h e [] = refl
fault_alike f xs ys h e (b ∷ key) = value_fault_alike xs ys h e

faults_alike : (f : MergedEntry → List ℕ) (xs ys : List MergedEntry) → SayAlike xs ys → (es : List MergedEntry)
    → first_of xs es ≡ first_of ys (map (layered f) es)
faults_alike f xs ys h [] = refl
faults_alike f xs ys h (e ∷ es) =
    ap (λ (o : Option LimitFault). option_or o (first_of xs es)) (fault_alike f xs ys h e e.key)
    ∙ ap (λ (o : Option LimitFault). option_or (fault_with ys (layered f e) e.key) o) (faults_alike f xs ys h es)

pub fault_layered : (f : MergedEntry → List ℕ) (xs : List MergedEntry) → first_fault xs ≡ first_fault (map (layered f) xs)
fault_layered f xs = faults_alike f xs (map (layered f) xs) (alike_layered f xs) xs

limits_alike : (xs ys : List MergedEntry) → SayAlike xs ys → (index : List ℕ) → limits xs index ≡ limits ys index
limits_alike xs ys h index =
    let v = values_alike xs ys h index in
    rw (
      v (codes "maxDataSize"),
      v (codes "maxHotBuckets"),
      v (codes "maxHotSpanSecs"),
      v (codes "maxHotIdleSecs"),
      v (codes "maxWarmDBCount"),
      v (codes "frozenTimePeriodInSecs"),
      v (codes "maxTotalDataSizeMB"),
      v (codes "homePath.maxDataSizeMB"),
      v (codes "coldPath.maxDataSizeMB"),
      v (codes "quarantinePastSecs"),
      v (codes "quarantineFutureSecs"),
      v (codes "coldToFrozenDir"),
    ) refl

listed_one : (f : MergedEntry → List ℕ) (xs ys : List MergedEntry) → SayAlike xs ys → (e : MergedEntry) (key : List ℕ)
    → listed_with xs e key ≡ listed_with ys (layered f e) key
listed_one f xs ys h e [] =
    ap (λ (l : Limits). if is_index_stanza e.stanza then record { name = e.stanza; limits = l }
    ∷ [] else []) (limits_alike xs ys h e.stanza)
listed_one f xs ys h e (b ∷ key) = refl

listed_all : (f : MergedEntry → List ℕ) (xs ys : List MergedEntry) → SayAlike xs ys → (es : List MergedEntry)
    → flat_map (listed_at xs) es ≡ flat_map (listed_at ys) (map (layered f) es)
listed_all f xs ys h [] = refl
listed_all f xs ys h (e ∷ es) =
    ap (λ (l : List IndexLimits). l ++ flat_map (listed_at xs) es) (listed_one f xs ys h e e.key)
    ∙ ap (λ (l : List IndexLimits). listed_with ys (layered f e) e.key ++ l) (listed_all f xs ys h es)

main_alike : (xs ys : List MergedEntry) → SayAlike xs ys → main_of xs ≡ main_of ys
main_alike xs ys h =
    ap (λ (b : Bool). if b then [] else record { name = codes "main"; limits = limits xs (codes "main") } ∷ []) (h.found (codes "main") [])
    ∙ ap (λ (l : Limits). if is_some (entry_at (codes "main") [] ys) then [] else record { name = codes "main"; limits = l } ∷ [])
    (limits_alike xs ys h (codes "main"))

listed_layered : (f : MergedEntry → List ℕ) (xs : List MergedEntry) → listed xs ≡ listed (map (layered f) xs)
listed_layered f xs =
    let ys = map (layered f) xs in
    let h = alike_layered f xs in
    ap (λ (l : List IndexLimits). l ++ main_of xs) (listed_all f xs ys h xs)
    ∙ ap (λ (l : List IndexLimits). flat_map (listed_at ys) ys ++ l) (main_alike xs ys h)

index_limits_alike : (xs ys : List MergedEntry) → SayAlike xs ys → (index : List ℕ) → index_limits xs index ≡ index_limits ys index
index_limits_alike xs ys h index =
    ap (λ (b : Bool). if b then Some (limits xs index) else None) (index_alike xs ys h index)
    ∙ ap (λ (l : Limits). if is_index ys index then Some l else None) (limits_alike xs ys h index)

pub set_layered : (f : MergedEntry → List ℕ) (xs : List MergedEntry) (set : LimitSet) → AreLimits xs set →
    AreLimits (map (layered f) xs) set
set_layered f xs set are =
    let ys = map (layered f) xs in
    let h = alike_layered f xs in
    let v = values_alike xs ys h (codes "default") in
    record {
      default_database = are.default_database ∙ ap (λ (o : Option (List ℕ)). unwrap_or o (codes "main")) (v (codes "defaultDatabase"));
      last_chance = are.last_chance ∙ v (codes "lastChanceIndex");
      rotate_secs =
          are.rotate_secs ∙ ap (λ (o : Option (List ℕ)). unwrap_or (option_and_then (read kinds.FromOne) o) 60)
          (v (codes "rotatePeriodInSecs"));
      retired = are.retired ∙ limits_alike xs ys h (codes "default");
      listed = are.listed ∙ listed_layered f xs;
      limits = λ index. are.limits index ∙ index_limits_alike xs ys h index;
    }
