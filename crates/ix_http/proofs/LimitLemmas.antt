-- What is asked keeps the limits.
use Rattle.std.proofs.Common.{◌≡◌, ◌≤◌, ℕ, List, length, Bool, true, false, ◌&&◌, cond, refl, arith}
use Rattle.std.specs.Prelude.{Option, Some, None, IfSome, nat_le, option_map, option_and_then}
use Rattle.std.proofs.lemmas.Bool.Decides.{nat_tests}
use Rattle.ix_base.specs.declared.events.ChannelMeta.{ChannelMeta}
use Rattle.serde_json.specs.Data.{Data}
use Rattle.serde_json.specs.Find.{as_str, get}
use Rattle.std.specs.Prelude.{codes}
use Rattle.ix_http.specs.Asked.{asked_of, or_refused}
use Rattle.ix_http.specs.Bodies.{json_of, short_text, wanted, is_meta_name, is_object_of, meta_of, acks_of}
use Rattle.ix_http.specs.Limits.{IsBrief, IsBriefMeta, KeepsLimits, IsWithin}
use Rattle.ix_http.specs.Ranges.{range_of}
use Rattle.ix_http.specs.Routes.{Route, channel, blocks, end, acks, buckets, events, IsNamed}
use Rattle.ix_http.specs.declared.kinds.HttpFault.{HttpFault}
use Rattle.ix_http.specs.declared.kinds.Ask.{Ask}
use Rattle.ix_http.specs.declared.kinds.Ask.TheVariants as asks

some_map : {A B : Type 0} (o : Option A) (f : A → B) (P : A → Type 0) (Q : B → Type 0) → IfSome o P → ((a : A) → P a → Q (f a)) →
    IfSome (option_map f o) Q
some_map None f P Q is so = tt
some_map (Some a) f P Q is so = so a is

some_then : {A B : Type 0} (o : Option A) (f : A → Option B) (P : A → Type 0) (Q : B → Type 0) → IfSome o P →
    ((a : A) → P a → IfSome (f a) Q) → IfSome (option_and_then f o) Q
some_then None f P Q is so = tt
some_then (Some a) f P Q is so = so a is

some_any : {A : Type 0} (o : Option A) → IfSome o (λ a. Unit {0})
some_any None = tt
some_any (Some a) = tt

some_if : {A : Type 0} (b : Bool) (o : Option A) (Q : A → Type 0) → IfSome o Q → IfSome (cond b o None) Q
some_if true o Q is = is
some_if false o Q is = tt

brief_if : (b : Bool) (s : List ℕ) → (b ≡ true → IsBrief s) → IfSome (cond b (Some s) None) IsBrief
brief_if true s is = is refl
brief_if false s is = tt

both : (a b : Bool) → (a && b) ≡ true → (a ≡ true) × (b ≡ true)
both true b e = (refl, e)
both false b e = cc

low_is : (n : ℕ) → nat_le 1 n ≡ true → 1 ≤ n
low_is n is = grind (arith, nat_tests)

high_is : (n : ℕ) → nat_le n 1024 ≡ true → n ≤ 1024
high_is n is = grind (arith, nat_tests)

brief_is : (s : List ℕ) → (nat_le 1 (length s) && nat_le (length s) 1024) ≡ true → IsBrief s
brief_is s is = let b = both (nat_le 1 (length s)) (nat_le (length s) 1024) is in (low_is (length s) b.0, high_is (length s) b.1)

short_is : (d : Data) → IfSome (short_text d) IsBrief
short_is d = some_then (as_str d) (λ (s : List ℕ). cond (nat_le 1 (length s) && nat_le (length s) 1024) (Some s) None) (λ s. Unit {0})
    IsBrief (some_any (as_str d))
    (λ s _. brief_if (nat_le 1 (length s) && nat_le (length s) 1024) s (brief_is s))

wanted_is : (o : Option Data) → IfSome (wanted o) (λ t. IfSome t IsBrief)
wanted_is None = tt
wanted_is (Some d) = some_map (short_text d) (λ (s : List ℕ). Some s) IsBrief (λ t. IfSome t IsBrief) (short_is d) (λ s is. is)

needed_is : (o : Option Data) → IfSome (option_and_then short_text o) IsBrief
needed_is o = some_then o short_text (λ d. Unit {0}) IsBrief (some_any o) (λ d _. short_is d)

made : List ℕ → List ℕ → Option (List ℕ) → Option (List ℕ) → ChannelMeta
made host source sourcetype index = record { host = host; source = source; sourcetype = sourcetype; index = index }

meta_is : (d : Data) → IfSome (meta_of d) IsBriefMeta
unfolding meta_of made
meta_is d =
    let H = option_and_then short_text (get (codes "host") d) in
    let S = option_and_then short_text (get (codes "source") d) in
    let T = wanted (get (codes "sourcetype") d) in
    let I = wanted (get (codes "index") d) in
    some_if (is_object_of is_meta_name d) _ IsBriefMeta
    (some_then H (λ (host : List ℕ). option_and_then (λ (source : List ℕ).
    option_and_then (λ (sourcetype : Option (List ℕ)). option_map (λ (index : Option (List ℕ)). made host source sourcetype index) I) T)
    S) IsBrief IsBriefMeta (needed_is (get (codes "host") d)) (λ host h.
    some_then S (λ (source : List ℕ). option_and_then (λ (sourcetype : Option (List ℕ)).
    option_map (λ (index : Option (List ℕ)). made host source sourcetype index) I) T) IsBrief IsBriefMeta
    (needed_is (get (codes "source") d)) (λ source s.
    some_then T (λ (sourcetype : Option (List ℕ)). option_map (λ (index : Option (List ℕ)). made host source sourcetype index) I)
    (λ t. IfSome t IsBrief) IsBriefMeta (wanted_is (get (codes "sourcetype") d)) (λ sourcetype t.
    some_map I (λ (index : Option (List ℕ)). made host source sourcetype index) (λ i. IfSome i IsBrief) IsBriefMeta
    (wanted_is (get (codes "index") d)) (λ index i.
    record { host = h; source = s; sourcetype = t; index = i })))))

or_within : (fault : HttpFault) (o : Option Ask) → IfSome o KeepsLimits → IsWithin (or_refused fault o)
or_within fault None is = tt
or_within fault (Some ask) is = is

pub asked_within : (route : Route) (query body : List ℕ) → IsNamed route → length body ≤ 1048576 → IsWithin (asked_of route query body)
unfolding asked_of
asked_within (channel name) query body named few =
    let M = option_and_then meta_of (json_of body) in
    or_within _ (option_map (λ meta. asks.Begin name meta) M) (some_map M (λ meta. asks.Begin name meta) IsBriefMeta KeepsLimits
    (some_then (json_of body) meta_of (λ d. Unit {0}) IsBriefMeta (some_any (json_of body)) (λ d _. meta_is d)) (λ meta is. (named, is)))
asked_within (blocks name) query body named few = (named, few)
asked_within (end name) query body named few = named
asked_within acks query body named few =
    let A = option_and_then acks_of (json_of body) in
    or_within _ (option_map (λ (a : ℕ × List ℕ). asks.Acks a.0 a.1) A)
    (some_map A (λ (a : ℕ × List ℕ). asks.Acks a.0 a.1) (λ a. Unit {0}) KeepsLimits (some_any A) (λ a _. tt))
asked_within buckets query body named few = tt
asked_within (events name) query body named few =
    or_within _ (option_map (λ range. asks.Events name range) (range_of query))
    (some_map (range_of query) (λ range. asks.Events name range) (λ r. Unit {0}) KeepsLimits (some_any (range_of query)) (λ r _. tt))
