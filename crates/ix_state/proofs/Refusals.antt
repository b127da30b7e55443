-- What is read of props.conf is not refused.
use Rattle.std.proofs.Common.{◌≡◌, ◌≢◌, ℕ, zero, suc, Bool, true, false, List, [], ◌∷◌, Option, Some, None, refl, sym, ap, ◌∙◌, subst}
use Rattle.std.proofs.Common.{length, codes, arith, IsSome}
use Rattle.std.specs.Prelude.{slice_get, ◌==◌, bytes_eq, if◌then◌else◌}
use Rattle.std.specs.Option.{option_map}
use Rattle.ix_pattern.proofs.ReadsLemmas.{one-syntax}
use Rattle.ix_pattern.specs.Piece.{least_length}
use Rattle.ix_pattern.specs.Reads.{too_long, above}
use Rattle.ix_pattern.specs.Rows.{Shape, tree}
use Rattle.ix_pattern.specs.Syntax.{groups, tree_of, is_too_large, repeats_empty}
use Rattle.ix_pattern.specs.declared.faults.BreakFault.{BreakFault}
use Rattle.ix_pattern.specs.declared.faults.BreakFault.TheVariants as breaks
use Rattle.ix_pattern.specs.declared.faults.PatternFault.{PatternFault}
use Rattle.ix_pattern.specs.declared.faults.PatternFault.TheVariants as patterns
use Rattle.ix_conf.specs.Names.{tokens, are_pattern}
use Rattle.ix_conf.specs.Value.{entry_at}
use Rattle.ix_conf.specs.declared.layers.MergedEntry.{MergedEntry}
use Rattle.ix_conf_values.specs.Patterns.{ReadsAs, HasFault}
use Rattle.ix_conf_values.specs.Seds.{Form, form, IsSedOf, PatternHasFault, replace, swap}
use Rattle.ix_conf_values.specs.Transforms.{Values, values_of, IsTransformOf, RefusesKey, RegexIs, RegexHasFault, dest_of, lookahead_of}
use Rattle.ix_conf_values.specs.Transforms.{source_of, write_meta_of, bad_dest, bad_lookahead, no_regex, bad_source, bad_write_meta}
use Rattle.ix_conf_values.specs.declared.seds.Sed.{Sed}
use Rattle.ix_conf_values.specs.declared.seds.Sed.TheVariants.{Replace, Swap}
use Rattle.ix_conf_values.specs.declared.transforms.Transform.{Transform}
use Rattle.ix_props.specs.Kinds.{begins_with, is_ignored, class_kind, time_kind, event_kind, key_kind, entry_kind}
use Rattle.ix_props.specs.Lists.{AreTransforms, IsTransformList, IsTransformNamed, RefusesTransformNamed, RefusesNames}
use Rattle.ix_props.specs.Lists.{no_memory as no_name, first as first_name}
use Rattle.ix_props.specs.Names.{names}
use Rattle.ix_props.specs.Props.{IsOfKind, RefusesKind, IsRead, AreRead, RefusesProps, no_memory as no_entry, first as first_entry}
use Rattle.ix_props.specs.Values.{IsBad, IsBreaker, IsBreakerShape, HasBreakFault, IsPattern, IsStanza, IsNoStanza, IsChange, IsZoneNamed}
use Rattle.ix_props.specs.Values.{RefusesStanza, RefusesPattern, RefusesBreaker, RefusesChange, RefusesZoneName}
use Rattle.ix_props.specs.Zones.{IsZone, IsBadRule, rule_of}
use Rattle.ix_props.specs.declared.faults.SettingFault.{SettingFault}
use Rattle.ix_props.specs.declared.faults.SettingFault.TheVariants as fault
use Rattle.ix_props.specs.declared.props.PropsEntry.{PropsEntry}
use Rattle.ix_props.specs.declared.values.Value.{Value}
use Rattle.ix_props.specs.declared.values.Value.TheVariants as value

some_none : {A P : Type 0} (o : Option A) (x : A) → o ≡ Some x → o ≡ None → P
some_none o x e f = absurd (no (sym e ∙ f))
  where
    no : Some x ≡ None → ⊥
    no e = cc

there_none : {A P : Type 0} (o : Option A) → IsSome o → o ≡ None → P
there_none None h e = absurd (never h)
  where
    never : false ≡ true → ⊥
    never k = cc
there_none (Some x) h e = some_none (Some x) x refl e

true_false : {P : Type 0} (b : Bool) → b ≡ true → b ≡ false → P
true_false b e f = absurd (no (sym e ∙ f))
  where
    no : true ≡ false → ⊥
    no e = cc

unmapped : {A B : Type 0} (f : A → B) (o : Option A) (y : B) → option_map f o ≡ Some y → o ≡ None → ⊥
unmapped f None y e n = some_none None y e refl
unmapped f (Some x) y e n = some_none (Some x) x refl n

-- ---- patterns

fault_clash : (text : List ℕ) (shape : Shape) (f : PatternFault) → ReadsAs text shape → HasFault text f → ⊥
fault_clash text shape patterns.Syntax is has = has.none is.syntax is.is_read.within.spelled
fault_clash text shape patterns.TooLarge is (too_long long) = let short = is.is_read.within.short in absurd (omega arith)
fault_clash text shape patterns.TooLarge is (above other spelled large) =
    let same : other ≡ is.syntax = one-syntax text other is.syntax spelled is.is_read.within.spelled in
    true_false (is_too_large other) large (ap is_too_large same ∙ is.is_read.within.small)
fault_clash text shape patterns.EmptyRepeat is (other, has) =
    let same : other ≡ is.syntax = one-syntax text other is.syntax has.within.spelled is.is_read.within.spelled in
    true_false (repeats_empty (tree_of other)) has.empty (ap (λ s. repeats_empty (tree_of s)) same ∙ is.is_read.sound)
fault_clash text shape patterns.NoMemory is has = has

break_clash : (text : List ℕ) (shape : Shape) (f : BreakFault) → IsBreakerShape text shape → HasBreakFault text f → ⊥
break_clash text shape (breaks.Pattern f) is has = fault_clash text shape f is.is_read has
break_clash text shape breaks.NoGroup is (other, has) =
    let own = is.is_read.is_read in
    let same : other ≡ is.is_read.syntax = one-syntax text other is.is_read.syntax has.within.spelled own.within.spelled in
    let none : shape.groups ≡ 0 = own.pattern.groups_are ∙ ap groups (sym same) ∙ has.none in
    let some = is.groups in
    absurd (omega (arith, none, some))
break_clash text shape breaks.MatchesEmpty is (other, has) =
    let own = is.is_read.is_read in
    let same : other ≡ is.is_read.syntax = one-syntax text other is.is_read.syntax has.within.spelled own.within.spelled in
    let none : least_length (tree shape.rows) ≡ 0 = ap least_length (own.pattern.tree_is ∙ ap tree_of (sym same)) ∙ has.empty in
    let some = is.takes in
    absurd (omega (arith, none, some))

-- ---- entries, by their kind

bad : (e : MergedEntry) (P : Type 0) (why : SettingFault) → why ≢ fault.NoMemory → IsBad e P why → P
bad e P (fault.BadValue stanza key) other h = h.2
bad e P (fault.BadPattern stanza key f) other h = absurd h
bad e P (fault.UnknownTransform stanza key name) other h = absurd h
bad e P (fault.UnknownZone stanza name) other h = absurd h
bad e P (fault.BadStanzaPattern stanza) other h = absurd h
bad e P fault.NoMemory other h = absurd (other refl)

bad_stanza : (e : MergedEntry) (P : Type 0) (why : SettingFault) → why ≢ fault.NoMemory → RefusesStanza e P why → P
bad_stanza e P (fault.BadValue stanza key) other h = absurd h
bad_stanza e P (fault.BadPattern stanza key f) other h = absurd h
bad_stanza e P (fault.UnknownTransform stanza key name) other h = absurd h
bad_stanza e P (fault.UnknownZone stanza name) other h = absurd h
bad_stanza e P (fault.BadStanzaPattern stanza) other h = h.1
bad_stanza e P fault.NoMemory other h = absurd (other refl)

source_is : (text : List ℕ) (host : Option (List ℕ)) (v : Value) → IsStanza (Some text) host v → are_pattern (tokens text) ≡ true
source_is text host (value.Source rule) is = is.1
source_is text host value.Nothing is = absurd is
source_is text host (value.Host rule) is = absurd is
source_is text host (value.Boolean b) is = absurd is
source_is text host (value.Count n) is = absurd is
source_is text host (value.Number n) is = absurd is
source_is text host (value.Pattern shape) is = absurd is
source_is text host (value.Format format) is = absurd is
source_is text host (value.Zone zone) is = absurd is
source_is text host (value.Change sed) is = absurd is
source_is text host (value.Transforms ts) is = absurd is
source_is text host (value.Name name) is = absurd is

host_is : (text : List ℕ) (v : Value) → IsStanza None (Some text) v → are_pattern (tokens text) ≡ true
host_is text (value.Host rule) is = is.1
host_is text value.Nothing is = absurd is
host_is text (value.Source rule) is = absurd is
host_is text (value.Boolean b) is = absurd is
host_is text (value.Count n) is = absurd is
host_is text (value.Number n) is = absurd is
host_is text (value.Pattern shape) is = absurd is
host_is text (value.Format format) is = absurd is
host_is text (value.Zone zone) is = absurd is
host_is text (value.Change sed) is = absurd is
host_is text (value.Transforms ts) is = absurd is
host_is text (value.Name name) is = absurd is

stanza_clash : (source host : Option (List ℕ)) (v : Value) → IsStanza source host v → IsNoStanza source host → ⊥
stanza_clash (Some text) host v is never = true_false (are_pattern (tokens text)) (source_is text host v is) never
stanza_clash None (Some text) v is never = true_false (are_pattern (tokens text)) (host_is text v is) never
stanza_clash None None v is never = never

breaker_of : (text : List ℕ) (v : Value) → IsBreaker text v → (shape : Shape) × IsBreakerShape text shape
breaker_of text (value.Pattern shape) is = (shape, is)
breaker_of text value.Nothing is = absurd is
breaker_of text (value.Source rule) is = absurd is
breaker_of text (value.Host rule) is = absurd is
breaker_of text (value.Boolean b) is = absurd is
breaker_of text (value.Count n) is = absurd is
breaker_of text (value.Number n) is = absurd is
breaker_of text (value.Format format) is = absurd is
breaker_of text (value.Zone zone) is = absurd is
breaker_of text (value.Change sed) is = absurd is
breaker_of text (value.Transforms ts) is = absurd is
breaker_of text (value.Name name) is = absurd is

breaker_clash : (e : MergedEntry) (v : Value) (why : SettingFault) → why ≢ fault.NoMemory → IsBreaker e.value v → RefusesBreaker e why → ⊥
breaker_clash e v (fault.BadPattern stanza key f) other is h =
    let read = breaker_of e.value v is in break_clash e.value read.0 f read.1 h.2
breaker_clash e v (fault.BadValue stanza key) other is h = h
breaker_clash e v (fault.UnknownTransform stanza key name) other is h = h
breaker_clash e v (fault.UnknownZone stanza name) other is h = h
breaker_clash e v (fault.BadStanzaPattern stanza) other is h = h
breaker_clash e v fault.NoMemory other is h = other refl

pattern_of : (text : List ℕ) (v : Value) → IsPattern text v → (shape : Shape) × ReadsAs text shape
pattern_of text (value.Pattern shape) is = (shape, is)
pattern_of text value.Nothing is = absurd is
pattern_of text (value.Source rule) is = absurd is
pattern_of text (value.Host rule) is = absurd is
pattern_of text (value.Boolean b) is = absurd is
pattern_of text (value.Count n) is = absurd is
pattern_of text (value.Number n) is = absurd is
pattern_of text (value.Format format) is = absurd is
pattern_of text (value.Zone zone) is = absurd is
pattern_of text (value.Change sed) is = absurd is
pattern_of text (value.Transforms ts) is = absurd is
pattern_of text (value.Name name) is = absurd is

pattern_clash : (e : MergedEntry) (v : Value) (why : SettingFault) → why ≢ fault.NoMemory → IsPattern e.value v → RefusesPattern e why → ⊥
pattern_clash e v (fault.BadPattern stanza key (breaks.Pattern f)) other is h =
    let read = pattern_of e.value v is in fault_clash e.value read.0 f read.1 h.2
pattern_clash e v (fault.BadPattern stanza key breaks.NoGroup) other is h = h
pattern_clash e v (fault.BadPattern stanza key breaks.MatchesEmpty) other is h = h
pattern_clash e v (fault.BadValue stanza key) other is h = h
pattern_clash e v (fault.UnknownTransform stanza key name) other is h = h
pattern_clash e v (fault.UnknownZone stanza name) other is h = h
pattern_clash e v (fault.BadStanzaPattern stanza) other is h = h
pattern_clash e v fault.NoMemory other is h = other refl

change_of : (text : List ℕ) (v : Value) → IsChange text v → (sed : Sed) × IsSedOf (form text) sed
change_of text (value.Change sed) is = (sed, is.0)
change_of text value.Nothing is = absurd is
change_of text (value.Source rule) is = absurd is
change_of text (value.Host rule) is = absurd is
change_of text (value.Boolean b) is = absurd is
change_of text (value.Count n) is = absurd is
change_of text (value.Number n) is = absurd is
change_of text (value.Pattern shape) is = absurd is
change_of text (value.Format format) is = absurd is
change_of text (value.Zone zone) is = absurd is
change_of text (value.Transforms ts) is = absurd is
change_of text (value.Name name) is = absurd is

no_form : (f : Option Form) (sed : Sed) → IsSedOf f sed → f ≡ None → ⊥
no_form None sed is e = is
no_form (Some f) sed is e = some_none (Some f) f refl e

form_fault : (f : Option Form) (sed : Sed) (why : PatternFault) → IsSedOf f sed → PatternHasFault f why → ⊥
form_fault None sed why is h = is
form_fault (Some (replace text parts which)) (Replace pattern sed_parts sed_which) why is h = fault_clash text pattern why is.0 h
form_fault (Some (replace text parts which)) (Swap from to) why is h = is
form_fault (Some (swap from to)) sed why is h = h

change_clash : (e : MergedEntry) (v : Value) (why : SettingFault) → why ≢ fault.NoMemory → IsChange e.value v → RefusesChange e why → ⊥
change_clash e v (fault.BadValue stanza key) other is h = let read = change_of e.value v is in no_form (form e.value) read.0 read.1 h.2
change_clash e v (fault.BadPattern stanza key (breaks.Pattern f)) other is h =
    let read = change_of e.value v is in form_fault (form e.value) read.0 f read.1 h.2
change_clash e v (fault.BadPattern stanza key breaks.NoGroup) other is h = h
change_clash e v (fault.BadPattern stanza key breaks.MatchesEmpty) other is h = h
change_clash e v (fault.UnknownTransform stanza key name) other is h = h
change_clash e v (fault.UnknownZone stanza name) other is h = h
change_clash e v (fault.BadStanzaPattern stanza) other is h = h
change_clash e v fault.NoMemory other is h = other refl

zone_of : (zones : List MergedEntry) (text : List ℕ) (v : Value) → IsZoneNamed zones text v → (zone : List ℕ)
    × IsZone (rule_of zones text) zone
zone_of zones text (value.Zone zone) is = (zone, is)
zone_of zones text value.Nothing is = absurd is
zone_of zones text (value.Source rule) is = absurd is
zone_of zones text (value.Host rule) is = absurd is
zone_of zones text (value.Boolean b) is = absurd is
zone_of zones text (value.Count n) is = absurd is
zone_of zones text (value.Number n) is = absurd is
zone_of zones text (value.Pattern shape) is = absurd is
zone_of zones text (value.Format format) is = absurd is
zone_of zones text (value.Change sed) is = absurd is
zone_of zones text (value.Transforms ts) is = absurd is
zone_of zones text (value.Name name) is = absurd is

no_rule : (rule : Option (List ℕ)) (zone : List ℕ) → IsZone rule zone → rule ≡ None → ⊥
no_rule None zone is e = is
no_rule (Some rule) zone is e = some_none (Some rule) rule refl e

bad_rule : (rule : Option (List ℕ)) (zone : List ℕ) → IsZone rule zone → IsBadRule rule → ⊥
bad_rule None zone is h = is
bad_rule (Some rule) zone is h = there_none _ is.1 h

zone_clash : (zones : List MergedEntry) (e : MergedEntry) (v : Value) (why : SettingFault) → why ≢ fault.NoMemory →
    IsZoneNamed zones e.value v
    → RefusesZoneName zones e why → ⊥
zone_clash zones e v (fault.UnknownZone stanza name) other is h =
    let read = zone_of zones e.value v is in no_rule (rule_of zones e.value) read.0 read.1 h.2
zone_clash zones e v (fault.BadValue stanza key) other is h =
    let read = zone_of zones e.value v is in bad_rule (rule_of zones e.value) read.0 read.1 h.2
zone_clash zones e v (fault.BadPattern stanza key f) other is h = h
zone_clash zones e v (fault.UnknownTransform stanza key name) other is h = h
zone_clash zones e v (fault.BadStanzaPattern stanza) other is h = h
zone_clash zones e v fault.NoMemory other is h = other refl

-- ---- transforms

list_of : (transforms : List MergedEntry) (text : List ℕ) (v : Value) → IsTransformList transforms text v
    → (found : List Transform) × AreTransforms transforms (names text) found
list_of transforms text (value.Transforms found) is = (found, is)
list_of transforms text value.Nothing is = absurd is
list_of transforms text (value.Source rule) is = absurd is
list_of transforms text (value.Host rule) is = absurd is
list_of transforms text (value.Boolean b) is = absurd is
list_of transforms text (value.Count n) is = absurd is
list_of transforms text (value.Number n) is = absurd is
list_of transforms text (value.Pattern shape) is = absurd is
list_of transforms text (value.Format format) is = absurd is
list_of transforms text (value.Zone zone) is = absurd is
list_of transforms text (value.Change sed) is = absurd is
list_of transforms text (value.Name name) is = absurd is

regex_clash : (text : Option (List ℕ)) (shape : Shape) (f : PatternFault) → RegexIs text shape → RegexHasFault text f → ⊥
regex_clash None shape f is h = is
regex_clash (Some text) shape f is h = fault_clash text shape f is h

regex_there : (text : Option (List ℕ)) (shape : Shape) → RegexIs text shape → text ≡ None → ⊥
regex_there None shape is e = is
regex_there (Some text) shape is e = some_none (Some text) text refl e

key_clash : (stanza : List ℕ) (v : Values) (t : Transform) (key : List ℕ) → IsTransformOf stanza v t → RefusesKey v key → ⊥
key_clash stanza v t key is (bad_dest k none) = some_none (dest_of v) t.dest is.dest none
key_clash stanza v t key is (bad_lookahead k d none) = some_none (lookahead_of v) t.lookahead is.lookahead none
key_clash stanza v t key is (no_regex k d l none) = regex_there v.regex t.regex is.regex none
key_clash stanza v t key is (bad_source k d l shape r none) = some_none (source_of v) t.source is.source none
key_clash stanza v t key is (bad_write_meta k d l shape r s none) = some_none (write_meta_of v) t.write_meta is.write_meta none

named_clash : (transforms : List MergedEntry) (e : MergedEntry) (name : List ℕ) (t : Transform) (why : SettingFault) → why ≢ fault.NoMemory
    → IsTransformNamed transforms name t → RefusesTransformNamed transforms e name why → ⊥
named_clash transforms e name t (fault.UnknownTransform stanza key unknown) other is h =
    there_none (entry_at name [] transforms) is.stanza h.3
named_clash transforms e name t (fault.BadValue stanza key) other is h = key_clash name (values_of transforms name) t key is.is_read h.2
named_clash transforms e name t (fault.BadPattern stanza key (breaks.Pattern f)) other is h =
    regex_clash (values_of transforms name).regex t.regex f is.is_read.regex h.2.has_fault
named_clash transforms e name t (fault.BadPattern stanza key breaks.NoGroup) other is h = h
named_clash transforms e name t (fault.BadPattern stanza key breaks.MatchesEmpty) other is h = h
named_clash transforms e name t (fault.UnknownZone stanza name') other is h = h
named_clash transforms e name t (fault.BadStanzaPattern stanza) other is h = h
named_clash transforms e name t fault.NoMemory other is h = other refl

transform_at : (transforms : List MergedEntry) (ns : List (List ℕ)) (ts : List Transform) (i : ℕ) (name : List ℕ) →
    AreTransforms transforms ns ts
    → slice_get ns i ≡ Some name → (t : Transform) × IsTransformNamed transforms name t
transform_at transforms [] ts i name are e = some_none None name e refl
transform_at transforms (n ∷ ns) [] i name are e = absurd are
transform_at transforms (n ∷ ns) (t ∷ ts) zero name are e =
    let same : n ≡ name = cc in (t, subst (λ m. IsTransformNamed transforms m t) same are.0)
transform_at transforms (n ∷ ns) (t ∷ ts) (suc i) name are e = transform_at transforms ns ts i name are.1 e

names_clash : (transforms : List MergedEntry) (e : MergedEntry) (ns : List (List ℕ)) (ts : List Transform) (why : SettingFault) →
    why ≢ fault.NoMemory
    → AreTransforms transforms ns ts → RefusesNames transforms e ns why → ⊥
names_clash transforms e ns ts why other are (no_name none) = other none
names_clash transforms e ns ts why other are (first_name i name before at read refuses) =
    let found = transform_at transforms ns ts i name are at in named_clash transforms e name found.0 why other found.1 refuses

-- ---- all kinds

plain_clash : (o : Option Value) (e : MergedEntry) (v : Value) (why : SettingFault) → why ≢ fault.NoMemory → o ≡ Some v →
    IsBad e (o ≡ None) why → ⊥
plain_clash o e v why other is h = some_none o v is (bad e (o ≡ None) why other h)

mapped_clash : {A : Type 0} (f : A → Value) (o : Option A) (e : MergedEntry) (v : Value) (why : SettingFault) → why ≢ fault.NoMemory
    → option_map f o ≡ Some v → IsBad e (o ≡ None) why → ⊥
mapped_clash f o e v why other is h = unmapped f o v is (bad e (o ≡ None) why other h)

list_clash : (transforms : List MergedEntry) (e : MergedEntry) (v : Value) (why : SettingFault) → why ≢ fault.NoMemory
    → IsTransformList transforms e.value v → RefusesNames transforms e (names e.value) why → ⊥
list_clash transforms e v why other is h =
    let found = list_of transforms e.value v is in names_clash transforms e (names e.value) found.0 why other found.1 h

name_clash : (source host : Option (List ℕ)) (e : MergedEntry) (v : Value) (why : SettingFault) → why ≢ fault.NoMemory
    → IsStanza source host v → RefusesStanza e (IsNoStanza source host) why → ⊥
name_clash source host e v why other is h = stanza_clash source host v is (bad_stanza e (IsNoStanza source host) why other h)

-- a kind that a test chooses
choose : {K : Type 0} (P : K → MergedEntry → Value → Type 0) (Q : K → MergedEntry → SettingFault →
    Type 0) (e : MergedEntry) (v : Value) (why : SettingFault)
    (b : Bool) (k l : K) → (P k e v → Q k e why → ⊥) → (P l e v → Q l e why → ⊥) → P (if b then k else l) e v →
    Q (if b then k else l) e why → ⊥
choose P Q e v why true k l one two = one
choose P Q e v why false k l one two = two

class_clash : (transforms zones : List MergedEntry) (e : MergedEntry) (v : Value) (why : SettingFault) → why ≢ fault.NoMemory →
    (key : List ℕ)
    → IsOfKind transforms zones (class_kind key) e v → RefusesKind transforms zones (class_kind key) e why → ⊥
unfolding class_kind
class_clash transforms zones e v why other key =
    choose (IsOfKind transforms zones) (RefusesKind transforms zones) e v why (begins_with (codes "SEDCMD-") key) _ _
    (change_clash e v why other)
    (choose (IsOfKind transforms zones) (RefusesKind transforms zones) e v why (begins_with (codes "TRANSFORMS-") key) _ _
    (list_clash transforms e v why other)
    (choose (IsOfKind transforms zones) (RefusesKind transforms zones) e v why (bytes_eq key (codes "priority")) _ _
    (plain_clash _ e v why other)
    (choose (IsOfKind transforms zones) (RefusesKind transforms zones) e v why (bytes_eq key (codes "sourcetype")) _ _
    (mapped_clash _ _ e v why other)
    (λ is h. h))))

time_clash : (transforms zones : List MergedEntry) (e : MergedEntry) (v : Value) (why : SettingFault) → why ≢ fault.NoMemory →
    (key : List ℕ)
    → IsOfKind transforms zones (time_kind key) e v → RefusesKind transforms zones (time_kind key) e why → ⊥
unfolding time_kind
time_clash transforms zones e v why other key =
    choose (IsOfKind transforms zones) (RefusesKind transforms zones) e v why (bytes_eq key (codes "TIME_PREFIX")) _ _
    (pattern_clash e v why other)
    (choose (IsOfKind transforms zones) (RefusesKind transforms zones) e v why (bytes_eq key (codes "TIME_FORMAT")) _ _
    (mapped_clash _ _ e v why other)
    (choose (IsOfKind transforms zones) (RefusesKind transforms zones) e v why (bytes_eq key (codes "MAX_TIMESTAMP_LOOKAHEAD")) _ _
    (plain_clash _ e v why other)
    (choose (IsOfKind transforms zones) (RefusesKind transforms zones) e v why (bytes_eq key (codes "TZ")) _ _
    (zone_clash zones e v why other)
    (choose (IsOfKind transforms zones) (RefusesKind transforms zones) e v why (bytes_eq key (codes "MAX_DAYS_AGO")) _ _
    (plain_clash _ e v why other)
    (choose (IsOfKind transforms zones) (RefusesKind transforms zones) e v why (bytes_eq key (codes "MAX_DAYS_HENCE")) _ _
    (plain_clash _ e v why other)
    (class_clash transforms zones e v why other key))))))

event_clash : (transforms zones : List MergedEntry) (e : MergedEntry) (v : Value) (why : SettingFault) → why ≢ fault.NoMemory →
    (key : List ℕ)
    → IsOfKind transforms zones (event_kind key) e v → RefusesKind transforms zones (event_kind key) e why → ⊥
unfolding event_kind
event_clash transforms zones e v why other key =
    choose (IsOfKind transforms zones) (RefusesKind transforms zones) e v why (bytes_eq key (codes "SHOULD_LINEMERGE")) _ _
    (plain_clash _ e v why other)
    (choose (IsOfKind transforms zones) (RefusesKind transforms zones) e v why (bytes_eq key (codes "BREAK_ONLY_BEFORE_DATE")) _ _
    (plain_clash _ e v why other)
    (choose (IsOfKind transforms zones) (RefusesKind transforms zones) e v why (bytes_eq key (codes "BREAK_ONLY_BEFORE")) _ _
    (pattern_clash e v why other)
    (choose (IsOfKind transforms zones) (RefusesKind transforms zones) e v why (bytes_eq key (codes "MUST_BREAK_AFTER")) _ _
    (pattern_clash e v why other)
    (choose (IsOfKind transforms zones) (RefusesKind transforms zones) e v why (bytes_eq key (codes "MUST_NOT_BREAK_AFTER")) _ _
    (pattern_clash e v why other)
    (choose (IsOfKind transforms zones) (RefusesKind transforms zones) e v why (bytes_eq key (codes "MUST_NOT_BREAK_BEFORE")) _ _
    (pattern_clash e v why other)
    (choose (IsOfKind transforms zones) (RefusesKind transforms zones) e v why (bytes_eq key (codes "MAX_EVENTS")) _ _
    (plain_clash _ e v why other)
    (time_clash transforms zones e v why other key)))))))

value_clash : (transforms zones : List MergedEntry) (e : MergedEntry) (v : Value) (why : SettingFault) → why ≢ fault.NoMemory →
    (key : List ℕ)
    → IsOfKind transforms zones (key_kind key) e v → RefusesKind transforms zones (key_kind key) e why → ⊥
value_clash transforms zones e v why other key =
    choose (IsOfKind transforms zones) (RefusesKind transforms zones) e v why (bytes_eq key (codes "LINE_BREAKER")) _ _
    (breaker_clash e v why other)
    (choose (IsOfKind transforms zones) (RefusesKind transforms zones) e v why (bytes_eq key (codes "TRUNCATE")) _ _
    (plain_clash _ e v why other)
    (event_clash transforms zones e v why other key))

kind_clash : (transforms zones : List MergedEntry) (e : MergedEntry) (v : Value) (why : SettingFault) → why ≢ fault.NoMemory
    → IsOfKind transforms zones (entry_kind e) e v → RefusesKind transforms zones (entry_kind e) e why → ⊥
kind_clash transforms zones e v why other =
    choose (IsOfKind transforms zones) (RefusesKind transforms zones) e v why (is_ignored e.stanza) _ _
    (λ is h. h)
    (choose (IsOfKind transforms zones) (RefusesKind transforms zones) e v why (length e.key == 0) _ _
    (name_clash _ _ e v why other)
    (choose (IsOfKind transforms zones) (RefusesKind transforms zones) e v why (length e.value == 0) _ _
    (λ is h. h)
    (value_clash transforms zones e v why other e.key)))

read_at : (transforms zones es : List MergedEntry) (loaded : List PropsEntry) (i : ℕ) (e : MergedEntry) → AreRead transforms zones es loaded
    → slice_get es i ≡ Some e → (entry : PropsEntry) × IsRead transforms zones e entry
read_at transforms zones [] loaded i e are at = some_none None e at refl
read_at transforms zones (x ∷ xs) [] i e are at = absurd are
read_at transforms zones (x ∷ xs) (y ∷ ys) zero e are at =
    let same : x ≡ e = cc in (y, subst (λ z. IsRead transforms zones z y) same are.0)
read_at transforms zones (x ∷ xs) (y ∷ ys) (suc i) e are at = read_at transforms zones xs ys i e are.1 at

-- entries that are read are not refused, but for want of memory
pub read_or_refused : (transforms zones es : List MergedEntry) (loaded : List PropsEntry) (why : SettingFault) → why ≢ fault.NoMemory
    → AreRead transforms zones es loaded → RefusesProps transforms zones es why → ⊥
read_or_refused transforms zones es loaded why other are (no_entry none) = other none
read_or_refused transforms zones es loaded why other are (first_entry e before at read refuses) =
    let found = read_at transforms zones es loaded (length before) e are at in
    kind_clash transforms zones e found.0.value why other found.1.value refuses
