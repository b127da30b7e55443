-- What is read of entries does not depend on the names of their layers.
use Rattle.std.proofs.Common.{◌≡◌, ℕ, true, false, Bool, List, [], ◌∷◌, map, Option, Some, None, refl, ap, subst, codes}
use Rattle.std.specs.Prelude.{◌==◌, bytes_eq, if◌then◌else◌, length, is_some, IsSome}
use Rattle.ix_conf.specs.Value.{entry_at}
use Rattle.ix_conf.specs.declared.layers.MergedEntry.{MergedEntry}
use Rattle.ix_conf_values.specs.Values.{stated}
use Rattle.ix_conf_values.specs.Transforms.{Values, values_of, IsTransformOf}
use Rattle.ix_conf_values.specs.declared.transforms.Transform.{Transform}
use Rattle.ix_props.specs.Kinds.{begins_with, is_ignored, class_kind, time_kind, event_kind, key_kind, entry_kind}
use Rattle.ix_props.specs.Lists.{AreTransforms, IsTransformList, IsTransformNamed}
use Rattle.ix_props.specs.Names.{names}
use Rattle.ix_props.specs.Props.{IsOfKind, AreRead}
use Rattle.ix_props.specs.Values.{IsZoneNamed}
use Rattle.ix_props.specs.Zones.{IsZone}
use Rattle.ix_props.specs.declared.props.PropsEntry.{PropsEntry}
use Rattle.ix_props.specs.declared.values.Value.{Value}
use Rattle.ix_props.specs.declared.values.Value.TheVariants as value
use Rattle.ix_state.proofs.Alike.{layered, SayAlike, values_alike}

zone_move : (zones zones' : List MergedEntry) → SayAlike zones zones' → (text : List ℕ) (v : Value) → IsZoneNamed zones text v →
    IsZoneNamed zones' text v
zone_move zones zones' h text value.Nothing is = absurd is
zone_move zones zones' h text (value.Source rule) is = absurd is
zone_move zones zones' h text (value.Host rule) is = absurd is
zone_move zones zones' h text (value.Boolean b) is = absurd is
zone_move zones zones' h text (value.Count n) is = absurd is
zone_move zones zones' h text (value.Number n) is = absurd is
zone_move zones zones' h text (value.Pattern shape) is = absurd is
zone_move zones zones' h text (value.Format format) is = absurd is
zone_move zones zones' h text (value.Zone zone) is = subst (λ (rule : Option (List ℕ)). IsZone rule zone)
    (ap stated (h.value text (codes "RULE"))) is
zone_move zones zones' h text (value.Change sed) is = absurd is
zone_move zones zones' h text (value.Transforms found) is = absurd is
zone_move zones zones' h text (value.Name name) is = absurd is

all_values : (xs ys : List MergedEntry) → SayAlike xs ys → (name : List ℕ) → values_of xs name ≡ values_of ys name
all_values xs ys h name =
    let v = values_alike xs ys h name in
    rw (
      v (codes "DEFAULT_VALUE"),
      v (codes "DEST_KEY"),
      v (codes "FORMAT"),
      v (codes "LOOKAHEAD"),
      v (codes "REGEX"),
      v (codes "SOURCE_KEY"),
      v (codes "WRITE_META"),
    ) refl

some_move : {A B : Type 0} (a : Option A) (b : Option B) → is_some a ≡ is_some b → IsSome a → IsSome b
some_move (Some x) (Some y) e h = h
some_move (Some x) None e h = cc
some_move None (Some y) e h = cc
some_move None None e h = h

named_move : (xs ys : List MergedEntry) → SayAlike xs ys → (name : List ℕ) (t : Transform) → IsTransformNamed xs name t →
    IsTransformNamed ys name t
named_move xs ys h name t is = record {
  stanza = some_move (entry_at name [] xs) (entry_at name [] ys) (h.found name []) is.stanza;
  is_read = subst (λ (v : Values). IsTransformOf name v t) (all_values xs ys h name) is.is_read;
  destination = is.destination;
}

transforms_move : (xs ys : List MergedEntry) → SayAlike xs ys → (ns : List (List ℕ)) (ts : List Transform) → AreTransforms xs ns ts →
    AreTransforms ys ns ts
transforms_move xs ys h [] [] are = tt
transforms_move xs ys h [] (t ∷ ts) are = absurd are
transforms_move xs ys h (n ∷ ns) [] are = absurd are
transforms_move xs ys h (n ∷ ns) (t ∷ ts) are = (named_move xs ys h n t are.0, transforms_move xs ys h ns ts are.1)

list_move : (xs ys : List MergedEntry) → SayAlike xs ys → (text : List ℕ) (v : Value) → IsTransformList xs text v →
    IsTransformList ys text v
list_move xs ys h text value.Nothing is = absurd is
list_move xs ys h text (value.Source rule) is = absurd is
list_move xs ys h text (value.Host rule) is = absurd is
list_move xs ys h text (value.Boolean b) is = absurd is
list_move xs ys h text (value.Count n) is = absurd is
list_move xs ys h text (value.Number n) is = absurd is
list_move xs ys h text (value.Pattern shape) is = absurd is
list_move xs ys h text (value.Format format) is = absurd is
list_move xs ys h text (value.Zone zone) is = absurd is
list_move xs ys h text (value.Change sed) is = absurd is
list_move xs ys h text (value.Transforms found) is = transforms_move xs ys h (names text) found is
list_move xs ys h text (value.Name name) is = absurd is

-- a kind that a test chooses
shift : {K : Type 0} (P Q : K → MergedEntry → Value → Type 0) (e e' : MergedEntry) (v : Value) (b : Bool) (k l : K)
    → (P k e v → Q k e' v) → (P l e v → Q l e' v) → P (if b then k else l) e v → Q (if b then k else l) e' v
shift P Q e e' v true k l one two = one
shift P Q e e' v false k l one two = two

class_move : (f : MergedEntry → List ℕ) (transforms zones transforms' zones' : List MergedEntry) → SayAlike transforms transforms' →
    SayAlike zones zones'
    → (e : MergedEntry) (v : Value) (key : List ℕ) → IsOfKind transforms zones (class_kind key) e v →
    IsOfKind transforms' zones' (class_kind key) (layered f e) v
unfolding class_kind
class_move f transforms zones transforms' zones' t z e v key =
    shift (IsOfKind transforms zones) (IsOfKind transforms' zones') e (layered f e) v (begins_with (codes "SEDCMD-") key) _ _
    (λ is. is)
    (shift (IsOfKind transforms zones) (IsOfKind transforms' zones') e (layered f e) v (begins_with (codes "TRANSFORMS-") key) _ _
    (list_move transforms transforms' t e.value v)
    (shift (IsOfKind transforms zones) (IsOfKind transforms' zones') e (layered f e) v (bytes_eq key (codes "priority")) _ _
    (λ is. is)
    (shift (IsOfKind transforms zones) (IsOfKind transforms' zones') e (layered f e) v (bytes_eq key (codes "sourcetype")) _ _
    (λ is. is)
    (λ is. is))))

time_move : (f : MergedEntry → List ℕ) (transforms zones transforms' zones' : List MergedEntry) → SayAlike transforms transforms' →
    SayAlike zones zones'
    → (e : MergedEntry) (v : Value) (key : List ℕ) → IsOfKind transforms zones (time_kind key) e v →
    IsOfKind transforms' zones' (time_kind key) (layered f e) v
unfolding time_kind
time_move f transforms zones transforms' zones' t z e v key =
    shift (IsOfKind transforms zones) (IsOfKind transforms' zones') e (layered f e) v (bytes_eq key (codes "TIME_PREFIX")) _ _
    (λ is. is)
    (shift (IsOfKind transforms zones) (IsOfKind transforms' zones') e (layered f e) v (bytes_eq key (codes "TIME_FORMAT")) _ _
    (λ is. is)
    (shift (IsOfKind transforms zones) (IsOfKind transforms' zones') e (layered f e) v (bytes_eq key (codes "MAX_TIMESTAMP_LOOKAHEAD")) _ _
    (λ is. is)
    (shift (IsOfKind transforms zones) (IsOfKind transforms' zones') e (layered f e) v (bytes_eq key (codes "TZ")) _ _
    (zone_move zones zones' z e.value v)
    (shift (IsOfKind transforms zones) (IsOfKind transforms' zones') e (layered f e) v (bytes_eq key (codes "MAX_DAYS_AGO")) _ _
    (λ is. is)
    (shift (IsOfKind transforms zones) (IsOfKind transforms' zones') e (layered f e) v (bytes_eq key (codes "MAX_DAYS_HENCE")) _ _
    (λ is. is)
    (class_move f transforms zones transforms' zones' t z e v key))))))

event_move : (f : MergedEntry → List ℕ) (transforms zones transforms' zones' : List MergedEntry) → SayAlike transforms transforms' →
    SayAlike zones zones'
    → (e : MergedEntry) (v : Value) (key : List ℕ) → IsOfKind transforms zones (event_kind key) e v →
    IsOfKind transforms' zones' (event_kind key) (layered f e) v
unfolding event_kind
event_move f transforms zones transforms' zones' t z e v key =
    shift (IsOfKind transforms zones) (IsOfKind transforms' zones') e (layered f e) v (bytes_eq key (codes "SHOULD_LINEMERGE")) _ _
    (λ is. is)
    (shift (IsOfKind transforms zones) (IsOfKind transforms' zones') e (layered f e) v (bytes_eq key (codes "BREAK_ONLY_BEFORE_DATE")) _ _
    (λ is. is)
    (shift (IsOfKind transforms zones) (IsOfKind transforms' zones') e (layered f e) v (bytes_eq key (codes "BREAK_ONLY_BEFORE")) _ _
    (λ is. is)
    (shift (IsOfKind transforms zones) (IsOfKind transforms' zones') e (layered f e) v (bytes_eq key (codes "MUST_BREAK_AFTER")) _ _
    (λ is. is)
    (shift (IsOfKind transforms zones) (IsOfKind transforms' zones') e (layered f e) v (bytes_eq key (codes "MUST_NOT_BREAK_AFTER")) _ _
    (λ is. is)
    (shift (IsOfKind transforms zones) (IsOfKind transforms' zones') e (layered f e) v (bytes_eq key (codes "MUST_NOT_BREAK_BEFORE")) _ _
    (λ is. is)
    (shift (IsOfKind transforms zones) (IsOfKind transforms' zones') e (layered f e) v (bytes_eq key (codes "MAX_EVENTS")) _ _
    (λ is. is)
    (time_move f transforms zones transforms' zones' t z e v key)))))))

value_move : (f : MergedEntry → List ℕ) (transforms zones transforms' zones' : List MergedEntry) → SayAlike transforms transforms' →
    SayAlike zones zones'
    → (e : MergedEntry) (v : Value) (key : List ℕ) → IsOfKind transforms zones (key_kind key) e v →
    IsOfKind transforms' zones' (key_kind key) (layered f e) v
value_move f transforms zones transforms' zones' t z e v key =
    shift (IsOfKind transforms zones) (IsOfKind transforms' zones') e (layered f e) v (bytes_eq key (codes "LINE_BREAKER")) _ _
    (λ is. is)
    (shift (IsOfKind transforms zones) (IsOfKind transforms' zones') e (layered f e) v (bytes_eq key (codes "TRUNCATE")) _ _
    (λ is. is)
    (event_move f transforms zones transforms' zones' t z e v key))

kind_move : (f : MergedEntry → List ℕ) (transforms zones transforms' zones' : List MergedEntry) → SayAlike transforms transforms' →
    SayAlike zones zones'
    → (e : MergedEntry) (v : Value) → IsOfKind transforms zones (entry_kind e) e v →
    IsOfKind transforms' zones' (entry_kind e) (layered f e) v
kind_move f transforms zones transforms' zones' t z e v =
    shift (IsOfKind transforms zones) (IsOfKind transforms' zones') e (layered f e) v (is_ignored e.stanza) _ _
    (λ is. is)
    (shift (IsOfKind transforms zones) (IsOfKind transforms' zones') e (layered f e) v (length e.key == 0) _ _
    (λ is. is)
    (shift (IsOfKind transforms zones) (IsOfKind transforms' zones') e (layered f e) v (length e.value == 0) _ _
    (λ is. is)
    (value_move f transforms zones transforms' zones' t z e v e.key)))

pub read_move : (f : MergedEntry → List ℕ) (transforms zones transforms' zones' : List MergedEntry) → SayAlike transforms transforms' →
    SayAlike zones zones'
    → (es : List MergedEntry) (loaded : List PropsEntry) → AreRead transforms zones es loaded →
    AreRead transforms' zones' (map (layered f) es) loaded
read_move f transforms zones transforms' zones' t z [] [] are = tt
read_move f transforms zones transforms' zones' t z [] (x ∷ xs) are = absurd are
read_move f transforms zones transforms' zones' t z (e ∷ es) [] are = absurd are
read_move f transforms zones transforms' zones' t z (e ∷ es) (x ∷ xs) are = (
  record {
    stanza = are.0.stanza;
    key = are.0.key;
    value = kind_move f transforms zones transforms' zones' t z e x.value are.0.value;
  },
  read_move f transforms zones transforms' zones' t z es xs are.1,
)
