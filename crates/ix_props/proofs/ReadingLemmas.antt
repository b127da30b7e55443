-- What is read of props.conf is one, up to the numbers of the nodes of patterns: the law
-- `readings_are_one`. A reading is made here by a function: each tree is numbered in one way, and
-- the value of each key is read of its text.
use Rattle.std.proofs.Common.{◌≡◌, ℕ, ◌<◌, ◌≤◌, ◌+◌, ◌-◌, Bool, true, false, List, [], ◌∷◌, ◌++◌, map, refl, sym, ap, ◌∙◌, subst, length}
use Rattle.std.proofs.Common.{arith, codes, length-append}
use Rattle.std.specs.Prelude.{Option, Some, None, IsSome, unwrap_or, slice_get, option_and_then}
use Rattle.std.specs.Option.{option_map}
use Rattle.std.specs.List.{AllZip}
use Rattle.ix_conf.specs.Names.{NameRule, tokens, are_pattern}
use Rattle.ix_conf.specs.Value.{AreMerged}
use Rattle.ix_conf.specs.declared.layers.MergedEntry.{MergedEntry}
use Rattle.ix_pattern.specs.Piece.{Piece, nothing, byte_in, start, finish, word, seq, either, count, group, ahead}
use Rattle.ix_pattern.specs.Rows.{Rows, Shape, pieces, piece_in, piece_at, made, tree}
use Rattle.ix_pattern.specs.Run.{level, state, State, run, syntax_of}
use Rattle.ix_pattern.specs.Syntax.{Syntax, done, spelled, IsSpelledBy, groups, tree_of, weight_of}
use Rattle.ix_pattern.specs.Tokens.{tokens_of}
use Rattle.ix_pattern.specs.declared.pattern.Node.{Node}
use Rattle.ix_pattern.specs.declared.pattern.Node.TheVariants as node
use Rattle.ix_pattern.specs.declared.tokens.Token.{Token}
use Rattle.ix_pattern.proofs.Grammar.{spelled-is-given}
use Rattle.ix_pattern.proofs.ReadsLemmas.{one-syntax}
use Rattle.ix_pattern.proofs.RowsLemmas.{push-made, push-stay}
use Rattle.ix_props.specs.Kinds.{entry_kind}
use Rattle.ix_props.specs.Lists.{IsTransformNamed, AreTransforms}
use Rattle.ix_props.specs.Names.{names}
use Rattle.ix_props.specs.Props.{IsOfKind, IsRead, AreRead}
use Rattle.ix_props.specs.Same.{MeanSame, IsSameSed, IsSameTransform, IsSameValue, IsSameEntry}
use Rattle.ix_props.specs.Settings.{AreSettings}
use Rattle.ix_props.specs.Values.{IsNamePattern, source_pattern, host_pattern, IsStanza, IsPattern, IsBreaker, IsChange, IsZoneNamed, name}
use Rattle.ix_props.specs.Values.{plain_value}
use Rattle.ix_props.specs.Zones.{rule_of, IsZone}
use Rattle.ix_props.specs.Same.{ReadingsAreOne}
use Rattle.ix_props.specs.declared.kinds.Kind.{Kind}
use Rattle.ix_props.specs.declared.kinds.Kind.TheVariants as kind
use Rattle.ix_props.specs.declared.props.PropsEntry.{PropsEntry}
use Rattle.ix_props.specs.declared.settings.Settings.{Settings}
use Rattle.ix_props.specs.declared.values.Value.{Value}
use Rattle.ix_props.specs.declared.values.Value.TheVariants as value
use Rattle.ix_props.proofs.SameLemmas.{one, same_value}
use Rattle.ix_conf_values.specs.Formats.{format}
use Rattle.ix_conf_values.specs.Patterns.{ReadsAs}
use Rattle.ix_conf_values.specs.Seds.{Form, replace, swap, form, IsSedOf, IsOfForm}
use Rattle.ix_conf_values.specs.Transforms.{Values, values_of, source_of, dest_of, write_meta_of, lookahead_of, format_from, RegexIs}
use Rattle.ix_conf_values.specs.Transforms.{IsTransformOf}
use Rattle.ix_conf_values.specs.declared.seds.Sed.{Sed}
use Rattle.ix_conf_values.specs.declared.seds.Sed.TheVariants.{Replace, Swap}
use Rattle.ix_conf_values.specs.declared.transforms.Key.{Key}
use Rattle.ix_conf_values.specs.declared.transforms.Key.TheVariants.{Raw}
use Rattle.ix_conf_values.specs.declared.transforms.Transform.{Transform}

-- ---- each tree can be numbered

-- nodes behind others, the last of which is the tree
record Laid (rows : Rows) (p : Piece) : Type 0 where
  now : Rows
  last : ℕ
  long : length now ≡ last + 1
  more : length rows ≤ last
  stay : (k : ℕ) → k < length rows → piece_at now k ≡ piece_at rows k
  is : piece_at now last ≡ p

-- one more node
pushed : (rows : Rows) (row : Node × List Bool) → Laid rows (made (pieces rows) row.0 row.1)
pushed rows row = record {
  now = rows ++ row ∷ [];
  last = length rows;
  long = length-append rows (row ∷ []);
  more = omega arith;
  stay = push-stay rows row;
  is = push-made rows row;
}

-- the node over trees that are laid
behind : (rows : Rows) (p q : Piece) (l : Laid rows p) → Laid l.now q → Laid rows q
behind rows p q l m = record {
  now = m.now;
  last = m.last;
  long = m.long;
  more = (let a = l.more in let b = l.long in let c = m.more in omega (arith, a, b, c));
  stay = λ k h. m.stay k (let a = l.more in let b = l.long in omega (arith, a, b, h)) ∙ l.stay k h;
  is = m.is;
}

as_tree : (rows : Rows) (p q : Piece) → p ≡ q → Laid rows p → Laid rows q
as_tree rows p q e l = subst (Laid rows) e l

lay : (p : Piece) (rows : Rows) → Laid rows p
lay nothing rows = pushed rows (node.Nothing, [])
lay (byte_in set) rows = pushed rows (node.Bytes, set)
lay (start lines) rows = pushed rows (node.Start lines, [])
lay (finish lines) rows = pushed rows (node.Finish lines, [])
lay word rows = pushed rows (node.Word, [])
lay (seq p q) rows =
    let l = lay p rows in
    let m = lay q l.now in
    let here : piece_at m.now l.last ≡ p = m.stay l.last (let a = l.long in omega (arith, a)) ∙ l.is in
    behind rows p (seq p q) l (behind l.now q (seq p q) m
    (as_tree m.now (seq (piece_at m.now l.last) (piece_at m.now m.last)) (seq p q) (ap (λ (x : Piece). seq x (piece_at m.now m.last)) here
    ∙ ap (seq p) m.is)
    (pushed m.now (node.Seq l.last m.last, []))))
lay (either p q) rows =
    let l = lay p rows in
    let m = lay q l.now in
    let here : piece_at m.now l.last ≡ p = m.stay l.last (let a = l.long in omega (arith, a)) ∙ l.is in
    behind rows p (either p q) l (behind l.now q (either p q) m
    (as_tree m.now (either (piece_at m.now l.last) (piece_at m.now m.last)) (either p q)
    (ap (λ (x : Piece). either x (piece_at m.now m.last)) here ∙ ap (either p) m.is)
    (pushed m.now (node.Either l.last m.last, []))))
lay (count p least most lazy) rows =
    let l = lay p rows in
    behind rows p (count p least most lazy) l
    (as_tree l.now (count (piece_at l.now l.last) least most lazy) (count p least most lazy)
    (ap (λ (x : Piece). count x least most lazy) l.is)
    (pushed l.now (node.Count l.last least most lazy, [])))
lay (group number p) rows =
    let l = lay p rows in
    behind rows p (group number p) l
    (as_tree l.now (group number (piece_at l.now l.last)) (group number p) (ap (group number) l.is)
    (pushed l.now (node.Group number l.last, [])))
lay (ahead p wanted) rows =
    let l = lay p rows in
    behind rows p (ahead p wanted) l
    (as_tree l.now (ahead (piece_at l.now l.last) wanted) (ahead p wanted) (ap (λ (x : Piece). ahead x wanted) l.is)
    (pushed l.now (node.Ahead l.last wanted, [])))

tree_laid : (p : Piece) → tree (lay p []).now ≡ p
tree_laid p =
    let l = lay p [] in
    let at : length l.now - 1 ≡ l.last = (let a = l.long in omega (arith, a)) in
    ap (piece_at l.now) at ∙ l.is

-- ---- what a text is read as

abbrev read_tokens : Option (List Token) → Option Syntax
read_tokens o = option_and_then (λ ts. option_and_then syntax_of (run ts)) o

syntax_in : List ℕ → Syntax
syntax_in text = unwrap_or (read_tokens (tokens_of text)) done

is_syntax : (text : List ℕ) (s : Syntax) → IsSpelledBy s text → syntax_in text ≡ s
unfolding syntax_in
is_syntax text s h =
    ap (λ (o : Option (List Token)). unwrap_or (read_tokens o) done) h.tokens
    ∙ ap (λ (o : Option State). unwrap_or (option_and_then syntax_of o) done) (spelled-is-given s h.allowed)

shape_of : Syntax → Shape
shape_of s = record { rows = (lay (tree_of s) []).now; groups = groups s; weight = weight_of s }

shape_in : List ℕ → Shape
shape_in text = shape_of (syntax_in text)

same_shape : (text : List ℕ) (p : Shape) → ReadsAs text p → MeanSame p (shape_in text)
unfolding shape_of shape_in
same_shape text p r =
    let is = r.is_read in
    let s : r.syntax ≡ syntax_in text = sym (is_syntax text r.syntax is.within.spelled) in
    record {
      trees = is.pattern.tree_is ∙ ap tree_of s ∙ sym (tree_laid (tree_of (syntax_in text)));
      groups = is.pattern.groups_are ∙ ap groups s;
      weights = is.pattern.weight_is ∙ ap weight_of s;
    }

-- ---- values

abbrev stanza_value : Option (List ℕ) → Option (List ℕ) → Value
stanza_value (Some text) host = value.Source (record { tokens = tokens text; fold = false })
stanza_value None (Some text) = value.Host (record { tokens = tokens text; fold = true })
stanza_value None None = value.Nothing

abbrev zone_value : Option (List ℕ) → Value
zone_value None = value.Nothing
zone_value (Some rule) = value.Zone rule

abbrev sed_of : Form → Sed
sed_of (replace text parts which) = Replace (shape_in text) parts which
sed_of (swap from to) = Swap from to

abbrev change_value : Option Form → Value
change_value None = value.Nothing
change_value (Some form) = value.Change (sed_of form)

abbrev regex_in : Option (List ℕ) → Shape
regex_in None = shape_of done
regex_in (Some text) = shape_in text

abbrev transform_by : List ℕ → Values → Transform
transform_by name v = record {
  regex = regex_in v.regex;
  source = unwrap_or (source_of v) Raw;
  dest = unwrap_or (dest_of v) None;
  format = format_from name v.format;
  default_value = v.default_value;
  write_meta = unwrap_or (write_meta_of v) false;
  lookahead = unwrap_or (lookahead_of v) 0;
}

abbrev value_by : List MergedEntry → List MergedEntry → Kind → MergedEntry → Value
value_by transforms zones kind.Unread e = value.Nothing
value_by transforms zones kind.Stanza e = stanza_value (source_pattern e) (host_pattern e)
value_by transforms zones kind.Breaker e = value.Pattern (shape_in e.value)
value_by transforms zones kind.Pattern e = value.Pattern (shape_in e.value)
value_by transforms zones kind.Boolean e = unwrap_or (plain_value kind.Boolean e.value) value.Nothing
value_by transforms zones (kind.Count least most) e = unwrap_or (plain_value (kind.Count least most) e.value) value.Nothing
value_by transforms zones kind.Lookahead e = unwrap_or (plain_value kind.Lookahead e.value) value.Nothing
value_by transforms zones kind.Priority e = unwrap_or (plain_value kind.Priority e.value) value.Nothing
value_by transforms zones kind.Format e = unwrap_or (option_map value.Format (format e.value)) value.Nothing
value_by transforms zones kind.Zone e = zone_value (rule_of zones e.value)
value_by transforms zones kind.Change e = change_value (form e.value)
value_by transforms zones kind.Transforms e = value.Transforms (map (λ n. transform_by n (values_of transforms n)) (names e.value))
value_by transforms zones kind.Name e = unwrap_or (option_map value.Name (name e.value)) value.Nothing

-- ---- and what is read otherwise means the same

of_plain : (o : Option Value) (v : Value) → o ≡ Some v → IsSameValue v (unwrap_or o value.Nothing)
of_plain o v e = subst (λ (x : Option Value). IsSameValue v (unwrap_or x value.Nothing)) (sym e) (same_value v)

of_stanza : (source host : Option (List ℕ)) (v : Value) → IsStanza source host v → IsSameValue v (stanza_value source host)
of_stanza (Some text) host value.Nothing is = absurd is
of_stanza (Some text) host (value.Source x) is = ap (λ (r : NameRule). value.Source r) is.0
of_stanza (Some text) host (value.Host x) is = absurd is
of_stanza (Some text) host (value.Pattern x) is = absurd is
of_stanza (Some text) host (value.Boolean x) is = absurd is
of_stanza (Some text) host (value.Count x) is = absurd is
of_stanza (Some text) host (value.Number x) is = absurd is
of_stanza (Some text) host (value.Format x) is = absurd is
of_stanza (Some text) host (value.Zone x) is = absurd is
of_stanza (Some text) host (value.Change x) is = absurd is
of_stanza (Some text) host (value.Transforms x) is = absurd is
of_stanza (Some text) host (value.Name x) is = absurd is
of_stanza None (Some text) value.Nothing is = absurd is
of_stanza None (Some text) (value.Source x) is = absurd is
of_stanza None (Some text) (value.Host x) is = ap (λ (r : NameRule). value.Host r) is.0
of_stanza None (Some text) (value.Pattern x) is = absurd is
of_stanza None (Some text) (value.Boolean x) is = absurd is
of_stanza None (Some text) (value.Count x) is = absurd is
of_stanza None (Some text) (value.Number x) is = absurd is
of_stanza None (Some text) (value.Format x) is = absurd is
of_stanza None (Some text) (value.Zone x) is = absurd is
of_stanza None (Some text) (value.Change x) is = absurd is
of_stanza None (Some text) (value.Transforms x) is = absurd is
of_stanza None (Some text) (value.Name x) is = absurd is
of_stanza None None v is = subst (λ (x : Value). IsSameValue x value.Nothing) (sym is) refl

of_pattern : (text : List ℕ) (v : Value) → IsPattern text v → IsSameValue v (value.Pattern (shape_in text))
of_pattern text value.Nothing is = absurd is
of_pattern text (value.Source x) is = absurd is
of_pattern text (value.Host x) is = absurd is
of_pattern text (value.Pattern x) is = same_shape text x is
of_pattern text (value.Boolean x) is = absurd is
of_pattern text (value.Count x) is = absurd is
of_pattern text (value.Number x) is = absurd is
of_pattern text (value.Format x) is = absurd is
of_pattern text (value.Zone x) is = absurd is
of_pattern text (value.Change x) is = absurd is
of_pattern text (value.Transforms x) is = absurd is
of_pattern text (value.Name x) is = absurd is

of_breaker : (text : List ℕ) (v : Value) → IsBreaker text v → IsSameValue v (value.Pattern (shape_in text))
of_breaker text value.Nothing is = absurd is
of_breaker text (value.Source x) is = absurd is
of_breaker text (value.Host x) is = absurd is
of_breaker text (value.Pattern x) is = same_shape text x is.is_read
of_breaker text (value.Boolean x) is = absurd is
of_breaker text (value.Count x) is = absurd is
of_breaker text (value.Number x) is = absurd is
of_breaker text (value.Format x) is = absurd is
of_breaker text (value.Zone x) is = absurd is
of_breaker text (value.Change x) is = absurd is
of_breaker text (value.Transforms x) is = absurd is
of_breaker text (value.Name x) is = absurd is

of_zone : (rule : Option (List ℕ)) (z : List ℕ) → IsZone rule z → value.Zone z ≡ zone_value rule
of_zone None z is = absurd is
of_zone (Some rule) z is = ap (λ (x : List ℕ). value.Zone x) is.0

of_zone_named : (zones : List MergedEntry) (text : List ℕ) (v : Value) → IsZoneNamed zones text v →
    IsSameValue v (zone_value (rule_of zones text))
of_zone_named zones text value.Nothing is = absurd is
of_zone_named zones text (value.Source x) is = absurd is
of_zone_named zones text (value.Host x) is = absurd is
of_zone_named zones text (value.Pattern x) is = absurd is
of_zone_named zones text (value.Boolean x) is = absurd is
of_zone_named zones text (value.Count x) is = absurd is
of_zone_named zones text (value.Number x) is = absurd is
of_zone_named zones text (value.Format x) is = absurd is
of_zone_named zones text (value.Zone x) is = of_zone (rule_of zones text) x is
of_zone_named zones text (value.Change x) is = absurd is
of_zone_named zones text (value.Transforms x) is = absurd is
of_zone_named zones text (value.Name x) is = absurd is

of_form : (f : Form) (s : Sed) → IsOfForm f s → IsSameSed s (sed_of f)
of_form (replace text parts which) (Replace p parts' which') is = (same_shape text p is.0, is.1, is.2)
of_form (replace text parts which) (Swap from to) is = absurd is
of_form (swap from to) (Replace p parts which) is = absurd is
of_form (swap from to) (Swap from' to') is = (is.0, is.1)

of_sed : (f : Option Form) (s : Sed) → IsSedOf f s → IsSameValue (value.Change s) (change_value f)
of_sed None s is = absurd is
of_sed (Some f) s is = of_form f s is

of_change : (text : List ℕ) (v : Value) → IsChange text v → IsSameValue v (change_value (form text))
of_change text value.Nothing is = absurd is
of_change text (value.Source x) is = absurd is
of_change text (value.Host x) is = absurd is
of_change text (value.Pattern x) is = absurd is
of_change text (value.Boolean x) is = absurd is
of_change text (value.Count x) is = absurd is
of_change text (value.Number x) is = absurd is
of_change text (value.Format x) is = absurd is
of_change text (value.Zone x) is = absurd is
of_change text (value.Change x) is = of_sed (form text) x is.0
of_change text (value.Transforms x) is = absurd is
of_change text (value.Name x) is = absurd is

of_regex : (o : Option (List ℕ)) (p : Shape) → RegexIs o p → MeanSame p (regex_in o)
of_regex None p is = absurd is
of_regex (Some text) p is = same_shape text p is

given_value : {X : Type 0} (o : Option X) (d x : X) → o ≡ Some x → x ≡ unwrap_or o d
given_value o d x e = sym (ap (λ y. unwrap_or y d) e)

of_transform : (n : List ℕ) (v : Values) (t : Transform) → IsTransformOf n v t → IsSameTransform t (transform_by n v)
of_transform n v t is = record {
  regex = of_regex v.regex t.regex is.regex;
  others = λ i. record {
    regex = t.regex;
    source = given_value (source_of v) Raw t.source is.source i;
    dest = given_value (dest_of v) None t.dest is.dest i;
    format = is.format i;
    default_value = is.default_value i;
    write_meta = given_value (write_meta_of v) false t.write_meta is.write_meta i;
    lookahead = given_value (lookahead_of v) 0 t.lookahead is.lookahead i;
  };
}

of_transforms : (transforms : List MergedEntry) (ns : List (List ℕ)) (ts : List Transform) → AreTransforms transforms ns ts →
    AllZip IsSameTransform ts (map (λ n. transform_by n (values_of transforms n)) ns)
of_transforms transforms [] [] is = tt
of_transforms transforms [] (t ∷ ts) is = absurd is
of_transforms transforms (n ∷ ns) [] is = absurd is
of_transforms transforms (n ∷ ns) (t ∷ ts) is =
    (of_transform n (values_of transforms n) t is.0.is_read, of_transforms transforms ns ts is.1)

of_kind : (transforms zones : List MergedEntry) (k : Kind) (e : MergedEntry) (v : Value) → IsOfKind transforms zones k e v →
    IsSameValue v (value_by transforms zones k e)
of_kind transforms zones kind.Unread e v is = subst (λ (x : Value). IsSameValue x value.Nothing) (sym is) refl
of_kind transforms zones kind.Stanza e v is = of_stanza (source_pattern e) (host_pattern e) v is
of_kind transforms zones kind.Breaker e v is = of_breaker e.value v is
of_kind transforms zones kind.Pattern e v is = of_pattern e.value v is
of_kind transforms zones kind.Boolean e v is = of_plain (plain_value kind.Boolean e.value) v is
of_kind transforms zones (kind.Count least most) e v is = of_plain (plain_value (kind.Count least most) e.value) v is
of_kind transforms zones kind.Lookahead e v is = of_plain (plain_value kind.Lookahead e.value) v is
of_kind transforms zones kind.Priority e v is = of_plain (plain_value kind.Priority e.value) v is
of_kind transforms zones kind.Format e v is = of_plain (option_map value.Format (format e.value)) v is
of_kind transforms zones kind.Zone e v is = of_zone_named zones e.value v is
of_kind transforms zones kind.Change e v is = of_change e.value v is
of_kind transforms zones kind.Name e v is = of_plain (option_map value.Name (name e.value)) v is
of_kind transforms zones kind.Transforms e value.Nothing is = absurd is
of_kind transforms zones kind.Transforms e (value.Source x) is = absurd is
of_kind transforms zones kind.Transforms e (value.Host x) is = absurd is
of_kind transforms zones kind.Transforms e (value.Pattern x) is = absurd is
of_kind transforms zones kind.Transforms e (value.Boolean x) is = absurd is
of_kind transforms zones kind.Transforms e (value.Count x) is = absurd is
of_kind transforms zones kind.Transforms e (value.Number x) is = absurd is
of_kind transforms zones kind.Transforms e (value.Format x) is = absurd is
of_kind transforms zones kind.Transforms e (value.Zone x) is = absurd is
of_kind transforms zones kind.Transforms e (value.Change x) is = absurd is
of_kind transforms zones kind.Transforms e (value.Transforms x) is = of_transforms transforms (names e.value) x is
of_kind transforms zones kind.Transforms e (value.Name x) is = absurd is

-- ---- entries

abbrev entry_by : List MergedEntry → List MergedEntry → MergedEntry → PropsEntry
entry_by transforms zones e = record { stanza = e.stanza; key = e.key; value = value_by transforms zones (entry_kind e) e }

of_read : (transforms zones es : List MergedEntry) (loaded : List PropsEntry) → AreRead transforms zones es loaded →
    AllZip IsSameEntry loaded (map (entry_by transforms zones) es)
of_read transforms zones [] [] is = tt
of_read transforms zones [] (l ∷ loaded) is = absurd is
of_read transforms zones (e ∷ es) [] is = absurd is
of_read transforms zones (e ∷ es) (l ∷ loaded) is = (
  record { stanza = is.0.stanza; key = is.0.key; value = of_kind transforms zones (entry_kind e) e l.value is.0.value },
  of_read transforms zones es loaded is.1,
)

pub readings_one : ReadingsAreOne
readings_one transforms zones es = record { entries = map (entry_by transforms zones) es; one = of_read transforms zones es }
