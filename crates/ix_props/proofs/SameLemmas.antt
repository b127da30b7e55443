-- The settings of a channel are one.
use Rattle.std.proofs.Common.{◌≡◌, ◌⊎◌, inl, inr, ℕ, ℤ, Bool, true, false, List, [], ◌∷◌, ◌++◌, Some, None, refl, sym, ap, ◌∙◌, subst}
use Rattle.std.proofs.Common.{codes, IsSome}
use Rattle.std.specs.Prelude.{Option, ◌&&◌, is_some, bytes_eq, if◌then◌else◌}
use Rattle.std.specs.Option.{option_and_then}
use Rattle.std.specs.List.{AllByRecursion, AllZip, Contains}
use Rattle.std.specs.declared.cmp.Ordering.TheVariants.{Less}
use Rattle.std.specs.Ordering.{nat_cmp}
use Rattle.std.specs.Cmp.Lexicographic.{slice_cmp}
use Rattle.ix_base.specs.declared.events.ChannelMeta.{ChannelMeta}
use Rattle.ix_pattern.specs.Reads.{OneSyntax}
use Rattle.ix_pattern.specs.Rows.{Shape}
use Rattle.ix_pattern.specs.Syntax.{groups, tree_of, weight_of}
use Rattle.ix_props.specs.Choice.{Origin, IsThere, HoldsForSource, Holds, for_source, for_host, for_source_type, for_everything, IsFirst}
use Rattle.ix_props.specs.Choice.{IsChosen, value_in, number_of, stated_priority, FitsStanza, order}
use Rattle.ix_props.specs.Kinds.{begins_with}
use Rattle.ix_props.specs.Same.{MeanSame, BothMeanSame, AreSameMerge, AreSameTime, IsSameSed, IsSameTransform, AreSame, IsSamePattern}
use Rattle.ix_props.specs.Same.{IsSameChange, AreSameTransforms, IsSameValue, IsSameEntry, SettingsAreOne}
use Rattle.ix_props.specs.Settings.{Class, Chosen, boolean_or, count_or, name_or, zone_or, format_of, lookahead_of, pattern_of}
use Rattle.ix_props.specs.Settings.{IsBreakerOf, AreMergeSettings, AreTimeSettings, AreClasses, AreRising, change_of, changes}
use Rattle.ix_props.specs.Settings.{transforms_of, chain, IsSourceType, origin_of, AreSettings}
use Rattle.ix_props.specs.Values.{IsBreakerShape}
use Rattle.ix_props.specs.declared.props.PropsEntry.{PropsEntry}
use Rattle.ix_props.specs.declared.ranks.Nearness.TheVariants.{Source, Host}
use Rattle.ix_props.specs.declared.ranks.Rank.{Rank}
use Rattle.ix_props.specs.declared.settings.MergeSettings.{MergeSettings}
use Rattle.ix_props.specs.declared.settings.Settings.{Settings}
use Rattle.ix_props.specs.declared.settings.TimeSettings.{TimeSettings}
use Rattle.ix_props.specs.declared.values.Value.{Value}
use Rattle.ix_props.specs.declared.values.Value.TheVariants as value
use Rattle.ix_conf_values.specs.declared.formats.Directive.{Directive}
use Rattle.ix_conf_values.specs.declared.seds.Sed.{Sed}
use Rattle.ix_conf_values.specs.declared.seds.Sed.TheVariants.{Replace, Swap}
use Rattle.ix_conf_values.specs.declared.transforms.Transform.{Transform}
use Rattle.ix_props.proofs.OneLemmas.{one_chosen}
use Rattle.ix_props.proofs.RisingLemmas.{member, front_or_rest, first, behind, no_member, one_list}

-- ---- values that mean the same

-- they are equal, but for patterns

by_kind : (P : Value → Value → Type 0) → ((v : Value) → P v v) → ((p q : Shape) → MeanSame p q → P (value.Pattern p) (value.Pattern q)) →
    ((a b : Sed) → IsSameSed a b → P (value.Change a) (value.Change b)) →
    ((a b : List Transform) → AllZip IsSameTransform a b → P (value.Transforms a) (value.Transforms b)) → (v w : Value) → IsSameValue v w →
    P v w
by_kind P same pattern change transforms value.Nothing w is = subst (P value.Nothing) is (same value.Nothing)
by_kind P same pattern change transforms (value.Source x) w is = subst (P (value.Source x)) is (same (value.Source x))
by_kind P same pattern change transforms (value.Host x) w is = subst (P (value.Host x)) is (same (value.Host x))
by_kind P same pattern change transforms (value.Pattern x) value.Nothing is = absurd is
by_kind P same pattern change transforms (value.Pattern x) (value.Source y) is = absurd is
by_kind P same pattern change transforms (value.Pattern x) (value.Host y) is = absurd is
by_kind P same pattern change transforms (value.Pattern x) (value.Pattern y) is = pattern x y is
by_kind P same pattern change transforms (value.Pattern x) (value.Boolean y) is = absurd is
by_kind P same pattern change transforms (value.Pattern x) (value.Count y) is = absurd is
by_kind P same pattern change transforms (value.Pattern x) (value.Number y) is = absurd is
by_kind P same pattern change transforms (value.Pattern x) (value.Format y) is = absurd is
by_kind P same pattern change transforms (value.Pattern x) (value.Zone y) is = absurd is
by_kind P same pattern change transforms (value.Pattern x) (value.Change y) is = absurd is
by_kind P same pattern change transforms (value.Pattern x) (value.Transforms y) is = absurd is
by_kind P same pattern change transforms (value.Pattern x) (value.Name y) is = absurd is
by_kind P same pattern change transforms (value.Boolean x) w is = subst (P (value.Boolean x)) is (same (value.Boolean x))
by_kind P same pattern change transforms (value.Count x) w is = subst (P (value.Count x)) is (same (value.Count x))
by_kind P same pattern change transforms (value.Number x) w is = subst (P (value.Number x)) is (same (value.Number x))
by_kind P same pattern change transforms (value.Format x) w is = subst (P (value.Format x)) is (same (value.Format x))
by_kind P same pattern change transforms (value.Zone x) w is = subst (P (value.Zone x)) is (same (value.Zone x))
by_kind P same pattern change transforms (value.Change x) value.Nothing is = absurd is
by_kind P same pattern change transforms (value.Change x) (value.Source y) is = absurd is
by_kind P same pattern change transforms (value.Change x) (value.Host y) is = absurd is
by_kind P same pattern change transforms (value.Change x) (value.Pattern y) is = absurd is
by_kind P same pattern change transforms (value.Change x) (value.Boolean y) is = absurd is
by_kind P same pattern change transforms (value.Change x) (value.Count y) is = absurd is
by_kind P same pattern change transforms (value.Change x) (value.Number y) is = absurd is
by_kind P same pattern change transforms (value.Change x) (value.Format y) is = absurd is
by_kind P same pattern change transforms (value.Change x) (value.Zone y) is = absurd is
by_kind P same pattern change transforms (value.Change x) (value.Change y) is = change x y is
by_kind P same pattern change transforms (value.Change x) (value.Transforms y) is = absurd is
by_kind P same pattern change transforms (value.Change x) (value.Name y) is = absurd is
by_kind P same pattern change transforms (value.Transforms x) value.Nothing is = absurd is
by_kind P same pattern change transforms (value.Transforms x) (value.Source y) is = absurd is
by_kind P same pattern change transforms (value.Transforms x) (value.Host y) is = absurd is
by_kind P same pattern change transforms (value.Transforms x) (value.Pattern y) is = absurd is
by_kind P same pattern change transforms (value.Transforms x) (value.Boolean y) is = absurd is
by_kind P same pattern change transforms (value.Transforms x) (value.Count y) is = absurd is
by_kind P same pattern change transforms (value.Transforms x) (value.Number y) is = absurd is
by_kind P same pattern change transforms (value.Transforms x) (value.Format y) is = absurd is
by_kind P same pattern change transforms (value.Transforms x) (value.Zone y) is = absurd is
by_kind P same pattern change transforms (value.Transforms x) (value.Change y) is = absurd is
by_kind P same pattern change transforms (value.Transforms x) (value.Transforms y) is = transforms x y is
by_kind P same pattern change transforms (value.Transforms x) (value.Name y) is = absurd is
by_kind P same pattern change transforms (value.Name x) w is = subst (P (value.Name x)) is (same (value.Name x))

-- a value that may be there
abbrev SameChoice : Option Value → Option Value → Type 0
SameChoice None None = Unit {0}
SameChoice None (Some w) = ⊥
SameChoice (Some v) None = ⊥
SameChoice (Some v) (Some w) = IsSameValue v w

-- what is the same of both, whatever it is read for
same_read : {X : Type 0} (f : Option Value → X) → ((p q : Shape) → f (Some (value.Pattern p)) ≡ f (Some (value.Pattern q))) →
    ((a b : Sed) → f (Some (value.Change a)) ≡ f (Some (value.Change b))) →
    ((a b : List Transform) → f (Some (value.Transforms a)) ≡ f (Some (value.Transforms b))) → (v w : Option Value) → SameChoice v w →
    f v ≡ f w
same_read f p c t None None is = refl
same_read f p c t None (Some w) is = absurd is
same_read f p c t (Some v) None is = absurd is
same_read f p c t (Some v) (Some w) is =
    by_kind (λ (x y : Value). f (Some x) ≡ f (Some y)) (λ x. refl) (λ x y same. p x y) (λ x y same. c x y) (λ x y same. t x y) v w is

same_self : (p : Shape) → MeanSame p p
same_self p = record { trees = refl; groups = refl; weights = refl }

same_sed_self : (s : Sed) → IsSameSed s s
same_sed_self (Replace p parts which) = (same_self p, refl, refl)
same_sed_self (Swap from to) = (refl, refl)

same_transforms_self : (ts : List Transform) → AllZip IsSameTransform ts ts
same_transforms_self [] = tt
same_transforms_self (t ∷ ts) = (record { regex = same_self t.regex; others = refl }, same_transforms_self ts)

same_pattern : (v w : Option Value) → SameChoice v w → BothMeanSame (pattern_of v) (pattern_of w)
same_pattern None None is = tt
same_pattern None (Some w) is = absurd is
same_pattern (Some v) None is = absurd is
same_pattern (Some v) (Some w) is =
    by_kind (λ (x y : Value). BothMeanSame (pattern_of (Some x)) (pattern_of (Some y))) self (λ p q same. same) (λ a b same. tt)
    (λ a b same. tt) v w is
  where
    self : (x : Value) → BothMeanSame (pattern_of (Some x)) (pattern_of (Some x))
    self value.Nothing = tt
    self (value.Source x) = tt
    self (value.Host x) = tt
    self (value.Pattern x) = same_self x
    self (value.Boolean x) = tt
    self (value.Count x) = tt
    self (value.Number x) = tt
    self (value.Format x) = tt
    self (value.Zone x) = tt
    self (value.Change x) = tt
    self (value.Transforms x) = tt
    self (value.Name x) = tt

same_change : (v w : Value) → IsSameValue v w → AllZip IsSameSed (change_of v) (change_of w)
same_change v w is =
    by_kind (λ (x y : Value). AllZip IsSameSed (change_of x) (change_of y)) self (λ p q same. tt) (λ a b same. (same, tt)) (λ a b same. tt)
    v w is
  where
    self : (x : Value) → AllZip IsSameSed (change_of x) (change_of x)
    self value.Nothing = tt
    self (value.Source x) = tt
    self (value.Host x) = tt
    self (value.Pattern x) = tt
    self (value.Boolean x) = tt
    self (value.Count x) = tt
    self (value.Number x) = tt
    self (value.Format x) = tt
    self (value.Zone x) = tt
    self (value.Change x) = (same_sed_self x, tt)
    self (value.Transforms x) = tt
    self (value.Name x) = tt

same_transforms : (v w : Value) → IsSameValue v w → AllZip IsSameTransform (transforms_of v) (transforms_of w)
same_transforms v w is =
    by_kind (λ (x y : Value). AllZip IsSameTransform (transforms_of x) (transforms_of y)) self (λ p q same. tt) (λ a b same. tt)
    (λ a b same. same) v w is
  where
    self : (x : Value) → AllZip IsSameTransform (transforms_of x) (transforms_of x)
    self value.Nothing = tt
    self (value.Source x) = tt
    self (value.Host x) = tt
    self (value.Pattern x) = tt
    self (value.Boolean x) = tt
    self (value.Count x) = tt
    self (value.Number x) = tt
    self (value.Format x) = tt
    self (value.Zone x) = tt
    self (value.Change x) = tt
    self (value.Transforms x) = same_transforms_self x
    self (value.Name x) = tt

-- ---- what is chosen of entries that mean the same

value_by : (t : Bool) (v w : Value) (o p : Option Value) → IsSameValue v w → SameChoice o p →
    SameChoice (if t then Some v else o) (if t then Some w else p)
value_by true v w o p h g = h
value_by false v w o p h g = g

same_value_in : (stanza key : List ℕ) (xs ys : List PropsEntry) → AllZip IsSameEntry xs ys →
    SameChoice (value_in stanza key xs) (value_in stanza key ys)
same_value_in stanza key [] [] same = tt
same_value_in stanza key [] (b ∷ ys) same = absurd same
same_value_in stanza key (a ∷ xs) [] same = absurd same
same_value_in stanza key (a ∷ xs) (b ∷ ys) same =
    let there : (bytes_eq stanza a.stanza && bytes_eq key a.key) ≡ (bytes_eq stanza b.stanza && bytes_eq key b.key) =
    λ i. bytes_eq stanza (same.0.stanza i) && bytes_eq key (same.0.key i) in
    subst (λ (t : Bool). SameChoice (if bytes_eq stanza a.stanza && bytes_eq key a.key then Some a.value else value_in stanza key xs)
    (if t then Some b.value else value_in stanza key ys)) there
    (value_by (bytes_eq stanza a.stanza && bytes_eq key a.key) a.value b.value (value_in stanza key xs) (value_in stanza key ys)
    same.0.value
    (same_value_in stanza key xs ys same.1))

same_there : (v w : Option Value) → SameChoice v w → is_some v ≡ is_some w
same_there v w is = same_read (λ (o : Option Value). is_some o) (λ p q. refl) (λ a b. refl) (λ a b. refl) v w is

same_priority : (v w : Option Value) → SameChoice v w → option_and_then number_of v ≡ option_and_then number_of w
same_priority v w is = same_read (option_and_then number_of) (λ p q. refl) (λ a b. refl) (λ a b. refl) v w is

none_same : (o : Option Value) → SameChoice None o → o ≡ None
none_same None is = refl
none_same (Some w) is = absurd is

module _ (xs ys : List PropsEntry) (same : AllZip IsSameEntry xs ys) where
  priorities : (stanza : List ℕ) → stated_priority xs stanza ≡ stated_priority ys stanza
  priorities stanza = same_priority (value_in stanza (codes "priority") xs) (value_in stanza (codes "priority") ys)
      (same_value_in stanza (codes "priority") xs ys same)

  theres : (stanza key : List ℕ) → is_some (value_in stanza key xs) ≡ is_some (value_in stanza key ys)
  theres stanza key = same_there (value_in stanza key xs) (value_in stanza key ys) (same_value_in stanza key xs ys same)

  holds_source : (source stanza : List ℕ) (rank : Rank) → HoldsForSource xs source stanza rank → HoldsForSource ys source stanza rank
  holds_source source stanza rank h = (
    sym (theres stanza []) ∙ h.0,
    subst (λ (p : Option ℤ). FitsStanza p Source (codes "source::") false source stanza rank) (priorities stanza) h.1,
  )

  holds : (o : Origin) (stanza : List ℕ) (rank : Rank) → Holds xs o stanza rank → Holds ys o stanza rank
  holds o stanza rank (for_source h) = for_source (holds_source o.source stanza rank h)
  holds o stanza rank (for_host there h) =
      for_host (sym (theres stanza []) ∙ there) (subst (λ (p : Option ℤ). FitsStanza p Host (codes "host::") true o.host stanza rank)
      (priorities stanza) h)
  holds o stanza rank (for_source_type is names rank_is) = for_source_type is names rank_is
  holds o stanza rank (for_everything is rank_is) = for_everything is rank_is

  -- what is chosen of the one is so of the other
  record IsMoved (Hb : List ℕ → Rank → Type 0) (key : List ℕ) (v : Option Value) : Type 0 where
    now : Option Value
    is : IsChosen ys Hb key now
    same_as : SameChoice v now

  chosen_moved : (Ha Hb : List ℕ → Rank → Type 0) → ((s : List ℕ) (r : Rank) → Ha s r → Hb s r) →
      ((s : List ℕ) (r : Rank) → Hb s r → Ha s r) → (key : List ℕ) (v : Option Value) →
      IsChosen xs Ha key v → IsMoved Hb key v
  chosen_moved Ha Hb to from key None is = record {
    now = None;
    is = λ stanza rank h. none_same (value_in stanza key ys)
        (subst (λ (o : Option Value). SameChoice o (value_in stanza key ys)) (is stanza rank (from stanza rank h))
        (same_value_in stanza key xs ys same));
    same_as = tt;
  }
  chosen_moved Ha Hb to from key (Some v) is =
      by (value_in is.stanza key ys) refl (subst (λ (o : Option Value). SameChoice o (value_in is.stanza key ys)) is.has
      (same_value_in is.stanza key xs ys same))
    where
      by : (o : Option Value) → value_in is.stanza key ys ≡ o → SameChoice (Some v) o → IsMoved Hb key (Some v)
      by None e s = absurd s
      by (Some w) e s = record {
        now = Some w;
        is = record {
          stanza = is.stanza;
          rank = is.rank;
          holds = to is.stanza is.rank is.holds;
          has = e;
          first = λ other r h there. is.first other r (from other r h) (theres other key ∙ there);
        };
        same_as = s;
      }

  chosen_same : (Ha Hb : List ℕ → Rank → Type 0) → ((s : List ℕ) (r : Rank) → Ha s r → Hb s r) →
      ((s : List ℕ) (r : Rank) → Hb s r → Ha s r) → (key : List ℕ) (v w : Option Value) →
      IsChosen xs Ha key v → IsChosen ys Hb key w → SameChoice v w
  chosen_same Ha Hb to from key v w is is' =
      let m = chosen_moved Ha Hb to from key v is in
      subst (SameChoice v) (one_chosen ys Hb key m.now w m.is is') m.same_as

-- a value means the same as itself
pub same_value : (v : Value) → IsSameValue v v
same_value value.Nothing = refl
same_value (value.Source x) = refl
same_value (value.Host x) = refl
same_value (value.Pattern x) = same_self x
same_value (value.Boolean x) = refl
same_value (value.Count x) = refl
same_value (value.Number x) = refl
same_value (value.Format x) = refl
same_value (value.Zone x) = refl
same_value (value.Change x) = same_sed_self x
same_value (value.Transforms x) = same_transforms_self x
same_value (value.Name x) = refl

abbrev with_regex : Transform → Shape → Transform
with_regex t p = record t { regex = p }

-- the other way
turned : (xs ys : List PropsEntry) → AllZip IsSameEntry xs ys → AllZip IsSameEntry ys xs
turned [] [] same = tt
turned [] (y ∷ ys) same = absurd same
turned (x ∷ xs) [] same = absurd same
turned (x ∷ xs) (y ∷ ys) same =
    (record { stanza = sym same.0.stanza; key = sym same.0.key; value = turned_value x.value y.value same.0.value }, turned xs ys same.1)
  where
    turned_shape : (p q : Shape) → MeanSame p q → MeanSame q p
    turned_shape p q h = record { trees = sym h.trees; groups = sym h.groups; weights = sym h.weights }

    turned_sed : (a b : Sed) → IsSameSed a b → IsSameSed b a
    turned_sed (Replace p parts which) (Replace q parts' which') h = (turned_shape p q h.0, sym h.1, sym h.2)
    turned_sed (Replace p parts which) (Swap from to) h = absurd h
    turned_sed (Swap from to) (Replace q parts which) h = absurd h
    turned_sed (Swap from to) (Swap from' to') h = (sym h.0, sym h.1)

    turned_transform : (a b : Transform) → IsSameTransform a b → IsSameTransform b a
    turned_transform a b h = record {
      regex = turned_shape a.regex b.regex h.regex;
      others = ap (λ (t : Transform). with_regex t b.regex) (sym h.others);
    }

    turned_all : (ts us : List Transform) → AllZip IsSameTransform ts us → AllZip IsSameTransform us ts
    turned_all [] [] h = tt
    turned_all [] (u ∷ us) h = absurd h
    turned_all (t ∷ ts) [] h = absurd h
    turned_all (t ∷ ts) (u ∷ us) h = (turned_transform t u h.0, turned_all ts us h.1)

    turned_value : (v w : Value) → IsSameValue v w → IsSameValue w v
    turned_value v w h = by_kind (λ (a b : Value). IsSameValue b a) same_value turned_shape turned_sed turned_all v w h

module _ (xs ys : List PropsEntry) (same : AllZip IsSameEntry xs ys) where
  one_choice : (o : Origin) (key : List ℕ) (v w : Option Value) → IsChosen xs (Holds xs o) key v → IsChosen ys (Holds ys o) key w →
      SameChoice v w
  one_choice o = chosen_same xs ys same (Holds xs o) (Holds ys o) (holds xs ys same o) (holds ys xs (turned xs ys same) o)

  one_source : (source key : List ℕ) (v w : Option Value) → IsChosen xs (HoldsForSource xs source) key v →
      IsChosen ys (HoldsForSource ys source) key w → SameChoice v w
  one_source source =
      chosen_same xs ys same (HoldsForSource xs source) (HoldsForSource ys source) (holds_source xs ys same source)
      (holds_source ys xs (turned xs ys same) source)

  one_type : (stated : Option (List ℕ)) (source a b : List ℕ) → IsSourceType xs stated source a → IsSourceType ys stated source b → a ≡ b
  one_type (Some stated) source a b is is' = is ∙ sym is'
  one_type None source a b is is' =
      is.2
      ∙ same_read (name_or (codes "unknown")) (λ p q. refl) (λ p q. refl) (λ p q. refl) is.0 is'.0
      (one_source source (codes "sourcetype") is.0 is'.0 is.1 is'.1)
      ∙ sym is'.2

  same_set : (meta : ChannelMeta) (a b : Settings) (is : AreSettings xs meta a) (is' : AreSettings ys meta b) →
      a.sourcetype ≡ b.sourcetype →
      (key : List ℕ) → SameChoice (is.set key) (is'.set key)
  same_set meta a b is is' types key =
      one_choice (origin_of meta b.sourcetype) key (is.set key) (is'.set key)
      (subst (λ t. IsChosen xs (Holds xs (origin_of meta t)) key (is.set key)) types (is.chosen key)) (is'.chosen key)

-- ---- the pattern for breaks

-- a text has one syntax, and so one meaning
same_shape : OneSyntax → (text : List ℕ) (p q : Shape) → IsBreakerShape text p → IsBreakerShape text q → MeanSame p q
same_shape law text p q is is' =
    let a = is.is_read.is_read in
    let b = is'.is_read.is_read in
    let same : is.is_read.syntax ≡ is'.is_read.syntax =
    law text is.is_read.syntax is'.is_read.syntax a.within.spelled b.within.spelled in
    record {
      trees = a.pattern.tree_is ∙ ap tree_of same ∙ sym b.pattern.tree_is;
      groups = a.pattern.groups_are ∙ ap groups same ∙ sym b.pattern.groups_are;
      weights = a.pattern.weight_is ∙ ap weight_of same ∙ sym b.pattern.weight_is;
    }

moved_shape : (p q x y : Shape) → p ≡ x → q ≡ y → MeanSame x y → MeanSame p q
moved_shape p q x y e f same = subst (λ z. MeanSame z q) (sym e) (subst (MeanSame x) (sym f) same)

one_breaker : OneSyntax → (v w : Option Value) (p q : Shape) → SameChoice v w → IsBreakerOf v p → IsBreakerOf w q → MeanSame p q
one_breaker law None None p q same is is' = same_shape law (codes "([\\r\\n]+)") p q is is'
one_breaker law None (Some w) p q same is is' = absurd same
one_breaker law (Some v) None p q same is is' = absurd same
one_breaker law (Some v) (Some w) p q same is is' =
    by_kind (λ (x y : Value). IsBreakerOf (Some x) p → IsBreakerOf (Some y) q → MeanSame p q) self (λ x y h e f. moved_shape p q x y e f h)
    (λ a b h e f. same_shape law (codes "([\\r\\n]+)") p q e f) (λ a b h e f. same_shape law (codes "([\\r\\n]+)") p q e f) v w same is is'
  where
    self : (x : Value) → IsBreakerOf (Some x) p → IsBreakerOf (Some x) q → MeanSame p q
    self value.Nothing e f = same_shape law (codes "([\\r\\n]+)") p q e f
    self (value.Source x) e f = same_shape law (codes "([\\r\\n]+)") p q e f
    self (value.Host x) e f = same_shape law (codes "([\\r\\n]+)") p q e f
    self (value.Pattern x) e f = moved_shape p q x x e f (same_self x)
    self (value.Boolean x) e f = same_shape law (codes "([\\r\\n]+)") p q e f
    self (value.Count x) e f = same_shape law (codes "([\\r\\n]+)") p q e f
    self (value.Number x) e f = same_shape law (codes "([\\r\\n]+)") p q e f
    self (value.Format x) e f = same_shape law (codes "([\\r\\n]+)") p q e f
    self (value.Zone x) e f = same_shape law (codes "([\\r\\n]+)") p q e f
    self (value.Change x) e f = same_shape law (codes "([\\r\\n]+)") p q e f
    self (value.Transforms x) e f = same_shape law (codes "([\\r\\n]+)") p q e f
    self (value.Name x) e f = same_shape law (codes "([\\r\\n]+)") p q e f

-- ---- merging and times

moved_both : (p q x y : Option Shape) → p ≡ x → q ≡ y → BothMeanSame x y → BothMeanSame p q
moved_both p q x y e f same = subst (λ z. BothMeanSame z q) (sym e) (subst (BothMeanSame x) (sym f) same)

module _ (set set' : Chosen) (same : (key : List ℕ) → SameChoice (set key) (set' key)) where
  patterns : (key : List ℕ) (p q : Option Shape) → p ≡ pattern_of (set key) → q ≡ pattern_of (set' key) → BothMeanSame p q
  patterns key p q e f = moved_both p q (pattern_of (set key)) (pattern_of (set' key)) e f (same_pattern (set key) (set' key) (same key))

  booleans : (d : Bool) (key : List ℕ) → boolean_or d (set key) ≡ boolean_or d (set' key)
  booleans d key = same_read (boolean_or d) (λ p q. refl) (λ p q. refl) (λ p q. refl) (set key) (set' key) (same key)

  counts : (d : ℕ) (key : List ℕ) → count_or d (set key) ≡ count_or d (set' key)
  counts d key = same_read (count_or d) (λ p q. refl) (λ p q. refl) (λ p q. refl) (set key) (set' key) (same key)

  zones : (d key : List ℕ) → zone_or d (set key) ≡ zone_or d (set' key)
  zones d key = same_read (zone_or d) (λ p q. refl) (λ p q. refl) (λ p q. refl) (set key) (set' key) (same key)

  formats : (key : List ℕ) → format_of (set key) ≡ format_of (set' key)
  formats key = same_read format_of (λ p q. refl) (λ p q. refl) (λ p q. refl) (set key) (set' key) (same key)

  lookaheads : (key : List ℕ) → lookahead_of (set key) ≡ lookahead_of (set' key)
  lookaheads key = same_read lookahead_of (λ p q. refl) (λ p q. refl) (λ p q. refl) (set key) (set' key) (same key)

  one_merge : (m n : MergeSettings) → AreMergeSettings set m → AreMergeSettings set' n → AreSameMerge m n
  one_merge m n is is' = record {
    before = patterns (codes "BREAK_ONLY_BEFORE") m.before n.before is.before is'.before;
    break_after = patterns (codes "MUST_BREAK_AFTER") m.break_after n.break_after is.break_after is'.break_after;
    hold_after = patterns (codes "MUST_NOT_BREAK_AFTER") m.hold_after n.hold_after is.hold_after is'.hold_after;
    veto = patterns (codes "MUST_NOT_BREAK_BEFORE") m.veto n.veto is.veto is'.veto;
    others = λ i. record {
      on = (is.on ∙ booleans true (codes "SHOULD_LINEMERGE") ∙ sym is'.on) i;
      before_date = (is.before_date ∙ booleans true (codes "BREAK_ONLY_BEFORE_DATE") ∙ sym is'.before_date) i;
      before = m.before;
      break_after = m.break_after;
      hold_after = m.hold_after;
      veto = m.veto;
      max_lines = (is.max_lines ∙ counts 256 (codes "MAX_EVENTS") ∙ sym is'.max_lines) i;
    };
  }

  one_time : (t u : TimeSettings) → AreTimeSettings set t → AreTimeSettings set' u → AreSameTime t u
  one_time t u is is' = record {
    prefix = patterns (codes "TIME_PREFIX") t.prefix u.prefix is.prefix is'.prefix;
    others = λ i. record {
      prefix = t.prefix;
      format = (is.format ∙ formats (codes "TIME_FORMAT") ∙ sym is'.format) i;
      lookahead = (is.lookahead ∙ lookaheads (codes "MAX_TIMESTAMP_LOOKAHEAD") ∙ sym is'.lookahead) i;
      zone = (is.zone ∙ zones (codes "UTC0") (codes "TZ") ∙ sym is'.zone) i;
      days_ago = (is.days_ago ∙ counts 2000 (codes "MAX_DAYS_AGO") ∙ sym is'.days_ago) i;
      days_hence = (is.days_hence ∙ counts 2 (codes "MAX_DAYS_HENCE") ∙ sym is'.days_hence) i;
    };
  }

-- ---- classes

-- a class of the one list is of the other
shared : (set : Chosen) (prefix : List ℕ) (cs ds : List Class) → AreClasses set prefix cs → AreClasses set prefix ds → (c : Class) →
    Contains cs c → Contains ds c
shared set prefix cs ds is is' c there =
    let each = member (λ (d : Class). (begins_with prefix d.0 ≡ true) × (set d.0 ≡ Some d.1)) cs c is.each there in
    is'.all c.0 c.1 each.0 each.1

one_classes : (set : Chosen) (prefix : List ℕ) (cs ds : List Class) → AreClasses set prefix cs → AreClasses set prefix ds → cs ≡ ds
one_classes set prefix cs ds is is' = one_list cs ds is.rising is'.rising (shared set prefix cs ds is is') (shared set prefix ds cs is' is)

record IsSameClass (c d : Class) : Type 0 where
  key : c.0 ≡ d.0
  same_value : IsSameValue c.1 d.1

module _ (set set' : Chosen) (same : (key : List ℕ) → SameChoice (set key) (set' key)) (prefix : List ℕ) where
  abbrev IsClass : Class → Type 0
  IsClass c = (begins_with prefix c.0 ≡ true) × (set c.0 ≡ Some c.1)

  abbrev IsClass' : Class → Type 0
  IsClass' c = (begins_with prefix c.0 ≡ true) × (set' c.0 ≡ Some c.1)

  -- the class of the same key
  record IsOther (c : Class) : Type 0 where
    now : Class
    is : IsClass' now
    class : IsSameClass c now

  other : (c : Class) → IsClass c → IsOther c
  other c is = by (set' c.0) refl (subst (λ (o : Option Value). SameChoice o (set' c.0)) is.1 (same c.0))
    where
      by : (o : Option Value) → set' c.0 ≡ o → SameChoice (Some c.1) o → IsOther c
      by None e s = absurd s
      by (Some w) e s = record { now = (c.0, w); is = (is.0, e); class = record { key = refl; same_value = s } }

  record AreOthers (cs : List Class) : Type 0 where
    now : List Class
    each : AllByRecursion IsClass' now
    classes : AllZip IsSameClass cs now

  others : (cs : List Class) → AllByRecursion IsClass cs → AreOthers cs
  others [] is = record { now = []; each = tt; classes = tt }
  others (c ∷ cs) is =
      let first = other c is.0 in
      let rest = others cs is.1 in
      record { now = first.now ∷ rest.now; each = (first.is, rest.each); classes = (first.class, rest.classes) }

  later : (c d : Class) (cs ds : List Class) → c.0 ≡ d.0 → AllZip IsSameClass cs ds →
      AllByRecursion (λ x. slice_cmp nat_cmp c.0 x.0 ≡ Less) cs →
      AllByRecursion (λ x. slice_cmp nat_cmp d.0 x.0 ≡ Less) ds
  later c d [] [] e z h = tt
  later c d [] (y ∷ ys) e z h = absurd z
  later c d (x ∷ xs) [] e z h = absurd z
  later c d (x ∷ xs) (y ∷ ys) e z h = (sym (λ i. slice_cmp nat_cmp (e i) (z.0.key i)) ∙ h.0, later c d xs ys e z.1 h.1)

  rising : (cs ds : List Class) → AllZip IsSameClass cs ds → AreRising cs → AreRising ds
  rising [] [] z h = tt
  rising [] (d ∷ ds) z h = absurd z
  rising (c ∷ cs) [] z h = absurd z
  rising (c ∷ cs) (d ∷ ds) z h = (later c d cs ds z.0.key z.1 h.0, rising cs ds z.1 h.1)

  held : (cs ds : List Class) → AllZip IsSameClass cs ds → AllByRecursion IsClass' ds → (key : List ℕ) (u v : Value) → set' key ≡ Some v →
      Contains cs (key, u) → Contains ds (key, v)
  held [] [] z is key u v e there = absurd (no_member (key, u) there)
  held [] (d ∷ ds) z is key u v e there = absurd z
  held (c ∷ cs) [] z is key u v e there = absurd z
  held (c ∷ cs) (d ∷ ds) z is key u v e there = by (front_or_rest c cs (key, u) there) (λ rest. held cs ds z.1 is.1 key u v e rest)
    where
      by : (c ≡ (key, u)) ⊎ Contains cs (key, u) → (Contains cs (key, u) → Contains ds (key, v)) → Contains (d ∷ ds) (key, v)
      by (inl f) on =
          let k : d.0 ≡ key = sym z.0.key ∙ ap (λ (x : Class). x.0) f in
          let s : Some d.1 ≡ Some v = sym is.0.1 ∙ ap set' k ∙ e in
          let w : d.1 ≡ v = cc in
          let whole : d ≡ (key, v) = λ i. (k i, w i) in
          subst (Contains (d ∷ ds)) whole (first d ds)
      by (inr rest) on = behind d (key, v) ds (on rest)

  are_classes : (cs : List Class) → AreClasses set prefix cs → (o : AreOthers cs) → AreClasses set' prefix o.now
  are_classes cs is o = record {
    rising = rising cs o.now o.classes is.rising;
    each = o.each;
    all = λ key v begins e. by key v begins e (set key) refl (subst (SameChoice (set key)) e (same key));
  }
    where
      by : (key : List ℕ) (v : Value) → begins_with prefix key ≡ true → set' key ≡ Some v → (o' : Option Value) → set key ≡ o' →
          SameChoice (set key) (Some v) →
          Contains o.now (key, v)
      by key v begins e None f s = absurd (subst (λ (x : Option Value). SameChoice x (Some v)) f s)
      by key v begins e (Some u) f s = held cs o.now o.classes o.each key u v e (is.all key u begins f)

  same_classes : (cs ds : List Class) → AreClasses set prefix cs → AreClasses set' prefix ds → AllZip IsSameClass cs ds
  same_classes cs ds is is' =
      let o = others cs is.each in
      subst (AllZip IsSameClass cs) (one_classes set' prefix o.now ds (are_classes cs is o) is') o.classes

joined : {X : Type 0} (R : X → X → Type 0) (as_ bs cs ds : List X) → AllZip R as_ bs → AllZip R cs ds → AllZip R (as_ ++ cs) (bs ++ ds)
joined R [] [] cs ds z y = y
joined R [] (b ∷ bs) cs ds z y = absurd z
joined R (a ∷ more) [] cs ds z y = absurd z
joined R (a ∷ more) (b ∷ bs) cs ds z y = (z.0, joined R more bs cs ds z.1 y)

all_changes : (cs ds : List Class) → AllZip IsSameClass cs ds → AllZip IsSameSed (changes cs) (changes ds)
all_changes [] [] z = tt
all_changes [] (d ∷ ds) z = absurd z
all_changes (c ∷ cs) [] z = absurd z
all_changes (c ∷ cs) (d ∷ ds) z =
    joined IsSameSed (change_of c.1) (change_of d.1) (changes cs) (changes ds) (same_change c.1 d.1 z.0.same_value) (all_changes cs ds z.1)

all_transforms : (cs ds : List Class) → AllZip IsSameClass cs ds → AllZip IsSameTransform (chain cs) (chain ds)
all_transforms [] [] z = tt
all_transforms [] (d ∷ ds) z = absurd z
all_transforms (c ∷ cs) [] z = absurd z
all_transforms (c ∷ cs) (d ∷ ds) z =
    joined IsSameTransform (transforms_of c.1) (transforms_of d.1) (chain cs) (chain ds) (same_transforms c.1 d.1 z.0.same_value)
    (all_transforms cs ds z.1)

moved_all : {X : Type 0} (R : X → X → Type 0) (a b c d : List X) → a ≡ c → b ≡ d → AllZip R c d → AllZip R a b
moved_all R a b c d e f z = subst (λ x. AllZip R x b) (sym e) (subst (AllZip R c) (sym f) z)

-- ---- all of it

pub one : OneSyntax → SettingsAreOne
one law entries others meta a b entries_same is is' =
    let types : a.sourcetype ≡ b.sourcetype = one_type entries others entries_same meta.sourcetype meta.source a.sourcetype b.sourcetype
    is.sourcetype is'.sourcetype in
    let same : (key : List ℕ) → SameChoice (is.set key) (is'.set key) = same_set entries others entries_same meta a b is is' types in
    let truncate : a.truncate ≡ b.truncate = is.truncate ∙ counts is.set is'.set same 10_000 (codes "TRUNCATE") ∙ sym is'.truncate in
    record {
      breaker = one_breaker law (is.set (codes "LINE_BREAKER")) (is'.set (codes "LINE_BREAKER")) a.breaker b.breaker
          (same (codes "LINE_BREAKER")) is.breaker is'.breaker;
      merge = one_merge is.set is'.set same a.merge b.merge is.merge is'.merge;
      time = one_time is.set is'.set same a.time b.time is.time is'.time;
      seds = moved_all IsSameSed a.seds b.seds (changes is.seds.0) (changes is'.seds.0) is.seds.2 is'.seds.2
          (all_changes is.seds.0 is'.seds.0 (same_classes is.set is'.set same (codes "SEDCMD-") is.seds.0 is'.seds.0 is.seds.1 is'.seds.1));
      transforms = moved_all IsSameTransform a.transforms b.transforms (chain is.transforms.0) (chain is'.transforms.0) is.transforms.2
          is'.transforms.2
          (all_transforms is.transforms.0 is'.transforms.0
          (same_classes is.set is'.set same (codes "TRANSFORMS-") is.transforms.0 is'.transforms.0 is.transforms.1 is'.transforms.1));
      others = λ i. record {
        sourcetype = types i;
        breaker = a.breaker;
        truncate = truncate i;
        merge = a.merge;
        time = a.time;
        seds = a.seds;
        transforms = a.transforms;
      };
    }
