-- The rank of a stanza is judged by the pattern that its own entry has.
use Rattle.std.proofs.Common.{◌≡◌, ℕ, ℤ, inl, inr, Bool, true, false, List, Some, None, refl, sym, ap, ◌∙◌, subst, codes}
use Rattle.std.specs.Prelude.{Option, Result, IfOk}
use Rattle.std.specs.Option.{unwrap_or}
use Rattle.std.proofs.lemmas.Result.{IfOk-weaker}
use Rattle.ix_conf.specs.Names.{NameRule, FitsRule, tokens}
use Rattle.ix_props.specs.Choice.{priority_or}
use Rattle.ix_props.specs.Kinds.{behind}
use Rattle.ix_props.specs.Ranking.{FitsEither, IsRankIf, IsRankBy, behind_or}
use Rattle.ix_props.specs.Values.{IsStanza}
use Rattle.ix_props.specs.declared.ranks.Nearness.{Nearness}
use Rattle.ix_props.specs.declared.ranks.Nearness.TheVariants.{Source, Host}
use Rattle.ix_props.specs.declared.ranks.Rank.{Rank}
use Rattle.ix_props.specs.declared.values.Value.{Value}
use Rattle.ix_props.specs.declared.values.Value.TheVariants as value
use Rattle.ix_props.proofs.RankLemmas.{apart}

abbrev rule_at : Bool → List ℕ → NameRule
rule_at fold text = record { tokens = tokens text; fold = fold }

abbrev rank_at : Nearness → Option ℤ → List ℕ → Option (List ℕ) → Rank
rank_at nearness stated stanza found = record { nearness = nearness; priority = priority_or stated (unwrap_or found stanza) }

-- the text that the pattern was read of
record IsOwn (found : Option (List ℕ)) (fold : Bool) (rule : NameRule) : Type 0 where
  text : List ℕ
  is_behind : found ≡ Some text
  rule_is : rule ≡ rule_at fold text

own_source : (front back : Option (List ℕ)) (rule : NameRule) → IsStanza front back (value.Source rule) → IsOwn front false rule
own_source (Some text) back rule is = record { text = text; is_behind = refl; rule_is = is.0 }
own_source None (Some text) rule is = absurd is
own_source None None rule is = absurd (cc)

own_host : (front back : Option (List ℕ)) (rule : NameRule) → IsStanza front back (value.Host rule) → IsOwn back true rule
own_host (Some text) back rule is = absurd is
own_host None (Some text) rule is = record { text = text; is_behind = refl; rule_is = is.0 }
own_host None None rule is = absurd (cc)

same_text : (a b : List ℕ) → Some a ≡ Some b → a ≡ b
same_text a b is = cc

-- what fits such a pattern fits the stanza's own
fits_own : (found : Option (List ℕ)) (fold : Bool) (rule : NameRule) (name text : List ℕ) → IsOwn found fold rule → found ≡ Some text →
    FitsRule (rule_at fold text) name → FitsRule rule name
fits_own found fold rule name text own is fits =
    subst (λ r. FitsRule r name) (ap (rule_at fold) (same_text text own.text (sym is ∙ own.is_behind)) ∙ sym own.rule_is) fits

no_source : (stated : Option ℤ) (source host stanza : List ℕ) (rule : NameRule) → IsOwn (behind (codes "source::") stanza) false rule →
    (FitsRule rule source → ⊥) →
    (rank : Rank) → FitsEither stated source host stanza rank → ⊥
no_source stated source host stanza rule own none rank (inl by) =
    none (fits_own (behind (codes "source::") stanza) false rule source by.text own by.is_behind by.fits)
no_source stated source host stanza rule own none rank (inr by) = apart stanza own.text by.text own.is_behind by.is_behind

no_host : (stated : Option ℤ) (source host stanza : List ℕ) (rule : NameRule) → IsOwn (behind (codes "host::") stanza) true rule →
    (FitsRule rule host → ⊥) →
    (rank : Rank) → FitsEither stated source host stanza rank → ⊥
no_host stated source host stanza rule own none rank (inl by) = apart stanza by.text own.text by.is_behind own.is_behind
no_host stated source host stanza rule own none rank (inr by) =
    none (fits_own (behind (codes "host::") stanza) true rule host by.text own by.is_behind by.fits)

source_rank : (stated : Option ℤ) (source host stanza : List ℕ) (rule : NameRule) →
    IsStanza (behind (codes "source::") stanza) (behind (codes "host::") stanza) (value.Source rule) →
    (rank : Option Rank) → IsRankIf Source (priority_or stated (behind_or (codes "source::") stanza)) rule source rank →
    IsRankBy stated source host stanza rank
source_rank stated source host stanza rule is (Some rank) fits =
    let own = own_source (behind (codes "source::") stanza) (behind (codes "host::") stanza) rule is in
    inl (record {
      text = own.text;
      is_behind = own.is_behind;
      fits = subst (λ r. FitsRule r source) own.rule_is fits.0;
      rank_is = fits.1 ∙ ap (rank_at Source stated stanza) own.is_behind;
    })
source_rank stated source host stanza rule is None none =
    no_source stated source host stanza rule (own_source (behind (codes "source::") stanza) (behind (codes "host::") stanza) rule is) none

host_rank : (stated : Option ℤ) (source host stanza : List ℕ) (rule : NameRule) →
    IsStanza (behind (codes "source::") stanza) (behind (codes "host::") stanza) (value.Host rule) →
    (rank : Option Rank) → IsRankIf Host (priority_or stated (behind_or (codes "host::") stanza)) rule host rank →
    IsRankBy stated source host stanza rank
host_rank stated source host stanza rule is (Some rank) fits =
    let own = own_host (behind (codes "source::") stanza) (behind (codes "host::") stanza) rule is in
    inr (record {
      text = own.text;
      is_behind = own.is_behind;
      fits = subst (λ r. FitsRule r host) own.rule_is fits.0;
      rank_is = fits.1 ∙ ap (rank_at Host stated stanza) own.is_behind;
    })
host_rank stated source host stanza rule is None none =
    no_host stated source host stanza rule (own_host (behind (codes "source::") stanza) (behind (codes "host::") stanza) rule is) none

pub source_ranked : {E : Type 0} (result : Result (Option Rank) E) (stated : Option ℤ) (source host stanza : List ℕ) (v : Value)
    (rule : NameRule) →
    IfOk result (λ rank. IsRankIf Source (priority_or stated (behind_or (codes "source::") stanza)) rule source rank) →
    v ≡ value.Source rule →
    IsStanza (behind (codes "source::") stanza) (behind (codes "host::") stanza) v →
    IfOk result (λ rank. IsRankBy stated source host stanza rank)
source_ranked result stated source host stanza v rule told is sound =
    IfOk-weaker result (λ rank. IsRankIf Source (priority_or stated (behind_or (codes "source::") stanza)) rule source rank)
    (λ rank. IsRankBy stated source host stanza rank)
    (λ rank fits. source_rank stated source host stanza rule
    (subst (λ x. IsStanza (behind (codes "source::") stanza) (behind (codes "host::") stanza) x) is sound) rank fits)
    told

pub host_ranked : {E : Type 0} (result : Result (Option Rank) E) (stated : Option ℤ) (source host stanza : List ℕ) (v : Value)
    (rule : NameRule) →
    IfOk result (λ rank. IsRankIf Host (priority_or stated (behind_or (codes "host::") stanza)) rule host rank) → v ≡ value.Host rule →
    IsStanza (behind (codes "source::") stanza) (behind (codes "host::") stanza) v →
    IfOk result (λ rank. IsRankBy stated source host stanza rank)
host_ranked result stated source host stanza v rule told is sound =
    IfOk-weaker result (λ rank. IsRankIf Host (priority_or stated (behind_or (codes "host::") stanza)) rule host rank)
    (λ rank. IsRankBy stated source host stanza rank)
    (λ rank fits. host_rank stated source host stanza rule
    (subst (λ x. IsStanza (behind (codes "source::") stanza) (behind (codes "host::") stanza) x) is sound) rank fits)
    told
