-- No key has two values.
use Rattle.std.proofs.Common.{◌≡◌, ◌≢◌, ℕ, List, Some, None, refl, sym, ap, ◌∙◌, IsSome, Ordering}
use Rattle.std.specs.Prelude.{Option}
use Rattle.std.specs.declared.cmp.Ordering.TheVariants.{Less, Equal, Greater}
use Rattle.std.specs.Ordering.{nat_cmp, int_cmp, ordering_then, ordering_reverse}
use Rattle.std.specs.Cmp.Lexicographic.{slice_cmp}
use Rattle.std.proofs.lemmas.Map.Lookups.{exact_bytes}
use Rattle.ix_props.specs.Choice.{value_in, step_of, order, IsFirst, IsChosen}
use Rattle.ix_props.specs.declared.props.PropsEntry.{PropsEntry}
use Rattle.ix_props.specs.declared.ranks.Rank.{Rank}
use Rattle.ix_props.specs.declared.values.Value.{Value}
use Rattle.ix_props.proofs.OrderLemmas.{Place, order_total}

tied : (o p : Ordering) → o ≡ ordering_reverse p → o ≢ Greater → p ≢ Greater → o ≡ Equal
tied Less Less is a b = absurd (cc)
tied Less Equal is a b = absurd (cc)
tied Less Greater is a b = absurd (b refl)
tied Equal p is a b = refl
tied Greater p is a b = absurd (a refl)

last_tied : (x y z : Ordering) → ordering_then x (ordering_then y z) ≡ Equal → z ≡ Equal
last_tied Equal Equal z is = is
last_tied Equal Less z is = absurd (cc)
last_tied Equal Greater z is = absurd (cc)
last_tied Less y z is = absurd (cc)
last_tied Greater y z is = absurd (cc)

same_stanza : (a b : Place) → order a b ≢ Greater → order b a ≢ Greater → a.0 ≡ b.0
same_stanza a b h g =
    let equal : order a b ≡ Equal = tied (order a b) (order b a) (order_total.antisymm a b) h g in
    exact_bytes a.0 b.0
    (last_tied (nat_cmp (step_of a.1.nearness) (step_of b.1.nearness)) (int_cmp b.1.priority a.1.priority) (slice_cmp nat_cmp a.0 b.0)
    equal)

one_first : (entries : List PropsEntry) (H : List ℕ → Rank → Type 0) (key : List ℕ) (v w : Value) → IsFirst entries H key v →
    IsFirst entries H key w →
    Some v ≡ Some w
one_first entries H key v w a b =
    let there : IsSome (value_in a.stanza key entries) = rw a.has refl in
    let here : IsSome (value_in b.stanza key entries) = rw b.has refl in
    let same : a.stanza ≡ b.stanza = same_stanza (a.stanza, a.rank) (
      b.stanza,
      b.rank,
    ) (a.first b.stanza b.rank b.holds here) (b.first a.stanza a.rank a.holds there) in
    sym a.has ∙ ap (λ s. value_in s key entries) same ∙ b.has

pub one_chosen : (entries : List PropsEntry) (H : List ℕ → Rank → Type 0) (key : List ℕ) (found other : Option Value) →
    IsChosen entries H key found →
    IsChosen entries H key other → found ≡ other
one_chosen entries H key None None a b = refl
one_chosen entries H key (Some v) (Some w) a b = one_first entries H key v w a b
one_chosen entries H key None (Some w) a b = let never : None ≡ Some w = sym (a b.stanza b.rank b.holds) ∙ b.has in absurd (cc)
one_chosen entries H key (Some v) None a b = let never : None ≡ Some v = sym (b a.stanza a.rank a.holds) ∙ a.has in absurd (cc)
