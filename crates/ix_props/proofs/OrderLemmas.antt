-- The order of stanzas is total.
use Rattle.std.proofs.Common.{◌≡◌, ◌≢◌, ℕ, false, List, refl, ap, Ordering}
use Rattle.std.specs.declared.cmp.Ordering.TheVariants.{Less, Equal, Greater}
use Rattle.std.specs.Ordering.{is_gt, ordering_reverse}
use Rattle.std.specs.Cmp.{IsTotalOrder}
use Rattle.std.proofs.lemmas.Cmp.{then_total, on_total, back_total, nat_cmp_total, int_cmp_total, nat_list_cmp_total, tied_itself, upto}
use Rattle.std.proofs.lemmas.Bool.{true≢false}
use Rattle.ix_props.specs.Choice.{step_of, order}
use Rattle.ix_props.specs.declared.ranks.Rank.{Rank}

abbrev pub Place : Type 0
Place = List ℕ × Rank

pub order_total : IsTotalOrder order
order_total =
    then_total (on_total (λ (a : Place). step_of a.1.nearness) nat_cmp_total)
    (then_total (on_total (λ (a : Place). a.1.priority) (back_total int_cmp_total)) (on_total (λ (a : Place). a.0) nat_list_cmp_total))

pub not_greater : (o : Ordering) → is_gt o ≡ false → o ≢ Greater
not_greater Less h e = cc
not_greater Equal h e = cc
not_greater Greater h e = absurd (true≢false h)

pub at_most : (o : Ordering) → o ≢ Greater → is_gt o ≡ false
at_most Less h = refl
at_most Equal h = refl
at_most Greater h = absurd (h refl)

pub itself : (a : Place) → order a a ≢ Greater
itself a = not_greater (order a a) (ap is_gt (tied_itself order_total a))

pub not_greater_trans : (a b c : Place) → order a b ≢ Greater → order b c ≢ Greater → order a c ≢ Greater
not_greater_trans a b c h g = not_greater (order a c) (upto order_total a b c (at_most (order a b) h) (at_most (order b c) g))

turned : (o p : Ordering) → o ≡ ordering_reverse p → p ≡ Greater → o ≢ Greater
turned o Less h g = cc
turned o Equal h g = cc
turned o Greater h g = λ e. cc

-- what is greater than another has that one before it
pub back : (a b : Place) → order a b ≡ Greater → order b a ≢ Greater
back a b g = turned (order b a) (order a b) (order_total.antisymm b a) g
