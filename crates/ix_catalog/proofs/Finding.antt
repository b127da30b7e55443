-- An index is found by its name.
use Rattle.std.proofs.Common.{◌≡◌, ℕ, zero, suc, ◌<◌, List, [], ◌∷◌, Bool, true, false, if◌then◌else◌, Some, sym, ap, ◌∙◌, length, get_or}
use Rattle.std.proofs.Common.{arith}
use Rattle.std.specs.Prelude.{bytes_eq}
use Rattle.std.specs.declared.cmp.Ordering.TheVariants.{Less}
use Rattle.std.specs.Cmp.Lexicographic.{slice_cmp, texts_ties}
use Rattle.std.specs.List.{AllByRecursion}
use Rattle.std.specs.Ordering.{nat_cmp, is_eq}
use Rattle.std.proofs.lemmas.Slice.Eq.{bytes_eq-Decides}
use Rattle.ix_life.specs.declared.views.IndexView.{IndexView}
use Rattle.ix_catalog.specs.Changes.{NamesDiffer, AscendingDiffer}
use Rattle.ix_catalog.specs.Lists.{find}
use Rattle.ix_catalog.specs.Shelves.{view_name, buckets_of, buckets_in}

pub equal_names : (a b : List ℕ) → bytes_eq a b ≡ true → a ≡ b
equal_names a b h = (bytes_eq-Decides a b).0 h

pub found : (t : Bool) (name : List ℕ) (v : IndexView) (vs : List IndexView) → bytes_eq v.name name ≡ t →
    find view_name name (v ∷ vs) ≡ (if t then Some v else find view_name name vs)
found t name v vs is = ap (λ (t : Bool). if t then Some v else find view_name name vs) is

other_at : (name : List ℕ) (vs : List IndexView) (k : ℕ) (d : IndexView) →
    AllByRecursion (λ (w : IndexView). bytes_eq name w.name ≡ false) vs → k < length vs → bytes_eq name (get_or vs k d).name ≡ false
other_at name [] k d others within = absurd (omega (arith, within))
other_at name (v ∷ vs) zero d others within = others.0
other_at name (v ∷ vs) (suc k) d others within = other_at name vs k d others.1 (omega (arith, within))

-- where the index at a place has the name, that is the one
pub at_place : (vs : List IndexView) (k : ℕ) (d : IndexView) (name : List ℕ) → NamesDiffer vs → k < length vs →
    (get_or vs k d).name ≡ name → buckets_in name vs ≡ (get_or vs k d).buckets
at_place [] k d name differ within is = absurd (omega (arith, within))
at_place (v ∷ vs) zero d name differ within is = ap buckets_of (found true name v vs ((bytes_eq-Decides v.name name).1 is))
at_place (v ∷ vs) (suc k) d name differ within is =
    let short : k < length vs = omega (arith, within) in
    let other : bytes_eq v.name name ≡ false = ap (bytes_eq v.name) (sym is) ∙ other_at v.name vs k d differ.0 short in
    ap buckets_of (found false name v vs other) ∙ at_place vs k d name differ.1 short is

others_follow : (name : List ℕ) (vs : List IndexView) → AllByRecursion (λ (w : IndexView). slice_cmp nat_cmp name w.name ≡ Less) vs →
    AllByRecursion (λ (w : IndexView). bytes_eq name w.name ≡ false) vs
others_follow name [] less = tt
others_follow name (w ∷ ws) less = (texts_ties name w.name ∙ ap is_eq less.0, others_follow name ws less.1)

pub ascending_differ : AscendingDiffer
ascending_differ [] ascending = tt
ascending_differ (v ∷ vs) ascending = (others_follow v.name vs ascending.0, ascending_differ vs ascending.1)
