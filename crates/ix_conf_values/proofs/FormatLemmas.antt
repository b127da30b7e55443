-- A format's text is read one byte after the other.
use Rattle.std.proofs.Common.{◌≡◌, ◌∙◌, true, false, ℕ, suc, ◌+◌, ◌≤◌, ◌<◌, List, [], ◌++◌, get_or, drop, length, Option, Some, None, refl}
use Rattle.std.proofs.Common.{add-one, append_assoc, append-nil}
use Rattle.std.specs.Option.{option_map}
use Rattle.std.specs.Prelude.{is_some}
use Rattle.ix_conf_values.specs.declared.formats.Place.TheVariants.{Plain, InSpace, Percent, Width}
use Rattle.std.proofs.Math.Seq.{drop-cons}
use Rattle.std.proofs.Math.ListN.{drop_of_length-le}
use Rattle.ix_conf_values.specs.declared.formats.Directive.{Directive}
use Rattle.ix_conf_values.specs.declared.formats.Place.{Place}
use Rattle.ix_conf_values.specs.Formats.{directives, step, at_end}

-- a byte that is refused
pub stops : (text : List ℕ) (i d : ℕ) (place : Place) (before : List Directive) → i < length text → None ≡ step place (get_or text i d) →
    option_map (λ ds. before ++ ds) (directives place (drop i text)) ≡ None
unfolding directives
stops text i d place before here none = rw (drop-cons text i d, ← none) refl

-- what stands before goes on
joined : (before added : List Directive) (rest : Option (List Directive)) →
    option_map (λ ds. before ++ ds) (option_map (λ ds. added ++ ds) rest) ≡ option_map (λ ds. (before ++ added) ++ ds) rest
joined before added None = refl
joined before added (Some ds) = simp append_assoc

-- a byte that is read
pub goes_on : (text : List ℕ) (i d : ℕ) (place next : Place) (before added : List Directive) → i < length text →
    Some (next, added) ≡ step place (get_or text i d) →
    option_map (λ ds. before ++ ds) (directives place (drop i text)) ≡ option_map (λ ds. (before ++ added)
    ++ ds) (directives next (drop (i + 1) text))
unfolding directives
goes_on text i d place next before added here some =
    rw (drop-cons text i d, ← some, add-one) (joined before added (directives next (drop (suc i) text)))

-- no byte is left
pub ends : (text : List ℕ) (i : ℕ) (place : Place) (before : List Directive) → length text ≤ i →
    option_map (λ ds. before ++ ds) (directives place (drop i text)) ≡ option_map (λ ds. before ++ ds) (at_end place)
unfolding directives
ends text i place before past = rw (drop_of_length-le text past) refl

-- where a format may end
ended : (place : Place) → is_some (at_end place) ≡ true → at_end place ≡ Some []
ended Plain h = refl
ended InSpace h = refl
ended Percent h = cc
ended (Width digits) h = cc

begun : (place : Place) → is_some (at_end place) ≡ false → at_end place ≡ None
begun Plain h = cc
begun InSpace h = cc
begun Percent h = refl
begun (Width digits) h = refl

pub closed : (text : List ℕ) (i : ℕ) (place : Place) (before : List Directive) → length text ≤ i → is_some (at_end place) ≡ true →
    option_map (λ ds. before ++ ds) (directives place (drop i text)) ≡ Some before
closed text i place before past h = ends text i place before past ∙ (rw (ended place h, append-nil before) refl)

pub unclosed : (text : List ℕ) (i : ℕ) (place : Place) (before : List Directive) → length text ≤ i → is_some (at_end place) ≡ false →
    option_map (λ ds. before ++ ds) (directives place (drop i text)) ≡ None
unclosed text i place before past h = ends text i place before past ∙ (rw (begun place h) refl)
