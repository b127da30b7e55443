-- The lines of events, one list behind the other.
use Rattle.std.proofs.Common.{◌≡◌, ℕ, ◌+◌, List, [], ◌∷◌, ◌++◌, length, Bool, true, false, cond, Option, sym, ap, subst, ◌∙◌, arith}
use Rattle.std.proofs.Common.{length-append}
use Rattle.std.proofs.lemmas.List.{append-nil}
use Rattle.std.proofs.lemmas.List.Concat.{flat_map-append}
use Rattle.std.proofs.lemmas.List.Elements.{filter-append}
use Rattle.ix_export.specs.EventLine.{line, lines}
use Rattle.ix_base.specs.Told.{HasWritten, HasBegun}
use Rattle.ix_base.specs.declared.events.Event.{Event}
use Rattle.ix_base.specs.declared.events.Range.{Range}
use Rattle.ix_base.proofs.ToldLemmas.{then_written, then_begun, begun_of_more, nothing_written}
use Rattle.ix_export.specs.Lines.{is_within, within, text, capped, HasExported}

pub within_append : (range : Range) (a b : List Event) → within range (a ++ b) ≡ within range a ++ within range b
within_append range a b = filter-append (is_within range) a b

pub text_append : (range : Range) (a b : List Event) → text range (a ++ b) ≡ text range a ++ text range b
text_append range a b = ap lines (within_append range a b) ∙ flat_map-append line (within range a) (within range b)

-- no events have no lines
pub nothing_exported : (range : Range) (given : Option (List ℕ)) (count : ℕ) → HasExported range [] given count given count
nothing_exported range given count = record { written = nothing_written given; counted = λ n is. omega (arith, is) }

pub exported_more : (range : Range) (a b : List Event) (x y z : Option (List ℕ)) (n m k : ℕ) → HasExported range a x n y m →
    HasExported range b y m z k → HasExported range (a ++ b) x n z k
exported_more range a b x y z n m k p q =
    let sizes : length (within range (a ++ b)) ≡ length (within range a) + length (within range b) = ap length (within_append range a b)
    ∙ length-append (within range a) (within range b) in
    record {
      written = subst (λ (l : List ℕ). HasWritten l x z) (sym (text_append range a b)) (then_written p.written q.written);
      counted = λ i is. omega (arith, sizes, q.counted (i + length (within range a)) (p.counted i is));
    }

-- a front of the lines of later events, behind those of earlier ones
pub then_front : (range : Range) (a b : List Event) (x y z : Option (List ℕ)) → HasWritten (text range a) x y →
    HasBegun (text range b) y z → HasBegun (text range (a ++ b)) x z
then_front range a b x y z p q = subst (λ (l : List ℕ). HasBegun l x z) (sym (text_append range a b)) (then_begun p q)

-- a front of the lines of these events is one of the lines of more
pub front_of_more : (range : Range) (a b : List Event) (x y : Option (List ℕ)) → HasBegun (text range a) x y →
    HasBegun (text range (a ++ b)) x y
front_of_more range a b x y p = subst (λ (l : List ℕ). HasBegun l x y) (sym (text_append range a b)) (begun_of_more (text range b) p)

-- an event out of the range has no line
pub outside : (range : Range) (event : Event) (given : Option (List ℕ)) (count : ℕ) → is_within range event ≡ false →
    HasExported range (event ∷ []) given count given count
outside range event given count is =
    let none : within range (event ∷ []) ≡ [] = ap (λ (b : Bool). cond b (event ∷ []) []) is in
    let size : length (within range (event ∷ [])) ≡ 0 = ap length none in
    record {
      written = subst (λ (l : List Event). HasWritten (lines l) given given) (sym none) (nothing_written given);
      counted = λ n start. omega (arith, size, start);
    }

-- one within it has its own
pub inside : (range : Range) (event : Event) (x y : Option (List ℕ)) (count count' : ℕ) → is_within range event ≡ true →
    HasWritten (line event) x y → count' ≡ capped (count + 1)
    → HasExported range (event ∷ []) x count y count'
inside range event x y count count' is written counted =
    let one : within range (event ∷ []) ≡ event ∷ [] = ap (λ (b : Bool). cond b (event ∷ []) []) is in
    let size : length (within range (event ∷ [])) ≡ 1 = ap length one in
    record {
      written = subst (λ (l : List ℕ). HasWritten l x y) (sym (append-nil (line event)) ∙ ap lines (sym one)) written;
      counted = λ n start. omega (arith, size, start, counted);
    }
