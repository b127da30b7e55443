-- Places that are passed over.
use Rattle.std.proofs.Common.{◌≡◌, inl, inr, ℕ, ◌+◌, ◌-◌, ◌<◌, ◌≤◌, ◌⊎◌, Bool, true, false, nat_lt, List, [], length, get_or, take, drop}
use Rattle.std.proofs.Common.{Option, Some, None, refl, sym, ◌∙◌, ap, subst, arith}
use Rattle.std.specs.Prelude.{slice_get, take_while, not}
use Rattle.std.specs.List.{prefix_len}
use Rattle.std.proofs.lemmas.List.{length-drop, length-take-le, get_or-drop, take_rest}
use Rattle.std.proofs.lemmas.List.Sums.{prefix_len-le-length, prefix_len_passes}
use Rattle.std.proofs.lemmas.Option.{slice_get-get_or}
use Rattle.memchr.specs.Find.{OccursAt, Nowhere, NoneBefore, FindsNeedle}
use Rattle.ix_pattern.specs.Piece.{in_set}
use Rattle.ix_pattern.specs.Rows.{Shape, tree}
use Rattle.ix_match.specs.Fronts.{anchored, fronts, in_one, IsCandidate}
use Rattle.ix_match.specs.Leads.{AreBytes, EachBegins}
use Rattle.ix_match.specs.Matches.{ways_from}
use Rattle.ix_match.specs.Prefilters.{may_be_first, AreFirst}
use Rattle.ix_match.proofs.FrontLemmas.{none-behind}

-- ---- a search behind a place

occurs-behind : (text bytes : List ℕ) (place k : ℕ) → place ≤ k → place ≤ length text → OccursAt text bytes k →
    OccursAt (drop place text) bytes (k - place)
occurs-behind text bytes place k low within o =
    record {
      fits = (let f = o.fits in omega (arith, f, length-drop place text));
      reads = λ j less.
          (let same : place + (k - place + j) ≡ k + j = omega (arith, low) in
          get_or-drop place text (k - place + j) 0 ∙ ap (λ (n : ℕ). get_or text n 0) same ∙ o.reads j less);
    }

occurs-from : (text bytes : List ℕ) (place n : ℕ) → place ≤ length text → OccursAt (drop place text) bytes n →
    OccursAt text bytes (place + n)
occurs-from text bytes place n within o =
    record {
      fits = (let f = o.fits in omega (arith, f, length-drop place text));
      reads = λ j less.
          (let same : place + n + j ≡ place + (n + j) = omega arith in
          ap (λ (i : ℕ). get_or text i 0) same ∙ sym (get_or-drop place text (n + j) 0) ∙ o.reads j less);
    }

-- it stands at no place
pub none-behind-place : (text hay bytes : List ℕ) (place : ℕ) → place ≤ length text → hay ≡ drop place text →
    Nowhere (OccursAt hay bytes) 0 (length hay + 1) →
    Nowhere (OccursAt text bytes) place (length text + 1)
none-behind-place text hay bytes place within is none k low high o =
    none (k - place) (omega arith) (omega (arith, low, high, within, ap length is, length-drop place text))
    (subst (λ (h : List ℕ). OccursAt h bytes (k - place)) (sym is) (occurs-behind text bytes place k low within o))

-- it stands first at this one
pub first-behind-place : (text hay bytes : List ℕ) (place n : ℕ) → place ≤ length text → hay ≡ drop place text →
    NoneBefore (OccursAt hay bytes) 0 (length hay + 1) n × OccursAt hay bytes n →
    NoneBefore (OccursAt text bytes) place (length text + 1) (place + n) × OccursAt text bytes (place + n)
first-behind-place text hay bytes place n within is found = (
  record {
    low = omega arith;
    high = (let h = found.0.high in omega (arith, h, within, ap length is, length-drop place text));
    before = λ k low high o.
        found.0.before (k - place) (omega arith) (omega (arith, low, high))
        (subst (λ (h : List ℕ). OccursAt h bytes (k - place)) (sym is) (occurs-behind text bytes place k low within o));
  },
  occurs-from text bytes place n within (subst (λ (h : List ℕ). OccursAt h bytes n) is found.1),
)

-- ---- the bytes with which every match begins

no-way : (p : Shape) (text bytes : List ℕ) (k : ℕ) → EachBegins p bytes → AreBytes text → k ≤ length text → (OccursAt text bytes k → ⊥) →
    ways_from p text k ≡ []
no-way p text bytes k each are within none = by (each text k are within)
  where
    by : (ways_from p text k ≡ []) ⊎ OccursAt text bytes k → ways_from p text k ≡ []
    by (inl e) = e
    by (inr o) = absurd (none o)

pub literal-candidate : (p : Shape) (text bytes : List ℕ) (place : ℕ) (found : Option ℕ) → EachBegins p bytes → AreBytes text →
    FindsNeedle text bytes place found →
    IsCandidate p text place found
literal-candidate p text bytes place None each are none =
    λ k low high. no-way p text bytes k each are high (none k low (omega (arith, high)))
literal-candidate p text bytes place (Some at) each are found =
    let high = found.0.high in (
      found.0.low,
      omega (arith, high),
      λ k low less. no-way p text bytes k each are (omega (arith, less, high)) (found.0.before k low less),
    )

-- ---- the bytes that a match may take first

not-true : (b : Bool) → not b ≡ true → b ≡ false
not-true true e = grind (arith, e)
not-true false e = refl

over-length : (test : ℕ → Bool) (text hay : List ℕ) (place n : ℕ) → hay ≡ drop place text → n ≡ length (take_while test hay) →
    n ≡ prefix_len test hay
over-length test text hay place n is e = e ∙ length-take-le (prefix_len test hay) hay (prefix_len-le-length test hay)

pub over-within : (test : ℕ → Bool) (text : List ℕ) (place n : ℕ) → place ≤ length text →
    n ≡ length (take_while test (take (length text - place) (drop place text))) →
    place + n ≤ length text
over-within test text place n within e =
    let hay = take (length text - place) (drop place text) in
    let is : hay ≡ drop place text = take_rest text place in
    omega (arith, over-length test text hay place n is e, prefix_len-le-length test hay, ap length is, length-drop place text, within)

pub over-none : (p : Shape) (first : List Bool) (text : List ℕ) (place n : ℕ) → AreFirst p first → AreBytes text → place ≤ length text →
    n ≡ length (take_while (λ b. not (in_set first b)) (take (length text - place) (drop place text))) →
    (k : ℕ) → place ≤ k → k < place + n → in_one (slice_get text k) (fronts (tree p.rows)) ≡ false
unfolding may_be_first
over-none p first text place n are bytes within e k low high =
    let test : ℕ → Bool = λ b. not (in_set first b) in
    let hay = take (length text - place) (drop place text) in
    let is : hay ≡ drop place text = take_rest text place in
    let j : ℕ = k - place in
    let less : j < prefix_len test hay = omega (arith, low, high, over-length test text hay place n is e) in
    let same : place + j ≡ k = omega (arith, low) in
    let read : get_or hay j 0 ≡ get_or text k 0 =
    ap (λ (h : List ℕ). get_or h j 0) is ∙ get_or-drop place text j 0 ∙ ap (λ (i : ℕ). get_or text i 0) same in
    let out : in_set first (get_or text k 0) ≡ false =
    ap (in_set first) (sym read) ∙ not-true (in_set first (get_or hay j 0)) (prefix_len_passes test hay j 0 less) in
    ap (λ (o : Option ℕ). in_one o (fronts (tree p.rows)))
    (slice_get-get_or text k 0 (omega (arith, high, over-within test text place n within e)))
    ∙ sym (are (get_or text k 0) (bytes k)) ∙ out

-- ---- the text's start

pub anchored-candidate : (p : Shape) (text : List ℕ) (place at : ℕ) → anchored (tree p.rows) ≡ true → 0 < at →
    IsCandidate p text place (Some at) → IsCandidate p text place None
anchored-candidate p text place at a some c k low high = by (nat_lt k at) refl
  where
    by : (t : Bool) → nat_lt k at ≡ t → ways_from p text k ≡ []
    by true e = c.2 k low (let lt : k < at = grind (arith, e) in lt)
    by false e = let le : at ≤ k = grind (arith, e) in none-behind p text k a (omega (arith, le, some)) high
