-- From what was read to the pattern.
use Rattle.std.proofs.Common.{◌≡◌, ℕ, ◌+◌, ◌≤◌, min, nat_lt, Bool, true, false, ◌||◌, List, [], ◌∷◌, length, Option, Some, None, zero, suc}
use Rattle.std.proofs.Common.{refl, sym, ◌∙◌, ap, subst, arith}
use Rattle.std.specs.Prelude.{◌==◌}
use Rattle.std.specs.Option.{is_some}
use Rattle.std.proofs.lemmas.Bool.Decides.{nat_tests}
use Rattle.std.proofs.lemmas.Bool.{ltb-false}
use Rattle.ix_pattern.specs.Rows.{Shape, tree, byte_pieces}
use Rattle.ix_pattern.specs.Tokens.{tokens_of}
use Rattle.ix_pattern.specs.Syntax.{Syntax, spelled, IsSpelledBy, groups, tree_of, weight_of, is_too_large, counts_high, depth}
use Rattle.ix_pattern.specs.Run.{level, State, state, run}
use Rattle.ix_pattern.specs.Frames.{IsFrame, IsReading, HasRead, ReadsAll, captures, leaves}
use Rattle.ix_pattern.specs.Parsed.{Read, Parses}
use Rattle.ix_pattern.specs.Reads.{IsPatternOf}
use Rattle.ix_pattern.specs.declared.reader.Reader.{Reader}
use Rattle.ix_pattern.specs.declared.tokens.Token.{Token}
use Rattle.ix_pattern.proofs.Grammar.{given-is-spelled, spelled-is-given}
use Rattle.ix_pattern.proofs.StepLemmas.{snoc-nil}
use Rattle.ix_pattern.proofs.ReadsLemmas.{captures-spelled, tokens-weigh, or-none}

spelled-so : (text : List ℕ) (ts : List Token) (s : Syntax) → Some ts ≡ tokens_of text → IsSpelledBy s text →
    run ts ≡ Some (state (level None s) [])
spelled-so text ts s e p =
    let same : ts ≡ spelled s = let f : Some ts ≡ Some (spelled s) = e ∙ p.tokens in cc in
    ap run same ∙ spelled-is-given s p.allowed

pub no-state : (text : List ℕ) (ts : List Token) (found : Option Reader) → Some ts ≡ tokens_of text → ReadsAll found ts → found ≡ None →
    (s : Syntax) → IsSpelledBy s text → ⊥
no-state text ts found e r n s p =
    let none : run ts ≡ None = subst (λ f. ReadsAll f ts) n r in
    let some = spelled-so text ts s e p in
    absurd (let f : None ≡ Some (state (level None s) []) = sym none ∙ some in cc)

final : (text : List ℕ) (ts : List Token) (reader : Reader) (s : Syntax) → Some ts ≡ tokens_of text → ReadsAll (Some reader) ts →
    IsSpelledBy s text →
    IsReading reader (state (level None s) [])
final text ts reader s e r p =
    let has = r.0.1 in
    let same : r.0.0 ≡ state (level None s) [] = let f : Some r.0.0 ≡ Some (state (level None s) []) = sym has.run
    ∙ spelled-so text ts s e p in cc in
    subst (IsReading reader) same has.reading

pub still-waits : (text : List ℕ) (ts : List Token) (found : Option Reader) (reader : Reader) → Some ts ≡ tokens_of text →
    ReadsAll found ts → found ≡ Some reader →
    is_some reader.here.waiting ≡ true → (s : Syntax) → IsSpelledBy s text → ⊥
still-waits text ts found reader e r is w s p =
    let f = final text ts reader s e (subst (λ o. ReadsAll o ts) is r) p in
    absurd (let g : is_some reader.here.waiting ≡ false = ap is_some f.0.waits in let h : true ≡ false = sym w ∙ g in cc)

pub still-open : (text : List ℕ) (ts : List Token) (found : Option Reader) (reader : Reader) → Some ts ≡ tokens_of text →
    ReadsAll found ts → found ≡ Some reader →
    (reader.outer.items ≡ [] → ⊥) → (s : Syntax) → IsSpelledBy s text → ⊥
still-open text ts found reader e r is w s p =
    let f = final text ts reader s e (subst (λ o. ReadsAll o ts) is r) p in
    w f.1

ends : (text : List ℕ) (ts : List Token) (reader : Reader) (st : State) → Some ts ≡ tokens_of text → HasRead reader ts st →
    reader.opened ≡ 0 →
    reader.work.groups ≡ captures ts → byte_pieces reader.work.rows ≤ leaves ts → reader.here.waiting ≡ None → reader.outer.items ≡ [] →
    (s : Syntax) × Read reader text s
ends text ts reader (state (level None s) []) e h z g b w o =
    let given = given-is-spelled ts (state (level None s) []) s h.run refl in (
      s,
      record {
        spelled = record { tokens = sym e ∙ ap Some (sym given.0); allowed = given.1 };
        came = record {
          frame = subst (λ n. IsFrame reader.work.rows n reader.here None s) z h.reading.0;
          counted = g ∙ ap captures (sym given.0) ∙ captures-spelled s;
          allowed = given.1;
          bytes = omega (arith, b, ap leaves (sym given.0), tokens-weigh s);
        };
      },
    )
ends text ts reader (state (level (Some times) s) levels) e h z g b w o =
    absurd (let v = h.reading.0.waits in let f : None ≡ Some times = sym w ∙ v in cc)
ends text ts reader (state (level None s) (level times t ∷ levels)) e h z g b w o =
    absurd (snoc-nil h.reading.1.0 h.reading.1.1 (sym h.reading.1.2 ∙ o))

pub parsed : (text : List ℕ) (ts : List Token) (found : Option Reader) (reader : Reader) → Some ts ≡ tokens_of text → ReadsAll found ts →
    found ≡ Some reader →
    reader.here.waiting ≡ None → reader.outer.items ≡ [] → (s : Syntax) × Read reader text s
parsed text ts found reader e r is w o =
    let all : ReadsAll (Some reader) ts = subst (λ f. ReadsAll f ts) is r in
    ends text ts reader all.0.0 e all.0.1 all.1 all.2 all.3 w o

-- ---- limits

over : (n m : ℕ) → nat_lt m (min n (m + 1)) ≡ nat_lt m n
over n m = grind (arith, nat_tests)

pub too-large : (high : Bool) (count deep weight : ℕ) (s : Syntax) → deep ≡ min (depth s) 65 → high ≡ counts_high s → count ≡ groups s →
    weight ≡ min (weight_of s) 200001 → (high || nat_lt 32 count || nat_lt 64 deep || nat_lt 200000 weight) ≡ is_too_large s
too-large high count deep weight s d h c w =
    rw (d, h, c, w) (ap (λ b. counts_high s || nat_lt 32 (groups s) || b || nat_lt 200000 (min (weight_of s) 200001)) (over (depth s) 64)
    ∙ ap (λ b. counts_high s || nat_lt 32 (groups s) || nat_lt 64 (depth s) || b) (over (weight_of s) 200000))

pub parses-some : (text : List ℕ) (found : Option Reader) (reader : Reader) → found ≡ Some reader → Parses found text → (s : Syntax)
    × Read reader text s
parses-some text found reader is p = subst (λ f. Parses f text) is p

-- ---- the pattern

pub weight-small : (s : Syntax) → is_too_large s ≡ false → weight_of s ≤ 200000
weight-small s e =
    let all = or-none (counts_high s || nat_lt 32 (groups s) || nat_lt 64 (depth s)) (nat_lt 200000 (weight_of s)) e in
    ltb-false 200000 (weight_of s) all.1

pub groups-few : (s : Syntax) → is_too_large s ≡ false → groups s ≤ 32
groups-few s e =
    let all = or-none (counts_high s || nat_lt 32 (groups s) || nat_lt 64 (depth s)) (nat_lt 200000 (weight_of s)) e in
    let most = or-none (counts_high s || nat_lt 32 (groups s)) (nat_lt 64 (depth s)) all.0 in
    let groups_few = or-none (counts_high s) (nat_lt 32 (groups s)) most.0 in
    ltb-false 32 (groups s) groups_few.1

pub pattern-is : (shape made : Shape) (s : Syntax) → shape ≡ made → tree made.rows ≡ tree_of s → made.groups ≡ groups s →
    made.weight ≡ min (weight_of s) 200001 → is_too_large s ≡ false → IsPatternOf s shape
pattern-is shape made s is t g w small =
    let least = weight-small s small in
    subst (IsPatternOf s) (sym is) (record { tree_is = t; groups_are = g; weight_is = omega (arith, w, least) })

pub not-empty : (n : ℕ) → false ≡ (n == 0) → n ≡ 0 → ⊥
not-empty zero e z = absurd (cc)
not-empty (suc n) e z = absurd (omega arith)

pub emptied : {A : Type 0} (xs : List A) → true ≡ (length xs == 0) → xs ≡ []
emptied [] e = refl
emptied (x ∷ xs) e = absurd (grind (arith, nat_tests))
