-- The reader of tokens gives the syntax that they spell, and only where there is none it gives
-- none.
use Rattle.std.proofs.Common.{◌≡◌, Bool, true, false, ◌&&◌, if◌then◌else◌, List, [], ◌∷◌, ◌++◌, Option, Some, None, refl, sym, ◌∙◌, ap}
use Rattle.std.proofs.Common.{subst, append_assoc, append-nil}
use Rattle.ix_pattern.specs.declared.tokens.Repeat.{Repeat}
use Rattle.ix_pattern.specs.declared.tokens.Opening.{Opening}
use Rattle.ix_pattern.specs.declared.tokens.Token.{Token}
use Rattle.ix_pattern.specs.declared.tokens.Token.TheVariants.{Leaf, Open, Close, Bar, Count}
use Rattle.ix_pattern.specs.Tokens.{◌>>=◌}
use Rattle.ix_pattern.specs.Syntax.{Syntax, done, bar, leaf, paren, spelled, spelled_count, may_hold, is_plain, is_allowed}
use Rattle.ix_pattern.specs.Run.{Level, level, State, state, opened_level, step, run, syntax_of}

and-first : (a b : Bool) → (a && b) ≡ true → a ≡ true
and-first true b e = refl
and-first false b e = e

and-second : (a b : Bool) → (a && b) ≡ true → b ≡ true
and-second true b e = e
and-second false b e = absurd (cc)

run-count : (times : Option Repeat) (ts : List Token) (s : Syntax) (outer : List Level) → run ts ≡ Some (state (level None s) outer) →
    run (spelled_count times ++ ts) ≡ Some (state (level times s) outer)
run-count None ts s outer e = e
run-count (Some repeat) ts s outer e = ap (λ o. o >>= step (Count repeat)) e

pub runs : (s : Syntax) (ts : List Token) (outer : List Level) → is_allowed s ≡ true → run ts ≡ Some (state (level None done) outer) →
    run (spelled s ++ ts) ≡ Some (state (level None s) outer)
runs done ts outer a e = e
runs (bar rest) ts outer a e = ap (λ o. o >>= step Bar) (runs rest ts outer a e)
runs (leaf l times rest) ts outer a e =
    ap (λ o. o >>= step (Leaf l))
    (ap run (append_assoc (spelled_count times) (spelled rest) ts)
    ∙ run-count times (spelled rest ++ ts) rest outer (runs rest ts outer a e))
runs (paren opening inside times rest) ts outer a e =
    let holds : may_hold opening (is_plain inside) ≡ true =
    and-first (may_hold opening (is_plain inside)) (is_allowed inside)
    (and-first (may_hold opening (is_plain inside) && is_allowed inside) (is_allowed rest) a) in
    let within : is_allowed inside ≡ true = and-second (may_hold opening (is_plain inside)) (is_allowed inside)
    (and-first (may_hold opening (is_plain inside) && is_allowed inside) (is_allowed rest) a) in
    let behind : run (spelled_count times ++ (spelled rest ++ ts)) ≡ Some (state (level times rest) outer) =
    run-count times (spelled rest ++ ts) rest outer (runs rest ts outer
    (and-second (may_hold opening (is_plain inside) && is_allowed inside) (is_allowed rest) a) e) in
    let closed : run (Close ∷ (spelled_count times ++ (spelled rest ++ ts))) ≡ Some (state (level None done) (level times rest ∷ outer)) =
    ap (λ o. o >>= step Close) behind in
    let opens : run (spelled inside ++ Close ∷ (spelled_count times ++ (spelled rest ++ ts))) ≡ Some
    (state (level None inside) (level times rest ∷ outer)) =
    runs inside (Close ∷ (spelled_count times ++ (spelled rest ++ ts))) (level times rest ∷ outer) within closed in
    let regrouped : (spelled inside ++ Close ∷ (spelled_count times ++ spelled rest)) ++ ts ≡ spelled inside ++ Close
    ∷ (spelled_count times ++ (spelled rest ++ ts)) =
    append_assoc (spelled inside) (Close ∷ (spelled_count times ++ spelled rest)) ts
    ∙ ap (λ l. spelled inside ++ Close ∷ l) (append_assoc (spelled_count times) (spelled rest) ts) in
    ap (λ o. o >>= step (Open opening)) (ap run regrouped ∙ opens)
    ∙ ap (λ b. if b then Some (state (level None (paren opening inside times rest)) outer) else None) holds

-- ---- the other way

abbrev pub spelled_levels : List Level → List Token
spelled_levels [] = []
spelled_levels (level times s ∷ outer) = Close ∷ (spelled_count times ++ (spelled s ++ spelled_levels outer))

abbrev pub spelled_state : State → List Token
spelled_state (state (level times s) outer) = spelled_count times ++ (spelled s ++ spelled_levels outer)

abbrev pub AllAllowed : List Level → Type 0
AllAllowed [] = Unit {0}
AllAllowed (level times s ∷ outer) = (is_allowed s ≡ true) × AllAllowed outer

abbrev pub IsAllowedState : State → Type 0
IsAllowedState (state (level times s) outer) = (is_allowed s ≡ true) × AllAllowed outer

pub record Spells (st : State) (ts : List Token) : Type 0 where
  pub tokens : spelled_state st ≡ ts
  pub allowed : IsAllowedState st

step-open : (opening : Opening) (inside : Syntax) (outer : List Level) (st : State) → opened_level opening inside outer ≡ Some st →
    IsAllowedState (state (level None inside) outer) → Spells st (Open opening ∷ spelled_state (state (level None inside) outer))
step-open opening inside [] st e a = absurd (cc)
step-open opening inside (level times rest ∷ outer) st e a = by (may_hold opening (is_plain inside)) refl e
  where
    regrouped : spelled_state (state (level None (paren opening inside times rest)) outer)
        ≡ Open opening ∷ spelled_state (state (level None inside) (level times rest ∷ outer))
    regrouped =
        ap (λ l. Open opening ∷ l)
        (append_assoc (spelled inside) (Close ∷ (spelled_count times ++ spelled rest)) (spelled_levels outer)
        ∙ ap (λ l. spelled inside ++ Close ∷ l) (append_assoc (spelled_count times) (spelled rest) (spelled_levels outer)))

    by : (b : Bool) → may_hold opening (is_plain inside) ≡ b →
        (if b then Some (state (level None (paren opening inside times rest)) outer) else None) ≡ Some st →
        Spells st (Open opening ∷ spelled_state (state (level None inside) (level times rest ∷ outer)))
    by true h f =
        let same : state (level None (paren opening inside times rest)) outer ≡ st = cc in
        subst (λ s. Spells s (Open opening ∷ spelled_state (state (level None inside) (level times rest ∷ outer)))) same
        (record { tokens = regrouped; allowed = (rw (h, a.0, a.1.0) refl, a.1.1) })
    by false h f = absurd (cc)

step-spells : (t : Token) (st st' : State) → step t st ≡ Some st' → IsAllowedState st → Spells st' (t ∷ spelled_state st)
step-spells (Leaf l) (state (level times rest) outer) st' e a =
    let same : state (level None (leaf l times rest)) outer ≡ st' = cc in
    subst (λ s. Spells s (Leaf l ∷ spelled_state (state (level times rest) outer))) same
    (record {
      tokens = ap (λ l'. Leaf l ∷ l') (append_assoc (spelled_count times) (spelled rest) (spelled_levels outer));
      allowed = (a.0, a.1);
    })
step-spells Bar (state (level None rest) outer) st' e a =
    let same : state (level None (bar rest)) outer ≡ st' = cc in
    subst (λ s. Spells s (Bar ∷ spelled_state (state (level None rest) outer))) same (record { tokens = refl; allowed = (a.0, a.1) })
step-spells Bar (state (level (Some times) rest) outer) st' e a = absurd (cc)
step-spells (Count repeat) (state (level None rest) outer) st' e a =
    let same : state (level (Some repeat) rest) outer ≡ st' = cc in
    subst (λ s. Spells s (Count repeat ∷ spelled_state (state (level None rest) outer))) same
    (record { tokens = refl; allowed = (a.0, a.1) })
step-spells (Count repeat) (state (level (Some times) rest) outer) st' e a = absurd (cc)
step-spells Close (state (level times rest) outer) st' e a =
    let same : state (level None done) (level times rest ∷ outer) ≡ st' = cc in
    subst (λ s. Spells s (Close ∷ spelled_state (state (level times rest) outer))) same
    (record { tokens = refl; allowed = (refl, (a.0, a.1)) })
step-spells (Open opening) (state (level None inside) outer) st' e a = step-open opening inside outer st' e a
step-spells (Open opening) (state (level (Some times) inside) outer) st' e a = absurd (cc)

run-spells : (ts : List Token) (st : State) → run ts ≡ Some st → Spells st ts
run-spells [] st e =
    let same : state (level None done) [] ≡ st = cc in
    subst (λ s. Spells s []) same (record { tokens = refl; allowed = (refl, tt) })
run-spells (t ∷ ts) st e = by (run ts) (λ before r. run-spells ts before r) e
  where
    by : (o : Option State) → ((before : State) → o ≡ Some before → Spells before ts) → (o >>= step t) ≡ Some st → Spells st (t ∷ ts)
    by None r f = absurd (cc)
    by (Some before) r f =
        let old : Spells before ts = r before refl in
        subst (λ l. Spells st (t ∷ l)) old.tokens (step-spells t before st f old.allowed)

-- what the reader gives is spelled so
pub given-is-spelled : (ts : List Token) (st : State) (s : Syntax) → run ts ≡ Some st → syntax_of st ≡ Some s →
    (spelled s ≡ ts) × (is_allowed s ≡ true)
given-is-spelled ts (state (level None t) []) s e f =
    let old : Spells (state (level None t) []) ts = run-spells ts (state (level None t) []) e in
    let same : t ≡ s = cc in
    subst (λ u. (spelled u ≡ ts) × (is_allowed u ≡ true)) same (sym (append-nil (spelled t)) ∙ old.tokens, old.allowed.0)
given-is-spelled ts (state (level (Some times) t) outer) s e f = absurd (cc)
given-is-spelled ts (state (level None t) (here ∷ outer)) s e f = absurd (cc)

-- what is spelled is given
pub spelled-is-given : (s : Syntax) → is_allowed s ≡ true → run (spelled s) ≡ Some (state (level None s) [])
spelled-is-given s a = ap run (sym (append-nil (spelled s))) ∙ runs s [] [] a refl
