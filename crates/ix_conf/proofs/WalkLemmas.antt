-- Walking the tokens of a pattern from the last to the first, with what is asked of the rest of the
-- name.
use Rattle.std.proofs.Common.{◌≡◌, ℕ, zero, suc, Bool, true, false, ◌||◌, ◌↔◌, List, [], ◌∷◌, ◌++◌, length, refl, sym, ap, ◌∙◌, subst}
use Rattle.std.proofs.Common.{append_assoc, arith}
use Rattle.std.specs.Prelude.{Option, Some, None, IsTrue}
use Rattle.std.specs.List.{AllByRecursion}
use Rattle.ix_conf.specs.declared.tokens.Token.{Token}
use Rattle.ix_conf.specs.declared.tokens.Token.TheVariants.{Byte, Star, Dots, Bar, Open, Close}
use Rattle.ix_conf.specs.Names.{Piece, nothing, byte, star, dots, seq, either, group, spelled, IsSequence, waiting, opened, closed}
use Rattle.ix_conf.specs.Names.{FitsRule}
use Rattle.ix_conf.specs.Walk.{Ask, is_end, never, any_of, Lead, open_step, bar_step, step, walk, start, answer}
use Rattle.ix_conf.proofs.FitLemmas.{then_ask, whole_sound, whole_complete}

walk_append : (fold : Bool) (xs ys : List Token) (leads : List Lead) → walk fold (xs ++ ys) leads ≡ walk fold xs (walk fold ys leads)
walk_append fold [] ys leads = refl
walk_append fold (x ∷ xs) ys leads = ap (step fold x) (walk_append fold xs ys leads)

abbrev lead : Ask → Ask → Lead
lead f g = record { leads = f; others = g }

-- a pattern in parentheses leads where one of its alternatives does
record WholeWalked (fold : Bool) (p : Piece) (ask others below : Ask) (ls : List Lead) : Type 0 where
  pub leads : Ask
  pub rest : Ask
  pub walked : walk fold (spelled p) (lead ask others ∷ lead ask below ∷ ls) ≡ lead leads rest ∷ lead ask below ∷ ls
  pub asked : (name : List ℕ) → (rest name || leads name) ≡ (others name || then_ask fold p ask name)

or_three : (a b c : Bool) → ((a || c) || b) ≡ (a || (b || c))
or_three true b c = refl
or_three false true true = refl
or_three false true false = refl
or_three false false true = refl
or_three false false false = refl

-- a sequence is walked: it leads on to what was asked
abbrev SequenceWalks : Bool → Piece → Type 0
SequenceWalks fold p = IsSequence false p → (ask others : Ask) (ls : List Lead)
    → walk fold (spelled p) (lead ask others ∷ ls) ≡ lead (then_ask fold p ask) others ∷ ls

abbrev WholeWalks : Bool → Piece → Type 0
WholeWalks fold p = IsSequence true p → (ask others below : Ask) (ls : List Lead) → WholeWalked fold p ask others below ls

as_whole : (fold : Bool) (p : Piece) (ask others below : Ask) (ls : List Lead)
    → walk fold (spelled p) (lead ask others ∷ lead ask below ∷ ls) ≡ lead (then_ask fold p ask) others ∷ lead ask below ∷ ls
    → WholeWalked fold p ask others below ls
as_whole fold p ask others below ls h =
    record { leads = then_ask fold p ask; rest = others; walked = h; asked = λ name. refl }

seq_walks : (fold : Bool) (p q : Piece) → SequenceWalks fold p → SequenceWalks fold q → SequenceWalks fold (seq p q)
seq_walks fold p q hp hq is ask others ls =
    walk_append fold (spelled p) (spelled q) (lead ask others ∷ ls)
    ∙ ap (walk fold (spelled p)) (hq is.1 ask others ls)
    ∙ hp is.0 (then_ask fold q ask) others ls

either_walks : (fold : Bool) (p q : Piece) → SequenceWalks fold p → WholeWalks fold q → WholeWalks fold (either p q)
either_walks fold p q hp hq is ask others below ls =
    let m = hq is.1 ask others below ls in
    record {
      leads = then_ask fold p ask;
      rest = any_of m.rest m.leads;
      walked = walk_append fold (spelled p) (Bar ∷ spelled q) (lead ask others ∷ lead ask below ∷ ls)
          ∙ ap (λ (x : List Lead). walk fold (spelled p) (bar_step x)) m.walked
          ∙ hp is.0 ask (any_of m.rest m.leads) (lead ask below ∷ ls);
      asked = λ name. ap (λ (t : Bool). t || then_ask fold p ask name) (m.asked name)
          ∙ or_three (others name) (then_ask fold p ask name) (then_ask fold q ask name);
    }

group_walks : (fold : Bool) (p : Piece) → WholeWalks fold p → SequenceWalks fold (group p)
group_walks fold p hp is ask others ls =
    let m = hp is ask never others ls in
    let same : any_of m.rest m.leads ≡ then_ask fold p ask = λ i name. m.asked name i in
    ap open_step (walk_append fold (spelled p) (Close ∷ []) (lead ask others ∷ ls) ∙ m.walked)
    ∙ ap (λ (f : Ask). lead f others ∷ ls) same

walks : (fold : Bool) (p : Piece) → SequenceWalks fold p × WholeWalks fold p
walks fold nothing = (λ is ask others ls. refl, λ is ask others below ls. as_whole fold nothing ask others below ls refl)
walks fold (byte b) = (λ is ask others ls. refl, λ is ask others below ls. as_whole fold (byte b) ask others below ls refl)
walks fold star = (λ is ask others ls. refl, λ is ask others below ls. as_whole fold star ask others below ls refl)
walks fold dots = (λ is ask others ls. refl, λ is ask others below ls. as_whole fold dots ask others below ls refl)
walks fold (seq p q) =
    let both = seq_walks fold p q (walks fold p).0 (walks fold q).0 in
    (both, λ is ask others below ls. as_whole fold (seq p q) ask others below ls (both is ask others (lead ask below ∷ ls)))
walks fold (either p q) = (λ is ask others ls. absurd is, either_walks fold p q (walks fold p).0 (walks fold q).1)
walks fold (group p) =
    let inside = group_walks fold p (walks fold p).1 in
    (inside, λ is ask others below ls. as_whole fold (group p) ask others below ls (inside is ask others (lead ask below ∷ ls)))

answer_is : (fold : Bool) (p : Piece) → IsSequence true p → (name : List ℕ) →
    answer (walk fold (spelled p) start) name ≡ then_ask fold p is_end name
answer_is fold p is name =
    let m = (walks fold p).1 is is_end never never [] in
    ap (λ (ls : List Lead). answer ls name) m.walked ∙ m.asked name

-- paired tokens spell a tree for each pair of parentheses that is still open to the left
abbrev text_of : Piece → List Piece → List Token
text_of p [] = spelled p
text_of p (q ∷ qs) = spelled p ++ Close ∷ text_of q qs

record Trees (tokens : List Token) (n : ℕ) : Type 0 where
  pub first : Piece
  pub others : List Piece
  pub is_whole : IsSequence true first
  pub are_whole : AllByRecursion (IsSequence true) others
  pub count : length others ≡ n
  pub spells : text_of first others ≡ tokens

-- a piece before a pattern
abbrev prepend : Piece → Piece → Piece
prepend a (either p q) = either (seq a p) q
prepend a nothing = seq a nothing
prepend a (byte b) = seq a (byte b)
prepend a star = seq a star
prepend a dots = seq a dots
prepend a (seq p q) = seq a (seq p q)
prepend a (group p) = seq a (group p)

prepend_whole : (a p : Piece) → IsSequence false a → IsSequence true p → IsSequence true (prepend a p)
prepend_whole a (either p q) h is = ((h, is.0), is.1)
prepend_whole a nothing h is = (h, is)
prepend_whole a (byte b) h is = (h, is)
prepend_whole a star h is = (h, is)
prepend_whole a dots h is = (h, is)
prepend_whole a (seq p q) h is = (h, is)
prepend_whole a (group p) h is = (h, is)

spelled_prepend : (a p : Piece) → spelled (prepend a p) ≡ spelled a ++ spelled p
spelled_prepend a (either p q) = append_assoc (spelled a) (spelled p) (Bar ∷ spelled q)
spelled_prepend a nothing = refl
spelled_prepend a (byte b) = refl
spelled_prepend a star = refl
spelled_prepend a dots = refl
spelled_prepend a (seq p q) = refl
spelled_prepend a (group p) = refl

text_prepend : (a p : Piece) (qs : List Piece) → text_of (prepend a p) qs ≡ spelled a ++ text_of p qs
text_prepend a p [] = spelled_prepend a p
text_prepend a p (q ∷ qs) =
    ap (λ (t : List Token). t ++ Close ∷ text_of q qs) (spelled_prepend a p) ∙ append_assoc (spelled a) (spelled p) (Close ∷ text_of q qs)

-- a token that is a piece by itself
trees_with : (a : Piece) (t : Token) (tokens : List Token) (n : ℕ) → IsSequence false a → spelled a ≡ t ∷ [] → Trees tokens n →
    Trees (t ∷ tokens) n
trees_with a t tokens n is spells m = record {
  first = prepend a m.first;
  others = m.others;
  is_whole = prepend_whole a m.first is m.is_whole;
  are_whole = m.are_whole;
  count = m.count;
  spells = text_prepend a m.first m.others ∙ ap (λ (x : List Token). x ++ text_of m.first m.others) spells
      ∙ ap (λ (x : List Token). t ∷ x) m.spells;
}

trees_bar : (tokens : List Token) (n : ℕ) → Trees tokens n → Trees (Bar ∷ tokens) n
trees_bar tokens n m = record {
  first = either nothing m.first;
  others = m.others;
  is_whole = (tt, m.is_whole);
  are_whole = m.are_whole;
  count = m.count;
  spells = by m.others ∙ ap (λ (x : List Token). Bar ∷ x) m.spells;
}
  where
    by : (qs : List Piece) → text_of (either nothing m.first) qs ≡ Bar ∷ text_of m.first qs
    by [] = refl
    by (q ∷ qs) = refl

trees_close : (tokens : List Token) (n : ℕ) → Trees tokens n → Trees (Close ∷ tokens) (suc n)
trees_close tokens n m = record {
  first = nothing;
  others = m.first ∷ m.others;
  is_whole = tt;
  are_whole = (m.is_whole, m.are_whole);
  count = ap suc m.count;
  spells = ap (λ (x : List Token). Close ∷ x) m.spells;
}

trees_open : (tokens : List Token) (n : ℕ) → Trees tokens (suc n) → Trees (Open ∷ tokens) n
trees_open tokens n m = by m.first m.others m.is_whole m.are_whole m.count m.spells
  where
    by : (p : Piece) (qs : List Piece) → IsSequence true p → AllByRecursion (IsSequence true) qs → length qs ≡ suc n → text_of p qs ≡ tokens
        → Trees (Open ∷ tokens) n
    by p [] is all count spells = absurd (omega arith)
    by p (q ∷ qs) is all count spells = record {
      first = prepend (group p) q;
      others = qs;
      is_whole = prepend_whole (group p) q is all.0;
      are_whole = all.1;
      count = omega arith;
      spells = text_prepend (group p) q qs
          ∙ ap (λ (x : List Token). Open ∷ x) (append_assoc (spelled p) (Close ∷ []) (text_of q qs) ∙ spells);
    }

some_more : (o : Option ℕ) (n : ℕ) → opened o ≡ Some n → o ≡ Some (suc n)
some_more None n h = cc
some_more (Some zero) n h = cc
some_more (Some (suc m)) n h = cc

some_less : (o : Option ℕ) (n : ℕ) → closed o ≡ Some n → (m : ℕ) × (o ≡ Some m) × (n ≡ suc m)
some_less None n h = cc
some_less (Some m) n h = (m, refl, cc)

trees : (tokens : List Token) (n : ℕ) → waiting tokens ≡ Some n → Trees tokens n
trees [] n h = record { first = nothing; others = []; is_whole = tt; are_whole = tt; count = cc; spells = refl }
trees (Byte b ∷ tokens) n h = trees_with (byte b) (Byte b) tokens n tt refl (trees tokens n h)
trees (Star ∷ tokens) n h = trees_with star Star tokens n tt refl (trees tokens n h)
trees (Dots ∷ tokens) n h = trees_with dots Dots tokens n tt refl (trees tokens n h)
trees (Bar ∷ tokens) n h = trees_bar tokens n (trees tokens n h)
trees (Open ∷ tokens) n h = trees_open tokens n (trees tokens (suc n) (some_more (waiting tokens) n h))
trees (Close ∷ tokens) n h =
    let less = some_less (waiting tokens) n h in
    let P : ℕ → Type 0 = λ k. Trees (Close ∷ tokens) k in
    subst P (sym less.2) (trees_close tokens less.0 (trees tokens less.0 less.1))

-- the answer at the front of a name is whether it fits
pub fits_from_answer : (tokens : List Token) (fold : Bool) (name : List ℕ) → waiting tokens ≡ Some 0 →
    answer (walk fold tokens start) name ≡ true
    → FitsRule (record { tokens = tokens; fold = fold }) name
fits_from_answer tokens fold name paired is_true = by m.first m.others m.is_whole m.count m.spells
  where
    m : Trees tokens 0
    m = trees tokens 0 paired

    by : (p : Piece) (qs : List Piece) → IsSequence true p → length qs ≡ 0 → text_of p qs ≡ tokens →
        FitsRule (record { tokens = tokens; fold = fold }) name
    by p (q ∷ qs) is count spells = absurd (omega arith)
    by p [] is count spells =
        let found = sym (answer_is fold p is name) ∙ ap (λ (ts : List Token). answer (walk fold ts start) name) spells ∙ is_true in
        record { tree = p; is_whole = is; spells = spells; fits = whole_sound fold p name found }

pub answer_from_fits : (tokens : List Token) (fold : Bool) (name : List ℕ) → FitsRule (record { tokens = tokens; fold = fold }) name
    → answer (walk fold tokens start) name ≡ true
answer_from_fits tokens fold name fits =
    ap (λ (ts : List Token). answer (walk fold ts start) name) (sym fits.spells)
    ∙ answer_is fold fits.tree fits.is_whole name ∙ whole_complete fold fits.tree name fits.fits

pub fits_iff : (tokens : List Token) (fold : Bool) (name : List ℕ) (b : Bool) → waiting tokens ≡ Some 0 →
    b ≡ answer (walk fold tokens start) name
    → IsTrue b ↔ FitsRule (record { tokens = tokens; fold = fold }) name
fits_iff tokens fold name b paired is =
    (λ h. fits_from_answer tokens fold name paired (sym is ∙ h), λ f. is ∙ answer_from_fits tokens fold name f)
