-- Lookaheads at a place.
use Rattle.std.proofs.Common.{◌≡◌, ℕ, zero, suc, ◌+◌, ◌<◌, Bool, true, false, List, [], ◌∷◌, length, Some, refl, sym, ◌∙◌, ap, subst}
use Rattle.std.proofs.Common.{arith, set, eqb}
use Rattle.std.specs.Prelude.{slice_get}
use Rattle.std.proofs.lemmas.Option.{slice_get_within}
use Rattle.ix_pattern.specs.Piece.{Piece, ahead}
use Rattle.ix_pattern.specs.Ways.{Text, sight, look, ways}
use Rattle.ix_pattern.specs.Rows.{Rows, piece_at}
use Rattle.ix_pikevm.specs.declared.code.Instr.{Instr}
use Rattle.ix_pikevm.specs.declared.code.Lookahead.{Lookahead}
use Rattle.ix_pikevm.specs.declared.leaf.Leaf.{Leaf}
use Rattle.ix_pikevm.specs.Leaf.{leaf_ways, at}
use Rattle.ix_pikevm.specs.Looks.{IsLook, AreLooks}
use Rattle.ix_pikevm.specs.Agrees.{SightsAgree}
use Rattle.ix_pikevm.specs.Programs.{AreAsks, AllAsked, AllLooked}

pub look-is : (piece inside : Piece) (wanted : Bool) (text seen : Text) (p : ℕ) → piece ≡ ahead inside wanted →
    seen ≡ sight (p + 255) text →
    look wanted (at p []) (ways inside seen (at p [])) ≡ ways piece text (at p [])
unfolding ways
look-is piece inside wanted text seen p is sees =
    ap (λ t. look wanted (at p []) (ways inside t (at p []))) sees ∙ ap (λ q. ways q text (at p [])) (sym is)

-- it is the same in texts of which it sees the same
pub look-sight : (piece inside : Piece) (wanted : Bool) (seen real : Text) (p : ℕ) → piece ≡ ahead inside wanted →
    sight (p + 255) seen ≡ sight (p + 255) real →
    ways piece seen (at p []) ≡ ways piece real (at p [])
look-sight piece inside wanted seen real p is sees =
    sym (look-is piece inside wanted seen (sight (p + 255) seen) p is refl)
    ∙ look-is piece inside wanted real (sight (p + 255) seen) p is sees

set-here : (xs : List Leaf) (i : ℕ) (x : Leaf) → i < length xs → slice_get (set xs i x) i ≡ Some x
set-here [] i x h = absurd (omega (arith, h))
set-here (y ∷ xs) zero x h = refl
set-here (y ∷ xs) (suc i) x h = set-here xs i x (omega (arith, h))

set-there : (xs : List Leaf) (i j : ℕ) (x : Leaf) → (j ≡ i → ⊥) → slice_get (set xs i x) j ≡ slice_get xs j
set-there [] i j x ne = refl
set-there (y ∷ xs) zero zero x ne = absurd (ne refl)
set-there (y ∷ xs) zero (suc j) x ne = refl
set-there (y ∷ xs) (suc i) zero x ne = refl
set-there (y ∷ xs) (suc i) (suc j) x ne = set-there xs i j x (λ e. ne (ap suc e))

some-same : (a b : Lookahead) → Some a ≡ Some b → a ≡ b
some-same a b e = cc

-- one more was put down
pub looked-more : (n : ℕ) (asks : List Lookahead) (looks : List Leaf) (rows : Rows) (text : Text) (p : ℕ) (ask : Lookahead) (leaf : Leaf) →
    slice_get asks n ≡ Some ask → ask.piece < length looks →
    leaf_ways leaf (at p []) ≡ ways (piece_at rows ask.piece) text (at p []) → AllLooked n asks looks rows text p →
    AllLooked (n + 1) asks (set looks ask.piece leaf) rows text p
looked-more n asks looks rows text p ask leaf got fits same all k a h e = by (eqb a.piece ask.piece) refl
  where
    old : (a.piece ≡ ask.piece → ⊥) → IsLook (set looks ask.piece leaf) rows text p a.piece
    old ne =
        let other : k ≡ n → ⊥ = λ f. ne (ap (λ b. b.piece) (some-same a ask (sym e ∙ ap (slice_get asks) f ∙ got))) in
        let l = all k a (let lt : k < n = grind (arith, h, other) in lt) e in
        record { leaf = l.leaf; kept = set-there looks ask.piece a.piece leaf ne ∙ l.kept; same = l.same }

    by : (b : Bool) → eqb a.piece ask.piece ≡ b → IsLook (set looks ask.piece leaf) rows text p a.piece
    by true f =
        let is : ask.piece ≡ a.piece = grind (arith, f) in
        subst (λ q. IsLook (set looks ask.piece leaf) rows text p q) is
        (record { leaf = leaf; kept = set-here looks ask.piece leaf fits; same = same })
    by false f = old (λ g. grind (arith, f, g))

-- what was put down is so in a text of which is seen as much
pub looks-real : (asks : List Lookahead) (inner code : List Instr) (looks : List Leaf) (rows : Rows) (seen real : Text) (p : ℕ) →
    AllAsked asks code → AreAsks rows inner asks →
    AllLooked (length asks) asks looks rows seen p → SightsAgree asks seen real p → AreLooks code looks rows real p
looks-real asks inner code looks rows seen real p asked are looked sees pc piece next e =
    let a = asked pc piece next e in
    let l = looked a.k a.ask (slice_get_within asks a.k a.ask a.at) a.at in
    let i = are a.k a.ask a.at in
    subst (λ q. IsLook looks rows real p q) a.is
    (record {
      leaf = l.leaf;
      kept = l.kept;
      same = l.same
          ∙ look-sight (piece_at rows a.ask.piece) i.inside a.ask.wanted seen real p i.is (sees a.k a.ask a.at);
    })
