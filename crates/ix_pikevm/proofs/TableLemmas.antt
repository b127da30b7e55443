-- The rows of a table.
use Rattle.std.proofs.Common.{◌≡◌, ℕ, zero, suc, ◌+◌, ◌*◌, ◌<◌, ◌≤◌, Bool, true, false, List, [], ◌∷◌, ◌++◌, length, take, length-append}
use Rattle.std.proofs.Common.{sym, ◌∙◌, ap, arith, get_or, eqb, refl}
use Rattle.std.proofs.lemmas.List.{get_or_append_left, get_or-append-add}
use Rattle.ix_pattern.specs.Piece.{in_set}
use Rattle.ix_pattern.specs.Rows.{Rows as Pieces, node_at, byte_pieces}
use Rattle.ix_pikevm.specs.Tests.{asked_of}
use Rattle.ix_pikevm.specs.Code.{set_in}
use Rattle.ix_pikevm.specs.Ran.{Row}

-- the rows of the first bytes
pub record Rows (table : List Bool) (n bytes : ℕ) (sets : List (List Bool)) : Type 0 where
  pub all : length table ≡ bytes * n
  pub answers : (byte k : ℕ) → byte < bytes → k < n → get_or table (byte * n + k) false ≡ in_set (set_in sets k) byte

-- a row lies before the later ones
pub before : (a b n : ℕ) → a < b → a * n + n ≤ b * n
before a zero n h = absurd (omega (arith, h))
before zero (suc b) n h = omega arith
before (suc a) (suc b) n h = let r = before a b n (omega (arith, h)) in omega (arith, r)

pub rows-more : (old new : List Bool) (n bytes : ℕ) (sets : List (List Bool)) → Row old new n sets bytes → Rows old n bytes sets →
    Rows new n (bytes + 1) sets
rows-more old new n bytes sets r t =
    record {
      all = ap length r.is ∙ length-append old r.row ∙ (let a = t.all in let b = r.all in omega (arith, a, b));
      answers = λ byte k h lt. at byte k h lt (eqb byte bytes) refl;
    }
  where
    at : (byte k : ℕ) → byte < bytes + 1 → k < n → (b : Bool) → eqb byte bytes ≡ b →
        get_or new (byte * n + k) false ≡ in_set (set_in sets k) byte
    at byte k h lt true q =
        let f : byte ≡ bytes = grind (arith, q) in
        ap (λ l. get_or l (byte * n + k) false) r.is ∙ ap (λ b. get_or (old ++ r.row) (b * n + k) false) f
        ∙ ap (λ b. get_or (old ++ r.row) (b + k) false) (sym t.all)
        ∙ get_or-append-add old r.row k false ∙ r.answers k lt ∙ ap (in_set (set_in sets k)) (sym f)
    at byte k h lt false q =
        let low : byte < bytes = grind (arith, h, q) in
        let room = before byte bytes n low in
        ap (λ l. get_or l (byte * n + k) false) r.is ∙ get_or_append_left old r.row false (byte * n + k) (omega (arith, room, lt, t.all))
        ∙ t.answers byte k low lt

-- the byte pieces among the first ones
pub bytes-take : (rows : Pieces) (k : ℕ) → byte_pieces (take (suc k) rows) ≡ byte_pieces (take k rows) + asked_of (node_at rows k)
bytes-take [] zero = refl
bytes-take [] (suc k) = refl
bytes-take (row ∷ rows) zero = omega arith
bytes-take (row ∷ rows) (suc k) = let r = bytes-take rows k in omega (arith, r)

pub bytes-first : (n : ℕ) (rows : Pieces) → byte_pieces (take n rows) ≤ byte_pieces rows
bytes-first zero rows = omega arith
bytes-first (suc n) [] = omega arith
bytes-first (suc n) (row ∷ rows) = let r = bytes-first n rows in omega (arith, r)
