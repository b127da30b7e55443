-- What the pieces of a pattern answer to a byte.
use Rattle.std.proofs.Common.{◌≡◌, ℕ, zero, suc, ◌<◌, Bool, false, List, [], ◌∷◌, length, refl, sym, ◌∙◌, ap, arith, get_or}
use Rattle.std.specs.Prelude.{map}
use Rattle.ix_pattern.specs.Piece.{in_set}
use Rattle.ix_pattern.specs.Rows.{Rows}
use Rattle.ix_pikevm.specs.Code.{set_in, sets_of}
use Rattle.ix_pikevm.specs.Stepped.{AreAnswers}
use Rattle.ix_pikevm.specs.declared.table.Tests.{Tests}
use Rattle.ix_pikevm.specs.Tests.{answers_to, Counts}

pub answers-length : (rows : Rows) (byte : ℕ) → length (answers_to rows byte) ≡ length rows
answers-length [] byte = refl
answers-length (row ∷ rows) byte = ap suc (answers-length rows byte)

sets-length : (rows : Rows) → length (sets_of rows) ≡ length rows
sets-length [] = refl
sets-length (row ∷ rows) = ap suc (sets-length rows)

map-at : (sets : List (List Bool)) (byte k : ℕ) → k < length sets →
    get_or (map (λ set. in_set set byte) sets) k false ≡ in_set (set_in sets k) byte
map-at [] byte k h = absurd (omega (arith, h))
map-at (set ∷ sets) byte zero h = refl
map-at (set ∷ sets) byte (suc k) h = map-at sets byte k (omega (arith, h))

pub answer-at : (rows : Rows) (byte k : ℕ) → k < length rows → get_or (answers_to rows byte) k false ≡ in_set (set_in (sets_of rows) k) byte
answer-at rows byte k h = map-at (sets_of rows) byte k (omega (arith, h, sets-length rows))

-- they are those of a pattern that is the same
pub are-answers : (pattern rows : Rows) (byte : ℕ) → rows ≡ pattern → AreAnswers (answers_to pattern byte) (sets_of rows) byte
are-answers pattern rows byte e k h =
    answer-at pattern byte k (omega (arith, h, answers-length pattern byte)) ∙ ap (λ r. in_set (set_in (sets_of r) k) byte) (sym e)

pub counts-none : {tests : Tests} {n : ℕ} → Counts tests n n
counts-none {tests} {n} = record { later = omega arith; none = λ whole. refl }

pub counts-more : {tests : Tests} {n m k : ℕ} → Counts tests n m → Counts tests m k → Counts tests n k
counts-more {tests} {n} {m} {k} a b = record { later = omega (arith, a.later, b.later); none = λ whole. b.none whole ∙ a.none whole }
