-- Parts that grew, and are cut back.
use Rattle.std.specs.Prelude.{◌≡◌, ℕ, zero, suc, List, [], ◌∷◌, length, take}
use Rattle.ix_base.specs.Told.{IsFrontOf}
use Rattle.ix_commit.specs.declared.staged_append.StagedAppend.{StagedAppend}

abbrev pub len_in : StagedAppend → ℕ
len_in part = length part.staged

abbrev pub cut_part : ℕ → StagedAppend → StagedAppend
cut_part n part = record { number = part.number; committed = part.committed; staged = take n part.staged }

-- the first k of them cut to these lengths
abbrev pub cut_first : ℕ → List ℕ → List StagedAppend → List StagedAppend
cut_first zero lens xs = xs
cut_first (suc k) [] xs = xs
cut_first (suc k) (n ∷ lens) [] = []
cut_first (suc k) (n ∷ lens) (x ∷ xs) = cut_part n x ∷ cut_first k lens xs

pub record HasMore (a b : StagedAppend) : Type 0 where
  pub number : b.number ≡ a.number
  pub committed : b.committed ≡ a.committed
  pub staged : IsFrontOf a.staged b.staged

-- each of the first parts has as much or more; the second list may have more of them
abbrev pub Grew : List StagedAppend → List StagedAppend → Type 0
Grew [] news = Unit {0}
Grew (old ∷ olds) [] = ⊥
Grew (old ∷ olds) (new ∷ news) = HasMore old new × Grew olds news
