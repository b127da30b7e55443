-- Runs of newlines, as the breaks of a pattern.
use Rattle.std.proofs.Common.{◌∷◌, [], None, false, refl, subst, arith}
use Rattle.ix_pattern.specs.Piece.{least_length}
use Rattle.ix_pattern.specs.Rows.{Shape}
use Rattle.ix_pattern.specs.declared.pattern.Node.TheVariants.{Bytes, Count, Group}
use Rattle.ix_lines.specs.Newlines.{newlines, is_newline}
use Rattle.ix_lines.specs.Laws.{IsStable}
use Rattle.ix_lines.proofs.Attempts.{breaks-stable}
use Rattle.ix_lines.proofs.DefaultText.{newline_set, newline_set-has}
use Rattle.ix_lines.proofs.RunBreaks.{run-breaks}

-- a group of one or more newlines
abbrev default_shape : Shape
default_shape = record {
  rows = (Bytes, newline_set) ∷ (Count 0 1 None false, []) ∷ (Group 1 1, []) ∷ [];
  groups = 1;
  weight = 6;
}

pub newlines-stable : IsStable newlines
unfolding least_length
newlines-stable =
    subst IsStable (run-breaks is_newline newline_set newline_set-has default_shape refl refl)
    (breaks-stable default_shape (tt, omega arith) (omega arith))
