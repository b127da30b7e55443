use Rattle.std.proofs.Common.{◌≡◌, ℕ, ◌≤◌, ◌<◌, false}
use Rattle.std.specs.Prelude.{slice_get}
use Rattle.ix_pattern.specs.Rows.{tree}
use Rattle.ix_match.specs.Fronts.{fronts, in_one}
use Rattle.ix_match.proofs.first_pieces.next_place.Given as goal

abbrev pub invariant-loop-at : goal.invariant-loop-at
invariant-loop-at g l = (k : ℕ) → l.place ≤ k → k < l.at → in_one (slice_get l.text k) (fronts (tree l.p.rows)) ≡ false
