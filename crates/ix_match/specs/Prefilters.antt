-- What is known of the places at which a match may begin.
use Rattle.std.specs.Prelude.{◌≡◌, ℕ, ◌<◌, List, Bool, Some, IfSome}
use Rattle.ix_pattern.specs.Piece.{in_set}
use Rattle.ix_pattern.specs.Rows.{Shape, tree}
use Rattle.ix_match.specs.Few.{Lists}
use Rattle.ix_match.specs.Fronts.{passes, fronts, anchored, in_one}
use Rattle.ix_match.specs.Leads.{EachBegins}
use Rattle.ix_match.specs.declared.prefilter.Prefilter.{Prefilter}

-- a match may take the byte as its first one
unfoldable pub may_be_first : Shape → ℕ → Bool
may_be_first p b = in_one (Some b) (fronts (tree p.rows))

-- a table of them
abbrev pub AreFirst : Shape → List Bool → Type 0
AreFirst p first = (b : ℕ) → b < 256 → in_set first b ≡ may_be_first p b

-- it tells that of the pattern
pub record IsPrefilter (p : Shape) (prefilter : Prefilter) : Type 0 where
  pub literal : IfSome prefilter.literal (EachBegins p)
  pub first : AreFirst p prefilter.first
  pub few : Lists prefilter.few prefilter.first
  pub passes_is : prefilter.passes ≡ passes (tree p.rows)
  pub anchored_is : prefilter.anchored ≡ anchored (tree p.rows)
