use Rattle.std.proofs.Common.{◌≡◌, ◌-◌}
use Rattle.std.specs.Prelude.{slice_get}
use Rattle.ix_transforms.specs.Matches.{matches}
use Rattle.ix_transforms.proofs.matches.nth_match.Given as goal

abbrev pub invariant-loop-turn : goal.invariant-loop-turn
invariant-loop-turn l = slice_get (matches l.pattern l.text l.from) (l.number - l._turn) ≡ slice_get (matches l.pattern l.text 0)
    (l.number - 1)
