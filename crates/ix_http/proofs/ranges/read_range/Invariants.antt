use Rattle.std.proofs.Common.{◌≡◌, length, map}
use Rattle.form_urlencoded.specs.Parse.{pairs_left}
use Rattle.ix_http.specs.Ranges.{read_on, as_text, range_of}
use Rattle.ix_http.proofs.ranges.read_range.Given as goal

abbrev pub invariant-loop-pair : goal.invariant-loop-pair
invariant-loop-pair l = read_on l.range (map as_text (pairs_left l.pairs)) ≡ range_of l.query

abbrev pub decreases-loop-pair : goal.decreases-loop-pair
decreases-loop-pair l = length (pairs_left l.pairs)
