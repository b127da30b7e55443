use Rattle.std.proofs.Common.{◌≡◌, ◌≤◌}
use Rattle.jiff_tz.specs.PosixText.{tz_view}
use Rattle.ix_dates.specs.Year.{greatest, instant_in_year}
use Rattle.ix_dates.proofs.year.instant_in_some_year.Given as goal

abbrev pub invariant-loop-year : goal.invariant-loop-year
invariant-loop-year l = record {
  bound : l.year ≤ 9999;
  rest : greatest (instant_in_year (tz_view l.zone) l.offset l.civil l.arrival) 9999
      ≡ greatest (instant_in_year (tz_view l.zone) l.offset l.civil l.arrival) l.year;
}

abbrev pub decreases-loop-year : goal.decreases-loop-year
decreases-loop-year l = l.year
