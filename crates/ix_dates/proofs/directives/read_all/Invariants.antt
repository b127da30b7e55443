use Rattle.std.proofs.Common.{◌≡◌, drop}
use Rattle.ix_dates.specs.Directives.{read_all}
use Rattle.ix_dates.proofs.directives.read_all.Given as goal

abbrev pub invariant-loop-directive : goal.invariant-loop-directive
invariant-loop-directive l =
    read_all (drop l.directive-index l.directives) l.fields l.rest ≡ read_all l.directives l.fn.fields l.s
