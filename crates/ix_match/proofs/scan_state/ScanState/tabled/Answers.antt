use Rattle.std.proofs.Common.{refl}
use Rattle.ix_match.proofs.KeptLemmas.{keeps-none}
use Rattle.ix_match.proofs.scan_state.ScanState.tabled.Goals as goal

pub returns-clause-kept : goal.returns-clause-kept
returns-clause-kept g c = λ before bytes. keeps-none _ _ before bytes refl
    (record { search_is = c.in_ok-search.ensures.search; whole = c.in_ok-search.ensures.whole })
