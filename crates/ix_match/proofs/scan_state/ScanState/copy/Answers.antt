use Rattle.ix_pikevm.proofs.FinderLemmas.{same-stands}
use Rattle.ix_match.proofs.scan_state.ScanState.copy.Goals as goal

pub returns : goal.returns
returns c = λ rows before bytes k.
    record {
      is_kept = c.in_ok-copy.ensures.search rows k.is_kept;
      stands = λ begun. same-stands rows c.args.self.now.search.finder.program c.in_ok-copy.field-0.finder.program c.in_ok-copy-2.field-0
          before bytes c.in_ok-copy.ensures.program
          (c.in_ok-copy-2.ensures rows c.args.self.now.search.finder.program before bytes (k.stands begun));
    }
