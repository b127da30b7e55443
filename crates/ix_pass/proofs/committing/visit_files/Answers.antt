use Rattle.std.proofs.Common.{[], refl}
use Rattle.std.proofs.lemmas.Bool.{false≢true}
use Rattle.ix_pass.proofs.Going.{went_none}
use Rattle.ix_pass.proofs.committing.visit_files.Goals as goal

pub returns-in-Err-clause-visited : goal.returns-in-Err-clause-visited
returns-in-Err-clause-visited g c = record {
  visits = [];
  orders = [];
  rest = c.args.round.files.now;
  files_are = refl;
  whole = λ e. absurd (false≢true e);
  asked = refl;
  done = record {
    went = went_none g.D.Disk g.M.StoreMemory.is_chooser g.M.StoreMemory.takes g.M.Book.ManifestState.fits g.M.StoreMemory.holds
        g.met.M.StoreMemory.ticks_are_taken c.args.store.now c.args.disk.now c.requires.over;
    are = λ choose h base k chooser taken hold. refl;
    text = tt;
  };
}
