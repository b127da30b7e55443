use Rattle.std.proofs.Common.{[], sym, subst}
use Rattle.ix_disk.specs.Image.{nothing}
use Rattle.ix_replay.specs.Fits.{fits}
use Rattle.ix_store.specs.Written.{RecoversToPrefix}
use Rattle.indexd_core.proofs.Empty.{empty_stands}
use Rattle.indexd_core.proofs.chain.an_empty_disk_may_run.Goals as goal

pub returns : goal.returns
returns g c = λ choose disk chooser none tells. record {
  chooser = chooser;
  given = tt;
  begins = λ image may. subst (RecoversToPrefix fits 0 choose [] 0) (sym (none image may)) (empty_stands fits choose);
  image = nothing;
  tells = tells;
}
