use Rattle.std.proofs.Common.{◌∙◌, refl}
use Rattle.std.proofs.lemmas.Result.{err_from_is_err_and}
use Rattle.ix_commit.specs.Contents.{Anyhow}
use Rattle.ix_serve.proofs.Standing.{tells_on}
use Rattle.ix_store.proofs.Joining.{more_taken}
use Rattle.ix_store.specs.Making.{with_order}
use Rattle.indexd_selftest.specs.History.{later, turn}
use Rattle.indexd_selftest.proofs.Standing.{all_stand}
use Rattle.indexd_selftest.proofs.filling.keep_house.Goals as goal

pub returns-in_err-give_now : goal.returns-in_err-give_now
returns-in_err-give_now g c =
    let p = err_from_is_err_and c.from_residual.result c.from_residual.ensures.1 in
    rw (p.1, p.2) (record {
      stands = tt;
      full = λ is choose history base chooser all. c.in_err-give_now.ensures.full is choose history base chooser all refl;
      told = c.give_now.ensures.told;
    })

pub returns-in-Ok : goal.returns-in-Ok
returns-in-Ok g c = record {
  stands = λ choose history base chooser all.
      let longer = more_taken g.M.StoreMemory.takes g.met.M.StoreMemory.ticks_are_taken choose history turn all.taken
      (g.met.M.StoreMemory.ticks_are_taken later) in
      all_stand g.D.Disk g.M.StoreMemory.takes g.M.Book.ManifestState.fits g.M.StoreMemory.holds choose (with_order choose history turn)
      base c.args.store.now.run c.checkpoint.new.self c.checkpoint.new.disk (c.checkpoint.ensures.run ∙ c.give_now.ensures.run) longer
      (c.in-Ok.ensures.done choose _ base chooser longer (c.in_ok-give_now.ensures.given choose history base chooser all));
  full = λ is. absurd cc;
  told = tells_on g.D.Disk Anyhow c.give_now.new.disk c.checkpoint.new.disk c.checkpoint.ensures.told c.give_now.ensures.told;
}

pub returns-in-Err : goal.returns-in-Err
returns-in-Err g c = record {
  stands = tt;
  full = λ is. absurd cc;
  told = tells_on g.D.Disk Anyhow c.give_now.new.disk c.checkpoint.new.disk c.checkpoint.ensures.told c.give_now.ensures.told;
}

pub give_now-requires-clause-over : goal.give_now-requires-clause-over
give_now-requires-clause-over g c = c.requires.over

pub give_now-requires-clause-told : goal.give_now-requires-clause-told
give_now-requires-clause-told g c = c.requires.told

pub give_now-requires-clause-takes : goal.give_now-requires-clause-takes
give_now-requires-clause-takes g c = g.met.M.StoreMemory.ticks_are_taken later

pub checkpoint-requires-clause-over : goal.checkpoint-requires-clause-over
checkpoint-requires-clause-over g c = c.in_ok-give_now.ensures.over

pub checkpoint-requires-clause-idle : goal.checkpoint-requires-clause-idle
checkpoint-requires-clause-idle g c = c.in_ok-give_now.ensures.idle
