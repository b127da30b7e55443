use Rattle.std.proofs.Common.{◌∙◌, [], length, ap, inl, inr, refl, sym}
use Rattle.std.specs.Prelude.{Err}
use Rattle.std.proofs.lemmas.Result.{err_from_is_err_and}
use Rattle.ix_commit.specs.Contents.{Anyhow}
use Rattle.ix_disk.specs.Image.{nothing}
use Rattle.ix_model.specs.declared.commands.Command.TheVariants.{Configure}
use Rattle.ix_run.specs.Giving.{given_all}
use Rattle.ix_serve.proofs.Standing.{tells_on}
use Rattle.ix_store.specs.Making.{with_order}
use Rattle.ix_store.proofs.Joining.{more_taken}
use Rattle.indexd_selftest.specs.History.{sent, sent_all}
use Rattle.indexd_selftest.specs.Lines.{stream}
use Rattle.indexd_selftest.proofs.Begun.{may_begin}
use Rattle.indexd_selftest.proofs.Empty.{empty_begins, first_run}
use Rattle.indexd_selftest.proofs.Filled.{channel_full, configure_full, turn_full}
use Rattle.indexd_selftest.proofs.Results.{err_back, mount_full, on_ok}
use Rattle.indexd_selftest.proofs.Standing.{as_all, mounted_none, whole}
use Rattle.indexd_selftest.proofs.filling.fill.Goals as goal

pub returns-in-Err : goal.returns-in-Err
returns-in-Err g c = record {
  filled = tt;
  full = λ is choose chooser.
      let begins = empty_begins g.M.Book.ManifestState.fits choose (g.D.Disk.may_leave c.args.disk.now) c.requires.empty in
      inl (mount_full c.in-Err.fault (sym c.of_mount.ensures ∙ err_back is)
      (λ same. c.in-Err.ensures.full (ap Err same) nothing c.requires.seen)
      (λ file place same. c.in-Err.ensures.undamaged file place (ap Err same) choose [] 0 0 chooser tt begins nothing c.requires.seen));
  told = tells_on g.D.Disk Anyhow c.args.disk.now c.mount.new.disk c.mount.ensures.told (nothing, c.requires.seen);
}

pub returns-in_err-give_now : goal.returns-in_err-give_now
returns-in_err-give_now g c =
    let p = err_from_is_err_and c.from_residual.result c.from_residual.ensures.1 in
    rw (p.1, p.2) (record {
      filled = tt;
      full = λ is choose chooser.
          let begins = empty_begins g.M.Book.ManifestState.fits choose (g.D.Disk.may_leave c.args.disk.now) c.requires.empty in
          let is_mounted = c.in-Ok.ensures.mounted choose [] 0 0 chooser tt begins nothing c.requires.seen in
          let none = mounted_none g.D.Disk g.M.StoreMemory.takes g.M.Book.ManifestState.fits g.M.StoreMemory.holds choose nothing
          c.in-Ok.store c.mount.new.disk is_mounted in
          inr (configure_full choose c.args.config c.args.seed (stream c.args.count) is_mounted.count is_mounted.most
          (c.in_err-give_now.ensures.full is choose [] is_mounted.count chooser none refl));
      told = c.give_now.ensures.told;
    })

pub returns-in_err-send_all : goal.returns-in_err-send_all
returns-in_err-send_all g c =
    let p = err_from_is_err_and c.from_residual-in_err-send_all.result c.from_residual-in_err-send_all.ensures.1 in
    rw (p.1, p.2) (record {
      filled = tt;
      full = λ is choose chooser.
          let begins = empty_begins g.M.Book.ManifestState.fits choose (g.D.Disk.may_leave c.args.disk.now) c.requires.empty in
          let is_mounted = c.in-Ok.ensures.mounted choose [] 0 0 chooser tt begins nothing c.requires.seen in
          let none = mounted_none g.D.Disk g.M.StoreMemory.takes g.M.Book.ManifestState.fits g.M.StoreMemory.holds choose nothing
          c.in-Ok.store c.mount.new.disk is_mounted in
          let behind = with_order choose [] (sent (Configure c.args.config)) in
          let set = as_all g.D.Disk g.M.StoreMemory.takes g.M.Book.ManifestState.fits g.M.StoreMemory.holds choose behind is_mounted.count
          (length behind) c.give_now.new.store c.give_now.new.disk (c.in_ok-give_now.ensures.given choose [] is_mounted.count chooser none)
          (more_taken g.M.StoreMemory.takes g.met.M.StoreMemory.ticks_are_taken choose [] (sent (Configure c.args.config)) tt
          c.requires.settings) in
          inr (channel_full choose c.args.config c.args.seed (stream c.args.count) is_mounted.count is_mounted.most
          (c.in_err-send_all.ensures.full is choose behind is_mounted.count chooser set
          (may_begin choose c.args.config c.requires.in_force.kept)));
      told = c.send_all.ensures.told;
    })

pub returns : goal.returns
returns g c =
    let blocks = c.in_ok-send_all.ensures.given.0 in
    let cut = c.in_ok-send_all.ensures.given.1.0 in
    record {
      filled = on_ok c.keep_house.result _ _ (λ stands. record {
        blocks = blocks;
        cut = cut;
        stands = λ choose chooser.
            let begins = empty_begins g.M.Book.ManifestState.fits choose (g.D.Disk.may_leave c.args.disk.now) c.requires.empty in
            let is_mounted = c.in-Ok.ensures.mounted choose [] 0 0 chooser tt begins nothing c.requires.seen in
            let none = mounted_none g.D.Disk g.M.StoreMemory.takes g.M.Book.ManifestState.fits g.M.StoreMemory.holds choose nothing
            c.in-Ok.store c.mount.new.disk is_mounted in
            let behind = with_order choose [] (sent (Configure c.args.config)) in
            let set = as_all g.D.Disk g.M.StoreMemory.takes g.M.Book.ManifestState.fits g.M.StoreMemory.holds choose behind is_mounted.count
            (length behind) c.give_now.new.store c.give_now.new.disk (c.in_ok-give_now.ensures.given choose [] is_mounted.count chooser none)
            (more_taken g.M.StoreMemory.takes g.met.M.StoreMemory.ticks_are_taken choose [] (sent (Configure c.args.config)) tt
            c.requires.settings) in
            let all = c.in_ok-send_all.ensures.given.1.1 choose behind is_mounted.count chooser set in
            whole g.D.Disk g.M.StoreMemory.takes g.M.Book.ManifestState.fits g.M.StoreMemory.holds choose c.args.config blocks
            c.send_all.new.store.run c.keep_house.new.disk
            (c.send_all.ensures.run ∙ c.give_now.ensures.run
            ∙ first_run g.M.Book.ManifestState.fits c.in-Ok.store.run (c.in-Ok.ensures.number nothing c.requires.seen)) (stands choose _ is_mounted.count chooser all);
      }) c.keep_house.ensures.stands;
      full = λ is choose chooser.
          let begins = empty_begins g.M.Book.ManifestState.fits choose (g.D.Disk.may_leave c.args.disk.now) c.requires.empty in
          let is_mounted = c.in-Ok.ensures.mounted choose [] 0 0 chooser tt begins nothing c.requires.seen in
          let none = mounted_none g.D.Disk g.M.StoreMemory.takes g.M.Book.ManifestState.fits g.M.StoreMemory.holds choose nothing
          c.in-Ok.store c.mount.new.disk is_mounted in
          let behind = with_order choose [] (sent (Configure c.args.config)) in
          let set = as_all g.D.Disk g.M.StoreMemory.takes g.M.Book.ManifestState.fits g.M.StoreMemory.holds choose behind is_mounted.count
          (length behind) c.give_now.new.store c.give_now.new.disk (c.in_ok-give_now.ensures.given choose [] is_mounted.count chooser none)
          (more_taken g.M.StoreMemory.takes g.met.M.StoreMemory.ticks_are_taken choose [] (sent (Configure c.args.config)) tt
          c.requires.settings) in
          let all = c.in_ok-send_all.ensures.given.1.1 choose behind is_mounted.count chooser set in
          inr (turn_full choose c.args.config c.args.seed (stream c.args.count) is_mounted.count is_mounted.most blocks cut
          (c.keep_house.ensures.full is choose (given_all choose behind (sent_all blocks)) is_mounted.count chooser all));
      told = c.keep_house.ensures.told;
    }

pub give_now-requires-clause-over : goal.give_now-requires-clause-over
give_now-requires-clause-over g c = c.in-Ok.ensures.over

pub give_now-requires-clause-told : goal.give_now-requires-clause-told
give_now-requires-clause-told g c =
    tells_on g.D.Disk Anyhow c.args.disk.now c.mount.new.disk c.mount.ensures.told (nothing, c.requires.seen)

pub give_now-requires-clause-takes : goal.give_now-requires-clause-takes
give_now-requires-clause-takes g c = c.requires.settings

pub send_all-requires-clause-over : goal.send_all-requires-clause-over
send_all-requires-clause-over g c = c.in_ok-give_now.ensures.over

pub send_all-requires-clause-told : goal.send_all-requires-clause-told
send_all-requires-clause-told g c = c.give_now.ensures.told

pub send_all-requires-clause-takes : goal.send_all-requires-clause-takes
send_all-requires-clause-takes g c = c.requires.asks

pub keep_house-requires-clause-over : goal.keep_house-requires-clause-over
keep_house-requires-clause-over g c = c.in_ok-send_all.ensures.over

pub keep_house-requires-clause-told : goal.keep_house-requires-clause-told
keep_house-requires-clause-told g c = c.send_all.ensures.told
