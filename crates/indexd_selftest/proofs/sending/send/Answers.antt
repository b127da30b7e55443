use Rattle.std.proofs.Common.{◌∙◌, sym}
use Rattle.indexd_selftest.proofs.Replied.{replied_open, sent_by, sent_full}
use Rattle.indexd_selftest.proofs.Results.{err_back}
use Rattle.indexd_selftest.proofs.sending.send.Goals as goal

pub returns-then-is_replied : goal.returns-then-is_replied
returns-then-is_replied g c =
    let replied = sym c.is_replied.ensures ∙ c.if-is_replied.true in
    record {
      given = λ command asks choose history base chooser all.
          sent_by g.D.Disk g.M.StoreMemory.takes g.M.Book.ManifestState.fits g.M.StoreMemory.holds g.met.M.StoreMemory.ticks_are_taken
          c.requires.takes c.args.request command choose history base all.kept c.args.store.now.run c.args.wanted _ _ _ _ _
          c.serve_one-came.new.store c.args.disk.now c.serve_one-came.new.disk c.serve_one-came.result asks all.taken
          c.new-link.ensures.left replied (c.serve_one-came.ensures.serves choose history base all.kept chooser all.taken all.hold);
      full = λ is. absurd cc;
      over = c.serve_one-came.ensures.over (replied_open c.serve_one-came.result c.args.wanted replied);
      run = c.serve_one-came.ensures.run;
      told = c.serve_one-came.ensures.told c.requires.told;
    }

pub returns : goal.returns
returns g c =
    let other = sym c.is_replied.ensures ∙ c.if-is_replied.false in
    let told = c.serve_one-came.ensures.told c.requires.told in
    record {
      given = tt;
      full = λ is command asks choose history base chooser all none.
          sent_full g.D.Disk g.M.StoreMemory.takes g.M.Book.ManifestState.fits g.M.StoreMemory.holds c.args.request command choose history
          base all.kept c.args.store.now.run c.args.wanted _ _ _ _ _ c.serve_one-came.new.store c.args.disk.now c.serve_one-came.new.disk
          c.serve_one-came.result asks none told c.new-link.ensures.left other (sym c.of_served.ensures ∙ err_back is)
          (c.serve_one-came.ensures.serves choose history base all.kept chooser all.taken all.hold);
      over = tt;
      run = c.serve_one-came.ensures.run;
      told = told;
    }

pub serve_one-came-requires-clause-over : goal.serve_one-came-requires-clause-over
serve_one-came-requires-clause-over g c = c.requires.over

pub serve_one-came-requires-clause-takes : goal.serve_one-came-requires-clause-takes
serve_one-came-requires-clause-takes g c = c.requires.takes
