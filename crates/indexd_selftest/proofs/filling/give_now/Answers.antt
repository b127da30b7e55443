use Rattle.std.proofs.Common.{◌∙◌, ap, rules, sym}
use Rattle.std.proofs.lemmas.Int.{to_z-of_z}
use mir.Val.{SFits}
use Rattle.std.specs.Int.{w64}
use Rattle.std.specs.Prelude.{Err}
use Rattle.ix_commit.specs.Contents.{Anyhow}
use Rattle.ix_serve.proofs.Standing.{tells_on}
use Rattle.indexd_selftest.proofs.Results.{commit_full, err_back, give_full}
use Rattle.indexd_selftest.proofs.Standing.{not_given_full}
use Rattle.indexd_selftest.proofs.filling.give_now.Goals as goal

pub returns-in-Err : goal.returns-in-Err
returns-in-Err g c =
    let told = tells_on g.D.Disk Anyhow c.args.disk.now c.give.new.disk c.give.ensures.told c.requires.told in
    record {
      given = tt;
      full = λ is choose history base chooser all none.
          let fits : SFits w64 c.args.moment = search rules in
          let not = simp to_z-of_z at (c.in-Err.ensures.fault choose history base all.kept chooser all.taken all.hold) in
          give_full c.in-Err.fault (sym c.of_give.ensures ∙ err_back is)
          (λ refusal same other. not_given_full g.D.Disk g.M.StoreMemory.takes g.M.Book.ManifestState.fits g.M.StoreMemory.holds choose
          history base c.args.store.now c.give.new.store c.args.disk.now c.give.new.disk
          (record { command = c.args.command; moment = c.args.moment }) c.in-Err.fault refusal all none same other not)
          (λ file place same. c.in-Err.ensures.undamaged file place (ap Err same) choose history base all.kept chooser all.taken all.hold
          told.0 told.1);
      over = tt;
      idle = tt;
      run = c.give.ensures.run;
      told = told;
    }

pub returns-in-Ok-commit : goal.returns-in-Ok-commit
returns-in-Ok-commit g c =
    let given_told = tells_on g.D.Disk Anyhow c.args.disk.now c.give.new.disk c.give.ensures.told c.requires.told in
    record {
      given = λ choose history base chooser all.
          let fits : SFits w64 c.args.moment = search rules in
          let is = simp to_z-of_z at (c.in-Ok.ensures.given choose history base all.kept chooser all.taken all.hold) in
          c.in-Ok-commit.ensures.done choose _ base is.gone.count is.gone.hold;
      full = λ is. absurd cc;
      over = c.in-Ok-commit.ensures.over;
      idle = c.in-Ok-commit.ensures.idle;
      run = c.commit.ensures.run ∙ c.give.ensures.run;
      told = tells_on g.D.Disk Anyhow c.give.new.disk c.commit.new.disk c.commit.ensures.told given_told;
    }

pub returns-in-Err-commit : goal.returns-in-Err-commit
returns-in-Err-commit g c =
    let given_told = tells_on g.D.Disk Anyhow c.args.disk.now c.give.new.disk c.give.ensures.told c.requires.told in
    let told = tells_on g.D.Disk Anyhow c.give.new.disk c.commit.new.disk c.commit.ensures.told given_told in
    record {
      given = tt;
      full = λ is choose history base chooser all none.
          let fits : SFits w64 c.args.moment = search rules in
          let given = simp to_z-of_z at (c.in-Ok.ensures.given choose history base all.kept chooser all.taken all.hold) in
          absurd (commit_full c.in-Err-commit.fault (sym c.of_commit.ensures ∙ err_back is)
          (λ file place same. c.in-Err-commit.ensures.undamaged file place (ap Err same) choose _ base given.gone.count given.gone.hold
          told.0 told.1));
      over = tt;
      idle = tt;
      run = c.commit.ensures.run ∙ c.give.ensures.run;
      told = told;
    }

pub commit-requires : goal.commit-requires
commit-requires g c = c.in-Ok.ensures.over

pub give-requires-clause-over : goal.give-requires-clause-over
give-requires-clause-over g c = c.requires.over
