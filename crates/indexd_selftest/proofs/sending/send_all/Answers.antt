use Rattle.std.proofs.Common.{◌∙◌, ℕ, List, [], ◌∷◌, map, sym, subst}
use Rattle.std.proofs.lemmas.Result.{err_from_is_err_and}
use Rattle.ix_model.specs.Judged.{is_begun}
use Rattle.ix_model.specs.Step.{state_after}
use Rattle.ix_model.specs.declared.commands.Command.TheVariants.{Begin, End}
use Rattle.ix_run.specs.Giving.{given_all}
use Rattle.ix_store.specs.Making.{with_order}
use Rattle.indexd_selftest.specs.Blocks.{AreCut}
use Rattle.indexd_selftest.specs.Full.{OneBlockHasNoRoom}
use Rattle.indexd_selftest.specs.Given.{AsksFor}
use Rattle.indexd_selftest.specs.History.{channel, meta, sent, sent_block}
use Rattle.indexd_selftest.specs.Lines.{stream}
use Rattle.indexd_selftest.proofs.Begun.{may_go_on, opens, stays_open}
use Rattle.indexd_selftest.proofs.Filled.{begin_full, blocks_full, end_full}
use Rattle.indexd_selftest.proofs.Looping.{joined}
use Rattle.indexd_selftest.proofs.Results.{on_ok}
use Rattle.indexd_selftest.proofs.Texts.{begin_asks, end_asks}
use Rattle.indexd_selftest.proofs.sending.send_all.Goals as goal

pub returns-in_err-send : goal.returns-in_err-send
returns-in_err-send g c =
    let p = err_from_is_err_and c.from_residual-in_err-send.result c.from_residual-in_err-send.ensures.1 in
    let P : List ℕ → Type 0 = λ (t : List ℕ). AsksFor t 201 (Begin channel meta) in
    let begins = subst P (sym c.in_ok-begin.ensures) begin_asks in
    rw (p.1, p.2) (record {
      given = tt;
      full = λ is choose history base chooser all none. begin_full choose base history c.args.seed (stream c.args.count)
          (c.in_err-send.ensures.full is (Begin channel meta) begins choose history base chooser all none);
      over = tt;
      run = c.send.ensures.run;
      told = c.send.ensures.told;
    })

pub returns-in_err-send_blocks : goal.returns-in_err-send_blocks
returns-in_err-send_blocks g c =
    let p = err_from_is_err_and c.from_residual-in_err-send_blocks.result c.from_residual-in_err-send_blocks.ensures.1 in
    let P : List ℕ → Type 0 = λ (t : List ℕ). AsksFor t 201 (Begin channel meta) in
    let begins = subst P (sym c.in_ok-begin.ensures) begin_asks in
    rw (p.1, p.2) (record {
      given = tt;
      full = λ is choose history base chooser all none.
          let one = c.in_ok-send.ensures.given (Begin channel meta) begins choose history base chooser all in
          let behind = with_order choose history (sent (Begin channel meta)) in
          let some = c.in_err-send_blocks.ensures.full is choose behind base chooser one (opens choose history) in
          let R : ℕ → Type 0 = λ (x : ℕ). OneBlockHasNoRoom choose base behind (map sent_block) x (stream c.args.count) in
          let S : List ℕ → Type 0 = λ (l : List ℕ). OneBlockHasNoRoom choose base behind (map sent_block) c.new-generator.result.x l in
          blocks_full choose base history c.args.seed (stream c.args.count)
          (subst R c.new-generator.ensures.seed (subst S c.new-generator.ensures.left some));
      over = tt;
      run = c.send_blocks.ensures.run ∙ c.send.ensures.run;
      told = c.send_blocks.ensures.told;
    })

pub returns : goal.returns
returns g c =
    let blocks = c.in_ok-send_blocks.ensures.given.0 in
    let P : List ℕ → Type 0 = λ (t : List ℕ). AsksFor t 201 (Begin channel meta) in
    let Q : List ℕ → Type 0 = λ (t : List ℕ). AsksFor t 200 (End channel) in
    let R : ℕ → Type 0 = λ (x : ℕ). AreCut x (stream c.args.count) blocks in
    let S : List ℕ → Type 0 = λ (l : List ℕ). AreCut c.new-generator.result.x l blocks in
    let begins = subst P (sym c.in_ok-begin.ensures) begin_asks in
    let ends = subst Q (sym c.in_ok-end.ensures) end_asks in
    let cut = subst R c.new-generator.ensures.seed (subst S c.new-generator.ensures.left c.in_ok-send_blocks.ensures.given.1.0) in
    record {
      given = on_ok c.send-2.result _ _ (λ last. (
        blocks,
        (
          cut,
          λ choose history base chooser all.
              let one = c.in_ok-send.ensures.given (Begin channel meta) begins choose history base chooser all in
              let two = c.in_ok-send_blocks.ensures.given.1.1 choose _ base chooser one in
              joined g.D.Disk g.M.StoreMemory.takes g.M.Book.ManifestState.fits g.M.StoreMemory.holds choose
              (with_order choose history (sent (Begin channel meta))) base c.send-2.new.store c.send-2.new.disk (map sent_block blocks)
              (sent (End channel) ∷ []) (last (End channel) ends choose _ base chooser two),
        ),
      )) c.send-2.ensures.given;
      full = λ is choose history base chooser all none.
          let one = c.in_ok-send.ensures.given (Begin channel meta) begins choose history base chooser all in
          let two = c.in_ok-send_blocks.ensures.given.1.1 choose _ base chooser one in
          let behind = given_all choose (with_order choose history (sent (Begin channel meta))) (map sent_block blocks) in
          let opened = stays_open choose (with_order choose history (sent (Begin channel meta))) blocks (opens choose history) in
          end_full choose base history c.args.seed (stream c.args.count) blocks cut
          (c.send-2.ensures.full is (End channel) ends choose behind base chooser two
          (may_go_on (is_begun (state_after choose behind) channel) opened));
      over = c.send-2.ensures.over;
      run = c.send-2.ensures.run ∙ c.send_blocks.ensures.run ∙ c.send.ensures.run;
      told = c.send-2.ensures.told;
    }

pub send-requires-clause-over : goal.send-requires-clause-over
send-requires-clause-over g c = c.requires.over

pub send-requires-clause-told : goal.send-requires-clause-told
send-requires-clause-told g c = c.requires.told

pub send-requires-clause-takes : goal.send-requires-clause-takes
send-requires-clause-takes g c = c.requires.takes

pub send_blocks-requires-clause-over : goal.send_blocks-requires-clause-over
send_blocks-requires-clause-over g c = c.in_ok-send.ensures.over

pub send_blocks-requires-clause-told : goal.send_blocks-requires-clause-told
send_blocks-requires-clause-told g c = c.send.ensures.told

pub send_blocks-requires-clause-takes : goal.send_blocks-requires-clause-takes
send_blocks-requires-clause-takes g c = c.requires.takes

pub send-requires-2-clause-over : goal.send-requires-2-clause-over
send-requires-2-clause-over g c = c.in_ok-send_blocks.ensures.over

pub send-requires-2-clause-told : goal.send-requires-2-clause-told
send-requires-2-clause-told g c = c.send_blocks.ensures.told

pub send-requires-2-clause-takes : goal.send-requires-2-clause-takes
send-requires-2-clause-takes g c = c.requires.takes
