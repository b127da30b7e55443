use Rattle.std.proofs.Common.{ℕ, List, None, sym, subst}
use Rattle.ix_model.specs.Judged.{is_begun}
use Rattle.ix_model.specs.Step.{state_after}
use Rattle.ix_model.specs.declared.commands.Command.TheVariants.{Block}
use Rattle.indexd_selftest.specs.Given.{AsksFor}
use Rattle.indexd_selftest.specs.History.{channel}
use Rattle.indexd_selftest.proofs.Begun.{may_go_on}
use Rattle.indexd_selftest.proofs.Results.{on_ok}
use Rattle.indexd_selftest.proofs.Texts.{block_asks}
use Rattle.indexd_selftest.proofs.sending.send_block.Goals as goal

pub returns : goal.returns
returns g c =
    let P : List ℕ → Type 0 = λ (t : List ℕ). AsksFor t 200 (Block channel c.args.block.now None) in
    let asks = subst P (sym c.in_ok-request.ensures) (block_asks c.args.block.now c.requires.short) in
    record {
      given = on_ok c.send.result _ _ (λ given. given (Block channel c.args.block.now None) asks) c.send.ensures.given;
      full = λ is choose history base chooser all opened.
          c.send.ensures.full is (Block channel c.args.block.now None) asks choose history base chooser all
          (may_go_on (is_begun (state_after choose history) channel) opened);
      over = c.send.ensures.over;
      run = c.send.ensures.run;
      told = c.send.ensures.told;
    }

pub send-requires-clause-over : goal.send-requires-clause-over
send-requires-clause-over g c = c.requires.over

pub send-requires-clause-told : goal.send-requires-clause-told
send-requires-clause-told g c = c.requires.told

pub send-requires-clause-takes : goal.send-requires-clause-takes
send-requires-clause-takes g c = c.requires.takes
