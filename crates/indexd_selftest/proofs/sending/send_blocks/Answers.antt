use Rattle.std.proofs.Common.{◌≤◌, ◌∙◌, ℕ, List, [], ◌∷◌, ◌++◌, ap, length, map, refl, subst, sym}
use Rattle.std.specs.Prelude.{Ok}
use Rattle.std.proofs.lemmas.List.{append-nil}
use Rattle.std.proofs.lemmas.Result.{err_from_is_err_and}
use Rattle.ix_run.specs.Giving.{given_all}
use Rattle.ix_store.specs.Making.{with_order}
use Rattle.indexd_selftest.specs.Blocks.{AreCut, IsCutOff, left}
use Rattle.indexd_selftest.specs.Full.{HasNoRoom}
use Rattle.indexd_selftest.specs.Given.{RepresentsAll}
use Rattle.indexd_selftest.specs.History.{sent_block}
use Rattle.indexd_selftest.proofs.Begun.{stays_open}
use Rattle.indexd_selftest.proofs.Filled.{block_full}
use Rattle.indexd_selftest.proofs.Looping.{block_short, cut_more, left_less, one_more}
use Rattle.indexd_selftest.proofs.Results.{some_by}
use Rattle.indexd_selftest.proofs.sending.send_blocks.Goals as goal

pub loop-block-init : goal.loop-block-init
loop-block-init g c = record {
  over = c.requires.over;
  told = c.requires.told;
  run = refl;
  blocks = [];
  cut = λ more is. is;
  given = λ choose history base chooser all. all;
}

pub loop-block-preserved : goal.loop-block-preserved
loop-block-preserved g c =
    let before = c.loop-block.invariant in
    let block = c.in-Some.block in
    let off = some_by c.in_ok-block.field-0 block (IsCutOff c.loop-block.generator c.next_block.new.self) c.in-Some.is
    c.in_ok-block.ensures.block in
    record {
      over = c.in_ok-send_block.ensures.over;
      told = c.in_ok-send_block.ensures.told;
      run = c.in_ok-send_block.ensures.run ∙ before.run;
      blocks = before.blocks ++ block ∷ [];
      cut = λ more is. cut_more c.args.generator.now.x (left c.args.generator.now) c.loop-block.generator c.next_block.new.self block
          before.blocks more off before.cut is;
      given = λ choose history base chooser all.
          let behind = given_all choose history (map sent_block before.blocks) in
          let P : List ℕ → Type 0 = λ (b : List ℕ). RepresentsAll g.D.Disk g.M.StoreMemory.takes g.M.Book.ManifestState.fits
          g.M.StoreMemory.holds choose (with_order choose behind (sent_block b)) base c.send_block.new.store c.send_block.new.disk in
          one_more g.D.Disk g.M.StoreMemory.takes g.M.Book.ManifestState.fits g.M.StoreMemory.holds choose history base
          c.send_block.new.store c.send_block.new.disk before.blocks block
          (subst P c.as_slice.ensures
          (c.in_ok-send_block.ensures.given choose behind base chooser (before.given choose history base chooser all)));
    }

pub loop-block-smaller : goal.loop-block-smaller
loop-block-smaller g c = left_less c.loop-block.generator c.next_block.new.self c.in-Some.block
    (some_by c.in_ok-block.field-0 c.in-Some.block (IsCutOff c.loop-block.generator c.next_block.new.self) c.in-Some.is
    c.in_ok-block.ensures.block)

pub send_block-requires-clause-over : goal.send_block-requires-clause-over
send_block-requires-clause-over g c = c.loop-block.invariant.over

pub send_block-requires-clause-told : goal.send_block-requires-clause-told
send_block-requires-clause-told g c = c.loop-block.invariant.told

pub send_block-requires-clause-takes : goal.send_block-requires-clause-takes
send_block-requires-clause-takes g c = c.requires.takes

pub send_block-requires-clause-short : goal.send_block-requires-clause-short
send_block-requires-clause-short g c = subst (λ (b : List ℕ). length b ≤ 4096) (sym c.as_slice.ensures)
    (block_short c.loop-block.generator c.next_block.new.self c.in-Some.block
    (some_by c.in_ok-block.field-0 c.in-Some.block (IsCutOff c.loop-block.generator c.next_block.new.self) c.in-Some.is
    c.in_ok-block.ensures.block))

pub returns-in_err-send_block : goal.returns-in_err-send_block
returns-in_err-send_block g c =
    let p = err_from_is_err_and c.from_residual-in_err-send_block.result c.from_residual-in_err-send_block.ensures.1 in
    let before = c.loop-block.invariant in
    let off = some_by c.in_ok-block.field-0 c.in-Some.block (IsCutOff c.loop-block.generator c.next_block.new.self) c.in-Some.is
    c.in_ok-block.ensures.block in
    rw (p.1, p.2) (record {
      given = tt;
      full = λ is choose history base chooser all opened.
          let behind = given_all choose history (map sent_block before.blocks) in
          let P : List ℕ → Type 0 = λ (b : List ℕ). HasNoRoom choose base behind (sent_block b) in
          block_full choose base history c.args.generator.now.x (left c.args.generator.now) c.loop-block.generator c.next_block.new.self
          c.in-Some.block before.blocks off before.cut
          (subst P c.as_slice.ensures (c.in_err-send_block.ensures.full is choose behind base chooser
          (before.given choose history base chooser all) (stays_open choose history before.blocks opened)));
      over = tt;
      run = c.send_block.ensures.run ∙ before.run;
      told = c.send_block.ensures.told;
    })

pub returns : goal.returns
returns g c =
    let before = c.loop-block.invariant in
    let P : List (List ℕ) → Type 0 = λ (l : List (List ℕ)). AreCut c.args.generator.now.x (left c.args.generator.now) l in
    record {
      given = (
        before.blocks,
        (
          subst P (append-nil before.blocks)
              (before.cut [] (c.in_ok-block.ensures.none (ap Ok c.in_default.is))),
          before.given,
        ),
      );
      full = λ is. absurd cc;
      over = before.over;
      run = before.run;
      told = before.told;
    }
