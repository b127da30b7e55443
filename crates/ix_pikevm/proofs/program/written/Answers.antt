use Rattle.std.proofs.Common.{◌≡◌, length, subst}
use Rattle.std.specs.Prelude.{slice_get, Some}
use Rattle.ix_pikevm.specs.Written.{IsCollected}
use Rattle.ix_pikevm.proofs.AskLemmas.{collected-asked, collected-asks, collected-fit, collected-code, collected-sets}
use Rattle.ix_pikevm.proofs.program.written.Goals as goal

pub ask_all-requires-clause-rows : goal.ask_all-requires-clause-rows
ask_all-requires-clause-rows c = λ pc i e.
    (c.in_ok-start.ensures.fits.right pc i (subst (λ l. slice_get l pc ≡ Some i) c.deref.ensures.value e)).row

pub returns : goal.returns
returns c =
    let k : IsCollected c.args.p.now.rows c.write_whole.new.code.items (length c.write_whole.new.code.items) c.ask_all.new.asks.items
    c.ask_all.new.inner.items =
    subst (λ l. IsCollected c.args.p.now.rows l (length l) c.ask_all.new.asks.items c.ask_all.new.inner.items) c.deref.ensures.value
    c.in_ok-ask_all.ensures in
    record {
      code = c.in_ok-start.ensures;
      asked = collected-asked c.args.p.now.rows c.write_whole.new.code.items c.ask_all.new.asks.items c.ask_all.new.inner.items k;
      asks = collected-asks c.args.p.now.rows c.ask_all.new.asks.items c.ask_all.new.inner.items k.collecting;
      fit = collected-fit c.args.p.now.rows c.ask_all.new.asks.items c.ask_all.new.inner.items k.collecting;
      inner = collected-code c.args.p.now.rows c.ask_all.new.asks.items c.ask_all.new.inner.items k.collecting;
      insides = collected-sets c.args.p.now.rows c.ask_all.new.asks.items c.ask_all.new.inner.items k.collecting;
      plain = k.collecting.plain;
    }
