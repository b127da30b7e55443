use Rattle.std.proofs.Common.{rules, ◌≡◌, refl}
use Rattle.ix_pikevm.proofs.program.Program.copy.Goals as goal

pub returns : goal.returns
returns c =
    let p = c.args.self.now in
    let code : c.in_ok-code.code.items ≡ p.code.items = search rules in
    let asks : c.in_ok-asks.asks.items ≡ p.asks.items = search rules in
    let inner : c.in_ok-inner.inner.items ≡ p.inner.items = search rules in
    record { code = code; start = refl; asks = asks; inner = inner }
