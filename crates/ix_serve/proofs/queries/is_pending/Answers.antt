use Rattle.std.proofs.Common.{◌≡◌, ◌∙◌, ◌&&◌, ℕ, not, ap, nat_lt}
use Rattle.std.specs.Prelude.{◌==◌, drop}
use Rattle.ix_store.specs.Counting.{numbers}
use Rattle.ix_serve.specs.Entries.{committed, is_acked}
use Rattle.ix_serve.proofs.queries.is_pending.Goals as goal

pub returns : goal.returns
returns g c = λ e old at.
    let own : c.run-own.result ≡ e.run = c.run-own.ensures ∙ at.0 in
    let drawn : c.drawn-drawn.result ≡ numbers (drop e.base e.history) = c.drawn-drawn.ensures e.choose e.history e.base e.kept old at.1 in
    let acked : c.acked-acked.result ≡ is_acked e c.args.run c.args.number =
    c.acked-acked.ensures e.choose e.history e.base e.kept old at.1
    ∙ ap (λ (r : ℕ). (c.args.run == r) && nat_lt c.args.number (committed e)) at.0 in
    c.is_waiting.ensures ∙ (λ i. (c.args.run == own i) && (nat_lt c.args.number (drawn i) && not (acked i)))
