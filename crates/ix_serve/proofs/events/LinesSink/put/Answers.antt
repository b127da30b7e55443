use Rattle.std.proofs.Common.{ℕ, List, sym, subst}
use Rattle.ix_base.specs.Told.{Began}
use Rattle.ix_base.proofs.ToldLemmas.{began-either}
use Rattle.ix_serve.proofs.events.LinesSink.put.Goals as goal

pub returns-then-bytes-room-clause-begun : goal.returns-then-bytes-room-clause-begun
returns-then-bytes-room-clause-begun c = record {
  told = subst (λ (l : List ℕ). Began c.args.bytes.now c.args.self.now.bytes l) (sym c.fail.ensures.bytes)
      (began-either c.extend.result c.saturating_sub-room.result c.args.bytes.now c.args.self.now.bytes c.extend.new.self
      c.extend.ensures.ok c.extend.ensures.err);
}
