use Rattle.std.proofs.Common.{List, ℕ, subst, ◌∙◌}
use Rattle.std.specs.Prelude.{OnOk, OnErr}
use Rattle.ix_base.specs.Lent.{lent_event}
use Rattle.ix_base.specs.Told.{HasWritten, HasBegun}
use Rattle.ix_export.proofs.TextLineLemmas.{line-of-parts}
use Rattle.ix_export.proofs.line_writer.Common.write.Goals as goal

pub returns-clause-written : goal.returns-clause-written
returns-clause-written g c =
    let P : List ℕ → Type 0 = λ l. OnOk c.put_parts.result
    (HasWritten l (g.W.Sink.given c.args.out.now) (g.W.Sink.given c.put_parts.new.out)) in
    subst P (line-of-parts (lent_event c.args.event.now) (c.as_slice.ensures ∙ c.requires.index) (c.as_slice-2.ensures ∙ c.requires.middle))
    c.put_parts.ensures.written

pub returns-clause-begun : goal.returns-clause-begun
returns-clause-begun g c =
    let P : List ℕ → Type 0 = λ l. OnErr c.put_parts.result
    (HasBegun l (g.W.Sink.given c.args.out.now) (g.W.Sink.given c.put_parts.new.out)) in
    subst P (line-of-parts (lent_event c.args.event.now) (c.as_slice.ensures ∙ c.requires.index) (c.as_slice-2.ensures ∙ c.requires.middle))
    c.put_parts.ensures.begun
