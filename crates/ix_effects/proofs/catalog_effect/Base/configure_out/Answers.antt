use Rattle.std.proofs.Common.{subst, sym, ◌∙◌}
use Rattle.ix_effects.specs.declared.catalog_effect.MoveFault.TheVariants as faults
use Rattle.ix_effects.proofs.Failing.{memory_no_full, same_fault}
use Rattle.std.specs.Prelude.{[]}
use Rattle.std.proofs.lemmas.Result.{IfOk-weaker}
use Rattle.ix_effects.specs.Working.{shelves_in, CanBeSaid}
use Rattle.ix_effects.proofs.Configured.{shelves_together, put_together}
use Rattle.ix_catalog.specs.declared.index_table.IndexTable.{IndexTable}
use Rattle.ix_effects.proofs.catalog_effect.Base.configure_out.Goals as goal

pub returns-clause-done : goal.returns-clause-done
returns-clause-done c =
    let b = c.args.self.now in
    IfOk-weaker c.leave.result _ _ (λ moved e new r.
    e ∙ put_together b c.args.outcomes c.args.next.now c.in_ok-work.work c.in_ok-indexes.indexes new c.new.result c.in_ok-work.ensures.done
    c.new.ensures c.in_ok-indexes.ensures r)
    c.leave.ensures.done

pub returns-clause-full : goal.returns-clause-full
returns-clause-full c = λ is new r numbers balanced kept said.
    (let b = c.args.self.now in
    c.leave.ensures.full is
    (subst (λ (s : IndexTable). CanBeSaid [] (shelves_in b) s)
    (sym (shelves_together b c.args.outcomes c.args.next.now c.in_ok-work.work c.in_ok-indexes.indexes new c.in_ok-work.ensures.done
    c.in_ok-indexes.ensures r)) said))

pub returns-in_err-indexes-clause-full : goal.returns-in_err-indexes-clause-full
returns-in_err-indexes-clause-full c = memory_no_full c.from_residual-in_err-indexes.result c.from_residual-in_err-indexes.ensures.1

pub returns-in_err-work-clause-full : goal.returns-in_err-work-clause-full
returns-in_err-work-clause-full c = λ is new r numbers balanced kept said.
    c.work.ensures.full (same_fault c.work.result c.from_residual.result c.in_err-work.field-0.0 faults.Full c.in_err-work.was
    c.from_residual.ensures.1 is) numbers balanced kept
