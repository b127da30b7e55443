use Rattle.std.proofs.Common.{◌≡◌, ap, ◌∙◌}
use Rattle.std.specs.Prelude.{Result, Err}
use Rattle.ix_recovery.specs.declared.faults.RecoveryFault.{RecoveryFault}
use Rattle.ix_recovery.specs.declared.faults.RecoveryFault.TheVariants as faults
use Rattle.ix_store.specs.declared.memory.BookFault.{BookFault}
use Rattle.ix_store.specs.declared.memory.BookFault.TheVariants as books
use Rattle.ix_store.specs.declared.faulty_item.FaultyItem.{FaultyItem}
use Rattle.ix_apply.proofs.state_machine.StateMachineStoreMemory.from_book.Goals as goal

pub returns-in-Ok-clause-held : goal.returns-in-Ok-clause-held
returns-in-Ok-clause-held c = λ choose history run removed chooser given fit is. record {
  state = c.in-Ok.ensures.done choose history run removed chooser given fit is;
  first = c.in-Ok.ensures.fresh choose history run removed is;
}

same_subject : {T : Type 0} (a b : FaultyItem) → ◌≡◌ {A = Result T BookFault} (Err (books.Bad a)) (Err (books.Bad b)) → a ≡ b
same_subject a b is = cc

pub returns-in-Err-Bad-clause-bad : goal.returns-in-Err-Bad-clause-bad
returns-in-Err-Bad-clause-bad c = λ subject is.
    c.in-Err-Bad.ensures.bad subject (ap (λ (e : RecoveryFault). Err e) (c.in-Err-Bad.field-0-is
    ∙ ap (λ (s : FaultyItem). faults.Bad s) (same_subject c.in-Err-Bad.subject subject is)))

pub returns-in-Err-Bad-clause-sound : goal.returns-in-Err-Bad-clause-sound
returns-in-Err-Bad-clause-sound c = λ subject is.
    c.in-Err-Bad.ensures.sound subject (ap (λ (e : RecoveryFault). Err e) (c.in-Err-Bad.field-0-is
    ∙ ap (λ (s : FaultyItem). faults.Bad s) (same_subject c.in-Err-Bad.subject subject is)))

pub returns-in-Ok-clause-good : goal.returns-in-Ok-clause-good
returns-in-Ok-clause-good c = c.in-Ok.ensures.good
