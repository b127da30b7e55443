use Rattle.std.proofs.Common.{◌≡◌, List, rules, ap, inr, subst, sym, ◌∙◌}
use Rattle.ix_recovery.proofs.Failing.{memory_no_bad, no_failure, lack_no_bad}
use Rattle.std.specs.Prelude.{ℕ, Result, Err}
use Rattle.ix_base.specs.declared.events.ChannelMeta.{ChannelMeta}
use Rattle.ix_parse.specs.Form.{IsCarryOf}
use Rattle.ix_parse.specs.Carry.{rules_of, carry_of}
use Rattle.ix_parse.specs.Standing.{StandsFor}
use Rattle.ix_store.specs.declared.faulty_item.FaultyItem.{FaultyItem}
use Rattle.ix_store.specs.declared.faulty_item.FaultyItem.TheVariants as subjects
use Rattle.ix_recovery.specs.declared.faults.RecoveryFault.{RecoveryFault}
use Rattle.ix_recovery.specs.declared.faults.RecoveryFault.TheVariants as faults
use Rattle.ix_recovery.proofs.channels.resume_one.Goals as goal

named : {T : Type 0} (fault : RecoveryFault) (name : List ℕ) (subject : FaultyItem) → fault ≡ faults.Bad (subjects.Channel name) →
    ◌≡◌ {A = Result T RecoveryFault} (Err fault) (Err (faults.Bad subject)) →
    subject ≡ subjects.Channel name
named fault name subject is same = cc

pub returns-in-Err-BadCarry-clause-bad : goal.returns-in-Err-BadCarry-clause-bad
returns-in-Err-BadCarry-clause-bad c = λ subject is. (
  named c.bad_channel-in-Err-BadCarry.result c.in_ok-name.name subject c.bad_channel-in-Err-BadCarry.ensures is
      ∙ ap (λ (name : List ℕ). subjects.Channel name) c.in_ok-name.ensures,
  inr (record {
    settings = c.in_ok-settings.settings;
    chosen = c.in_ok-settings.ensures.chosen;
    usable = c.in_ok-settings.ensures.usable;
    none = λ said carries.
        c.in-Err-BadCarry.ensures.bad (ap (λ f. Err f) c.in-Err-BadCarry.field-0-is) said
        (subst (λ (bytes : List ℕ). IsCarryOf (rules_of c.in_ok-settings.settings) bytes said) (sym c.as_slice.ensures) carries);
  }),
)

pub returns-in_ok-copy-in-Ok-clause-opened : goal.returns-in_ok-copy-in-Ok-clause-opened
returns-in_ok-copy-in-Ok-clause-opened c =
    let settings = c.in_ok-settings.settings in
    record {
      name = search rules;
      meta = search rules;
      indexed = λ none. search rules;
      settings = settings;
      chosen = c.in_ok-settings.ensures.chosen;
      usable = c.in_ok-settings.ensures.usable;
      read = (
        c.in-Ok.ensures.read.0,
        subst (λ (bytes : List ℕ). IsCarryOf (rules_of settings) bytes c.in-Ok.ensures.read.0) c.as_slice.ensures c.in-Ok.ensures.read.1,
      );
      stands = λ stream carries.
          subst (λ (meta : ChannelMeta). StandsFor settings meta stream c.in-Ok.channel) c.in_ok-stated.ensures
          (c.in-Ok.ensures.stands stream
          (subst (λ (bytes : List ℕ). IsCarryOf (rules_of settings) bytes (carry_of settings stream)) (sym c.as_slice.ensures) carries));
    }

pub returns-in_err-name-clause-bad : goal.returns-in_err-name-clause-bad
returns-in_err-name-clause-bad c = λ subject is. memory_no_bad c.from_residual.result subject c.from_residual.ensures.1 is

pub returns-in_err-stated-clause-bad : goal.returns-in_err-stated-clause-bad
returns-in_err-stated-clause-bad c = λ subject is. memory_no_bad c.from_residual-in_err-stated.result subject
    c.from_residual-in_err-stated.ensures.1 is

pub returns-in_err-settings-clause-bad : goal.returns-in_err-settings-clause-bad
returns-in_err-settings-clause-bad c = λ subject is. memory_no_bad c.from_residual-in_err-settings.result subject
    c.from_residual-in_err-settings.ensures.1 is

pub returns-in_ok-copy-in-Ok-clause-bad : goal.returns-in_ok-copy-in-Ok-clause-bad
returns-in_ok-copy-in-Ok-clause-bad c = λ subject is. absurd (no_failure _ _ is)

pub returns-in-Err-NoMemory-clause-bad : goal.returns-in-Err-NoMemory-clause-bad
returns-in-Err-NoMemory-clause-bad c = λ subject is. absurd (lack_no_bad subject is)
