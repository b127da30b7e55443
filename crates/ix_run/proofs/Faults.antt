-- What one fault says of another.
use Rattle.std.proofs.Common.{◌≡◌, ◌∙◌, false, refl, sym}
use Rattle.std.proofs.lemmas.Bool.{true≢false}
use Rattle.std.specs.Prelude.{Result, Ok, Err, IfErr}
use Rattle.ix_commit.specs.declared.fault.CommitFault.{CommitFault}
use Rattle.ix_model.specs.declared.answers.Accepted.{Accepted}
use Rattle.ix_model.specs.declared.answers.Refusal.{Refusal}
use Rattle.ix_run.specs.declared.giving.GiveFault.{GiveFault}
use Rattle.ix_run.specs.declared.giving.GiveFault.TheVariants as faults
use Rattle.ix_run.specs.Storing.{is_cut}

pub not_ok : {answer : Accepted} {fault : GiveFault} → (let result : Result Accepted GiveFault = Ok answer in result ≡ Err fault) → ⊥
not_ok is = cc

pub refused_or_commit : {refusal : Refusal} {cause : CommitFault} → faults.Refused refusal ≡ faults.Commit cause → ⊥
refused_or_commit is = cc

pub commit_or_refused : {refusal : Refusal} {cause : CommitFault} → faults.Commit cause ≡ faults.Refused refusal → ⊥
commit_or_refused is = cc

pub not_commit : {refusal : Refusal} {cause : CommitFault} →
    (let result : Result Accepted GiveFault = Err (faults.Refused refusal) in result ≡ Err (faults.Commit cause)) → ⊥
not_commit is = cc

pub cause_is : (a b : CommitFault) → faults.Commit a ≡ faults.Commit b → a ≡ b
cause_is a b is = cc

pub cause_back : (a b : CommitFault) → (let result : Result Accepted GiveFault = Err (faults.Commit a) in result ≡ Err (faults.Commit b)) →
    a ≡ b
cause_back a b is = cc

pub if_err : {T E : Type 0} {P Q : E → Type 0} (result : Result T E) → ((fault : E) → P fault → Q fault) → IfErr result P → IfErr result Q
if_err (Ok value) so is = tt
if_err (Err fault) so is = so fault is

-- ---- where commands are given one by one

pub given_ok : {done : Unit} {fault : GiveFault} → (let result : Result Unit GiveFault = Ok done in result ≡ Err fault) → ⊥
given_ok is = cc

pub fault_is : (a b : GiveFault) → (let result : Result Unit GiveFault = Err a in result ≡ Err b) → a ≡ b
fault_is a b is = cc

-- what is refused is no fault of the disk
pub refused_uncut : (fault : GiveFault) (refusal : Refusal) (cause : CommitFault) → fault ≡ faults.Refused refusal →
    (let result : Result Unit GiveFault = Err fault in result ≡ Err (faults.Commit cause)) → ⊥
refused_uncut fault refusal cause refused is = refused_or_commit (sym refused ∙ fault_is fault (faults.Commit cause) is)

pub uncut_refused : (fault : GiveFault) → (let result : Result Unit GiveFault = Err fault in is_cut result ≡ false) → (refusal : Refusal)
    × (fault ≡ faults.Refused refusal)
uncut_refused (faults.Refused refusal) uncut = (refusal, refl)
uncut_refused (faults.Commit cause) uncut = absurd (true≢false uncut)
