-- Why a call of a disk in memory failed, and what it leaves in the record.
use Rattle.std.proofs.Common.{◌≡◌, ◌≤◌, ◌⊎◌, ◌++◌, ◌∷◌, [], ℕ, List, Result, Ok, Err, false, is_err, sym, ◌∙◌, ap, inl, inr, subst, arith}
use Rattle.std.specs.Prelude.{IsErr}
use Rattle.std.proofs.lemmas.Bool.{true≢false}
use Rattle.ix_base.specs.Faults.{Rose, HasCause}
use Rattle.ix_base.specs.Plans.{CountsCall}
use Rattle.ix_base.specs.declared.faults.FailPlan.{FailPlan}
use Rattle.ix_base.specs.declared.files.File.{File}
use Rattle.ix_disk.specs.Recorded.{Recorded}
use Rattle.ix_disk.specs.declared.past.Call.{Call}
use Rattle.ix_disk.specs.declared.past.Call.TheVariants.{Wrote}
use Rattle.ix_disk.specs.declared.past.Past.{Past}
use Rattle.ix_disk.proofs.Kept.{copied_write}
use Rattle.ix_disk.proofs.Runs.{rose_later}

module _ {T E : Type 0} (first mid last : ℕ) (result : Result T E) (le : first ≤ mid) (more : mid ≤ last) where
  -- the second of two steps failed, or neither did
  pub cause_second : Rose mid last → HasCause first last result
  cause_second rose = record { later = omega (arith, le, more); failed = λ failed. rose_later first mid last le rose }

  pub cause_none : is_err result ≡ false → HasCause first last result
  cause_none ok = record { later = omega (arith, le, more); failed = λ failed. absurd (true≢false (sym failed ∙ ok)) }

-- a call that found no room is not in the record
pub recorded_short : {T E : Type 0} (old new : Past) (done begun : Call) (cause : Type 0) (result : Result T E) → IsErr result →
    Rose old.shortages new.shortages → new.calls.items ≡ old.calls.items
    → Recorded old new done begun cause result
recorded_short old new done begun cause (Ok value) failed rose same = absurd (true≢false (sym failed))
recorded_short old new done begun cause (Err fault) failed rose same = inr (rose, same)

pub rose_same : (before mid now : ℕ) → mid ≡ before → Rose mid now → Rose before now
rose_same before mid now same rose = subst (λ (n : ℕ). Rose n now) same rose

-- a write that fails, behind calls that are the same, of a copy of its bytes
pub recorded_begun : (Why : Type 0) (before mid after : ℕ) (calls held now : List Call) (file : File) (at : ℕ) (copy bytes : List ℕ) →
    mid ≡ before → held ≡ calls → copy ≡ bytes → Why
    → (now ≡ held ++ Wrote file at copy false ∷ []) ⊎ (Rose mid after × (now ≡ held)) →
    (Why × (now ≡ calls ++ Wrote file at bytes false ∷ [])) ⊎ (Rose before after × (now ≡ calls))
recorded_begun Why before mid after calls held now file at copy bytes stood same copied why (inl kept) =
    inl (why, kept ∙ copied_write calls held file at copy bytes false same copied)
recorded_begun Why before mid after calls held now file at copy bytes stood same copied why (inr short) =
    inr (rose_same before mid after stood short.0, short.1 ∙ same)

-- a call is counted at its start
pub counted_then : (old mid new : FailPlan) → new.calls ≡ mid.calls → new.failing ≡ mid.failing → CountsCall old mid → CountsCall old new
counted_then old mid new number list counts = record { number = number ∙ counts.number; list = list ∙ counts.list }

-- a call that is kept in the record, behind its count
pub counted_kept : (old mid kept : FailPlan) → kept ≡ mid → CountsCall old mid → CountsCall old kept
counted_kept old mid kept is counts = subst (λ (plan : FailPlan). CountsCall old plan) (sym is) counts

pub cause_kept : {T E : Type 0} (first : ℕ) (mid kept : FailPlan) (result : Result T E) → first ≤ mid.faults → kept ≡ mid →
    is_err result ≡ false → HasCause first kept.faults result
cause_kept first mid kept result le is ok = cause_none first mid.faults kept.faults result le
    (omega (arith, ap (λ (plan : FailPlan). plan.faults) is)) ok

-- and fails then
pub cause_due : {T E : Type 0} (first : ℕ) (mid kept : FailPlan) (last : ℕ) (result : Result T E) → first ≤ mid.faults → kept ≡ mid →
    kept.faults ≤ last → Rose kept.faults last → HasCause first last result
cause_due first mid kept last result le is more rose = cause_second first kept.faults last result
    (omega (arith, le, ap (λ (plan : FailPlan). plan.faults) is)) more rose
