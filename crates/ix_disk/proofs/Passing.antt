-- A disk that fails calls by itself, and passes the others on to the disk inside.
use Rattle.std.proofs.Common.{◌≡◌, ◌≢◌, ◌≤◌, ◌<◌, ◌+◌, ◌-◌, ℕ, Option, None, Some, Result, refl, inl, inr, arith}
use Rattle.std.specs.Prelude.{IsErr}
use Rattle.ix_base.specs.Faults.{Rose, HasCause}
use Rattle.ix_base.specs.Told.{Told}
use Rattle.ix_disk.specs.Image.{Image, Passes}
use Rattle.ix_disk.specs.Stops.{Stops, FailsOne, calls_before}

rose_own : (inner before now : ℕ) → Rose before now → Rose (inner + before) (inner + now)
rose_own inner before now (inl risen) = inl (omega arith)
rose_own inner before now (inr full) = inr (omega arith)

rose_inner : (before now own later : ℕ) → later ≡ own → Rose before now → Rose (before + own) (now + later)
rose_inner before now own later same (inl risen) = inl (omega arith)
rose_inner before now own later same (inr full) = inr (omega arith)

-- a call that it fails by itself
pub cause_own : {T E : Type 0} (inner before now : ℕ) (result : Result T E) → before ≤ now → Rose before now →
    HasCause (inner + before) (inner + now) result
cause_own inner before now result later rose = record { later = omega (arith, later); failed = λ failed. rose_own inner before now rose }

pub image_stays : (step : Image → Image → Type 0) (seen : Option Image) → ((image : Image) → step image image) → Told step seen seen
image_stays step None stays = tt
image_stays step (Some image) stays = stays image

pub passes_none : {D : Type 0} (may_leave : D → Image → Type 0) (moment : D → ℕ) (left_since : D → ℕ → Image →
    Type 0) (disk : D) (step : Image → Image → Type 0)
    → ((image : Image) → step image image) → Passes may_leave moment left_since disk disk step
passes_none may_leave moment left_since disk step stays = record {
  later = omega arith;
  now = λ image left. (image, left, stays image);
  since = λ t image le left. inl left;
  keeps = λ t image le left. left;
}

pub stops_here : {D T E : Type 0} (faults : D → ℕ) (before after : ℕ) (disk : D) (result : Result T E) → after ≡ before - 1 → before ≡ 0 →
    IsErr result → Stops faults before after disk disk result
stops_here faults before after disk result counted none failed = record {
  counted = counted;
  passed = λ some. absurd (omega (arith, none, some));
  stopped = λ none. (failed, refl);
}

pub fails_here : {D T E : Type 0} (faults : D → ℕ) (before after : Option ℕ) (disk : D) (result : Result T E) →
    after ≡ calls_before before → before ≡ Some 0 → IsErr result → FailsOne faults before after disk disk result
fails_here faults before after disk result counted this failed = record {
  counted = counted;
  passed = λ other. absurd (other this);
  failed = λ this. (failed, refl);
}

-- one that it passes on
pub cause_inner : {T E : Type 0} (before now own later : ℕ) (result : Result T E) → later ≡ own → HasCause before now result →
    HasCause (before + own) (now + later) result
cause_inner before now own later result same cause = record {
  later = omega (arith, cause.later, same);
  failed = λ failed. rose_inner before now own later same (cause.failed failed);
}

pub stops_not : {D T E : Type 0} (faults : D → ℕ) (before after : ℕ) (old new : D) (result : Result T E) → after ≡ before - 1 → 0 < before →
    HasCause (faults old) (faults new) result
    → Stops faults before after old new result
stops_not faults before after old new result counted some cause = record {
  counted = counted;
  passed = λ some. cause;
  stopped = λ none. absurd (omega (arith, none, some));
}

pub fails_not : {D T E : Type 0} (faults : D → ℕ) (before after : Option ℕ) (old new : D) (result : Result T E) →
    after ≡ calls_before before → before ≢ Some 0 → HasCause (faults old) (faults new) result
    → FailsOne faults before after old new result
fails_not faults before after old new result counted other cause = record {
  counted = counted;
  passed = λ other. cause;
  failed = λ this. absurd (other this);
}
