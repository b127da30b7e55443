-- What a read of the other files gives, after calls on one.
use Rattle.std.proofs.Common.{◌≡◌, ◌≢◌, ℕ, List, Option, None, Some, refl, sym, subst, ◌∙◌}
use Rattle.ix_base.specs.declared.files.File.{File}
use Rattle.ix_base.specs.Told.{Told}
use Rattle.ix_disk.specs.Image.{Image, MayWrite, Writes, MayRemove, Removes, Apart}
use Rattle.ix_disk.proofs.Apart.{told_apart}

-- a write that succeeded, and one that was begun
pub apart_written : (file : File) (at : ℕ) (bytes : List ℕ) (old new : Option Image) → Told (Writes file at bytes) old new →
    Told (Apart file) old new
apart_written file at bytes old new told = told_apart file (Writes file at bytes) old new (λ a b step. step.others) told

pub apart_begun : (file : File) (at n : ℕ) (old new : Option Image) → Told (MayWrite file at n) old new → Told (Apart file) old new
apart_begun file at n old new told = told_apart file (MayWrite file at n) old new (λ a b step. step.others) told

-- likewise a removal
pub apart_removed : (file : File) (old new : Option Image) → Told (Removes file) old new → Told (Apart file) old new
apart_removed file old new told = told_apart file (Removes file) old new (λ a b step. step.others) told

pub apart_removing : (file : File) (old new : Option Image) → Told (MayRemove file) old new → Told (Apart file) old new
apart_removing file old new told = told_apart file (MayRemove file) old new (λ a b step. step.others) told

apart_alike : (file : File) (old : Option Image) → Told (Apart file) old old
apart_alike file None = tt
apart_alike file (Some old) = λ other ne. refl

-- a call that changes nothing
pub apart_same : (file : File) (old new : Option Image) → new ≡ old → Told (Apart file) old new
apart_same file old new same = subst (λ (now : Option Image). Told (Apart file) old now) (sym same) (apart_alike file old)

-- calls one behind the other
pub apart_on : (file : File) (old mid new : Option Image) → Told (Apart file) old mid → Told (Apart file) mid new →
    Told (Apart file) old new
apart_on file None None None first second = tt
apart_on file None None (Some new) first second = absurd second
apart_on file None (Some mid) new first second = absurd first
apart_on file (Some old) None new first second = absurd first
apart_on file (Some old) (Some mid) None first second = absurd second
apart_on file (Some old) (Some mid) (Some new) first second = λ other ne. second other ne ∙ first other ne

-- and calls that change nothing behind them
pub apart_still : (file : File) (old mid new : Option Image) → Told (Apart file) old mid → new ≡ mid → Told (Apart file) old new
apart_still file old mid new first same = subst (λ (now : Option Image). Told (Apart file) old now) (sym same) first

-- and such calls before them
pub apart_behind : (file : File) (old mid new : Option Image) → mid ≡ old → Told (Apart file) mid new → Told (Apart file) old new
apart_behind file old mid new same second = subst (λ (was : Option Image). Told (Apart file) was new) same second

pub ruleset others = (apart_written, apart_begun, apart_same, apart_on, apart_still, apart_behind)
