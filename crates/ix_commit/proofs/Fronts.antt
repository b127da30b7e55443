-- Bytes at the front of others.
use Rattle.std.proofs.Common.{◌≡◌, ℕ, ◌+◌, ◌≤◌, List, [], ◌∷◌, ◌++◌, length, take, drop, refl, ap, subst, sym, ◌∙◌, append-nil}
use Rattle.std.proofs.Common.{length-append, arith}
use Rattle.std.proofs.Math.Seq.{take-add}
use Rattle.std.proofs.lemmas.List.{take-take, take_at, length-take-le}
use Rattle.ix_base.specs.Told.{IsFrontOf}
use Rattle.ix_bucket.specs.Append.{HasAt}
use Rattle.ix_commit.specs.Contents.{BeginsWith}

-- bytes behind those at the front
pub front_and_behind : (front more file : List ℕ) (n : ℕ) → n ≡ length front → BeginsWith front file → HasAt n more file →
    BeginsWith (front ++ more) file
front_and_behind front more file n is begins behind =
    let at : take (length more) (drop (length front) file) ≡ more = subst (λ (k : ℕ). take (length more) (drop k file) ≡ more) is behind in
    ap (λ (k : ℕ). take k file) (length-append front more) ∙ take-add (length front) (length more) file ∙ cong2 begins at
  where
    cong2 : {a b c d : List ℕ} → a ≡ b → c ≡ d → a ++ c ≡ b ++ d
    cong2 p q = λ i. p i ++ q i

-- what stands before a place stays there
pub front_stays : (front old new : List ℕ) (n : ℕ) → n ≡ length front → take n new ≡ take n old → BeginsWith front old →
    BeginsWith front new
front_stays front old new n is same begins = subst (λ (k : ℕ). take k new ≡ take k old) is same ∙ begins

-- a front of what stands at the front stands there
pub front_of : (part whole file : List ℕ) → IsFrontOf part whole → BeginsWith whole file → BeginsWith part file
front_of part whole file front begins =
    let l = length part in
    let size : length whole ≡ length part + length front.rest = ap length front.whole_is ∙ length-append part front.rest in
    sym (take-take l (length whole) file (omega (arith, size))) ∙ ap (λ (f : List ℕ). take l f) begins
    ∙ ap (λ (f : List ℕ). take l f) front.whole_is ∙ take_at part front.rest l refl

pub front_itself : (bytes : List ℕ) → IsFrontOf bytes bytes
front_itself bytes = record { rest = []; whole_is = sym (append-nil bytes) }

pub front_of_none : (part whole : List ℕ) → whole ≡ [] → IsFrontOf part whole → part ≡ []
front_of_none [] whole none front = refl
front_of_none (x ∷ part) whole none front =
    let size : length whole ≡ 0 = ap length none in
    absurd (omega (arith, size, ap length front.whole_is))

-- fewer bytes of what stands at the front
pub front_taken : (whole file : List ℕ) (n : ℕ) → n ≤ length whole → BeginsWith whole file → take n file ≡ take n whole
front_taken whole file n le begins = sym (take-take n (length whole) file le) ∙ ap (λ (f : List ℕ). take n f) begins

pub begins_taken : (whole file other : List ℕ) (n : ℕ) → n ≤ length whole → BeginsWith whole file → take n other ≡ take n file →
    BeginsWith (take n whole) other
begins_taken whole file other n le begins same = ap (λ (k : ℕ). take k other) (length-take-le n whole le) ∙ same
    ∙ front_taken whole file n le begins
