-- What is known where an instruction was put behind the others.
use Rattle.std.proofs.Common.{◌≡◌, ℕ, ◌<◌, ◌≤◌, Bool, List, [], ◌∷◌, ◌++◌, Result, Ok, Err, IfOk, OnOk, length, length-append, arith}
use Rattle.ix_pikevm.specs.declared.code.Instr.{Instr}
use Rattle.ix_pikevm.specs.declared.code.Instr.TheVariants.{Jump, Byte, TextStart, TextEnd, Word}
use Rattle.ix_pikevm.proofs.PlainLemmas.{IsNoLook}

-- where there was room, what follows from its place
pub emitted : {E : Type 0} (old new : List Instr) (instr : Instr) (P : ℕ → Type 0) (result : Result ℕ E) →
    ((pc : ℕ) → new ≡ old ++ instr ∷ [] → pc ≡ length old → P pc) →
    OnOk result (new ≡ old ++ instr ∷ []) → IfOk result (λ pc. pc ≡ length old) → IfOk result P
emitted old new instr P (Ok pc) known is here = known pc is here
emitted old new instr P (Err e) known is here = tt

pub put-within : (old new : List Instr) (instr : Instr) (pc : ℕ) → new ≡ old ++ instr ∷ [] → pc ≡ length old → pc < length new
put-within old new instr pc is here = rw (is, here, length-append) (omega arith)

pub put-longer : (old new : List Instr) (instr : Instr) → new ≡ old ++ instr ∷ [] → length old ≤ length new
put-longer old new instr is = rw (is, length-append) (omega arith)

-- whatever came of it
pub in-any : {E : Type 0} (P : Type 0) (result : Result ℕ E) → P → OnOk result P
in-any P (Ok pc) known = known
in-any P (Err e) known = tt

pub byte-no-look : (set next : ℕ) → IsNoLook (Byte set next)
byte-no-look set next piece after e = cc

pub start-no-look : (lines : Bool) (next : ℕ) → IsNoLook (TextStart lines next)
start-no-look lines next piece after e = cc

pub end-no-look : (lines : Bool) (next : ℕ) → IsNoLook (TextEnd lines next)
end-no-look lines next piece after e = cc

pub word-no-look : (next : ℕ) → IsNoLook (Word next)
word-no-look next piece after e = cc

pub jump-no-look : (next : ℕ) → IsNoLook (Jump next)
jump-no-look next piece after e = cc
