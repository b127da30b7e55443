-- Code without lookaheads.
use Rattle.std.proofs.Common.{◌≡◌, ℕ, inl, inr, Bool, true, false, List, [], ◌∷◌, ◌++◌, Some, subst, arith, set}
use Rattle.std.specs.Prelude.{slice_get}
use Rattle.ix_pikevm.specs.declared.code.Instr.{Instr}
use Rattle.ix_pikevm.specs.declared.code.Instr.TheVariants.{Look}
use Rattle.ix_pikevm.specs.Looks.{HasNoLook}
use Rattle.ix_pikevm.specs.Aims.{choice_of}
use Rattle.ix_pikevm.proofs.AimLemmas.{get-snoc}
use Rattle.ix_pikevm.proofs.CountLemmas.{get-set}

abbrev pub IsNoLook : Instr → Type 0
IsNoLook i = (piece next : ℕ) → i ≡ Look piece next → ⊥

pub no-look-push : (code new : List Instr) (i : Instr) → new ≡ code ++ i ∷ [] → IsNoLook i → HasNoLook code → HasNoLook new
no-look-push code new i is one free pc piece next e =
    elim (get-snoc code i (Look piece next) pc (subst (λ l. slice_get l pc ≡ Some (Look piece next)) is e)) [
      | inl f ↦ free pc piece next f
      | inr f ↦ one piece next f.1
    ]

pub no-look-set : (code : List Instr) (at : ℕ) (i : Instr) → IsNoLook i → HasNoLook code → HasNoLook (set code at i)
no-look-set code at i one free pc piece next e =
    elim (get-set code at pc i (Look piece next) e) [
      | inl f ↦ one piece next f.1
      | inr f ↦ free pc piece next f.1
    ]

pub choice-no-look : (lazy : Bool) (turn next : ℕ) → IsNoLook (choice_of lazy turn next)
choice-no-look true turn next piece after e = grind (arith, e)
choice-no-look false turn next piece after e = grind (arith, e)
