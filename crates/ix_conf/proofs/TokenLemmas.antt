-- Laws of tokens.
use Rattle.std.proofs.Common.{◌≡◌, ℕ, zero, suc, ◌<◌, false, List, [], ◌∷◌, length, drop, refl, ap, arith}
use Rattle.std.specs.Prelude.{None}
use Rattle.ix_conf.specs.declared.tokens.Token.{Token}
use Rattle.ix_conf.specs.declared.tokens.Token.TheVariants.{Byte, Star, Dots, Bar, Open, Close}
use Rattle.ix_conf.specs.Names.{waiting, opened, closed, has_question}

pub short_question : (tokens : List Token) → length tokens < 2 → has_question tokens ≡ false
short_question [] h = refl
short_question (Byte b ∷ []) h = refl
short_question (Star ∷ []) h = refl
short_question (Dots ∷ []) h = refl
short_question (Bar ∷ []) h = refl
short_question (Open ∷ []) h = refl
short_question (Close ∷ []) h = refl
short_question (t ∷ u ∷ tokens) h = absurd (omega arith)

-- an opening parenthesis without a closing one is not mended by what stands before it
pub never_paired : (tokens : List Token) (i : ℕ) → waiting (drop i tokens) ≡ None → waiting tokens ≡ None
never_paired [] zero h = h
never_paired [] (suc i) h = h
never_paired (t ∷ tokens) zero h = h
never_paired (Byte b ∷ tokens) (suc i) h = never_paired tokens i h
never_paired (Star ∷ tokens) (suc i) h = never_paired tokens i h
never_paired (Dots ∷ tokens) (suc i) h = never_paired tokens i h
never_paired (Bar ∷ tokens) (suc i) h = never_paired tokens i h
never_paired (Open ∷ tokens) (suc i) h = ap opened (never_paired tokens i h)
never_paired (Close ∷ tokens) (suc i) h = ap closed (never_paired tokens i h)
