-- Whether settings are the same.
use Rattle.std.proofs.Common.{◌≡◌, ◌≢◌, ◌<◌, ◌+◌, ◌&&◌, ℕ, zero, suc, Bool, true, false, List, [], ◌∷◌, length, drop, get_or, refl, arith}
use Rattle.std.proofs.Math.Numerals.{add-one}
use Rattle.std.proofs.Math.Seq.{drop-cons}
use Rattle.ix_items.specs.declared.items.Kept.{Kept}
use Rattle.indexd_run.specs.Ends.{same_entry, same_kept}

pub other_lengths : (a b : List Kept) → length a ≢ length b → false ≡ same_kept a b
other_lengths [] [] other = absurd (other refl)
other_lengths [] (b ∷ bs) other = refl
other_lengths (a ∷ more) [] other = refl
other_lengths (a ∷ more) (b ∷ bs) other = behind (same_entry a b) (other_lengths more bs (λ same. other (omega (arith, same)))) where
  behind : (here : Bool) → false ≡ same_kept more bs → false ≡ here && same_kept more bs
  behind true is = is
  behind false is = refl

pub one_by_one : (a b : List Kept) (i : ℕ) (d e : Kept) → i < length a → i < length b →
    same_kept (drop i a) (drop i b) ≡ same_entry (get_or a i d) (get_or b i e) && same_kept (drop (i + 1) a) (drop (i + 1) b)
one_by_one a b i d e in_a in_b = rw (drop-cons a i d, drop-cons b i e, add-one) refl

pub none_more : (a b : List Kept) (i : ℕ) → length a ≡ i → length b ≡ i → same_kept (drop i a) (drop i b) ≡ true
none_more [] [] i at_a at_b = elim i as (λ (n : ℕ). same_kept (drop n []) (drop n []) ≡ true) [ zero ↦ refl | suc n ↦ refl ]
none_more [] (b ∷ bs) i at_a at_b = absurd (omega (arith, at_a, at_b))
none_more (a ∷ more) [] i at_a at_b = absurd (omega (arith, at_a, at_b))
none_more (a ∷ more) (b ∷ bs) zero at_a at_b = absurd (omega (arith, at_a))
none_more (a ∷ more) (b ∷ bs) (suc i) at_a at_b = none_more more bs i (omega (arith, at_a)) (omega (arith, at_b))
