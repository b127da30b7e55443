-- What a scan keeps while bytes come.
use Rattle.std.proofs.Common.{◌≡◌, ℕ, zero, suc, ◌+◌, ◌-◌, ◌≤◌, List, [], ◌∷◌, ◌++◌, length, take, true, false, Option, Some, None, inl}
use Rattle.std.proofs.Common.{inr, refl, sym, ◌∙◌, ap, subst, arith}
use Rattle.std.specs.Prelude.{IfSome}
use Rattle.ix_pattern.specs.Rows.{Rows}
use Rattle.ix_pikevm.specs.Attempts.{IsAttemptOn}
use Rattle.ix_pikevm.specs.declared.program.Program.{Program}
use Rattle.ix_pikevm.specs.declared.attempt.Attempt.{Attempt}
use Rattle.ix_pikevm.proofs.AttemptLemmas.{stands-more}
use Rattle.ix_match.specs.declared.scan_state.ScanState.{ScanState}
use Rattle.ix_match.specs.Scans.{Scanned, GoesOn}
use Rattle.ix_match.specs.Searches.{IsKept, KeepsFor}

take-append : (n : ℕ) (xs ys : List ℕ) → take n (xs ++ ys) ≡ take n xs ++ take (n - length xs) ys
take-append zero xs ys = let e : 0 - length xs ≡ 0 = omega arith in rw e refl
take-append (suc n) [] ys = let e : suc n - 0 ≡ suc n = omega arith in rw e refl
take-append (suc n) (x ∷ xs) ys =
    let e : n - length xs ≡ suc n - suc (length xs) = omega arith in
    ap (λ l. x ∷ l) (take-append n xs ys ∙ ap (λ k. take n xs ++ take k ys) e)

-- an attempt that stands for the first bytes of a text
stands-on : (rows : Rows) (program : Program) (a : Attempt) (before : Option ℕ) (n : ℕ) (given more text : List ℕ) → text ≡ given ++ more →
    IsAttemptOn rows program a before (take n given) → IsAttemptOn rows program a before (take n text)
stands-on rows program a before n given more text is s =
    stands-more rows program a before (take n given) (take (n - length given) more) (take n text) (ap (take n) is
    ∙ take-append n given more) s

-- so much of a text that goes on from what a scan was given
given-on : (scan : Scanned) (before : Option ℕ) (text : List ℕ) → GoesOn scan before text → (more : List ℕ) × (text ≡ scan.given ++ more)
given-on scan before text (inl none) = (text, ap (λ l. l ++ text) (sym none))
given-on scan before text (inr on) = (on.1.0, on.1.1)

pub keeps-on : (rows : Rows) (n : ℕ) (o : Option ScanState) (scan : Scanned) (before : Option ℕ) (text : List ℕ) → scan.before ≡ before →
    GoesOn scan before text →
    IfSome o (λ k. KeepsFor rows k scan.before (take n scan.given)) → IfSome o (λ k. KeepsFor rows k before (take n text))
keeps-on rows n None scan before text same on k = tt
keeps-on rows n (Some kept) scan before text same on k =
    let more = given-on scan before text on in
    record {
      is_kept = k.is_kept;
      stands = λ begun. subst (λ b. IsAttemptOn rows kept.search.finder.program kept.attempt b (take n text)) same
          (stands-on rows kept.search.finder.program kept.attempt scan.before n scan.given more.0 text more.1 (k.stands begun));
    }

pub keeps-search : (rows : Rows) (o : Option ScanState) (before : Option ℕ) (bytes : List ℕ) →
    IfSome o (λ k. KeepsFor rows k before bytes) → IfSome o (λ k. IsKept rows k.search)
keeps-search rows None before bytes k = tt
keeps-search rows (Some kept) before bytes k = k.is_kept

pub keeps-none : (rows : Rows) (kept : ScanState) (before : Option ℕ) (bytes : List ℕ) → kept.begun ≡ false → IsKept rows kept.search →
    KeepsFor rows kept before bytes
keeps-none rows kept before bytes none k =
    record { is_kept = k; stands = λ begun. absurd (let e : false ≡ true = sym none ∙ begun in grind (arith, e)) }

-- few bytes are all of them
pub take-all : (n : ℕ) (xs : List ℕ) → length xs ≤ n → xs ≡ take n xs
take-all zero [] h = refl
take-all zero (x ∷ xs) h = absurd (omega (arith, h))
take-all (suc n) [] h = refl
take-all (suc n) (x ∷ xs) h = ap (λ l. x ∷ l) (take-all n xs (omega (arith, h)))
