-- Pieces are joined at the end of a list.
use Rattle.std.proofs.Common.{◌≡◌, ℕ, Bool, false, cond, eqb, List, [], ◌∷◌, ◌++◌, refl, sym, ap, ◌∙◌, arith, eq-eqb}
use Rattle.std.proofs.lemmas.Bool.Decides.{nat_tests}
use Rattle.std.proofs.lemmas.List.{append_assoc}
use Rattle.ix_commit.specs.declared.write_batch.Append.{Append}
use Rattle.ix_catalog.specs.Dealing.{joined}

joined_last : (p q : Append) (qs : List Append) → joined p (qs ++ q ∷ []) ≡ qs ++ joined p (q ∷ [])
joined_last p q [] = refl
joined_last p q (a ∷ []) = refl
joined_last p q (a ∷ b ∷ qs) = ap (λ ys. a ∷ ys) (joined_last p q (b ∷ qs))

same_piece : (q r : Append) → q.number ≡ r.number → q.at ≡ r.at → q.bytes ≡ r.bytes → q ≡ r
same_piece q r a b c = ap (λ (n : ℕ). record { number = n; at = q.at; bytes = q.bytes }) a
    ∙ ap (λ (n : ℕ). record { number = r.number; at = n; bytes = q.bytes }) b
    ∙ ap (λ (bs : List ℕ). record { number = r.number; at = r.at; bytes = bs }) c

-- of the same file
pub join_same : (p q r : Append) (qs old new : List Append) → old ≡ qs ++ q ∷ [] → q.number ≡ p.number → r.number ≡ q.number → r.at ≡ q.at →
    r.bytes ≡ q.bytes ++ p.bytes →
    new ≡ qs ++ r ∷ [] → new ≡ joined p old
join_same p q r qs old new o same n a b e =
    let longer : Append = record { number = q.number; at = q.at; bytes = q.bytes ++ p.bytes } in
    let one : joined p (q ∷ []) ≡ longer ∷ [] = ap (λ (t : Bool). cond t (longer ∷ []) (q ∷ p ∷ [])) (eq-eqb q.number p.number same) in
    e ∙ ap (λ (x : Append). qs ++ x ∷ []) (same_piece r longer n a b) ∙ ap (λ (ys : List Append). qs ++ ys) (sym one)
    ∙ sym (joined_last p q qs) ∙ ap (joined p) (sym o)

-- of another file
pub join_other : (p q : Append) (qs old mid new : List Append) → old ≡ qs ++ q ∷ [] → (q.number ≡ p.number → ⊥) → mid ≡ qs ++ q ∷ [] →
    new ≡ mid ++ p ∷ [] → new ≡ joined p old
join_other p q qs old mid new o other m e =
    let longer : Append = record { number = q.number; at = q.at; bytes = q.bytes ++ p.bytes } in
    let test : eqb q.number p.number ≡ false = grind (arith, nat_tests) in
    let one : joined p (q ∷ []) ≡ q ∷ p ∷ [] = ap (λ (t : Bool). cond t (longer ∷ []) (q ∷ p ∷ [])) test in
    e ∙ ap (λ (ys : List Append). ys ++ p ∷ []) m ∙ append_assoc qs (q ∷ []) (p ∷ []) ∙ ap (λ (ys : List Append). qs ++ ys) (sym one)
    ∙ sym (joined_last p q qs) ∙ ap (joined p) (sym o)
