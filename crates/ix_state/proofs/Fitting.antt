-- Whether a name fits the pattern of a stanza can be told.
use Rattle.std.proofs.Common.{◌≡◌, ℕ, zero, suc, ℤ, Bool, true, false, List, [], ◌∷◌, ◌++◌, refl, sym, ap, ◌∙◌, subst, inl, inr}
use Rattle.std.proofs.Common.{append_assoc, append-nil, arith, codes}
use Rattle.std.specs.Prelude.{Option, Some, None}
use Rattle.ix_conf.specs.Names.{tokens, waiting, opened, closed, Piece, nothing, byte, star, dots, seq, either, group, spelled, FitsRule}
use Rattle.ix_conf.specs.Walk.{walk, start, answer}
use Rattle.ix_conf.specs.declared.tokens.Token.{Token}
use Rattle.ix_conf.specs.declared.tokens.Token.TheVariants.{Bar, Close}
use Rattle.ix_conf.proofs.WalkLemmas.{fits_from_answer, answer_from_fits}
use Rattle.ix_model.proofs.Named.{by_test}
use Rattle.ix_props.specs.Kinds.{behind}
use Rattle.ix_props.specs.Ranking.{IsRankBy}

none_some : {X : Type 0} {x : X} → None ≡ Some x → ⊥
none_some e = cc

some_same : {X : Type 0} {x y : X} → Some x ≡ Some y → x ≡ y
some_same e = cc

-- ---- parentheses pair in what a tree is spelled as

passed : (p : Piece) (ts : List Token) (n : ℕ) → waiting ts ≡ Some n → waiting (spelled p ++ ts) ≡ Some n
passed nothing ts n h = h
passed (byte b) ts n h = h
passed star ts n h = h
passed dots ts n h = h
passed (seq p q) ts n h =
    ap waiting (append_assoc (spelled p) (spelled q) ts) ∙ passed p (spelled q ++ ts) n (passed q ts n h)
passed (either p q) ts n h =
    ap waiting (append_assoc (spelled p) (Bar ∷ spelled q) ts) ∙ passed p (Bar ∷ (spelled q ++ ts)) n (passed q ts n h)
passed (group p) ts n h =
    ap (λ (l : List Token). opened (waiting l)) (append_assoc (spelled p) (Close ∷ []) ts)
    ∙ ap opened (passed p (Close ∷ ts) (suc n) (ap closed h))

paired : (p : Piece) → waiting (spelled p) ≡ Some 0
paired p = ap waiting (sym (append-nil (spelled p))) ∙ passed p [] 0 refl

none_waits : (o : Option ℕ) {R : Type 0} → (o ≡ Some 0 → R) → ((o ≡ Some 0 → ⊥) → R) → R
none_waits None yes_it no_it = no_it (λ e. none_some e)
none_waits (Some zero) yes_it no_it = yes_it refl
none_waits (Some (suc n)) yes_it no_it = no_it (λ e. absurd (f e))
  where
    f : Some (suc n) ≡ Some 0 → ⊥
    f e = let g : suc n ≡ 0 = some_same e in omega (arith, g)

-- ---- one pattern

fits_by : {R : Type 0} (ts : List Token) (fold : Bool) (name : List ℕ) → (FitsRule (record { tokens = ts; fold = fold }) name → R) →
    ((FitsRule (record { tokens = ts; fold = fold }) name → ⊥) → R) → R
fits_by ts fold name yes_it no_it =
    none_waits (waiting ts)
    (λ w. by_test (answer (walk fold ts start) name)
    (λ t. yes_it (fits_from_answer ts fold name w t))
    (λ t. no_it (λ f. true_false (sym (answer_from_fits ts fold name f) ∙ t))))
    (λ w. no_it (λ f. w (ap waiting (sym f.spells) ∙ paired f.tree)))
  where
    true_false : true ≡ false → ⊥
    true_false e = cc

-- the pattern behind a prefix
stanza_by : {R : Type 0} (prefix : List ℕ) (fold : Bool) (name stanza : List ℕ) →
    ((text : List ℕ) → behind prefix stanza ≡ Some text → FitsRule (record { tokens = tokens text; fold = fold }) name → R) →
    (((text : List ℕ) → behind prefix stanza ≡ Some text → FitsRule (record { tokens = tokens text; fold = fold }) name → ⊥) → R) → R
stanza_by {R = R} prefix fold name stanza yes_it no_it = by (behind prefix stanza) refl
  where
    by : (o : Option (List ℕ)) → behind prefix stanza ≡ o → R
    by None e = no_it (λ text h f. none_some (sym e ∙ h))
    by (Some found) e =
        fits_by (tokens found) fold name
        (λ f. yes_it found e f)
        (λ n. no_it (λ text h f. n (subst (λ (t : List ℕ). FitsRule (record { tokens = tokens t; fold = fold }) name)
        (some_same (sym h ∙ e)) f)))

-- ---- either

pub rank_by : {R : Type 0} (stated : Option ℤ) (source host stanza : List ℕ) → (IsRankBy stated source host stanza None → R) →
    ((rank : _) → IsRankBy stated source host stanza (Some rank) → R) → R
rank_by stated source host stanza none_it some_it =
    stanza_by (codes "source::") false source stanza
    (λ text e f. some_it _ (inl (record { text = text; is_behind = e; fits = f; rank_is = refl })))
    (λ no_source. stanza_by (codes "host::") true host stanza
    (λ text e f. some_it _ (inr (record { text = text; is_behind = e; fits = f; rank_is = refl })))
    (λ no_host. none_it (λ rank h. elim h [
      | inl a ↦ no_source a.text a.is_behind a.fits
      | inr b ↦ no_host b.text b.is_behind b.fits
    ])))
