-- A row of answers.
use Rattle.std.proofs.Common.{◌≡◌, ℕ, ◌+◌, ◌<◌, Bool, true, false, List, [], ◌∷◌, ◌++◌, refl, sym, ◌∙◌, ap, arith, append_assoc}
use Rattle.std.proofs.Common.{length-append, get_or, eqb}
use Rattle.std.proofs.lemmas.List.{append-nil, get_or_append_left}
use Rattle.std.proofs.Math.Seq.{get_or-append_seam}
use Rattle.ix_pattern.specs.Piece.{in_set}
use Rattle.ix_pikevm.specs.Code.{set_in}
use Rattle.ix_pikevm.specs.Ran.{Row}

pub row-none : (old : List Bool) (sets : List (List Bool)) (byte : ℕ) → Row old old 0 sets byte
row-none old sets byte = record { row = []; is = sym (append-nil old); all = refl; answers = λ k h. absurd (omega (arith, h)) }

pub row-more : (old mid new : List Bool) (n : ℕ) (sets : List (List Bool)) (byte : ℕ) (b : Bool) → Row old mid n sets byte → new ≡ mid ++ b
    ∷ [] → b ≡ in_set (set_in sets n) byte → Row old new (n + 1) sets byte
row-more old mid new n sets byte b r is e =
    record {
      row = r.row ++ b ∷ [];
      is = is ∙ ap (λ l. l ++ b ∷ []) r.is ∙ append_assoc old r.row (b ∷ []);
      all = length-append r.row (b ∷ []) ∙ ap (λ k. k + 1) r.all;
      answers = λ k h. at k h (eqb k n) refl;
    }
  where
    at : (k : ℕ) → k < n + 1 → (t : Bool) → eqb k n ≡ t → get_or (r.row ++ b ∷ []) k false ≡ in_set (set_in sets k) byte
    at k h true q =
        let f : k ≡ n = grind (arith, q) in
        ap (λ j. get_or (r.row ++ b ∷ []) j false) (f ∙ sym r.all) ∙ get_or-append_seam r.row b [] false ∙ e
        ∙ ap (λ j. in_set (set_in sets j) byte) (sym f)
    at k h false q =
        let lt : k < n = grind (arith, h, q) in
        get_or_append_left r.row (b ∷ []) false k (omega (arith, lt, r.all)) ∙ r.answers k lt
