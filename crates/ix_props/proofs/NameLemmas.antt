-- A list of names is read one byte after the other.
use Rattle.std.proofs.Common.{◌≡◌, ◌≢◌, ℕ, suc, ◌+◌, ◌<◌, List, [], ◌∷◌, ◌++◌, get_or, length, drop, refl, ◌≤◌, add-one, append_assoc}
use Rattle.std.proofs.Common.{append-nil}
use Rattle.std.proofs.lemmas.Bool.{eq-eqb, ne_eqb}
use Rattle.std.proofs.Math.Seq.{drop-cons}
use Rattle.std.proofs.Math.ListN.{drop_of_length-le}
use Rattle.ix_props.specs.Names.{onto, pieces, names_in, name_in, trimmed}

-- bytes in front of the first piece
abbrev pub with_front : List ℕ → List (List ℕ) → List (List ℕ)
with_front [] pieces = pieces
with_front (b ∷ bs) pieces = onto b (with_front bs pieces)

with_front-more : (front : List ℕ) (b : ℕ) (ps : List (List ℕ)) → with_front (front ++ b ∷ []) ps ≡ with_front front (onto b ps)
with_front-more [] b ps = refl
with_front-more (c ∷ cs) b ps = rw (with_front-more cs b ps) refl

pub with_front-empty : (front : List ℕ) (ps : List (List ℕ)) → with_front front ([] ∷ ps) ≡ front ∷ ps
with_front-empty [] ps = refl
with_front-empty (c ∷ cs) ps = rw (with_front-empty cs ps) refl

-- a comma ends a piece
pub ends : (text front : List ℕ) (i : ℕ) → i < length text → get_or text i 0 ≡ 44 →
    names_in (with_front front (pieces (drop i text))) ≡ name_in (trimmed front) ++ names_in (pieces (drop (i + 1) text))
ends text front i here comma =
    rw (add-one, drop-cons text i 0, eq-eqb (get_or text i 0) 44 comma, with_front-empty front (pieces (drop (suc i) text))) refl

-- another byte goes on with it
pub goes_on : (text front : List ℕ) (i : ℕ) → i < length text → get_or text i 0 ≢ 44 →
    with_front front (pieces (drop i text)) ≡ with_front (front ++ get_or text i 0 ∷ []) (pieces (drop (i + 1) text))
goes_on text front i here other =
    rw (
      add-one,
      drop-cons text i 0,
      ne_eqb (get_or text i 0) 44 other,
      with_front-more front (get_or text i 0) (pieces (drop (suc i) text)),
    ) refl

pub ends_piece : (found : List (List ℕ)) (text front : List ℕ) (i : ℕ) → i < length text → get_or text i 0 ≡ 44 →
    found ++ names_in (with_front front (pieces (drop i text))) ≡ (found ++ name_in (trimmed front))
    ++ names_in (with_front [] (pieces (drop (i + 1) text)))
ends_piece found text front i here comma = rw (ends text front i here comma) (simp append_assoc)

-- the end of the text ends the last piece
pub closes : (text front : List ℕ) (i : ℕ) → length text ≤ i → names_in (with_front front (pieces (drop i text))) ≡ name_in (trimmed front)
closes text front i past = rw (drop_of_length-le text past, with_front-empty front []) (append-nil (name_in (trimmed front)))
