-- Names are tried one after the other.
use Rattle.std.proofs.Common.{◌≡◌, ℕ, ◌+◌, ◌≤◌, ◌<◌, List, [], get_or, drop, length, Some, None, refl, add-one}
use Rattle.std.proofs.Math.Seq.{drop-cons}
use Rattle.std.proofs.Math.ListN.{drop_of_length-le}
use Rattle.ix_dates.specs.Text.{match_some}
use Rattle.ix_dates.specs.Names.{behind_either, first_name}

-- no name is left
pub none_left : (names : List (List ℕ)) (i place : ℕ) (text : List ℕ) → length names ≤ i → first_name (drop i names) place text ≡ None
unfolding first_name
none_left names i place text past = rw (drop_of_length-le names past) refl

-- the first name that is left
pub one_left : (names : List (List ℕ)) (i place : ℕ) (text : List ℕ) → i < length names →
    first_name (drop i names) place text ≡ match_some (behind_either (get_or names i []) text)
    (first_name (drop (i + 1) names) (place + 1) text) (λ rest. Some (place, rest))
unfolding first_name
one_left names i place text here = rw (drop-cons names i [], add-one i) refl
