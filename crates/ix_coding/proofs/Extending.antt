-- What is put behind bytes leaves them.
use Rattle.std.proofs.Common.{◌≡◌, ℕ, List, [], ◌++◌, length, take, Result, Ok, Err, refl, ◌∙◌, ap, append_assoc, sym}
use Rattle.std.proofs.lemmas.List.{append-nil, take_at}
use Rattle.std.specs.Prelude.{OnOk, OnErr}
use Rattle.ix_base.specs.Told.{IsFrontOf}
use Rattle.ix_coding.specs.Writing.{Extends}

pub extends_ok : (old new bytes front : List ℕ) → new ≡ old ++ bytes → IsFrontOf front old → IsFrontOf front new
extends_ok old new bytes front is f = record {
  rest = f.rest ++ bytes;
  whole_is = is ∙ ap (λ (l : List ℕ). l ++ bytes) f.whole_is
      ∙ append_assoc front f.rest bytes;
}

pub extends_none : (old new front : List ℕ) → new ≡ old → IsFrontOf front old → IsFrontOf front new
extends_none old new front is f = record { rest = f.rest; whole_is = is ∙ f.whole_is }

-- all of the bytes were put, or none of them
pub extends_either : {T E : Type 0} (result : Result T E) (old new bytes front : List ℕ) → OnOk result (new ≡ old ++ bytes) →
    OnErr result (new ≡ old) → IsFrontOf front old → IsFrontOf front new
extends_either (Ok x) old new bytes front ok err f = extends_ok old new bytes front ok f
extends_either (Err e) old new bytes front ok err f = extends_none old new front err f

-- what stood there, by its length
pub extends_take : (old new : List ℕ) → Extends old new → take (length old) new ≡ old
extends_take old new begun =
    let front = begun old (record { rest = []; whole_is = sym (append-nil old) }) in
    ap (take (length old)) front.whole_is ∙ take_at old front.rest (length old) refl
