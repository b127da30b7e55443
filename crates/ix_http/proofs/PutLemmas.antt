-- What is written behind other pieces: what the last write leaves holds of all of them.
use Rattle.std.proofs.Common.{ℕ, ◌≤◌, le_trans, inl, inr, arith}
use Rattle.std.specs.Prelude.{Result, IsErr}
use Rattle.ix_base.specs.Faults.{Rose, HasCause}
use Rattle.ix_net.specs.Links.{Standing, LinkStep}

rose_before : (a b c : ℕ) → a ≤ b → Rose b c → Rose a c
rose_before a b c le (inl less) = inl (omega arith)
rose_before a b c le (inr most) = inr most

pub side_behind : {a b : Standing} (c : ℕ) → LinkStep a b → Rose b.writing c → Rose a.writing c
side_behind {a} {b} c goes rose = rose_before a.writing b.writing c goes.writing rose

pub cause_behind : {T U E : Type 0} {a b c : ℕ} {last : Result U E} (result : Result T E) → a ≤ b → HasCause b c last →
    (IsErr result → IsErr last) → HasCause a c result
cause_behind {a = a} {b = b} {c = c} result le cause failed = record {
  later = le_trans le cause.later;
  failed = λ is. rose_before a b c le (cause.failed (failed is));
}
