-- Calls that only read, one behind the other.
use Rattle.std.proofs.Common.{ℕ, ◌≤◌, List, refl, ◌∙◌, inl, inr, arith}
use Rattle.std.specs.Prelude.{Option}
use Rattle.ix_base.specs.Faults.{Rose}
use Rattle.ix_net.specs.Links.{Standing}
use Rattle.ix_net.proofs.GoesLemmas.{goes_nowhere, goes_on}
use Rattle.ix_heads.specs.Reads.{OnlyReads}

pub reads_nothing : (given : Option (List ℕ)) (standing : Standing) (faults : ℕ) → OnlyReads given given standing standing faults faults
reads_nothing given standing faults = record { given = refl; goes = goes_nowhere standing; later = omega arith }

pub reads_on : {g h i : Option (List ℕ)} {s t u : Standing} {a b c : ℕ} → OnlyReads g h s t a b → OnlyReads h i t u b c →
    OnlyReads g i s u a c
reads_on {g} {h} {i} {s} {t} {u} {a} {b} {c} p q =
    record { given = q.given ∙ p.given; goes = goes_on p.goes q.goes; later = omega (arith, p.later, q.later) }

-- a count that rose behind a call that only reads
pub rose_later : (a b c : ℕ) → a ≤ b → Rose b c → Rose a c
rose_later a b c le (inl less) = inl (omega (arith, le, less))
rose_later a b c le (inr most) = inr most
