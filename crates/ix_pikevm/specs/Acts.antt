-- What a thread does at its instruction.
use Rattle.std.specs.Prelude.{◌≡◌, ℕ, ◌<◌, ◌≤◌, List, [], ◌∷◌, ◌++◌, Option, Some, None, slice_get}
use Rattle.ix_pattern.specs.Ways.{Way}
use Rattle.ix_pikevm.specs.Code.{Mean, thread_ways, list_ways, best_ways, tested}
use Rattle.ix_pikevm.specs.Cover.{AllUnder}
use Rattle.ix_pikevm.specs.Leaf.{leaf_ways, at}
use Rattle.ix_pikevm.specs.Code.{history}
use Rattle.ix_pikevm.specs.declared.leaf.Leaf.{Leaf}
use Rattle.ix_pikevm.specs.declared.code.Instr.{Instr}
use Rattle.ix_pikevm.specs.declared.code.Instr.TheVariants.{Byte}
use Rattle.ix_pikevm.specs.declared.cells.Cell.{Cell}
use Rattle.ix_pikevm.specs.declared.cells.Thread.{Thread}
use Rattle.ix_pikevm.specs.declared.cells.Best.{Best}
use Rattle.ix_pikevm.specs.declared.acts.Act.{Act}
use Rattle.ix_pikevm.specs.declared.acts.Act.TheVariants.{Fork, Go, Ready, Never, Stop}

abbrev pub IsKnown : ℕ → ℕ → Thread → Type 0
IsKnown n c t = (t.pc < n) × (t.trail ≤ c)

abbrev pub AllKnown : ℕ → ℕ → List Thread → Type 0
AllKnown n c [] = Unit {0}
AllKnown n c (t ∷ ts) = IsKnown n c t × AllKnown n c ts

abbrev pub ActKnown : ℕ → ℕ → Act → Type 0
ActKnown n c (Fork a b) = IsKnown n c a × IsKnown n c b
ActKnown n c (Go a) = IsKnown n c a
ActKnown n c Ready = Unit {0}
ActKnown n c Never = Unit {0}
ActKnown n c (Stop best) = Unit {0}

abbrev pub IsByte : List Instr → Thread → Type 0
IsByte code t = (set : ℕ) × (next : ℕ) × (slice_get code t.pc ≡ Some (Byte set next))

abbrev pub leads_to : Act → List Thread
leads_to (Fork a b) = a ∷ b ∷ []
leads_to (Go a) = a ∷ []
leads_to Ready = []
leads_to Never = []
leads_to (Stop best) = []

-- the threads that it goes on as have its ways and are of lower rank
pub record Leads (w : Thread → List Way) (rank : ℕ → ℕ) (k : ℕ) (ways : List Way) (new : List Thread) : Type 0 where
  pub same : ways ≡ list_ways w new
  pub under : AllUnder rank k new

-- its one way
pub record Ends (ways found : List Way) : Type 0 where
  pub way : Way
  pub is : ways ≡ way ∷ []
  pub best : found ≡ way ∷ []

abbrev pub Does : List Instr → Mean → List (Option (ℕ × ℕ)) → (ℕ → ℕ) → List Cell → ℕ → Thread → Act → Type 0
Does code mean blank rank cells p t (Fork a b) = Leads (thread_ways mean cells p) rank (rank t.pc) (thread_ways mean cells p t) (a ∷ b ∷ [])
Does code mean blank rank cells p t (Go a) = Leads (thread_ways mean cells p) rank (rank t.pc) (thread_ways mean cells p t) (a ∷ [])
Does code mean blank rank cells p t Ready = IsByte code t
Does code mean blank rank cells p t Never = Leads (thread_ways mean cells p) rank (rank t.pc) (thread_ways mean cells p t) []
Does code mean blank rank cells p t (Stop best) = Ends (thread_ways mean cells p t) (best_ways blank cells best)

-- the same behind a test
abbrev pub LeafDoes : Mean → List (Option (ℕ × ℕ)) → (ℕ → ℕ) → List Cell → ℕ → ℕ → Thread → ℕ → Leaf → Act → Type 0
LeafDoes mean blank rank cells p k t next leaf (Fork a b) = ⊥
LeafDoes mean blank rank cells p k t next leaf (Go a) =
    Leads (thread_ways mean cells p) rank k (tested (mean next (history cells t.trail)) (leaf_ways leaf (at p []))) (a ∷ [])
LeafDoes mean blank rank cells p k t next leaf Ready = ⊥
LeafDoes mean blank rank cells p k t next leaf Never =
    Leads (thread_ways mean cells p) rank k (tested (mean next (history cells t.trail)) (leaf_ways leaf (at p []))) []
LeafDoes mean blank rank cells p k t next leaf (Stop best) =
    Ends (tested (mean next (history cells t.trail)) (leaf_ways leaf (at p []))) (best_ways blank cells best)

-- what becomes of the lists
abbrev pub Puts : Act → Thread → List Thread → List Thread → List Thread → List Thread → Option Best → Type 0
Puts (Fork a b) t stack new ready more o = (new ≡ (stack ++ b ∷ []) ++ a ∷ []) × (more ≡ ready) × (o ≡ None)
Puts (Go a) t stack new ready more o = (new ≡ stack ++ a ∷ []) × (more ≡ ready) × (o ≡ None)
Puts Ready t stack new ready more o = (new ≡ stack) × (more ≡ ready ++ t ∷ []) × (o ≡ None)
Puts Never t stack new ready more o = (new ≡ stack) × (more ≡ ready) × (o ≡ None)
Puts (Stop best) t stack new ready more o = (new ≡ stack) × (more ≡ ready) × (o ≡ Some best)

-- one that waits is at a byte
abbrev pub ActBytes : List Instr → Thread → Act → Type 0
ActBytes code t (Fork a b) = Unit {0}
ActBytes code t (Go a) = Unit {0}
ActBytes code t Ready = IsByte code t
ActBytes code t Never = Unit {0}
ActBytes code t (Stop best) = Unit {0}
