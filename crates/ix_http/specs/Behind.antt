-- What is read behind a head.
use Rattle.std.specs.Prelude.{◌≡◌, ◌<◌, ◌+◌, ℕ, List, [], ◌++◌, length, true, Some, Result, Ok, Err, ⊤}
use Rattle.ix_heads.specs.Heads.{Heading, TakesSome}
use Rattle.ix_heads.specs.declared.faults.LinkFault.{LinkFault}
use Rattle.ix_heads.specs.declared.faults.LinkFault.TheVariants.{Failed, Cut, NoMemory}
use Rattle.ix_http.specs.declared.kinds.Incoming.{Incoming}
use Rattle.ix_http.specs.Asked.{Follows, TakesBody, judged}
use Rattle.ix_http.specs.Verdicts.{delimited_length}

-- the link ended before so many bytes
abbrev pub EndsBefore : ℕ → List ℕ → List ℕ → Type 0
EndsBefore n old new = (length old < n) × (new ≡ [])

-- so many bytes were taken, whichever they are
abbrev pub TakesCount : ℕ → List ℕ → List ℕ → Type 0
TakesCount n old new = (body : List ℕ) × TakesBody n body old new

-- some bytes of a body were taken, and so many are still to come
abbrev pub TakesPart : ℕ → ℕ → List ℕ → List ℕ → Type 0
TakesPart n rest old new = (part : List ℕ) × (old ≡ part ++ new) × (length part + rest ≡ n)

-- so many bytes were read over
abbrev pub FitsSkip : ℕ → Result ⊤ LinkFault → List ℕ → List ℕ → Type 0
FitsSkip n (Ok done) old new = TakesCount n old new
FitsSkip n (Err Cut) old new = EndsBefore n old new
FitsSkip n (Err Failed) old new = TakesSome old new
FitsSkip n (Err (NoMemory whole)) old new = ⊥

-- a buffer was filled
abbrev pub FitsFill : List ℕ → Result ⊤ LinkFault → List ℕ → List ℕ → Type 0
FitsFill bytes (Ok done) old new = old ≡ bytes ++ new
FitsFill bytes (Err Cut) old new = EndsBefore (length bytes) old new
FitsFill bytes (Err Failed) old new = TakesSome old new
FitsFill bytes (Err (NoMemory whole)) old new = ⊥

-- a body was read
abbrev pub FitsBody : ℕ → Result (List ℕ) LinkFault → List ℕ → List ℕ → Type 0
FitsBody n (Ok body) old new = TakesBody n body old new
FitsBody n (Err Cut) old new = EndsBefore n old new
FitsBody n (Err Failed) old new = TakesSome old new
FitsBody n (Err (NoMemory whole)) old new = (whole ≡ true) × TakesCount n old new

-- the same, for a request of that head whose body has so many bytes
abbrev pub FitsAsked : ℕ → Heading → Result Incoming LinkFault → List ℕ → List ℕ → Type 0
FitsAsked n h (Ok incoming) old new = (body : List ℕ) × TakesBody n body old new × (incoming ≡ judged h body)
FitsAsked n h (Err Cut) old new = EndsBefore n old new
FitsAsked n h (Err Failed) old new = TakesSome old new
FitsAsked n h (Err (NoMemory whole)) old new = (whole ≡ true) × TakesCount n old new

-- and for one of that head
abbrev pub FitsBehind : Heading → Result Incoming LinkFault → List ℕ → List ℕ → Type 0
FitsBehind h (Ok incoming) old new = Follows (delimited_length h) h incoming old new
FitsBehind h (Err Cut) old new = (n : ℕ) × (delimited_length h ≡ Some n) × EndsBefore n old new
FitsBehind h (Err Failed) old new = TakesSome old new
FitsBehind h (Err (NoMemory whole)) old new = (whole ≡ true) × ((n : ℕ) × (delimited_length h ≡ Some n) × TakesCount n old new)
