-- Files in memory: the bytes that a list of them gives to each file, what the worst crash leaves of
-- each, and what a change makes of the bytes of one.
use Rattle.std.specs.Prelude.{◌≡◌, ◌+◌, ◌-◌, ℕ, zero, suc, min, List, [], ◌∷◌, ◌++◌, length, take, drop, replicate, Bool, true, false}
use Rattle.std.specs.Prelude.{if◌then◌else◌, Option, None, Some}
use Rattle.ix_base.specs.declared.files.File.{File}
use Rattle.ix_disk.specs.Files.{is_same}
use Rattle.ix_disk.specs.Image.{Image, content, overwritten}
use Rattle.ix_disk.specs.declared.held.Held.{Held}

-- what a read gives of a file
abbrev pub seen_of : Held → Option (List ℕ)
seen_of h = h.bytes

-- the front of some bytes, and others behind it; or no file, where there are none behind it
abbrev pub with_rest : Option (List ℕ) → ℕ → Option (List ℕ) → Option (List ℕ)
with_rest bytes same None = None
with_rest bytes same (Some rest) = Some (take same (content bytes) ++ rest)

-- what the worst crash leaves of a file
abbrev pub torn_of : Held → Option (List ℕ)
torn_of h = with_rest h.bytes h.same h.rest

-- what a crash leaves of a file where it tears it, or else what a read gives
abbrev pub left_of : Bool → Held → Option (List ℕ)
left_of true h = torn_of h
left_of false h = seen_of h

-- the first entry of a file is what counts
abbrev pub find : (Held → Option (List ℕ)) → List Held → Image
find view [] f = None
find view (h ∷ held) f = if is_same f h.file then view h else find view held f

-- what a read gives of each file
abbrev pub present : List Held → Image
present = find seen_of

-- what the worst crash leaves of each
abbrev pub torn_in : List Held → Image
torn_in = find torn_of

-- the first entry of the file stands at that place
abbrev pub IsFirst : List Held → File → ℕ → Type 0
IsFirst [] file i = ⊥
IsFirst (h ∷ held) file zero = is_same file h.file ≡ true
IsFirst (h ∷ held) file (suc i) = (is_same file h.file ≡ false) × IsFirst held file i

-- there is no entry of the file
abbrev pub IsAbsent : List Held → File → Type 0
IsAbsent [] file = Unit {0}
IsAbsent (h ∷ held) file = (is_same file h.file ≡ false) × IsAbsent held file

-- what becomes of the bytes of f where those of this file change so
abbrev pub changed : File → (Option (List ℕ) → Option (List ℕ)) → File → Option (List ℕ) → Option (List ℕ)
changed file change f old = if is_same f file then change old else old

-- bytes are written over those from a place on
abbrev pub over : ℕ → List ℕ → Option (List ℕ) → Option (List ℕ)
over at bytes old = Some (overwritten at bytes (content old))

-- n bytes from a place on are 1, as far as there are any
abbrev pub ones : ℕ → ℕ → List ℕ → List ℕ
ones at n old = take at old ++ replicate (min n (length old - at)) 1 ++ drop (at + n) old

abbrev pub ones_in : ℕ → ℕ → Option (List ℕ) → Option (List ℕ)
ones_in at n None = None
ones_in at n (Some old) = Some (ones at n old)

-- others are there in their place
abbrev pub become : Option (List ℕ) → Option (List ℕ) → Option (List ℕ)
become new old = new
