-- What a scan says of the bytes that it has read: which part of a head they end in.
use Rattle.std.specs.Prelude.{◌≡◌, ◌⊎◌, ◌<◌, ◌≤◌, ℕ, List, [], ◌∷◌, ◌++◌, length, take, true, codes}
use Rattle.std.specs.Str.{IsAscii}
use Rattle.httparse.specs.Grammar.{is_uri_byte, is_value_byte, is_token_byte, AllPass, IsToken, print_version, HasNoRequest}
use Rattle.httparse.specs.Grammar.{MayBecomeRequest}
use Rattle.httparse.specs.Pieces as pieces
use Rattle.httparse.specs.Pieces.{Piece, Then, BlankLines, FieldLines, RequestStart, Word}
use Rattle.ix_heads.specs.declared.scan.Part.{Part}
use Rattle.ix_heads.specs.declared.scan.Part.TheVariants.{Blank, BlankReturn, Method, TargetStart, Target, WideTarget, Version, VersionEnd}
use Rattle.ix_heads.specs.declared.scan.Part.TheVariants.{VersionReturn, LineStart, LineReturn, Name, Value, ValueReturn, Stray}
use Rattle.ix_heads.specs.declared.scan.Scan.{Scan}

-- the bytes are such a piece, and then the rest
abbrev pub Led : {A : Type 0} → Piece A → List ℕ → List ℕ → Type 0
Led {A} G bytes rest = (tree : A) × G tree bytes rest

-- empty lines, a method and a space
abbrev pub ToTarget : List ℕ → List ℕ → Type 0
ToTarget = Led (Then pieces.Blank pieces.Method)

-- the same, a target and a space
abbrev pub ToVersion : List ℕ → List ℕ → Type 0
ToVersion = Led (Then pieces.Blank (Then pieces.Method pieces.Target))

-- a request line and header lines
abbrev pub ToLine : List ℕ → List ℕ → Type 0
ToLine = Led (Then RequestStart FieldLines)

-- the same, a name and a colon
abbrev pub ToValue : List ℕ → List ℕ → Type 0
ToValue = Led (Then RequestStart (Then FieldLines (Word is_token_byte 58)))

-- a target that has begun
abbrev pub IsTarget : List ℕ → Type 0
IsTarget target = (0 < length target) × AllPass is_uri_byte target

-- The bytes end in this part of a head. Behind the end of a line they may be a whole head, and
-- behind a stray byte a parse has to tell that they may become one.
abbrev pub Fronts : Part → List ℕ → Type 0
Fronts Blank bytes = Led BlankLines bytes []
Fronts BlankReturn bytes = Led BlankLines bytes (13 ∷ [])
Fronts Method bytes = (word : List ℕ) × Led BlankLines bytes word × IsToken word
Fronts TargetStart bytes = ToTarget bytes []
Fronts Target bytes = (target : List ℕ) × ToTarget bytes target × IsTarget target × IsAscii target
Fronts WideTarget bytes = (target : List ℕ) × ToTarget bytes target × IsTarget target
Fronts (Version count) bytes = (count ≤ 7) × ToVersion bytes (take count (codes "HTTP/1."))
Fronts VersionEnd bytes = (minor : ℕ) × (minor ≤ 1) × ToVersion bytes (print_version minor)
Fronts VersionReturn bytes = (minor : ℕ) × (minor ≤ 1) × ToVersion bytes (print_version minor ++ 13 ∷ [])
Fronts LineStart bytes = HasNoRequest bytes → ToLine bytes []
Fronts LineReturn bytes = ToLine bytes (13 ∷ [])
Fronts Name bytes = (word : List ℕ) × ToLine bytes word × IsToken word
Fronts Value bytes = (raw : List ℕ) × ToValue bytes raw × AllPass is_value_byte raw
Fronts ValueReturn bytes = (raw : List ℕ) × ToValue bytes (raw ++ 13 ∷ []) × AllPass is_value_byte raw
Fronts Stray bytes = MayBecomeRequest bytes

-- nothing but line ends
abbrev pub IsBlank : Part → Type 0
IsBlank part = (part ≡ Blank) ⊎ (part ≡ BlankReturn)

-- Bytes that are no head and end in this part end in the scan's part with one byte more, if a parse
-- says that they may become a head where the scan asks for one.
pub record Grows (part : Part) (byte : ℕ) (scan : Scan) : Type 0 where
  pub grown : (bytes : List ℕ) → HasNoRequest bytes → Fronts part bytes → (scan.due ≡ true → MayBecomeRequest (bytes ++ byte ∷ []))
      → Fronts scan.part (bytes ++ byte ∷ [])
