-- Patterns for names, as stanzas have them. From Splunk's Admin Manual, props.conf,
-- "[source::<source>] and [host::<host>]".
use Rattle.std.specs.Prelude.{◌≡◌, ◌≢◌, ◌==◌, ◌&&◌, ◌||◌, ◌⊎◌, not, if◌then◌else◌, ℕ, zero, suc, Bool, true, false, IsTrue, List, [], ◌∷◌}
use Rattle.std.specs.Prelude.{◌++◌, Option, Some, None}
use Rattle.std.specs.Char.{eq_ignore_ascii_case}
use Rattle.std.specs.List.{AllByRecursion}
use Rattle.ix_conf.specs.declared.tokens.Token.{Token}
use Rattle.ix_conf.specs.declared.tokens.Token.TheVariants.{Byte, Star, Dots, Bar, Open, Close}
use Rattle.ix_conf.specs.declared.tokens.NameFault.{NameFault}
use Rattle.ix_conf.specs.declared.tokens.NameFault.TheVariants.{BadPattern, NoMemory}

-- what a byte of a pattern is, where it begins nothing longer
abbrev pub token_of : ℕ → Token
token_of b =
    if b == 42 then Star
    else if b == 124 then Bar
    else if b == 40 then Open
    else if b == 41 then Close
    else Byte b

abbrev pub are_dots : ℕ → ℕ → ℕ → Bool
are_dots b c d = (b == 46) && (c == 46) && (d == 46)

abbrev pub are_backslashes : ℕ → ℕ → Bool
are_backslashes b c = (b == 92) && (c == 92)

-- The tokens of a pattern, from its front on: `...`, `\\`, and single bytes.
abbrev pub tokens : List ℕ → List Token
tokens [] = []
tokens (b ∷ []) = token_of b ∷ []
tokens (b ∷ c ∷ []) = if are_backslashes b c then Byte 92 ∷ [] else token_of b ∷ tokens (c ∷ [])
tokens (b ∷ c ∷ d ∷ bs) =
    if are_dots b c d then Dots ∷ tokens bs
    else if are_backslashes b c then Byte 92 ∷ tokens (d ∷ bs)
    else token_of b ∷ tokens (c ∷ d ∷ bs)

-- how many `)` wait for a `(` before them; none where a `(` has no `)`
abbrev pub opened : Option ℕ → Option ℕ
opened None = None
opened (Some zero) = None
opened (Some (suc n)) = Some n

abbrev pub closed : Option ℕ → Option ℕ
closed None = None
closed (Some n) = Some (suc n)

abbrev pub waiting : List Token → Option ℕ
waiting [] = Some 0
waiting (Open ∷ tokens) = opened (waiting tokens)
waiting (Close ∷ tokens) = closed (waiting tokens)
waiting (token ∷ tokens) = waiting tokens

abbrev pub none_waits : Option ℕ → Bool
none_waits None = false
none_waits (Some n) = n == 0

-- some `(` is followed by `?`
abbrev pub begins_with_question : List Token → Bool
begins_with_question (Byte b ∷ tokens) = b == 63
begins_with_question tokens = false

abbrev pub has_question : List Token → Bool
has_question [] = false
has_question (Open ∷ tokens) = begins_with_question tokens || has_question tokens
has_question (token ∷ tokens) = has_question tokens

-- parentheses pair, and no `(` is followed by `?`
abbrev pub are_pattern : List Token → Bool
are_pattern tokens = none_waits (waiting tokens) && not (has_question tokens)

-- a pattern as a tree
pub data Piece : Type 0 where
  nothing : Piece
  byte : ℕ → Piece
  star : Piece
  dots : Piece
  seq : Piece → Piece → Piece
  either : Piece → Piece → Piece
  group : Piece → Piece

-- the tokens that spell it
abbrev pub spelled : Piece → List Token
spelled nothing = []
spelled (byte b) = Byte b ∷ []
spelled star = Star ∷ []
spelled dots = Dots ∷ []
spelled (seq p q) = spelled p ++ spelled q
spelled (either p q) = spelled p ++ Bar ∷ spelled q
spelled (group p) = Open ∷ spelled p ++ Close ∷ []

-- `|` binds less than a sequence, so it stands at the top and in parentheses: the first says that
-- of a tree that may stand anywhere, the second of a whole pattern
abbrev pub IsSequence : Bool → Piece → Type 0
IsSequence whole nothing = Unit {0}
IsSequence whole (byte b) = Unit {0}
IsSequence whole star = Unit {0}
IsSequence whole dots = Unit {0}
IsSequence whole (seq p q) = IsSequence false p × IsSequence false q
IsSequence true (either p q) = IsSequence false p × IsSequence true q
IsSequence false (either p q) = ⊥
IsSequence whole (group p) = IsSequence true p

-- the same byte, or with `fold` the same letter in either case
abbrev pub same_byte : Bool → ℕ → ℕ → Bool
same_byte true b c = eq_ignore_ascii_case b c
same_byte false b c = b == c

-- a whole name fits a piece
abbrev pub Fits : Bool → Piece → List ℕ → Type 0
Fits fold nothing name = name ≡ []
Fits fold (byte b) name = (c : ℕ) × (name ≡ c ∷ []) × IsTrue (same_byte fold b c)
Fits fold star name = AllByRecursion (λ c. c ≢ 47) name
Fits fold dots name = Unit {0}
Fits fold (seq p q) name = (front : List ℕ) × (back : List ℕ) × (name ≡ front ++ back) × Fits fold p front × Fits fold q back
Fits fold (either p q) name = Fits fold p name ⊎ Fits fold q name
Fits fold (group p) name = Fits fold p name

-- a pattern that was read
pub record NameRule : Type 0 where
  pub tokens : List Token
  pub fold : Bool

-- a name fits the tree that the tokens spell
pub record FitsRule (rule : NameRule) (name : List ℕ) : Type 0 where
  pub tree : Piece
  pub is_whole : IsSequence true tree
  pub spells : spelled tree ≡ rule.tokens
  pub fits : Fits rule.fold tree name

-- a text is refused for its pattern only where it is none; want of memory may be answered at any
-- time
abbrev pub RefusesName : NameFault → List Token → Type 0
RefusesName NoMemory tokens = Unit {0}
RefusesName BadPattern tokens = are_pattern tokens ≡ false
