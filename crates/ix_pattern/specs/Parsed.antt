-- What the reader comes to at the end of a text.
use Rattle.std.specs.Prelude.{◌≡◌, ◌≤◌, ℕ, true, List, Option, Some, None}
use Rattle.ix_pattern.specs.Rows.{byte_pieces}
use Rattle.ix_pattern.specs.Syntax.{Syntax, IsSpelledBy, is_allowed, groups, weight_of}
use Rattle.ix_pattern.specs.Frames.{IsFrame}
use Rattle.ix_pattern.specs.declared.reader.Reader.{Reader}

-- the reader has read this syntax
pub record Came (reader : Reader) (syntax : Syntax) : Type 0 where
  pub frame : IsFrame reader.work.rows 0 reader.here None syntax
  pub counted : reader.work.groups ≡ groups syntax
  pub allowed : is_allowed syntax ≡ true
  pub bytes : byte_pieces reader.work.rows ≤ weight_of syntax

pub record Read (reader : Reader) (text : List ℕ) (syntax : Syntax) : Type 0 where
  pub spelled : IsSpelledBy syntax text
  pub came : Came reader syntax

abbrev pub Parses : Option Reader → List ℕ → Type 0
Parses None text = (syntax : Syntax) → IsSpelledBy syntax text → ⊥
Parses (Some reader) text = (syntax : Syntax) × Read reader text syntax
