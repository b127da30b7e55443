-- The entries of a .conf text. From Splunk's Admin Manual, "Configuration file structure and
-- syntax".
use Rattle.std.specs.Prelude.{◌≡◌, ◌==◌, ◌||◌, nat_lt, if◌then◌else◌, ℕ, false, List, [], ◌∷◌, ◌++◌, length, Option, Some, None, Result}
use Rattle.std.specs.Prelude.{Ok, Err, codes}
use Rattle.std.specs.Str.Lossy.{utf8_valid_len}
use Rattle.ix_conf.specs.Lines.{cut_at, before_last, trimmed, without_mark, physical_lines, Line, logical_lines}
use Rattle.ix_conf.specs.declared.entries.Entry.{Entry}
use Rattle.ix_conf.specs.declared.entries.Entry.TheVariants.{Stanza, Pair}
use Rattle.ix_conf.specs.declared.entries.ConfFault.{ConfFault}
use Rattle.ix_conf.specs.declared.entries.ConfFault.TheVariants.{NotUtf8, NoEquals, BadStanza, TooLong, NoMemory}

-- what a line says
pub data Said : Type 0 where
  nothing : Said
  opens : List ℕ → Said
  sets : List ℕ → List ℕ → Said
  bad_stanza : Said
  no_equals : Said

-- a stanza's name has 1 to 1,024 bytes
abbrev pub stanza_said : Option (List ℕ) → Said
stanza_said None = bad_stanza
stanza_said (Some name) = if (length name == 0) || nat_lt 1024 (length name) then bad_stanza else opens name

-- a key has at least one byte; a value may be empty
abbrev pub setting_said : Option (List ℕ × List ℕ) → Said
setting_said None = no_equals
setting_said (Some parts) = if length parts.0 == 0 then no_equals else sets (trimmed parts.0) (trimmed parts.1)

-- `[name]`, `key = value`, or nothing, of a line without blanks at its ends
abbrev pub said_plainly : List ℕ → Said
said_plainly [] = nothing
said_plainly (b ∷ bs) = if b == 91 then stanza_said (before_last 93 bs) else setting_said (cut_at 61 (b ∷ bs))

abbrev pub said : List ℕ → Said
said line = said_plainly (trimmed line)

-- the entries with others before them; a fault stays
abbrev pub behind : List Entry → Result (List Entry) ConfFault → Result (List Entry) ConfFault
behind front (Ok entries) = Ok (front ++ entries)
behind front (Err fault) = Err fault

-- what a line of this number says in a stanza, and then the lines behind it, which are told their
-- stanza
abbrev pub entries_with : ℕ → List ℕ → Said → (List ℕ → Result (List Entry) ConfFault) → Result (List Entry) ConfFault
entries_with number stanza nothing lines = lines stanza
entries_with number stanza (opens name) lines = behind (Stanza name ∷ []) (lines name)
entries_with number stanza (sets key value) lines = behind (Pair stanza key value ∷ []) (lines stanza)
entries_with number stanza bad_stanza lines = Err (BadStanza number)
entries_with number stanza no_equals lines = Err (NoEquals number)

-- the entries of lines in a stanza, or the fault of the first bad line
abbrev pub entries_of : List ℕ → List Line → Result (List Entry) ConfFault
entries_of stanza [] = Ok []
entries_of stanza (line ∷ lines) = entries_with line.number stanza (said line.text) (λ s. entries_of s lines)

-- settings before any stanza belong to `default`
abbrev pub entries_of_text : List ℕ → Result (List Entry) ConfFault
entries_of_text text = entries_of (codes "default") (logical_lines false 1 (physical_lines (without_mark text)))

-- The entries of a .conf text of at most 1,048,576 bytes. The place of a byte that is not UTF-8 is
-- where the longest front that is UTF-8 ends.
unfoldable pub pairs : List ℕ → Result (List Entry) ConfFault
pairs bytes =
    if nat_lt 1048576 (length bytes) then Err TooLong
    else if utf8_valid_len bytes == length bytes then entries_of_text bytes
    else Err (NotUtf8 (utf8_valid_len bytes))

-- a fault is answered only where the text has it; want of memory may be answered at any time
abbrev pub Refuses : ConfFault → Result (List Entry) ConfFault → Type 0
Refuses NoMemory found = Unit {0}
Refuses fault found = found ≡ Err fault

-- the entries of the text, or its fault
abbrev pub Gives : Result (List Entry) ConfFault → Result (List Entry) ConfFault → Type 0
Gives (Ok entries) found = found ≡ Ok entries
Gives (Err fault) found = Refuses fault found
