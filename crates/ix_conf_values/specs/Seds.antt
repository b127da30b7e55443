-- Replacing and swapping bytes of a raw text. From Splunk's Admin Manual, props.conf, "SEDCMD".
use Rattle.std.specs.Prelude.{ℕ, ◌≡◌, ◌≢◌, ◌==◌, ◌&&◌, if◌then◌else◌, nat_le, false, List, [], ◌∷◌, Option, Some, None, length}
use Rattle.std.specs.Option.{option_map, option_and_then}
use Rattle.ix_pattern.specs.declared.faults.PatternFault.{PatternFault}
use Rattle.ix_conf_values.specs.Plain.{digits}
use Rattle.ix_conf_values.specs.Patterns.{ReadsAs, HasFault}
use Rattle.ix_conf_values.specs.Escapes.{cut, parts, plain_bytes}
use Rattle.ix_conf_values.specs.declared.escapes.Part.{Part}
use Rattle.ix_conf_values.specs.declared.seds.Which.{Which}
use Rattle.ix_conf_values.specs.declared.seds.Which.TheVariants.{First, All, Nth}
use Rattle.ix_conf_values.specs.declared.seds.Sed.{Sed}
use Rattle.ix_conf_values.specs.declared.seds.Sed.TheVariants.{Replace, Swap}
use Rattle.ix_conf_values.specs.declared.seds.SedFault.{SedFault}
use Rattle.ix_conf_values.specs.declared.seds.SedFault.TheVariants.{BadValue, BadPattern, NoMemory}

-- a text in one of the two forms: `s/P/R/F` with the text of its pattern, or `y/A/B/`
pub data Form : Type 0 where
  replace : List ℕ → List Part → Which → Form
  swap : List ℕ → List ℕ → Form

-- the match of this number, from 1 to 1000
abbrev pub nth : ℕ → Option Which
nth n = if nat_le 1 n && nat_le n 1000 then Some (Nth n) else None

-- nothing for the first match, `g` for all, and 1 to 4 digits for one of them
abbrev pub which : List ℕ → Option Which
which [] = Some First
which (b ∷ bs) = if (b == 103) && (length bs == 0) then Some All else option_and_then nth (digits 4 (b ∷ bs))

-- what stands behind `s/`
abbrev pub replacement : List ℕ → Option Form
replacement text = option_and_then (λ found. option_and_then (λ behind.
    option_and_then (λ parts. option_map (λ which. replace found.0 parts which) (which behind.1)) (parts false behind.0))
    (cut false found.1)) (cut false text)

-- bytes with escapes that stand for no group
abbrev pub bytes_of : List ℕ → Option (List ℕ)
bytes_of text = option_and_then plain_bytes (parts false text)

abbrev pub swap_of : List ℕ → List ℕ → Option Form
swap_of from to = if length from == length to then Some (swap from to) else None

-- what stands behind `y/`
abbrev pub swapping : List ℕ → Option Form
swapping text = option_and_then (λ found. option_and_then (λ behind.
    if length behind.1 == 0 then
    option_and_then (λ from. option_and_then (λ to. swap_of from to) (bytes_of behind.0)) (bytes_of found.0)
    else None)
    (cut false found.1)) (cut false text)

abbrev pub form : List ℕ → Option Form
form [] = None
form (b ∷ []) = None
form (b ∷ c ∷ bs) =
    if c == 47 then (if b == 115 then replacement bs else if b == 121 then swapping bs else None) else None

-- a form was read: with its pattern, and otherwise as it stands
abbrev pub IsOfForm : Form → Sed → Type 0
IsOfForm (replace text parts which) (Replace pattern sed_parts sed_which) =
    ReadsAs text pattern × (sed_parts ≡ parts) × (sed_which ≡ which)
IsOfForm (replace text parts which) (Swap from to) = ⊥
IsOfForm (swap from to) (Replace pattern parts which) = ⊥
IsOfForm (swap from to) (Swap sed_from sed_to) = (sed_from ≡ from) × (sed_to ≡ to)

abbrev pub IsSedOf : Option Form → Sed → Type 0
IsSedOf None sed = ⊥
IsSedOf (Some form) sed = IsOfForm form sed

abbrev pub PatternHasFault : Option Form → PatternFault → Type 0
PatternHasFault None fault = ⊥
PatternHasFault (Some (replace text parts which)) fault = HasFault text fault
PatternHasFault (Some (swap from to)) fault = ⊥

-- a text is refused because it has neither form, or for the fault that its pattern has; want of
-- memory may be answered at any time
abbrev pub RefusesSed : Option Form → SedFault → Type 0
RefusesSed form BadValue = form ≡ None
RefusesSed form (BadPattern fault) = PatternHasFault form fault
RefusesSed form NoMemory = Unit {0}

abbrev pub IsNumbered : Which → Type 0
IsNumbered First = Unit {0}
IsNumbered All = Unit {0}
IsNumbered (Nth n) = n ≢ 0

-- matches are counted from 1, and each byte that is swapped has one to become
abbrev pub IsApplicable : Sed → Type 0
IsApplicable (Replace pattern parts which) = IsNumbered which
IsApplicable (Swap from to) = length from ≡ length to
