-- SEDCMD: changes of a raw text. From Splunk's Admin Manual, props.conf.
use Rattle.std.specs.Prelude.{ℕ, ◌-◌, ◌==◌, if◌then◌else◌, List, [], ◌∷◌, ◌++◌, map, take, drop, fold, slice_range}
use Rattle.ix_pattern.specs.Rows.{Shape}
use Rattle.ix_match.specs.declared.first.Found.{Found}
use Rattle.ix_conf_values.specs.declared.escapes.Part.{Part}
use Rattle.ix_conf_values.specs.declared.seds.Sed.{Sed}
use Rattle.ix_conf_values.specs.declared.seds.Sed.TheVariants.{Replace, Swap}
use Rattle.ix_conf_values.specs.declared.seds.Which.{Which}
use Rattle.ix_conf_values.specs.declared.seds.Which.TheVariants.{First, All, Nth}
use Rattle.ix_transforms.specs.Matches.{matches}
use Rattle.ix_transforms.specs.Writing.{written}

-- the matches that are replaced
abbrev pub chosen : Which → List Found → List Found
chosen First found = take 1 found
chosen All found = found
chosen (Nth n) found = take 1 (drop (n - 1) found)

-- the number of the first match that is replaced
abbrev pub number_of : Which → ℕ
number_of First = 1
number_of All = 1
number_of (Nth n) = n

-- the text from a place on, with what is written in place of each of these matches; group 0 stands
-- for nothing
abbrev pub replaced : List Part → List ℕ → ℕ → List Found → List ℕ
replaced parts text from [] = drop from text
replaced parts text from (f ∷ fs) =
    slice_range text from f.start ++ written parts [] text f.groups ++ replaced parts text f.end fs

abbrev pub substituted : Shape → List Part → Which → List ℕ → List ℕ
substituted p parts which text = replaced parts text 0 (chosen which (matches p text 0))

-- the byte that stands for another at its first place
abbrev pub swapped : List ℕ → List ℕ → ℕ → ℕ
swapped [] to b = b
swapped (a ∷ from) [] b = b
swapped (a ∷ from) (c ∷ to) b = if b == a then c else swapped from to b

abbrev pub sed_text : Sed → List ℕ → List ℕ
sed_text (Replace p parts which) text = substituted p parts which text
sed_text (Swap from to) text = map (swapped from to) text

-- a raw text has at most so many bytes
abbrev pub raw_limit : ℕ
raw_limit = 8388608

abbrev pub cut : List ℕ → List ℕ
cut text = take raw_limit text

-- each change is made to what the one before it gave
abbrev pub changed_text : List Sed → List ℕ → List ℕ
changed_text seds text = fold (λ now sed. cut (sed_text sed now)) (cut text) seds
