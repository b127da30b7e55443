-- What stands ahead of a reader of lines.
use Rattle.std.specs.Prelude.{◌+◌, ℕ, List, [], length, Option, Some, None}
use Rattle.ix_conf.specs.Lines.{physical_lines}
use Rattle.ix_conf.specs.Grammar.{Said, nothing, opens, sets, bad_stanza, no_equals}
use Rattle.ix_conf.specs.declared.reading.Meaning.{Meaning}
use Rattle.ix_conf.specs.declared.reading.Meaning.TheVariants.{Nothing, Opens, Sets, BadStanza, NoEquals}

-- the lines of the text behind a line, where there is one
abbrev pub lines_behind : Option (List ℕ) → List (List ℕ)
lines_behind None = []
lines_behind (Some text) = physical_lines text

-- more than the number of these lines, where there are some
abbrev pub size_behind : Option (List ℕ) → ℕ
size_behind None = 0
size_behind (Some text) = length text + 1

-- what a line was found to say
abbrev pub meant : Meaning → Said
meant Nothing = nothing
meant (Opens name) = opens name.now
meant (Sets key value) = sets key.now value.now
meant BadStanza = bad_stanza
meant NoEquals = no_equals
