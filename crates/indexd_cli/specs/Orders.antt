-- What the words of a command line ask for.
use Rattle.std.specs.Prelude.{ℕ, Bool, false, List, [], ◌∷◌, Option, Some, None, codes, if◌then◌else◌, option_map, option_and_then}
use Rattle.std.specs.Option.{option_map_or}
use Rattle.std.specs.Str.{bytes_eq}
use Rattle.clap.specs.Kinds.{Kinds}
use Rattle.clap.specs.Words.{Row, Text, first_of, fault_of, subcommand_of}
use Rattle.ix_base.specs.declared.events.Range.{Range}
use Rattle.indexd_cli.specs.Table.{table}
use Rattle.indexd_cli.specs.Values.{name_of, file_of, number_in, seconds_of}

-- a command with its values
pub data Asked : Type 0 where
  -- host, source, source type, index, and whether the events are stored
  preview : Text → Text → Option Text → Option Text → Bool → Asked
  -- the file
  btool : Text → Asked
  feed : Asked
  -- port, and how many requests
  serve : ℕ → ℕ → Asked
  -- whether the channels are closed
  monitor : Bool → Asked
  buckets : Asked
  -- index, and the times of the events
  export : Text → Range → Asked
  roll : Text → Asked
  -- index, and the bucket's number
  thaw : Text → ℕ → Asked
  tick : Asked
  -- seed, and how many events
  selftest : ℕ → ℕ → Asked

-- ---- what was found for an option, a flag or a word

-- the value, read; none where it is not given or cannot be read
abbrev pub given : {X : Type 0} → (Text → Option X) → Text → List Row → Option X
given read id rows = option_and_then read (first_of id rows)

-- the value, read, where it is given; none at all where it is given and cannot be read
abbrev pub where_given : {X : Type 0} → (Text → Option X) → Text → List Row → Option (Option X)
where_given read id rows =
    option_map_or (λ text. option_map (λ value. Some value) (read text)) (first_of id rows) (Some None)

-- whether a flag is given
abbrev pub is_set : Text → List Row → Bool
is_set id rows = option_map_or (λ text. bytes_eq text (codes "true")) (first_of id rows) false

-- ---- each command that has values

unfoldable pub preview_of : List Row → Option Asked
preview_of rows =
    option_and_then (λ host. option_and_then (λ source. option_map
    (λ sourcetype. preview host source sourcetype (first_of (codes "index") rows) (is_set (codes "store") rows))
    (where_given name_of (codes "sourcetype") rows))
    (given name_of (codes "source") rows)) (given name_of (codes "host") rows)

unfoldable pub serve_of : List Row → Option Asked
serve_of rows =
    option_and_then (λ port. option_map (serve port) (given (number_in 1 1000000) (codes "requests") rows))
    (given (number_in 0 65535) (codes "port") rows)

unfoldable pub range_of : List Row → Option Range
range_of rows =
    option_and_then (λ earliest. option_map (λ latest. record { earliest = earliest; latest = latest })
    (where_given seconds_of (codes "latest") rows))
    (where_given seconds_of (codes "earliest") rows)

unfoldable pub export_of : List Row → Option Asked
export_of rows =
    option_and_then (λ index. option_map (export index) (range_of rows)) (first_of (codes "INDEX") rows)

unfoldable pub thaw_of : List Row → Option Asked
thaw_of rows =
    option_and_then (λ index. option_map (thaw index) (given (number_in 0 18446744073709551615) (codes "ID") rows))
    (first_of (codes "INDEX") rows)

unfoldable pub selftest_of : List Row → Option Asked
selftest_of rows =
    option_and_then (λ seed. option_map (selftest seed) (given (number_in 1 1000000) (codes "COUNT") rows))
    (given (number_in 0 18446744073709551615) (codes "SEED") rows)

-- what a command of this name asks for, by what was found for its options and words; none where a
-- value is outside its range
unfoldable pub order_of : Text → List Row → Option Asked
order_of name rows =
    if bytes_eq name (codes "preview") then preview_of rows
    else (if bytes_eq name (codes "btool") then option_map btool (given file_of (codes "FILE") rows)
    else (if bytes_eq name (codes "feed") then Some feed
    else (if bytes_eq name (codes "serve") then serve_of rows
    else (if bytes_eq name (codes "monitor") then Some (monitor (is_set (codes "close") rows))
    else (if bytes_eq name (codes "buckets") then Some buckets
    else (if bytes_eq name (codes "export") then export_of rows
    else (if bytes_eq name (codes "roll") then option_map roll (first_of (codes "INDEX") rows)
    else (if bytes_eq name (codes "thaw") then thaw_of rows
    else (if bytes_eq name (codes "tick") then Some tick
    else (if bytes_eq name (codes "selftest") then selftest_of rows
    else None))))))))))

-- the same, by the command that was found and what was found for it
abbrev pub order_in : Option (Text × List Row) → Option Asked
order_in found = option_and_then (λ p. order_of p.0 p.1) found

-- ---- the words

-- none where `clap` refuses the words
abbrev pub unless_refused : Kinds → Option Asked → Option Asked
unless_refused [] order = order
unless_refused (fault ∷ faults) order = None

-- what the words ask for; none where they are not of the table, or a value is outside its range
unfoldable pub asked : List Text → Option Asked
asked words = unless_refused (fault_of table words) (order_in (subcommand_of table words))
