-- The texts of the words are short.
use Rattle.std.proofs.Common.{◌≡◌, ◌≤◌, ℕ, Bool, true, false, List, [], ◌∷◌, length, refl, sym, subst, arith}
use Rattle.std.specs.Prelude.{◌&&◌, nat_le, Option, Some, None, IfSome, codes, if◌then◌else◌, option_map, option_and_then}
use Rattle.std.specs.List.{list_all}
use Rattle.std.specs.Option.{option_map_or}
use Rattle.std.specs.Str.{bytes_eq}
use Rattle.clap.specs.Kinds.{Kinds}
use Rattle.clap.specs.Words.{Row, Text, first_of, fault_of, subcommand_of}
use Rattle.indexd_cli.specs.Table.{table}
use Rattle.indexd_cli.specs.Values.{is_name, name_of, file_of, number_in, seconds_of}
use Rattle.indexd_cli.specs.Orders.{Asked, preview, btool, feed, serve, monitor, buckets, export, roll, thaw, tick, selftest, given}
use Rattle.indexd_cli.specs.Orders.{where_given, is_set, preview_of, serve_of, range_of, export_of, thaw_of, selftest_of, order_of}
use Rattle.indexd_cli.specs.Orders.{order_in, unless_refused, asked}
use Rattle.indexd_core.specs.Commands.{AskStore}
use Rattle.indexd_core.specs.Prepared.{Stated}
use Rattle.indexd_core.specs.Stored.{AreShort}

abbrev IsShort : List ℕ → Type 0
IsShort text = length text ≤ 1024

-- what a preview states is short; nothing is said of other commands
abbrev AreShortIn : Option Asked → Type 0
AreShortIn None = Unit {0}
AreShortIn (Some (preview host source sourcetype index store)) = IsShort host × IsShort source × IfSome sourcetype IsShort
AreShortIn (Some (btool file)) = Unit {0}
AreShortIn (Some feed) = Unit {0}
AreShortIn (Some (serve port requests)) = Unit {0}
AreShortIn (Some (monitor close)) = Unit {0}
AreShortIn (Some buckets) = Unit {0}
AreShortIn (Some (export index range)) = Unit {0}
AreShortIn (Some (roll index)) = Unit {0}
AreShortIn (Some (thaw index id)) = Unit {0}
AreShortIn (Some tick) = Unit {0}
AreShortIn (Some (selftest seed count)) = Unit {0}

by_test : (b c : Bool) (n : ℕ) → (b && c) ≡ true → c ≡ nat_le n 1024 → n ≤ 1024
by_test b c n both is = grind arith

if_short : (b : Bool) (text : List ℕ) → (b ≡ true → IsShort text) → IfSome (if b then Some text else None) IsShort
if_short true text short = short refl
if_short false text short = tt

name_short : (text : List ℕ) → IfSome (name_of text) IsShort
name_short text = if_short (is_name text) text (λ is. by_test (nat_le 1 (length text)) (nat_le (length text) 1024) (length text) is refl)

given_short : (o : Option Text) → IfSome (option_and_then name_of o) IsShort
given_short None = tt
given_short (Some text) = name_short text

map_short : (o : Option Text) → IfSome o IsShort → IfSome (option_map (λ (value : Text). Some value) o)
    (λ (o : Option Text). IfSome o IsShort)
map_short None short = tt
map_short (Some text) short = short

where_short : (o : Option Text) → IfSome (option_map_or (λ (text : Text). option_map (λ (value : Text). Some value) (name_of text)) o
    (Some None)) (λ (o : Option Text). IfSome o IsShort)
where_short None = tt
where_short (Some text) = map_short (name_of text) (name_short text)

then_in : {X : Type 0} (Q : X → Type 0) (o : Option X) (f : X → Option Asked) → IfSome o Q → ((x : X) → Q x → AreShortIn (f x)) →
    AreShortIn (option_and_then f o)
then_in Q None f some so = tt
then_in Q (Some x) f some so = so x some

map_in : {X : Type 0} (Q : X → Type 0) (o : Option X) (f : X → Asked) → IfSome o Q → ((x : X) → Q x → AreShortIn (Some (f x))) →
    AreShortIn (option_map f o)
map_in Q None f some so = tt
map_in Q (Some x) f some so = so x some

always : {X : Type 0} (o : Option X) → IfSome o (λ x. Unit {0})
always None = tt
always (Some x) = tt

other : {X : Type 0} (o : Option X) (f : X → Asked) → ((x : X) → AreShortIn (Some (f x))) → AreShortIn (option_map f o)
other o f so = map_in (λ x. Unit {0}) o f (always o) (λ x q. so x)

others : {X : Type 0} (o : Option X) (f : X → Option Asked) → ((x : X) → AreShortIn (f x)) → AreShortIn (option_and_then f o)
others o f so = then_in (λ x. Unit {0}) o f (always o) (λ x q. so x)

choice : (b : Bool) (x y : Option Asked) → AreShortIn x → AreShortIn y → AreShortIn (if b then x else y)
choice true x y here there = here
choice false x y here there = there

preview_short : (rows : List Row) → AreShortIn (preview_of rows)
unfolding preview_of
preview_short rows =
    then_in IsShort (given name_of (codes "host") rows) _ (given_short (first_of (codes "host") rows)) (λ host host_is.
    then_in IsShort (given name_of (codes "source") rows) _ (given_short (first_of (codes "source") rows)) (λ source source_is.
    map_in (λ (o : Option Text). IfSome o IsShort) (where_given name_of (codes "sourcetype") rows) _
    (where_short (first_of (codes "sourcetype") rows)) (λ sourcetype sourcetype_is.
    (host_is, source_is, sourcetype_is))))

serve_short : (rows : List Row) → AreShortIn (serve_of rows)
unfolding serve_of
serve_short rows = others (given (number_in 0 65535) (codes "port") rows) _
    (λ port. other (given (number_in 1 1000000) (codes "requests") rows) _ (λ requests. tt))

export_short : (rows : List Row) → AreShortIn (export_of rows)
unfolding export_of
export_short rows = others (first_of (codes "INDEX") rows) _ (λ index. other (range_of rows) _ (λ range. tt))

thaw_short : (rows : List Row) → AreShortIn (thaw_of rows)
unfolding thaw_of
thaw_short rows = others (first_of (codes "INDEX") rows) _
    (λ index. other (given (number_in 0 18446744073709551615) (codes "ID") rows) _ (λ id. tt))

selftest_short : (rows : List Row) → AreShortIn (selftest_of rows)
unfolding selftest_of
selftest_short rows = others (given (number_in 0 18446744073709551615) (codes "SEED") rows) _
    (λ seed. other (given (number_in 1 1000000) (codes "COUNT") rows) _ (λ count. tt))

order_short : (name : Text) (rows : List Row) → AreShortIn (order_of name rows)
unfolding order_of
order_short name rows =
    choice (bytes_eq name (codes "preview")) _ _ (preview_short rows)
    (choice (bytes_eq name (codes "btool")) _ _ (other (given file_of (codes "FILE") rows) _ (λ file. tt))
    (choice (bytes_eq name (codes "feed")) _ _ tt
    (choice (bytes_eq name (codes "serve")) _ _ (serve_short rows)
    (choice (bytes_eq name (codes "monitor")) _ _ tt
    (choice (bytes_eq name (codes "buckets")) _ _ tt
    (choice (bytes_eq name (codes "export")) _ _ (export_short rows)
    (choice (bytes_eq name (codes "roll")) _ _ (other (first_of (codes "INDEX") rows) _ (λ index. tt))
    (choice (bytes_eq name (codes "thaw")) _ _ (thaw_short rows)
    (choice (bytes_eq name (codes "tick")) _ _ tt
    (choice (bytes_eq name (codes "selftest")) _ _ (selftest_short rows) tt))))))))))

found_short : (found : Option (Text × List Row)) → AreShortIn (order_in found)
found_short None = tt
found_short (Some p) = order_short p.0 p.1

taken_short : (faults : Kinds) (o : Option Asked) → AreShortIn o → AreShortIn (unless_refused faults o)
taken_short [] o short = short
taken_short (fault ∷ faults) o short = tt

asked_short : (words : List Text) → AreShortIn (asked words)
unfolding asked
asked_short words = taken_short (fault_of table words) (order_in (subcommand_of table words)) (found_short (subcommand_of table words))

pub stated_short : (words : List Text) (stated : Stated) (store : Bool) →
    asked words ≡ Some (preview stated.host stated.source stated.sourcetype stated.index store) → AreShort stated
stated_short words stated store is =
    let all = subst AreShortIn is (asked_short words) in
    record { host = all.0; source = all.1; sourcetype = all.2 }
