-- The commands of the program, as `clap` sees them: what each one takes, by name, and what it
-- wants.
use Rattle.std.specs.Prelude.{Bool, true, false, Some, codes}
use Rattle.clap.specs.declared.builder.action.ArgAction.TheVariants.{Set, SetTrue}
use Rattle.clap.specs.Words.{App, Rule, Text, new_app, new_rule, with_rule, with_subcommand}
use Rattle.clap.specs.Simple.{on_top}

-- `--NAME VALUE`, once at the most; whether it is needed
abbrev pub option_rule : Text → Bool → Rule
option_rule name needed = record (new_rule name) { long = Some name; required = needed; action = Some Set }

-- `--NAME`, once at the most
abbrev pub flag_rule : Text → Rule
flag_rule name = record (new_rule name) { long = Some name; action = Some SetTrue }

-- a word that stands for itself, and is needed
abbrev pub word_rule : Text → Rule
word_rule name = record (new_rule name) { required = true; action = Some Set }

-- preview --host HOST --source SOURCE [--sourcetype TYPE] [--index INDEX] [--store]
unfoldable pub preview : App
preview =
    with_rule (with_rule (with_rule (with_rule (with_rule (new_app (codes "preview"))
    (option_rule (codes "host") true)) (option_rule (codes "source") true))
    (option_rule (codes "sourcetype") false)) (option_rule (codes "index") false))
    (flag_rule (codes "store"))

-- btool FILE
unfoldable pub btool : App
btool = with_rule (new_app (codes "btool")) (word_rule (codes "FILE"))

-- feed
unfoldable pub feed : App
feed = new_app (codes "feed")

-- serve --port PORT --requests COUNT
unfoldable pub serve : App
serve =
    with_rule (with_rule (new_app (codes "serve")) (option_rule (codes "port") true))
    (option_rule (codes "requests") true)

-- monitor [--close]
unfoldable pub monitor : App
monitor = with_rule (new_app (codes "monitor")) (flag_rule (codes "close"))

-- buckets
unfoldable pub buckets : App
buckets = new_app (codes "buckets")

-- export INDEX [--earliest SECONDS] [--latest SECONDS]
unfoldable pub export : App
export =
    with_rule (with_rule (with_rule (new_app (codes "export")) (word_rule (codes "INDEX")))
    (option_rule (codes "earliest") false)) (option_rule (codes "latest") false)

-- roll INDEX
unfoldable pub roll : App
roll = with_rule (new_app (codes "roll")) (word_rule (codes "INDEX"))

-- thaw INDEX ID
unfoldable pub thaw : App
thaw = with_rule (with_rule (new_app (codes "thaw")) (word_rule (codes "INDEX"))) (word_rule (codes "ID"))

-- tick
unfoldable pub tick : App
tick = new_app (codes "tick")

-- selftest SEED COUNT
unfoldable pub selftest : App
selftest =
    with_rule (with_rule (new_app (codes "selftest")) (word_rule (codes "SEED"))) (word_rule (codes "COUNT"))

-- the program before its commands: one of them is needed, the words begin behind the program's own
-- name, and neither help nor a version is there
unfoldable pub program : App
program = on_top
    (λ s. record s {
      no_binary_name = true;
      disable_help_flag = true;
      disable_help_subcommand = true;
      disable_version_flag = true;
      subcommand_required = true;
    })
    (new_app (codes "indexd"))

-- with one more command
abbrev pub with_one : App → App → App
with_one above one = with_subcommand above one.top

-- the program with the first commands, and with more and more of those behind them
unfoldable pub first_commands : App
first_commands = with_one (with_one (with_one program preview) btool) feed

unfoldable pub next_commands : App
next_commands = with_one (with_one (with_one first_commands serve) monitor) buckets

unfoldable pub index_commands : App
index_commands = with_one (with_one (with_one next_commands export) roll) thaw

-- the program with all its commands
unfoldable pub table : App
table =
    with_one (with_one (with_one (with_one (with_one (with_one (with_one (with_one (with_one (with_one (with_one program
    preview) btool) feed) serve) monitor) buckets) export) roll) thaw) tick) selftest
