-- What an order of the code asks for, and when the words are wrong ones.
use Rattle.std.specs.Prelude.{◌≡◌, List, Some, None, option_map}
use Rattle.clap.specs.Words.{Text}
use Rattle.indexd_cli.specs.Orders.{Asked, preview, btool, feed, serve, monitor, buckets, export, roll, thaw, tick, selftest, asked}
use Rattle.indexd_cli.specs.declared.invocation.Invocation.{Invocation}
use Rattle.indexd_cli.specs.declared.invocation.Invocation.TheVariants.{Preview, Btool, Feed, Serve, Monitor, Buckets, Export, Roll, Thaw}
use Rattle.indexd_cli.specs.declared.invocation.Invocation.TheVariants.{Tick, Selftest}

abbrev pub shown : Invocation → Asked
shown (Preview origin store) =
    preview origin.host.now origin.source.now (option_map (λ s. s.now) origin.sourcetype)
    (option_map (λ s. s.now) origin.index) store
shown (Btool file) = btool file.now
shown Feed = feed
shown (Serve port requests) = serve port requests
shown (Monitor close) = monitor close
shown Buckets = buckets
shown (Export index range) = export index.now range
shown (Roll index) = roll index.now
shown (Thaw index id) = thaw index.now id
shown Tick = tick
shown (Selftest seed count) = selftest seed count

-- the words ask for this
abbrev pub Asks : Invocation → List Text → Type 0
Asks order words = asked words ≡ Some (shown order)

-- the words ask for nothing: they are not of the table, or a value is outside its range
abbrev pub IsUsage : List Text → Type 0
IsUsage words = asked words ≡ None
