use Rattle.std.proofs.Common.{◌-◌, arith}
use Rattle.std.proofs.lemmas.List.{take_rest}
use Rattle.ix_log.proofs.Windows.{ahead_on}
use Rattle.ix_log.proofs.window.Window.ahead.Goals as goal

pub returns : goal.returns
returns c = λ file on.
    let window = c.args.self.now in
    rw (c.deref.ensures.value, take_rest window.held.items (c.args.at - window.start))
    (ahead_on window c.args.at file (omega arith) (omega arith) on)
