use Rattle.std.proofs.Common.{◌≡◌, [], take, drop, length-drop, sym, ◌∙◌, arith}
use Rattle.std.proofs.lemmas.Grind.{common_steps}
use Rattle.std.proofs.lemmas.List.{take_at}
use Rattle.ix_disk.specs.Image.{bytes_in}
use Rattle.ix_log.proofs.Windows.{none_on, read_on}
use Rattle.ix_log.proofs.window.Window.reach.Goals as goal

pub returns-then-is_err-clause-shows : goal.returns-then-is_err-clause-shows
returns-then-is_err-clause-shows g c = λ had image told.
    let none : c.resize.new.self.items ≡ [] = grind (arith, common_steps, c.resize.ensures.items, c.clear.ensures.items) in
    rw none (none_on (drop c.args.at (bytes_in image c.args.file)))

pub returns-clause-shows : goal.returns-clause-shows
returns-clause-shows g c = λ had image told.
    let file = bytes_in image c.args.file in
    let read = c.in_ok-n.ensures.bytes image (sym c.in_ok-n.ensures.same ∙ told) in
    let kept : c.truncate.new.self.items ≡ take c.in_ok-n.n c.read.new.buf =
    grind (arith, common_steps, take_at, c.truncate.ensures.items, c.read.auto.buf, c.as_mut_slice.ensures.len) in
    rw kept (read_on c.in_ok-n.n (drop c.args.at file) _ c.read.new.buf (omega (arith, read.0, length-drop c.args.at file)) read.1)
