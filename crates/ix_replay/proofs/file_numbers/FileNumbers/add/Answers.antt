use Rattle.std.proofs.Common.{sym, ◌∙◌}
use Rattle.ix_replay.proofs.Covered.{add_file, files_same}
use Rattle.ix_replay.proofs.file_numbers.FileNumbers.add.Goals as goal

pub returns-in-Some : goal.returns-in-Some
returns-in-Some c = add_file c.hold.result c.args.self.now c.hold.new.self c.args.item.now c.in-Some.file
    (sym c.file_in.ensures ∙ c.in-Some.is) c.hold.ensures

pub returns-in-None : goal.returns-in-None
returns-in-None c = λ yes items up. files_same c.args.self.now c.args.item.now items (sym c.file_in.ensures ∙ c.in-None.is) up
