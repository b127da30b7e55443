use Rattle.std.proofs.Common.{refl, sym, ◌∙◌}
use Rattle.ix_replay.proofs.Covered.{files_fewer, files_less}
use Rattle.ix_replay.proofs.file_numbers.FileNumbers.remove.Goals as goal

pub returns-in_default : goal.returns-in_default
returns-in_default c = λ items up. files_fewer c.args.self.now c.args.item.now items up

pub returns : goal.returns
returns c = λ items up. files_less c.args.self.now _ c.args.item.now c.in-Some.file items (sym c.file_in.ensures ∙ c.in-Some.is)
    c.remove.ensures.updates refl up
