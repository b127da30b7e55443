use Rattle.std.proofs.Common.{◌≡◌, take}
use Rattle.indexd_core.specs.Texts.{lines_of}
use Rattle.indexd_core.proofs.events.EventWriter.lay_out.Given as goal

abbrev pub invariant-loop-one : goal.invariant-loop-one
invariant-loop-one l = (l.self.text.bytes ≡ lines_of l.initial.self.limits (take l.one-index l.one-items))
    × (l.self.limits ≡ l.initial.self.limits)
