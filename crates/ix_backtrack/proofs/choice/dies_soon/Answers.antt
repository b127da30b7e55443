use Rattle.std.proofs.Common.{◌∷◌, ◌∙◌}
use Rattle.ix_pikevm.specs.declared.code.Instr.TheVariants.{Jump, Finish}
use Rattle.ix_pikevm.specs.declared.cells.Event.TheVariants.{Ended}
use Rattle.ix_backtrack.proofs.choice.dies_soon.Goals as goal

pub dies-requires-clause-pc : goal.dies-requires-clause-pc
dies-requires-clause-pc g c = c.requires.code.targets c.args.pc (Finish c.in-Finish.number c.in-Finish.next) c.in-Finish.ensures

pub dies-requires-in-Jump-clause-pc : goal.dies-requires-in-Jump-clause-pc
dies-requires-in-Jump-clause-pc g c = c.requires.code.targets c.args.pc (Jump c.in-Jump.next) c.in-Jump.ensures

pub returns-in-Finish : goal.returns-in-Finish
returns-in-Finish g c =
    λ is blank mean rank m h. m.gives c.args.pc (Finish c.in-Finish.number c.in-Finish.next) c.in-Finish.ensures h c.args.place
    c.requires.within
    ∙ c.dies.ensures is blank mean rank m (Ended c.in-Finish.number c.args.place ∷ h)

pub returns-in-Jump : goal.returns-in-Jump
returns-in-Jump g c =
    λ is blank mean rank m h. m.gives c.args.pc (Jump c.in-Jump.next) c.in-Jump.ensures h c.args.place c.requires.within
    ∙ c.dies-in-Jump.ensures is blank mean rank m h
