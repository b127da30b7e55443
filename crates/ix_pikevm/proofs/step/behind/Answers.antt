use Rattle.std.proofs.lemmas.Option.{slice_get_within}
use Rattle.ix_pikevm.specs.declared.code.Instr.TheVariants.{Byte}
use Rattle.ix_pikevm.proofs.step.behind.Goals as goal

pub instr_at-requires : goal.instr_at-requires
instr_at-requires g c = slice_get_within c.args.code.now c.args.thread.pc _ c.requires.byte.2

pub answer-requires-clause-piece : goal.answer-requires-clause-piece
answer-requires-clause-piece g c = c.requires.sets c.args.thread.pc (Byte c.in-Byte.set c.in-Byte.next) c.in-Byte.ensures
