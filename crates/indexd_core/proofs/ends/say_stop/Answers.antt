use Rattle.indexd_core.proofs.ends.say_stop.Goals as goal

pub returns-in-NotFound-clause-said : goal.returns-in-NotFound-clause-said
returns-in-NotFound-clause-said g c = rw c.in-NotFound.is c.say_missing.ensures.said
