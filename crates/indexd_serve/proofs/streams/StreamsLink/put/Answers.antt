use Rattle.std.proofs.Common.{rules}
use Rattle.indexd_serve.proofs.streams.StreamsLink.put.Goals as goal

pub returns-in-Err-clause-goes : goal.returns-in-Err-clause-goes
returns-in-Err-clause-goes g c = search rules
