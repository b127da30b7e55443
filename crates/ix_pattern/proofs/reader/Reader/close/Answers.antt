use Rattle.ix_pattern.proofs.StepLemmas.{close-stepped}
use Rattle.ix_pattern.proofs.reader.Reader.close.Goals as goal

pub returns : goal.returns
returns c = close-stepped c.args.self.now c.push.new.self c.empty-self.result c.in_ok-push.ensures.items c.empty-self.ensures
