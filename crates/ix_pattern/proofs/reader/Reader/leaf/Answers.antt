use Rattle.ix_pattern.proofs.StepLemmas.{leaf-stepped}
use Rattle.ix_pattern.proofs.reader.Reader.leaf.Goals as goal

pub returns : goal.returns
returns c = leaf-stepped c.args.self.now c.with_leaf.new.work c.in_ok-self.field-0 c.args.leaf c.in_ok-self.ensures.kept
    c.in_ok-self.ensures.meaning
