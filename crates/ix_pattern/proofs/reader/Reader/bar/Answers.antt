use Rattle.std.proofs.Common.{rules}
use Rattle.ix_pattern.proofs.StepLemmas.{bar-stepped}
use Rattle.ix_pattern.proofs.reader.Reader.bar.Goals as goal

pub returns : goal.returns
returns c = bar-stepped c.args.self.now c.with_bar.new.work c.in_ok-self.field-0 (search rules) c.in_ok-self.ensures.kept
    c.in_ok-self.ensures.meaning
