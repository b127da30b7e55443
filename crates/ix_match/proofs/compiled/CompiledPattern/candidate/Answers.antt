use Rattle.ix_match.proofs.compiled.CompiledPattern.candidate.Goals as goal

pub returns : goal.returns
returns c = c.candidate.ensures c.args.self.now.pattern c.requires.prepared.prefilter
