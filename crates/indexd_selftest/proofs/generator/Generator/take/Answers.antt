use Rattle.indexd_selftest.proofs.Cutting.{rest_by, taken_by}
use Rattle.indexd_selftest.proofs.generator.Generator.take.Goals as goal

pub returns-clause-taken : goal.returns-clause-taken
returns-clause-taken c = taken_by c.min-size.result c.args.size c.args.self.now.ahead c.as_slice-ahead.result.now c.in_ok-block.block
    c.as_slice-ahead.ensures c.min-size.ensures c.in_ok-block.ensures

pub returns-clause-ahead : goal.returns-clause-ahead
returns-clause-ahead c = rest_by c.min-size.result c.args.size c.args.self.now.ahead c.as_slice-ahead.result.now c.in_ok-rest.rest
    c.as_slice-ahead.ensures c.min-size.ensures c.in_ok-rest.ensures
