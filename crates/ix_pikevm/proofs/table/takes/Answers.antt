use Rattle.std.proofs.Common.{◌+◌, ◌≤◌, sym, subst, arith}
use Rattle.ix_pikevm.specs.Tests.{asked_of}
use Rattle.ix_pikevm.proofs.table.takes.Goals as goal

pub returns-in-Bytes-clause-counted : goal.returns-in-Bytes-clause-counted
returns-in-Bytes-clause-counted g c =
    subst (λ o. c.accepts.new.steps ≤ c.args.steps.now + asked_of o) (sym c.in-Bytes.ensures.node) (let one = c.accepts.ensures.counted in
    omega (arith, one))
