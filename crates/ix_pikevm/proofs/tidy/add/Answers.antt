use Rattle.std.proofs.Common.{rules, ◌≡◌, ◌+◌, length}
use Rattle.ix_pikevm.proofs.TidyLemmas.{comes-added}
use Rattle.ix_pikevm.proofs.tidy.add.Goals as goal

pub returns-clause-trail : goal.returns-clause-trail
returns-clause-trail c = λ spans before.
    let at : c.len-trail.result + 1 ≡ length c.args.cells.now.items + 1 = search rules in
    comes-added c.args.cells.now.items c.push.new.self.items c.args.event c.args.earlier (c.len-trail.result + 1) spans at
    c.in_ok-push.ensures.items before
