use Rattle.std.proofs.Common.{rules, ◌≡◌, refl}
use Rattle.ix_pikevm.proofs.matcher.Matcher.copy.Goals as goal

pub returns : goal.returns
returns c =
    let table : c.in_ok-table.table.items ≡ c.args.self.now.table.items = search rules in
    record { program = c.in_ok-program.ensures; table = table; width = refl }
