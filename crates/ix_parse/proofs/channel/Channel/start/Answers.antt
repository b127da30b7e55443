use Rattle.std.proofs.Common.{[], None, rules, sym, subst}
use Rattle.ix_parse.specs.Standing.{Kept, StandsFor}
use Rattle.ix_parse.proofs.channel.Channel.start.Goals as goal

pub returns : goal.returns
returns c =
    let k : Kept =
    record { settings = c.args.settings; meta = c.args.meta; lines = c.in_ok-lines.lines; merge = c.new-merge.result; latest = None } in
    let is : StandsFor c.args.settings c.args.meta [] k = search rules in
    subst (StandsFor c.args.settings c.args.meta []) (sym c.in_ok-channel.ensures) is
