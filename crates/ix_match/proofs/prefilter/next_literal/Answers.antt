use Rattle.std.proofs.Common.{◌-◌, length, take, drop}
use Rattle.std.proofs.lemmas.List.{take_rest}
use Rattle.ix_match.proofs.PrefilterLemmas.{first-behind-place, none-behind-place}
use Rattle.ix_match.proofs.prefilter.next_literal.Goals as goal

pub returns-in-Some : goal.returns-in-Some
returns-in-Some c =
    first-behind-place c.args.text.now (take (length c.args.text.now - c.args.place) (drop c.args.place c.args.text.now)) c.args.literal.now
    c.args.place c.in-Some.over
    c.requires (take_rest c.args.text.now c.args.place) c.in-Some.ensures

pub returns-in-None : goal.returns-in-None
returns-in-None c =
    none-behind-place c.args.text.now (take (length c.args.text.now - c.args.place) (drop c.args.place c.args.text.now)) c.args.literal.now
    c.args.place
    c.requires (take_rest c.args.text.now c.args.place) c.in-None.ensures
