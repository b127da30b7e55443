use Rattle.std.proofs.Common.{sym, subst}
use Rattle.ix_parse.specs.Standing.{StandsFor}
use Rattle.ix_parse.proofs.channel.Channel.resume.Goals as goal

pub resumed-requires : goal.resumed-requires
resumed-requires c = c.requires.usable

pub channel_of-requires-clause-whole : goal.channel_of-requires-clause-whole
channel_of-requires-clause-whole c = c.in_ok-lines.ensures.whole

pub channel_of-requires-clause-usable : goal.channel_of-requires-clause-usable
channel_of-requires-clause-usable c = c.requires.usable

pub returns-clause-stands : goal.returns-clause-stands
returns-clause-stands c = λ stream is.
    subst (StandsFor c.args.settings c.args.meta stream) (sym c.in_ok-channel.ensures) (c.in_ok-lines.ensures.stands c.args.meta stream is)

pub returns-clause-read : goal.returns-clause-read
returns-clause-read c = c.in_ok-lines.ensures.read
