use Rattle.std.proofs.Common.{◌∙◌, ap, sym, subst}
use Rattle.std.specs.List.{All}
use Rattle.std.proofs.lemmas.List.Elements.{All-nil}
use Rattle.ix_lines.specs.Breaks.{breaks_by}
use Rattle.ix_lines.specs.Lines.{effective, IsShort}
use Rattle.ix_parse.specs.Standing.{Kept}
use Rattle.ix_parse.proofs.LineLemmas.{ended-lines}
use Rattle.ix_parse.proofs.channel.Channel.last_lines.Goals as goal

pub returns-clause-lines : goal.returns-clause-lines
returns-clause-lines g c = λ settings meta stream is.
    ended-lines (breaks_by settings.breaker) (effective settings.truncate) stream c.args.self.now.lines c.in_ok-copy.field-0
    c.new-last.result c.close.new.out
    is.breaks_are is.lines_are (c.in_ok-copy.ensures ∙ c.deref.ensures ∙ ap (λ (v : Kept). v.lines) c.self.view_is) c.new-last.ensures
    (λ s stands. c.in_ok-close.ensures.ok s stands)

pub returns-clause-short : goal.returns-clause-short
returns-clause-short g c = c.close.ensures.short (subst (All IsShort) (sym c.new-last.ensures) (All-nil IsShort))
