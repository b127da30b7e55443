use Rattle.std.proofs.Common.{rules, w64, ◌∙◌, get_or}
use mir.Val.{SFits}
use Rattle.std.proofs.Math.Facts.{to_z-of_z}
use Rattle.ix_lines.proofs.MomentLemmas.{no_run, in-run}
use Rattle.ix_lines.proofs.moments.Cursor.moment_at.Goals as goal

pub returns-then-self-runs-clause-moment : goal.returns-then-self-runs-clause-moment
returns-then-self-runs-clause-moment c = λ k.
    let cursor = c.advance.new.self in
    let fits : SFits w64 (get_or c.args.runs.now cursor.run no_run).moment = search rules in
    to_z-of_z fits ∙ in-run c.args.runs.now cursor c.args.place c.advance.ensures.stands c.advance.ensures.on c.if-self-runs.true
    (c.advance.ensures.near c.if-self-runs.true)
