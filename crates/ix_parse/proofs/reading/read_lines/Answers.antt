use Rattle.ix_lines.specs.declared.carry.LineParts.{LineParts}
use Rattle.ix_parse.proofs.Found.{lines_found}
use Rattle.ix_parse.proofs.reading.read_lines.Goals as goal

pub returns-clause-found : goal.returns-clause-found
returns-clause-found c =
    let parts : LineParts = record { before = c.in_ok-before.before; pending = c.in_ok-pending.pending; line = c.in_ok-line.line } in
    lines_found parts _ _ _ _ c.in_ok-before.ensures.found c.in_ok-pending.ensures.found.0 c.in_ok-line.ensures.found.0

pub returns-clause-form : goal.returns-clause-form
returns-clause-form c = (c.in_ok-pending.ensures.found.1, c.in_ok-line.ensures.found.1)
