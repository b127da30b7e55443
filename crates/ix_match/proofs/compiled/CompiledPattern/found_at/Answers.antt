use Rattle.std.proofs.Common.{◌∙◌, ap}
use Rattle.ix_pikevm.specs.Outcomes.{head_of}
use Rattle.ix_match.proofs.FindLemmas.{end-lies, none-here}
use Rattle.ix_match.proofs.compiled.CompiledPattern.found_at.Goals as goal

pub returns-in-End-clause-lies : goal.returns-in-End-clause-lies
returns-in-End-clause-lies g c =
    end-lies c.args.self.now.pattern c.args.text.now c.args.place c.in-End.end c.in-End.groups.items c.from_vec.result c.requires.place
    c.from_vec.ensures
    (c.in_ok-end.ensures.head ∙ ap head_of c.in-End.is)

pub returns-in-No : goal.returns-in-No
returns-in-No g c =
    record {
      room = c.in_ok-end.ensures.room;
      preferred = none-here c.args.self.now.pattern c.args.text.now c.args.place c.in_ok-end.field-0 c.in_ok-end.ensures.head c.in-No.is;
      lies = tt;
    }
