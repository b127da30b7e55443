use Rattle.std.proofs.Common.{◌≡◌, ◌∙◌, ap, subst}
use Rattle.std.specs.Prelude.{slice_get, IfSome}
use Rattle.ix_pikevm.specs.Outcomes.{head_of}
use Rattle.ix_match.specs.Matches.{ways_from}
use Rattle.ix_match.proofs.FindLemmas.{end-lies, none-here}
use Rattle.ix_match.proofs.compiled.CompiledPattern.tried_at.Goals as goal

pub returns-in-End-clause-lies : goal.returns-in-End-clause-lies
returns-in-End-clause-lies g c =
    let head = subst (λ r. IfSome r (λ o. slice_get (ways_from c.args.self.now.pattern c.args.text.now c.args.place) 0 ≡ head_of o))
    c.in-Some.is c.in_ok-tried.ensures.head in
    end-lies c.args.self.now.pattern c.args.text.now c.args.place c.in-End.end c.in-End.groups.items c.from_vec.result c.requires.place
    c.from_vec.ensures
    (head ∙ ap head_of c.in-End.is)

pub returns-in-No : goal.returns-in-No
returns-in-No g c =
    let head = subst (λ r. IfSome r (λ o. slice_get (ways_from c.args.self.now.pattern c.args.text.now c.args.place) 0 ≡ head_of o))
    c.in-Some.is c.in_ok-tried.ensures.head in
    record { is = none-here c.args.self.now.pattern c.args.text.now c.args.place c.in-Some.outcome head c.in-No.is; lies = tt }
