use Rattle.std.proofs.Common.{Err, ◌≡◌, refl, ap, sym, subst}
use Rattle.std.proofs.lemmas.Result.{err_from_is_err_and, IfOk-from_err}
use Rattle.ix_parse.specs.Form.{IsCarryOf}
use Rattle.ix_parse.specs.declared.carry.Carry.{Carry}
use Rattle.ix_parse.specs.declared.carry.CarryRules.{CarryRules}
use Rattle.ix_parse.specs.declared.carry.ResumeFault.TheVariants.{BadCarry}
use Rattle.ix_lines.specs.Breaks.{breaks_by}
use Rattle.ix_lines.specs.Lines.{effective}
use Rattle.ix_lines.specs.Parts.{IsBreaker}
use Rattle.ix_parse.specs.Carry.{carry_of}
use Rattle.ix_parse.proofs.LineLemmas.{resumed-lines}
use Rattle.ix_parse.proofs.StandLemmas.{marked_of}
use Rattle.ix_parse.proofs.channel.resumed.Goals as goal

pub resume-requires : goal.resume-requires
resume-requires c = subst IsBreaker (sym c.in_ok-breaker.ensures) (record { some_group = c.requires.groups; takes = c.requires.takes })

pub resume-merge-requires-clause-some : goal.resume-merge-requires-clause-some
resume-merge-requires-clause-some c = c.requires.lines

pub resume-merge-requires-clause-form : goal.resume-merge-requires-clause-form
resume-merge-requires-clause-form c =
    (subst (λ (rules : CarryRules). IsCarryOf rules c.args.carry.now c.in_ok-said.said) c.rules_of.ensures
    c.in_ok-said.ensures.found).form.merge

pub returns-in_err-said-clause-stands : goal.returns-in_err-said-clause-stands
returns-in_err-said-clause-stands c = IfOk-from_err c.from_residual.result _ c.from_residual.ensures.0

pub returns-in_err-said-clause-bad : goal.returns-in_err-said-clause-bad
returns-in_err-said-clause-bad c = λ bad said is.
    let p = err_from_is_err_and c.from_residual.result c.from_residual.ensures.1 in
    let p1 = p.1 in
    let p2 = p.2 in
    let e : c.in_err-said.field-0.0 ≡ BadCarry = cc in
    c.in_err-said.ensures.bad (ap Err e) said (subst (λ (rules : CarryRules). IsCarryOf rules c.args.carry.now said)
    (sym c.rules_of.ensures) is)

pub returns-clause-stands : goal.returns-clause-stands
returns-clause-stands c = λ meta stream is.
    let s = c.args.settings.now in
    let e : c.in_ok-said.said ≡ carry_of s stream = c.in_ok-said.ensures.again (carry_of s stream)
    (subst (λ (rules : CarryRules). IsCarryOf rules c.args.carry.now (carry_of s stream)) (sym c.rules_of.ensures) is) in
    let l = resumed-lines (breaks_by s.breaker) (effective s.truncate) stream c.in_ok-breaker.breaker c.in_ok-lines.lines
    c.in_ok-said.said.lines
    (ap breaks_by c.in_ok-breaker.ensures) c.in_ok-lines.ensures.breaker c.in_ok-lines.ensures.truncate (ap (λ (x : Carry). x.lines) e)
    c.in_ok-lines.ensures.stands in
    record {
      settings_are = refl;
      meta_is = refl;
      breaks_are = l.0;
      lines_are = l.1;
      merges = c.resume-merge.ensures.on;
      most_lines = c.resume-merge.ensures.max_lines;
      events_are = c.resume-merge.ensures.stands (marked_of s stream) (ap (λ (x : Carry). x.merge) e);
      latest_is = ap (λ (x : Carry). x.latest) e;
    }

pub returns-clause-whole : goal.returns-clause-whole
returns-clause-whole c = c.resume-merge.ensures.whole

pub returns-clause-read : goal.returns-clause-read
returns-clause-read c = (
  c.in_ok-said.said,
  subst (λ (rules : CarryRules). IsCarryOf rules c.args.carry.now c.in_ok-said.said) c.rules_of.ensures
      c.in_ok-said.ensures.found,
)
