use Rattle.std.proofs.Common.{◌≡◌, length, ap, sym, ◌∙◌}
use Rattle.std.proofs.lemmas.Bool.{eqb-false}
use Rattle.std.proofs.lemmas.Result.{err_from_is_err_and}
use Rattle.ix_parse.specs.declared.carry.ResumeFault.TheVariants.{BadCarry}
use Rattle.ix_parse.proofs.Whole.{only_carry, no_carry}
use Rattle.ix_parse.proofs.reading.read_carry.Goals as goal

pub returns-in_err-carry-clause-bad : goal.returns-in_err-carry-clause-bad
returns-in_err-carry-clause-bad c = λ bad carry h.
    let p = err_from_is_err_and c.from_residual.result c.from_residual.ensures.1 in
    let p1 = p.1 in
    let p2 = p.2 in
    let e : c.in_err-carry.field-0.0 ≡ BadCarry = cc in
    no_carry c.args.rules c.args.bytes.now carry c.in_err-carry.field-0.0 e c.in_err-carry.ensures.gives h

pub returns-then-not-is_empty-clause-bad : goal.returns-then-not-is_empty-clause-bad
returns-then-not-is_empty-clause-bad c = λ bad carry h.
    let one = only_carry c.args.rules c.args.bytes.now c.in_ok-carry.rest.now c.in_ok-carry.carry carry c.in_ok-carry.ensures.gives h in
    eqb-false _ _ (sym c.is_empty.ensures ∙ c.if-not-is_empty.true) (ap length one.1)

pub returns-clause-again : goal.returns-clause-again
returns-clause-again c = λ carry h.
    let one = only_carry c.args.rules c.args.bytes.now c.in_ok-carry.rest.now c.in_ok-carry.carry carry c.in_ok-carry.ensures.gives h in
    one.0
