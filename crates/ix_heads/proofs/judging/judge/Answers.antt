use Rattle.std.proofs.Common.{◌≡◌, true, false, Bool, sym, ◌∙◌}
use Rattle.ix_heads.proofs.FrontLemmas.{open_without_empty, blank_no_head}
use Rattle.ix_heads.proofs.MayLemmas.{fronts_may, fronts_blank}
use Rattle.ix_heads.proofs.judging.judge.Goals as goal

true_false : {b : Bool} → b ≡ true → b ≡ false → ⊥
true_false p q = cc

pub returns-then-is_blank-clause-judged : goal.returns-then-is_blank-clause-judged
returns-then-is_blank-clause-judged c =
    let fronts = c.requires.fronts (sym c.is_due.ensures ∙ c.if-is_due.false) in
    let none = blank_no_head c.args.bytes.now (fronts_blank c.args.scan.now.part c.args.bytes.now (c.is_blank.ensures c.if-is_blank.true)
    fronts) in
    (none, fronts_may c.args.scan.now.part c.args.bytes.now none fronts)

pub returns-then-not-ends_in_empty_line-clause-judged : goal.returns-then-not-ends_in_empty_line-clause-judged
returns-then-not-ends_in_empty_line-clause-judged c =
    let fronts = c.requires.fronts (sym c.is_due.ensures ∙ c.if-is_due.false) in
    let none = open_without_empty c.args.bytes.now c.requires.some c.requires.before
    (λ e. true_false (c.ends_in_empty_line.ensures e) c.if-not-ends_in_empty_line.true) in
    (none, fronts_may c.args.scan.now.part c.args.bytes.now none fronts)
