use Rattle.std.proofs.Common.{rules, arith, ◌≡◌, ◌<◌, ◌∙◌, ap, inr, subst, length, IfOk, sym}
use Rattle.ix_match.specs.Scans.{Scanned, GoesOn}
use Rattle.ix_lines.specs.Begun.{Breaking, IsBegun}
use Rattle.ix_lines.specs.Breaks.{breaks_by}
use Rattle.ix_lines.specs.Laws.{IsStable}
use Rattle.ix_lines.specs.Seek.{look_of}
use Rattle.ix_lines.proofs.Attempts.{breaks-stable}
use Rattle.ix_lines.proofs.Looking.{any-ok, given-these, no-tests}
use Rattle.ix_lines.proofs.SeekLemmas.{looked-sized, answer-sized}
use Rattle.ix_lines.proofs.RunBreaks.{counted-look}
use Rattle.ix_lines.proofs.breaks.Breaker.look.Goals as goal

pub returns-clause-is : goal.returns-clause-is
returns-clause-is g c =
    let is : IfOk c.match-branch-2.result (λ l. look_of l ≡ breaks_by c.self.inside.pattern c.args.before c.args.bytes.now
    c.args.unfinished) = search rules in
    subst (λ (b : Breaking). IfOk c.match-branch-2.result
    (λ l. look_of l ≡ breaks_by b.pattern c.args.before c.args.bytes.now c.args.unfinished)) c.self.view_is is

pub returns-clause-sized : goal.returns-clause-sized
returns-clause-sized g c =
    let stable = subst (λ (b : Breaking). IsStable (breaks_by b.pattern)) c.self.view_is
    (breaks-stable c.self.inside.pattern c.self.invariant.0 c.self.invariant.1) in
    answer-sized (breaks_by c.args.self.now.pattern) stable c.args.unfinished c.args.before c.args.bytes.now c.match-branch-2.result
    (returns-clause-is g c)

pub returns-then-self-clause-sized : goal.returns-then-self-clause-sized
returns-then-self-clause-sized g c =
    let i = c.self.inside in
    looked-sized (breaks_by i.pattern) (breaks-stable i.pattern c.self.invariant.0 c.self.invariant.1) c.args.unfinished c.args.before
    c.args.bytes.now c.run_at.result
    (c.run_at.ensures
    ∙ counted-look i.pattern i.scan.starts c.self.invariant.2 (c.self.invariant.4 c.if-self.true) c.args.before c.args.bytes.now
    c.args.unfinished (λ k. omega (arith, c.type_inv.bytes k)))

pub returns-then-self-clause-is : goal.returns-then-self-clause-is
returns-then-self-clause-is g c =
    let i = c.self.inside in
    c.run_at.ensures
    ∙ counted-look i.pattern i.scan.starts c.self.invariant.2 (c.self.invariant.4 c.if-self.true) c.args.before c.args.bytes.now
    c.args.unfinished (λ k. omega (arith, c.type_inv.bytes k))
    ∙ ap (λ (b : Breaking). breaks_by b.pattern c.args.before c.args.bytes.now c.args.unfinished) c.self.view_is

pub advance-requires : goal.advance-requires
advance-requires g c =
    record {
      pattern = sym c.self.invariant.3;
      goes_on = subst (λ (b : Breaking). GoesOn b.scan c.args.before c.args.bytes.now) (sym c.self.view_is) c.requires;
    }

pub returns-clause-goes_on : goal.returns-clause-goes_on
returns-clause-goes_on g c = any-ok c.match-branch-2.result
    (given-these c.advance.new.self c.self.inside.scan c.args.before c.args.bytes.now c.in_ok-found.ensures.given)

pub returns-clause-begun : goal.returns-clause-begun
returns-clause-begun g c = any-ok c.match-branch-2.result
    (λ some. inr (subst (λ (s : Scanned). 0 < length s.given) (sym c.in_ok-found.ensures.given) some))

pub returns-clause-again : goal.returns-clause-again
returns-clause-again g c = λ begun.
    no-tests c.self.inside.scan c.self.inside.counts _ c.if-self.false c.advance.ensures.goes_on (subst IsBegun (sym c.self.view_is) begun)
