use Rattle.std.proofs.Common.{sym, ◌∙◌, ap, subst, take}
use Rattle.std.specs.Prelude.{not, IfSome}
use Rattle.ix_pattern.specs.Ways.{Text}
use Rattle.ix_pikevm.specs.Leaf.{text_of}
use Rattle.ix_match.specs.Attempt.{reach}
use Rattle.ix_match.specs.Scans.{Scanned}
use Rattle.ix_match.specs.Searches.{KeepsFor}
use Rattle.ix_match.proofs.ScanLemmas.{head-here, look-lies}
use Rattle.ix_match.proofs.KeptLemmas.{keeps-on}
use Rattle.ix_match.proofs.scan.Scan.advance.Goals as goal

pub go_on_with-came-requires-clause-goes_on : goal.go_on_with-came-requires-clause-goes_on
go_on_with-came-requires-clause-goes_on g c = λ yes.
    let old = c.args.self.now in
    let i = c.self.inside in
    let rows = c.args.p.now.rows in
    let held : IfSome i.kept (λ k. KeepsFor old.pattern.rows k old.before (take reach old.given)) =
    rw (← c.self.view_is) c.self.invariant.1 in
    let on = keeps-on rows reach i.kept old c.args.before c.args.text.now (ap (λ (s : Scanned). s.before) (sym c.self.view_is)
    ∙ c.is_same-goes_on.ensures yes) c.requires.goes_on
    (subst (λ q. IfSome i.kept (λ k. KeepsFor q.rows k old.before (take reach old.given))) (sym c.requires.pattern) held) in
    subst (λ b. IfSome i.kept (λ k. KeepsFor rows k b c.seen-input.result.bytes.now)) (sym c.seen-input.ensures.before)
    (subst (λ l. IfSome i.kept (λ k. KeepsFor rows k c.args.before l)) (sym c.seen-input.ensures.bytes) on)

pub returns-clause-lies : goal.returns-clause-lies
returns-clause-lies g c =
    let text : Text = record { before = c.args.before; bytes = c.args.text.now; unfinished = not c.args.closed } in
    look-lies c.args.p.now text c.look_of.result
    (head-here c.args.p.now text (text_of c.seen-input.result) _ c.look_of.result c.seen-input.ensures.text c.in-Ok.ensures.head
    c.look_of.ensures.head) c.look_of.ensures.begins
