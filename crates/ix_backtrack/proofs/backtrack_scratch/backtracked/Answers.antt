use Rattle.std.proofs.Common.{rules, ◌≡◌, length, subst, sym, ◌∙◌, ap}
use Rattle.std.proofs.lemmas.List.{nil_from_length}
use Rattle.std.specs.Prelude.{replicate, None, slice_get}
use Rattle.ix_pikevm.specs.Code.{best_ways}
use Rattle.ix_pikevm.specs.Leaf.{text_of}
use Rattle.ix_backtrack.specs.Tried.{Settled}
use Rattle.ix_backtrack.proofs.FrameLemmas.{plain-code, settled-head}
use Rattle.ix_backtrack.proofs.backtrack_scratch.backtracked.Goals as goal

pub attempt-requires-clause-code : goal.attempt-requires-clause-code
attempt-requires-clause-code g c =
    let none : length c.args.finder.now.program.asks.items ≡ 0 = search rules in
    plain-code c.args.p.now.rows c.args.finder.now.program _ c.deref.ensures.value
    (nil_from_length c.args.finder.now.program.asks.items none) c.requires.finder.program

pub returns-clause-head : goal.returns-clause-head
returns-clause-head g c =
    let s = subst (Settled c.args.p.now.rows c.deref.result.now (text_of c.args.input) c.args.finder.now.program.start c.args.place
    c.attempt.new.cells.items) c.in-Some.is c.in_ok-tried.ensures.settled in
    settled-head c.args.p.now.rows c.args.finder.now.program c.deref.result.now (text_of c.args.input) c.args.place
    c.attempt.new.cells.items c.in-Some.best (replicate c.args.p.now.groups None)
    c.deref.ensures.value c.requires.finder.program c.requires.within s
    ∙ ap (λ l. slice_get (best_ways (replicate c.args.p.now.groups None) l c.in-Some.best) 0) (sym c.deref-2.ensures.value)
    ∙ ap (λ n. slice_get (best_ways (replicate n None) c.deref-2.result.now c.in-Some.best) 0) (sym c.groups.ensures.is)
    ∙ c.in_ok-found.ensures

pub returns-in_default-clause-spent : goal.returns-in_default-clause-spent
returns-in_default-clause-spent g c = search rules

pub returns-then-not-is_empty-clause-spent : goal.returns-then-not-is_empty-clause-spent
returns-then-not-is_empty-clause-spent g c = search rules
