use Rattle.std.proofs.Common.{rules, ◌≡◌, List, [], ◌∷◌, ◌++◌, length, refl, sym, ◌∙◌, subst}
use Rattle.std.proofs.lemmas.List.{nil_from_length}
use Rattle.ix_base.specs.declared.events.Line.{Line}
use Rattle.ix_parse.specs.Marks.{marked}
use Rattle.ix_parse.specs.Stage.{Takes}
use Rattle.ix_parse.proofs.EventLemmas.{takes-none, takes-more}
use Rattle.ix_parse.proofs.outcomes.Owner.take_lines.Goals as goal

pub loop-line-init : goal.loop-line-init
loop-line-init c = record {
  takes = λ earlier holds. takes-none c.args.self.now.settings.now c.args.self.now.meta.now earlier c.args.merge.now c.args.outcomes.now
      holds;
  small = λ limits small. small;
  whole = c.requires.whole;
  on = refl;
  max_lines = refl;
}

pub returns-then-is_empty-clause-takes : goal.returns-then-is_empty-clause-takes
returns-then-is_empty-clause-takes c = λ earlier holds.
    let s = c.args.self.now.settings.now in
    let none : length c.args.lines ≡ 0 = search rules in
    subst (λ (lines : List Line). Takes s c.args.self.now.meta.now earlier lines c.args.merge.now c.args.merge.now c.args.outcomes.now
    c.args.outcomes.now)
    (sym (nil_from_length c.args.lines none)) (takes-none s c.args.self.now.meta.now earlier c.args.merge.now c.args.outcomes.now holds)

pub loop-line-preserved : goal.loop-line-preserved
loop-line-preserved c =
    let inv = c.loop-line.invariant in
    let s = c.args.self.now.settings.now in
    let xs = c.loop-line.yielded in
    record {
      takes = λ earlier holds.
          let first = inv.takes earlier holds in
          takes-more s c.args.self.now.meta.now earlier xs (c.in-Some.line ∷ []) c.args.merge.now c.loop-line.merge c.take_line.new.merge
          c.args.outcomes.now c.loop-line.outcomes c.take_line.new.outcomes inv.on inv.max_lines first
          (c.in_ok-take_line.ensures.takes (earlier ++ marked s.merge s.time xs) first.holds);
      small = λ limits small. c.in_ok-take_line.ensures.small limits (inv.small limits small);
      whole = c.in_ok-take_line.ensures.whole;
      on = c.take_line.ensures.on ∙ inv.on;
      max_lines = c.take_line.ensures.max_lines ∙ inv.max_lines;
    }
