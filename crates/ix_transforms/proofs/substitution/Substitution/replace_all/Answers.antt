use Rattle.std.proofs.Common.{◌<◌, ◌++◌, length, Some, sym, ◌∙◌, ap, subst, arith}
use Rattle.std.specs.Prelude.{IfSome}
use Rattle.std.specs.declared.option.Option.{Option}
use Rattle.std.proofs.lemmas.List.{take_rest}
use Rattle.ix_match.specs.declared.first.Found.{Found}
use Rattle.ix_match.specs.Matches.{LiesIn}
use Rattle.ix_transforms.specs.Matches.{matches, and_on}
use Rattle.ix_transforms.specs.Seds.{cut, replaced}
use Rattle.ix_transforms.proofs.ReplaceLemmas.{places_left, turn-done, all-done, lies-further, fewer-left}
use Rattle.ix_transforms.proofs.substitution.Substitution.replace_all.Goals as goal

pub loop-next-init : goal.loop-next-init
loop-next-init c =
    let self = c.args.self.now in
    record {
      so_far = ap (λ out. cut (out ++ replaced self.parts.now self.text.now 0
          (and_on (λ q. matches self.pattern.now self.text.now q) (Some c.args.first)))) c.new-out.ensures;
      lies = c.requires;
      room = omega (arith, ap length c.new-out.ensures);
      within = omega arith;
    }

pub loop-next-preserved : goal.loop-next-preserved
loop-next-preserved c =
    let self = c.args.self.now in
    let f = c.in-Some.found in
    let lies : LiesIn self.text.now c.loop-next.copied self.pattern.now.groups f =
    subst (λ (x : Option Found). IfSome x (λ f. LiesIn self.text.now c.loop-next.copied self.pattern.now.groups f)) c.in-Some.is
    c.loop-next.invariant.lies in
    let further = c.behind.ensures in
    record {
      so_far = turn-done self.pattern.now self.parts.now self.text.now c.loop-next.copied c.behind.result f c.loop-next.next
          c.in_ok-next.next c.loop-next.out c.add.new.out _
          c.in-Some.is c.behind.ensures c.in_ok-next.ensures.first c.in_ok-add.ensures.added c.loop-next.invariant.so_far;
      lies = lies-further self.text.now f.end c.behind.result self.pattern.now.groups c.in_ok-next.next (omega arith)
          c.in_ok-next.ensures.lies;
      room = c.in_ok-add.ensures.room;
      within = lies.within;
    }

pub loop-next-smaller : goal.loop-next-smaller
loop-next-smaller c =
    let self = c.args.self.now in
    let f = c.in-Some.found in
    let lies : LiesIn self.text.now c.loop-next.copied self.pattern.now.groups f =
    subst (λ (x : Option Found). IfSome x (λ f. LiesIn self.text.now c.loop-next.copied self.pattern.now.groups f)) c.in-Some.is
    c.loop-next.invariant.lies in
    let further = c.behind.ensures in
    let order = lies.order in
    let within = lies.within in
    subst (λ (x : Option Found). places_left (length self.text.now) c.in_ok-next.next < places_left (length self.text.now) x)
    (sym c.in-Some.is)
    (fewer-left self.text.now c.behind.result self.pattern.now.groups f c.in_ok-next.next (omega arith) (omega arith)
    c.in_ok-next.ensures.lies)

pub returns : goal.returns
returns c =
    let self = c.args.self.now in
    c.in_ok-add_within.ensures.added
    ∙ ap (λ rest. cut (c.loop-next.out ++ rest)) (take_rest self.text.now c.loop-next.copied)
    ∙ all-done self.pattern.now self.parts.now self.text.now c.loop-next.copied c.loop-next.next c.loop-next.out _ c.in_default.is
    c.loop-next.invariant.so_far
