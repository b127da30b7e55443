use Rattle.std.proofs.Common.{◌≡◌, reverse, sym, subst, arith, get_or, take}
use lib.Seq.{take_all}
use Rattle.std.proofs.lemmas.Option.{slice_get-get_or}
use Rattle.ix_pikevm.specs.Tidied.{ComesTo}
use Rattle.ix_pikevm.proofs.RunLemmas.{grown-none, grown-both}
use Rattle.ix_pikevm.proofs.TidyLemmas.{comes-open, take-next}
use Rattle.ix_pikevm.proofs.tidy.add_open.Goals as goal

pub loop-at-init : goal.loop-at-init
loop-at-init c = record { trail = λ groups is. is; short = omega arith; grown = grown-none c.args.cells.now.items }

pub loop-at-preserved : goal.loop-at-preserved
loop-at-preserved c =
    record {
      trail = λ groups is. subst (λ l. ComesTo c.add.new.cells.items c.in_ok-trail.trail
          (λ before. record { began = reverse l; groups = groups before }))
          (sym (take-next c.args.began.now c.loop-at.at (get_or c.args.began.now c.loop-at.at 0)
          (slice_get-get_or c.args.began.now c.loop-at.at 0 (omega arith))))
          (comes-open c.add.new.cells.items c.in_ok-trail.trail (get_or c.args.began.now c.loop-at.at 0)
          (take c.loop-at.at c.args.began.now) groups
          (c.in_ok-trail.ensures.trail (λ before. record { began = reverse (take c.loop-at.at c.args.began.now); groups = groups before })
          (c.loop-at.invariant.trail groups is)));
      short = omega (arith, c.loop-at.invariant.short, c.in_ok-trail.ensures.short);
      grown = grown-both c.loop-at.invariant.grown c.in_ok-trail.ensures.grown;
    }

pub returns-clause-trail : goal.returns-clause-trail
returns-clause-trail c = λ groups is.
    let all : take c.loop-at.at c.args.began.now ≡ c.args.began.now = take_all c.loop-at.at c.args.began.now (omega arith) in
    subst (λ l. ComesTo c.loop-at.cells.items c.loop-at.trail (λ before. record { began = reverse l; groups = groups before })) all
    (c.loop-at.invariant.trail groups is)
