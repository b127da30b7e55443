use Rattle.std.proofs.Common.{ℕ, [], ◌∷◌, ◌++◌, ◌∙◌, ap}
use Rattle.std.proofs.lemmas.Result.{IfOk-from_err, IfOk-weaker}
use Rattle.ix_pikevm.specs.declared.cells.Best.TheVariants.{No}
use Rattle.ix_pikevm.specs.Leaf.{text_of}
use Rattle.ix_pikevm.specs.Ran.{Goes, Ends}
use Rattle.ix_pikevm.specs.Plans.{Knows}
use Rattle.ix_pikevm.proofs.TestLemmas.{counts-none}
use Rattle.ix_pikevm.proofs.RunLemmas.{goes-init}
use Rattle.ix_pikevm.proofs.run.run.Goals as goal

pub returns-in_err-push : goal.returns-in_err-push
returns-in_err-push g c = record {
  head = IfOk-from_err c.from_residual.result _ c.from_residual.ensures.0;
  room = IfOk-from_err c.from_residual.result _ c.from_residual.ensures.0;
  counts = counts-none;
}

pub returns : goal.returns
returns g c = record {
  head = IfOk-weaker c.sweep.result
      (λ best. (start place : ℕ) → Goes (Knows c.args.plan) c.args.plan.code.now (text_of c.args.input) start place c.args.place
      c.clear.new.self.items c.push.new.self.items No →
      Ends (Knows c.args.plan) c.args.plan.code.now (text_of c.args.input) start place c.sweep.new.room.main.cells.items best)
      (λ best. Ends (Knows c.args.plan) c.args.plan.code.now (text_of c.args.input) c.args.start c.args.place
      c.sweep.new.room.main.cells.items best)
      (λ best ends. ends c.args.start c.args.place (goes-init (Knows c.args.plan) c.args.plan.code.now (text_of c.args.input) c.args.start
      c.args.place c.clear.new.self.items c.push.new.self.items (c.in_ok-push.ensures.items
      ∙ ap (λ l. l ++ record { pc = c.args.start; trail = 0 } ∷ []) c.clear-2.ensures.items))) c.sweep.ensures.head;
  room = c.sweep.ensures.room;
  counts = c.sweep.ensures.counts;
}
