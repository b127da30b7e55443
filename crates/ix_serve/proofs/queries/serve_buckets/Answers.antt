use Rattle.std.proofs.Common.{◌∙◌, ℕ, List, ap, refl, inl, inr, true, false}
use Rattle.ix_report.specs.Listing.{listing}
use Rattle.ix_serve.specs.Answer.{says}
use Rattle.ix_serve.specs.Replies.{plain, no_memory}
use Rattle.ix_serve.specs.Serving.{IsClean}
use Rattle.ix_serve.proofs.Closing.{replied_by}
use Rattle.ix_serve.proofs.queries.serve_buckets.Goals as goal

pub returns-in-Ok-clause-lists : goal.returns-in-Ok-clause-lists
returns-in-Ok-clause-lists g c = λ e old at. record {
  reply = plain c.as_slice.result.now;
  may_be = inl (ap (λ (t : List ℕ). says false (plain t)) (c.as_slice.ensures ∙ c.in-Ok.ensures
      ∙ ap listing (c.view.ensures e.choose e.history e.base e.kept old at.1)));
  gave = c.give.ensures.gave;
}

pub returns-in-Err-clause-lists : goal.returns-in-Err-clause-lists
returns-in-Err-clause-lists g c = λ e old at. record { reply = no_memory; may_be = inr refl; gave = c.decline.ensures.gave }

pub returns-in-Ok-clause-replied : goal.returns-in-Ok-clause-replied
returns-in-Ok-clause-replied g c = replied_by (plain c.as_slice.result.now) true
    (IsClean (g.K.Link.faults c.args.link.now) (g.K.Link.faults c.give.new.link) (g.K.Link.standing c.args.link.now)
    (g.K.Link.standing c.give.new.link)) c.give.result (g.K.Link.given c.args.link.now) (g.K.Link.given c.give.new.link) c.give.ensures.gave

pub returns-in-Err-clause-replied : goal.returns-in-Err-clause-replied
returns-in-Err-clause-replied g c = replied_by no_memory true
    (IsClean (g.K.Link.faults c.args.link.now) (g.K.Link.faults c.decline.new.link) (g.K.Link.standing c.args.link.now)
    (g.K.Link.standing c.decline.new.link)) c.decline.result (g.K.Link.given c.args.link.now) (g.K.Link.given c.decline.new.link)
    c.decline.ensures.gave
