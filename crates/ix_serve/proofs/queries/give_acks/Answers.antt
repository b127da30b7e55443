use Rattle.std.proofs.Common.{◌≡◌, ◌∙◌, map, true, refl, inl, inr}
use Rattle.std.specs.List.{list_any}
use Rattle.ix_http.specs.declared.kinds.Kind.TheVariants.{Json}
use Rattle.ix_serve.specs.Answer.{says}
use Rattle.ix_serve.specs.Bodies.{acks_body}
use Rattle.ix_serve.specs.Entries.{is_acked, is_pending}
use Rattle.ix_serve.specs.Replies.{reply, no_memory}
use Rattle.ix_serve.specs.Serving.{IsClean}
use Rattle.ix_serve.proofs.Closing.{replied_by}
use Rattle.ix_serve.proofs.queries.give_acks.Goals as goal

pub returns-in_default : goal.returns-in_default
returns-in_default g c = record {
  told = λ e old at. record { reply = no_memory; may_be = inr refl; gave = c.decline.ensures.gave };
  left = c.decline.ensures.left;
  replied = replied_by no_memory true (IsClean (g.K.Link.faults c.args.link.now) (g.K.Link.faults c.decline.new.link)
      (g.K.Link.standing c.args.link.now) (g.K.Link.standing c.decline.new.link)) c.decline.result (g.K.Link.given c.args.link.now)
      (g.K.Link.given c.decline.new.link) c.decline.ensures.gave;
  «open» = c.decline.ensures.open;
  goes = c.decline.ensures.goes;
  later = c.decline.ensures.later;
  failed = c.decline.ensures.failed;
}

pub returns : goal.returns
returns g c = record {
  told = λ e old at.
      let body : c.as_slice.result.now ≡ acks_body (map (is_acked e c.args.run) c.args.numbers.now) = c.as_slice.ensures
      ∙ c.in-Ok.ensures e old at in
      let waits : c.has_pending-due.result ≡ list_any (is_pending e c.args.run) c.args.numbers.now = c.has_pending-due.ensures e old at in
      record {
        reply = reply 200 Json c.as_slice.result.now;
        may_be = inl (λ i. says (waits i) (reply 200 Json (body i)));
        gave = c.give.ensures.gave;
      };
  left = c.give.ensures.left;
  replied = replied_by (reply 200 Json c.as_slice.result.now) true
      (IsClean (g.K.Link.faults c.args.link.now) (g.K.Link.faults c.give.new.link) (g.K.Link.standing c.args.link.now)
      (g.K.Link.standing c.give.new.link)) c.give.result (g.K.Link.given c.args.link.now) (g.K.Link.given c.give.new.link)
      c.give.ensures.gave;
  «open» = c.give.ensures.open;
  goes = c.give.ensures.goes;
  later = c.give.ensures.later;
  failed = c.give.ensures.failed;
}
