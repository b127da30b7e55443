use Rattle.std.proofs.Common.{◌≡◌, ◌++◌, ◌∙◌, ap}
use Rattle.ix_http.specs.Replies.{head_text}
use Rattle.ix_http.proofs.replies.write_head.Goals as goal

pub returns-in-Ok-clause-written : goal.returns-in-Ok-clause-written
returns-in-Ok-clause-written g c =
    let is = c.as_slice.ensures ∙ c.in-Ok.ensures.written.told
    ∙ ap (λ t. t ++ head_text c.args.status c.args.kind c.args.length) c.new-head.ensures in
    rw is at c.put.ensures.written

pub returns-in-Ok-clause-begun : goal.returns-in-Ok-clause-begun
returns-in-Ok-clause-begun g c =
    let is = c.as_slice.ensures ∙ c.in-Ok.ensures.written.told
    ∙ ap (λ t. t ++ head_text c.args.status c.args.kind c.args.length) c.new-head.ensures in
    rw is at c.put.ensures.begun
