use Rattle.ix_parse.proofs.Found.{merge_put}
use Rattle.ix_parse.proofs.writing.put_merge.Goals as goal

pub returns : goal.returns
returns c = merge_put c.args.parts.now c.args.out.now _ _ _ c.in_ok-put_open_event.ensures c.in_ok-put_flag.ensures.ok
    c.in_ok-put_flag-2.ensures.ok
