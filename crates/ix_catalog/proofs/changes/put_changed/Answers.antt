use Rattle.ix_catalog.proofs.Merging.{rest_short, rest_put, rest_less, none_of, all_put}
use Rattle.ix_catalog.proofs.changes.put_changed.Goals as goal

pub loop-olds-preserved : goal.loop-olds-preserved
loop-olds-preserved c = record {
  put = rest_put c.args.index.now c.args.old.now c.args.new.now c.loop-olds.olds.now c.loop-olds.news.now c.in_ok-gone.gone
      c.in_ok-gone.made
      c.args.items.now c.loop-olds.items c.put_next.new.items c.loop-olds.invariant.put c.in_ok-gone.ensures.put;
  olds = rest_short c.loop-olds.olds.now c.in_ok-gone.gone _ c.loop-olds.invariant.olds;
  news = rest_short c.loop-olds.news.now c.in_ok-gone.made _ c.loop-olds.invariant.news;
}

pub loop-olds-smaller : goal.loop-olds-smaller
loop-olds-smaller c =
    rest_less c.loop-olds.olds.now c.loop-olds.news.now c.in_ok-gone.gone c.in_ok-gone.made c.in_ok-gone.ensures.old_taken
    c.in_ok-gone.ensures.new_taken c.in_ok-gone.ensures.some_taken

pub returns : goal.returns
returns c =
    let all = all_put c.args.index.now c.args.old.now c.args.new.now c.loop-olds.olds.now c.loop-olds.news.now c.args.items.now
    c.loop-olds.items
    (none_of c.loop-olds.olds.now _ c.is_empty.ensures c.if-not-is_empty.false)
    (none_of c.loop-olds.news.now _ c.is_empty-else-not-is_empty.ensures c.if-not-is_empty-2.false) c.loop-olds.invariant.put in
    record { put = all.0; proper = all.1 }
