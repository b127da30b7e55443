use Rattle.std.proofs.Common.{◌∙◌, arith, length, sym}
use Rattle.indexd_serve.proofs.Reading.{reads_behind}
use Rattle.ix_disk.proofs.Runs.{rose_later}
use Rattle.ix_serve.specs.Kinds.{kind}
use Rattle.ix_sessions.specs.Feeding.{history_after, start}
use Rattle.ix_serve.specs.Serving.{IsClean}
use Rattle.indexd_serve.proofs.Behind.{requests_closed, requests_behind, closed_short, short_behind, undamaged_behind, disk_behind}
use Rattle.indexd_serve.proofs.Behind.{link_behind}
use Rattle.ix_serve.proofs.Standing.{tells_on}
use Rattle.indexd_serve.proofs.feed.feed_open.Goals as goal

pub returns-then-not-is_open-clause-requests : goal.returns-then-not-is_open-clause-requests
returns-then-not-is_open-clause-requests g c = λ choose h base chooser taken hold.
    let fed = c.run_feed-end in
    requests_closed g.D.Disk (kind g.M.StoreMemory.takes g.M.Book.ManifestState.fits g.M.StoreMemory.holds)
    (start choose h base (length h) c.args.store.now.run c.args.disk.now) fed.result
    (IsClean (g.K.Link.faults c.args.link.now) (g.K.Link.faults fed.new.link) (g.K.Link.standing c.args.link.now)
    (g.K.Link.standing fed.new.link))
    (g.K.Link.left c.args.link.now) (g.K.Link.left fed.new.link) (g.C.Clock.ahead c.args.clock.now) (g.C.Clock.ahead fed.new.clock)
    (g.K.Link.given c.args.link.now) (g.K.Link.given fed.new.link) fed.new.store fed.new.disk
    (fed.ensures.runs choose h base _ chooser taken hold)

pub returns-then-not-is_open-clause-unbroken : goal.returns-then-not-is_open-clause-unbroken
returns-then-not-is_open-clause-unbroken g c = λ file at is choose h base chooser taken hold image seen.
    let later = c.run_feed-end.ensures.told (image, seen) in
    (c.run_feed-end.ensures.runs choose h base _ chooser taken hold).undamaged file at is later.0 later.1

pub returns-then-not-is_open-clause-short : goal.returns-then-not-is_open-clause-short
returns-then-not-is_open-clause-short g c = λ is. absurd
    (closed_short c.run_feed-end.result (sym c.is_open.ensures ∙ c.if-not-is_open.true) is)

pub returns-clause-requests : goal.returns-clause-requests
returns-clause-requests g c = λ choose h base chooser taken hold.
    let fed = c.run_feed-end in
    let runs = fed.ensures.runs choose h base _ chooser taken hold in
    let up = sym c.is_open.ensures ∙ c.if-not-is_open.false in
    requests_behind g.D.Disk (kind g.M.StoreMemory.takes g.M.Book.ManifestState.fits g.M.StoreMemory.holds)
    (start choose h base (length h) c.args.store.now.run c.args.disk.now) fed.result
    (IsClean (g.K.Link.faults c.args.link.now) (g.K.Link.faults fed.new.link) (g.K.Link.standing c.args.link.now)
    (g.K.Link.standing fed.new.link))
    (g.K.Link.left c.args.link.now) (g.K.Link.left fed.new.link) (g.C.Clock.ahead c.args.clock.now) (g.C.Clock.ahead fed.new.clock)
    (g.K.Link.given c.args.link.now) (g.K.Link.given fed.new.link) fed.new.store fed.new.disk runs
    c.shorten-shortened.result c.fed_behind.result c.shorten-shortened.new.disk c.fed_behind.ensures up fed.ensures.run (omega arith)
    (c.shorten-shortened.ensures.images choose (history_after (start choose h base (length h) c.args.store.now.run c.args.disk.now)
    runs.turns) base chooser runs.taken (runs.held up))

pub returns-clause-unbroken : goal.returns-clause-unbroken
returns-clause-unbroken g c = λ file at is choose h base chooser taken hold image seen.
    undamaged_behind c.run_feed-end.result c.shorten-shortened.result file at (sym c.is_open.ensures
    ∙ c.if-not-is_open.false) (sym c.fed_behind.ensures ∙ is)

pub returns-clause-short : goal.returns-clause-short
returns-clause-short g c = λ is.
    short_behind c.run_feed-end.result c.shorten-shortened.result c.fed_behind.result _ c.fed_behind.ensures
    c.shorten-shortened.ensures.short is
    (c.run_feed-end.ensures.measured c.requires.rest.measured (sym c.is_open.ensures ∙ c.if-not-is_open.false))

pub returns-clause-comes : goal.returns-clause-comes
returns-clause-comes g c = record {
  link_later = c.run_feed-end.ensures.comes.link_later;
  disk_later = omega (arith, c.run_feed-end.ensures.comes.disk_later, c.shorten-shortened.ensures.later);
  by_link = λ is. c.run_feed-end.ensures.comes.by_link (link_behind c.run_feed-end.result c.shorten-shortened.result
      (sym c.fed_behind.ensures ∙ is));
  by_disk = λ is. rose_later (g.D.Disk.faults c.args.disk.now) (g.D.Disk.faults c.run_feed-end.new.disk)
      (g.D.Disk.faults c.shorten-shortened.new.disk) c.run_feed-end.ensures.comes.disk_later
      (c.shorten-shortened.ensures.cause (disk_behind c.run_feed-end.result c.shorten-shortened.result (sym c.is_open.ensures
      ∙ c.if-not-is_open.false) (sym c.fed_behind.ensures ∙ is)));
}

pub returns-clause-told : goal.returns-clause-told
returns-clause-told g c = λ is. tells_on g.D.Disk _ c.run_feed-end.new.disk c.shorten-shortened.new.disk c.shorten-shortened.ensures.told
    (c.run_feed-end.ensures.told is)

pub returns-clause-reads : goal.returns-clause-reads
returns-clause-reads g c = reads_behind c.run_feed-end.result c.shorten-shortened.result c.fed_behind.result (g.K.Link.left c.args.link.now)
    (g.K.Link.left c.run_feed-end.new.link) c.fed_behind.ensures c.run_feed-end.ensures.reads

pub returns-then-not-is_open-clause-placed : goal.returns-then-not-is_open-clause-placed
returns-then-not-is_open-clause-placed g c = c.run_feed-end.ensures.placed

pub returns-clause-placed : goal.returns-clause-placed
returns-clause-placed g c = λ file at is. absurd
    (undamaged_behind c.run_feed-end.result c.shorten-shortened.result file at (sym c.is_open.ensures
    ∙ c.if-not-is_open.false) (sym c.fed_behind.ensures ∙ is))
