use Rattle.std.proofs.Common.{subst, drop}
use Rattle.ix_base.specs.declared.files.File.{File}
use Rattle.ix_base.specs.Told.{IsFrontOf}
use Rattle.ix_disk.specs.Image.{bytes_in}
use Rattle.ix_bucket.proofs.Shown.{held_shows, was_true}
use Rattle.ix_bucket.proofs.ahead.Reader.prepare.Goals as goal

pub returns-in_ok-fetch-clause-shown : goal.returns-in_ok-fetch-clause-shown
returns-in_ok-fetch-clause-shown g c = λ image told current. c.in_ok-fetch.ensures.shown image told

pub returns-else-not-has-clause-shown : goal.returns-else-not-has-clause-shown
returns-else-not-has-clause-shown g c = λ image told current.
    let has = was_true c.has.result c.if-not-has.false in
    held_shows c.args.self.now.start c.args.at c.args.until (bytes_in image c.args.file) c.args.self.now.held.items
    (subst (λ (file : File). IsFrontOf c.args.self.now.held.items (drop c.args.self.now.start (bytes_in image file)))
    (c.has.ensures.file has) (current.held image told))
    (c.has.ensures.start has) (c.has.ensures.enough has)
