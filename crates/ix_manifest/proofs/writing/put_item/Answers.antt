use Rattle.std.proofs.Common.{◌≡◌, ℕ, List, [], ◌++◌, refl, ap, subst, ◌∙◌}
use Rattle.ix_disk.proofs.Others.{apart_same}
use Rattle.ix_items.specs.Spelling.{item_bytes}
use Rattle.ix_log.specs.Log.{HasBodies, IsPutting, file_of}
use Rattle.ix_manifest.proofs.PutItems.{apart_of, apart_none}
use Rattle.ix_manifest.proofs.writing.put_item.Goals as goal

pub returns-clause-put : goal.returns-clause-put
returns-clause-put g c = λ body ready.
    let bytes : c.as_slice.result.now ≡ item_bytes c.args.item = c.as_slice.ensures ∙ c.in_ok-written.ensures.ok
    ∙ ap (λ (l : List ℕ). l ++ item_bytes c.args.item) c.new-bytes.ensures in
    subst (λ (b : List ℕ). IsPutting g.D.Disk c.put.new.self c.put.new.disk [] (body ++ b)) bytes (c.in_ok-put.ensures.put [] body ready)

pub returns-clause-images : goal.returns-clause-images
returns-clause-images g c =
    let u = c.requires.usable in
    apart_of g.D.Disk c.args.disk.now c.put.new.disk (file_of c.args.log.now) (HasBodies u.bodies)
    (c.put.ensures.images u.bodies u.body u.ready)

pub returns-in_err-put-clause-images : goal.returns-in_err-put-clause-images
returns-in_err-put-clause-images g c =
    let u = c.requires.usable in
    apart_of g.D.Disk c.args.disk.now c.put.new.disk (file_of c.args.log.now) (HasBodies u.bodies)
    (c.put.ensures.images u.bodies u.body u.ready)

pub returns-in_err-written-clause-images : goal.returns-in_err-written-clause-images
returns-in_err-written-clause-images g c = apart_none g.D.Disk c.args.disk.now (file_of c.args.log.now)

pub returns-in_err-written-clause-seen : goal.returns-in_err-written-clause-seen
returns-in_err-written-clause-seen g c = apart_same (file_of c.args.log.now) (g.D.Disk.seen c.args.disk.now) (g.D.Disk.seen c.args.disk.now)
    refl
