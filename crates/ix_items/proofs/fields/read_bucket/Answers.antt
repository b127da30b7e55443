use Rattle.std.proofs.Common.{rules}
use Rattle.std.proofs.lemmas.Int.{to_z-of_z}
use mir.Val.{SFits}
use Rattle.std.specs.Int.{w64}
use Rattle.ix_items.specs.declared.items.Bucket.{Bucket}
use Rattle.ix_items.proofs.Rows.{bucket_found}
use Rattle.ix_items.proofs.fields.read_bucket.Goals as goal

pub returns-clause-found : goal.returns-clause-found
returns-clause-found c =
    let f1 : SFits w64 c.in_ok-count.newest = search rules in
    let f2 : SFits w64 c.in_ok-count.oldest = search rules in
    let f3 : SFits w64 c.in_ok-touched.touched = search rules in
    let b : Bucket = record {
      id = c.in_ok-id.id;
      state = c.in_ok-id.state;
      file = c.in_ok-id.file;
      bytes = c.in_ok-id.size;
      count = c.in_ok-count.count;
      newest = c.in_ok-count.newest;
      oldest = c.in_ok-count.oldest;
      used = c.in_ok-used.used;
      touched = c.in_ok-touched.touched;
    } in
    simp to_z-of_z (bucket_found b _ _ _ _ _ c.in_ok-id.ensures.found c.in_ok-count.ensures.found c.in_ok-used.ensures.found
    c.in_ok-touched.ensures.found)
