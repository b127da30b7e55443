use Rattle.std.proofs.Common.{◌∙◌, arith}
use Rattle.std.proofs.lemmas.Result.{err_from_is_err_and}
use Rattle.ix_disk.specs.Image.{bytes_in}
use Rattle.ix_disk.proofs.Runs.{stays_on}
use Rattle.ix_bucket.proofs.Left.{one_less, none_left, not_bad, no_fault}
use Rattle.ix_bucket.proofs.counting.count_records.Goals as goal

pub returns-in_err-at-clause-bad : goal.returns-in_err-at-clause-bad
returns-in_err-at-clause-bad g c = λ events image told current has.
    let p = err_from_is_err_and c.from_residual.result c.from_residual.ensures.1 in
    let inv = c.loop-at.invariant in
    rw (p.1, p.2) (no_fault c.in_err-at.field-0.0 _
    (λ none. not_bad events c.loop-at.count c.loop-at.at c.args.until (bytes_in image c.args.file) c.loop-at-test.true
    (none image (inv.same ∙ told) (inv.current current)) (inv.left events image told current has))
    c.in_err-at.ensures.bad)

pub loop-at-preserved : goal.loop-at-preserved
loop-at-preserved g c =
    let inv = c.loop-at.invariant in
    let skip = c.in_ok-at.ensures in
    record {
      within = skip.after.1;
      few = omega (arith, skip.after.0, inv.few);
      left = λ events image told current has.
          one_less events c.loop-at.count c.loop-at.at c.in_ok-at.at c.args.until (bytes_in image c.args.file) c.loop-at-test.true
          skip.after.1
          (skip.found image (inv.same ∙ told) (inv.current current)) (inv.left events image told current has);
      current = λ current. skip.current (inv.current current);
      same = skip.same ∙ inv.same;
      later = omega (arith, skip.later, inv.later);
      images = stays_on g.D.Disk _ _ _ inv.images skip.images;
    }

pub returns-clause-counted : goal.returns-clause-counted
returns-clause-counted g c = λ events image told current has.
    none_left events c.loop-at.count c.loop-at.at c.args.until (bytes_in image c.args.file) c.loop-at-test.false
    (c.loop-at.invariant.left events image told current has)
