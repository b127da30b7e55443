use Rattle.std.proofs.Common.{List, ℕ, ◌+◌, length, length-take, refl, ap, subst, sym, arith}
use Rattle.ix_base.specs.Lent.{lent_event}
use Rattle.ix_disk.specs.Image.{bytes_in}
use Rattle.ix_bucket.specs.Ahead.{Shows, between}
use Rattle.ix_bucket.proofs.Records.{record_length}
use Rattle.ix_bucket.proofs.Shown.{record_there, none_there, next_within}
use Rattle.ix_bucket.proofs.ahead.Reader.next.Goals as goal

pub returns-in-Ok : goal.returns-in-Ok
returns-in-Ok g c =
    let p = c.in_ok-prepare.ensures in
    let view = c.show.result.now in
    let e = c.in-Ok.ensures in (
      (refl, λ _. tt, p.current),
      record {
        end = (λ e. absurd (c.if-at-until.false e), λ e. absurd cc);
        after = next_within c.args.at c.args.until c.in-Ok.len view (lent_event c.in-Ok.event)
            (omega (arith, ap length c.show.ensures, length-take {A = ℕ})) e.within e.found;
        size = ap (λ (n : ℕ). c.args.at + n) (record_length c.in-Ok.len view (lent_event c.in-Ok.event) e.within e.found);
        found = λ image told current.
            record_there c.args.at c.args.until c.in-Ok.len (bytes_in image c.args.file) view (lent_event c.in-Ok.event)
            (subst (λ (v : List ℕ). Shows v (between c.args.at c.args.until (bytes_in image c.args.file))) (sym c.show.ensures)
            (p.shown image told current))
            e.within e.found;
        place = tt;
        bad = tt;
        cause = λ e. absurd cc;
        later = p.later;
        same = p.same;
        images = p.images;
        current = tt;
      },
    )

pub returns-in-Err : goal.returns-in-Err
returns-in-Err g c =
    let p = c.in_ok-prepare.ensures in
    let view = c.show.result.now in (
      (refl, λ _. tt, p.current),
      record {
        end = (λ e. absurd (c.if-at-until.false e), λ e. absurd e);
        after = tt;
        size = tt;
        found = tt;
        place = refl;
        bad = λ image told current.
            none_there c.args.at c.args.until (bytes_in image c.args.file) view
            (subst (λ (v : List ℕ). Shows v (between c.args.at c.args.until (bytes_in image c.args.file))) (sym c.show.ensures)
            (p.shown image told current))
            c.in-Err.ensures.bad;
        cause = λ e. absurd cc;
        later = p.later;
        same = p.same;
        images = p.images;
        current = tt;
      },
    )
