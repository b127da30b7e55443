use Rattle.std.proofs.Common.{◌++◌, ◌+◌, [], ◌∷◌, Bool, inl, subst, sym, refl, arith}
use Rattle.ix_disk.specs.Moments.{Holds}
use Rattle.ix_disk.proofs.Runs.{weaker, run_on}
use Rattle.ix_log.specs.Log.{Gated, AtEnd, WithOrWithout}
use Rattle.ix_log.proofs.Blocks.{length-blocks_push}
use Rattle.ix_disk.proofs.Others.{apart_on}
use Rattle.ix_log.proofs.Calls.{cause_second, cause_none}
use Rattle.ix_log.proofs.log.Log.finish.Goals as goal

pub returns-in_err-close-clause-images : goal.returns-in_err-close-clause-images
returns-in_err-close-clause-images g c = λ bodies body h.
    weaker g.D.Disk _ _ _ (Gated bodies) (WithOrWithout bodies body) (λ l gated. inl (inl gated)) (c.close.ensures.images bodies body h)

pub returns-in_err-open-clause-images : goal.returns-in_err-open-clause-images
returns-in_err-open-clause-images g c = λ bodies body h.
    let first = weaker g.D.Disk _ _ _ (Gated bodies) (WithOrWithout bodies body) (λ l gated. inl (inl gated))
    (c.close.ensures.images bodies body h) in
    run_on g.D.Disk _ _ _ _ (WithOrWithout bodies body) first
    (c.open.ensures.images bodies body (c.in_ok-close.ensures.whole bodies body h))

pub returns-clause-images : goal.returns-clause-images
returns-clause-images g c = λ bodies body h.
    let first = weaker g.D.Disk _ _ _ (Gated bodies) (WithOrWithout bodies body) (λ l gated. inl (inl gated))
    (c.close.ensures.images bodies body h) in
    run_on g.D.Disk _ _ _ _ (WithOrWithout bodies body) first
    (c.open.ensures.images bodies body (c.in_ok-close.ensures.whole bodies body h))

pub returns-clause-finished : goal.returns-clause-finished
returns-clause-finished g c = λ bodies body h.
    let bodies_now = bodies ++ body ∷ [] in
    record {
      place = omega (arith, h.place, h.len, length-blocks_push bodies body);
      idle = refl;
      none_put = refl;
      images = subst (λ (b : Bool). Holds g.D.Disk c.open.new.disk c.args.self.now.file (AtEnd b bodies_now)) (sym h.closed)
          (c.in_ok-open.ensures.opened bodies body (c.in_ok-close.ensures.whole bodies body h));
    }

pub returns-clause-usable : goal.returns-clause-usable
returns-clause-usable g c = record {
  bodies = c.requires.bodies ++ c.requires.body ∷ [];
  body = [];
  ready = inl (returns-clause-finished g c c.requires.bodies c.requires.body c.requires.putting, refl);
}

pub returns-clause-no_more : goal.returns-clause-no_more
returns-clause-no_more g c = λ had image told.
    let log = c.args.self.now in
    omega (arith, c.in_ok-open.ensures.no_more (log.at + 6 + log.len) (omega arith) (c.in_ok-close.ensures.no_more had) image told)

pub returns-in_err-open-clause-seen : goal.returns-in_err-open-clause-seen
returns-in_err-open-clause-seen g c = apart_on c.args.self.now.file _ _ _ c.close.ensures.seen c.open.ensures.seen

pub returns-clause-seen : goal.returns-clause-seen
returns-clause-seen g c = apart_on c.args.self.now.file _ _ _ c.close.ensures.seen c.open.ensures.seen

pub close-requires : goal.close-requires
close-requires g c = (c.requires.bodies, c.requires.body, c.requires.putting)

pub open-requires : goal.open-requires
open-requires g c =
    let begun = c.requires in
    (begun.bodies, begun.body, c.in_ok-close.ensures.whole begun.bodies begun.body begun.putting)

pub returns-in_err-open-clause-cause : goal.returns-in_err-open-clause-cause
returns-in_err-open-clause-cause g c = cause_second _ _ _ _ c.close.ensures.cause.later c.open.ensures.cause.later
    (c.in_err-open.ensures.cause.failed refl)

pub returns-clause-cause : goal.returns-clause-cause
returns-clause-cause g c = cause_none _ _ _ _ c.close.ensures.cause.later c.open.ensures.cause.later refl

pub returns-in_err-open-clause-file : goal.returns-in_err-open-clause-file
returns-in_err-open-clause-file g c = refl

pub returns-clause-file : goal.returns-clause-file
returns-clause-file g c = refl
