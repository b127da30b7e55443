use Rattle.std.proofs.Common.{[], ◌∷◌, ◌++◌, take, drop, refl, ◌∙◌, arith}
use Rattle.std.proofs.lemmas.Result.{err_from_is_err_and}
use Rattle.ix_disk.specs.Image.{bytes_in}
use Rattle.ix_disk.proofs.Runs.{stays_on, stay_reads}
use Rattle.ix_log.specs.Window.{IsWindowOn}
use Rattle.ix_log.proofs.Windows.{head_size, head_read}
use Rattle.ix_log.proofs.Calls.{cause_second, cause_none}
use Rattle.ix_log.proofs.log.head_at.Goals as goal

pub head_of-requires : goal.head_of-requires
head_of-requires g c =
    head_size c.args.at c.min-room.result [] c.read.new.buf (0 ∷ 0 ∷ 0 ∷ 0 ∷ 0
    ∷ []) refl (omega (arith, c.min-room.ensures)) c.read.ensures.size

pub returns-in_err-reach : goal.returns-in_err-reach
returns-in_err-reach g c =
    let p = err_from_is_err_and c.from_residual.result c.from_residual.ensures.1 in
    rw (p.1, p.2) (record {
      head = λ had image told left some. tt;
      within = tt;
      shows = λ had. tt;
      same = c.reach.ensures.same;
      images = c.reach.ensures.images;
      cause = record { later = c.reach.ensures.cause.later; failed = λ is. c.in_err-reach.ensures.cause.failed refl };
    })

pub returns-in_err-n : goal.returns-in_err-n
returns-in_err-n g c =
    let p = err_from_is_err_and c.from_residual-in_err-n.result c.from_residual-in_err-n.ensures.1 in
    rw (p.1, p.2) (record {
      head = λ had image told left some. tt;
      within = tt;
      shows = λ had. tt;
      same = c.read.ensures.same ∙ c.reach.ensures.same;
      images = stays_on g.D.Disk _ _ _ c.reach.ensures.images c.read.ensures.images;
      cause = cause_second _ _ _ _ c.reach.ensures.cause.later c.read.ensures.cause.later (c.in_err-n.ensures.cause.failed refl);
    })

pub returns : goal.returns
returns g c = record {
  head = λ had image told left some.
      let file = bytes_in image c.args.file in
      let none = 0 ∷ 0 ∷ 0 ∷ 0 ∷ 0 ∷ [] in
      let room = c.min-room.result in
      let n = c.in_ok-n.n in
      let now = c.reach.ensures.same ∙ told in
      let read = c.in_ok-n.ensures.bytes image now (c.in_ok-reach.ensures.shows had image now) in
      let head = head_read c.args.at room file c.read.new.buf none refl n c.args.left c.min-room.ensures left read in
      c.head_of.ensures.head (drop c.args.at file) (drop n (take room none)
      ++ drop room none) head.0 head.1 left (omega (arith, left, some));
  within = c.head_of.ensures.within;
  shows = λ had. stay_reads g.D.Disk _ _ c.args.file (IsWindowOn c.reach.new.self) c.read.ensures.same (c.in_ok-reach.ensures.shows had);
  same = c.read.ensures.same ∙ c.reach.ensures.same;
  images = stays_on g.D.Disk _ _ _ c.reach.ensures.images c.read.ensures.images;
  cause = cause_none _ _ _ _ c.reach.ensures.cause.later c.read.ensures.cause.later refl;
}
