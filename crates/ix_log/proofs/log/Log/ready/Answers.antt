use Rattle.std.proofs.Common.{ℕ, List, inl, refl, sym, subst}
use Rattle.ix_disk.proofs.Others.{apart_same}
use Rattle.ix_disk.proofs.Runs.{begins}
use Rattle.ix_log.specs.Log.{HasBodies, IsPutting}
use Rattle.ix_log.proofs.Start.{idle_end, begun_on}
use Rattle.ix_log.proofs.log.Log.ready.Goals as goal

pub returns-then-self-clause-begun : goal.returns-then-self-clause-begun
returns-then-self-clause-begun g c = λ bodies body ready. begun_on g.D.Disk c.args.self.now c.args.disk.now bodies body ready c.if-self.true

pub returns-then-self-clause-images : goal.returns-then-self-clause-images
returns-then-self-clause-images g c = λ bodies body ready.
    let putting = begun_on g.D.Disk c.args.self.now c.args.disk.now bodies body ready c.if-self.true in
    begins g.D.Disk c.args.disk.now c.args.self.now.file (HasBodies bodies) (λ image left. inl (putting.images image left))

pub returns-then-self-clause-seen : goal.returns-then-self-clause-seen
returns-then-self-clause-seen g c = apart_same c.args.self.now.file (g.D.Disk.seen c.args.disk.now) (g.D.Disk.seen c.args.disk.now) refl

pub start_body-requires : goal.start_body-requires
start_body-requires g c =
    let u = c.requires in
    let end = idle_end g.D.Disk c.args.self.now c.args.disk.now u.bodies u.body u.ready c.if-self.false in
    (u.bodies, end.0)

pub returns-in_err-start_body-clause-images : goal.returns-in_err-start_body-clause-images
returns-in_err-start_body-clause-images g c = λ bodies body ready.
    let end = idle_end g.D.Disk c.args.self.now c.args.disk.now bodies body ready c.if-self.false in
    c.start_body.ensures.images bodies end.0

pub returns-clause-images : goal.returns-clause-images
returns-clause-images g c = λ bodies body ready.
    let end = idle_end g.D.Disk c.args.self.now c.args.disk.now bodies body ready c.if-self.false in
    c.start_body.ensures.images bodies end.0

pub returns-clause-begun : goal.returns-clause-begun
returns-clause-begun g c = λ bodies body ready.
    let end = idle_end g.D.Disk c.args.self.now c.args.disk.now bodies body ready c.if-self.false in
    subst (λ (b : List ℕ). IsPutting g.D.Disk c.start_body.new.self c.start_body.new.disk bodies b) (sym end.1)
    (c.in_ok-start_body.ensures.begun bodies end.0)
