use Rattle.std.proofs.Common.{refl}
use Rattle.matchit.specs.Route.{scan}
use Rattle.ix_http.specs.Table.{table, with_route, IsFree}
use Rattle.ix_http.proofs.router.full_router.Goals as goal

pub returns : goal.returns
unfolding table
returns c = rw (
  c.in_ok-router-6.ensures,
  c.in_ok-router-5.ensures,
  c.in_ok-router-4.ensures,
  c.in_ok-router-3.ensures,
  c.in_ok-router-2.ensures,
  c.in_ok-router.ensures,
  c.new-router.ensures,
) refl

pub with_route-requires : goal.with_route-requires
unfolding with_route IsFree scan
with_route-requires c = rw (c.new-router.ensures) refl

pub with_route-requires-2 : goal.with_route-requires-2
unfolding with_route IsFree scan
with_route-requires-2 c = rw (c.in_ok-router.ensures, c.new-router.ensures) refl

pub with_route-requires-3 : goal.with_route-requires-3
unfolding with_route IsFree scan
with_route-requires-3 c = rw (c.in_ok-router-2.ensures, c.in_ok-router.ensures, c.new-router.ensures) refl

pub with_route-requires-4 : goal.with_route-requires-4
unfolding with_route IsFree scan
with_route-requires-4 c = rw (c.in_ok-router-3.ensures, c.in_ok-router-2.ensures, c.in_ok-router.ensures, c.new-router.ensures) refl

pub with_route-requires-5 : goal.with_route-requires-5
unfolding with_route IsFree scan
with_route-requires-5 c = rw (
  c.in_ok-router-4.ensures,
  c.in_ok-router-3.ensures,
  c.in_ok-router-2.ensures,
  c.in_ok-router.ensures,
  c.new-router.ensures,
) refl

pub with_route-requires-6 : goal.with_route-requires-6
unfolding with_route IsFree scan
with_route-requires-6 c = rw (
  c.in_ok-router-5.ensures,
  c.in_ok-router-4.ensures,
  c.in_ok-router-3.ensures,
  c.in_ok-router-2.ensures,
  c.in_ok-router.ensures,
  c.new-router.ensures,
) refl
