use Rattle.std.proofs.Common.{◌≤◌, ap, sym, ◌∙◌, option_map, subst, length, arith}
use Rattle.ix_http.specs.declared.kinds.Incoming.{Incoming}
use Rattle.ix_heads.proofs.ToldLemmas.{told_map}
use Rattle.ix_http.specs.Routes.{seen, route_of, path_of, query_of}
use Rattle.ix_http.specs.Asked.{asked_of}
use Rattle.ix_http.proofs.AskLemmas.{judged_lost, judged_asked, asked_fits}
use Rattle.ix_http.specs.Limits.{IsWithin}
use Rattle.ix_http.proofs.LimitLemmas.{asked_within}
use Rattle.ix_http.proofs.RouteLemmas.{route_is_named}
use Rattle.ix_http.proofs.requests.read_asked.Goals as goal

pub returns-in_default-clause-read : goal.returns-in_default-clause-read
returns-in_default-clause-read g c =
    let route = ap route_of (sym (c.path_of.ensures ∙ ap path_of c.target-target.ensures)) ∙ sym c.place_of.ensures
    ∙ ap (option_map seen) c.in_default.is in
    told_map (λ old new took. asked_fits c.args.count c.args.head.now c.in_ok-body.body _
    (judged_lost c.args.head.now c.in_ok-body.body c.requires.fine route) old new took) _ _ c.in_ok-body.ensures.read

pub returns-in-Ok-clause-read : goal.returns-in-Ok-clause-read
returns-in-Ok-clause-read g c =
    let route = ap route_of (sym (c.path_of.ensures ∙ ap path_of c.target-target.ensures)) ∙ sym c.place_of.ensures
    ∙ ap (option_map seen) c.in-Some.is in
    let query = c.query_of.ensures ∙ ap query_of c.target-target.ensures in
    let is = c.in-Ok.ensures ∙ ap (λ q. asked_of (seen c.in-Some.place) q c.in_ok-body.body) query in
    told_map (λ old new took. asked_fits c.args.count c.args.head.now c.in_ok-body.body c.in-Ok.incoming
    (judged_asked c.args.head.now (seen c.in-Some.place) c.in_ok-body.body c.in-Ok.incoming c.requires.fine route is) old new took) _ _
    c.in_ok-body.ensures.read

pub returns-in-Ok-clause-within : goal.returns-in-Ok-clause-within
returns-in-Ok-clause-within g c =
    let route = ap route_of (sym (c.path_of.ensures ∙ ap path_of c.target-target.ensures)) ∙ sym c.place_of.ensures
    ∙ ap (option_map seen) c.in-Some.is in
    let few : length c.in_ok-body.body ≤ 1048576 = omega (arith, c.in_ok-body.ensures.sized, c.requires.bound) in
    subst (λ (i : Incoming). IsWithin i) (sym c.in-Ok.ensures)
    (asked_within (seen c.in-Some.place) _ c.in_ok-body.body (route_is_named _ (seen c.in-Some.place) route) few)
