use Rattle.std.proofs.Common.{◌≡◌, IsUtf8, ap, sym, subst, ◌∙◌, refl, arith, codes, Some, []}
use Rattle.std.specs.Prelude.{unwrap_or}
use Rattle.matchit.specs.Router.{RouteOf}
use Rattle.matchit.specs.Seek.{first}
use Rattle.matchit.specs.Params.{AllText, named}
use Rattle.ix_http.specs.declared.router.Form.{Form}
use Rattle.ix_http.specs.Table.{IsFound}
use Rattle.ix_http.proofs.TableLemmas.{found_to}
use Rattle.ix_http.proofs.PlaceLemmas.{is_bytes, parts, parts_text, found_is, none_is, shown_name}
use Rattle.ix_http.proofs.router.Routes.find.Goals as goal

pub returns-in-Ok : goal.returns-in-Ok
returns-in-Ok c =
    let m = c.in-Ok.found in
    let k : RouteOf Form = record {
      pattern = m.params.pattern.now;
      text = m.params.text.now;
      names = m.params.names.now;
      value = m.value.now;
    } in
    let bytes = is_bytes c.args.path.now (λ i. omega (arith, c.type_inv.path i)) in
    let s = found_to c.args.path.now k bytes (ap (λ t. first t c.args.path.now) (sym c.self.invariant) ∙ c.in-Ok.ensures.found) in
    let texts : AllText (parts k m.params.path.now) = subst (λ p. AllText (parts k p)) (sym c.in-Ok.ensures.path)
    (parts_text c.args.path.now k c.utf8.path s) in
    let name = ap (λ (r : _). r.now) c.unwrap_or.ensures
    ∙ shown_name c.get.result _ (named (codes "name") (parts k m.params.path.now)) (c.get.ensures texts) refl in
    let same = name ∙ ap (λ p. unwrap_or (named (codes "name") (parts k p)) []) c.in-Ok.ensures.path in
    subst (λ n. IsFound c.args.path.now (Some (m.value.now, n))) (sym same) (found_is c.args.path.now k s)

pub returns-in-Err : goal.returns-in-Err
returns-in-Err c =
    let bytes = is_bytes c.args.path.now (λ i. omega (arith, c.type_inv.path i)) in
    none_is c.args.path.now bytes (ap (λ t. first t c.args.path.now) (sym c.self.invariant) ∙ c.in-Err.ensures.missing)
