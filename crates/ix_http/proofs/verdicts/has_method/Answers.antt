use Rattle.std.proofs.Common.{sym, ap, ◌∙◌}
use Rattle.std.specs.Str.{bytes_eq}
use Rattle.ix_http.specs.Routes.{seen}
use Rattle.ix_http.specs.Verdicts.{method_of}
use Rattle.ix_http.proofs.MethodLemmas.{refused_other, own_token}
use Rattle.ix_http.proofs.verdicts.has_method.Goals as goal

pub returns-in-Err : goal.returns-in-Err
returns-in-Err c =
    let own = own_token (seen c.args.place) in
    sym (ap (λ m. bytes_eq m (method_of (seen c.args.place))) (sym c.method.ensures)
    ∙ refused_other _ (method_of (seen c.args.place)) c.from_bytes.result c.in-Err.field-0 c.in-Err.is c.from_bytes.ensures.no_memory_needed
    own.0 own.1)
