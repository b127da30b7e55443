use Rattle.ix_http.proofs.JsonLemmas.{json_is}
use Rattle.std.proofs.lemmas.Result.{IfOk-weaker}
use Rattle.ix_http.proofs.bodies.json_of.Goals as goal

pub returns : goal.returns
returns c = IfOk-weaker c.parsed.result _ _ (λ o is. json_is c.args.body.now _ is) c.parsed.ensures
