use Rattle.std.proofs.Common.{[], ◌∷◌}
use Rattle.hex.specs.Hex.{encode_lower}
use Rattle.ix_base.proofs.ToldLemmas.{begun_of_more, on_err_always}
use Rattle.ix_export.proofs.lines.put_hex.Goals as goal

pub returns-in_err-put-clause-begun : goal.returns-in_err-put-clause-begun
returns-in_err-put-clause-begun g c =
    on_err_always c.from_residual.result (begun_of_more (encode_lower (c.args.b ∷ [])) c.in_err-put.ensures.begun)
