use Rattle.std.proofs.Common.{◌∙◌, ap, arith}
use Rattle.std.specs.Prelude.{◌==◌}
use Rattle.std.specs.List.{position_or_len}
use Rattle.ix_http.proofs.PlaceLemmas.{mark_boundary}
use Rattle.ix_http.proofs.places.path_of.Goals as goal

pub range-requires-clause-end_boundary : goal.range-requires-clause-end_boundary
range-requires-clause-end_boundary c =
    let is = c.path_len-end.ensures.value ∙ ap (position_or_len (λ b. b == 63)) c.as_bytes.ensures.value in
    mark_boundary c.args.target.now c.path_len-end.result is (omega (arith, c.path_len-end.ensures.within, c.as_bytes.ensures.len))
