use Rattle.std.proofs.Common.{arith}
use Rattle.ix_heads.proofs.FrontLemmas.{err_is_never}
use Rattle.ix_heads.proofs.judging.look_with.Goals as goal

pub returns-in-Err : goal.returns-in-Err
returns-in-Err c =
    err_is_never c.parse_request.result c.in-Err.field-0 _ _ c.in-Err.is c.requires.size (omega (arith, c.requires.room))
    c.parse_request.ensures.invalid c.parse_request.ensures.too_many
