use Rattle.std.proofs.Common.{[]}
use Rattle.ix_heads.proofs.ToldLemmas.{told_map, told_join}
use Rattle.ix_http.proofs.AskLemmas.{bad_asks, head_fails, behind_fits}
use Rattle.ix_http.proofs.requests.read_request.Goals as goal

pub returns-in-Ok-Bad-clause-read : goal.returns-in-Ok-Bad-clause-read
returns-in-Ok-Bad-clause-read g c =
    let read = rw c.in-Ok-Bad.field-0-is at c.in-Ok-Bad.ensures.read in
    told_map (λ old new fits. bad_asks old new fits) _ _ read

pub returns-in-Err-clause-read : goal.returns-in-Err-clause-read
returns-in-Err-clause-read g c =
    told_map (λ old new fits. head_fails [] [] c.in-Err.fault old new fits) _ _ c.in-Err.ensures.read

pub returns-in-Ok-Whole-clause-read : goal.returns-in-Ok-Whole-clause-read
returns-in-Ok-Whole-clause-read g c =
    let read = rw c.in-Ok-Whole.field-0-is at c.in-Ok-Whole.ensures.read in
    told_join (λ old mid new p q. behind_fits _ _ c.in-Ok-Whole.spans c.new-head.result c.read_behind.result
    (record { method = c.new-head.ensures.method; target = c.new-head.ensures.target; lines = c.new-head.ensures.lines }) old mid new p
    q) _ _ _ read c.read_behind.ensures.read
