use Rattle.ix_heads.proofs.ToldLemmas.{told_map}
use Rattle.ix_http.proofs.AskLemmas.{refused_fits}
use Rattle.ix_http.proofs.requests.read_refused.Goals as goal

pub returns-clause-read : goal.returns-clause-read
returns-clause-read g c =
    told_map (λ old new took. refused_fits c.args.count c.args.head.now c.args.fault c.requires old new took) _ _ c.in_ok-skip.ensures.read
