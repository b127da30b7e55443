use Rattle.std.proofs.Common.{rules, subst, IsTrue}
use Rattle.std.specs.Prelude.{All}
use Rattle.std.proofs.lemmas.List.{take_all}
use Rattle.std.proofs.lemmas.List.Elements.{All-more}
use Rattle.ix_manifest.specs.Root.{IsNoLog}
use Rattle.ix_manifest.proofs.manifest_state.spares_logs.Goals as goal

pub loop-file-preserved : goal.loop-file-preserved
loop-file-preserved c =
    let t = c.if-not-is_no_log.false in
    let yes : IsTrue c.is_no_log.result = search rules in
    All-more (IsNoLog c.args.current) c.args.files.now c.loop-file.file-index _ c.loop-file-test.true c.loop-file.invariant
    (c.is_no_log.ensures.0 yes)

pub returns : goal.returns
returns c = (
  (λ yes. subst (All (IsNoLog c.args.current)) (take_all c.loop-file.file-index c.args.files.now c.loop-file-test.false)
      c.loop-file.invariant),
  (λ all. search rules),
)
