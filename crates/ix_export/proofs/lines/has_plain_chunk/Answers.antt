use Rattle.std.proofs.Common.{sym, ◌∙◌, arith}
use Rattle.ix_export.proofs.FieldLemmas.{plain-more}
use Rattle.ix_export.proofs.lines.has_plain_chunk.Goals as goal

pub returns-then-bytes-ge-CHUNK-clause-plain : goal.returns-then-bytes-ge-CHUNK-clause-plain
returns-then-bytes-ge-CHUNK-clause-plain c =
    λ all. plain-more 32 c.args.bytes.now (omega (arith, c.if-bytes-ge-CHUNK.true)) (sym c.all_plain.ensures ∙ all)
