use Rattle.std.proofs.Common.{◌≡◌, drop, map}
use Rattle.httparse.specs.Spans.{header_bytes}
use Rattle.ix_heads.specs.Lines.{has_other}
use Rattle.ix_heads.proofs.lines.has_other.Given as goal

abbrev pub invariant-loop-header : goal.invariant-loop-header
invariant-loop-header l =
    has_other l.name l.value (map (header_bytes l.bytes) (drop l.header-index l.headers)) ≡ has_other l.name l.value
    (map (header_bytes l.bytes) l.headers)
