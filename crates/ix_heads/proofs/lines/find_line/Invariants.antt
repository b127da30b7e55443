use Rattle.std.proofs.Common.{◌≡◌, drop, map}
use Rattle.httparse.specs.Spans.{header_bytes}
use Rattle.ix_heads.specs.Lines.{line_after, line_of, seen}
use Rattle.ix_heads.proofs.lines.find_line.Given as goal

abbrev pub invariant-loop-header : goal.invariant-loop-header
invariant-loop-header l =
    line_after (seen l.found) l.name (map (header_bytes l.bytes) (drop l.header-index l.headers))
    ≡ line_of l.name (map (header_bytes l.bytes) l.headers)
