use Rattle.std.proofs.Common.{◌∙◌, ap}
use Rattle.ix_pattern.specs.Piece.{in_set}
use Rattle.ix_match.specs.Scans.{Scanned}
use Rattle.ix_match.proofs.scan.Scan.may_begin.Goals as goal

pub returns : goal.returns
returns c = c.contains.ensures ∙ ap (λ (s : Scanned). in_set s.starts c.args.byte) c.self.view_is
