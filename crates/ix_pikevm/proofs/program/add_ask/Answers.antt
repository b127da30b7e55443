use Rattle.std.proofs.Common.{subst}
use Rattle.ix_pattern.specs.Piece.{ahead, IsSound}
use Rattle.ix_pattern.specs.Rows.{piece_at}
use Rattle.ix_pikevm.proofs.AskLemmas.{collecting-more, still-asked, newly-asked}
use Rattle.ix_pikevm.proofs.program.add_ask.Goals as goal

pub inside_of-inside-requires-clause-ahead : goal.inside_of-inside-requires-clause-ahead
inside_of-inside-requires-clause-ahead c = (c.requires.row.inside, c.requires.row.wanted, c.requires.row.is)

pub write_piece-requires-clause-sound : goal.write_piece-requires-clause-sound
write_piece-requires-clause-sound c =
    let s : IsSound (ahead (piece_at c.args.p.now.rows c.inside_of-inside.result.0) c.inside_of-inside.result.1) =
    subst IsSound c.inside_of-inside.ensures.is c.requires.row.sound in s.0

pub returns-clause-collecting : goal.returns-clause-collecting
returns-clause-collecting c =
    let s : IsSound (ahead (piece_at c.args.p.now.rows c.inside_of-inside.result.0) c.inside_of-inside.result.1) =
    subst IsSound c.inside_of-inside.ensures.is c.requires.row.sound in
    collecting-more c.args.p.now.rows c.args.asks.now.items c.push.new.self.items c.args.inner.now.items c.write_piece.new.code.items _
    (piece_at c.args.p.now.rows c.inside_of-inside.result.0)
    c.in_ok-push.ensures.items c.in_ok-start.ensures.writes (c.in_ok-start.ensures.plain s.1) c.inside_of-inside.ensures.is
    c.requires.row.below c.requires.collecting

pub returns-clause-still : goal.returns-clause-still
returns-clause-still c = still-asked c.args.asks.now.items c.push.new.self.items _ c.in_ok-push.ensures.items

pub returns-clause-asked : goal.returns-clause-asked
returns-clause-asked c = newly-asked c.args.asks.now.items c.push.new.self.items _ c.in_ok-push.ensures.items
