-- An attempt to match at one place of a stream, of which more bytes may come.
use Rattle.std.specs.Prelude.{ℕ, List, None, replicate}
use Rattle.ix_pattern.specs.Ways.{Text, Way, sight, ways}
use Rattle.ix_pattern.specs.Rows.{Shape, tree}

-- how many bytes an attempt sees
unfoldable pub reach : ℕ
reach = 16384

-- The ways of an attempt at the first place of a text, which is a stream from one of its places on.
-- It sees the first bytes, as far as it reaches; its text is whole where there are that many. No
-- group has taken part. Its answer is the head: an end, none, or an edge where it depends on bytes
-- that have not come.
abbrev pub attempt : Shape → Text → List Way
attempt p text = ways (tree p.rows) (sight reach text) (record { place = 0; groups = replicate p.groups None })
