-- What a search goes by.
use Rattle.std.specs.Prelude.{◌≡◌, length}
use Rattle.ix_pattern.specs.Rows.{Rows}
use Rattle.ix_pikevm.specs.Code.{IsCode, HasSets}
use Rattle.ix_pikevm.specs.Looks.{HasNoLook}
use Rattle.ix_pikevm.specs.Ran.{AreMarks}
use Rattle.ix_pikevm.specs.Tests.{AreTests}
use Rattle.ix_pikevm.specs.Programs.{AreAsks, AllAsked, AsksFit}
use Rattle.ix_pikevm.specs.declared.matcher_ref.MatcherRef.{MatcherRef}
use Rattle.ix_pikevm.specs.declared.matcher_ref.Scratch.{Scratch}

pub record IsPlan (plan : MatcherRef) : Type 0 where
  pub code : IsCode plan.code.now
  pub sets : HasSets (length plan.tests.pattern.now.rows) plan.code.now
  pub inner : IsCode plan.inner.now
  pub insides : HasSets (length plan.tests.pattern.now.rows) plan.inner.now
  pub plain : HasNoLook plan.inner.now
  pub tests : AreTests plan.tests
  pub asked : AllAsked plan.asks.now plan.code.now

-- it is of the pattern with these pieces
pub record Knows (plan : MatcherRef) (rows : Rows) : Type 0 where
  pub same : rows ≡ plan.tests.pattern.now.rows
  pub asks : AreAsks rows plan.inner.now plan.asks.now

-- it has room for that
abbrev pub IsRoom : MatcherRef → Scratch → Type 0
IsRoom plan room = AreMarks room.main.marks.items (length plan.code.now) room.main.stamp
    × AreMarks room.inner.marks.items (length plan.inner.now) room.inner.stamp
    × AsksFit plan.asks.now (length plan.inner.now) (length room.looks.items)
