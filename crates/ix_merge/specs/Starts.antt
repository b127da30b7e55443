-- Which lines start an event.
use Rattle.std.specs.Prelude.{Bool, true, false, not, ◌&&◌, ◌||◌, List, reverse, find, Option}
use Rattle.std.specs.Option.{option_map_or}
use Rattle.ix_base.specs.declared.events.Line.{Line}
use Rattle.ix_merge.specs.declared.events.Marks.{Marks}

-- a line, and what it was found to match
pub record MarkedLine : Type 0 where
  pub line : Line
  pub marks : Marks

-- the last member, and the last one that passes a test
abbrev pub last : {A : Type 0} → List A → Option A
last xs = find (λ x. true) (reverse xs)

abbrev pub last_that : {A : Type 0} → (A → Bool) → List A → Option A
last_that test xs = find test (reverse xs)

-- behind these lines: the last of them forces a break
abbrev pub is_forced : List MarkedLine → Bool
is_forced earlier = option_map_or (λ m. m.marks.forces) (last earlier) false

-- behind these lines: of those among them that force a break or hold one back the last does not
-- force one
abbrev pub is_held : List MarkedLine → Bool
is_held earlier = option_map_or (λ m. not m.marks.forces) (last_that (λ m. m.marks.forces || m.marks.holds) earlier) false

-- whether a line behind these starts an event; the very first line of all does in any case
abbrev pub starts : List MarkedLine → Marks → Bool
starts earlier marks = is_forced earlier || (marks.wanted && not marks.vetoed && not (is_held earlier))
