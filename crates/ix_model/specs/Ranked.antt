-- The order in which the entries of the ledger are seen, which is fixed by what they say.
use Rattle.std.specs.Prelude.{ℕ, Bool, List}
use Rattle.std.specs.Cmp.Lexicographic.{slice_cmp}
use Rattle.std.specs.Ordering.{nat_cmp, int_cmp, ordering_then, is_lt}
use Rattle.std.specs.declared.cmp.Ordering.{Ordering}
use Rattle.ix_items.specs.declared.items.Entry.{Entry}
use Rattle.ix_items.specs.declared.items.Rule.{Rule}
use Rattle.ix_items.specs.declared.items.Rule.TheVariants as rules
use Rattle.ix_life.specs.Order.{sorted_by}

-- the place of a rule in a turn of housekeeping
abbrev pub rule_place : Rule → ℕ
rule_place rules.Age = 1
rule_place rules.Cold = 2
rule_place rules.Total = 3

-- by the moment at which they froze, the bytes of the index's name, the rule, the newest time, and
-- the number of the bucket
abbrev pub entry_cmp : Entry → Entry → Ordering
entry_cmp a b =
    ordering_then (ordering_then (ordering_then (ordering_then
    (int_cmp a.moment b.moment)
    (slice_cmp nat_cmp a.index b.index))
    (nat_cmp (rule_place a.rule) (rule_place b.rule)))
    (int_cmp a.newest b.newest))
    (nat_cmp a.id b.id)

abbrev pub ranks_before : Entry → Entry → Bool
ranks_before a b = is_lt (entry_cmp a b)

-- entries in that order
abbrev pub ranked : List Entry → List Entry
ranked entries = sorted_by ranks_before entries
