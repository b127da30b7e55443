-- What further lines leave as it was, and what the definition of events comes to.
use Rattle.std.specs.Prelude.{◌≡◌, ℕ, Bool, List, ◌++◌, map}
use Rattle.std.specs.List.{flat_map}
use Rattle.ix_merge.specs.Starts.{MarkedLine}
use Rattle.ix_merge.specs.Events.{groups, settled, all_events}
use Rattle.ix_merge.specs.Carry.{carry_of}
use Rattle.ix_merge.specs.declared.events.Whole.{Whole}

-- what some lines have settled is the first of what each continuation settles, open or closed
abbrev pub EventsStay : Bool → ℕ → Type 0
EventsStay on max = (lines later : List MarkedLine) →
    ((added : List Whole) × (settled on max (lines ++ later) ≡ settled on max lines ++ added))
    × ((added : List Whole) × (all_events on max (lines ++ later) ≡ settled on max lines ++ added))

-- the groups, one behind the other, are the lines: each line is in exactly one, in order
abbrev pub KeepsLines : ℕ → Type 0
KeepsLines max = (lines : List MarkedLine) → flat_map (λ group. group) (groups max lines) ≡ map (λ m. m.line) lines

-- one list of events is added to both
pub record AddSame (first first_longer second second_longer : List Whole) : Type 0 where
  pub added : List Whole
  pub to_first : first_longer ≡ first ++ added
  pub to_second : second_longer ≡ second ++ added

-- further lines settle the same events behind either list, whether more may come or not, and leave
-- the same to be carried
pub record GoOnAlike (on : Bool) (max : ℕ) (lines others later : List MarkedLine) : Type 0 where
  pub settles : AddSame (settled on max lines) (settled on max (lines ++ later)) (settled on max others) (settled on max (others ++ later))
  pub ends : AddSame (settled on max lines) (all_events on max (lines ++ later)) (settled on max others)
      (all_events on max (others ++ later))
  pub carries : carry_of on max (lines ++ later) ≡ carry_of on max (others ++ later)

-- what is carried of some lines decides what further lines come to
abbrev pub CarryDecides : Bool → ℕ → Type 0
CarryDecides on max = (lines others later : List MarkedLine) → carry_of on max lines ≡ carry_of on max others →
    GoOnAlike on max lines others later
