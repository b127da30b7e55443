-- In which part of a text its time is read.
use Rattle.std.specs.Prelude.{◌≡◌, ℕ, zero, suc, ◌+◌, ◌==◌, ◌≤◌, List, length, take, drop, Option, Some, None, option_map, slice_get}
use Rattle.std.specs.Prelude.{if◌then◌else◌}
use Rattle.ix_pattern.specs.Rows.{Shape}
use Rattle.ix_pattern.specs.Ways.{Way, ends_at, edge}
use Rattle.ix_match.specs.declared.first.Found.{Found}
use Rattle.ix_match.specs.Matches.{IsFirst, ways_from}
use Rattle.ix_dates.specs.Text.{or_else}

abbrev pub end_of : Option Way → Option ℕ
end_of None = None
end_of (Some edge) = None
end_of (Some (ends_at r)) = Some r.place

-- where the preferred match ends that begins at a place
unfoldable pub end_at : Shape → List ℕ → ℕ → Option ℕ
end_at p text place = end_of (slice_get (ways_from p text place) 0)

-- where the first match ends that begins at a place or at one of so many behind it
unfoldable pub first_end : Shape → List ℕ → ℕ → ℕ → Option ℕ
first_end p text place zero = end_at p text place
first_end p text place (suc more) = or_else (end_at p text place) (first_end p text (place + 1) more)

-- the place of the time: behind the first match of the prefix, and without one at the front
abbrev pub place_of : Option Shape → List ℕ → Option ℕ
place_of None text = Some 0
place_of (Some p) text = first_end p text 0 (length text)

-- the bytes from a place on, so many of them; 0 and none lift the bound
abbrev pub window : Option ℕ → List ℕ → ℕ → List ℕ
window None text place = drop place text
window (Some n) text place = if n == 0 then drop place text else take n (drop place text)

abbrev pub InText : List ℕ → Option Found → Type 0
InText text None = Unit {0}
InText text (Some found) = found.start ≤ length text

-- the place behind the first match is where that match ends
abbrev pub FirstMatchEnds : Type 0
FirstMatchEnds = (p : Shape) (text : List ℕ) (found : Option Found) → IsFirst p text 0 found → InText text found →
    place_of (Some p) text ≡ option_map (λ f. f.end) found
