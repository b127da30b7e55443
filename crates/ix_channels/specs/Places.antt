-- Where a channel stands in memory: among the others, in the order of the bytes of their names.
use Rattle.std.specs.Prelude.{ℕ, Bool, not, List}
use Rattle.std.specs.List.{position_or_len}
use Rattle.std.specs.Ordering.{nat_cmp, is_lt}
use Rattle.std.specs.Cmp.Lexicographic.{slice_cmp}
use Rattle.ix_state.specs.declared.state.OpenChannel.{OpenChannel}

-- it stands before where one of this name is to stand
abbrev pub is_before : List ℕ → OpenChannel → Bool
is_before name o = is_lt (slice_cmp nat_cmp o.name name)

-- behind all that stand before it
abbrev pub place_for : List ℕ → List OpenChannel → ℕ
place_for name channels = position_or_len (λ (o : OpenChannel). not (is_before name o)) channels
