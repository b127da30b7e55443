use Rattle.std.proofs.Common.{◌≡◌, ◌+◌, ◌<◌, ◌≤◌, ◌&&◌, ◌||◌, ℕ, false, get_or, length}
use Rattle.ix_conf.specs.Walk.{may_pass}
use Rattle.ix_conf.proofs.names.ask_bytes.Given as goal

abbrev pub invariant-loop-at : goal.invariant-loop-at
invariant-loop-at l = record {
  within : l.at ≤ length l.name;
  done : (j : ℕ) → l.at ≤ j → j < length l.name
      → get_or l.marks j false ≡ (get_or l.initial.marks j false || (may_pass l.slash (get_or l.name j 0) && get_or l.marks (j + 1) false));
  ahead : (j : ℕ) → j < l.at → get_or l.marks j false ≡ get_or l.initial.marks j false;
  last : get_or l.marks (length l.name) false ≡ get_or l.initial.marks (length l.name) false;
}

abbrev pub decreases-loop-at : goal.decreases-loop-at
decreases-loop-at l = l.at
