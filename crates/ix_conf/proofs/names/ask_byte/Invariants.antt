use Rattle.std.proofs.Common.{◌≡◌, ◌+◌, ◌<◌, ◌≤◌, ◌&&◌, ℕ, false, get_or}
use Rattle.ix_conf.specs.Names.{same_byte}
use Rattle.ix_conf.proofs.names.ask_byte.Given as goal

abbrev pub invariant-loop-i : goal.invariant-loop-i
invariant-loop-i l = record {
  done : (j : ℕ) → j < l.i → get_or l.marks j false ≡ (same_byte l.fold l.byte (get_or l.name j 0) && get_or l.initial.marks (j + 1) false);
  ahead : (j : ℕ) → l.i ≤ j → get_or l.marks j false ≡ get_or l.initial.marks j false;
}
