use Rattle.std.proofs.Common.{◌≡◌, ◌<◌, ◌≤◌, ◌||◌, ℕ, false, get_or}
use Rattle.ix_conf.proofs.names.ask_either.Given as goal

abbrev pub invariant-loop-i : goal.invariant-loop-i
invariant-loop-i l = record {
  done : (j : ℕ) → j < l.i → get_or l.marks j false ≡ (get_or l.initial.marks j false || get_or l.others j false);
  ahead : (j : ℕ) → l.i ≤ j → get_or l.marks j false ≡ get_or l.initial.marks j false;
}
