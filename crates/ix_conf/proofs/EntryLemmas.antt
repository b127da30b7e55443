-- Laws of the entries of lines.
use Rattle.std.proofs.Common.{◌≡◌, List, ◌++◌, refl, sym, ap, append_assoc, Result, Ok, Err}
use Rattle.ix_conf.specs.Grammar.{behind}
use Rattle.ix_conf.specs.declared.entries.Entry.{Entry}
use Rattle.ix_conf.specs.declared.entries.ConfFault.{ConfFault}

pub behind_behind : (a b : List Entry) (r : Result (List Entry) ConfFault) → behind a (behind b r) ≡ behind (a ++ b) r
behind_behind a b (Ok entries) = ap Ok (sym (append_assoc a b entries))
behind_behind a b (Err fault) = refl
