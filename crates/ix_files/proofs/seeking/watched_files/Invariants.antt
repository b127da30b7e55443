use Rattle.std.proofs.Common.{◌≡◌, ◌≤◌, ◌++◌, take, drop}
use Rattle.std.specs.Prelude.{IfSome}
use Rattle.std.specs.List.{AllByRecursion}
use Rattle.ix_files.specs.Sought.{sought_from, sought, IsFileOf}
use Rattle.ix_files.proofs.seeking.watched_files.Given as goal

abbrev pub invariant-loop-at : goal.invariant-loop-at
invariant-loop-at g l = record {
  found : IfSome (g.T.Tree.files l.initial.tree) (λ all. l.files
      ++ sought_from all (take l.at l.inputs) (drop l.at l.inputs) ≡ sought all l.inputs);
  own : AllByRecursion (IsFileOf l.inputs) l.files;
  same : g.T.Tree.files l.tree ≡ g.T.Tree.files l.initial.tree;
  later : g.T.Tree.faults l.initial.tree ≤ g.T.Tree.faults l.tree;
  later_missing : g.T.Tree.missing l.initial.tree ≤ g.T.Tree.missing l.tree;
}
