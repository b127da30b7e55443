use Rattle.std.proofs.Common.{◌≡◌, ◌≤◌, ◌++◌, take}
use Rattle.std.specs.Prelude.{IfSome}
use Rattle.ix_files.specs.Sought.{fitting_of, sought_at, Adds}
use Rattle.ix_files.proofs.seeking.Seeker.add_names.Given as goal

abbrev pub invariant-loop-name : goal.invariant-loop-name
invariant-loop-name g l = record {
  added : IfSome (g.T.Tree.files l.initial.tree) (λ all. l.files ≡ l.initial.files
      ++ sought_at all l.self.earlier.now l.self.input.now (fitting_of l.self.input.now.path (take l.name-index l.names)));
  own : Adds l.self.input.now l.initial.files l.files;
  same : g.T.Tree.files l.tree ≡ g.T.Tree.files l.initial.tree;
  later : g.T.Tree.faults l.initial.tree ≤ g.T.Tree.faults l.tree;
  later_missing : g.T.Tree.missing l.initial.tree ≤ g.T.Tree.missing l.tree;
}
