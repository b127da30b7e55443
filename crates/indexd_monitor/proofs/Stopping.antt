-- Why a pass stops, in the words of the run.
use Rattle.std.proofs.Common.{◌≡◌, ◌∙◌, ℕ, true, false, List, refl, sym, ap}
use Rattle.std.specs.Prelude.{Err}
use Rattle.ix_base.specs.declared.files.File.{File}
use Rattle.ix_fs.specs.declared.trees.TreeFault.{TreeFault}
use Rattle.ix_fs.specs.declared.trees.TreeFault.TheVariants as trees
use Rattle.ix_commit.specs.declared.fault.CommitFault.TheVariants as commits
use Rattle.ix_run.specs.Storing.{is_cut}
use Rattle.ix_run.specs.declared.giving.GiveFault.{GiveFault}
use Rattle.ix_run.specs.declared.giving.GiveFault.TheVariants.{Refused, Commit}
use Rattle.ix_pass.specs.Filling.{gave_of}
use Rattle.ix_pass.specs.declared.fault.PassFault.{PassFault}
use Rattle.ix_pass.specs.declared.fault.PassFault.TheVariants as passes
use Rattle.indexd_run.proofs.Ending.{quiet_give, unread_give, disk_of_give}
use Rattle.indexd_run.proofs.Undamaged.{damaged_of_give}
use Rattle.indexd_run.specs.Stops.{of_give, loses, is_output, is_input}
use Rattle.indexd_run.specs.declared.stop.Stop.{Stop}
use Rattle.indexd_run.specs.declared.stop.Stop.TheVariants as stops
use Rattle.indexd_monitor.specs.Monitored.{of_tree, of_pass}

-- ---- the files were not found

pub quiet_tree : (fault : TreeFault) → is_output (of_tree fault) ≡ false
quiet_tree trees.Failed = refl
quiet_tree trees.Missing = refl
quiet_tree trees.NoMemory = refl

pub keeps_tree : (fault : TreeFault) → loses (of_tree fault) ≡ false
keeps_tree trees.Failed = refl
keeps_tree trees.Missing = refl
keeps_tree trees.NoMemory = refl

pub disk_tree : (fault : TreeFault) → of_tree fault ≡ stops.Disk → ⊥
disk_tree trees.Failed is = cc
disk_tree trees.Missing is = cc
disk_tree trees.NoMemory is = cc

pub damaged_tree : (fault : TreeFault) (file : File) (at : ℕ) → of_tree fault ≡ stops.Damaged file at → ⊥
damaged_tree trees.Failed file at is = cc
damaged_tree trees.Missing file at is = cc
damaged_tree trees.NoMemory file at is = cc

pub endless_tree : (fault : TreeFault) → of_tree fault ≡ stops.Endless → ⊥
endless_tree trees.Failed is = cc
endless_tree trees.Missing is = cc
endless_tree trees.NoMemory is = cc

-- what is missing is no fault
pub input_tree : (fault : TreeFault) → (fault ≡ trees.Missing → ⊥) → of_tree fault ≡ stops.Input → fault ≡ trees.Failed
input_tree trees.Failed there is = refl
input_tree trees.Missing there is = absurd (there refl)
input_tree trees.NoMemory there is = cc

-- ---- a pass was stopped

pub quiet_pass : (fault : PassFault) → is_output (of_pass fault) ≡ false
quiet_pass (passes.Given fault) = quiet_give fault
quiet_pass passes.Input = refl
quiet_pass passes.Memory = refl

pub uncut_pass : (fault : PassFault) (stop : Stop) → stop ≡ of_pass fault → loses stop ≡ false →
    is_cut (gave_of {T = List ℕ} (Err fault)) ≡ false
uncut_pass fault stop is kept = so fault (ap loses (sym is) ∙ kept) where
  so : (fault : PassFault) → loses (of_pass fault) ≡ false → is_cut (gave_of {T = List ℕ} (Err fault)) ≡ false
  so (passes.Given (Refused refusal)) kept = refl
  so (passes.Given (Commit commits.Disk)) kept = cc
  so (passes.Given (Commit (commits.Damaged file at))) kept = cc
  so passes.Input kept = refl
  so passes.Memory kept = refl

pub disk_pass : (fault : PassFault) → of_pass fault ≡ stops.Disk → fault ≡ passes.Given (Commit commits.Disk)
disk_pass (passes.Given fault) is = ap (λ (f : GiveFault). passes.Given f) (disk_of_give fault is)
disk_pass passes.Input is = cc
disk_pass passes.Memory is = cc

pub damaged_pass : (fault : PassFault) (file : File) (at : ℕ) → of_pass fault ≡ stops.Damaged file at →
    fault ≡ passes.Given (Commit (commits.Damaged file at))
damaged_pass (passes.Given fault) file at is = ap (λ (f : GiveFault). passes.Given f) (damaged_of_give fault file at is)
damaged_pass passes.Input file at is = cc
damaged_pass passes.Memory file at is = cc

-- a command that is not given is no fault of the tree, and no end of an input
not_given : (fault : GiveFault) (stop : Stop) → is_input stop ≡ true → of_give fault ≡ stop → ⊥
not_given fault stop read is = let e : true ≡ false = sym read ∙ (sym (ap is_input is) ∙ unread_give fault) in cc

pub input_pass : (fault : PassFault) → of_pass fault ≡ stops.Input → fault ≡ passes.Input
input_pass (passes.Given fault) is = absurd (not_given fault stops.Input refl is)
input_pass passes.Input is = refl
input_pass passes.Memory is = cc

pub endless_pass : (fault : PassFault) → of_pass fault ≡ stops.Endless → ⊥
endless_pass (passes.Given fault) is = not_given fault stops.Endless refl is
endless_pass passes.Input is = cc
endless_pass passes.Memory is = cc
