-- A stated index that is not configured.
use Rattle.std.proofs.Common.{◌≡◌, ◌∙◌, ℕ, List, sym, ap, subst, Option, Result, Ok, Err, IfOk}
use Rattle.std.specs.Prelude.{OnErr}
use Rattle.ix_base.specs.declared.faults.NoMemory.{NoMemory}
use Rattle.ix_fs.specs.declared.trees.TreeFile.{TreeFile}
use Rattle.indexd_core.specs.Prepared.{Stated, IsNotFound, not_found_line}
use Rattle.indexd_core.specs.Runs.{WroteUnprepared}
use Rattle.indexd_core.specs.Sides.{Side}
use Rattle.indexd_core.specs.Texts.{Said, status_text}
use Rattle.indexd_core.specs.declared.status.Status.{Status}
use Rattle.indexd_core.specs.declared.status.Status.TheVariants as status

pub not-found : (line : Result (List ℕ) NoMemory) (name index : List ℕ) (ended : Status) (output output' : Side) → name ≡ index →
    IfOk line (λ l. l ≡ not_found_line name) →
    IfOk line (λ text. (ended ≡ status.NotFound) × Said text output output') →
    OnErr line ((ended ≡ status.Memory) × Said (status_text status.Memory) output output') →
    (stated : Stated) (files : Option (List TreeFile)) (failed failed' : ℕ) → IsNotFound stated files index →
    WroteUnprepared ended stated files failed failed' output output'
not-found (Ok text) name index ended output output' same is ok err stated files failed failed' found =
    subst (λ (s : Status). WroteUnprepared s stated files failed failed' output output') (sym ok.0)
    (index, found, subst (λ (t : List ℕ). Said t output output') (is ∙ ap not_found_line same) ok.1)
not-found (Err e) name index ended output output' same is ok err stated files failed failed' found =
    subst (λ (s : Status). WroteUnprepared s stated files failed failed' output output') (sym err.0) err.1
