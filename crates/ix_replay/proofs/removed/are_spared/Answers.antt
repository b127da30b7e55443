use Rattle.std.proofs.Common.{ℕ, List, subst, sym}
use Rattle.std.specs.Prelude.{All}
use Rattle.std.specs.List.{Contains}
use Rattle.ix_base.specs.declared.files.File.{File}
use Rattle.ix_replay.proofs.removed.are_spared.Goals as goal

pub all_spared-requires-clause-all : goal.all_spared-requires-clause-all
all_spared-requires-clause-all c = subst (λ (l : List ℕ). All (λ (file : File). Contains l file.number) c.args.removed.now)
    (sym c.as_slice.ensures.value) c.in_ok-numbers.ensures.all
