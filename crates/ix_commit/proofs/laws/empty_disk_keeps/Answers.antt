use Rattle.std.proofs.Common.{ℕ, List, [], refl, subst, sym, inr, arith}
use Rattle.std.proofs.lemmas.List.Elements.{All-nil}
use Rattle.ix_manifest.specs.Book.{empty}
use Rattle.ix_commit.specs.Contents.{BeginsWith}
use Rattle.ix_commit.proofs.laws.empty_disk_keeps.Goals as goal

pub returns : goal.returns
returns g c = λ family to books none. record {
  which = 0;
  least = omega arith;
  most = omega arith;
  kept = record { book = empty; contents = (family 0).contents };
  later = omega arith;
  stands = inr (refl, record { books = books; contents = refl });
  keeps = record {
    checkpoints = 0;
    in_root = inr (refl, omega arith);
    bodies = [];
    in_log = inr (refl, omega arith);
    replayed = refl;
    contents = record { begins = λ file. subst (λ (l : List ℕ). BeginsWith l []) (sym (none file)) refl };
    free = All-nil _;
  };
}
