-- An empty disk stands for the empty history.
use Rattle.std.proofs.Common.{◌≡◌, ◌≢◌, ◌+◌, ◌∙◌, ℕ, List, [], ap, refl, subst, sym, inr, arith}
use Rattle.std.proofs.lemmas.List.Elements.{All-nil}
use Rattle.ix_base.specs.declared.files.File.{File}
use Rattle.ix_commit.specs.Contents.{BeginsWith, filling}
use Rattle.ix_commit.specs.Reads.{LeadsTo}
use Rattle.ix_commit.proofs.Reading.{leads_one}
use Rattle.ix_disk.specs.Image.{Image, nothing}
use Rattle.ix_items.specs.declared.items.Item.TheVariants as items
use Rattle.ix_manifest.specs.Book.{Name, NamedItems, empty, after_item, run_in}
use Rattle.ix_model.specs.Given.{Chooser}
use Rattle.ix_model.specs.Snap.{first_snap}
use Rattle.ix_store.specs.Written.{IsNextRun, RecoversToPrefix}

none_filled : (file : File) → filling first_snap.contents file ≡ []
none_filled file = grind arith

books_first : (name : Name) → name.kind ≢ 2 → name.kind ≢ 12 → after_item (items.Settings []) empty name ≡ first_snap.book name
books_first name not_run not_removals = refl

empty_stands : (fits : NamedItems → Type 0) (choose : Chooser) → RecoversToPrefix fits 0 choose [] 0 nothing
empty_stands fits choose = record {
  which = 0;
  least = omega arith;
  most = omega arith;
  kept = record { book = empty; contents = first_snap.contents };
  later = omega arith;
  stands = inr (refl, record { books = books_first; contents = refl });
  keeps = record {
    checkpoints = 0;
    in_root = inr (refl, omega arith);
    bodies = [];
    in_log = inr (refl, omega arith);
    replayed = refl;
    contents = record { begins = λ file. subst (λ (l : List ℕ). BeginsWith l []) (sym (none_filled file)) refl };
    free = All-nil _;
  };
}

-- so does every image of a disk that is empty
pub empty_begins : (fits : NamedItems → Type 0) (choose : Chooser) (may_leave : Image → Type 0) →
    ((image : Image) → may_leave image → image ≡ nothing) → (image : Image) → may_leave image → RecoversToPrefix fits 0 choose [] 0 image
empty_begins fits choose may_leave is_empty image may =
    subst (RecoversToPrefix fits 0 choose [] 0) (sym (is_empty image may)) (empty_stands fits choose)

-- it leads to nothing
leads_nowhere : (fits : NamedItems → Type 0) → LeadsTo fits empty nothing
leads_nowhere fits = record {
  checkpoints = 0;
  in_root = inr (refl, omega arith);
  bodies = [];
  in_log = inr (refl, omega arith);
  replayed = refl;
}

-- so the run that is begun there is the first
pub first_run : (fits : NamedItems → Type 0) (run : ℕ) → IsNextRun fits run nothing → run ≡ 1
first_run fits run next =
    next.is ∙ ap (λ (book : NamedItems). run_in book + 1) (leads_one fits nothing next.found empty next.leads (leads_nowhere fits))
