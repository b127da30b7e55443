use Rattle.std.proofs.Common.{◌≡◌, ℕ, [], None, ap, subst, sym, ◌∙◌}
use Rattle.std.specs.Prelude.{option_copied}
use Rattle.std.specs.BTreeMap.{get}
use Rattle.std.specs.Ordering.{nat_cmp}
use Rattle.ix_manifest.specs.Book.{named}
use Rattle.ix_replay.proofs.OnlyItems.{none_known}
use Rattle.ix_replay.proofs.standing.standing.Goals as goal

pub returns-in-None : goal.returns-in-None
returns-in-None c = sym (none_known c.args.places.now c.args.items.now (named c.args.kind [] 0) c.requires.known
    (subst (λ (k : ℕ). get nat_cmp c.args.places.now k ≡ None) c.only_key.ensures
    (sym c.get.ensures.value ∙ ap option_copied c.in-None.is)))
