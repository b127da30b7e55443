-- Within the bounds what changed can be written.
use Rattle.std.proofs.Common.{◌≡◌, List, [], ◌∷◌, ◌++◌, sym, subst}
use Rattle.std.specs.Prelude.{All}
use Rattle.std.specs.List.{AllByRecursion}
use Rattle.std.proofs.lemmas.List.Elements.{All-from_recursion}
use Rattle.ix_items.specs.declared.items.Entry.{Entry}
use Rattle.ix_model.specs.Bounds.{KeepsBounds}
use Rattle.ix_model.specs.Given.{Chooser}
use Rattle.ix_model.specs.Step.{state_after}
use Rattle.ix_model.specs.declared.commands.TimedCommand.{TimedCommand}
use Rattle.ix_effects.specs.Guarding.{HasShortName, IsWritableEntry}
use Rattle.ix_effects.specs.Moving.{Precedes}
use Rattle.ix_effects.specs.Working.{shelves_in, CanBeSaid}
use Rattle.ix_effects.specs.declared.catalog_effect.Base.{Base}
use Rattle.ix_effects.proofs.Names.{names_short}
use Rattle.ix_effects.proofs.Rising.{seen_ascend}
use Rattle.ix_catalog.specs.Lists.{AreAscending}
use Rattle.ix_catalog.specs.Shelves.{view_name}
use Rattle.ix_catalog.specs.declared.index_table.IndexTable.{IndexTable}
use Rattle.ix_model.specs.Shelved.{shelved}

pub can_be_said : (choose : Chooser) (history : List TimedCommand) (order : TimedCommand) (b : Base) (more : List Entry)
    (shelves : IndexTable) → Precedes choose history order b →
    shelves ≡ shelved (state_after choose (history ++ order ∷ [])).force (state_after choose (history ++ order ∷ [])).catalog →
    AllByRecursion IsWritableEntry more →
    KeepsBounds (state_after choose (history ++ order ∷ [])) → CanBeSaid more (shelves_in b) shelves
can_be_said choose history order b more shelves p e w k = record {
  order = subst (λ (s : IndexTable). AreAscending view_name s.indexes) (sym p.sees.shelves_are)
      (seen_ascend choose history (state_after choose history).force);
  names = subst (λ (s : IndexTable). All HasShortName s.indexes) (sym e)
      (All-from_recursion HasShortName _ (names_short (state_after choose (history ++ order ∷ [])) k));
  entries = All-from_recursion IsWritableEntry more w;
}
