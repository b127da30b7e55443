use Rattle.std.proofs.Common.{◌||◌, Bool, ap, sym, ◌∙◌}
use Rattle.std.specs.List.{list_any}
use Rattle.std.proofs.lemmas.Bool.{eqb-true}
use Rattle.ix_catalog.specs.Shelves.{is_of}
use Rattle.ix_catalog.proofs.Sizes.{none_some}
use Rattle.ix_catalog.proofs.measures.has_number.Goals as goal

pub returns-else-not-is_empty : goal.returns-else-not-is_empty
returns-else-not-is_empty c =
    let none = none_some c.args.view.now.buckets (eqb-true _ _ (sym c.is_empty.ensures ∙ c.if-not-is_empty.false)) in
    c.has_entry.ensures ∙ sym (ap (λ (t : Bool). t || list_any (is_of c.args.view.now.name) c.args.ledger.now) none)
