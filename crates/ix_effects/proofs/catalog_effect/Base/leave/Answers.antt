use Rattle.std.proofs.Common.{◌≡◌, ℕ, ℤ, List, [], Option, ap, ◌∙◌, rules, w64, to_z, of_z}
use Rattle.ix_base.specs.declared.files.File.{File}
use Rattle.ix_items.specs.declared.items.Entry.{Entry}
use Rattle.ix_items.specs.declared.items.Item.{Item}
use Rattle.ix_commit.specs.declared.file_copy.FileCopy.{FileCopy}
use Rattle.ix_commit.specs.declared.write_batch.Append.{Append}
use Rattle.ix_catalog.specs.Changes.{changes}
use Rattle.ix_catalog.specs.declared.index_table.IndexTable.{IndexTable}
use Rattle.ix_effects.specs.Working.{here, left, shelves_in}
use Rattle.ix_effects.specs.declared.catalog_effect.Base.{Base}
use Rattle.ix_effects.specs.declared.catalog_effect.CatalogEffect.{CatalogEffect}
use Rattle.ix_effects.proofs.catalog_effect.Base.leave.Goals as goal

-- what is put together, of parts that are known
together : IndexTable → List Append → List FileCopy → ℕ → Option (List Entry) → List Item → List File → ℤ → ℤ → CatalogEffect
together shelves pieces copies count ledger items done last tick = record {
  storage = record { shelves = shelves; ledger = ledger; last = last; tick = tick };
  pieces = pieces;
  copies = copies;
  items = items;
  done_with = done;
  moved = count;
}

is_left : (b : Base) (shelves : IndexTable) (pieces : List Append) (copies : List FileCopy) (count : ℕ) (ledger : Option (List Entry))
    (items : List Item) (done : List File) (last tick : ℤ) →
    ledger ≡ b.storage.now.ledger → items ≡ changes (here b) [] (shelves_in b) shelves → done ≡ [] → last ≡ b.moment →
    tick ≡ b.storage.now.tick →
    record {
      storage = record { shelves = shelves; ledger = ledger; last = last; tick = tick };
      pieces = pieces;
      copies = copies;
      items = items;
      done_with = done;
      moved = count;
    } ≡ left b shelves pieces copies count
unfolding together
is_left b shelves pieces copies count ledger items done last tick l i d e f =
    let own = changes (here b) [] (shelves_in b) shelves in
    ap (λ (x : Option (List Entry)). together shelves pieces copies count x items done last tick) l
    ∙ ap (λ (x : List Item). together shelves pieces copies count b.storage.now.ledger x done last tick) i
    ∙ ap (λ (x : List File). together shelves pieces copies count b.storage.now.ledger own x last tick) d
    ∙ ap (λ (x : ℤ). together shelves pieces copies count b.storage.now.ledger own [] x tick) e
    ∙ ap (λ (x : ℤ). together shelves pieces copies count b.storage.now.ledger own [] b.moment x) f

pub returns-clause-done : goal.returns-clause-done
returns-clause-done c =
    let b = c.args.self.now in
    let last : to_z w64 (of_z w64 b.moment) ≡ b.moment = search rules in
    let tick : to_z w64 (of_z w64 b.storage.now.tick) ≡ b.storage.now.tick = search rules in
    is_left b c.args.shelves c.args.pieces c.args.copies c.args.moved c.in_ok-ledger.ledger c.in_ok-items.items c.new.result _ _
    c.in_ok-ledger.ensures
    (c.in_ok-items.ensures.done ∙ ap (λ (l : List Entry). changes l [] (shelves_in b) c.args.shelves) c.here.ensures) c.new.ensures last
    tick
