-- What is in memory before a command, and what is left of it where nothing freezes.
use Rattle.std.proofs.Common.{◌≡◌, ℕ, ℤ, List, [], ◌∷◌, ◌++◌, length, sym, ap, ◌∙◌, subst, arith}
use Rattle.std.specs.List.Sorted.{IsPermutation}
use Rattle.std.proofs.lemmas.List.{drop_all}
use Rattle.ix_items.specs.declared.items.Entry.{Entry}
use Rattle.ix_commit.specs.Contents.{Contents}
use Rattle.ix_commit.specs.Drafts.{AreFit, AreFitCopies, with_pieces, with_copies}
use Rattle.ix_commit.specs.Snapshot.{Forgets}
use Rattle.ix_commit.specs.declared.file_copy.FileCopy.{FileCopy}
use Rattle.ix_commit.specs.declared.write_batch.Append.{Append}
use Rattle.ix_bounds.proofs.Orders.{changes_same}
use Rattle.ix_model.specs.Given.{Chooser}
use Rattle.ix_model.specs.Judged as judging
use Rattle.ix_model.specs.State.{State}
use Rattle.ix_model.specs.Step.{state_after, stepped}
use Rattle.ix_model.specs.declared.commands.Command.{Command}
use Rattle.ix_model.specs.declared.commands.TimedCommand.{TimedCommand}
use Rattle.ix_effects.specs.Moving.{Precedes, Leads}
use Rattle.ix_effects.specs.Working.{here, shelves_in, left}
use Rattle.ix_effects.specs.declared.catalog_effect.Base.{Base}
use Rattle.ix_catalog.specs.Changes.{changes}
use Rattle.ix_catalog.specs.declared.index_table.IndexTable.{IndexTable}
use Rattle.ix_model.specs.Contents.{contents_of}
use Rattle.ix_model.specs.Done.{AreLetGo}
use Rattle.ix_model.specs.OnDisk.{HasNoneFrom}
use Rattle.ix_model.specs.Said.{new_entries, shelf_items}
use Rattle.ix_model.specs.Shelved.{shelved}
use Rattle.ix_model.proofs.Stood.{after_push}
use Rattle.ix_state.specs.Held.{SeesBeside}

pub later_is : (choose : Chooser) (history : List TimedCommand) (order : TimedCommand) (b : Base) → Precedes choose history order b →
    state_after choose (history ++ order ∷ []) ≡ stepped choose (state_after choose history) order.command b.moment
later_is choose history order b p =
    after_push choose history order ∙ ap (stepped choose (state_after choose history) order.command) (sym p.moment_is)

-- the ledger and the moment of the last Tick are as they were
pub record Stays (m later : State) (moment : ℤ) : Type 0 where
  pub ledger : later.catalog.ledger ≡ m.catalog.ledger
  pub last : later.last ≡ moment
  pub tick : later.tick ≡ m.tick

-- pieces and copies lead from what files begin with to what they then begin with
abbrev pub Fills : State → State → List Append → List FileCopy → Type 0
Fills m later pieces copies = (old : Contents) → HasNoneFrom m.catalog.next_file old →
    AreFit (contents_of m.catalog) pieces
    × AreFitCopies old (with_pieces pieces (contents_of m.catalog)) copies
    × Forgets (with_copies copies (with_pieces pieces (contents_of m.catalog))) (contents_of later.catalog)

none_new : (m later : State) → later.catalog.ledger ≡ m.catalog.ledger → new_entries m later ≡ []
none_new m later e =
    let l = ap (λ (es : List Entry). length es) e in
    drop_all (length m.catalog.ledger) later.catalog.ledger (omega (arith, l))

pub same_items : (m later : State) (b : Base) (more : List Entry) (ledger : List Entry) (shelves : IndexTable) →
    SeesBeside m b.ledger.now b.storage.now → IsPermutation ledger later.catalog.ledger →
    more ≡ new_entries m later → shelves ≡ shelved later.force later.catalog →
    changes ledger more (shelves_in b) shelves ≡ shelf_items m later
same_items m later b more ledger shelves sees perm news e =
    changes_same ledger later.catalog.ledger perm more (shelves_in b) shelves
    ∙ ap (λ (es : List Entry). changes later.catalog.ledger es (shelves_in b) shelves) news
    ∙ ap (λ (s : IndexTable). changes later.catalog.ledger (new_entries m later) s shelves) sees.shelves_are
    ∙ ap (changes later.catalog.ledger (new_entries m later) (shelved m.force m.catalog)) e

pub left_leads : (m later : State) (command : Command) (b : Base) (shelves : IndexTable) (pieces : List Append) (copies : List FileCopy)
    (count : ℕ) →
    SeesBeside m b.ledger.now b.storage.now → Stays m later b.moment → shelves ≡ shelved later.force later.catalog →
    Fills m later pieces copies →
    count ≡ judging.moved m command b.moment → AreLetGo m.catalog later.catalog [] →
    Leads m later command b.ledger.now b.moment (left b shelves pieces copies count)
left_leads m later command b shelves pieces copies count sees stays e fills counted gone =
    let perm : IsPermutation (here b) later.catalog.ledger = subst (IsPermutation (here b)) (sym stays.ledger) sees.ledger_is in
    record {
      storage = record {
        shelves_are = e;
        ledger_is = perm;
        ledger_rises = sees.ledger_rises;
        last_is = sym stays.last;
        tick_is = sees.tick_is ∙ sym stays.tick;
      };
      files = fills;
      items_are = same_items m later b [] (here b) shelves sees perm (sym (none_new m later stays.ledger)) e;
      done = tt;
      let_go = gone;
      moved_are = counted;
    }
