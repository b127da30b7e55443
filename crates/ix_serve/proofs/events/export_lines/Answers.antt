use Rattle.std.proofs.Common.{◌≡◌, ◌∙◌, ◌||◌, ℕ, length, refl, sym, ap, inl, inr, Result, Err}
use Rattle.std.proofs.lemmas.Bool.{false≢true}
use Rattle.ix_base.specs.declared.files.File.{File}
use Rattle.ix_commit.specs.declared.fault.CommitFault.TheVariants as commits
use Rattle.ix_model.specs.Step.{state_after}
use Rattle.ix_store.specs.Exporting.{is_seen}
use Rattle.ix_store.specs.Faults.{is_of_disk, closes}
use Rattle.ix_store.specs.declared.fault.ExportFault.{ExportFault}
use Rattle.ix_store.specs.declared.fault.ExportFault.TheVariants as exports
use Rattle.ix_serve.specs.Serving.{IsTold}
use Rattle.ix_serve.proofs.Behind.{ok_err}
use Rattle.ix_serve.proofs.Exporting.{of_kept, of_front, of_unseen, seen_by}
use Rattle.ix_serve.proofs.Closing.{by_export, placed_as}
use Rattle.ix_serve.proofs.events.export_lines.Goals as goal

disk_or_damaged : (file : File) (at : ℕ) → commits.Disk ≡ commits.Damaged file at → ⊥
disk_or_damaged file at is = cc

damaged_or_disk : (file : File) (at : ℕ) → commits.Damaged file at ≡ commits.Disk → ⊥
damaged_or_disk file at is = cc

not_unknown : (let result : Result ℕ ExportFault = Err exports.Output in result ≡ Err exports.UnknownIndex) → ⊥
not_unknown is = cc

pub returns-in-Ok : goal.returns-in-Ok
returns-in-Ok g c = record {
  reply = λ e chooser taken hold.
      of_kept (IsTold g.D.Disk c.export.new.disk) e c.args.index.now c.args.range.now c.new.result c.export.new.out.bytes c.of_lines.result
      c.new.ensures c.of_lines.ensures
      (seen_by (is_seen (state_after e.choose e.history) c.args.index.now)
      (λ unseen. ok_err ((c.in-Ok.ensures.unknown e.choose e.history e.base (length e.history) hold.old hold.staged).1 unseen)))
      (λ told. c.in-Ok.ensures.lines e.choose e.history e.base told.0 chooser taken hold (sym c.in-Ok.ensures.same ∙ told.1));
  held = λ choose h base k hold. c.in-Ok.ensures.held refl choose h base k hold;
  undamaged = tt;
  measured = c.export.ensures.measured;
  closed = tt;
  placed = tt;
  run = c.export.ensures.run;
  memory = c.export.ensures.memory;
  same = c.export.ensures.same;
  over = c.export.ensures.over;
  later = c.export.ensures.later;
  failed = tt;
  images = c.export.ensures.images;
}

pub returns-in-Err-Output : goal.returns-in-Err-Output
returns-in-Err-Output g c = record {
  reply = λ e chooser taken hold.
      of_front (IsTold g.D.Disk c.export.new.disk) e c.args.index.now c.args.range.now c.new.result c.export.new.out.bytes c.of_rest.result
      c.new.ensures c.of_rest.ensures
      (seen_by (is_seen (state_after e.choose e.history) c.args.index.now)
      (λ unseen. not_unknown (sym (ap (λ (f : ExportFault). Err f) c.in-Err-Output.field-0-is)
      ∙ (c.in-Err-Output.ensures.unknown e.choose e.history e.base (length e.history) hold.old hold.staged).1 unseen)))
      (λ told. c.in-Err-Output.ensures.begun e.choose e.history e.base told.0 chooser taken hold (sym c.in-Err-Output.ensures.same
      ∙ told.1));
  held = λ choose h base k hold. c.in-Err-Output.ensures.held (ap is_of_disk c.in-Err-Output.field-0-is) choose h base k hold;
  undamaged = tt;
  measured = c.export.ensures.measured;
  closed = tt;
  placed = tt;
  run = c.export.ensures.run;
  memory = c.export.ensures.memory;
  same = c.export.ensures.same;
  over = c.export.ensures.over;
  later = c.export.ensures.later;
  failed = tt;
  images = c.export.ensures.images;
}

pub returns-in-Err-UnknownIndex : goal.returns-in-Err-UnknownIndex
returns-in-Err-UnknownIndex g c = record {
  reply = λ e chooser taken hold.
      of_unseen (IsTold g.D.Disk c.export.new.disk) e c.args.index.now c.args.range.now
      ((c.in-Err-UnknownIndex.ensures.unknown e.choose e.history e.base (length e.history) hold.old hold.staged).0
      (ap (λ (f : ExportFault). Err f) c.in-Err-UnknownIndex.field-0-is));
  held = λ choose h base k hold. c.in-Err-UnknownIndex.ensures.held (ap is_of_disk c.in-Err-UnknownIndex.field-0-is) choose h base k hold;
  undamaged = tt;
  measured = c.export.ensures.measured;
  closed = tt;
  placed = tt;
  run = c.export.ensures.run;
  memory = c.export.ensures.memory;
  same = c.export.ensures.same;
  over = c.export.ensures.over;
  later = c.export.ensures.later;
  failed = tt;
  images = c.export.ensures.images;
}

pub returns : goal.returns
returns g c = record {
  reply = tt;
  held = λ choose h base k hold. tt;
  undamaged = λ choose h base chooser taken hold file at is image seen.
      c.in-Err-Damaged.ensures.sound c.in-Err-Damaged.file c.in-Err-Damaged.at (ap (λ (f : ExportFault). Err f) c.in-Err-Damaged.field-0-is)
      choose h base image chooser taken hold (sym c.in-Err-Damaged.ensures.same ∙ seen);
  measured = c.export.ensures.measured;
  closed = by_export c.export.new.self _ _ c.export.ensures.closes (ap closes (c.in-Err-Damaged.is ∙ ap Err c.in-Err-Damaged.field-0-is));
  placed = λ file at is image seen. placed_as (g.M.StoreMemory.shown c.args.store.now.memory)
      (g.M.StoreMemory.shown c.export.new.self.memory) image c.in-Err-Damaged.file file c.in-Err-Damaged.at at
      (ap g.M.StoreMemory.shown c.export.ensures.memory) is
      (inr (
        c.args.index.now,
        c.in-Err-Damaged.ensures.bad c.in-Err-Damaged.file c.in-Err-Damaged.at
            (ap (λ (f : ExportFault). Err f) c.in-Err-Damaged.field-0-is) image (sym c.in-Err-Damaged.ensures.same ∙ seen),
      ));
  run = c.export.ensures.run;
  memory = c.export.ensures.memory;
  same = c.export.ensures.same;
  over = c.export.ensures.over;
  later = c.export.ensures.later;
  failed = λ is. absurd (damaged_or_disk c.in-Err-Damaged.file c.in-Err-Damaged.at is);
  images = c.export.ensures.images;
}

pub returns-in-Err-NoMemory : goal.returns-in-Err-NoMemory
returns-in-Err-NoMemory g c = record {
  reply = λ e chooser taken hold. inl refl;
  held = λ choose h base k hold. c.in-Err-NoMemory.ensures.held (ap is_of_disk c.in-Err-NoMemory.field-0-is) choose h base k hold;
  undamaged = tt;
  measured = c.export.ensures.measured;
  closed = tt;
  placed = tt;
  run = c.export.ensures.run;
  memory = c.export.ensures.memory;
  same = c.export.ensures.same;
  over = c.export.ensures.over;
  later = c.export.ensures.later;
  failed = tt;
  images = c.export.ensures.images;
}

pub returns-in-Err-Closed : goal.returns-in-Err-Closed
returns-in-Err-Closed g c = record {
  reply = λ e chooser taken hold.
      absurd (false≢true (sym (λ i. hold.staged.ready.usable i || hold.staged.is_open i)
      ∙ c.in-Err-Closed.ensures.closed.0 (ap (λ (f : ExportFault). Err f) c.in-Err-Closed.field-0-is)));
  held = λ choose h base k hold. c.in-Err-Closed.ensures.held (ap is_of_disk c.in-Err-Closed.field-0-is) choose h base k hold;
  undamaged = tt;
  measured = c.export.ensures.measured;
  closed = tt;
  placed = tt;
  run = c.export.ensures.run;
  memory = c.export.ensures.memory;
  same = c.export.ensures.same;
  over = c.export.ensures.over;
  later = c.export.ensures.later;
  failed = tt;
  images = c.export.ensures.images;
}

pub returns-in-Err-Disk : goal.returns-in-Err-Disk
returns-in-Err-Disk g c = record {
  reply = tt;
  held = λ choose h base k hold. tt;
  undamaged = λ choose h base chooser taken hold file at is. absurd (disk_or_damaged file at is);
  measured = c.export.ensures.measured;
  closed = by_export c.export.new.self _ _ c.export.ensures.closes (ap closes (c.in-Err-Disk.is ∙ ap Err c.in-Err-Disk.field-0-is));
  placed = λ file at is. absurd (disk_or_damaged file at is);
  run = c.export.ensures.run;
  memory = c.export.ensures.memory;
  same = c.export.ensures.same;
  over = c.export.ensures.over;
  later = c.export.ensures.later;
  failed = λ is. c.export.ensures.cause (c.in-Err-Disk.is ∙ ap Err c.in-Err-Disk.field-0-is);
  images = c.export.ensures.images;
}
