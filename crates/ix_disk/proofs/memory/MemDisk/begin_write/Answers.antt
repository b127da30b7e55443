use Rattle.std.proofs.Common.{◌∙◌, ℕ, sym, ap, length, None, false}
use Rattle.ix_disk.specs.Contents.{changed, ones_in, torn_in}
use Rattle.ix_disk.specs.declared.past.Call.TheVariants.{Wrote}
use Rattle.ix_disk.proofs.Kept.{seen_by, torn_by, see_push, wrote_torn}
use Rattle.ix_disk.proofs.memory.MemDisk.begin_write.Goals as goal

pub invariant_of-self-2 : goal.invariant_of-self-2
invariant_of-self-2 c =
    let calls = c.args.self.now.past.calls.items in
    let now = c.keep.new.self.calls.items in
    let call = Wrote c.args.file c.args.at c.args.bytes false in
    record {
      seen_is = λ f. c.mark.ensures.seen f ∙ c.args.self.now.seen_is f
          ∙ sym (seen_by now _ c.keep.ensures.kept f ∙ see_push calls call f None);
      torn_is = λ f. c.in-Ok.ensures.torn f
          ∙ ap (λ (n : ℕ). changed c.args.file (ones_in c.args.at n) f (torn_in c.args.self.now.files.files.items f)) c.len.ensures
          ∙ ap (changed c.args.file (ones_in c.args.at (length c.args.bytes)) f) (c.args.self.now.torn_is f)
          ∙ sym (torn_by now _ c.keep.ensures.kept f ∙ wrote_torn calls c.args.file c.args.at c.args.bytes false f);
    }
