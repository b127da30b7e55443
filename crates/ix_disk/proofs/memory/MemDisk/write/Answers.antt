use Rattle.std.proofs.Common.{◌∙◌, List, ℕ, sym, ap, length, true}
use Rattle.ix_disk.specs.Contents.{changed, over, ones_in}
use Rattle.ix_disk.specs.Memory.{seen_after, torn_after}
use Rattle.ix_disk.proofs.Kept.{seen_by, torn_by, wrote_now, wrote_torn}
use Rattle.ix_disk.proofs.memory.MemDisk.write.Goals as goal

pub invariant_of-self-2 : goal.invariant_of-self-2
invariant_of-self-2 c =
    let calls = c.args.self.now.past.calls.items in
    let now = c.keep.new.self.calls.items in
    let file = c.args.file in
    let at = c.args.at in
    record {
      seen_is = λ f. c.in-Ok.ensures.seen f
          ∙ ap (changed file (over at c.as_slice.result.now) f) (c.args.self.now.seen_is f)
          ∙ ap (λ (b : List ℕ). changed file (over at b) f (seen_after calls f)) c.as_slice.ensures
          ∙ sym (seen_by now _ c.keep.ensures.kept f ∙ wrote_now calls file at c.args.bytes c.requires.place f);
      torn_is = λ f. c.in-Ok.ensures.torn f
          ∙ ap (changed file (ones_in at (length c.as_slice.result.now)) f) (c.args.self.now.torn_is f)
          ∙ ap (λ (b : List ℕ). changed file (ones_in at (length b)) f (torn_after calls f)) c.as_slice.ensures
          ∙ sym (torn_by now _ c.keep.ensures.kept f ∙ wrote_torn calls file at c.args.bytes true f);
    }
