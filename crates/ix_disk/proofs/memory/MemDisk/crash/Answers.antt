use Rattle.std.proofs.Common.{◌∙◌, ap, subst, sym, Some}
use Rattle.ix_disk.specs.Image.{Image}
use Rattle.ix_disk.specs.Memory.{LeftBy}
use Rattle.ix_disk.proofs.Crash.{crashed_left, left_crashed}
use Rattle.ix_disk.proofs.memory.MemDisk.crash.Goals as goal

pub returns-clause-seen : goal.returns-clause-seen
returns-clause-seen c =
    let disk = c.args.self.now in
    ap Some (λ i f. (c.in_ok-disk.ensures.seen f ∙ c.in_ok-contents.ensures.seen f
    ∙ left_crashed c.args.torn disk.files.files.items disk.past.calls.items disk.seen_is disk.torn_is f) i)

pub returns-clause-one : goal.returns-clause-one
returns-clause-one c = λ image left. ap Some (λ i f. (c.in_ok-disk.ensures.seen f ∙ sym (c.in_ok-disk.ensures.one image left f)) i)

pub returns-clause-left : goal.returns-clause-left
returns-clause-left c = λ image left.
    let disk = c.args.self.now in
    subst (λ (i : Image). LeftBy disk.past.calls.items i)
    (λ i f. sym (c.in_ok-disk.ensures.one image left f ∙ c.in_ok-contents.ensures.seen f
    ∙ left_crashed c.args.torn disk.files.files.items disk.past.calls.items disk.seen_is disk.torn_is f) i)
    (crashed_left c.args.torn disk.past.calls.items)
