use Rattle.std.proofs.Common.{◌≡◌, ◌≤◌, ◌++◌, length, take}
use Rattle.ix_transforms.specs.Writing.{written}
use Rattle.ix_transforms.proofs.writing.add_parts.Given as goal

abbrev pub invariant-loop-part : goal.invariant-loop-part
invariant-loop-part l =
    (l.out ≡ take l.limit (l.initial.out ++ written (take l.part-index l.parts) l.groups.zeroth.now l.groups.text.now l.groups.spans.now))
    × (length l.out ≤ l.limit)
