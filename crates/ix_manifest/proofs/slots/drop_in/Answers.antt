use Rattle.std.proofs.Common.{◌≡◌, ◌<◌, ◌+◌, List, length, get_or, take, drop, true, false, sym, subst, ap, ◌∙◌, arith, length-append}
use Rattle.std.proofs.Common.{length-drop}
use Rattle.std.specs.Prelude.{All, IfSome}
use Rattle.std.specs.List.{AllByRecursion}
use Rattle.std.proofs.lemmas.List.{length-take-le}
use Rattle.ix_items.specs.Spelling.{HasSpelling}
use Rattle.ix_manifest.specs.Book.{name_of, is_same, replay}
use Rattle.ix_manifest.specs.Repeats.{Tells}
use Rattle.ix_manifest.specs.Slots.{bytes_of, items_of, without, AreOnce}
use Rattle.ix_manifest.specs.declared.staged_item.StagedItem.{StagedItem}
use Rattle.ix_manifest.proofs.Once.{replay_left, once_left, once_next, proper_without, removed_is}
use Rattle.ix_manifest.proofs.RepeatLemmas.{maybe_without}
use Rattle.ix_manifest.proofs.slots.drop_in.Goals as goal

pub loop-k-preserved-then-at-k : goal.loop-k-preserved-then-at-k
loop-k-preserved-then-at-k c =
    let items = c.loop-k.slots.items in
    let at = c.earlier_by-at.result in
    let k = c.loop-k.k in
    let d = c.remove.result in
    let inv = c.loop-k.invariant in
    let within : k < length items = omega (arith, c.loop-k-test.true, c.len.ensures, c.loop-k.slots.ok) in
    let before : at < k = c.if-at-k.true in
    let same : is_same (name_of (get_or items at d).item) (name_of (get_or items k d).item) ≡ true =
    subst (λ (l : List StagedItem). is_same (name_of (get_or l at d).item) (name_of (get_or l k d).item) ≡ true) c.as_slice.ensures.value
    (c.earlier_by-at.ensures.found d before) in
    let left : c.remove.new.self.items ≡ without at items = c.remove.ensures.items ∙ removed_is items at in
    let size : length (bytes_of (without at items)) + c.size_at-size.result ≡ length (bytes_of items) =
    subst (λ (l : List StagedItem). length (bytes_of (without at l)) + c.size_at-size.result ≡ length (bytes_of l))
    c.as_slice-then-at-k.ensures.value c.size_at-size.ensures in
    let bytes : length (bytes_of c.remove.new.self.items) ≡ length (bytes_of (without at items)) =
    ap (λ (l : List StagedItem). length (bytes_of l)) left in
    let front : length (take at items) ≡ at = length-take-le at items (omega (arith, before, within)) in
    record {
      within = omega (
        arith,
        within,
        before,
        ap length left,
        length-append (take at items) (drop (at + 1) items),
        front,
        length-drop (at + 1) items,
      );
      tells = subst (λ (l : List StagedItem). IfSome c.args.repeats.now (λ seen. Tells seen l)) (sym left)
          (maybe_without c.args.repeats.now items at d (omega (arith, before, within)) inv.tells);
      size = omega (arith, bytes, size, inv.size);
      book = λ b. ap (λ (l : List StagedItem). replay (items_of l) b) left ∙ replay_left items at k d before within same b ∙ inv.book b;
      proper = λ p. subst (λ (l : List StagedItem). AllByRecursion HasSpelling (items_of l)) (sym left)
          (proper_without items at (inv.proper p));
      once = λ o. subst (λ (l : List StagedItem). AreOnce (items_of (take k l))) (sym left)
          (once_left items at k d before within same (inv.once o));
      least = omega (arith, bytes, size, inv.least);
    }

pub loop-k-preserved : goal.loop-k-preserved
loop-k-preserved c =
    let items = c.loop-k.slots.items in
    let k = c.loop-k.k in
    let inv = c.loop-k.invariant in
    let within : k < length items = omega (arith, c.loop-k-test.true, c.len.ensures, c.loop-k.slots.ok) in
    record {
      within = omega (arith, within);
      tells = inv.tells;
      size = inv.size;
      book = inv.book;
      proper = inv.proper;
      once = λ o. once_next items k within
          (λ d. subst (λ (l : List StagedItem). All (λ (s : StagedItem). is_same (name_of s.item) (name_of (get_or l k d).item) ≡ false)
          (take k l)) c.as_slice.ensures.value (c.earlier_by-at.ensures.none d
          (omega (arith, c.earlier_by-at.ensures.within, c.if-at-k.false))))
          (inv.once o);
      least = inv.least;
    }
