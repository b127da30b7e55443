use Rattle.std.proofs.Common.{rules, ◌≡◌, ◌⊎◌, ℕ, List, [], ◌∷◌, ◌++◌, length, Err, Bool, true, false, arith, inl, inr, subst, sym, ◌∙◌}
use Rattle.std.proofs.lemmas.Result.{err_from_is_err_and}
use Rattle.ix_base.specs.declared.files.File.{File}
use Rattle.ix_disk.specs.Image.{bytes_in}
use Rattle.ix_disk.proofs.Runs.{stays_on}
use Rattle.std.specs.List.{list_any}
use Rattle.ix_items.specs.declared.items.Item.{Item}
use Rattle.ix_items.specs.declared.items.ItemFault.TheVariants as items
use Rattle.ix_log.specs.Log.{HasBodies, IsCut, file_of, blocks}
use Rattle.ix_log.specs.declared.log.LogFault.TheVariants as logs
use Rattle.ix_log.proofs.OneList.{one_list_of}
use Rattle.ix_manifest.specs.Book.{AreItems, IsBody, Replays, empty}
use Rattle.ix_manifest.specs.Plain.{AnyBook}
use Rattle.ix_manifest.specs.Replaying.{as_replay}
use Rattle.ix_manifest.specs.declared.manifest_state.ReplayFault.TheVariants as faults
use Rattle.ix_manifest.proofs.Blocks.{cut_none, next_stands}
use Rattle.ix_manifest.proofs.Bodies.{end_bodies}
use Rattle.ix_manifest.proofs.Replays.{on_true, on_false, log_damaged, short_front, short_last}
use Rattle.ix_store.specs.Finding.{name_in, is_under, IsFound}
use Rattle.ix_store.proofs.Said.{behind, found_more}
use Rattle.ix_store.proofs.finding.find_last.Goals.{then-said, else-said}
use Rattle.ix_store.proofs.finding.find_last.Goals as goal

pub returns-in_err-next-clause-damaged : goal.returns-in_err-next-clause-damaged
returns-in_err-next-clause-damaged g c = λ at is image told bodies book has replays.
    let p = err_from_is_err_and c.from_residual.result c.from_residual.ensures.1 in
    let p1 = p.1 in
    let p2 = p.2 in
    let fault : as_replay c.in_err-next.field-0.0 ≡ faults.Damaged at = cc in
    let named = log_damaged c.in_err-next.field-0.0 at fault in
    let w : c.next.result ≡ Err c.in_err-next.field-0.0 = c.in_err-next.was in
    let was : c.next.result ≡ Err (logs.Damaged at) = cc in
    let inv = c.loop.invariant in
    let read = inv.reading.0 in
    let cut = c.next.ensures.damaged read inv.reading.1 at was image (inv.same ∙ told) in
    cut_none read bodies (bytes_in image (file_of c.args.log.now)) (inv.reading.1.reads image (inv.same ∙ told)).fit
    (subst (λ (f : File). IsCut read (bytes_in image f)) inv.file cut.1) has

pub returns-then-not-branch-clause-found : goal.returns-then-not-branch-clause-found
returns-then-not-branch-clause-found g c = λ image told bodies has.
    let inv = c.loop.invariant in
    let read = inv.reading.0 in
    let none = c.if-not-branch.true in
    let end = on_false c.in_ok-next.field-0 _ _ (search rules) (c.in_ok-next.ensures.next read inv.reading.1) in
    let left = g.met.D.Disk.seen_may_stay c.next.new.disk image (c.next.ensures.same ∙ inv.same ∙ told) in
    let here = end_bodies _ read (bytes_in image (file_of c.next.new.self)) (end.0.images image left) in
    let there = subst (λ (f : File). HasBodies read (bytes_in image f)) (c.next.ensures.file ∙ inv.file) here in
    subst (IsFound (name_in c.args.subject.now) c.loop.found) (one_list_of read bodies (bytes_in image (file_of c.args.log.now)) there has)
    inv.reading.2

pub returns-in-Err-BadItem-clause-damaged : goal.returns-in-Err-BadItem-clause-damaged
returns-in-Err-BadItem-clause-damaged g c = λ at is image told bodies book has replays.
    let inv = c.loop.invariant in
    let read = inv.reading.0 in
    let out = c.next.new.out in
    let more : c.in_ok-next.field-0 ≡ true = search rules in
    let reading = on_true c.in_ok-next.field-0 _ _ more (c.in_ok-next.ensures.next read inv.reading.1) in
    let on = reading.reads image (c.next.ensures.same ∙ inv.same ∙ told) in
    let file = c.next.ensures.file ∙ inv.file in
    let next = next_stands read bodies out on.rest (bytes_in image (file_of c.next.new.self)) on.spelled (short_front read out on.fit)
    (short_last read out on.fit)
    (subst (λ (f : File). HasBodies bodies (bytes_in image f)) (sym file) has) in
    let here = behind read (out ∷ next.0) empty book (subst (λ (l : List (List ℕ)). Replays AnyBook l empty book) next.1 replays) in
    let w1 = c.in-Err-BadItem.is in
    let w2 = c.in-Err-BadItem.field-0-is in
    let was : c.says.result ≡ Err items.BadItem = cc in
    c.says.ensures.bad was here.1.0 (subst (λ (b : List ℕ). AreItems here.1.0 b) (sym c.as_slice.ensures) here.1.1.are)

pub loop-preserved : goal.loop-preserved
loop-preserved g c =
    let inv = c.loop.invariant in
    let read = inv.reading.0 in
    let out = c.next.new.out in
    let name = name_in c.args.subject.now in
    let more : c.in_ok-next.field-0 ≡ true = search rules in
    let reading = on_true c.in_ok-next.field-0 _ _ more (c.in_ok-next.ensures.next read inv.reading.1) in
    let said : (own : List Item) → IsBody own out → c.in-Ok.said ≡ list_any (is_under name) own =
    λ own is. c.in-Ok.ensures.said own (subst (AreItems own) (sym c.as_slice.ensures) is.are) in
    let place : c.place-at.result ≡ length (blocks read) = c.place-at.ensures ∙ inv.reading.1.place in
    let how : ((c.in-Ok.said ≡ true) × (c.if-said.found ≡ c.place-at.result))
    ⊎ ((c.in-Ok.said ≡ false) × (c.if-said.found ≡ c.loop.found)) =
    elim c.if-said.branch [ then-said w ↦ inl (w.if-said.true, w.found-is) | else-said w ↦ inr (w.if-said.false, w.found-is) ]
    in
    record {
      reading = (
        read ++ out ∷ [],
        reading,
        found_more name c.loop.found c.if-said.found c.place-at.result read out c.in-Ok.said place said
            inv.reading.2 how,
      );
      mounted = search rules;
      file = c.next.ensures.file ∙ inv.file;
      same = c.next.ensures.same ∙ inv.same;
      images = stays_on g.D.Disk c.args.disk.now c.loop.disk c.next.new.disk inv.images c.next.ensures.images;
      later = omega (arith, inv.later, c.next.ensures.later);
    }
