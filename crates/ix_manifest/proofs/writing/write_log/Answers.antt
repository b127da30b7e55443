use Rattle.std.proofs.Common.{◌≡◌, ℕ, List, [], ◌∷◌, ◌++◌, length, refl, ap, subst, sym, ◌∙◌, inl, arith, length-append}
use Rattle.ix_base.specs.declared.files.File.{File}
use Rattle.ix_base.specs.Told.{Told}
use Rattle.ix_disk.specs.Image.{Apart}
use Rattle.ix_disk.specs.Moments.{ImagesStep}
use Rattle.ix_disk.proofs.Others.{apart_on}
use Rattle.ix_items.specs.Spelling.{HasSpelling, item_bytes, body_bytes}
use Rattle.ix_items.specs.declared.items.Item.{Item}
use Rattle.ix_log.specs.Log.{IsAtEnd, IsPutting, WithOrWithout, file_of}
use Rattle.ix_manifest.specs.Whole.{removal}
use Rattle.ix_manifest.proofs.PutItems.{apart_of, apart_more, is_whole, body_end}
use Rattle.ix_manifest.proofs.writing.write_log.Goals as goal

pub put_items-requires-clause-short : goal.put_items-requires-clause-short
put_items-requires-clause-short g c =
    let told = body_bytes (g.W.Whole.left c.args.state.now) in
    omega (
      arith,
      c.requires,
      c.in_ok-log.ensures.counted,
      ap length (body_end (g.W.Whole.left c.args.state.now) (removal c.args.done)),
      length-append told (item_bytes (removal c.args.done)),
    )

pub put_item-requires-clause-proper : goal.put_item-requires-clause-proper
put_item-requires-clause-proper g c = subst (λ (item : Item). HasSpelling item) (sym c.in_ok-last.ensures.is) c.in_ok-last.ensures.proper

pub put_item-requires-clause-short : goal.put_item-requires-clause-short
put_item-requires-clause-short g c =
    let told = body_bytes (g.W.Whole.left c.args.state.now) in
    omega (
      arith,
      c.requires,
      c.in_ok-log.ensures.counted,
      c.in_ok-put_items.ensures.counted,
      ap (λ (item : Item). length (item_bytes item)) c.in_ok-last.ensures.is,
      ap length (body_end (g.W.Whole.left c.args.state.now) (removal c.args.done)),
      length-append told (item_bytes (removal c.args.done)),
    )

pub returns-clause-no_more : goal.returns-clause-no_more
returns-clause-no_more g c = c.in_ok-finish.ensures.no_more
    (c.in_ok-put_item.ensures.no_more (c.in_ok-put_items.ensures.no_more c.in_ok-log.ensures.alone))

pub returns-clause-file : goal.returns-clause-file
returns-clause-file g c = c.finish.ensures.file ∙ c.put_item.ensures.file ∙ c.put_items.ensures.file ∙ c.in_ok-log.ensures.file

pub returns-in_err-put_items-clause-images : goal.returns-in_err-put_items-clause-images
returns-in_err-put_items-clause-images g c =
    apart_more g.D.Disk c.args.disk.now c.begin.new.disk c.put_items.new.disk c.args.file c.begin.ensures.images
    (subst (λ (f : File). ImagesStep g.D.Disk c.begin.new.disk c.put_items.new.disk (Apart f)) c.in_ok-log.ensures.file
    c.put_items.ensures.images)

pub returns-in_err-last-clause-images : goal.returns-in_err-last-clause-images
returns-in_err-last-clause-images g c =
    let file = c.args.file in
    apart_more g.D.Disk c.args.disk.now c.begin.new.disk c.put_items.new.disk file c.begin.ensures.images
    (subst (λ (f : File). ImagesStep g.D.Disk c.begin.new.disk c.put_items.new.disk (Apart f)) c.in_ok-log.ensures.file
    c.put_items.ensures.images)

pub returns-in_err-put_item-clause-images : goal.returns-in_err-put_item-clause-images
returns-in_err-put_item-clause-images g c =
    let file = c.args.file in
    let begun = c.in_ok-log.ensures.file in
    apart_more g.D.Disk c.args.disk.now c.put_items.new.disk c.put_item.new.disk file
    (apart_more g.D.Disk c.args.disk.now c.begin.new.disk c.put_items.new.disk file c.begin.ensures.images
    (subst (λ (f : File). ImagesStep g.D.Disk c.begin.new.disk c.put_items.new.disk (Apart f)) begun c.put_items.ensures.images))
    (subst (λ (f : File). ImagesStep g.D.Disk c.put_items.new.disk c.put_item.new.disk (Apart f)) (c.put_items.ensures.file
    ∙ begun) c.put_item.ensures.images)

pub returns-in_err-finish-clause-images : goal.returns-in_err-finish-clause-images
returns-in_err-finish-clause-images g c =
    let file = c.args.file in
    let begun = c.in_ok-log.ensures.file in
    let told = body_bytes (g.W.Whole.left c.args.state.now) in
    let ready = c.in_ok-put_items.ensures.put [] (inl (c.in_ok-log.ensures.empty, refl)) in
    let putting = c.in_ok-put_item.ensures.put told ready in
    apart_more g.D.Disk c.args.disk.now c.put_item.new.disk c.finish.new.disk file
    (apart_more g.D.Disk c.args.disk.now c.put_items.new.disk c.put_item.new.disk file
    (apart_more g.D.Disk c.args.disk.now c.begin.new.disk c.put_items.new.disk file c.begin.ensures.images
    (subst (λ (f : File). ImagesStep g.D.Disk c.begin.new.disk c.put_items.new.disk (Apart f)) begun c.put_items.ensures.images))
    (subst (λ (f : File). ImagesStep g.D.Disk c.put_items.new.disk c.put_item.new.disk (Apart f)) (c.put_items.ensures.file
    ∙ begun) c.put_item.ensures.images))
    (subst (λ (f : File). ImagesStep g.D.Disk c.put_item.new.disk c.finish.new.disk (Apart f)) (c.put_item.ensures.file
    ∙ c.put_items.ensures.file ∙ begun)
    (apart_of g.D.Disk c.put_item.new.disk c.finish.new.disk (file_of c.put_item.new.log)
    (WithOrWithout [] (told ++ item_bytes c.in_ok-last.last))
    (c.finish.ensures.images [] (told ++ item_bytes c.in_ok-last.last) putting)))

pub returns-clause-images : goal.returns-clause-images
returns-clause-images g c =
    let file = c.args.file in
    let begun = c.in_ok-log.ensures.file in
    let told = body_bytes (g.W.Whole.left c.args.state.now) in
    let ready = c.in_ok-put_items.ensures.put [] (inl (c.in_ok-log.ensures.empty, refl)) in
    let putting = c.in_ok-put_item.ensures.put told ready in
    apart_more g.D.Disk c.args.disk.now c.put_item.new.disk c.finish.new.disk file
    (apart_more g.D.Disk c.args.disk.now c.put_items.new.disk c.put_item.new.disk file
    (apart_more g.D.Disk c.args.disk.now c.begin.new.disk c.put_items.new.disk file c.begin.ensures.images
    (subst (λ (f : File). ImagesStep g.D.Disk c.begin.new.disk c.put_items.new.disk (Apart f)) begun c.put_items.ensures.images))
    (subst (λ (f : File). ImagesStep g.D.Disk c.put_items.new.disk c.put_item.new.disk (Apart f)) (c.put_items.ensures.file
    ∙ begun) c.put_item.ensures.images))
    (subst (λ (f : File). ImagesStep g.D.Disk c.put_item.new.disk c.finish.new.disk (Apart f)) (c.put_item.ensures.file
    ∙ c.put_items.ensures.file ∙ begun)
    (apart_of g.D.Disk c.put_item.new.disk c.finish.new.disk (file_of c.put_item.new.log)
    (WithOrWithout [] (told ++ item_bytes c.in_ok-last.last))
    (c.finish.ensures.images [] (told ++ item_bytes c.in_ok-last.last) putting)))

pub returns-clause-written : goal.returns-clause-written
returns-clause-written g c =
    let items = g.W.Whole.left c.args.state.now in
    let told = body_bytes items in
    let ready = c.in_ok-put_items.ensures.put [] (inl (c.in_ok-log.ensures.empty, refl)) in
    let putting = c.in_ok-put_item.ensures.put told ready in
    let bytes = ap (λ (item : Item). told ++ item_bytes item) c.in_ok-last.ensures.is ∙ sym (body_end items (removal c.args.done)) in
    subst (λ (b : List ℕ). IsAtEnd g.D.Disk c.finish.new.self c.finish.new.disk (b ∷ [])) bytes
    (c.in_ok-finish.ensures.finished [] (told ++ item_bytes c.in_ok-last.last) putting)

pub returns-clause-body : goal.returns-clause-body
returns-clause-body g c = is_whole (g.W.Whole.left c.args.state.now) c.args.done c.in_ok-put_items.ensures.proper
    c.in_ok-last.ensures.proper

pub returns-in_err-put_items-clause-seen : goal.returns-in_err-put_items-clause-seen
returns-in_err-put_items-clause-seen g c =
    apart_on c.args.file _ _ _ c.begin.ensures.seen
    (subst (λ (f : File). Told (Apart f) (g.D.Disk.seen c.begin.new.disk) (g.D.Disk.seen c.put_items.new.disk)) c.in_ok-log.ensures.file
    c.put_items.ensures.seen)

pub returns-in_err-last-clause-seen : goal.returns-in_err-last-clause-seen
returns-in_err-last-clause-seen g c =
    apart_on c.args.file _ _ _ c.begin.ensures.seen
    (subst (λ (f : File). Told (Apart f) (g.D.Disk.seen c.begin.new.disk) (g.D.Disk.seen c.put_items.new.disk)) c.in_ok-log.ensures.file
    c.put_items.ensures.seen)

pub returns-in_err-put_item-clause-seen : goal.returns-in_err-put_item-clause-seen
returns-in_err-put_item-clause-seen g c =
    apart_on c.args.file _ _ _ (apart_on c.args.file _ _ _ c.begin.ensures.seen
    (subst (λ (f : File). Told (Apart f) (g.D.Disk.seen c.begin.new.disk) (g.D.Disk.seen c.put_items.new.disk)) c.in_ok-log.ensures.file
    c.put_items.ensures.seen))
    (subst (λ (f : File). Told (Apart f) (g.D.Disk.seen c.put_items.new.disk) (g.D.Disk.seen c.put_item.new.disk)) (c.put_items.ensures.file
    ∙ c.in_ok-log.ensures.file) c.put_item.ensures.seen)

pub returns-in_err-finish-clause-seen : goal.returns-in_err-finish-clause-seen
returns-in_err-finish-clause-seen g c =
    let begun = c.in_ok-log.ensures.file in
    apart_on c.args.file _ _ _ (apart_on c.args.file _ _ _ (apart_on c.args.file _ _ _ c.begin.ensures.seen
    (subst (λ (f : File). Told (Apart f) (g.D.Disk.seen c.begin.new.disk) (g.D.Disk.seen c.put_items.new.disk)) begun
    c.put_items.ensures.seen))
    (subst (λ (f : File). Told (Apart f) (g.D.Disk.seen c.put_items.new.disk) (g.D.Disk.seen c.put_item.new.disk)) (c.put_items.ensures.file
    ∙ begun) c.put_item.ensures.seen))
    (subst (λ (f : File). Told (Apart f) (g.D.Disk.seen c.put_item.new.disk) (g.D.Disk.seen c.finish.new.disk)) (c.put_item.ensures.file
    ∙ c.put_items.ensures.file ∙ begun) c.finish.ensures.seen)

pub returns-clause-seen : goal.returns-clause-seen
returns-clause-seen g c =
    let begun = c.in_ok-log.ensures.file in
    apart_on c.args.file _ _ _ (apart_on c.args.file _ _ _ (apart_on c.args.file _ _ _ c.begin.ensures.seen
    (subst (λ (f : File). Told (Apart f) (g.D.Disk.seen c.begin.new.disk) (g.D.Disk.seen c.put_items.new.disk)) begun
    c.put_items.ensures.seen))
    (subst (λ (f : File). Told (Apart f) (g.D.Disk.seen c.put_items.new.disk) (g.D.Disk.seen c.put_item.new.disk)) (c.put_items.ensures.file
    ∙ begun) c.put_item.ensures.seen))
    (subst (λ (f : File). Told (Apart f) (g.D.Disk.seen c.put_item.new.disk) (g.D.Disk.seen c.finish.new.disk)) (c.put_item.ensures.file
    ∙ c.put_items.ensures.file ∙ begun) c.finish.ensures.seen)
