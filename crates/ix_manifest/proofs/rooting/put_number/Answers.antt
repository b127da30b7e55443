use Rattle.std.proofs.Common.{◌≡◌, ◌+◌, ℕ, List, [], ◌∷◌, length, refl, subst, sym, ap, ◌∙◌, inl, arith}
use Rattle.std.specs.Int.{to_be_bytes, w64}
use Rattle.ix_base.specs.declared.files.File.{File}
use Rattle.ix_base.specs.Told.{Told}
use Rattle.ix_disk.specs.Image.{Apart}
use Rattle.ix_disk.specs.Moments.{ImagesStep, InFile}
use Rattle.std.proofs.lemmas.Bool.{true≢false}
use Rattle.ix_disk.proofs.Others.{apart_on}
use Rattle.ix_disk.proofs.Runs.{rose_later}
use Rattle.ix_log.specs.Log.{WithOrWithout, IsPutting, file_of}
use Rattle.ix_manifest.specs.Root.{roots}
use Rattle.ix_manifest.proofs.RootNumbers.{roots_end, numbers_none, numbers_more}
use Rattle.ix_manifest.proofs.rooting.put_number.Goals as goal

pub put-requires-clause-usable : goal.put-requires-clause-usable
put-requires-clause-usable g c = record { bodies = roots c.requires.0; body = []; ready = inl (c.requires.2, refl) }

pub put-requires-clause-short : goal.put-requires-clause-short
put-requires-clause-short g c = omega (arith, c.requires.2.none_put, ap length c.as_slice.ensures, ap length c.to_be_bytes-bytes.ensures)

pub returns-in_err-put-clause-images : goal.returns-in_err-put-clause-images
returns-in_err-put-clause-images g c = λ k is end.
    numbers_none g.D.Disk c.args.disk.now c.put.new.disk c.put.new.disk (file_of c.args.root.now) k
    (c.put.ensures.images (roots k) [] (inl (end, refl)))

pub returns-in_err-finish-clause-images : goal.returns-in_err-finish-clause-images
returns-in_err-finish-clause-images g c = λ k is end.
    let bytes : c.as_slice.result.now ≡ to_be_bytes w64 (k + 2) = c.as_slice.ensures ∙ c.to_be_bytes-bytes.ensures
    ∙ ap (λ (n : ℕ). to_be_bytes w64 n) is in
    let putting = subst (λ (b : List ℕ). IsPutting g.D.Disk c.put.new.self c.put.new.disk (roots k) b) bytes
    (c.in_ok-put.ensures.put (roots k) [] (inl (end, refl))) in
    numbers_more g.D.Disk c.args.disk.now c.put.new.disk c.finish.new.disk (file_of c.args.root.now) k
    (c.put.ensures.images (roots k) [] (inl (end, refl)))
    (subst (λ (f : File). ImagesStep g.D.Disk c.put.new.disk c.finish.new.disk
    (InFile f (WithOrWithout (roots k) (to_be_bytes w64 (k + 2))))) c.put.ensures.file
    (c.finish.ensures.images (roots k) (to_be_bytes w64 (k + 2)) putting))

pub returns-clause-images : goal.returns-clause-images
returns-clause-images g c = λ k is end.
    let bytes : c.as_slice.result.now ≡ to_be_bytes w64 (k + 2) = c.as_slice.ensures ∙ c.to_be_bytes-bytes.ensures
    ∙ ap (λ (n : ℕ). to_be_bytes w64 n) is in
    let putting = subst (λ (b : List ℕ). IsPutting g.D.Disk c.put.new.self c.put.new.disk (roots k) b) bytes
    (c.in_ok-put.ensures.put (roots k) [] (inl (end, refl))) in
    numbers_more g.D.Disk c.args.disk.now c.put.new.disk c.finish.new.disk (file_of c.args.root.now) k
    (c.put.ensures.images (roots k) [] (inl (end, refl)))
    (subst (λ (f : File). ImagesStep g.D.Disk c.put.new.disk c.finish.new.disk
    (InFile f (WithOrWithout (roots k) (to_be_bytes w64 (k + 2))))) c.put.ensures.file
    (c.finish.ensures.images (roots k) (to_be_bytes w64 (k + 2)) putting))

pub returns-clause-finished : goal.returns-clause-finished
returns-clause-finished g c = λ k is end.
    let bytes : c.as_slice.result.now ≡ to_be_bytes w64 (k + 2) = c.as_slice.ensures ∙ c.to_be_bytes-bytes.ensures
    ∙ ap (λ (n : ℕ). to_be_bytes w64 n) is in
    let putting = subst (λ (b : List ℕ). IsPutting g.D.Disk c.put.new.self c.put.new.disk (roots k) b) bytes
    (c.in_ok-put.ensures.put (roots k) [] (inl (end, refl))) in
    roots_end g.D.Disk c.finish.new.self c.finish.new.disk k (c.in_ok-finish.ensures.finished (roots k) (to_be_bytes w64 (k + 2)) putting)

pub returns-in_err-finish-clause-seen : goal.returns-in_err-finish-clause-seen
returns-in_err-finish-clause-seen g c =
    apart_on (file_of c.args.root.now) _ _ _ c.put.ensures.seen
    (subst (λ (f : File). Told (Apart f) (g.D.Disk.seen c.put.new.disk) (g.D.Disk.seen c.finish.new.disk)) c.put.ensures.file
    c.finish.ensures.seen)

pub returns-clause-seen : goal.returns-clause-seen
returns-clause-seen g c =
    apart_on (file_of c.args.root.now) _ _ _ c.put.ensures.seen
    (subst (λ (f : File). Told (Apart f) (g.D.Disk.seen c.put.new.disk) (g.D.Disk.seen c.finish.new.disk)) c.put.ensures.file
    c.finish.ensures.seen)

pub returns-in_err-finish-clause-cause : goal.returns-in_err-finish-clause-cause
returns-in_err-finish-clause-cause g c = record {
  later = omega (arith, c.put.ensures.cause.later, c.finish.ensures.cause.later);
  failed = λ e. rose_later _ _ _ c.put.ensures.cause.later (c.in_err-finish.ensures.cause.failed refl);
}

pub returns-clause-cause : goal.returns-clause-cause
returns-clause-cause g c = record {
  later = omega (arith, c.put.ensures.cause.later, c.finish.ensures.cause.later);
  failed = λ e. absurd (true≢false (sym e));
}

pub returns-in_err-finish-clause-file : goal.returns-in_err-finish-clause-file
returns-in_err-finish-clause-file g c = c.finish.ensures.file ∙ c.put.ensures.file

pub returns-clause-file : goal.returns-clause-file
returns-clause-file g c = c.finish.ensures.file ∙ c.put.ensures.file

pub finish-requires : goal.finish-requires
finish-requires g c = c.in_ok-put.ensures.begun
