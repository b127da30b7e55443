-- Bytes behind those of files, one piece behind the other.
use Rattle.std.proofs.Common.{◌≡◌, ℕ, true, false, List, [], ◌∷◌, ◌++◌, refl, sym, ap, ◌∙◌, append_assoc}
use Rattle.std.specs.Prelude.{Option, Some, ◌==◌}
use Rattle.std.proofs.lemmas.Bool.Decides.{Decides-eqb}
use Rattle.ix_base.specs.declared.files.File.{File}
use Rattle.ix_disk.specs.Files.{is_same, told_same}
use Rattle.ix_disk.specs.Image.{content}
use Rattle.ix_commit.specs.Contents.{Contents, filling}
use Rattle.ix_commit.specs.Drafts.{with_piece, with_pieces, IsFit, AreFit}
use Rattle.ix_commit.specs.Parts.{home}
use Rattle.ix_commit.specs.Snapshot.{Forgets, with_file}
use Rattle.ix_commit.specs.declared.write_batch.Append.{Append}
use Rattle.ix_model.proofs.Named.{by_test}
use Rattle.ix_catalog.specs.Dealing.{joined}

-- ---- bytes in one file

pub it_has : (file : File) (bytes : Option (List ℕ)) (c : Contents) → with_file file bytes c file ≡ bytes
it_has file bytes c = rw (told_same file file refl) refl

pub other_has : (file : File) (bytes : Option (List ℕ)) (c : Contents) (other : File) → is_same other file ≡ false →
    with_file file bytes c other ≡ c other
other_has file bytes c other t = rw t refl

-- two pieces of one file, one behind the other, are one piece
abbrev with_both : Append → Append → Append
with_both q p = record { number = q.number; at = q.at; bytes = q.bytes ++ p.bytes }

both_at : (q p : Append) (c : Contents) → q.number ≡ p.number → (file : File) →
    with_piece (with_both q p) c file ≡ with_piece p (with_piece q c) file
both_at q p c e file =
    by_test (is_same file (home q.number))
    (λ t. (let u : is_same file (home p.number) ≡ true = ap (λ (n : ℕ). is_same file (home n)) (sym e) ∙ t in
    let same : filling (with_piece q c) (home p.number) ≡ filling c (home q.number) ++ q.bytes =
    ap (λ (n : ℕ). filling (with_piece q c) (home n)) (sym e)
    ∙ ap content (it_has (home q.number) (Some (filling c (home q.number) ++ q.bytes)) c) in
    rw (t, u) (ap (λ (b : List ℕ). Some b) (sym (append_assoc (filling c (home q.number)) q.bytes p.bytes)
    ∙ ap (λ (b : List ℕ). b ++ p.bytes) (sym same)))))
    (λ t. (let u : is_same file (home p.number) ≡ false = ap (λ (n : ℕ). is_same file (home n)) (sym e) ∙ t in
    rw (t, u) refl))

both_are : (q p : Append) (c : Contents) → q.number ≡ p.number → with_piece (with_both q p) c ≡ with_piece p (with_piece q c)
both_are q p c e = λ i file. both_at q p c e file i

-- ---- one piece more

pub with_joined : (p : Append) (ps : List Append) (c : Contents) → with_pieces (joined p ps) c ≡ with_piece p (with_pieces ps c)
with_joined p [] c = refl
with_joined p (q ∷ []) c =
    by_test (q.number == p.number)
    (λ t. rw t (both_are q p c ((Decides-eqb q.number p.number).0 t)))
    (λ t. rw t refl)
with_joined p (q ∷ r ∷ qs) c = with_joined p (r ∷ qs) (with_piece q c)

pub fit_joined : (p : Append) (ps : List Append) (c : Contents) → AreFit c ps → IsFit (with_pieces ps c) p → AreFit c (joined p ps)
fit_joined p [] c h f = (f, tt)
fit_joined p (q ∷ []) c h f =
    by_test (q.number == p.number)
    (λ t. rw t (record { bytes = h.0.bytes; there = h.0.there; place = h.0.place }, tt))
    (λ t. rw t (h.0, (f, tt)))
fit_joined p (q ∷ r ∷ qs) c h f = (h.0, fit_joined p (r ∷ qs) (with_piece q c) h.1 f)

-- ---- contents that say less

pub fit_more : (p : Append) (more less : Contents) → Forgets more less → IsFit less p → IsFit more p
fit_more p more less h f = record { bytes = f.bytes; there = h (home p.number) f.bytes f.there; place = f.place }

pub forgets_piece : (p : Append) (more less : Contents) → Forgets more less → IsFit less p → Forgets (with_piece p more) (with_piece p less)
forgets_piece p more less h f = λ file bytes e.
    by_test (is_same file (home p.number))
    (λ t. (let one : filling more (home p.number) ≡ filling less (home p.number) =
    ap content (h (home p.number) f.bytes f.there) ∙ ap content (sym f.there) in
    rw t (ap (λ (b : List ℕ). Some (b ++ p.bytes)) one ∙ rw t at e)))
    (λ t. rw t (h file bytes (rw t at e)))

pub forgets_then : (a b c : Contents) → Forgets a b → Forgets b c → Forgets a c
forgets_then a b c h k = λ file bytes e. h file bytes (k file bytes e)
