-- What a draft adds to what is staged.
use Rattle.std.proofs.Common.{◌≡◌, ◌≢◌, ℕ, zero, suc, ◌+◌, ◌<◌, ◌≤◌, List, [], ◌∷◌, ◌++◌, length, take, get_or, set, Bool, true, false}
use Rattle.std.proofs.Common.{Option, Some, if◌then◌else◌, refl, ap, subst, sym, ◌∙◌, ⊎_elim, arith, length-append}
use native.Mathlib.Numerals.{unary_clauses}
use Rattle.std.specs.Prelude.{All}
use Rattle.std.specs.List.{AllByRecursion}
use Rattle.std.proofs.lemmas.List.{map-append, take-append-le}
use Rattle.std.proofs.lemmas.List.Concat.{flat_map-append}
use Rattle.std.specs.Vec.Iter.{into_iter_items, into_iter_steps}
use Rattle.std.specs.declared.vec.IntoIter.{IntoIter}
use Rattle.std.specs.Iterator.{Yields}
use Rattle.ix_base.specs.declared.files.File.{File}
use Rattle.ix_items.specs.declared.items.Item.{Item}
use Rattle.ix_items.specs.Spelling.{HasSpelling, item_bytes, body_bytes}
use Rattle.ix_disk.specs.Image.{content}
use Rattle.ix_disk.specs.Files.{is_same, is_it, told_same, told_other}
use Rattle.ix_manifest.specs.Book.{NamedItems, after_item, replay}
use Rattle.ix_manifest.specs.Slots.{in_slot, items_of}
use Rattle.ix_manifest.specs.declared.staged_item.StagedItem.{StagedItem}
use Rattle.ix_manifest.proofs.Applying.{replay_behind}
use Rattle.ix_commit.specs.Contents.{Contents, Filling, filling, more_in}
use Rattle.ix_commit.specs.Copies.{IsCopy, AreCopies, target, after_copy, after_copies}
use Rattle.ix_commit.specs.Parts.{AreParts, file_in, home, more_staged}
use Rattle.ix_commit.specs.Snapshot.{Snapshot, Stages, Forgets, with_file, with_item}
use Rattle.ix_commit.specs.Drafts.{IsFit, AreFit, IsFitCopy, AreFitCopies, with_piece, with_pieces, with_copy, with_copies}
use Rattle.ix_commit.specs.Undo.{IsSame}
use Rattle.ix_commit.specs.declared.file_copy.FileCopy.{FileCopy}
use Rattle.ix_commit.specs.declared.committer.Committer.{Committer}
use Rattle.ix_commit.specs.declared.staged_append.StagedAppend.{StagedAppend}
use Rattle.ix_commit.specs.declared.write_batch.Append.{Append}
use Rattle.ix_commit.proofs.FreeFiles.{put_here, put_elsewhere, home_untouched, home_apart, copies_push, are_push}
use Rattle.ix_commit.proofs.MoreBytes.{here, elsewhere, parts_set, parts_push}

chosen : {T : Type 0} (test told : Bool) (x y : T) → test ≡ told → (if test then x else y) ≡ (if told then x else y)
chosen test told x y is = ap (λ (t : Bool). if t then x else y) is

file_here : (file : File) (bytes : Option (List ℕ)) (contents : Contents) → with_file file bytes contents file ≡ bytes
file_here file bytes contents = chosen (is_same file file) true bytes (contents file) (told_same file file refl)

file_elsewhere : (file : File) (bytes : Option (List ℕ)) (contents : Contents) (other : File) → other ≢ file →
    with_file file bytes contents other ≡ contents other
file_elsewhere file bytes contents other ne = chosen (is_same other file) false bytes (contents other) (told_other other file ne)

same_some : (a b : List ℕ) → Some a ≡ Some b → a ≡ b
same_some a b is = ap content is

-- ---- more bytes in a file, under copies

-- the second has more bytes in the file, and the same elsewhere
record IsMore (file : File) (bytes : List ℕ) (a b : Filling) : Type 0 where
  here_more : b file ≡ a file ++ bytes
  same : (f : File) → f ≢ file → b f ≡ a f

take_more_bytes : (n : ℕ) (a b : List ℕ) → n ≤ length a → take n (a ++ b) ≡ take n a
take_more_bytes n a b le = take-append-le n a b le

-- what is copied is the same
source_same : (file : File) (bytes : List ℕ) (a b : Filling) (x : FileCopy) → IsMore file bytes a b → x.len ≤ length (a x.from) →
    take x.len (b x.from) ≡ take x.len (a x.from)
source_same file bytes a b x more le = ⊎_elim
    (λ (same : x.from ≡ file).
    let is : b x.from ≡ a x.from ++ bytes = ap b same ∙ more.here_more ∙ ap (λ (f : File). a f ++ bytes) (sym same) in
    ap (take x.len) is ∙ take_more_bytes x.len (a x.from) bytes le)
    (λ (ne : x.from ≢ file). ap (take x.len) (more.same x.from ne))
    (is_it x.from file)

more_copied : (file : File) (bytes : List ℕ) (a b : Filling) (x : FileCopy) → IsMore file bytes a b → x.len ≤ length (a x.from) →
    file ≢ (target x) → IsMore file bytes (after_copy x a) (after_copy x b)
more_copied file bytes a b x more le apart = record {
  here_more = put_elsewhere (target x) (take x.len (b x.from)) b file apart ∙ more.here_more
      ∙ ap (λ (l : List ℕ). l ++ bytes) (sym (put_elsewhere (target x) (take x.len (a x.from)) a file apart));
  same = λ f ne. ⊎_elim
      (λ (same : f ≡ (target x)). subst (λ (t : File). after_copy x b t ≡ after_copy x a t) (sym same)
      (put_here (target x) (take x.len (b x.from)) b ∙ source_same file bytes a b x more le
      ∙ sym (put_here (target x) (take x.len (a x.from)) a)))
      (λ (other : f ≢ (target x)). put_elsewhere (target x) (take x.len (b x.from)) b f other ∙ more.same f ne
      ∙ sym (put_elsewhere (target x) (take x.len (a x.from)) a f other))
      (is_it f (target x));
}

longer : (file : File) (bytes : List ℕ) (a b : Filling) → IsMore file bytes a b → (f : File) → length (a f) ≤ length (b f)
longer file bytes a b more f = ⊎_elim
    (λ (same : f ≡ file).
    let is : b f ≡ a f ++ bytes = ap b same ∙ more.here_more ∙ ap (λ (t : File). a t ++ bytes) (sym same) in
    omega (arith, ap length is, length-append (a f) bytes))
    (λ (ne : f ≢ file). omega (arith, ap length (more.same f ne)))
    (is_it f file)

copies_still : (old : Filling) (n : ℕ) (bytes : List ℕ) (xs : List FileCopy) (a b : Filling) → IsMore (home n) bytes a b →
    AreCopies old a xs → AreCopies old b xs
copies_still old n bytes [] a b more are = tt
copies_still old n bytes (x ∷ xs) a b more are =
    let is = are.0 in
    let le = longer (home n) bytes a b more x.from in (
      record { other = is.other; free = is.free; enough = omega (arith, is.enough, le) },
      copies_still old n bytes xs (after_copy x a) (after_copy x b) (more_copied (home n) bytes a b x more is.enough (home_apart n x))
          are.1,
    )

more_after : (old : Filling) (n : ℕ) (bytes : List ℕ) (xs : List FileCopy) (a b : Filling) → IsMore (home n) bytes a b →
    AreCopies old a xs → IsMore (home n) bytes (after_copies xs a) (after_copies xs b)
more_after old n bytes [] a b more are = more
more_after old n bytes (x ∷ xs) a b more are =
    more_after old n bytes xs (after_copy x a) (after_copy x b) (more_copied (home n) bytes a b x more are.0.enough (home_apart n x)) are.1

-- ---- a piece is staged

module _ (committer after : Committer) (old new : Snapshot) (piece : Append) (fit : IsFit new.contents piece)
    (stages : Stages committer old new)
  where
    more_here : IsMore (home piece.number) piece.bytes stages.grown (more_in (home piece.number) piece.bytes stages.grown)
    more_here = record {
      here_more = here (filling old.contents) stages.grown (home piece.number) piece.bytes;
      same = elsewhere (filling old.contents) stages.grown (home piece.number) piece.bytes;
    }

    -- how many bytes the file has
    pub piece_place : piece.at ≡ length (stages.grown (home piece.number))
    piece_place =
        let is = stages.live (home piece.number) fit.bytes fit.there in
        fit.place ∙ ap length (sym is ∙ home_untouched (filling old.contents) stages.grown committer.copies piece.number stages.copies)

    pub stages_piece : AreParts (filling old.contents) (more_in (home piece.number) piece.bytes stages.grown) after.parts →
        after.copies ≡ committer.copies → after.slots ≡ committer.slots
        → Stages after old (record { book = new.book; contents = with_piece piece new.contents })
    stages_piece parts copies slots = record {
      grown = grown_more;
      parts = parts;
      copies = subst (AreCopies (filling old.contents) grown_more) (sym copies)
          (copies_still (filling old.contents) piece.number piece.bytes committer.copies stages.grown grown_more more_here stages.copies);
      live = λ file bytes is. subst (λ (xs : List FileCopy). after_copies xs grown_more file ≡ bytes) (sym copies)
          (⊎_elim (there file bytes is) (other file bytes is) (is_it file (home piece.number)));
      items = stages.items ∙ ap (λ (l : List StagedItem). replay (items_of l) old.book) (sym slots);
      proper = subst (λ (l : List StagedItem). AllByRecursion HasSpelling (items_of l)) (sym slots) stages.proper;
    }
      where
        grown_more : Filling
        grown_more = more_in (home piece.number) piece.bytes stages.grown

        more : IsMore (home piece.number) piece.bytes (after_copies committer.copies stages.grown)
            (after_copies committer.copies grown_more)
        more = more_after (filling old.contents) piece.number piece.bytes committer.copies stages.grown grown_more more_here stages.copies

        there : (file : File) (bytes : List ℕ) → with_piece piece new.contents file ≡ Some bytes → file ≡ (home piece.number) →
            after_copies committer.copies grown_more file ≡ bytes
        there file bytes is same =
            let now : Some (filling new.contents (home piece.number) ++ piece.bytes) ≡ Some bytes =
            sym (file_here (home piece.number) _ new.contents) ∙ sym (ap (with_piece piece new.contents) same) ∙ is in
            ap (after_copies committer.copies grown_more) same ∙ more.here_more
            ∙ ap (λ (l : List ℕ). l ++ piece.bytes) (stages.live (home piece.number) fit.bytes fit.there ∙ sym (ap content fit.there))
            ∙ same_some _ bytes now

        other : (file : File) (bytes : List ℕ) → with_piece piece new.contents file ≡ Some bytes → file ≢ (home piece.number) →
            after_copies committer.copies grown_more file ≡ bytes
        other file bytes is ne = more.same file ne ∙ stages.live file bytes (sym (file_elsewhere (home piece.number) _ new.contents file ne)
            ∙ is)

    pub stages_set : (k : ℕ) → after.copies ≡ committer.copies → after.slots ≡ committer.slots →
        ((d : StagedAppend) → after.parts ≡ set committer.parts k (more_staged (get_or committer.parts k d) piece.bytes))
        → k < length committer.parts → ((d : StagedAppend) → file_in (get_or committer.parts k d) ≡ (home piece.number)) →
        Stages after old (record { book = new.book; contents = with_piece piece new.contents })
    stages_set k copies slots parts within same =
        let d = some_part committer.parts within in
        stages_piece (subst (AreParts (filling old.contents) (more_in (home piece.number) piece.bytes stages.grown)) (sym (parts d))
        (parts_set (filling old.contents) stages.grown (home piece.number) piece.bytes committer.parts k d within (same d) stages.parts))
        copies slots
      where
        some_part : (l : List StagedAppend) → k < length l → StagedAppend
        some_part [] within = absurd (omega (arith, within))
        some_part (p ∷ l) within = p

    pub stages_push : (part : StagedAppend) → after.copies ≡ committer.copies → after.slots ≡ committer.slots →
        after.parts ≡ committer.parts ++ part
        ∷ [] → All (λ (p : StagedAppend). file_in p ≢ (home piece.number)) committer.parts
        → file_in part ≡ (home piece.number) → part.committed ≡ piece.at → part.staged ≡ piece.bytes →
        Stages after old (record { book = new.book; contents = with_piece piece new.contents })
    stages_push part copies slots parts none is at staged =
        stages_piece (subst (AreParts (filling old.contents) (more_in (home piece.number) piece.bytes stages.grown)) (sym parts)
        (parts_push (filling old.contents) stages.grown (home piece.number) piece.bytes committer.parts part none is (at
        ∙ piece_place) staged stages.parts)) copies slots

-- ---- a copy is staged

pub stages_copy : (committer after : Committer) (old new : Snapshot) (x : FileCopy) → IsFitCopy old.contents new.contents x →
    after.parts ≡ committer.parts → after.copies ≡ committer.copies ++ x ∷ [] → after.slots ≡ committer.slots
    → Stages committer old new → Stages after old (record { book = new.book; contents = with_copy x new.contents })
stages_copy committer after old new x fit parts copies slots stages = record {
  grown = stages.grown;
  parts = subst (AreParts (filling old.contents) stages.grown) (sym parts) stages.parts;
  copies = subst (AreCopies (filling old.contents) stages.grown) (sym copies)
      (are_push (filling old.contents) stages.grown committer.copies x stages.copies is);
  live = λ file bytes there. subst (λ (xs : List FileCopy). after_copies xs stages.grown file ≡ bytes) (sym copies)
      (ap (λ (f : Filling). f file) (copies_push committer.copies x stages.grown)
      ∙ ⊎_elim (at_target file bytes there) (other file bytes there) (is_it file (target x)));
  items = stages.items ∙ ap (λ (l : List StagedItem). replay (items_of l) old.book) (sym slots);
  proper = subst (λ (l : List StagedItem). AllByRecursion HasSpelling (items_of l)) (sym slots) stages.proper;
}
  where
    now : Filling
    now = after_copies committer.copies stages.grown

    source : now x.from ≡ fit.bytes
    source = stages.live x.from fit.bytes fit.there

    is : IsCopy (filling old.contents) now x
    is = record { other = fit.other; free = fit.free; enough = omega (arith, fit.enough, ap length source) }

    at_target : (file : File) (bytes : List ℕ) → with_copy x new.contents file ≡ Some bytes → file ≡ (target x) →
        after_copy x now file ≡ bytes
    at_target file bytes there same =
        let said : Some (take x.len (filling new.contents x.from)) ≡ Some bytes = sym (file_here (target x) _ new.contents)
        ∙ sym (ap (with_copy x new.contents) same) ∙ there in
        ap (after_copy x now) same ∙ put_here (target x) (take x.len (now x.from)) now
        ∙ ap (take x.len) (source ∙ sym (ap content fit.there)) ∙ same_some _ bytes said

    other : (file : File) (bytes : List ℕ) → with_copy x new.contents file ≡ Some bytes → file ≢ (target x) → after_copy x now file ≡ bytes
    other file bytes there ne = put_elsewhere (target x) (take x.len (now x.from)) now file ne
        ∙ stages.live file bytes (sym (file_elsewhere (target x) _ new.contents file ne) ∙ there)

-- ---- an item is staged

proper_push : (slots : List StagedItem) (slot : StagedItem) → AllByRecursion HasSpelling (items_of slots) → HasSpelling slot.item →
    AllByRecursion HasSpelling (items_of (slots ++ slot ∷ []))
proper_push [] slot proper is = (is, tt)
proper_push (s ∷ slots) slot proper is = (proper.0, proper_push slots slot proper.1 is)

pub stages_item : (committer after : Committer) (old new : Snapshot) (slot : StagedItem) → after.parts ≡ committer.parts →
    after.copies ≡ committer.copies → after.slots ≡ committer.slots ++ slot ∷ [] → HasSpelling slot.item
    → Stages committer old new → Stages after old (with_item slot.item new)
stages_item committer after old new slot parts copies slots proper stages = record {
  grown = stages.grown;
  parts = subst (AreParts (filling old.contents) stages.grown) (sym parts) stages.parts;
  copies = subst (AreCopies (filling old.contents) stages.grown) (sym copies) stages.copies;
  live = λ file bytes is. ap (λ (xs : List FileCopy). after_copies xs stages.grown file) copies ∙ stages.live file bytes is;
  items = ap (after_item slot.item) stages.items ∙ sym (replay_behind (items_of committer.slots) (slot.item ∷ []) old.book)
      ∙ ap (λ (l : List Item). replay l old.book) (sym (map-append in_slot committer.slots (slot ∷ [])))
      ∙ ap (λ (l : List StagedItem). replay (items_of l) old.book) (sym slots);
  proper = subst (λ (l : List StagedItem). AllByRecursion HasSpelling (items_of l)) (sym slots)
      (proper_push committer.slots slot stages.proper proper);
}

-- the same with other slots that lead to the same books
pub stages_slots : (committer after : Committer) (old new : Snapshot) → after.parts ≡ committer.parts → after.copies ≡ committer.copies →
    ((book : NamedItems) → replay (items_of after.slots) book ≡ replay (items_of committer.slots) book)
    → (AllByRecursion HasSpelling (items_of committer.slots) → AllByRecursion HasSpelling (items_of after.slots)) →
    Stages committer old new →
    Stages after old new
stages_slots committer after old new parts copies slots proper stages = record {
  grown = stages.grown;
  parts = subst (AreParts (filling old.contents) stages.grown) (sym parts) stages.parts;
  copies = subst (AreCopies (filling old.contents) stages.grown) (sym copies) stages.copies;
  live = λ file bytes is. ap (λ (xs : List FileCopy). after_copies xs stages.grown file) copies ∙ stages.live file bytes is;
  items = stages.items ∙ sym (slots old.book);
  proper = proper stages.proper;
}

pub stages_same : (a b : Committer) (old new : Snapshot) → IsSame a b → Stages a old new → Stages b old new
stages_same a b old new same stages = stages_slots a b old new same.parts same.copies
    (λ book. ap (λ (l : List StagedItem). replay (items_of l) book) same.slots)
    (λ proper. subst (λ (l : List StagedItem). AllByRecursion HasSpelling (items_of l)) (sym same.slots) proper) stages

-- a snapshot that says less of the files
pub stages_less : (committer : Committer) (old new to : Snapshot) → Stages committer old new → to.book ≡ new.book →
    Forgets new.contents to.contents → Stages committer old to
stages_less committer old new to stages book less = record {
  grown = stages.grown;
  parts = stages.parts;
  copies = stages.copies;
  live = λ file bytes is. stages.live file bytes (less file bytes is);
  items = book ∙ stages.items;
  proper = stages.proper;
}

-- ---- one behind the other

pieces_suc : (ps : List Append) (k : ℕ) (d : Append) (s : Contents) → k < length ps →
    with_pieces (take (suc k) ps) s ≡ with_piece (get_or ps k d) (with_pieces (take k ps) s)
pieces_suc [] k d s l = absurd (omega (arith, l))
pieces_suc (p ∷ ps) zero d s l = refl
pieces_suc (p ∷ ps) (suc k) d s l = pieces_suc ps k d (with_piece p s) (omega (arith, l))

pub pieces_more : (ps : List Append) (k : ℕ) (d : Append) (s : Contents) → k < length ps →
    with_pieces (take (k + 1) ps) s ≡ with_piece (get_or ps k d) (with_pieces (take k ps) s)
pieces_more ps k d s l = simp unary_clauses (pieces_suc ps k d s l)

pub fit_at : (contents : Contents) (ps : List Append) (k : ℕ) (d : Append) → k < length ps → AreFit contents ps →
    IsFit (with_pieces (take k ps) contents) (get_or ps k d)
fit_at contents [] k d l fit = absurd (omega (arith, l))
fit_at contents (p ∷ ps) zero d l fit = fit.0
fit_at contents (p ∷ ps) (suc k) d l fit = fit_at (with_piece p contents) ps k d (omega (arith, l)) fit.1

copies_suc : (xs : List FileCopy) (k : ℕ) (d : FileCopy) (s : Contents) → k < length xs →
    with_copies (take (suc k) xs) s ≡ with_copy (get_or xs k d) (with_copies (take k xs) s)
copies_suc [] k d s l = absurd (omega (arith, l))
copies_suc (x ∷ xs) zero d s l = refl
copies_suc (x ∷ xs) (suc k) d s l = copies_suc xs k d (with_copy x s) (omega (arith, l))

pub with_copies_more : (xs : List FileCopy) (k : ℕ) (d : FileCopy) (s : Contents) → k < length xs →
    with_copies (take (k + 1) xs) s ≡ with_copy (get_or xs k d) (with_copies (take k xs) s)
with_copies_more xs k d s l = simp unary_clauses (copies_suc xs k d s l)

pub fit_copy_at : (old contents : Contents) (xs : List FileCopy) (k : ℕ) (d : FileCopy) → k < length xs → AreFitCopies old contents xs →
    IsFitCopy old (with_copies (take k xs) contents) (get_or xs k d)
fit_copy_at old contents [] k d l fit = absurd (omega (arith, l))
fit_copy_at old contents (x ∷ xs) zero d l fit = fit.0
fit_copy_at old contents (x ∷ xs) (suc k) d l fit = fit_copy_at old (with_copy x contents) xs k d (omega (arith, l)) fit.1

pub no_items : (xs : List Item) → length xs ≡ 0 → xs ≡ []
no_items [] e = refl
no_items (x ∷ xs) e = absurd (omega (arith, e))

pub all_at : (P : Item → Type 0) (xs : List Item) (x : Item) (ys : List Item) → AllByRecursion P (xs ++ x ∷ ys) → P x
all_at P [] x ys all = all.0
all_at P (y ∷ xs) x ys all = all_at P xs x ys all.1

pub more_than : (all xs : List Item) (item : Item) (rest : List Item) → all ≡ xs ++ item ∷ rest →
    length (body_bytes xs) + length (item_bytes item) ≤ length (body_bytes all)
more_than all xs item rest is =
    omega (
      arith,
      ap length (ap body_bytes is ∙ flat_map-append item_bytes xs (item ∷ rest)),
      length-append (body_bytes xs) (item_bytes item ++ body_bytes rest),
      length-append (item_bytes item) (body_bytes rest),
    )

-- what the iterator of a vector has given is a front of its items
pub taken_front : {X A : Type 0} (s : IntoIter X A) (xs : List X) (t : IntoIter X A) → Yields into_iter_steps s xs t →
    into_iter_items s ≡ xs ++ into_iter_items t
taken_front s [] t y = ap into_iter_items y
taken_front s (x ∷ xs) t y = y.1.0 ∙ ap (λ ys. x ∷ ys) (taken_front y.0 xs t y.2)
