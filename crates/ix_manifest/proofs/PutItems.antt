-- The items of a state are put one behind the other.
use Rattle.std.proofs.Common.{◌≡◌, ◌<◌, ◌≤◌, ℕ, ◌+◌, List, [], ◌∷◌, ◌++◌, length, Option, Some, None, refl, ap, subst, sym, ◌∙◌, inl, inr}
use Rattle.std.proofs.Common.{arith, append_assoc, append-nil, length-append}
use Rattle.std.specs.List.{AllByRecursion}
use Rattle.std.proofs.lemmas.List.Concat.{flat_map-append}
use Rattle.ix_base.specs.declared.files.File.{File}
use Rattle.ix_disk.specs.Image.{Image, Apart}
use Rattle.ix_disk.specs.Moments.{ImagesStep, InFile}
use Rattle.ix_disk.specs.declared.disk.Disk.{Ghosts}
use Rattle.ix_disk.proofs.Runs.{joined, nowhere}
use Rattle.ix_disk.specs.Image.{Stays}
use Rattle.ix_items.specs.Spelling.{HasSpelling, item_bytes, body_bytes, kind_byte, field_bytes}
use Rattle.ix_coding.specs.Spelling.{byte}
use Rattle.ix_items.specs.declared.items.Item.{Item}
use Rattle.ix_log.specs.Log.{HasBodies, IsReady, IsPutting}
use Rattle.ix_log.specs.declared.log.Log.{Log}
use Rattle.ix_manifest.specs.Book.{IsBody}
use Rattle.ix_manifest.specs.Whole.{HasPut, removal, whole, whole_body}

pub body_end : (told : List Item) (item : Item) → body_bytes (told ++ item ∷ []) ≡ body_bytes told ++ item_bytes item
body_end told item = flat_map-append item_bytes told (item ∷ []) ∙ ap (λ (l : List ℕ). body_bytes told ++ l) (append-nil (item_bytes item))

pub proper_end : (told : List Item) (item : Item) → AllByRecursion HasSpelling told → HasSpelling item →
    AllByRecursion HasSpelling (told ++ item ∷ [])
proper_end [] item all is = (is, tt)
proper_end (first ∷ told) item all is = (all.0, proper_end told item all.1 is)

pub item_some : (item : Item) → 0 < length (item_bytes item)
unfolding item_bytes byte
item_some item = omega (arith, length-append (byte (kind_byte item)) (field_bytes item))

-- they are a body
pub is_whole : (told : List Item) (done : File) → AllByRecursion HasSpelling told → HasSpelling (removal done) →
    IsBody (whole told done) (whole_body told done)
is_whole told done all is = record {
  are = record { proper = proper_end told (removal done) all is; spelled = refl };
  some = omega (
    arith,
    ap length (body_end told (removal done)),
    length-append (body_bytes told) (item_bytes (removal done)),
    item_some (removal done),
  );
}

-- nothing is left
pub put_none : {D : Type 0} (g : Ghosts D) (log : Log) (disk : D) (body : List ℕ) (old new : List Item) → IsReady g log disk [] body →
    old ≡ [] → new ≡ [] → HasPut g log disk body old new
put_none g log disk body old new ready none_old none_new = record {
  done = [];
  ready = subst (IsReady g log disk []) (sym (append-nil body)) ready;
  all = ap body_bytes none_new ∙ sym (ap body_bytes none_old);
}

-- an item was put
pub put_one : {D : Type 0} (g : Ghosts D) (log : Log) (disk : D) (body : List ℕ) (item : Item) (old new : List Item) →
    IsPutting g log disk [] (body ++ item_bytes item) → old ≡ item ∷ new → HasPut g log disk body old new
put_one g log disk body item old new putting is = record { done = item_bytes item; ready = inr putting; all = sym (ap body_bytes is) }

-- and more behind it
pub put_more : {D : Type 0} (g : Ghosts D) (log : Log) (disk : D) (body done : List ℕ) (first old new : List Item) → done
    ++ body_bytes old ≡ body_bytes first → HasPut g log disk (body ++ done) old new → HasPut g log disk body first new
put_more g log disk body done first old new all put = record {
  done = done ++ put.done;
  ready = subst (IsReady g log disk []) (append_assoc body done put.done) put.ready;
  all = append_assoc done put.done (body_bytes new) ∙ ap (λ (l : List ℕ). done ++ l) put.all ∙ all;
}

-- all were put
pub put_all : {D : Type 0} (g : Ghosts D) (log : Log) (disk : D) (body : List ℕ) (first new : List Item) →
    HasPut g log disk body first new → new ≡ [] → IsReady g log disk [] (body ++ body_bytes first)
put_all g log disk body first new put none =
    subst (λ (l : List ℕ). IsReady g log disk [] (body ++ l)) (sym (append-nil put.done)
    ∙ ap (λ (l : List ℕ). put.done ++ l) (sym (ap body_bytes none)) ∙ put.all) put.ready

module _ {D : Type 0} (g : Ghosts D) where
  pub apart_of : (old new : D) (file : File) (P : List ℕ → Type 0) → ImagesStep g old new (InFile file P) →
      ImagesStep g old new (Apart file)
  apart_of old new file P run = joined g old new new (InFile file P) Stays (Apart file) (λ a b step. step.others)
      (λ a b c step same other ne. ap (λ (i : Image). i other) same ∙ step.others other ne) run (nowhere g new)

  pub apart_more : (old mid new : D) (file : File) → ImagesStep g old mid (Apart file) → ImagesStep g mid new (Apart file) →
      ImagesStep g old new (Apart file)
  apart_more old mid new file first second = joined g old mid new (Apart file) (Apart file) (Apart file) (λ a b step. step)
      (λ a b c step more other ne. more other ne ∙ step other ne) first second

  pub apart_none : (disk : D) (file : File) → ImagesStep g disk disk (Apart file)
  apart_none disk file = record {
    later = omega arith;
    now = λ image left. (image, left, λ other ne. refl);
    since = λ t image le left. inl left;
    keeps = λ t image le left. left;
  }
