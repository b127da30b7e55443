-- What a draft makes of a snapshot.
use Rattle.std.specs.Prelude.{◌≡◌, ◌≢◌, ◌≤◌, ℕ, List, [], ◌∷◌, ◌++◌, length, take, Some}
use Rattle.ix_manifest.specs.Book.{replay}
use Rattle.ix_commit.specs.Contents.{Contents, filling}
use Rattle.ix_commit.specs.Copies.{target}
use Rattle.ix_commit.specs.Parts.{home}
use Rattle.ix_commit.specs.Snapshot.{Snapshot, Forgets, with_file}
use Rattle.ix_commit.specs.declared.file_copy.FileCopy.{FileCopy}
use Rattle.ix_commit.specs.declared.write_batch.WriteBatch.{WriteBatch}
use Rattle.ix_commit.specs.declared.write_batch.Append.{Append}

-- bytes behind those of a file
abbrev pub with_piece : Append → Contents → Contents
with_piece piece contents = with_file (home piece.number) (Some (filling contents (home piece.number) ++ piece.bytes)) contents

abbrev pub with_pieces : List Append → Contents → Contents
with_pieces [] contents = contents
with_pieces (piece ∷ pieces) contents = with_pieces pieces (with_piece piece contents)

-- A piece stands behind what its file has.
pub record IsFit (contents : Contents) (piece : Append) : Type 0 where
  pub bytes : List ℕ
  pub there : contents (home piece.number) ≡ Some bytes
  pub place : piece.at ≡ length bytes

abbrev pub AreFit : Contents → List Append → Type 0
AreFit contents [] = Unit {0}
AreFit contents (piece ∷ pieces) = IsFit contents piece × AreFit (with_piece piece contents) pieces

-- the first bytes of a file in another
abbrev pub with_copy : FileCopy → Contents → Contents
with_copy copied contents = with_file (target copied) (Some (take copied.len (filling contents copied.from))) contents

abbrev pub with_copies : List FileCopy → Contents → Contents
with_copies [] contents = contents
with_copies (copied ∷ copies) contents = with_copies copies (with_copy copied contents)

-- A copy goes to a file that had nothing committed, from another one that has enough.
pub record IsFitCopy (old contents : Contents) (copied : FileCopy) : Type 0 where
  pub other : copied.from ≢ target copied
  pub free : filling old (target copied) ≡ []
  pub bytes : List ℕ
  pub there : contents copied.from ≡ Some bytes
  pub enough : copied.len ≤ length bytes

abbrev pub AreFitCopies : Contents → Contents → List FileCopy → Type 0
AreFitCopies old contents [] = Unit {0}
AreFitCopies old contents (copied ∷ copies) = IsFitCopy old contents copied × AreFitCopies old (with_copy copied contents) copies

-- The draft leads from the one snapshot to the other, `old` being the one that is committed: its
-- items to the book, its bytes and copies to what the new contents say, or more. A file of which
-- they say less is done with.
pub record Leads (draft : WriteBatch) (old from to : Snapshot) : Type 0 where
  pub pieces : AreFit from.contents draft.pieces
  pub copies : AreFitCopies old.contents (with_pieces draft.pieces from.contents) draft.copies
  pub items : to.book ≡ replay draft.items from.book
  pub contents : Forgets (with_copies draft.copies (with_pieces draft.pieces from.contents)) to.contents
