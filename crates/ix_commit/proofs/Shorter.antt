-- What a checkpoint makes of the images.
use Rattle.std.proofs.Common.{◌≡◌, ◌≢◌, ℕ, suc, ◌+◌, ◌-◌, ◌^◌, ◌<◌, ◌≤◌, List, [], ◌∷◌, ◌++◌, length, Bool, true, false, Option, Some}
use Rattle.std.proofs.Common.{None, if◌then◌else◌, refl, ap, subst, sym, ◌∙◌, ⊎_elim, inl, inr, arith, length-append}
use Rattle.std.specs.Prelude.{All}
use Rattle.std.proofs.lemmas.List.Elements.{All-nil, All-cons}
use Rattle.ix_base.specs.Told.{Told}
use Rattle.ix_base.specs.declared.files.Area.TheVariants.{Meta}
use Rattle.ix_base.specs.declared.files.File.{File}
use Rattle.ix_items.specs.declared.items.Item.{Item}
use Rattle.ix_disk.specs.Image.{Image, bytes_in, content, Apart, MayRemove}
use Rattle.ix_disk.specs.Moments.{ImagesStep, InFile, Always}
use Rattle.ix_disk.specs.Files.{is_it}
use Rattle.ix_disk.specs.declared.disk.Disk.{Ghosts}
use Rattle.ix_disk.proofs.Runs.{always, always_on, always_weaker, joined, nowhere, seen_before}
use Rattle.ix_disk.specs.Image.{Stays}
use Rattle.ix_log.specs.Log.{HasBodies, IsAtEnd, HasNoMore, end_of, blocks, file_of, place_of}
use Rattle.ix_log.specs.declared.log.Log.{Log}
use Rattle.ix_log.proofs.Elsewhere.{at_end_stays}
use Rattle.ix_log.proofs.OneList.{one_list_of}
use Rattle.ix_log.proofs.Blocks.{length-blocks_push}
use Rattle.ix_manifest.specs.Replaying.{first_length}
use Rattle.ix_manifest.specs.Book.{Name, NamedItems, named, is_same, empty, after_item, replay, removals_in, Replays, IsBody}
use Rattle.ix_manifest.specs.Root.{Taken, IsNoLog, roots, current, log_file}
use Rattle.ix_manifest.proofs.Applying.{replay_behind}
use Rattle.ix_manifest.proofs.Bodies.{end_bodies}
use Rattle.ix_manifest.specs.Whole.{removal, whole, whole_body, HasNumbers}
use Rattle.ix_manifest.proofs.RootNumbers.{roots_long}
use Rattle.ix_commit.specs.Contents.{Filling, filling, HasFilling, HoldsFilling, BeginsWith, Spares, IsFree, Anyhow}
use Rattle.ix_commit.specs.Snapshot.{Snapshot, DecodesTo, KeepsEither, AreFree, AreNoLogs, Held, LogsAtEnd, KnowsLogLength, IsLong, log_of}
use Rattle.ix_commit.specs.Shortening.{shortened, Tells, HasOneBody, TellsLong, IsLongLog}
use Rattle.ix_commit.specs.declared.committer.Committer.{Committer}
use Rattle.ix_commit.proofs.Holding.{number_in, nothing_staged, commit_first}
use Rattle.ix_commit.proofs.Beginning.{held_spared}

-- ---- numbers of logs

-- the number of a log has room
pub number_room : {D : Type 0} (g : Ghosts D) (committer : Committer) (disk : D) → LogsAtEnd g committer disk →
    committer.number < 2 ^ 64 - 1
number_room g committer disk over = omega (arith, over.counted, over.root_end.place, roots_long over.checkpoints, committer.root.in_range.0)

other_number : (a b : ℕ) → a < b → log_file a ≢ log_file b
other_number a b less same =
    let numbers : a ≡ b = ap number_in same in
    omega (arith, numbers, less)

-- ---- books

-- the items lead to the book, with the old log as the one file that is done with
pub leads : (told : List Item) (s : Snapshot) (old : File) → Tells told s.book → replay (whole told old) empty ≡ (shortened old s).book
leads told s old tells = replay_behind told (removal old ∷ []) empty ∙ (λ i name. both name i)
  where
    both : (name : Name) → after_item (removal old) (replay told empty) name ≡ after_item (removal old) s.book name
    both name = go (is_same (named 12 [] 0) name) refl
      where
        go : (test : Bool) → is_same (named 12 [] 0) name ≡ test →
            (if test then Some (removal old) else replay told empty name) ≡ (if test then Some (removal old) else s.book name)
        go true is = refl
        go false is = tells name is

-- ---- what the files begin with

-- what changes in one file of the logs leaves the rest
keeps_filling : (bytes : Filling) (file : File) (a b : Image) → bytes file ≡ [] → Apart file a b → HasFilling bytes a → HasFilling bytes b
keeps_filling bytes file a b none apart had = record { begins = λ f. ⊎_elim (here f) (elsewhere f) (is_it f file) }
  where
    here : (f : File) → f ≡ file → BeginsWith (bytes f) (bytes_in b f)
    here f same = subst (λ (l : List ℕ). BeginsWith l (bytes_in b f)) (sym (ap bytes same ∙ none)) refl

    elsewhere : (f : File) → f ≢ file → BeginsWith (bytes f) (bytes_in b f)
    elsewhere f ne = subst (BeginsWith (bytes f)) (sym (ap content (apart f ne))) (had.begins f)

module _ {D : Type 0} (g : Ghosts D) where
  pub apart_comes : (old new : D) (file : File) → ImagesStep g old new (Apart file) → ImagesStep g old new Anyhow
  apart_comes old new file run = joined g old new new (Apart file) Stays Anyhow (λ a b s. tt) (λ a b c s t. tt) run (nowhere g new)

  number_apart : (old new : D) (file : File) (P : List ℕ → Type 0) → ImagesStep g old new (InFile file P) →
      ImagesStep g old new (Apart file)
  number_apart old new file P run = joined g old new new (InFile file P) Stays (Apart file) (λ a b step. step.others)
      (λ a b c step same other ne. ap (λ (i : Image). i other) same ∙ step.others other ne) run (nowhere g new)

  -- a log stays through changes of another file
  end_apart : (old new : D) (log : Log) (bodies : List (List ℕ)) (file : File) → file_of log ≢ file → ImagesStep g old new (Apart file) →
      IsAtEnd g log old bodies → IsAtEnd g log new bodies
  end_apart old new log bodies file ne run end = at_end_stays g old new log bodies (Apart file) (λ a b apart. apart (file_of log) ne) run
      end

  removed_apart : (old new : D) (file : File) → ImagesStep g old new (MayRemove file) → ImagesStep g old new (Apart file)
  removed_apart old new file run = joined g old new new (MayRemove file) Stays (Apart file) (λ a b step. step.others)
      (λ a b c step same other ne. ap (λ (i : Image). i other) same ∙ step.others other ne) run (nowhere g new)

  -- how long another file is stays
  pub measured_apart : (old new : D) (committer : Committer) (file : File) → file_of committer.log ≢ file →
      Told (Apart file) (g.seen old) (g.seen new) → KnowsLogLength g committer old → KnowsLogLength g committer new
  measured_apart old new committer file ne told measured image is =
      let from = seen_before (Apart file) (g.seen old) (g.seen new) told image is in
      measured from.0 from.1 ∙ ap (λ (bytes : Option (List ℕ)). length (content bytes)) (sym (from.2 (file_of committer.log) ne))

  -- ---- the logs, whatever is kept

  module _ (committer : Committer) (first mid : D) (over : LogsAtEnd g committer first)
      (written : ImagesStep g first mid (Apart (log_file (committer.number + 1)))) where
    abbrev k : ℕ
    k = over.checkpoints

    root_ne : file_of committer.root ≢ log_file (committer.number + 1)
    root_ne same = other_number 0 (committer.number + 1) (omega arith) (sym over.root_file ∙ same)

    log_ne : file_of committer.log ≢ log_file (committer.number + 1)
    log_ne same = other_number committer.number (committer.number + 1) (omega arith) (sym over.file ∙ same)

    pub over_root : IsAtEnd g committer.root mid (roots k)
    over_root = end_apart first mid committer.root (roots k) (log_file (committer.number + 1)) root_ne written over.root_end

    -- for want of memory the logs are as they were
    pub over_still : LogsAtEnd g committer mid
    over_still = record {
      checkpoints = k;
      counted = over.counted;
      root_file = over.root_file;
      file = over.file;
      root_end = over_root;
      bodies = over.bodies;
      end = end_apart first mid committer.log over.bodies (log_file (committer.number + 1)) log_ne written over.end;
      measured = over.measured;
      none = over.none;
    }

    pub measured_still : Told (Apart (log_file (committer.number + 1))) (g.seen first) (g.seen mid) → KnowsLogLength g committer first →
        KnowsLogLength g committer mid
    measured_still told measured = measured_apart first mid committer (log_file (committer.number + 1)) log_ne told measured

    module _ (last gone : D) (now : Log) (body : List ℕ) (file : file_of now ≡ log_file (committer.number + 1))
        (end : IsAtEnd g now mid (body ∷ []))
        (numbered : ImagesStep g mid last (InFile (file_of committer.root) (HasNumbers k)))
        (removed : ImagesStep g last gone (MayRemove (log_file committer.number)))
        (root : Log) (root_file : file_of root ≡ file_of committer.root) (root_end : IsAtEnd g root last (roots (k + 1))) where
      now_ne_root : file_of now ≢ file_of committer.root
      now_ne_root same = root_ne (sym same ∙ file)

      end_last : IsAtEnd g now last (body ∷ [])
      end_last = end_apart mid last now (body ∷ []) (file_of committer.root) now_ne_root
          (number_apart mid last (file_of committer.root) (HasNumbers k) numbered) end

      pub end_gone : IsAtEnd g now gone (body ∷ [])
      end_gone = end_apart last gone now (body ∷ []) (log_file committer.number)
          (λ same. other_number committer.number (committer.number + 1) (omega arith) (sym same ∙ file))
          (removed_apart last gone (log_file committer.number) removed) end_last

      pub root_gone : IsAtEnd g root gone (roots (k + 1))
      root_gone = end_apart last gone root (roots (k + 1)) (log_file committer.number)
          (λ same. other_number 0 committer.number (omega (arith, over.counted)) (sym over.root_file ∙ sym root_file ∙ same))
          (removed_apart last gone (log_file committer.number) removed) root_end

      -- the further log is the current one
      pub over_new : (after : Committer) → after.root ≡ root → after.log ≡ now → after.number ≡ committer.number + 1 →
          after.first ≡ length body → 0 < length body → LogsAtEnd g after gone
      over_new after root_is log_is number first_is some = record {
        checkpoints = k + 1;
        counted = omega (arith, number, over.counted);
        root_file = ap file_of root_is ∙ root_file ∙ over.root_file;
        file = ap file_of log_is ∙ file ∙ ap log_file (sym number);
        root_end = subst (λ (l : Log). IsAtEnd g l gone (roots (k + 1))) (sym root_is) root_gone;
        bodies = body ∷ [];
        end = subst (λ (l : Log). IsAtEnd g l gone (body ∷ [])) (sym log_is) end_gone;
        measured = first_is;
        none = λ zero. absurd (omega (arith, zero, first_is, some));
      }

  -- what the committer knows of its log is what the disk reads
  pub tells_long : ((image : Image) (disk : D) → g.seen disk ≡ Some image → g.may_leave disk image) → TellsLong g
  tells_long may_stay committer disk image over measured told = (there, back)
    where
      file : List ℕ
      file = bytes_in image (log_of committer)

      has : HasBodies over.bodies file
      has = end_bodies committer.log.closed over.bodies file (over.end.images image (may_stay image disk told))

      there : IsLong committer.bytes committer.first → IsLongLog file
      there long = record {
        most = omega (arith, long.most, measured image told);
        twice = λ bodies are.
            let same : over.bodies ≡ bodies = one_list_of over.bodies bodies file has are in
            omega (arith, long.twice, measured image told, over.measured, ap first_length same);
      }

      back : IsLongLog file → IsLong committer.bytes committer.first
      back long = record {
        most = omega (arith, long.most, measured image told);
        twice = omega (arith, long.twice over.bodies has, measured image told, over.measured);
      }

  -- ---- what is kept

  module _ (fits : NamedItems → Type 0) (committer : Committer) (first : D) (s : Snapshot) (held : Held g fits committer first s s) where
    abbrev n : ℕ
    n = held.committed.checkpoints

    abbrev old_log : File
    old_log = log_of committer

    abbrev next : File
    next = current (n + 1)

    abbrev to : Snapshot
    to = shortened old_log s

    next_other_root : log_file 0 ≢ next
    next_other_root = other_number 0 (n + 1 + 1) (omega arith)

    next_other_log : old_log ≢ next
    next_other_log same = other_number (n + 1) (n + 1 + 1) (omega arith) (sym held.committed.file ∙ same)

    old_not_root : old_log ≢ log_file 0
    old_not_root same = other_number 0 (n + 1) (omega arith) (sym same ∙ held.committed.file)

    none_in : (file : File) → file.area ≡ Meta → filling s.contents file ≡ []
    none_in file meta = held.committed.apart file meta

    spares : (a b : Image) → Apart next a b → Spares old_log (filling s.contents) a b
    spares a b apart = record {
      root_stays = apart (log_file 0) next_other_root;
      log_stays = apart old_log next_other_log;
      keeps = keeps_filling (filling s.contents) next a b (none_in next refl) apart;
    }

    module _ (mid : D) (written : ImagesStep g first mid (Apart next)) where
      spared_run : ImagesStep g first mid (Spares old_log (filling s.contents))
      spared_run = joined g first mid mid (Apart next) Stays (Spares old_log (filling s.contents)) spares
          (λ a b c apart same. subst (λ (i : Image). Spares old_log (filling s.contents) a i) (sym same) (spares a b apart)) written
          (nowhere g mid)

      -- while the further log is written the old one is kept
      pub held_mid : Held g fits committer mid s s
      held_mid = held_spared g fits committer first mid s held spared_run

      log_mid : IsAtEnd g committer.log mid held.committed.bodies
      log_mid = at_end_stays g first mid committer.log held.committed.bodies (Apart next) (λ a b apart. apart old_log next_other_log)
          written
          held.committed.end

      pub root_mid : IsAtEnd g committer.root mid (roots n)
      root_mid = at_end_stays g first mid committer.root (roots n) (Apart next)
          (λ a b apart. apart (file_of committer.root) (λ same. next_other_root (sym held.committed.root_file ∙ same))) written
          held.committed.root

      pub written_images : Always g first mid (KeepsEither fits s to)
      written_images = always_weaker g first mid (KeepsEither fits s s) (KeepsEither fits s to)
          (λ image either. inl (⊎_elim (λ keeps. keeps) (λ keeps. keeps) either))
          (commit_first g fits committer first s s held mid spared_run)

      module _ (told : List Item) (tells : Tells told s.book) (fit : fits to.book)
          (is_body : IsBody (whole told old_log) (whole_body told old_log))
          (now : Log) (file : file_of now ≡ next) (end : IsAtEnd g now mid (whole_body told old_log ∷ [])) (last : D)
          (numbered : ImagesStep g mid last (InFile (file_of committer.root) (HasNumbers n))) where
        abbrev body : List ℕ
        body = whole_body told old_log

        -- both logs, and what the files begin with
        record Has (image : Image) : Type 0 where
          pub in_old : HasBodies held.committed.bodies (bytes_in image (current n))
          pub in_new : HasBodies (body ∷ []) (bytes_in image next)
          pub filled : HasFilling (filling s.contents) image

        has_mid : (image : Image) → g.may_leave mid image → Has image
        has_mid image left = record {
          in_old = subst (λ (f : File). HasBodies held.committed.bodies (bytes_in image f)) held.committed.file
              (end_bodies committer.log.closed held.committed.bodies (bytes_in image (file_of committer.log)) (log_mid.images image left));
          in_new = subst (λ (f : File). HasBodies (body ∷ []) (bytes_in image f)) file
              (end_bodies now.closed (body ∷ []) (bytes_in image (file_of now)) (end.images image left));
          filled = held_mid.committed.contents image left;
        }

        taken : Taken fits next to.book
        taken = record { fit = fit; apart = old_no_log }
          where
            old_no_log : All (IsNoLog next) (removals_in to.book)
            old_no_log = All-cons (IsNoLog next) old_log [] (old_not_root, next_other_log) (All-nil (IsNoLog next))

        replayed : Replays (Taken fits next) (body ∷ []) empty to.book
        replayed = (
          whole told old_log,
          is_body,
          subst (Taken fits next) (sym (leads told s old_log tells)) taken,
          sym (leads told s old_log tells),
        )

        free_new : AreFree next to
        free_new = All-cons (IsFree next s.contents) old_log []
            (record {
              not_root = old_not_root;
              not_current = next_other_log;
              none = none_in old_log (ap (λ (f : File). f.area) held.committed.file);
            }) (All-nil (IsFree next s.contents))

        keeps_old : (image : Image) → HasBodies (roots n) (bytes_in image (log_file 0)) → Has image → DecodesTo fits s image
        keeps_old image root has = record {
          checkpoints = n;
          in_root = root;
          bodies = held.committed.bodies;
          in_log = has.in_old;
          replayed = held.committed.replayed;
          contents = has.filled;
          free = held.committed.free;
        }

        pub keeps_new : (image : Image) → HasBodies (roots (n + 1)) (bytes_in image (log_file 0)) →
            HasBodies (body ∷ []) (bytes_in image next) → HasFilling (filling s.contents) image → DecodesTo fits to image
        keeps_new image root new filled = record {
          checkpoints = n + 1;
          in_root = root;
          bodies = body ∷ [];
          in_log = new;
          replayed = replayed;
          contents = filled;
          free = free_new;
        }

        root_other : (m : ℕ) → file_of committer.root ≢ log_file (m + 1)
        root_other m same = other_number 0 (m + 1) (omega arith) (sym held.committed.root_file ∙ same)

        root_is : (image : Image) (P : List ℕ → Type 0) → P (bytes_in image (file_of committer.root)) → P (bytes_in image (log_file 0))
        root_is image P has = subst (λ (f : File). P (bytes_in image f)) held.committed.root_file has

        has_on : (a b : Image) → Apart (file_of committer.root) a b → Has a → Has b
        has_on a b apart has = record {
          in_old = subst (HasBodies held.committed.bodies) (sym (ap content (apart (current n) (λ same. root_other n (sym same)))))
              has.in_old;
          in_new = subst (HasBodies (body ∷ [])) (sym (ap content (apart next (λ same. root_other (n + 1) (sym same))))) has.in_new;
          filled = keeps_filling (filling s.contents) (file_of committer.root) a b
              (none_in (file_of committer.root) (ap (λ (f : File). f.area) held.committed.root_file)) apart has.filled;
        }

        has_last : (image : Image) → g.may_leave last image → Has image
        has_last image left = let from = numbered.now image left in has_on from.0 image from.2.others (has_mid from.0 from.1)

        numbered_step : (a b : Image) → Has a → InFile (file_of committer.root) (HasNumbers n) a b → KeepsEither fits s to b
        numbered_step a b had step =
            let has = has_on a b step.others had in
            ⊎_elim (λ (old : HasBodies (roots n) (bytes_in b (file_of committer.root))).
            inl (keeps_old b (root_is b (HasBodies (roots n)) old) has))
            (λ (new : HasBodies (roots (n + 1)) (bytes_in b (file_of committer.root))).
            inr (keeps_new b (root_is b (HasBodies (roots (n + 1))) new) has.in_new has.filled))
            step.holds

        -- the number of the further log is put
        pub numbered_images : Always g first last (KeepsEither fits s to)
        numbered_images = always_on g first mid last (KeepsEither fits s to) written_images
            (always g mid last (InFile (file_of committer.root) (HasNumbers n)) Has (KeepsEither fits s to) numbered has_mid numbered_step)

        module _ (root : Log) (root_file : file_of root ≡ file_of committer.root) (root_end : IsAtEnd g root last (roots (n + 1)))
            (gone : D)
            (removed : ImagesStep g last gone (MayRemove old_log)) where
          -- the further log, and what the files begin with
          record HasNew (image : Image) : Type 0 where
            pub in_root : HasBodies (roots (n + 1)) (bytes_in image (log_file 0))
            pub in_new : HasBodies (body ∷ []) (bytes_in image next)
            pub filled : HasFilling (filling s.contents) image

          new_last : (image : Image) → g.may_leave last image → HasNew image
          new_last image left =
              let has = has_last image left in
              record {
                in_root = subst (λ (f : File). HasBodies (roots (n + 1)) (bytes_in image f)) (root_file
                    ∙ held.committed.root_file) (end_bodies root.closed (roots (n + 1)) (bytes_in image (file_of root))
                    (root_end.images image left));
                in_new = has.in_new;
                filled = has.filled;
              }

          new_on : (a b : Image) → HasNew a → MayRemove old_log a b → HasNew b
          new_on a b has step = record {
            in_root = subst (HasBodies (roots (n + 1))) (sym (ap content (step.others (log_file 0) (λ same. old_not_root (sym same)))))
                has.in_root;
            in_new = subst (HasBodies (body ∷ [])) (sym (ap content (step.others next (λ same. next_other_log (sym same))))) has.in_new;
            filled = keeps_filling (filling s.contents) old_log a b (none_in old_log (ap (λ (f : File). f.area) held.committed.file))
                step.others has.filled;
          }

          -- and the old log is removed
          pub removed_images : Always g first gone (KeepsEither fits s to)
          removed_images = always_on g first last gone (KeepsEither fits s to) numbered_images
              (always g last gone (MayRemove old_log) HasNew (KeepsEither fits s to) removed new_last
              (λ a b had step. let has = new_on a b had step in inr (keeps_new b has.in_root has.in_new has.filled)))

          pub shortened_held : (after : Committer) → after.root ≡ root → after.log ≡ now → after.number ≡ committer.number + 1 →
              after.closed ≡ false → after.parts ≡ [] → after.copies ≡ [] → after.slots ≡ []
              → IsAtEnd g root gone (roots (n + 1)) → IsAtEnd g now gone (body ∷ []) → Held g fits after gone to to
          shortened_held after root_is log_is number usable no_parts no_copies no_slots root_gone now_gone = record {
            usable = usable;
            committed = record {
              checkpoints = n + 1;
              number = number ∙ ap (λ (m : ℕ). m + 1) held.committed.number;
              root_file = ap file_of root_is ∙ root_file ∙ held.committed.root_file;
              root = subst (λ (l : Log). IsAtEnd g l gone (roots (n + 1))) (sym root_is) root_gone;
              file = ap file_of log_is ∙ file;
              bodies = body ∷ [];
              end = subst (λ (l : Log). IsAtEnd g l gone (body ∷ [])) (sym log_is) now_gone;
              replayed = replayed;
              contents = λ image left. let from = removed.now image left in (new_on from.0 image (new_last from.0 from.1) from.2).filled;
              apart = held.committed.apart;
              free = free_new;
            };
            stages = nothing_staged after to no_parts no_copies no_slots;
            fit = λ some. absurd (omega (arith, some, ap length no_slots));
            free = subst (λ (f : File). AreFree f to) (sym (ap file_of log_is ∙ file)) free_new;
          }

-- ---- the further log's place and length

pub place_one : (body : List ℕ) → length (blocks (body ∷ [])) ≡ 5 + length body
place_one body = omega (arith, length-blocks_push [] body)

-- the file of the further log through changes of other files
pub seen_on : {D : Type 0} (g : Ghosts D) (mid last gone : D) (now : Log) (root old : File) → file_of now ≢ root → file_of now ≢ old →
    Told (Apart root) (g.seen mid) (g.seen last) → Told (Apart old) (g.seen last) (g.seen gone)
    → (image : Image) → g.seen gone ≡ Some image → (before : Image) × (g.seen mid ≡ Some before)
    × (bytes_in image (file_of now) ≡ bytes_in before (file_of now))
seen_on g mid last gone now root old ne_root ne_old first second image is =
    let b = seen_before (Apart old) (g.seen last) (g.seen gone) second image is in
    let a = seen_before (Apart root) (g.seen mid) (g.seen last) first b.0 b.1 in
    (a.0, a.1, ap content (b.2 (file_of now) ne_old) ∙ ap content (a.2 (file_of now) ne_root))

end_idle : (log : Log) → log.begun ≡ false → end_of log ≡ log.at + 1
end_idle log is = go log.begun is
  where
    go : (begun : Bool) → begun ≡ false → (if begun then log.at + 5 + log.len else log.at + 1) ≡ log.at + 1
    go true is = absurd (cc is)
    go false is = refl

pub new_file : {D : Type 0} (g : Ghosts D) → ((image : Image) (disk : D) → g.seen disk ≡ Some image → g.may_leave disk image) →
    (mid last gone : D) (now : Log) (body : List ℕ) (root old : File) → file_of now ≢ root → file_of now ≢ old
    → Told (Apart root) (g.seen mid) (g.seen last) → Told (Apart old) (g.seen last) (g.seen gone) → IsAtEnd g now mid (body ∷ []) →
    HasNoMore g now mid
    → (image : Image) → g.seen gone ≡ Some image → HasOneBody (bytes_in image (file_of now))
    × (length (bytes_in image (file_of now)) ≡ place_of now + 1)
new_file g may_stay mid last gone now body root old ne_root ne_old first second end no_more image is =
    let b = seen_on g mid last gone now root old ne_root ne_old first second image is in
    let long : length (bytes_in image (file_of now)) ≡ place_of now + 1 = ap (λ (l : List ℕ). length l) b.2 ∙ no_more b.0 b.1
    ∙ end_idle now end.idle in (
      record {
        body = body;
        bodies = subst (HasBodies (body ∷ [])) (sym b.2)
            (end_bodies now.closed (body ∷ []) (bytes_in b.0 (file_of now)) (end.images b.0 (may_stay b.0 mid b.1)));
        size = omega (arith, long, end.place, place_one body);
      },
      long,
    )

pub new_file_other : {D : Type 0} (g : Ghosts D) (committer : Committer) (disk : D) (over : LogsAtEnd g committer disk) (now : Log) →
    file_of now ≡ log_file (committer.number + 1) → (file_of now ≢ file_of committer.root) × (file_of now ≢ log_file committer.number)
new_file_other g committer disk over now is = (
  (λ same. other_number 0 (committer.number + 1) (omega arith) (sym over.root_file ∙ sym same ∙ is)),
  (λ same. other_number committer.number (committer.number + 1) (omega arith) (sym same ∙ is)),
)
