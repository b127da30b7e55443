-- What a read gives, behind the calls of a committer.
use Rattle.std.proofs.Common.{◌≡◌, ◌≢◌, ℕ, zero, suc, ◌+◌, ◌-◌, ◌<◌, ◌≤◌, ◌^◌, ◌⊎◌, List, [], ◌∷◌, ◌++◌, length, take, get_or, Bool, true}
use Rattle.std.proofs.Common.{false, Option, None, Some, refl, ap, subst, sym, ◌∙◌, ⊎_elim, inl, inr, arith, length-take, length-append}
use Rattle.std.specs.Prelude.{All, Contains, Result, Ok, Err, OnOk, not}
use Rattle.std.specs.Result.{is_err}
use Rattle.std.specs.Int.{to_be_bytes, w64}
use Rattle.std.specs.List.{AllByRecursion}
use Rattle.std.proofs.lemmas.List.Elements.{All-get_or, All-nil, All-weaker, All-contains_itself}
use Rattle.std.proofs.Math.Seq.{get_or-append_seam}
use Rattle.std.proofs.Math.ListN.{get_or-append}
use Rattle.ix_base.specs.declared.files.File.{File}
use Rattle.ix_base.specs.Told.{Told}
use Rattle.ix_disk.specs.Image.{Image, bytes_in, Apart, MayRemove, Removes}
use Rattle.ix_disk.specs.Files.{is_it}
use Rattle.ix_disk.specs.declared.disk.Disk.{Ghosts}
use Rattle.ix_log.specs.Log.{HasBodies, AreShort, IsCut}
use Rattle.ix_log.proofs.OneList.{one_list_of}
use Rattle.ix_manifest.specs.Book.{NamedItems, empty, replay, run_in, removals_in, has_settings, Replays}
use Rattle.ix_manifest.specs.Root.{Taken, IsNoLog, roots, current, log_file, IsBadRoot, HasBadNumber}
use Rattle.ix_manifest.specs.Replaying.{IsBadGate}
use Rattle.ix_manifest.proofs.Applying.{replays_one}
use Rattle.ix_manifest.proofs.Blocks.{cut_none, next_stands}
use Rattle.ix_manifest.proofs.Bodies.{end_bodies}
use Rattle.ix_manifest.proofs.Numbers.{roots_more}
use Rattle.ix_manifest.proofs.Replays.{bad_gate_none}
use Rattle.ix_commit.specs.Contents.{Filling, BeginsWith, HoldsFilling, Keeping, Anyhow}
use Rattle.ix_commit.specs.Parts.{AreParts, file_in}
use Rattle.ix_commit.specs.Copies.{IsCopy, target}
use Rattle.ix_commit.specs.Reads.{OrGone, Removing, IsElsewhere, IsGone, ReadsNone, LeadsTo, IsBegunFrom, HasNoRun, first_items, next_run}
use Rattle.ix_commit.specs.Snapshot.{Snapshot, LogsAtEnd, log_of, begun}
use Rattle.ix_commit.specs.Mounting.{IsRead, IsBadLog}
use Rattle.ix_commit.specs.declared.file_copy.FileCopy.{FileCopy}
use Rattle.ix_commit.specs.declared.committer.Committer.{Committer}
use Rattle.ix_commit.specs.declared.staged_append.StagedAppend.{StagedAppend}
use Rattle.ix_commit.proofs.Settling.{no_log, home_no_log, part_at}
use Rattle.ix_commit.proofs.FreeFiles.{no_meta}
use Rattle.ix_commit.proofs.Beginning.{roots_one, length_roots}

-- ---- what is told

pub told_through : (first second step : Image → Image → Type 0) → ((a b c : Image) → first a b → second b c → step a c) →
    (old mid new : Option Image) → Told first old mid → Told second mid new → Told step old new
told_through first second step joins None None None one two = tt
told_through first second step joins None None (Some new) one two = absurd two
told_through first second step joins None (Some mid) new one two = absurd one
told_through first second step joins (Some old) None new one two = absurd one
told_through first second step joins (Some old) (Some mid) None one two = absurd two
told_through first second step joins (Some old) (Some mid) (Some new) one two = joins old mid new one two

pub told_as : (first step : Image → Image → Type 0) → ((a b : Image) → first a b → step a b) → (old new : Option Image) →
    Told first old new → Told step old new
told_as first step leads None None told = tt
told_as first step leads None (Some new) told = absurd told
told_as first step leads (Some old) None told = absurd told
told_as first step leads (Some old) (Some new) told = leads old new told

told_itself : (step : Image → Image → Type 0) → ((a : Image) → step a a) → (old : Option Image) → Told step old old
told_itself step alike None = tt
told_itself step alike (Some old) = alike old

pub told_same : (step : Image → Image → Type 0) → ((a : Image) → step a a) → (old new : Option Image) → new ≡ old → Told step old new
told_same step alike old new same = subst (λ (now : Option Image). Told step old now) (sym same) (told_itself step alike old)

-- whatever happened
pub told_anyhow : (step : Image → Image → Type 0) (old new : Option Image) → Told step old new → Told Anyhow old new
told_anyhow step old new told = told_as step Anyhow (λ a b s. tt) old new told

pub anyhow_same : (old new : Option Image) → new ≡ old → Told Anyhow old new
anyhow_same old new same = told_same Anyhow (λ a. tt) old new same

pub anyhow_through : (old mid new : Option Image) → Told Anyhow old mid → Told Anyhow mid new → Told Anyhow old new
anyhow_through old mid new one two = told_through Anyhow Anyhow Anyhow (λ a b c s t. tt) old mid new one two

some_one : (a b : Image) → Some a ≡ Some b → a ≡ b
some_one a b is = cc

none_some : (a : Image) → None ≡ Some a → ⊥
none_some a is = cc

-- what was told goes on being told
pub told_on : (step : Image → Image → Type 0) (old new : Option Image) → Told step old new → (before : Image) → old ≡ Some before →
    (after : Image) × (new ≡ Some after) × step before after
told_on step (Some was) (Some now) told before is = (now, refl, subst (λ (i : Image). step i now) (some_one was before is) told)
told_on step (Some was) None told before is = absurd told
told_on step None (Some now) told before is = absurd told
told_on step None None told before is = absurd (none_some before is)

pub told_both : (step : Image → Image → Type 0) (old new : Option Image) → Told step old new → (before after : Image) → old ≡ Some before →
    new ≡ Some after → step before after
told_both step old new told before after is_old is_new =
    let on = told_on step old new told before is_old in
    let same : on.0 ≡ after = some_one on.0 after (sym on.1 ∙ is_new) in
    subst (λ (i : Image). step before i) same on.2

-- a call that did not fail
pub if_ok : {T E : Type 0} (r : Result T E) (P : Type 0) → is_err r ≡ false → OnOk r P → P
if_ok (Ok x) P none had = had
if_ok (Err e) P none had = absurd cc

-- ---- files of parts and copies

pub every : {X : Type 0} (Q : X → Type 0) → ((x : X) → Q x) → (xs : List X) → All Q xs
every Q each xs = All-weaker (Contains xs) Q (λ x found. each x) xs (All-contains_itself xs)

pub root_elsewhere : (parts : List StagedAppend) (copies : List FileCopy) → IsElsewhere parts copies (log_file 0)
root_elsewhere parts copies = (
  every (λ (p : StagedAppend). log_file 0 ≢ file_in p) (λ p. home_no_log (log_file 0) (file_in p) refl refl) parts,
  every (λ (x : FileCopy). log_file 0 ≢ target x) (λ x. no_log (log_file 0) (target x) refl (no_meta x)) copies,
)

pub nothing_elsewhere : (parts : List StagedAppend) (copies : List FileCopy) (other : File) → parts ≡ [] → copies ≡ [] →
    IsElsewhere parts copies other
nothing_elsewhere parts copies other no_parts no_copies =
    subst (λ (p : List StagedAppend). IsElsewhere p copies other) (sym no_parts)
    (subst (λ (x : List FileCopy). IsElsewhere [] x other) (sym no_copies) (
      All-nil (λ (p : StagedAppend). other ≢ file_in p),
      All-nil (λ (x : FileCopy). other ≢ target x),
    ))

abbrev number_of : File → ℕ
number_of file = file.number

pub root_no_log : {D : Type 0} (g : Ghosts D) (committer : Committer) (disk : D) → LogsAtEnd g committer disk →
    log_file 0 ≢ log_of committer
root_no_log g committer disk over same =
    let numbers : 0 ≡ committer.number = ap number_of (same ∙ over.file) in
    omega (arith, numbers, over.counted)

-- one part more
pub parts_seen : (parts : List StagedAppend) (i : ℕ) (part : StagedAppend) → i < length parts → part ≡ get_or parts i part →
    (other : File) → All (λ (p : StagedAppend). other ≢ file_in p) parts
    → (first mid next : Option Image) → Told (Keeping other) first mid → Told (Apart (file_in part)) mid next →
    Told (Keeping other) first next
parts_seen parts i part within at other apart first mid next run step =
    let ne : other ≢ file_in part = subst (λ (p : StagedAppend). other ≢ file_in p) (sym at)
    (All-get_or (λ (p : StagedAppend). other ≢ file_in p) parts i part within apart) in
    told_through (Keeping other) (Apart (file_in part)) (Keeping other) (λ a b c same leaves. leaves other ne
    ∙ same) first mid next run step

-- one copy more
pub copies_seen : (copies : List FileCopy) (i : ℕ) (d : FileCopy) → i < length copies → (other : File) →
    All (λ (x : FileCopy). other ≢ target x) copies
    → (first mid next : Option Image) → Told (Keeping other) first mid → Told (Apart (target (get_or copies i d))) mid next →
    Told (Keeping other) first next
copies_seen copies i d within other apart first mid next run step =
    let ne : other ≢ target (get_or copies i d) = All-get_or (λ (x : FileCopy). other ≢ target x) copies i d within apart in
    told_through (Keeping other) (Apart (target (get_or copies i d))) (Keeping other) (λ a b c same leaves. leaves other ne
    ∙ same) first mid next run step

pub begins_length : (bytes file : List ℕ) → BeginsWith bytes file → length bytes ≤ length file
begins_length bytes file is = omega (arith, ap length is, length-take (length bytes) file)

-- a file has what is committed there
pub part_there : {D : Type 0} (g : Ghosts D) → ((image : Image) (disk : D) → g.seen disk ≡ Some image → g.may_leave disk image) →
    (old new : Filling) (mid : D) (parts : List StagedAppend) (i : ℕ) (part : StagedAppend) → i < length parts → part ≡ get_or parts i part
    → AreParts old new parts → HoldsFilling g mid old → (image : Image) → g.seen mid ≡ Some image →
    part.committed ≤ length (bytes_in image (file_in part))
part_there g may_stay old new mid parts i part within at are had image told =
    let is = part_at old new parts i part within at are in
    omega (
      arith,
      is.committed,
      begins_length (old (file_in part)) (bytes_in image (file_in part))
          ((had image (may_stay image mid told)).begins (file_in part)),
    )

-- and what is to be copied from it
pub copy_there : {D : Type 0} (g : Ghosts D) → ((image : Image) (disk : D) → g.seen disk ≡ Some image → g.may_leave disk image) →
    (old now : Filling) (disk : D) (copied : FileCopy) → IsCopy old now copied → HoldsFilling g disk now
    → (image : Image) → g.seen disk ≡ Some image → copied.len ≤ length (bytes_in image copied.from)
copy_there g may_stay old now disk copied is had image told =
    omega (
      arith,
      is.enough,
      begins_length (now copied.from) (bytes_in image copied.from)
          ((had image (may_stay image disk told)).begins copied.from),
    )

-- ---- removals

removing_on : (a b c : Image) → Removing a b → Removing b c → Removing a c
removing_on a b c one two file = ⊎_elim
    (λ (same : c file ≡ b file). ⊎_elim (λ (was : b file ≡ a file). inl (same ∙ was)) (λ (gone : b file ≡ None). inr (same ∙ gone))
    (one file))
    (λ (gone : c file ≡ None). inr gone)
    (two file)

pub removing_through : (old mid new : Option Image) → Told Removing old mid → Told Removing mid new → Told Removing old new
removing_through old mid new one two = told_through Removing Removing Removing removing_on old mid new one two

pub removing_same : (old new : Option Image) → new ≡ old → Told Removing old new
removing_same old new same = told_same Removing (λ a file. inl refl) old new same

pub removing_begun : (file : File) (old new : Option Image) → Told (MayRemove file) old new → Told Removing old new
removing_begun file old new told = told_as (MayRemove file) Removing
    (λ a b step other. ⊎_elim (λ (same : other ≡ file). subst (λ (f : File). OrGone f a b) (sym same) step.either)
    (λ ne. inl (step.others other ne)) (is_it other file))
    old new told

pub removing_done : (file : File) (old new : Option Image) → Told (Removes file) old new → Told Removing old new
removing_done file old new told = told_as (Removes file) Removing
    (λ a b step other. ⊎_elim (λ (same : other ≡ file). subst (λ (f : File). OrGone f a b) (sym same) (inr step.gone))
    (λ ne. inl (step.others other ne)) (is_it other file))
    old new told

-- a removed file is gone
pub gone_done : (file : File) (old new : Option Image) → Told (Removes file) old new → (image : Image) → new ≡ Some image →
    image file ≡ None
gone_done file None None told image is = absurd (none_some image is)
gone_done file None (Some new) told image is = absurd told
gone_done file (Some old) None told image is = absurd told
gone_done file (Some old) (Some new) told image is = subst (λ (i : Image). i file ≡ None) (some_one new image is) told.gone

pub gone_behind : (file : File) (a b c : Image) → b file ≡ a file → OrGone file b c → OrGone file a c
gone_behind file a b c same (inl was) = inl (was ∙ same)
gone_behind file a b c same (inr gone) = inr gone

none_stays : (file : File) (a b : Image) → OrGone file a b → a file ≡ None → b file ≡ None
none_stays file a b (inl same) none = same ∙ none
none_stays file a b (inr gone) none = gone

-- what is gone stays gone
pub gone_on : {D : Type 0} (g : Ghosts D) (log : File) (files : List File) (mid next : D) → Told Removing (g.seen mid) (g.seen next) →
    ReadsNone g mid log files → ReadsNone g next log files
gone_on g log files mid next told gone image is = go (g.seen mid) (g.seen next) told gone is
  where
    go : (old new : Option Image) → Told Removing old new → ((before : Image) → old ≡ Some before → All (IsGone log before) files) →
        new ≡ Some image → All (IsGone log image) files
    go None None told had now = absurd (none_some image now)
    go None (Some new) told had now = absurd told
    go (Some old) None told had now = absurd told
    go (Some old) (Some new) told had now =
        let step = subst (λ (i : Image). Removing old i) (some_one new image now) told in
        All-weaker (IsGone log old) (IsGone log image) (λ file is_gone apart. none_stays file old image (step file) (is_gone apart)) files
        (had old refl)

-- and so behind the calls that begin a run
pub gone_begun : {D : Type 0} (g : Ghosts D) (log : File) (files : List File) (mid next : D) → Told Anyhow (g.seen mid) (g.seen next) →
    ((other : File) → other ≢ log → Told (OrGone other) (g.seen mid) (g.seen next)) → ReadsNone g mid log files → ReadsNone g next log files
gone_begun g log files mid next told each gone image is = go (g.seen mid) refl
  where
    go : (old : Option Image) → g.seen mid ≡ old → All (IsGone log image) files
    go None was = absurd (told_none (g.seen mid) (g.seen next) told was is)
      where
        told_none : (old new : Option Image) → Told Anyhow old new → old ≡ None → new ≡ Some image → ⊥
        told_none None None told was now = none_some image now
        told_none None (Some new) told was now = told
        told_none (Some old) new told was now = none_some old (sym was)
    go (Some before) was =
        All-weaker (IsGone log before) (IsGone log image)
        (λ file is_gone apart. none_stays file before image
        (told_both (OrGone file) (g.seen mid) (g.seen next) (each file apart.1) before image was is) (is_gone apart))
        files (gone before was)

-- ---- what the logs lead to

module _ (fits : NamedItems → Type 0) where
  unfoldable pub read_leads : {D : Type 0} (g : Ghosts D) (committer : Committer) (mid : D) (book : NamedItems) → IsRead g fits committer mid book →
      (image : Image) → g.may_leave mid image → LeadsTo fits book image
  read_leads g committer mid book read image left = record {
    checkpoints = read.checkpoints;
    in_root = subst (λ (f : File). HasBodies (roots read.checkpoints) (bytes_in image f)) read.root_file
        (end_bodies committer.root.closed (roots read.checkpoints) (bytes_in image committer.root.file) (read.root.images image left));
    bodies = read.bodies;
    in_log = subst (λ (f : File). HasBodies read.bodies (bytes_in image f)) read.file
        (end_bodies committer.log.closed read.bodies (bytes_in image (log_of committer)) (read.end.images image left));
    replayed = subst (λ (f : File). Replays (Taken fits f) read.bodies empty book) read.file read.replayed;
  }

  same_checkpoints : (image : Image) (a b : ℕ) → HasBodies (roots a) (bytes_in image (log_file 0)) →
      HasBodies (roots b) (bytes_in image (log_file 0)) → a ≡ b
  same_checkpoints image a b has_a has_b = roots_one a b (one_list_of (roots a) (roots b) (bytes_in image (log_file 0)) has_a has_b)

  pub leads_one : (image : Image) (a b : NamedItems) → LeadsTo fits a image → LeadsTo fits b image → a ≡ b
  leads_one image a b one two =
      let k = one.checkpoints in
      let same : two.checkpoints ≡ k = same_checkpoints image two.checkpoints k two.in_root one.in_root in
      let there = subst (λ (n : ℕ). HasBodies two.bodies (bytes_in image (current n))) same two.in_log in
      let bodies : one.bodies ≡ two.bodies = one_list_of one.bodies two.bodies (bytes_in image (current k)) one.in_log there in
      let theirs = subst (λ (n : ℕ). Replays (Taken fits (current n)) two.bodies empty b) same two.replayed in
      replays_one (Taken fits (current k)) two.bodies empty a b
      (subst (λ (l : List (List ℕ)). Replays (Taken fits (current k)) l empty a) bodies one.replayed) theirs

  -- an image whose next run was begun leaves one to begin
  pub begun_has_run : (image : Image) (now : NamedItems) → IsBegunFrom fits image now → HasNoRun fits image → ⊥
  begun_has_run image now begun none =
      let same = leads_one image none.book begun.book none.leads begun.leads in
      ⊎_elim (λ (last : 2 ^ 63 - 1 ≤ run_in none.book).
      let there = subst (λ (b : NamedItems). 2 ^ 63 - 1 ≤ run_in b) same last in
      omega (arith, there, begun.room)) (λ (no : fits (next_run none.book) → ⊥). subst (λ (b : NamedItems). fits (next_run b) →
      ⊥) same no (subst fits begun.is begun.taken)) none.none

  short_roots : (k : ℕ) → AreShort (roots k)
  short_roots zero = tt
  short_roots (suc k) = both (roots k) (to_be_bytes w64 (k + 2)) (short_roots k) (omega arith)
    where
      both : (bodies : List (List ℕ)) (body : List ℕ) → AreShort bodies → length body < 2 ^ 32 → AreShort (bodies ++ body ∷ [])
      both [] body short one = (one, tt)
      both (b ∷ bodies) body short one = (short.0, both bodies body short.1 one)

  -- the numbers of the root log, one by one
  number_at : (k c : ℕ) → c < k → get_or (roots k) c [] ≡ to_be_bytes w64 (c + 2)
  number_at zero c within = absurd (omega (arith, within))
  number_at (suc k) c within = ⊎_elim
      (λ (less : c < k). get_or-append (roots k) (to_be_bytes w64 (k + 2) ∷ []) [] c (omega (arith, less, length_roots k))
      ∙ number_at k c less)
      (λ (same : c ≡ k). subst (λ (n : ℕ). get_or (roots k ++ to_be_bytes w64 (k + 2) ∷ []) n [] ≡ to_be_bytes w64 (n + 2)) (sym same)
      (ap (λ (n : ℕ). get_or (roots k ++ to_be_bytes w64 (k + 2) ∷ []) n []) (sym (length_roots k))
      ∙ get_or-append_seam (roots k) (to_be_bytes w64 (k + 2)) [] []))
      (below k c within)
    where
      below : (k c : ℕ) → c < suc k → (c < k) ⊎ (c ≡ k)
      below zero zero within = inr refl
      below zero (suc c) within = absurd (omega (arith, within))
      below (suc k) zero within = inl (omega arith)
      below (suc k) (suc c) within = ⊎_elim (λ (less : c < k). inl (omega (arith, less))) (λ (same : c ≡ k). inr (ap suc same))
          (below k c (omega (arith, within)))

  bad_root_none : (at : ℕ) (file : List ℕ) (k : ℕ) → IsBadRoot at file → HasBodies (roots k) file → ⊥
  bad_root_none at file k bad has = go bad.bad
    where
      c : ℕ
      c = bad.checkpoints

      go : IsCut (roots c) file ⊎ HasBadNumber c file → ⊥
      go (inl cut) = cut_none (roots c) (roots k) file (short_roots c) cut has
      go (inr number) =
          let next = next_stands (roots c) (roots k) number.body number.rest file number.spelled (short_roots c) number.short has in
          let others = next.0 in
          let longer : k ≡ c + 1 + length others = omega (
            arith,
            sym (length_roots k),
            ap length next.1,
            length-append (roots c) (number.body ∷ others),
            length_roots c,
          ) in
          let here : get_or (roots k) c [] ≡ number.body =
          ap (λ (l : List (List ℕ)). get_or l c []) next.1
          ∙ ap (λ (n : ℕ). get_or (roots c ++ number.body ∷ others) n []) (sym (length_roots c))
          ∙ get_or-append_seam (roots c) number.body others [] in
          number.refused (sym here ∙ number_at k c (omega (arith, longer)))

  pub bad_nowhere : (file : File) (at : ℕ) (image : Image) (book : NamedItems) → IsBadLog fits file at image → LeadsTo fits book image → ⊥
  bad_nowhere file at image book (inl root) leads = bad_root_none at (bytes_in image (log_file 0)) leads.checkpoints root.1 leads.in_root
  bad_nowhere file at image book (inr log) leads =
      let k = log.0 in
      let same : leads.checkpoints ≡ k = same_checkpoints image leads.checkpoints k leads.in_root log.1 in
      bad_gate_none (Taken fits (current k)) empty at (bytes_in image (current k)) log.3 leads.bodies book
      (subst (λ (n : ℕ). HasBodies leads.bodies (bytes_in image (current n))) same leads.in_log)
      (subst (λ (n : ℕ). Replays (Taken fits (current n)) leads.bodies empty book) same leads.replayed)

-- the next run
pub begun_items : (fresh : Bool) (run : ℕ) (s : Snapshot) → (begun fresh run s).book ≡ replay (first_items fresh run) s.book
begun_items true run s = refl
begun_items false run s = refl

pub begun_next : (book : NamedItems) (run : ℕ) (s : Snapshot) → s.book ≡ book → run ≡ run_in book + 1 →
    (begun (not (has_settings s.book)) run s).book ≡ next_run book
begun_next book run s is next =
    begun_items (not (has_settings s.book)) run s
    ∙ ap (λ (b : NamedItems). replay (first_items (not (has_settings b)) run) b) is
    ∙ ap (λ (n : ℕ). replay (first_items (not (has_settings book)) n) book) next

pub removals_next : (fresh : Bool) (run : ℕ) (s : Snapshot) → removals_in (begun fresh run s).book ≡ removals_in s.book
removals_next true run s = refl
removals_next false run s = refl
