-- How runs of a disk's calls are put together.
use Rattle.std.proofs.Common.{◌≡◌, ◌≢◌, ◌≤◌, ℕ, List, [], Option, None, Some, refl, inl, inr, ⊎_elim, ◌∙◌, ap, subst, sym, arith}
use Rattle.ix_base.specs.declared.files.File.{File}
use Rattle.ix_disk.specs.Image.{Image, content, bytes_in, Torn, overwritten, MayWrite, Writes, MayRemove, Removes, Reached, Stays}
use Rattle.ix_base.specs.Told.{Told}
use Rattle.ix_base.specs.Faults.{Rose}
use Rattle.ix_disk.specs.Moments.{ImagesStep, InFile, Holds, Reads, Always}
use Rattle.ix_disk.specs.declared.disk.Disk.{Ghosts}

some_is : (a b : Image) → Some a ≡ Some b → a ≡ b
some_is a b is = cc

none_is : (a : Image) → None ≡ Some a → ⊥
none_is a is = cc

-- what a read gives now came from what it gave before
pub seen_before : (step : Image → Image → Type 0) (old new : Option Image) → Told step old new → (after : Image) → new ≡ Some after →
    (before : Image) × (old ≡ Some before) × step before after
seen_before step (Some before) (Some now) sees after is = (before, refl, subst (λ (i : Image). step before i) (some_is now after is) sees)
seen_before step None (Some now) sees after is = absurd sees
seen_before step (Some before) None sees after is = absurd sees
seen_before step None None sees after is = absurd (none_is after is)

-- a count that rose in a part of a run rose in the run
pub rose_earlier : (first mid last : ℕ) → Rose first mid → mid ≤ last → Rose first last
rose_earlier first mid last (inl risen) le = inl (omega arith)
rose_earlier first mid last (inr full) le = inr (omega arith)

pub rose_later : (first mid last : ℕ) → first ≤ mid → Rose mid last → Rose first last
rose_later first mid last le (inl risen) = inl (omega arith)
rose_later first mid last le (inr full) = inr full

module _ {D : Type 0} (g : Ghosts D) where
  -- what each image has at the start, and keeps through the steps of a run, it has always
  pub always : (old new : D) (step : Image → Image → Type 0) (P Q : Image → Type 0) → ImagesStep g old new step →
      ((image : Image) → g.may_leave old image → P image) → ((a b : Image) → P a → step a b → Q b) → Always g old new Q
  always old new step P Q goes at_start leads = record {
    later = goes.later;
    now = λ image left. reached image (goes.now image left);
    since = λ t image le left. ⊎_elim (λ past. inl past) (λ from. inr (reached image from)) (goes.since t image le left);
  }
    where
      reached : (image : Image) → Reached (g.may_leave old) step image → Q image
      reached image from = leads from.0 image (at_start from.0 from.1) from.2

  -- one part of a run behind another
  pub always_on : (old mid new : D) (P : Image → Type 0) → Always g old mid P → Always g mid new P → Always g old new P
  always_on old mid new P first second = record {
    later = omega (arith, first.later, second.later);
    now = second.now;
    since = λ t image le left. ⊎_elim (first.since t image le) (λ p. inr p) (second.since t image (omega (arith, le, first.later)) left);
  }

  -- each image at each moment since old
  pub each_moment : (old new : D) (P : Image → Type 0) →
      ((image : Image) (disk : D) → g.left_since disk (g.moment disk) image → g.may_leave disk image)
      → ((image : Image) → g.may_leave old image → P image) → Always g old new P → (image : Image) → g.left_since new (g.moment old) image →
      P image
  each_moment old new P only_now at_start run image left =
      ⊎_elim (λ past. at_start image (only_now image old past)) (λ p. p) (run.since (g.moment old) image (omega arith) left)

  -- before the first call
  pub begins : (old : D) (file : File) (P : List ℕ → Type 0) → Holds g old file P → ImagesStep g old old (InFile file P)
  begins old file P holds = record {
    later = omega arith;
    now = λ image left. (image, left, record { others = λ other ne. refl; holds = holds image left });
    since = λ t image le left. inl left;
    keeps = λ t image le left. left;
  }

  -- one call more, which leaves the other files, and after which the file holds what has P
  pub goes_on : (old mid new : D) (file : File) (P : List ℕ → Type 0) (step : Image → Image → Type 0)
      → ImagesStep g old mid (InFile file P) → ImagesStep g mid new step
      → ((a b : Image) → g.may_leave mid a → step a b → InFile file P a b)
      → ImagesStep g old new (InFile file P)
  goes_on old mid new file P step first then_ leads = record {
    later = omega (arith, first.later, then_.later);
    now = λ image left. joined image (then_.now image left);
    since = λ t image le left. ⊎_elim (first.since t image le) (λ reached. inr (joined image reached))
        (then_.since t image (omega (arith, le, first.later)) left);
    keeps = λ t image le left. then_.keeps t image (omega (arith, le, first.later)) (first.keeps t image le left);
  }
    where
      joined : (image : Image) → Reached (g.may_leave mid) step image → Reached (g.may_leave old) (InFile file P) image
      joined image reached =
          let second = leads reached.0 image reached.1 reached.2 in
          let origin = first.now reached.0 reached.1 in
          (origin.0, origin.1, record { others = λ other ne. second.others other ne ∙ origin.2.others other ne; holds = second.holds })

  -- what each image held before a call that changes nothing, it holds after it
  pub still : (old new : D) (file : File) (P : List ℕ → Type 0) → ImagesStep g old new Stays → Holds g old file P → Holds g new file P
  still old new file P stays holds image left =
      let from = stays.now image left in
      subst (λ (i : Image). P (bytes_in i file)) (sym from.2) (holds from.0 from.1)

  -- what holds of the file in a run may be said more weakly
  pub weaker : (old new : D) (file : File) (P Q : List ℕ → Type 0) → ((bytes : List ℕ) → P bytes → Q bytes) →
      ImagesStep g old new (InFile file P) → ImagesStep g old new (InFile file Q)
  weaker old new file P Q so goes = record {
    later = goes.later;
    now = λ image left. let from = goes.now image left in (from.0, from.1, record { others = from.2.others; holds = so _ from.2.holds });
    since = λ t image le left. ⊎_elim (λ past. inl past)
        (λ from. inr (from.0, from.1, record { others = from.2.others; holds = so _ from.2.holds })) (goes.since t image le left);
    keeps = goes.keeps;
  }

  -- what each image holds after a run
  pub ends : (old new : D) (file : File) (P : List ℕ → Type 0) → ImagesStep g old new (InFile file P) → Holds g new file P
  ends old new file P goes image left = (goes.now image left).2.holds

  -- a file that a run leaves alone holds what it held
  pub elsewhere : (old new : D) (file other : File) (P Q : List ℕ → Type 0) → other ≢ file → ImagesStep g old new (InFile file P) →
      Holds g old other Q → Holds g new other Q
  elsewhere old new file other P Q ne goes holds image left =
      let from = goes.now image left in
      subst Q (sym (ap content (from.2.others other ne))) (holds from.0 from.1)

  module _ (mid new : D) (file : File) (at n : ℕ) (N P : List ℕ →
      Type 0) (write : ImagesStep g mid new (MayWrite file at n)) (holds : Holds g mid file N) (leads : (a b : List ℕ) → N a →
      Torn at n a b → P b) where
    -- one write more in a run over the file
    pub write_on : (old : D) → ImagesStep g old mid (InFile file P) → ImagesStep g old new (InFile file P)
    write_on old first = goes_on old mid new file P (MayWrite file at n) first write
        (λ a b left step. record { others = step.others; holds = leads _ _ (holds a left) step.torn })

    -- the first call of a run
    pub write_first : ImagesStep g mid new (InFile file P)
    write_first = record {
      later = write.later;
      now = λ image left. step image (write.now image left);
      since = λ t image le left. ⊎_elim (λ past. inl past) (λ from. inr (step image from)) (write.since t image le left);
      keeps = write.keeps;
    }
      where
        step : (image : Image) → Reached (g.may_leave mid) (MayWrite file at n) image → Reached (g.may_leave mid) (InFile file P) image
        step image from = (from.0, from.1, record { others = from.2.others; holds = leads _ _ (holds from.0 from.1) from.2.torn })

    -- what each image holds after it
    pub write_holds : Holds g new file P
    write_holds image left = let from = write.now image left in leads _ _ (holds from.0 from.1) from.2.torn

  -- a run goes on by another over the same file
  pub run_on : (old mid new : D) (file : File) (P : List ℕ → Type 0) → ImagesStep g old mid (InFile file P) →
      ImagesStep g mid new (InFile file P) → ImagesStep g old new (InFile file P)
  run_on old mid new file P first second = goes_on old mid new file P (InFile file P) first second (λ a b left step. step)

  -- one call more in such a run that changes nothing
  pub stay_on : (old mid new : D) (file : File) (P : List ℕ → Type 0) → ImagesStep g old mid (InFile file P) → ImagesStep g mid new Stays →
      Holds g mid file P → ImagesStep g old new (InFile file P)
  stay_on old mid new file P first stays holds =
      goes_on old mid new file P Stays first stays (λ a b left is. record {
        others = λ other ne. ap (λ (i : Image). i other) is;
        holds = subst (λ (i : Image). P (bytes_in i file)) (sym is) (holds a left);
      })

  -- what a read gives after a write
  pub write_reads : (old new : D) (file : File) (at : ℕ) (bytes : List ℕ) (P Q : List ℕ → Type 0) →
      Told (Writes file at bytes) (g.seen old) (g.seen new) → Reads g old file P
      → ((a : List ℕ) → P a → Q (overwritten at bytes a)) → Reads g new file Q
  write_reads old new file at bytes P Q sees reads leads image is =
      let from = seen_before (Writes file at bytes) (g.seen old) (g.seen new) sees image is in
      subst Q (sym (ap content from.2.written)) (leads _ (reads from.0 from.1))

  -- what a read gives after a call that changes nothing
  pub stay_reads : (old new : D) (file : File) (P : List ℕ → Type 0) → g.seen new ≡ g.seen old → Reads g old file P → Reads g new file P
  stay_reads old new file P same reads image is = reads image (sym same ∙ is)

  -- after a sync each image holds what a read gives
  pub settles : (disk : D) (file : File) (P : List ℕ → Type 0) →
      ((image : Image) → g.may_leave disk image → (read : Image) × (g.seen disk ≡ Some read) × (image file ≡ read file)) →
      Reads g disk file P → Holds g disk file P
  settles disk file P settled reads image left =
      let as_read = settled image left in
      subst P (sym (ap content as_read.2)) (reads as_read.0 as_read.1)

  -- a read gives what each image holds
  pub holds_reads : ((image : Image) (disk : D) → g.seen disk ≡ Some image → g.may_leave disk image) →
      (disk : D) (file : File) (P : List ℕ → Type 0) → Holds g disk file P → Reads g disk file P
  holds_reads may_stay disk file P holds image is = holds image (may_stay image disk is)

  -- no call at all
  pub nowhere : (disk : D) → ImagesStep g disk disk Stays
  nowhere disk = record {
    later = omega arith;
    now = λ image left. (image, left, refl);
    since = λ t image le left. inl left;
    keeps = λ t image le left. left;
  }

  -- one run behind another, each with a step of its own
  pub joined : (old mid new : D) (first second whole : Image → Image → Type 0) → ((a b : Image) → first a b → whole a b) →
      ((a b c : Image) → first a b → second b c → whole a c)
      → ImagesStep g old mid first → ImagesStep g mid new second → ImagesStep g old new whole
  joined old mid new first second whole part both run then_ = record {
    later = omega (arith, run.later, then_.later);
    now = λ image left. behind image (then_.now image left);
    since = λ t image le left. ⊎_elim
        (λ (past : g.left_since mid t image). ⊎_elim (λ past. inl past) (λ reached. inr (reached.0, reached.1, part _ _ reached.2))
        (run.since t image le past))
        (λ (reached : Reached (g.may_leave mid) second image). inr (behind image reached))
        (then_.since t image (omega (arith, le, run.later)) left);
    keeps = λ t image le left. then_.keeps t image (omega (arith, le, run.later)) (run.keeps t image le left);
  }
    where
      behind : (image : Image) → Reached (g.may_leave mid) second image → Reached (g.may_leave old) whole image
      behind image reached =
          let origin = run.now reached.0 reached.1 in
          (origin.0, origin.1, both _ _ _ origin.2 reached.2)

  -- calls that change nothing, one behind the other
  pub stays_on : (old mid new : D) → ImagesStep g old mid Stays → ImagesStep g mid new Stays → ImagesStep g old new Stays
  stays_on old mid new first second = record {
    later = omega (arith, first.later, second.later);
    now = λ image left. still_there image (second.now image left);
    since = λ t image le left. ⊎_elim (first.since t image le) (λ reached. inr (still_there image reached))
        (second.since t image (omega (arith, le, first.later)) left);
    keeps = λ t image le left. second.keeps t image (omega (arith, le, first.later)) (first.keeps t image le left);
  }
    where
      still_there : (image : Image) → Reached (g.may_leave mid) Stays image → Reached (g.may_leave old) Stays image
      still_there image reached =
          let origin = first.now reached.0 reached.1 in
          (origin.0, origin.1, reached.2 ∙ origin.2)

  -- what all images have, they have after calls that change nothing
  pub still_all : (old new : D) (P : Image → Type 0) → ImagesStep g old new Stays → ((image : Image) → g.may_leave old image → P image) →
      (image : Image) → g.may_leave new image → P image
  still_all old new P stays at_start image left =
      let from = stays.now image left in
      subst P (sym from.2) (at_start from.0 from.1)

  module _ (mid new : D) (file : File) (N P : List ℕ → Type 0) (remove : ImagesStep g mid new (MayRemove file)) (holds : Holds g mid file N)
      (stay : (a : List ℕ) → N a → P a) (gone : P []) where
    removal : (a b : Image) → g.may_leave mid a → MayRemove file a b → InFile file P a b
    removal a b left step = record {
      others = step.others;
      holds = ⊎_elim
          (λ (same : b file ≡ a file). subst P (sym (ap content same)) (stay _ (holds a left)))
          (λ (none : b file ≡ None). subst P (sym (ap content none)) gone)
          step.either;
    }

    -- a removal in a run over the file
    pub remove_on : (old : D) → ImagesStep g old mid (InFile file P) → ImagesStep g old new (InFile file P)
    remove_on old first = goes_on old mid new file P (MayRemove file) first remove removal

    -- a removal as the first call of a run
    pub remove_first : ImagesStep g mid new (InFile file P)
    remove_first = record {
      later = remove.later;
      now = λ image left. step image (remove.now image left);
      since = λ t image le left. ⊎_elim (λ past. inl past) (λ from. inr (step image from)) (remove.since t image le left);
      keeps = remove.keeps;
    }
      where
        step : (image : Image) → Reached (g.may_leave mid) (MayRemove file) image → Reached (g.may_leave mid) (InFile file P) image
        step image from = (from.0, from.1, removal from.0 image from.1 from.2)

    -- what each image holds after it
    pub remove_holds : Holds g new file P
    remove_holds image left = let from = remove.now image left in (removal from.0 image from.1 from.2).holds

  -- what a read gives after a removal
  pub remove_reads : (old new : D) (file : File) (P : List ℕ → Type 0) → Told (Removes file) (g.seen old) (g.seen new) → P [] →
      Reads g new file P
  remove_reads old new file P told gone image is =
      let from = seen_before (Removes file) (g.seen old) (g.seen new) told image is in
      subst P (sym (ap content from.2.gone)) gone

  -- what all images have, they have always while no call is made
  pub always_begins : (disk : D) (P : Image → Type 0) → ((image : Image) → g.may_leave disk image → P image) → Always g disk disk P
  always_begins disk P at_start = record {
    later = omega arith;
    now = at_start;
    since = λ t image le left. inl left;
  }

  -- calls that change nothing
  pub always_still : (old new : D) (P : Image → Type 0) → ImagesStep g old new Stays → ((image : Image) → g.may_leave old image → P image) →
      Always g old new P
  always_still old new P stays at_start = always old new Stays P P stays at_start (λ a b p is. subst P (sym is) p)

  -- what is always so may be said more weakly
  pub always_weaker : (old new : D) (P Q : Image → Type 0) → ((image : Image) → P image → Q image) → Always g old new P → Always g old new Q
  always_weaker old new P Q so run = record {
    later = run.later;
    now = λ image left. so image (run.now image left);
    since = λ t image le left. ⊎_elim (λ past. inl past) (λ p. inr (so image p)) (run.since t image le left);
  }
