-- What one more call in the record of a disk in memory changes.
use Rattle.std.proofs.Common.{◌≡◌, ◌≢◌, ◌⊎◌, inl, inr, ⊎_elim, ℕ, ◌+◌, ◌<◌, ◌≤◌, List, [], ◌∷◌, ◌++◌, length, take, Bool, true, false}
use Rattle.std.proofs.Common.{Option, None, if◌then◌else◌, nat_le, refl, sym, ◌∙◌, ap, subst, arith, length-append}
use Rattle.std.proofs.lemmas.Bool.Decides.{nat_tests}
use Rattle.std.proofs.lemmas.List.{take_all, take-append-le}
use Rattle.ix_base.specs.declared.files.File.{File}
use Rattle.ix_disk.specs.Image.{Image, content, bytes_in, MayWrite, Writes, MayRemove, Removes, Stays, Reached, Passes}
use Rattle.ix_disk.specs.declared.past.Call.{Call}
use Rattle.ix_disk.specs.declared.past.Call.TheVariants.{Wrote, Settled, Removed, Asked}
use Rattle.ix_disk.specs.Files.{is_same, same_file, told_same, told_other}
use Rattle.ix_disk.specs.Contents.{changed, over, ones_in, become}
use Rattle.ix_disk.specs.Memory.{see, see_all, seen_after, tear, tear_all, torn_after, Leaves, left_all, LeftBy, LeftSince, Grows}
use Rattle.ix_disk.specs.Memory.{Torn-refl, seen_all}

pub see_push : (calls : List Call) (call : Call) (f : File) (seen : Option (List ℕ)) →
    see_all (calls ++ call ∷ []) f seen ≡ see call f (see_all calls f seen)
see_push [] call f seen = refl
see_push (c ∷ calls) call f seen = see_push calls call f (see c f seen)

left_push : (calls : List Call) (call : Call) (f : File) (seen : Option (List ℕ)) (images : Option (List ℕ) →
    Type 0) (new : Option (List ℕ)) → left_all (calls ++ call ∷ []) f seen images new
    → (old : Option (List ℕ)) × left_all calls f seen images old × Leaves call f (see_all calls f seen) old new
left_push [] call f seen images new left = left
left_push (c ∷ calls) call f seen images new left = left_push calls call f (see c f seen) _ new left

-- a call that is not kept
pub not_kept : (calls : List Call) (step : Image → Image → Type 0) → ((image : Image) → step image image) → Grows calls calls step
not_kept calls step stays = record {
  later = omega arith;
  now = λ image left. (image, left, stays image);
  since = λ t image le left. inl left;
  keeps = λ t image le left. left;
}

module _ (calls : List Call) (call : Call) (step : Image → Image → Type 0)
    (leads : (image : Image) → LeftBy (calls ++ call ∷ []) image → Reached (LeftBy calls) step image) where
  all : List Call
  all = calls ++ call ∷ []

  size : length (calls ++ call ∷ []) ≡ length calls + 1
  size = omega (arith, length-append calls (call ∷ []))

  past : (k : ℕ) (image : Image) → k ≤ length calls → LeftBy (take k (calls ++ call ∷ [])) image → LeftBy (take k calls) image
  past k image le left = subst (λ (cs : List Call). LeftBy cs image) (take-append-le k calls (call ∷ []) le) left

  since_then : (t : ℕ) (image : Image) → LeftSince (calls ++ call ∷ []) t image → LeftSince calls t image
      ⊎ Reached (LeftBy calls) step image
  since_then t image left = ⊎_elim
      (λ (le : left.0 ≤ length calls). inl (left.0, left.1, le, past left.0 image le left.3))
      (λ (lt : length calls < left.0). inr (leads image
      (subst (λ (cs : List Call). LeftBy cs image) (take_all left.0 (calls ++ call ∷ []) (omega (arith, size))) left.3)))
      (le_or_lt left.0 (length calls))
    where
      le_or_lt : (m n : ℕ) → (m ≤ n) ⊎ (n < m)
      le_or_lt m n = grind arith

  -- one that is kept
  pub is_kept : Grows calls (calls ++ call ∷ []) step
  is_kept = record {
    later = omega (arith, size);
    now = leads;
    since = λ t image le left. since_then t image left;
    keeps = λ t image le left. (
      left.0,
      left.1,
      omega (arith, size, left.2),
      subst (λ (cs : List Call). LeftBy cs image) (sym (take-append-le left.0 calls (call ∷ []) left.2)) left.3,
    );
  }

-- where each file's step makes the step of all of them
by_file : (calls : List Call) (call : Call) (step : Image → Image → Type 0) →
    ((old new : Image) → ((f : File) → Leaves call f (seen_after calls f) (old f) (new f)) → step old new)
    → (image : Image) → LeftBy (calls ++ call ∷ []) image → Reached (LeftBy calls) step image
by_file calls call step leads image left =
    let from = λ (f : File). left_push calls call f None (λ old. old ≡ None) (image f) (left f) in
    ((λ f. (from f).0), (λ f. (from f).1), leads _ _ (λ f. (from f).2))

elsewhere : (f file : File) (A : Type 0) (old new : Option (List ℕ)) → f ≢ file → ((f ≡ file) × A) ⊎ ((f ≢ file) × (new ≡ old)) → new ≡ old
elsewhere f file A old new ne (inl here) = absurd (ne here.0)
elsewhere f file A old new ne (inr there) = there.1

here : (file : File) (A B : Type 0) → ((file ≡ file) × A) ⊎ ((file ≢ file) × B) → A
here file A B (inl is) = is.1
here file A B (inr not) = absurd (not.0 refl)

pub wrote : (calls : List Call) (file : File) (at : ℕ) (bytes : _) (done : Bool) →
    Grows calls (calls ++ Wrote file at bytes done ∷ []) (MayWrite file at (length bytes))
wrote calls file at bytes done = is_kept calls (Wrote file at bytes done) _ (by_file calls (Wrote file at bytes done) _ (λ old new each.
    let tears = here file _ _ (each file) in
    record { others = λ f ne. elsewhere f file _ _ _ ne (each f); torn = tears.torn; missing = tears.missing }))

pub removed : (calls : List Call) (file : File) (done : Bool) → Grows calls (calls ++ Removed file done ∷ []) (MayRemove file)
removed calls file done = is_kept calls (Removed file done) _ (by_file calls (Removed file done) _ (λ old new each.
    record { others = λ f ne. elsewhere f file _ _ _ ne (each f); either = here file _ _ (each file) }))

pub asked : (calls : List Call) (file : File) → Grows calls (calls ++ Asked file ∷ []) Stays
asked calls file = is_kept calls (Asked file) _ (by_file calls (Asked file) _ (λ old new each. λ i f. each f i))

pub unsettled : (calls : List Call) (file : File) → Grows calls (calls ++ Settled file false ∷ []) Stays
unsettled calls file = is_kept calls (Settled file false) _ (by_file calls (Settled file false) _ (λ old new each. λ i f. each f i))

-- a sync takes outcomes away, and leaves what a read gives
settled_leads : (calls : List Call) (file : File) (image : Image) → LeftBy (calls ++ Settled file true ∷ []) image → LeftBy calls image
settled_leads calls file image left f =
    let from = left_push calls (Settled file true) f None (λ old. old ≡ None) (image f) (left f) in
    go from.0 from.1 from.2
  where
    go : (old : Option (List ℕ)) → left_all calls f None (λ old. old ≡ None) old →
        Leaves (Settled file true) f (seen_after calls f) old (image f) → left_all calls f None (λ old. old ≡ None) (image f)
    go old before (inl is) = subst (λ (o : Option (List ℕ)). left_all calls f None (λ old. old ≡ None) o) (sym is.1)
        (seen_all calls f None (λ old. old ≡ None) refl)
    go old before (inr ne) = subst (λ (o : Option (List ℕ)). left_all calls f None (λ old. old ≡ None) o) (sym ne.1) before

pub settled : (calls : List Call) (file : File) → Grows calls (calls ++ Settled file true ∷ []) Stays
settled calls file = is_kept calls (Settled file true) _ (λ image left. (image, settled_leads calls file image left, refl))

pub settled_file : (calls : List Call) (file : File) (image : Image) → LeftBy (calls ++ Settled file true ∷ []) image →
    image file ≡ seen_after calls file
settled_file calls file image left =
    let from = left_push calls (Settled file true) file None (λ old. old ≡ None) (image file) (left file) in
    here file _ _ from.2

-- what a read gives after each of them
pub same_seen : (calls : List Call) (call : Call) → ((f : File) → see call f (seen_after calls f) ≡ seen_after calls f) →
    seen_after (calls ++ call ∷ []) ≡ seen_after calls
same_seen calls call same = λ i f. (see_push calls call f None ∙ same f) i

pub as_it_was : (at n : ℕ) (file : File) (image : Image) → MayWrite file at n image image
as_it_was at n file image = record { others = λ f ne. refl; torn = Torn-refl at n (bytes_in image file); missing = λ e. e }

pub not_removed : (file : File) (image : Image) → MayRemove file image image
not_removed file image = record { others = λ f ne. refl; either = inl refl }

-- what a read of each file gives after a write that begins within the file
pub wrote_now : (calls : List Call) (file : File) (at : ℕ) (bytes : List ℕ) → at ≤ length (bytes_in (seen_after calls) file)
    → (f : File) → seen_after (calls ++ Wrote file at bytes true ∷ []) f ≡ changed file (over at bytes) f (seen_after calls f)
wrote_now calls file at bytes le f = see_push calls (Wrote file at bytes true) f None ∙ go (is_same f file) refl
  where
    seen : Option (List ℕ)
    seen = seen_after calls f

    both : (fits : Bool) → (if fits then seen else seen) ≡ seen
    both true = refl
    both false = refl

    here : is_same f file ≡ true → nat_le at (length (content (seen_after calls f))) ≡ true
    here is =
        let le_here : at ≤ length (content (seen_after calls f)) =
        subst (λ (g : File). at ≤ length (content (seen_after calls g))) (sym (same_file f file is)) le in
        grind (arith, nat_tests)

    go : (told : Bool) → is_same f file ≡ told
        → (if nat_le at (length (content seen)) then (if is_same f file then over at bytes seen else seen) else seen) ≡ (if is_same f file
        then over at bytes seen else seen)
    go true is = ap (λ (b : Bool). if b then (if is_same f file then over at bytes seen else seen) else seen) (here is)
    go false is =
        ap (λ (b : Bool). if nat_le at (length (content seen)) then (if b then over at bytes seen else seen) else seen) is
        ∙ both (nat_le at (length (content seen)))
        ∙ sym (ap (λ (b : Bool). if b then over at bytes seen else seen) is)

pub wrote_seen : (calls : List Call) (file : File) (at : ℕ) (bytes : List ℕ) → at ≤ length (bytes_in (seen_after calls) file) →
    Writes file at bytes (seen_after calls) (seen_after (calls ++ Wrote file at bytes true ∷ []))
wrote_seen calls file at bytes le = record {
  others = λ f ne. wrote_now calls file at bytes le f ∙ ap
      (λ (b : Bool). if b then over at bytes (seen_after calls f) else seen_after calls f) (told_other f file ne);
  written = wrote_now calls file at bytes le file ∙ ap (λ (b : Bool).
      if b then over at bytes (seen_after calls file) else seen_after calls file) (told_same file file refl);
}

pub unwritten_seen : (calls : List Call) (file : File) (at : ℕ) (bytes : _) →
    seen_after (calls ++ Wrote file at bytes false ∷ []) ≡ seen_after calls
unwritten_seen calls file at bytes = same_seen calls (Wrote file at bytes false) (λ f. refl)

pub removed_now : (calls : List Call) (file : File) → (f : File) →
    seen_after (calls ++ Removed file true ∷ []) f ≡ changed file (become None) f (seen_after calls f)
removed_now calls file f = see_push calls (Removed file true) f None

pub removed_seen : (calls : List Call) (file : File) → Removes file (seen_after calls) (seen_after (calls ++ Removed file true ∷ []))
removed_seen calls file = record {
  others = λ f ne. removed_now calls file f ∙ ap (λ (b : Bool). if b then None else seen_after calls f) (told_other f file ne);
  gone = removed_now calls file file ∙ ap (λ (b : Bool). if b then None else seen_after calls file) (told_same file file refl);
}

pub unremoved_seen : (calls : List Call) (file : File) → seen_after (calls ++ Removed file false ∷ []) ≡ seen_after calls
unremoved_seen calls file = same_seen calls (Removed file false) (λ f. refl)

-- what a read gives after a removal that is kept
pub removed_sees : (calls now : List Call) (file : File) → now ≡ calls ++ Removed file true ∷ [] →
    Removes file (seen_after calls) (seen_after now)
removed_sees calls now file is = subst (λ (l : List Call). Removes file (seen_after calls) (seen_after l)) (sym is)
    (removed_seen calls file)

pub unremoved_sees : (calls now : List Call) (file : File) → now ≡ calls ++ Removed file false ∷ [] →
    MayRemove file (seen_after calls) (seen_after now)
unremoved_sees calls now file is = subst (λ (l : List Call). MayRemove file (seen_after calls) (seen_after l)) (sym is)
    (subst (λ (i : Image). MayRemove file (seen_after calls) i) (sym (unremoved_seen calls file)) (not_removed file (seen_after calls)))

pub settled_seen : (calls : List Call) (file : File) (done : Bool) → seen_after (calls ++ Settled file done ∷ []) ≡ seen_after calls
settled_seen calls file done = same_seen calls (Settled file done) (λ f. refl)

pub asked_seen : (calls : List Call) (file : File) → seen_after (calls ++ Asked file ∷ []) ≡ seen_after calls
asked_seen calls file = same_seen calls (Asked file) (λ f. refl)

-- what the worst of crashes leaves after one call more
tear_push : (calls : List Call) (call : Call) (f : File) (seen torn : Option (List ℕ))
    → tear_all (calls ++ call ∷ []) f seen torn ≡ tear call f (see_all calls f seen) (tear_all calls f seen torn)
tear_push [] call f seen torn = refl
tear_push (c ∷ calls) call f seen torn = tear_push calls call f (see c f seen) (tear c f seen torn)

pub wrote_torn : (calls : List Call) (file : File) (at : ℕ) (bytes : List ℕ) (done : Bool) (f : File)
    → torn_after (calls ++ Wrote file at bytes done ∷ []) f ≡ changed file (ones_in at (length bytes)) f (torn_after calls f)
wrote_torn calls file at bytes done f = tear_push calls (Wrote file at bytes done) f None None

pub settled_torn : (calls : List Call) (file f : File) →
    torn_after (calls ++ Settled file true ∷ []) f ≡ changed file (become (seen_after calls f)) f (torn_after calls f)
settled_torn calls file f = tear_push calls (Settled file true) f None None

pub unsettled_torn : (calls : List Call) (file f : File) → torn_after (calls ++ Settled file false ∷ []) f ≡ torn_after calls f
unsettled_torn calls file f = tear_push calls (Settled file false) f None None

pub removed_torn : (calls : List Call) (file : File) (done : Bool) (f : File) →
    torn_after (calls ++ Removed file done ∷ []) f ≡ torn_after calls f
removed_torn calls file done f = tear_push calls (Removed file done) f None None

pub asked_torn : (calls : List Call) (file f : File) → torn_after (calls ++ Asked file ∷ []) f ≡ torn_after calls f
asked_torn calls file f = tear_push calls (Asked file) f None None

-- a sync gives the file what a read gives of it
pub settled_here : (image : Image) (file f : File) (old : Option (List ℕ)) →
    changed file (become (image file)) f old ≡ changed file (become (image f)) f old
settled_here image file f old = go (is_same f file) refl
  where
    go : (told : Bool) → is_same f file ≡ told → (if told then image file else old) ≡ (if told then image f else old)
    go true is = ap image (sym (same_file f file is))
    go false is = refl

-- A disk that is a record of calls goes as the record grows.
pub passes : {D : Type 0} (calls_of : D → List Call) (old new : D) (step : Image → Image → Type 0) →
    Grows (calls_of old) (calls_of new) step
    → Passes (λ d. LeftBy (calls_of d)) (λ d. length (calls_of d)) (λ d. LeftSince (calls_of d)) old new step
passes calls_of old new step k = record { later = k.later; now = k.now; since = k.since; keeps = k.keeps }

pub grown : (calls now later : List Call) (step : Image → Image → Type 0) → now ≡ later → Grows calls later step → Grows calls now step
grown calls now later step is grows = subst (λ (l : List Call). Grows calls l step) (sym is) grows

-- a call that is not kept leaves what a read gives
pub still_written : (calls now : List Call) (file : File) (at n : ℕ) → now ≡ calls → MayWrite file at n (seen_after calls) (seen_after now)
still_written calls now file at n is = subst (λ (l : List Call). MayWrite file at n (seen_after calls) (seen_after l)) (sym is)
    (as_it_was at n file (seen_after calls))

pub still_removed : (calls now : List Call) (file : File) → now ≡ calls → MayRemove file (seen_after calls) (seen_after now)
still_removed calls now file is = subst (λ (l : List Call). MayRemove file (seen_after calls) (seen_after l)) (sym is)
    (not_removed file (seen_after calls))

pub seen_by : (now later : List Call) → now ≡ later → (f : File) → seen_after now f ≡ seen_after later f
seen_by now later is f = ap (λ (l : List Call). seen_after l f) is

pub torn_by : (now later : List Call) → now ≡ later → (f : File) → torn_after now f ≡ torn_after later f
torn_by now later is f = ap (λ (l : List Call). torn_after l f) is

-- a call that is kept or isn't
either : (calls now : List Call) (call : Call) (P : List Call → Type 0) → P (calls ++ call ∷ []) → P calls → (now ≡ calls ++ call ∷ [])
    ⊎ (now ≡ calls) → P now
either calls now call P kept not (inl is) = subst P (sym is) kept
either calls now call P kept not (inr is) = subst P (sym is) not

module _ (calls now : List Call) (file : File) (kept : (now ≡ calls ++ Asked file ∷ []) ⊎ (now ≡ calls)) where
  pub ask_grows : Grows calls now Stays
  ask_grows = either calls now (Asked file) (λ (l : List Call). Grows calls l Stays) (asked calls file)
      (not_kept calls Stays (λ image. refl)) kept

  pub ask_seen : (f : File) → seen_after now f ≡ seen_after calls f
  ask_seen f = either calls now (Asked file) (λ (l : List Call). seen_after l f ≡ seen_after calls f) (see_push calls (Asked file) f None)
      refl kept

  pub ask_torn : (f : File) → torn_after now f ≡ torn_after calls f
  ask_torn f = either calls now (Asked file) (λ (l : List Call). torn_after l f ≡ torn_after calls f) (asked_torn calls file f) refl kept

-- a write of a copy of the bytes, behind calls that are the same
pub copied_write : (calls mid : List Call) (file : File) (at : ℕ) (copy bytes : List ℕ) (done : Bool) → mid ≡ calls → copy ≡ bytes → mid
    ++ Wrote file at copy done ∷ [] ≡ calls ++ Wrote file at bytes done ∷ []
copied_write calls mid file at copy bytes done same copied =
    ap (λ (l : List Call). l ++ Wrote file at copy done ∷ []) same ∙ ap (λ (b : List ℕ). calls ++ Wrote file at b done ∷ []) copied

module _ (A : Type 0) (calls mid now : List Call) (file : File) (at : ℕ) (copy bytes : List ℕ) (same : mid ≡ calls) (copied : copy ≡ bytes)
    (kept : (now ≡ mid ++ Wrote file at copy false ∷ []) ⊎ (A × (now ≡ mid))) where
  begun_kept : (now ≡ calls ++ Wrote file at bytes false ∷ []) ⊎ (now ≡ calls)
  begun_kept = ⊎_elim (λ is. inl (is ∙ copied_write calls mid file at copy bytes false same copied)) (λ is. inr (is.1 ∙ same)) kept

  -- one that fails
  pub begun_goes : Grows calls now (MayWrite file at (length bytes))
  begun_goes = either calls now (Wrote file at bytes false) (λ (l : List Call). Grows calls l (MayWrite file at (length bytes)))
      (wrote calls file at bytes false) (not_kept calls _ (as_it_was at (length bytes) file)) begun_kept

  pub begun_sees : MayWrite file at (length bytes) (seen_after calls) (seen_after now)
  begun_sees = either calls now (Wrote file at bytes false)
      (λ (l : List Call). MayWrite file at (length bytes) (seen_after calls) (seen_after l))
      (subst (λ (i : Image). MayWrite file at (length bytes) (seen_after calls) i) (sym (unwritten_seen calls file at bytes))
      (as_it_was at (length bytes) file (seen_after calls)))
      (as_it_was at (length bytes) file (seen_after calls)) begun_kept

module _ (calls mid now : List Call) (file : File) (at : ℕ) (copy bytes : List ℕ) (same : mid ≡ calls) (copied : copy ≡ bytes)
    (kept : now ≡ mid ++ Wrote file at copy true ∷ []) where
  -- one that succeeds
  pub done_goes : Grows calls now (MayWrite file at (length bytes))
  done_goes = grown calls now _ _ (kept ∙ copied_write calls mid file at copy bytes true same copied) (wrote calls file at bytes true)

  pub done_sees : at ≤ length (bytes_in (seen_after calls) file) → Writes file at bytes (seen_after calls) (seen_after now)
  done_sees le = subst (λ (l : List Call). Writes file at bytes (seen_after calls) (seen_after l))
      (sym (kept ∙ copied_write calls mid file at copy bytes true same copied)) (wrote_seen calls file at bytes le)
