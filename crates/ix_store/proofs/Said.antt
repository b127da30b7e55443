-- The body that says an item of which no state comes is found.
use Rattle.std.proofs.Common.{◌≡◌, ◌⊎◌, ◌+◌, ◌<◌, ℕ, Bool, true, false, List, [], ◌∷◌, ◌++◌, length, Option, Some, None}
use Rattle.std.proofs.Common.{if◌then◌else◌, refl, sym, ap, ◌∙◌, subst, arith, inl, inr, append_assoc, length-append}
use Rattle.std.specs.Prelude.{◌||◌, not, Result, Err}
use Rattle.std.specs.List.{AllByRecursion, list_any}
use Rattle.ix_items.specs.Spelling.{HasSpelling, item_bytes, body_bytes}
use Rattle.ix_items.specs.declared.items.Item.{Item}
use Rattle.ix_items.specs.declared.items.Item.TheVariants as items
use Rattle.ix_items.specs.declared.items.Kept.{Kept}
use Rattle.ix_items.proofs.RowsAgain.{one_body}
use Rattle.ix_disk.specs.Image.{Image, bytes_in}
use Rattle.ix_log.specs.Log.{HasBodies, blocks}
use Rattle.ix_manifest.specs.Book.{Name, NamedItems, name_of, is_same, is_there, left_by, after_item, empty, replay, run_in, has_settings}
use Rattle.ix_manifest.specs.Book.{AreItems, IsBody, Replays}
use Rattle.ix_manifest.specs.Plain.{AnyBook}
use Rattle.ix_manifest.specs.Root.{Taken, current}
use Rattle.ix_manifest.proofs.PutItems.{item_some}
use Rattle.ix_manifest.proofs.Renaming.{replay_at, chosen_other}
use Rattle.ix_base.specs.Told.{Told}
use Rattle.ix_base.specs.declared.files.File.{File}
use Rattle.ix_commit.specs.Reads.{LeadsTo, first_items, next_run}
use Rattle.ix_commit.proofs.Reading.{leads_one, bad_nowhere}
use Rattle.ix_model.proofs.Named.{by_test}
use Rattle.ix_store.specs.Finding.{name_in, is_under, settings_name, kept_in, kept_of, Says, IsFound, IsLastSaid, IsBadIn}
use Rattle.ix_store.specs.Finding.{HasBadItem, IsBadStore}
use Rattle.ix_store.specs.declared.fault.MountFault.{MountFault}
use Rattle.ix_store.specs.declared.faulty_item.FaultyItem.{FaultyItem}
use Rattle.ix_store.specs.declared.faulty_item.FaultyItem.TheVariants as subjects
use Rattle.ix_store.proofs.Booked.{all_more}

-- ---- the items of a body

-- no bytes hold an item
pub none_left : (items : List Item) (rest : List ℕ) → AreItems items rest → length rest ≡ 0 → items ≡ []
none_left [] rest are empty = refl
none_left (item ∷ items) rest are none = absurd (omega (
  arith,
  none,
  ap length are.spelled,
  item_some item,
  length-append (item_bytes item) (body_bytes items),
))

-- some begin with one
pub first_of : (items : List Item) (rest : List ℕ) → AreItems items rest → 0 < length rest
    → (item : Item) × (more : List Item) × (items ≡ item ∷ more) × HasSpelling item × AllByRecursion HasSpelling more
    × (rest ≡ item_bytes item ++ body_bytes more)
first_of [] rest is some = absurd (omega (arith, some, ap length is.spelled))
first_of (item ∷ more) rest is some = (item, more, refl, is.proper.0, is.proper.1, is.spelled)

or_some : (a b : Bool) → (a || (true || b)) ≡ true
or_some true b = refl
or_some false b = refl

-- one item more
pub any_step : (found now test more whole : Bool) → whole ≡ (found || (test || more)) → ((test ≡ true) × (now ≡ true))
    ⊎ ((test ≡ false) × (now ≡ found)) → whole ≡ (now || more)
any_step found now test more whole is (inl one) = is ∙ ap (λ (t : Bool). found || (t || more)) one.0 ∙ or_some found more
    ∙ sym (ap (λ (t : Bool). t || more) one.1)
any_step found now test more whole is (inr two) = is ∙ ap (λ (t : Bool). found || (t || more)) two.0
    ∙ sym (ap (λ (t : Bool). t || more) two.1)

pub or_none : (a : Bool) → (a || false) ≡ a
or_none true = refl
or_none false = refl

-- ---- one body more

found_here : (name : Name) (at : ℕ) (bodies : List (List ℕ)) (body : List ℕ) → at ≡ length (blocks bodies) → Says true name body →
    IsFound name at (bodies ++ body ∷ [])
found_here name at bodies body place says = inr (record {
  before = bodies;
  body = body;
  after = [];
  split = refl;
  place = place;
  says = says;
  none = tt;
})

found_before : (name : Name) (at : ℕ) (bodies : List (List ℕ)) (body : List ℕ) → Says false name body → IsFound name at bodies →
    IsFound name at (bodies ++ body ∷ [])
found_before name at bodies body none (inl all) = inl (all_more (Says false name) bodies (body ∷ []) all (none, tt))
found_before name at bodies body none (inr last) = inr (record {
  before = last.before;
  body = last.body;
  after = last.after ++ body ∷ [];
  split = ap (λ (l : List (List ℕ)). l ++ body ∷ []) last.split ∙ append_assoc last.before (last.body ∷ last.after) (body ∷ []);
  place = last.place;
  says = last.says;
  none = all_more (Says false name) last.after (body ∷ []) last.none (none, tt);
})

-- a body more was read, and the place before it is taken where it says something
pub found_more : (name : Name) (found now place : ℕ) (bodies : List (List ℕ)) (body : List ℕ) (test : Bool) → place ≡ length (blocks bodies)
    → ((own : List Item) → IsBody own body → test ≡ list_any (is_under name) own) → IsFound name found bodies →
    ((test ≡ true) × (now ≡ place)) ⊎ ((test ≡ false) × (now ≡ found))
    → IsFound name now (bodies ++ body ∷ [])
found_more name found now place bodies body test at says is (inl one) =
    found_here name now bodies body (one.1 ∙ at) (λ own of. sym (says own of) ∙ one.0)
found_more name found now place bodies body test at says is (inr two) =
    found_before name now bodies body (λ own of. sym (says own of) ∙ two.0) (subst (λ (n : ℕ). IsFound name n bodies) (sym two.1) is)

-- ---- what stands under a name

replay_none : (items : List Item) (name : Name) (book : NamedItems) → list_any (is_under name) items ≡ false →
    replay items book name ≡ book name
replay_none [] name book none = refl
replay_none (item ∷ items) name book none = go (is_under name item) refl (replay_none items name (after_item item book))
  where
    go : (test : Bool) → is_under name item ≡ test → (list_any (is_under name) items ≡ false →
        replay items (after_item item book) name ≡ after_item item book name) →
        replay items (after_item item book) name ≡ book name
    go true is rest = let some : (true || list_any (is_under name) items) ≡ false =
        sym (ap (λ (t : Bool). t || list_any (is_under name) items) is) ∙ none in absurd cc
    go false is rest =
        rest (sym (ap (λ (t : Bool). t || list_any (is_under name) items) is) ∙ none)
        ∙ chosen_other (is_same (name_of item) name) (left_by item) (book name) is

replay_some : (items : List Item) (name : Name) (a b : NamedItems) → list_any (is_under name) items ≡ true →
    replay items a name ≡ replay items b name
replay_some [] name a b some = absurd cc
replay_some (item ∷ items) name a b some = go (is_under name item) refl (replay_some items name (after_item item a) (after_item item b))
  where
    go : (test : Bool) → is_under name item ≡ test → (list_any (is_under name) items ≡ true →
        replay items (after_item item a) name ≡ replay items (after_item item b) name) →
        replay items (after_item item a) name ≡ replay items (after_item item b) name
    go true is rest = replay_at items (after_item item a) (after_item item b) name
        (ap (λ (t : Bool). if t then left_by item else a name) is ∙ sym (ap (λ (t : Bool). if t then left_by item else b name) is))
    go false is rest = rest (sym (ap (λ (t : Bool). t || list_any (is_under name) items) is) ∙ some)

bodies_none : (bodies : List (List ℕ)) (name : Name) (from to : NamedItems) → Replays AnyBook bodies from to →
    AllByRecursion (Says false name) bodies → to name ≡ from name
bodies_none [] name from to is none = ap (λ (b : NamedItems). b name) is
bodies_none (body ∷ bodies) name from to is none = bodies_none bodies name (replay is.0 from) to is.3 none.1
    ∙ replay_none is.0 name from (none.0 is.0 is.1)

pub behind : (before after : List (List ℕ)) (from to : NamedItems) → Replays AnyBook (before ++ after) from to → (mid : NamedItems)
    × Replays AnyBook after mid to
behind [] after from to is = (from, is)
behind (body ∷ before) after from to is = behind before after (replay is.0 from) to is.3

-- whichever books fit
pub any_replays : (fits : NamedItems → Type 0) (bodies : List (List ℕ)) (from to : NamedItems) → Replays fits bodies from to →
    Replays AnyBook bodies from to
any_replays fits [] from to is = is
any_replays fits (body ∷ bodies) from to is = (is.0, is.1, tt, any_replays fits bodies (replay is.0 from) to is.3)

no_item : (item : Item) → ◌≡◌ {A = Option Item} None (Some item) → ⊥
no_item item is = cc

-- what stands in the book was said by a body, last by the one that is found
pub last_said : (name : Name) (item : Item) (at : ℕ) (bodies : List (List ℕ)) (book : NamedItems) → Replays AnyBook bodies empty book →
    book name ≡ Some item → IsFound name at bodies → IsLastSaid name item at bodies
last_said name item at bodies book replays stands (inl none) =
    absurd (no_item item (sym (bodies_none bodies name empty book replays none) ∙ stands))
last_said name item at bodies book replays stands (inr last) =
    let here = behind last.before (last.body ∷ last.after) empty book
    (subst (λ (l : List (List ℕ)). Replays AnyBook l empty book) last.split replays) in
    let mid = here.0 in
    let is = here.1 in
    record {
      before = last.before;
      body = last.body;
      after = last.after;
      split = last.split;
      place = last.place;
      items = is.0;
      is = is.1;
      said = replay_some is.0 name empty mid (last.says is.0 is.1) ∙ sym (bodies_none last.after name (replay is.0 mid) book is.3 last.none)
          ∙ stands;
      none = last.none;
    }

-- what a body said last stands in the book
said_stands : (name : Name) (item : Item) (at : ℕ) (bodies : List (List ℕ)) (book : NamedItems) → Replays AnyBook bodies empty book →
    IsLastSaid name item at bodies → book name ≡ Some item
said_stands name item at bodies book replays last =
    let here = behind last.before (last.body ∷ last.after) empty book
    (subst (λ (l : List (List ℕ)). Replays AnyBook l empty book) last.split replays) in
    let mid = here.0 in
    let is = here.1 in
    let own = is.0 in
    let same : last.items ≡ own = one_body last.items own last.is.are.proper is.1.are.proper (sym last.is.are.spelled ∙ is.1.are.spelled) in
    let some : list_any (is_under name) last.items ≡ true = by_test (list_any (is_under name) last.items) (λ t. t)
    (λ t. absurd (no_item item (sym (replay_none last.items name empty t) ∙ last.said))) in
    bodies_none last.after name (replay own mid) book is.3 last.none
    ∙ ap (λ (l : List Item). replay l mid name) (sym same)
    ∙ replay_some last.items name mid empty some ∙ last.said

-- ---- the book with the next run

-- what stands there for a subject stood before, or it says no more than that nothing is set
under_first : (fresh : Bool) (run : ℕ) (book : NamedItems) (subject : FaultyItem) (item : Item) →
    replay (first_items fresh run) book (name_in subject) ≡ Some item → (book (name_in subject) ≡ Some item) ⊎ (item ≡ items.Settings [])
under_first true run book subjects.Settings item is = inr cc
under_first false run book subjects.Settings item is = inl is
under_first true run book (subjects.Channel name) item is = inl is
under_first false run book (subjects.Channel name) item is = inl is

-- and what stood before stands there
over_first : (fresh : Bool) (run : ℕ) (book : NamedItems) (subject : FaultyItem) (item : Item) → fresh ≡ not (has_settings book) →
    book (name_in subject) ≡ Some item → replay (first_items fresh run) book (name_in subject) ≡ Some item
over_first true run book subjects.Settings item new is =
    let none : true ≡ false = new ∙ ap (λ (o : Option Item). not (is_there o)) is in absurd cc
over_first false run book subjects.Settings item new is = is
over_first true run book (subjects.Channel name) item new is = is
over_first false run book (subjects.Channel name) item new is = is

kept_next : (book : NamedItems) → kept_in (next_run book) ≡ kept_in book
kept_next book = go (book settings_name) refl
  where
    go : (o : Option Item) → book settings_name ≡ o → kept_in (next_run book) ≡ kept_in book
    go None is = ap (λ (t : Bool). kept_in (replay (first_items (not t) (run_in book + 1)) book)) (ap is_there is) ∙ sym (ap kept_of is)
    go (Some item) is = ap (λ (t : Bool). kept_in (replay (first_items (not t) (run_in book + 1)) book)) (ap is_there is)

-- the book is the one that was read, with the next run or without
abbrev IsNow : NamedItems → NamedItems → Type 0
IsNow book now = (now ≡ next_run book) ⊎ (now ≡ book)

kept_now : (book now : NamedItems) → IsNow book now → kept_in now ≡ kept_in book
kept_now book now (inl next) = ap kept_in next ∙ kept_next book
kept_now book now (inr same) = ap kept_in same

stood : (gives_none : List Kept → Item → Type 0) → ((force : List Kept) → gives_none force (items.Settings []) → ⊥) →
    (book now : NamedItems) → IsNow book now → (subject : FaultyItem) (bad : IsBadIn gives_none subject now) →
    book (name_in subject) ≡ Some bad.0
stood gives_none good book now (inl next) subject bad = by (under_first (not (has_settings book)) (run_in book + 1) book subject bad.0
    (sym (ap (λ (b : NamedItems). b (name_in subject)) next) ∙ bad.1))
  where
    by : (book (name_in subject) ≡ Some bad.0) ⊎ (bad.0 ≡ items.Settings []) → book (name_in subject) ≡ Some bad.0
    by (inl is) = is
    by (inr none) = absurd (good (kept_in now) (subst (gives_none (kept_in now)) none bad.2))
stood gives_none good book now (inr same) subject bad = sym (ap (λ (b : NamedItems). b (name_in subject)) same) ∙ bad.1

stands_now : (book now : NamedItems) → IsNow book now → (subject : FaultyItem) (item : Item) → book (name_in subject) ≡ Some item →
    now (name_in subject) ≡ Some item
stands_now book now (inl next) subject item is = ap (λ (b : NamedItems). b (name_in subject)) next
    ∙ over_first (not (has_settings book)) (run_in book + 1) book subject item refl is
stands_now book now (inr same) subject item is = ap (λ (b : NamedItems). b (name_in subject)) same ∙ is

-- the gate is that of the body that was found
pub bad_item : (fits : NamedItems → Type 0) (gives_none : List Kept → Item → Type 0) →
    ((force : List Kept) → gives_none force (items.Settings []) → ⊥) → (image : Image) (book now : NamedItems) (leads : LeadsTo fits book
    image) → IsNow book now → (subject : FaultyItem) → IsBadIn gives_none subject now → (log : File) → log ≡ current leads.checkpoints →
    (file : File) (at : ℕ)
    → ((bodies : List (List ℕ)) (b : NamedItems) (item : Item) → HasBodies bodies (bytes_in image log) →
    Replays AnyBook bodies empty b → b (name_in subject) ≡ Some item → (file ≡ log) × IsLastSaid (name_in subject) item at bodies)
    → HasBadItem fits gives_none file at image
bad_item fits gives_none good image book now leads is subject bad log log_is file at found =
    let has = subst (λ (f : File). HasBodies leads.bodies (bytes_in image f)) (sym log_is) leads.in_log in
    let there = found leads.bodies book bad.0 has (any_replays (Taken fits (current leads.checkpoints)) leads.bodies empty book leads.replayed)
    (stood gives_none good book now is subject bad) in
    record {
      book = book;
      leads = leads;
      file_is = there.0 ∙ log_is;
      subject = subject;
      item = bad.0;
      said = there.1;
      none = subst (λ (kept : List Kept). gives_none kept bad.0) (kept_now book now is) bad.2;
    }

-- a store of which a state comes is not bad
pub no_bad_store : (fits : NamedItems → Type 0) (gives_none : List Kept → Item → Type 0) (image : Image) (book now : NamedItems) →
    LeadsTo fits book image → IsNow book now → ((subject : FaultyItem) → IsBadIn gives_none subject now → ⊥) → (named : File) (at : ℕ) →
    IsBadStore fits gives_none named at image → ⊥
no_bad_store fits gives_none image book now leads is good named at (inl log) = bad_nowhere fits named at image book log leads
no_bad_store fits gives_none image book now leads is good named at (inr bad) =
    let theirs = bad.leads in
    let same : bad.book ≡ book = leads_one fits image bad.book book theirs leads in
    let stands = said_stands (name_in bad.subject) bad.item at theirs.bodies bad.book
    (any_replays (Taken fits (current theirs.checkpoints)) theirs.bodies empty bad.book theirs.replayed) bad.said in
    good bad.subject (
      bad.item,
      stands_now book now is bad.subject bad.item (sym (ap (λ (b : NamedItems). b (name_in bad.subject)) same) ∙ stands),
      subst (λ (kept : List Kept). gives_none kept bad.item) (ap kept_in same ∙ sym (kept_now book now is)) bad.none,
    )

pub same_fault : {T : Type 0} (a b : MountFault) → ◌≡◌ {A = Result T MountFault} (Err a) (Err b) → a ≡ b
same_fault a b is = cc

-- a disk that tells goes on telling
pub seen_on : (step : Image → Image → Type 0) (old new : Option Image) (image : Image) → Told step old new → old ≡ Some image →
    (later : Image) × (new ≡ Some later)
seen_on step None None image told is = absurd (cc)
seen_on step None (Some later) image told is = absurd (cc)
seen_on step (Some before) None image told is = absurd told
seen_on step (Some before) (Some later) image told is = (later, refl)
