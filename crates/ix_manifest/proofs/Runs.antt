-- The run of a list of items is that of its last run item, and so with the removals.
use Rattle.std.proofs.Common.{◌≡◌, ℕ, ◌+◌, ◌<◌, List, [], ◌∷◌, ◌++◌, take, length, get_or, refl, ap, subst, sym, ◌∙◌, inl, inr}
use Rattle.std.proofs.lemmas.List.{take_more}
use Rattle.std.proofs.lemmas.List.{map-append}
use Rattle.ix_base.specs.declared.files.File.{File}
use Rattle.ix_items.specs.declared.items.Item.{Item}
use Rattle.ix_items.specs.declared.items.Item.TheVariants as items
use Rattle.ix_manifest.specs.Book.{NamedItems, empty, after_item, replay, run_in, removals_in, has_settings}
use Rattle.ix_manifest.specs.Slots.{in_slot, items_of, AreRemovals}
use Rattle.ix_manifest.specs.declared.staged_item.StagedItem.{StagedItem}
use Rattle.ix_manifest.specs.Plain.{run_after, removals_after, settled_after}
use Rattle.ix_manifest.proofs.Applying.{replay_behind}

run_step : (item : Item) (book : NamedItems) → run_in (after_item item book) ≡ run_after item (run_in book)
run_step (items.Settings kept) book = refl
run_step (items.Run run) book = refl
run_step (items.Moments last tick) book = refl
run_step (items.Channel name meta carry) book = refl
run_step (items.Ended name) book = refl
run_step (items.Bucket index bucket) book = refl
run_step (items.Gone index id) book = refl
run_step (items.Ledger entry) book = refl
run_step (items.Counts settled nulled dropped placed) book = refl
run_step (items.Spot spot) book = refl
run_step (items.NextFile number) book = refl
run_step (items.Removals files) book = refl
run_step (items.NextId index id) book = refl

pub run_more : (list : List Item) (i : ℕ) (d : Item) → i < length list →
    run_in (replay (take (i + 1) list) empty) ≡ run_after (get_or list i d) (run_in (replay (take i list) empty))
run_more list i d within =
    ap (λ (l : List Item). run_in (replay l empty)) (take_more list i d within)
    ∙ ap run_in (replay_behind (take i list) (get_or list i d ∷ []) empty)
    ∙ run_step (get_or list i d) (replay (take i list) empty)

removals_step : (item : Item) (book : NamedItems) → removals_in (after_item item book) ≡ removals_after item (removals_in book)
removals_step (items.Settings kept) book = refl
removals_step (items.Run run) book = refl
removals_step (items.Moments last tick) book = refl
removals_step (items.Channel name meta carry) book = refl
removals_step (items.Ended name) book = refl
removals_step (items.Bucket index bucket) book = refl
removals_step (items.Gone index id) book = refl
removals_step (items.Ledger entry) book = refl
removals_step (items.Counts settled nulled dropped placed) book = refl
removals_step (items.Spot spot) book = refl
removals_step (items.NextFile number) book = refl
removals_step (items.Removals files) book = refl
removals_step (items.NextId index id) book = refl

pub removals_more : (list : List Item) (i : ℕ) (d : Item) → i < length list →
    removals_in (replay (take (i + 1) list) empty) ≡ removals_after (get_or list i d) (removals_in (replay (take i list) empty))
removals_more list i d within =
    ap (λ (l : List Item). removals_in (replay l empty)) (take_more list i d within)
    ∙ ap removals_in (replay_behind (take i list) (get_or list i d ∷ []) empty)
    ∙ removals_step (get_or list i d) (replay (take i list) empty)

settled_step : (item : Item) (book : NamedItems) → has_settings (after_item item book) ≡ settled_after item (has_settings book)
settled_step (items.Settings kept) book = refl
settled_step (items.Run run) book = refl
settled_step (items.Moments last tick) book = refl
settled_step (items.Channel name meta carry) book = refl
settled_step (items.Ended name) book = refl
settled_step (items.Bucket index bucket) book = refl
settled_step (items.Gone index id) book = refl
settled_step (items.Ledger entry) book = refl
settled_step (items.Counts settled nulled dropped placed) book = refl
settled_step (items.Spot spot) book = refl
settled_step (items.NextFile number) book = refl
settled_step (items.Removals files) book = refl
settled_step (items.NextId index id) book = refl

pub settled_more : (list : List Item) (i : ℕ) (d : Item) → i < length list →
    has_settings (replay (take (i + 1) list) empty) ≡ settled_after (get_or list i d) (has_settings (replay (take i list) empty))
settled_more list i d within =
    ap (λ (l : List Item). has_settings (replay l empty)) (take_more list i d within)
    ∙ ap has_settings (replay_behind (take i list) (get_or list i d ∷ []) empty)
    ∙ settled_step (get_or list i d) (replay (take i list) empty)

-- the last removals among staged items
step_behind : (slots : List StagedItem) (slot : StagedItem) (item : Item) → slot.item ≡ item → (book : NamedItems) →
    removals_in (replay (items_of (slots ++ slot ∷ [])) book) ≡ removals_after item (removals_in (replay (items_of slots) book))
step_behind slots slot item is book =
    ap (λ (l : List Item). removals_in (replay l book)) (map-append in_slot slots (slot ∷ []))
    ∙ ap removals_in (replay_behind (items_of slots) (slot.item ∷ []) book)
    ∙ ap (λ (i : Item). removals_in (after_item i (replay (items_of slots) book))) is
    ∙ removals_step item (replay (items_of slots) book)

removed : (slots : List StagedItem) (slot : StagedItem) (named : List File) → slot.item ≡ items.Removals named → (book : NamedItems) →
    removals_in (replay (items_of (slots ++ slot ∷ [])) book) ≡ named
removed slots slot named is book = step_behind slots slot (items.Removals named) is book

stays_so : (slots : List StagedItem) (slot : StagedItem) (files : List File) → AreRemovals slots files →
    ((book : NamedItems) → removals_in (replay (items_of (slots ++ slot ∷ [])) book) ≡ removals_in (replay (items_of slots) book)) →
    AreRemovals (slots ++ slot ∷ []) files
stays_so slots slot files (inl none) same = inl none
stays_so slots slot files (inr are) same = inr (λ book. are book ∙ sym (same book))

behind_item : (item : Item) (files : List File) (slots : List StagedItem) → AreRemovals slots files → (slot : StagedItem) →
    slot.item ≡ item → AreRemovals (slots ++ slot ∷ []) (removals_after item files)
behind_item (items.Settings kept) files slots are slot is =
    stays_so slots slot files are (λ book. step_behind slots slot (items.Settings kept) is book)
behind_item (items.Run run) files slots are slot is = stays_so slots slot files are (λ book. step_behind slots slot (items.Run run) is book)
behind_item (items.Moments last tick) files slots are slot is =
    stays_so slots slot files are (λ book. step_behind slots slot (items.Moments last tick) is book)
behind_item (items.Channel name meta carry) files slots are slot is =
    stays_so slots slot files are (λ book. step_behind slots slot (items.Channel name meta carry) is book)
behind_item (items.Ended name) files slots are slot is =
    stays_so slots slot files are (λ book. step_behind slots slot (items.Ended name) is book)
behind_item (items.Bucket index bucket) files slots are slot is =
    stays_so slots slot files are (λ book. step_behind slots slot (items.Bucket index bucket) is book)
behind_item (items.Gone index id) files slots are slot is =
    stays_so slots slot files are (λ book. step_behind slots slot (items.Gone index id) is book)
behind_item (items.Ledger entry) files slots are slot is =
    stays_so slots slot files are (λ book. step_behind slots slot (items.Ledger entry) is book)
behind_item (items.Counts settled nulled dropped placed) files slots are slot is =
    stays_so slots slot files are (λ book. step_behind slots slot (items.Counts settled nulled dropped placed) is book)
behind_item (items.Spot spot) files slots are slot is =
    stays_so slots slot files are (λ book. step_behind slots slot (items.Spot spot) is book)
behind_item (items.NextFile number) files slots are slot is =
    stays_so slots slot files are (λ book. step_behind slots slot (items.NextFile number) is book)
behind_item (items.Removals named) files slots are slot is = inr (λ book. sym (removed slots slot named is book))
behind_item (items.NextId index id) files slots are slot is =
    stays_so slots slot files are (λ book. step_behind slots slot (items.NextId index id) is book)

pub removals_behind : (slots : List StagedItem) (i : ℕ) (slot : StagedItem) (files : List File) → i < length slots →
    slot ≡ get_or slots i slot → AreRemovals (take i slots) files → AreRemovals (take (i + 1) slots) (removals_after slot.item files)
removals_behind slots i slot files within is are =
    subst (λ (l : List StagedItem). AreRemovals l (removals_after slot.item files))
    (sym (take_more slots i slot within ∙ ap (λ (s : StagedItem). take i slots ++ s ∷ []) (sym is)))
    (behind_item slot.item files (take i slots) are slot refl)

pub removals_last : (slots : List StagedItem) (i : ℕ) (slot : StagedItem) (files : List File) → i < length slots →
    slot ≡ get_or slots i slot → files ≡ removals_in (replay (items_of (take i slots)) empty)
    → removals_after slot.item files ≡ removals_in (replay (items_of (take (i + 1) slots)) empty)
removals_last slots i slot files within is same =
    ap (λ (l : List File). removals_after slot.item l) same
    ∙ sym (step_behind (take i slots) slot slot.item refl empty)
    ∙ ap (λ (l : List StagedItem). removals_in (replay (items_of l) empty))
    (sym (take_more slots i slot within ∙ ap (λ (s : StagedItem). take i slots ++ s ∷ []) (sym is)))
