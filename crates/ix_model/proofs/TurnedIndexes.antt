-- A turn of housekeeping in all indexes, one behind the other; those that never had a bucket take
-- no part in it.
use Rattle.std.proofs.Common.{◌≡◌, ℕ, ◌+◌, ℤ, List, [], ◌∷◌, ◌++◌, map, refl, sym, ap, ◌∙◌, arith, append_assoc}
use Rattle.std.specs.Prelude.{is_some, fold, bytes_eq, option_to_list, slice_get, unwrap_or}
use Rattle.std.specs.List.{AllByRecursion, flat_map, sum_by}
use Rattle.std.proofs.lemmas.List.{append-nil}
use Rattle.std.proofs.lemmas.List.Sums.{sum_by-cons}
use Rattle.ix_base.specs.declared.files.File.{File}
use Rattle.ix_items.specs.declared.items.Bucket.{Bucket}
use Rattle.ix_items.specs.declared.items.Entry.{Entry}
use Rattle.ix_items.specs.declared.items.Kept.{Kept}
use Rattle.ix_items.specs.declared.items.Rule.{Rule}
use Rattle.ix_commit.specs.declared.file_copy.FileCopy.{FileCopy}
use Rattle.ix_life.specs.declared.views.IndexView.{IndexView}
use Rattle.ix_model.specs.Buckets.{Index}
use Rattle.ix_model.specs.Given.{limits}
use Rattle.ix_model.specs.Keeping.{entered_at}
use Rattle.ix_model.specs.Shown.{configured, with_fresh, index_view}
use Rattle.ix_model.specs.State.{Catalog, index_name, fresh_index}
use Rattle.ix_model.specs.Step.{turn_in, all_entries, all_turned, entries_in, tick}
use Rattle.ix_model.specs.Step as machine
use Rattle.ix_model.specs.Sums.{IsSound}
use Rattle.ix_model.proofs.Named.{by_test, sum_change_or_insert}
use Rattle.ix_model.proofs.Stepping.{AllSound}
use Rattle.ix_catalog.specs.Lists.{find, change, stands_before, insert}
use Rattle.ix_catalog.specs.Shelves.{with_buckets, with_indexes}
use Rattle.ix_catalog.specs.Turning.{turn_of, files_taken, turned, entries, copies, left_files, turn_index, untouched, turn_all}
use Rattle.ix_catalog.specs.declared.housekeeping_result.HousekeepingResult.{HousekeepingResult}
use Rattle.ix_model.specs.OnDisk.{IsTurned}
use Rattle.ix_model.specs.Shelved.{shelved}
use Rattle.ix_model.proofs.Listing.{sound_fresh}
use Rattle.ix_model.proofs.TurnedShelves.{turned_same, taken_same, entries_same}

-- ---- what a turn makes of indexes, one behind the other

abbrev pub taken : ℤ → IndexView → ℕ
taken moment v = files_taken (turn_of moment v) v.buckets

abbrev pub all_taken : ℤ → List IndexView → ℕ
all_taken moment [] = 0
all_taken moment (v ∷ vs) = taken moment v + all_taken moment vs

abbrev pub views_turned : ℤ → ℕ → List IndexView → List IndexView
views_turned moment file [] = []
views_turned moment file (v ∷ vs) = with_buckets (turned (turn_of moment v) file v.buckets) v
    ∷ views_turned moment (file + taken moment v) vs

abbrev pub views_entries : ℤ → ℕ → List IndexView → List Entry
views_entries moment file [] = []
views_entries moment file (v ∷ vs) = entries (turn_of moment v) file v.buckets ++ views_entries moment (file + taken moment v) vs

abbrev pub views_copies : ℤ → ℕ → List IndexView → List FileCopy
views_copies moment file [] = []
views_copies moment file (v ∷ vs) = copies (turn_of moment v) file v.buckets ++ views_copies moment (file + taken moment v) vs

abbrev pub views_left : ℤ → List IndexView → List File
views_left moment [] = []
views_left moment (v ∷ vs) = left_files (turn_of moment v) v.buckets ++ views_left moment vs

abbrev pub made_of : List IndexView → ℕ → List Entry → List FileCopy → List File → HousekeepingResult
made_of indexes next_file more copied files = record {
  indexes = indexes;
  next_file = next_file;
  entries = more;
  copies = copied;
  files = files;
}

abbrev pub behind : ℤ → HousekeepingResult → List IndexView → HousekeepingResult
behind moment made vs = made_of (made.indexes ++ views_turned moment made.next_file vs) (made.next_file + all_taken moment vs)
    (made.entries ++ views_entries moment made.next_file vs) (made.copies ++ views_copies moment made.next_file vs) (made.files
    ++ views_left moment vs)

made_same : (a b : List IndexView) (n m : ℕ) (c d : List Entry) (e f : List FileCopy) (g h : List File) → a ≡ b → n ≡ m → c ≡ d → e ≡ f →
    g ≡ h →
    made_of a n c e g ≡ made_of b m d f h
made_same a b n m c d e f g h p q r s t =
    ap (λ (x : List IndexView). made_of x n c e g) p
    ∙ ap (λ (x : ℕ). made_of b x c e g) q
    ∙ ap (λ (x : List Entry). made_of b m x e g) r
    ∙ ap (λ (x : List FileCopy). made_of b m d x g) s
    ∙ ap (λ (x : List File). made_of b m d f x) t

turn_fold : (moment : ℤ) (made : HousekeepingResult) (vs : List IndexView) → fold (turn_index moment) made vs ≡ behind moment made vs
turn_fold moment made [] =
    made_same made.indexes (made.indexes ++ []) made.next_file (made.next_file + 0) made.entries (made.entries
    ++ []) made.copies (made.copies ++ [])
    made.files (made.files ++ []) (sym (append-nil made.indexes)) (omega arith) (sym (append-nil made.entries))
    (sym (append-nil made.copies)) (sym (append-nil made.files))
turn_fold moment made (v ∷ vs) =
    let t = turn_of moment v in
    let next = made.next_file + taken moment v in
    let one = with_buckets (turned t made.next_file v.buckets) v in
    turn_fold moment (turn_index moment made v) vs
    ∙ made_same ((made.indexes ++ one ∷ []) ++ views_turned moment next vs) (made.indexes ++ one ∷ views_turned moment next vs)
    (next + all_taken moment vs) (made.next_file + (taken moment v + all_taken moment vs))
    ((made.entries ++ entries t made.next_file v.buckets) ++ views_entries moment next vs) (made.entries
    ++ (entries t made.next_file v.buckets ++ views_entries moment next vs))
    ((made.copies ++ copies t made.next_file v.buckets) ++ views_copies moment next vs) (made.copies
    ++ (copies t made.next_file v.buckets ++ views_copies moment next vs))
    ((made.files ++ left_files t v.buckets) ++ views_left moment vs) (made.files ++ (left_files t v.buckets ++ views_left moment vs))
    (append_assoc made.indexes (one ∷ []) (views_turned moment next vs))
    (omega arith)
    (append_assoc made.entries (entries t made.next_file v.buckets) (views_entries moment next vs))
    (append_assoc made.copies (copies t made.next_file v.buckets) (views_copies moment next vs))
    (append_assoc made.files (left_files t v.buckets) (views_left moment vs))

-- ---- the same in the machine

abbrev pub seen : List Kept → List Index → List IndexView
seen force is = map (index_view force) is

pub taken_view : (force : List Kept) (moment : ℤ) (i : Index) → IsSound i →
    taken moment (index_view force i) ≡ machine.files_taken force moment i
taken_view force moment i h = taken_same (turn_in force moment i) i.name 0 i.slots h

all_taken_same : (force : List Kept) (moment : ℤ) (is : List Index) → AllByRecursion IsSound is →
    all_taken moment (seen force is) ≡ sum_by (machine.files_taken force moment) is
all_taken_same force moment [] h = refl
all_taken_same force moment (i ∷ is) h =
    let a = taken_view force moment i h.0 in
    let b = all_taken_same force moment is h.1 in
    let c = sum_by-cons (machine.files_taken force moment) i is in
    omega (arith, a, b, c)

all_views_same : (force : List Kept) (moment : ℤ) (file : ℕ) (is : List Index) → AllByRecursion IsSound is →
    views_turned moment file (seen force is) ≡ seen force (all_turned force moment file is)
all_views_same force moment file [] h = refl
all_views_same force moment file (i ∷ is) h =
    ap (λ (bs : List Bucket). with_buckets bs (index_view force i)
    ∷ views_turned moment (file + taken moment (index_view force i)) (seen force is))
    (turned_same (turn_in force moment i) i.name 0 file i.slots h.0)
    ∙ ap (λ (n : ℕ). index_view force (machine.turned_index force moment file i)
    ∷ views_turned moment (file + n) (seen force is)) (taken_view force moment i h.0)
    ∙ ap (λ (l : List IndexView). index_view force (machine.turned_index force moment file i) ∷ l)
    (all_views_same force moment (file + machine.files_taken force moment i) is h.1)

all_entries_same : (force : List Kept) (moment : ℤ) (file : ℕ) (is : List Index) → AllByRecursion IsSound is →
    views_entries moment file (seen force is) ≡ all_entries force moment file is
all_entries_same force moment file [] h = refl
all_entries_same force moment file (i ∷ is) h =
    ap (λ (es : List Entry). es ++ views_entries moment (file + taken moment (index_view force i)) (seen force is))
    (entries_same i.name (limits force i.name).archive moment (record { limits = limits force i.name; moment = moment }) file i.slots h.0)
    ∙ ap (λ (n : ℕ). entries_in force moment file i ++ views_entries moment (file + n) (seen force is)) (taken_view force moment i h.0)
    ∙ ap (λ (l : List Entry). entries_in force moment file i
    ++ l) (all_entries_same force moment (file + machine.files_taken force moment i) is h.1)

-- ---- indexes that never had a bucket

pub change_nothing : (n : List ℕ) (is : List Index) → change index_name n (λ (i : Index). i) is ≡ is
change_nothing n [] = refl
change_nothing n (i ∷ is) =
    by_test (bytes_eq i.name n) (λ t. rw t refl) (λ t. rw t (ap (λ (l : List Index). i ∷ l) (change_nothing n is)))

found_turned : (force : List Kept) (moment : ℤ) (file : ℕ) (n : List ℕ) (is : List Index) →
    is_some (find index_name n (all_turned force moment file is)) ≡ is_some (find index_name n is)
found_turned force moment file n [] = refl
found_turned force moment file n (i ∷ is) =
    by_test (bytes_eq i.name n) (λ t. rw t refl) (λ t. rw t (found_turned force moment (file + machine.files_taken force moment i) n is))

put_turned : (force : List Kept) (moment : ℤ) (file : ℕ) (n : List ℕ) (is : List Index) →
    insert index_name (fresh_index n) (all_turned force moment file is) ≡ all_turned force moment file
    (insert index_name (fresh_index n) is)
put_turned force moment file n [] = refl
put_turned force moment file n (i ∷ is) =
    by_test (stands_before index_name i (fresh_index n))
    (λ t. rw t (ap (λ (l : List Index). machine.turned_index force moment file i
    ∷ l) (put_turned force moment (file + machine.files_taken force moment i) n is)))
    (λ t. rw t (ap (λ (k : ℕ). fresh_index n ∷ all_turned force moment k (i ∷ is)) (let e : file ≡ file + 0 = omega arith in e)))

fresh_turned : (force : List Kept) (moment : ℤ) (file : ℕ) (n : List ℕ) (is : List Index) →
    with_fresh (all_turned force moment file is) n ≡ all_turned force moment file (with_fresh is n)
fresh_turned force moment file n is = by_test (is_some (find index_name n is))
    (λ t. rw (found_turned force moment file n is, t) (change_nothing n (all_turned force moment file is)
    ∙ ap (all_turned force moment file) (sym (change_nothing n is))))
    (λ t. rw (found_turned force moment file n is, t) (put_turned force moment file n is))

all_fresh_turned : (force : List Kept) (moment : ℤ) (file : ℕ) (names : List (List ℕ)) (is : List Index) →
    fold with_fresh (all_turned force moment file is) names ≡ all_turned force moment file (fold with_fresh is names)
all_fresh_turned force moment file [] is = refl
all_fresh_turned force moment file (n ∷ names) is =
    ap (λ (l : List Index). fold with_fresh l names) (fresh_turned force moment file n is)
    ∙ all_fresh_turned force moment file names (with_fresh is n)

fresh_taken : (force : List Kept) (moment : ℤ) (names : List (List ℕ)) (is : List Index) →
    sum_by (machine.files_taken force moment) (fold with_fresh is names) ≡ sum_by (machine.files_taken force moment) is
fresh_taken force moment [] is = refl
fresh_taken force moment (n ∷ names) is =
    fresh_taken force moment names (with_fresh is n)
    ∙ (let a = sum_change_or_insert index_name n (λ (i : Index). i) (fresh_index n) (machine.files_taken force moment) 0 is refl
    (let k : machine.files_taken force moment (unwrap_or (find index_name n is) (fresh_index n)) ≡ machine.files_taken force moment
    (unwrap_or (find index_name n is) (fresh_index n)) + 0 = omega arith in k) in
    omega (arith, a))

nothing_entered : (xs : List (ℕ × Rule)) → flat_map (λ (x : ℕ × Rule). option_to_list (entered_at (slice_get [] x.0))) xs ≡ []
nothing_entered [] = refl
nothing_entered (x ∷ xs) = nothing_entered xs

put_entries : (force : List Kept) (moment : ℤ) (file : ℕ) (n : List ℕ) (is : List Index) →
    all_entries force moment file (insert index_name (fresh_index n) is) ≡ all_entries force moment file is
put_entries force moment file n [] = append-nil (entries_in force moment file (fresh_index n))
    ∙ nothing_entered (turn_in force moment (fresh_index n)).moves.frozen
put_entries force moment file n (i ∷ is) =
    by_test (stands_before index_name i (fresh_index n))
    (λ t. rw t (ap (λ (l : List Entry). entries_in force moment file i
    ++ l) (put_entries force moment (file + machine.files_taken force moment i) n is)))
    (λ t. rw t (ap (λ (l : List Entry). l ++ all_entries force moment (file + 0) (i ∷ is))
    (nothing_entered (turn_in force moment (fresh_index n)).moves.frozen)
    ∙ ap (λ (k : ℕ). all_entries force moment k (i ∷ is)) (let e : file + 0 ≡ file = omega arith in e)))

fresh_entries : (force : List Kept) (moment : ℤ) (file : ℕ) (names : List (List ℕ)) (is : List Index) →
    all_entries force moment file (fold with_fresh is names) ≡ all_entries force moment file is
fresh_entries force moment file [] is = refl
fresh_entries force moment file (n ∷ names) is =
    fresh_entries force moment file names (with_fresh is n)
    ∙ by_test (is_some (find index_name n is))
    (λ t. rw t (ap (all_entries force moment file) (change_nothing n is)))
    (λ t. rw t (put_entries force moment file n is))

-- ---- the shelves

abbrev pub all_seen : List Kept → Catalog → List Index
all_seen force s = fold with_fresh s.indexes (configured force)

pub turn_made : (force : List Kept) (moment : ℤ) (s : Catalog) →
    turn_all moment (shelved force s) ≡ behind moment (untouched s.next_file) (seen force (all_seen force s))
turn_made force moment s = turn_fold moment (untouched s.next_file) (seen force (all_seen force s))

pub turns_same : (force : List Kept) (moment : ℤ) (s : Catalog) → AllSound s → IsTurned force moment s
turns_same force moment s h =
    let all = all_seen force s in
    let sound = sound_fresh (configured force) s.indexes h in
    let made = turn_made force moment s in
    let indexes : (turn_all moment (shelved force s)).indexes ≡ (shelved force (tick force moment s)).indexes =
    ap (λ (t : HousekeepingResult). t.indexes) made
    ∙ all_views_same force moment s.next_file all sound
    ∙ ap (seen force) (sym (all_fresh_turned force moment s.next_file (configured force) s.indexes)) in
    let file : (turn_all moment (shelved force s)).next_file ≡ (tick force moment s).next_file =
    ap (λ (t : HousekeepingResult). t.next_file) made
    ∙ ap (λ (n : ℕ). s.next_file + n) (all_taken_same force moment all sound ∙ fresh_taken force moment (configured force) s.indexes) in
    record {
      shelves = ap (λ (is : List IndexView). with_indexes is (turn_all moment (shelved force s)).next_file (shelved force s)) indexes
          ∙ ap (λ (n : ℕ). with_indexes (shelved force (tick force moment s)).indexes n (shelved force s)) file;
      ledger = ap (λ (es : List Entry). s.ledger ++ es)
          (sym (ap (λ (t : HousekeepingResult). t.entries) made ∙ all_entries_same force moment s.next_file all sound
          ∙ fresh_entries force moment s.next_file (configured force) s.indexes));
    }
