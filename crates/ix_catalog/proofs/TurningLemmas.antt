-- Buckets have their turns one after the other.
use Rattle.std.proofs.Common.{◌≡◌, ◌<◌, ◌≤◌, ◌+◌, ℕ, ℤ, Bool, true, false, cond, List, [], ◌∷◌, ◌++◌, refl, sym, ap, ◌∙◌, length, take}
use Rattle.std.proofs.Common.{drop, get_or, Option, Some, append_assoc, arith, nat_eq}
use Rattle.std.specs.Prelude.{◌||◌, ◌&&◌, if◌then◌else◌}
use Rattle.std.specs.List.{list_any, fold}
use Rattle.std.proofs.lemmas.List.{append-nil, drop_more, drop_all}
use Rattle.std.proofs.lemmas.List.Sums.{sum_by-cons, fold_more}
use Rattle.ix_base.specs.declared.files.File.{File}
use Rattle.ix_items.specs.declared.items.Bucket.{Bucket}
use Rattle.ix_items.specs.declared.items.Entry.{Entry}
use Rattle.ix_items.specs.declared.items.Rule.{Rule}
use Rattle.ix_commit.specs.declared.file_copy.FileCopy.{FileCopy}
use Rattle.ix_life.specs.Housekeeping.{house}
use Rattle.ix_life.specs.declared.limits.Limits.{Limits}
use Rattle.ix_life.specs.declared.moves.Moves.{Moves}
use Rattle.ix_life.specs.declared.views.IndexView.{IndexView}
use Rattle.ix_catalog.specs.Buckets.{Turn, is_among, rule_of}
use Rattle.ix_catalog.specs.Shelves.{is_live}
use Rattle.ix_catalog.specs.Turning.{Numbered, numbered, numbered_id, turned, stays, takes_file, file_behind, files_taken, copies}
use Rattle.ix_catalog.specs.Turning.{copies_by, left_files, leaves_by, freezes_by, turn_of, turn_index, entries}
use Rattle.ix_catalog.specs.Carried.{carried, all_carried, with_entries, entries_of}
use Rattle.ix_catalog.specs.declared.housekeeping_result.HousekeepingResult.{HousekeepingResult}

-- ---- what is looked up

pub among_is : (id : ℕ) (ids : List ℕ) → list_any (λ y. nat_eq y id) ids ≡ is_among ids id
among_is id [] = refl
among_is id (x ∷ xs) = ap (λ b. nat_eq x id || b) (among_is id xs)

pub rule_here : (id : ℕ) (xs : List (ℕ × Rule)) (i : ℕ) (d : ℕ × Rule) → i < length xs → nat_eq (get_or xs i d).0 id ≡ true →
    (whole : Option Rule)
    → rule_of (drop i xs) id ≡ whole → Some (get_or xs i d).1 ≡ whole
rule_here id xs i d l e whole known =
    sym (ap (λ (b : Bool). if b then Some (get_or xs i d).1 else rule_of (drop (i + 1) xs) id) e)
    ∙ sym (ap (λ l. rule_of l id) (drop_more xs i d l)) ∙ known

pub rule_later : (id : ℕ) (xs : List (ℕ × Rule)) (i : ℕ) (d : ℕ × Rule) → i < length xs → nat_eq (get_or xs i d).0 id ≡ false →
    (whole : Option Rule)
    → rule_of (drop i xs) id ≡ whole → rule_of (drop (i + 1) xs) id ≡ whole
rule_later id xs i d l e whole known =
    sym (ap (λ (b : Bool). if b then Some (get_or xs i d).1 else rule_of (drop (i + 1) xs) id) e)
    ∙ sym (ap (λ l. rule_of l id) (drop_more xs i d l)) ∙ known

pub bucket_here : (id : ℕ) (xs : List Numbered) (i : ℕ) (d : Numbered) → i < length xs →
    (is_live (get_or xs i d).0 && nat_eq (get_or xs i d).0.id id) ≡ true
    → (whole : Option Numbered) → numbered_id id (drop i xs) ≡ whole → Some (get_or xs i d) ≡ whole
bucket_here id xs i d l e whole known =
    sym (ap (λ (b : Bool). if b then Some (get_or xs i d) else numbered_id id (drop (i + 1) xs)) e)
    ∙ sym (ap (numbered_id id) (drop_more xs i d l)) ∙ known

pub bucket_later : (id : ℕ) (xs : List Numbered) (i : ℕ) (d : Numbered) → i < length xs →
    (is_live (get_or xs i d).0 && nat_eq (get_or xs i d).0.id id) ≡ false
    → (whole : Option Numbered) → numbered_id id (drop i xs) ≡ whole → numbered_id id (drop (i + 1) xs) ≡ whole
bucket_later id xs i d l e whole known =
    sym (ap (λ (b : Bool). if b then Some (get_or xs i d) else numbered_id id (drop (i + 1) xs)) e)
    ∙ sym (ap (numbered_id id) (drop_more xs i d l)) ∙ known

-- ---- a turn

same_turn : (index index' : List ℕ) (archive : Bool) (moment moment' : ℤ) (moves moves' : Moves) → index ≡ index' → moment ≡ moment' →
    moves ≡ moves'
    → (let a : Turn = record { index = index; archive = archive; moment = moment; moves = moves } in
    let b : Turn = record { index = index'; archive = archive; moment = moment'; moves = moves' } in a ≡ b)
same_turn index index' archive moment moment' moves moves' p q r = cc

pub turn_is : (v : IndexView) (index : List ℕ) (moment m : ℤ) (moves : Moves) → index ≡ v.name → m ≡ moment →
    moves ≡ house v.buckets v.limits m
    → (let a : Turn = record { index = index; archive = v.limits.archive; moment = m; moves = moves } in a ≡ turn_of moment v)
turn_is v index moment m moves p q r =
    same_turn index v.name v.limits.archive m moment moves (house v.buckets v.limits moment) p q (r ∙ ap (house v.buckets v.limits) q)

abbrev make : List IndexView → ℕ → List Entry → List FileCopy → List File → HousekeepingResult
make indexes next_file entries copies files = record {
  indexes = indexes;
  next_file = next_file;
  entries = entries;
  copies = copies;
  files = files;
}

same : (indexes : List IndexView) (n n' : ℕ) (entries : List Entry) (copies copies' : List FileCopy) (files files' : List File)
    → n ≡ n' → copies ≡ copies' → files ≡ files' → make indexes n entries copies files ≡ make indexes n' entries copies' files'
same indexes n n' entries copies copies' files files' p q r = cc

count_step : (p : Bool) (n k : ℕ) → (if p then n + 1 else n) + k ≡ n + (cond p 1 0 + k)
count_step true n k = omega arith
count_step false n k = omega arith

files_more : (t : Turn) (n : ℕ) (b : Bucket) (bs : List Bucket) → file_behind t n b + files_taken t bs ≡ n + files_taken t (b ∷ bs)
files_more t n b bs =
    count_step (takes_file t b) n (files_taken t bs) ∙ ap (λ k. n + k) (sym (sum_by-cons (λ x. cond (takes_file t x) 1 0) b bs))

carried_more : (t : Turn) (b : Bucket) (bs : List Bucket) (made : HousekeepingResult) →
    all_carried t bs (carried t b made) ≡ all_carried t (b ∷ bs) made
carried_more t b bs made =
    same made.indexes _ _ made.entries _ _ _ _ (files_more t made.next_file b bs)
    (append_assoc made.copies (copies_by t (b, made.next_file) (freezes_by t b)) (copies t (file_behind t made.next_file b) bs))
    (append_assoc made.files (leaves_by t b (freezes_by t b)) (left_files t bs))

pub made_step : (t : Turn) (bs : List Bucket) (i : ℕ) (d : Bucket) → i < length bs → (made made' whole : HousekeepingResult) →
    made' ≡ carried t (get_or bs i d) made
    → all_carried t (drop i bs) made ≡ whole → all_carried t (drop (i + 1) bs) made' ≡ whole
made_step t bs i d l made made' whole e known =
    ap (all_carried t (drop (i + 1) bs)) e ∙ carried_more t (get_or bs i d) (drop (i + 1) bs) made
    ∙ ap (λ l. all_carried t l made) (sym (drop_more bs i d l)) ∙ known

made_none : (t : Turn) (made : HousekeepingResult) → all_carried t [] made ≡ made
made_none t made = same made.indexes _ _ made.entries _ _ _ _ (let e : made.next_file + 0 ≡ made.next_file = omega arith in
    e) (append-nil made.copies) (append-nil made.files)

pub made_end : (t : Turn) (bs : List Bucket) (i : ℕ) → length bs ≤ i → (made whole : HousekeepingResult) →
    all_carried t (drop i bs) made ≡ whole → made ≡ whole
made_end t bs i l made whole known = sym (made_none t made) ∙ ap (λ l. all_carried t l made) (sym (drop_all i bs l)) ∙ known

pub turned_step : (t : Turn) (bs : List Bucket) (i : ℕ) (d : Bucket) → i < length bs → (n n' : ℕ) → n' ≡ file_behind t n (get_or bs i d)
    → (kept kept' whole : List Bucket) → kept' ≡ kept ++ stays t (get_or bs i d, n)
    → kept ++ turned t n (drop i bs) ≡ whole → kept' ++ turned t n' (drop (i + 1) bs) ≡ whole
turned_step t bs i d l n n' f kept kept' whole e known =
    ap (λ m. kept' ++ turned t m (drop (i + 1) bs)) f
    ∙ ap (λ k. k ++ turned t (file_behind t n (get_or bs i d)) (drop (i + 1) bs)) e
    ∙ append_assoc kept (stays t (get_or bs i d, n)) (turned t (file_behind t n (get_or bs i d)) (drop (i + 1) bs))
    ∙ ap (λ l. kept ++ turned t n l) (sym (drop_more bs i d l)) ∙ known

pub turned_end : (t : Turn) (bs : List Bucket) (i : ℕ) → length bs ≤ i → (n : ℕ) (kept whole : List Bucket) → kept
    ++ turned t n (drop i bs) ≡ whole → kept ≡ whole
turned_end t bs i l n kept whole known = sym (append-nil kept) ∙ ap (λ l. kept ++ turned t n l) (sym (drop_all i bs l)) ∙ known

pub numbered_step : (t : Turn) (bs : List Bucket) (i : ℕ) (d : Bucket) → i < length bs → (n n' : ℕ) → n' ≡ file_behind t n (get_or bs i d)
    → (xs xs' whole : List Numbered) → xs' ≡ xs ++ (get_or bs i d, n) ∷ []
    → xs ++ numbered t n (drop i bs) ≡ whole → xs' ++ numbered t n' (drop (i + 1) bs) ≡ whole
numbered_step t bs i d l n n' f xs xs' whole e known =
    ap (λ m. xs' ++ numbered t m (drop (i + 1) bs)) f
    ∙ ap (λ k. k ++ numbered t (file_behind t n (get_or bs i d)) (drop (i + 1) bs)) e
    ∙ append_assoc xs ((get_or bs i d, n) ∷ []) (numbered t (file_behind t n (get_or bs i d)) (drop (i + 1) bs))
    ∙ ap (λ l. xs ++ numbered t n l) (sym (drop_more bs i d l)) ∙ known

pub numbered_end : (t : Turn) (bs : List Bucket) (i : ℕ) → length bs ≤ i → (n : ℕ) (xs whole : List Numbered) → xs
    ++ numbered t n (drop i bs) ≡ whole → xs ≡ whole
numbered_end t bs i l n xs whole known = sym (append-nil xs) ∙ ap (λ l. xs ++ numbered t n l) (sym (drop_all i bs l)) ∙ known

-- ---- an index, and all of them

abbrev make_view : List ℕ → Limits → List Bucket → IndexView
make_view name limits buckets = record { name = name; limits = limits; buckets = buckets }

-- what an index comes to by its turn
abbrev turn_with : IndexView → HousekeepingResult → Turn → HousekeepingResult
turn_with v made t =
    make (made.indexes ++ make_view v.name v.limits (turned t made.next_file v.buckets) ∷ []) (made.next_file + files_taken t v.buckets)
    (made.entries ++ entries t made.next_file v.buckets) (made.copies ++ copies t made.next_file v.buckets) (made.files
    ++ left_files t v.buckets)

-- the same with an index at the end
abbrev with_view : List IndexView → HousekeepingResult → HousekeepingResult
with_view indexes m = make indexes m.next_file m.entries m.copies m.files

index_with : (v : IndexView) (t : Turn) (made made₁ made₂ : HousekeepingResult) (kept : List Bucket) (xs : List Numbered) (name : List ℕ)
    (indexes : List IndexView)
    → made₁ ≡ all_carried t v.buckets made → kept ≡ turned t made.next_file v.buckets → xs ≡ numbered t made.next_file v.buckets
    → made₂ ≡ with_entries (entries_of t xs t.moves.frozen) made₁ → name ≡ v.name
    → indexes ≡ made₂.indexes ++ make_view name v.limits kept ∷ []
    → with_view indexes made₂ ≡ turn_with v made t
index_with v t made made₁ made₂ kept xs name indexes e₁ k x e₂ n i =
    ap (λ is. with_view is made₂) i
    ∙ ap (λ m. with_view (m.indexes ++ make_view name v.limits kept ∷ []) m) e₂
    ∙ ap (λ m. with_view (m.indexes ++ make_view name v.limits kept ∷ []) (with_entries (entries_of t xs t.moves.frozen) m)) e₁
    ∙ ap (λ ys. with_view (made.indexes ++ make_view name v.limits kept
    ∷ []) (with_entries (entries_of t ys t.moves.frozen) (all_carried t v.buckets made))) x
    ∙ ap (λ bs. with_view (made.indexes ++ make_view name v.limits bs
    ∷ []) (with_entries (entries t made.next_file v.buckets) (all_carried t v.buckets made))) k
    ∙ ap (λ a. with_view (made.indexes ++ make_view a v.limits (turned t made.next_file v.buckets)
    ∷ []) (with_entries (entries t made.next_file v.buckets) (all_carried t v.buckets made))) n

pub index_is : (v : IndexView) (t : Turn) (moment m : ℤ) (made made₁ made₂ : HousekeepingResult) (bs kept : List Bucket)
    (xs : List Numbered) (name : List ℕ) (indexes : List IndexView)
    → m ≡ moment → t ≡ turn_of m v → bs ≡ v.buckets
    → made₁ ≡ all_carried t bs made → kept ≡ turned t made.next_file bs → xs ≡ numbered t made.next_file bs
    → made₂ ≡ with_entries (entries_of t xs t.moves.frozen) made₁ → name ≡ v.name
    → indexes ≡ made₂.indexes ++ make_view name v.limits kept ∷ []
    → with_view indexes made₂ ≡ turn_index moment made v
index_is v t moment m made made₁ made₂ bs kept xs name indexes q r b e₁ k x e₂ n i =
    index_with v t made made₁ made₂ kept xs name indexes (e₁ ∙ ap (λ l. all_carried t l made) b) (k ∙ ap (turned t made.next_file) b)
    (x ∙ ap (numbered t made.next_file) b) e₂ n i
    ∙ ap (turn_with v made) r ∙ ap (λ z. turn_with v made (turn_of z v)) q

pub fold_step : {X Y : Type 0} (f : Y → X → Y) (a : Y) (xs : List X) (i : ℕ) (x : X) → i < length xs → x ≡ get_or xs i x → (y y' : Y)
    → y ≡ fold f a (take i xs) → y' ≡ f y x → y' ≡ fold f a (take (i + 1) xs)
fold_step f a xs i x l is y y' e e' = e' ∙ ap (λ z. f z x) e ∙ ap (f (fold f a (take i xs))) is ∙ sym (fold_more f a xs i x l)
