-- A turn of housekeeping does on the shelves what it does in the machine.
use Rattle.std.proofs.Common.{◌≡◌, ◌≤◌, ℕ, zero, suc, ◌+◌, ℤ, Bool, true, false, List, [], ◌∷◌, ◌++◌, map, refl, sym, ap, ◌∙◌, arith, inl}
use Rattle.std.proofs.Common.{inr}
use Rattle.std.specs.Prelude.{Option, Some, None, ◌==◌, if◌then◌else◌, option_to_list, slice_get}
use Rattle.std.specs.List.{flat_map, sum_by}
use Rattle.std.proofs.lemmas.Bool.Decides.{Decides-eqb}
use Rattle.std.proofs.lemmas.Grind.{flat_map-append}
use Rattle.std.proofs.lemmas.List.{append-nil}
use Rattle.std.proofs.lemmas.List.Sums.{sum_by-cons, sum_by-append}
use Rattle.ix_base.specs.declared.events.Event.{Event}
use Rattle.ix_items.specs.declared.items.Bucket.{Bucket}
use Rattle.ix_items.specs.declared.items.Rule.{Rule}
use Rattle.ix_life.specs.Housekeeping as house
use Rattle.ix_life.specs.declared.picks.Policy.{Policy}
use Rattle.ix_model.specs.Buckets.{Standing, live, frozen, Slot, listed, entered, buckets}
use Rattle.ix_model.specs.Keeping.{turned_by, entered_at, entries_of}
use Rattle.ix_model.specs.Keeping as kept
use Rattle.ix_model.specs.Sums.{IsStandingOf, AreSoundFrom}
use Rattle.ix_model.proofs.Freezing.{live_one, live_at, housed, most_at}
use Rattle.ix_model.proofs.Named.{by_test}
use Rattle.ix_model.proofs.Placing.{In}
use Rattle.ix_model.proofs.Singles.{in_hits, found_rule, live_le}
use Rattle.ix_catalog.specs.Buckets.{Turn, rule_of, staying}
use Rattle.ix_catalog.specs.Shelves.{is_live}
use Rattle.ix_catalog.specs.Turning.{freezes_by, takes_by, takes_file, Numbered, numbered, files_taken, stays_by, stays, turned}
use Rattle.ix_catalog.specs.Turning.{numbered_id, entry_by, entries}
use Rattle.ix_model.proofs.Counting.{live_is, thawed_is}

-- ---- one bucket

pub live_rule : (t : Turn) (b : Bucket) → is_live b ≡ true → freezes_by t b ≡ rule_of t.moves.frozen b.id
live_rule t b e = rw e refl

pub no_rule : (t : Turn) (b : Bucket) → is_live b ≡ false → freezes_by t b ≡ None
no_rule t b e = rw e refl

takes_same : (t : Turn) (b : Bucket) (o : Option Rule) → is_live b ≡ true → takes_by t b o ≡ kept.takes_by t b o
takes_same t b None e = rw e refl
takes_same t b (Some rule) e = refl

live_takes : (t : Turn) (file : ℕ) (b : Bucket) → is_live b ≡ true → takes_file t b ≡ kept.takes_file t (live b)
live_takes t file b e = ap (takes_by t b) (live_rule t b e) ∙ takes_same t b (rule_of t.moves.frozen b.id) e

thawed_takes : (t : Turn) (b : Bucket) → is_live b ≡ false → takes_file t b ≡ false
thawed_takes t b e = ap (takes_by t b) (no_rule t b e) ∙ rw e refl

-- the buckets of a slot, with the file that is next
abbrev pub first_of : ℕ → Standing → List Numbered
first_of file standing = map (λ (b : Bucket). (b, file)) (option_to_list (listed standing))

pub numbered_more : (t : Turn) (index : List ℕ) (id file : ℕ) (events : List Event) (standing : Standing) (bs : List Bucket) →
    IsStandingOf index id events standing →
    numbered t file (option_to_list (listed standing) ++ bs) ≡ first_of file standing ++ numbered t (kept.file_behind t file standing) bs
numbered_more t index id file events (live b) bs h =
    ap (λ (x : Bool). (b, file) ∷ numbered t (if x then file + 1 else file) bs) (live_takes t file b (live_is b h.state_is))
numbered_more t index id file events (frozen e None) bs h = refl
numbered_more t index id file events (frozen e (Some b)) bs h =
    ap (λ (x : Bool). (b, file) ∷ numbered t (if x then file + 1 else file) bs) (thawed_takes t b (thawed_is b h.1.state_is))

stays_same : (t : Turn) (file : ℕ) (b : Bucket) (o : Option Rule) → is_live b ≡ true →
    stays_by t file b o ≡ option_to_list (listed (turned_by t file b o))
stays_same t file b None e = rw e refl
stays_same t file b (Some rule) e = refl

one_stays : (t : Turn) (index : List ℕ) (id file : ℕ) (events : List Event) (standing : Standing) → IsStandingOf index id events standing →
    flat_map (stays t) (first_of file standing) ≡ option_to_list (listed (kept.turned t file standing))
one_stays t index id file events (live b) h =
    append-nil (stays t (b, file))
    ∙ ap (stays_by t file b) (live_rule t b (live_is b h.state_is))
    ∙ stays_same t file b (rule_of t.moves.frozen b.id) (live_is b h.state_is)
one_stays t index id file events (frozen e None) h = refl
one_stays t index id file events (frozen e (Some b)) h =
    append-nil (stays t (b, file))
    ∙ ap (stays_by t file b) (no_rule t b (thawed_is b h.1.state_is))
    ∙ ap (λ (x : Bool). (if x then staying t file b else b) ∷ []) (thawed_is b h.1.state_is)

-- ---- the buckets of an index

pub turned_same : (t : Turn) (index : List ℕ) (id file : ℕ) (slots : List Slot) → AreSoundFrom index id slots →
    turned t file (buckets slots) ≡ buckets (kept.all_turned t file slots)
turned_same t index id file [] h = refl
turned_same t index id file (s ∷ slots) h =
    let next = kept.file_behind t file s.standing in
    ap (flat_map (stays t)) (numbered_more t index id file s.events s.standing (buckets slots) h.0)
    ∙ flat_map-append (stays t) (first_of file s.standing) (numbered t next (buckets slots))
    ∙ ap (λ (bs : List Bucket). bs ++ turned t next (buckets slots)) (one_stays t index id file s.events s.standing h.0)
    ∙ ap (λ (bs : List Bucket). option_to_list (listed (kept.turned t file s.standing)) ++ bs) (turned_same t index (suc id) next slots h.1)

abbrev one_if : Bool → ℕ
one_if b = if b then 1 else 0

abbrev taking : Turn → Bucket → ℕ
taking t b = one_if (takes_file t b)

one_takes : (t : Turn) (index : List ℕ) (id : ℕ) (events : List Event) (standing : Standing) → IsStandingOf index id events standing →
    sum_by (taking t) (option_to_list (listed standing)) ≡ one_if (kept.takes_file t standing)
one_takes t index id events (live b) h = let e = ap one_if (live_takes t 0 b (live_is b h.state_is)) in omega (arith, e)
one_takes t index id events (frozen e None) h = refl
one_takes t index id events (frozen e (Some b)) h = let p = ap one_if (thawed_takes t b (thawed_is b h.1.state_is)) in omega (arith, p)

pub taken_same : (t : Turn) (index : List ℕ) (id : ℕ) (slots : List Slot) → AreSoundFrom index id slots →
    files_taken t (buckets slots) ≡ kept.files_taken t slots
taken_same t index id [] h = refl
taken_same t index id (s ∷ slots) h =
    let a = sum_by-append (taking t) (option_to_list (listed s.standing)) (buckets slots) in
    let b = one_takes t index id s.events s.standing h.0 in
    let c = taken_same t index (suc id) slots h.1 in
    let d = sum_by-cons (λ (x : Slot). one_if (kept.takes_file t x.standing)) s slots in
    omega (arith, a, b, c, d)

-- ---- the entries

not_its : (m n : ℕ) → (m ≡ n → ⊥) → (m == n) ≡ false
not_its m n d = by_test (m == n) (λ t. absurd (d ((Decides-eqb m n).0 t))) (λ t. t)

passed : (n : ℕ) (b : Bucket) (file : ℕ) (xs : List Numbered) → (b.id ≡ n → ⊥) → numbered_id n ((b, file) ∷ xs) ≡ numbered_id n xs
passed n b file xs d = by_test (is_live b) (λ t. rw (t, not_its b.id n d) refl) (λ t. rw t refl)

pub others_passed : (index : List ℕ) (id file n : ℕ) (events : List Event) (standing : Standing) (xs : List Numbered) →
    IsStandingOf index id events standing → (id ≡ n → ⊥) →
    numbered_id n (first_of file standing ++ xs) ≡ numbered_id n xs
others_passed index id file n events (live b) xs h d = passed n b file xs (λ e. d (sym h.is_of.id_is ∙ e))
others_passed index id file n events (frozen e None) xs h d = refl
others_passed index id file n events (frozen e (Some b)) xs h d = passed n b file xs (λ k. d (sym h.1.is_of.id_is ∙ k))

its_entry : (t : Turn) (index : List ℕ) (id file n : ℕ) (rule : Rule) (events : List Event) (standing : Standing) (xs : List Numbered) →
    IsStandingOf index id events standing →
    n ≡ id → rule_of t.moves.frozen n ≡ Some rule → 1 ≤ live_one standing →
    entry_by t rule (numbered_id n (first_of file standing ++ xs)) ≡ option_to_list (entered (kept.turned t file standing))
its_entry t index id file n rule events (live b) xs h e r l =
    let same : b.id ≡ n = h.is_of.id_is ∙ sym e in
    rw (live_is b h.state_is, (Decides-eqb b.id n).1 same)
    (sym (ap (λ (o : Option Rule). option_to_list (entered (turned_by t file b o))) (ap (rule_of t.moves.frozen) same ∙ r)))
its_entry t index id file n rule events (frozen f other) xs h e r l = absurd (omega (arith, l))

entry_same : (t : Turn) (index : List ℕ) (file id n j : ℕ) (rule : Rule) (slots : List Slot) → AreSoundFrom index id slots → n ≡ id + j →
    rule_of t.moves.frozen n ≡ Some rule → 1 ≤ live_at (slice_get slots j) →
    entry_by t rule (numbered_id n (numbered t file (buckets slots))) ≡ option_to_list
    (entered_at (slice_get (kept.all_turned t file slots) j))
entry_same t index file id n j rule [] h e r l = absurd (omega (arith, l))
entry_same t index file id n zero rule (s ∷ slots) h e r l =
    ap (λ (xs : List Numbered). entry_by t rule (numbered_id n xs)) (numbered_more t index id file s.events s.standing (buckets slots) h.0)
    ∙ its_entry t index id file n rule s.events s.standing (numbered t (kept.file_behind t file s.standing) (buckets slots)) h.0
    (omega (arith, e)) r l
entry_same t index file id n (suc j) rule (s ∷ slots) h e r l =
    let next = kept.file_behind t file s.standing in
    ap (λ (xs : List Numbered). entry_by t rule (numbered_id n xs)) (numbered_more t index id file s.events s.standing (buckets slots) h.0)
    ∙ ap (entry_by t rule) (others_passed index id file n s.events s.standing (numbered t next (buckets slots)) h.0
    (λ q. omega (arith, q, e)))
    ∙ entry_same t index next (suc id) n j rule slots h.1 (omega (arith, e)) r l

flat_map_same : {X Y : Type 0} (f g : X → List Y) (xs : List X) → ((x : X) → In x xs → f x ≡ g x) → flat_map f xs ≡ flat_map g xs
flat_map_same f g [] k = refl
flat_map_same {Y = Y} f g (x ∷ xs) k =
    ap (λ (l : List Y). l ++ flat_map f xs) (k x (inl refl)) ∙ ap (λ (l : List Y). g x ++ l) (flat_map_same f g xs (λ y i. k y (inr i)))

pub entries_same : (index : List ℕ) (archive : Bool) (moment : ℤ) (p : Policy) (file : ℕ) (slots : List Slot) → AreSoundFrom index 0 slots →
    let t : Turn = record { index = index; archive = archive; moment = moment; moves = house.moves p (buckets slots) } in
    entries t file (buckets slots) ≡ entries_of t (kept.all_turned t file slots)
entries_same index archive moment p file slots h =
    let t : Turn = record { index = index; archive = archive; moment = moment; moves = house.moves p (buckets slots) } in
    flat_map_same (λ (x : ℕ × Rule). entry_by t x.1 (numbered_id x.0 (numbered t file (buckets slots))))
    (λ (x : ℕ × Rule). option_to_list (entered_at (slice_get (kept.all_turned t file slots) x.0))) t.moves.frozen
    (λ x i. (let a = housed p (buckets slots) (λ (id : ℕ). if id == x.0 then 1 else 0) in
    let b = most_at index 0 x.0 x.0 slots h (omega arith) in
    let c = live_le (slice_get slots x.0) in
    let d = in_hits x t.moves.frozen i in
    entry_same t index file 0 x.0 x.0 x.1 slots h (omega arith) (found_rule x t.moves.frozen i (omega (arith, a, b, c)))
    (omega (arith, a, b, d))))
