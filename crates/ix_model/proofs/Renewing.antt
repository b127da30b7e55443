-- No number of a file is used again.
use Rattle.std.proofs.Common.{◌≡◌, ◌<◌, ◌≤◌, ℕ, zero, suc, ◌+◌, ℤ, Bool, true, false, List, [], ◌∷◌, length, map, refl, sym, ap, ◌∙◌}
use Rattle.std.proofs.Common.{arith, subst, inl, inr}
use Rattle.std.specs.Prelude.{Option, Some, None, is_some, is_none, ◌⊎◌, ◌==◌, if◌then◌else◌, nat_le, nat_lt, slice_get, unwrap_or}
use Rattle.std.specs.List.{sum_by}
use Rattle.std.proofs.lemmas.Bool.Decides.{Decides-eqb, nat_tests}
use Rattle.std.proofs.lemmas.List.Sums.{sum_by-cons, sum_by-append}
use Rattle.ix_base.specs.declared.events.Event.{Event}
use Rattle.ix_base.specs.declared.files.File.{File}
use Rattle.ix_base.specs.declared.events.Routed.{Routed}
use Rattle.ix_base.specs.declared.events.Routed.TheVariants.{To, Null}
use Rattle.ix_items.specs.declared.items.Bucket.{Bucket}
use Rattle.ix_items.specs.declared.items.Entry.{Entry}
use Rattle.ix_items.specs.declared.items.Kept.{Kept}
use Rattle.ix_items.specs.declared.items.Rule.{Rule}
use Rattle.ix_life.specs.Housekeeping.{megabytes}
use Rattle.ix_life.specs.Placing.{is_open}
use Rattle.ix_life.specs.declared.limits.Limits.{Limits}
use Rattle.ix_model.specs.Buckets.{Standing, live, frozen, Slot, Index}
use Rattle.ix_catalog.specs.Buckets.{rolled, with_event}
use Rattle.ix_model.specs.Files.{once_if, archive_uses, bucket_uses, standing_uses, slot_uses, index_uses, uses, Renews, AreApart}
use Rattle.ix_model.specs.Given.{Chooser, home, limits}
use Rattle.ix_model.specs.Keeping.{turned, turned_by, takes_by, takes_file, file_behind, closed_slot, thawing, thawed_by, can_thaw_by}
use Rattle.ix_model.specs.Keeping.{thawed_slot}
use Rattle.ix_catalog.specs.Buckets.{Turn, staying, rule_of, is_among}
use Rattle.ix_model.specs.Keeping as kept
use Rattle.ix_catalog.specs.Lists.{find, update, change, insert, stands_before}
use Rattle.ix_model.specs.Placed.{change_live, rolled_slot, filled_slot, made_slot, roll, placed, target_of}
use Rattle.ix_catalog.specs.Buckets.{closed}
use Rattle.ix_model.specs.State.{State, Catalog, Counts, index_name, fresh_index, empty}
use Rattle.ix_model.specs.Step.{filled, is_fresh, index_at, put_event, deal_to, deal, turn_in, files_taken, all_turned, tick, closed_index}
use Rattle.ix_model.specs.Step.{can_thaw, thaws, thaw, thawed_index, after_from, state_after}
use Rattle.ix_catalog.specs.Buckets.{named}
use Rattle.ix_model.specs.Step as steps
use Rattle.ix_model.specs.Sums.{AreSoundFrom, IsSound}
use Rattle.ix_model.specs.declared.commands.TimedCommand.{TimedCommand}
use Rattle.ix_model.proofs.Balanced.{sum_update, sum_update_same, change_same}
use Rattle.ix_model.proofs.Named.{by_test, sum_change, sum_put, change_none, all_found}
use Rattle.ix_model.proofs.Placing.{GoesInto, GoesBehind, goes}
use Rattle.ix_model.proofs.Stepping.{Keeps, keeps_after, AllSound, keeps_sound}

-- ---- spans of numbers

-- 1 for a number from the first up to the second
abbrev pub span : ℕ → ℕ → ℕ → ℕ
span from to n = if nat_le from n then (if nat_lt n to then 1 else 0) else 0

span_joins : (a b c n : ℕ) → a ≤ b → b ≤ c → span a b n + span b c n ≤ span a c n
span_joins a b c n p q = grind (arith, nat_tests)

span_none : (a n : ℕ) → span a a n ≤ 0
span_none a n = grind (arith, nat_tests)

span_below : (a b n : ℕ) → n < a → span a b n ≤ 0
span_below a b n h = grind (arith, nat_tests)

span_beyond : (a b n : ℕ) → b ≤ n → span a b n ≤ 0
span_beyond a b n h = grind (arith, nat_tests)

span_most : (a b n : ℕ) → span a b n ≤ 1
span_most a b n = grind (arith, nat_tests)

span_self : (a : ℕ) → 1 ≤ span a (a + 1) a
span_self a = grind (arith, nat_tests)

once_span : (n file : ℕ) → once_if n file ≤ span file (file + 1) n
once_span n file = by_test (file == n)
    (λ t. rw t (subst (λ (k : ℕ). 1 ≤ span file (file + 1) k) ((Decides-eqb file n).0 t) (span_self file)))
    (λ t. rw t (omega arith))

-- ---- one bucket

change_live_same : (n : ℕ) (f : Bucket → Bucket) → ((b : Bucket) → (f b).file ≡ b.file) → (standing : Standing) →
    standing_uses n (change_live f standing) ≡ standing_uses n standing
change_live_same n f e (live b) = ap (λ (file : File). once_if n file.number) (e b)
change_live_same n f e (frozen entry other) = refl

closed_file : (limits : Limits) (b : Bucket) → (closed limits b).file ≡ b.file
closed_file limits b = by_test (nat_le (megabytes limits.max_data_mb) b.bytes) (λ t. rw t refl) (λ t. rw t refl)

filled_same : (n : ℕ) (limits : Limits) (event : Event) (used : ℕ) (moment : ℤ) (s : Slot) →
    slot_uses n (filled_slot limits event used moment s) ≡ slot_uses n s
filled_same n limits event used moment s =
    change_live_same n (λ (b : Bucket). closed limits (with_event event used moment b))
    (λ b. closed_file limits (with_event event used moment b)) s.standing

rolled_same : (n : ℕ) (o : Option ℕ) (slots : List Slot) → sum_by (slot_uses n) (roll o slots) ≡ sum_by (slot_uses n) slots
rolled_same n None slots = refl
rolled_same n (Some k) slots = sum_update_same (slot_uses n) k rolled_slot (λ s. change_live_same n rolled (λ b. refl) s.standing) slots

abbrev file_after : ℕ → Bool → ℕ
file_after file b = if b then file + 1 else file

placed_by : (n : ℕ) (limits : Limits) (file : ℕ) (event : Event) (used : ℕ) (moment : ℤ) (slots : List Slot) →
    GoesInto limits file event used moment slots ⊎ GoesBehind limits file event used moment slots →
    sum_by (slot_uses n) (placed limits file event used moment slots)
    ≤ sum_by (slot_uses n) slots + span file (file_after file (is_none (target_of limits event slots).into)) n
placed_by n limits file event used moment slots (inl g) =
    let a : sum_by (slot_uses n) (placed limits file event used moment slots) ≡ sum_by (slot_uses n) slots =
    ap (sum_by (slot_uses n)) g.comes_to
    ∙ sum_update_same (slot_uses n) g.place (filled_slot limits event used moment) (λ s. filled_same n limits event used moment s) slots in
    omega (arith, a)
placed_by n limits file event used moment slots (inr g) =
    let made = made_slot limits (length (roll g.rolls slots)) g.quarantine file event used moment in
    let a : sum_by (slot_uses n) (placed limits file event used moment slots) ≡ sum_by (slot_uses n) slots + slot_uses n made =
    ap (sum_by (slot_uses n)) g.comes_to
    ∙ (let c = sum_by-append (slot_uses n) (roll g.rolls slots) (made ∷ []) in
    let d = rolled_same n g.rolls slots in
    let e = sum_by-cons (slot_uses n) made [] in
    omega (arith, c, d, e)) in
    let b : slot_uses n made ≤ span file (file + 1) n =
    subst (λ (k : File). once_if n k.number ≤ span file (file + 1) n) (sym (closed_file limits _)) (once_span n file) in
    subst (λ (o : Option ℕ). sum_by (slot_uses n) (placed limits file event used moment slots)
    ≤ sum_by (slot_uses n) slots + span file (file_after file (is_none o)) n) (sym g.is_into)
    (omega (arith, a, b))

cooled_file : (n file : ℕ) (t : Turn) (b : Bucket) → once_if n (staying t file b).file.number ≤ once_if n b.file.number + span file
    (file_after file (is_among t.moves.cooled b.id)) n
cooled_file n file t b = by_test (is_among t.moves.cooled b.id)
    (λ c. rw c (let a = once_span n file in omega (arith, a)))
    (λ c. rw c (by_test (is_among t.moves.warmed b.id) (λ w. rw w (omega arith)) (λ w. rw w (omega arith))))

archived : (n file : ℕ) (b : Bool) → archive_uses n (if b then Some file else None) ≤ span file (file_after file b) n
archived n file true = once_span n file
archived n file false = omega arith

turned_uses : (n file : ℕ) (t : Turn) (b : Bucket) (o : Option Rule) →
    standing_uses n (turned_by t file b o) ≤ once_if n b.file.number + span file (file_after file (takes_by t b o)) n
turned_uses n file t b None = cooled_file n file t b
turned_uses n file t b (Some rule) = let a = archived n file t.archive in omega (arith, a)

turns_uses : (n file : ℕ) (t : Turn) (standing : Standing) →
    standing_uses n (turned t file standing) ≤ standing_uses n standing + span file (file_behind t file standing) n
turns_uses n file t (live b) = turned_uses n file t b (rule_of t.moves.frozen b.id)
turns_uses n file t (frozen e other) = omega arith

thawed_uses : (n file : ℕ) (e : Entry) (archive : Option ℕ) (other : Option Bucket) →
    standing_uses n (thawed_by e archive file other) ≤ (archive_uses n e.archive + bucket_uses n other) + span file
    (file_after file (can_thaw_by archive other)) n
thawed_uses n file e None other = omega arith
thawed_uses n file e (Some archive) (Some b) = omega arith
thawed_uses n file e (Some archive) None = let a = once_span n file in omega (arith, a)

thaws_uses : (n file : ℕ) (s : Slot) → slot_uses n (thawed_slot file s) ≤ slot_uses n s + span file
    (file_after file (kept.can_thaw s.standing)) n
thaws_uses n file s = by s.standing
  where
    by : (standing : Standing) → standing_uses n (thawing file standing) ≤ standing_uses n standing + span file
        (file_after file (kept.can_thaw standing)) n
    by (live b) = omega arith
    by (frozen e other) = thawed_uses n file e e.archive other

-- ---- the buckets of an index, and the indexes

abbrev one_if : Bool → ℕ
one_if b = if b then 1 else 0

count_one : (b : Bool) (file whole rest : ℕ) → whole ≡ one_if b + rest → file + whole ≡ file_after file b + rest
count_one true file whole rest e = omega (arith, e)
count_one false file whole rest e = omega (arith, e)

taken_cons : (t : Turn) (s : Slot) (slots : List Slot) (file : ℕ) →
    file + kept.files_taken t (s ∷ slots) ≡ file_behind t file s.standing + kept.files_taken t slots
taken_cons t s slots file =
    count_one (takes_file t s.standing) file (kept.files_taken t (s ∷ slots)) (kept.files_taken t slots)
    (sum_by-cons (λ (x : Slot). one_if (takes_file t x.standing)) s slots)

behind_more : (t : Turn) (file : ℕ) (standing : Standing) → file ≤ file_behind t file standing
behind_more t file standing = by_test (takes_file t standing) (λ c. rw c (omega arith)) (λ c. rw c (omega arith))

all_uses : (n file : ℕ) (t : Turn) (slots : List Slot) →
    sum_by (slot_uses n) (kept.all_turned t file slots) ≤ sum_by (slot_uses n) slots + span file (file + kept.files_taken t slots) n
all_uses n file t [] = omega arith
all_uses n file t (s ∷ slots) =
    let next = file_behind t file s.standing in
    rw (
      sum_by-cons (slot_uses n) (record { events = s.events; standing = turned t file s.standing }) (kept.all_turned t next slots),
      sum_by-cons (slot_uses n) s slots,
      taken_cons t s slots file,
    )
    (let a = turns_uses n file t s.standing in
    let b = all_uses n next t slots in
    let c = span_joins file next (next + kept.files_taken t slots) n (behind_more t file s.standing) (omega arith) in
    omega (arith, a, b, c))

turns_all : (n : ℕ) (force : List Kept) (moment : ℤ) (file : ℕ) (is : List Index) →
    sum_by (index_uses n) (all_turned force moment file is) ≤ sum_by (index_uses n) is + span file
    (file + sum_by (files_taken force moment) is) n
turns_all n force moment file [] = omega arith
turns_all n force moment file (i ∷ is) =
    let next = file + files_taken force moment i in
    rw (
      sum_by-cons (index_uses n) (steps.turned_index force moment file i) (all_turned force moment next is),
      sum_by-cons (index_uses n) i is,
    )
    (let a = all_uses n file (turn_in force moment i) i.slots in
    let b = turns_all n force moment next is in
    let c = span_joins file next (next + sum_by (files_taken force moment) is) n (omega arith) (omega arith) in
    let d = sum_by-cons (files_taken force moment) i is in
    let e : next + sum_by (files_taken force moment) is ≡ file + sum_by (files_taken force moment) (i ∷ is) = omega (arith, d) in
    subst (λ (k : ℕ). index_uses n (steps.turned_index force moment file i) + sum_by (index_uses n) (all_turned force moment next is)
    ≤ (index_uses n i + sum_by (index_uses n) is) + span file k n) e
    (omega (arith, a, b, c)))

le_by : (g : Index → ℕ) (name : List ℕ) (f : Index → Index) (fresh : Index) (d : ℕ) (is : List Index) (o : Option Index) →
    find index_name name is ≡ o →
    g fresh ≡ 0 → g (f (unwrap_or o fresh)) ≤ g (unwrap_or o fresh) + d →
    sum_by g (if is_some o then change index_name name f is else insert index_name (f fresh) is) ≤ sum_by g is + d
le_by g name f fresh d is None e z h = let a = sum_put (stands_before index_name) g (f fresh) is in omega (arith, a, z, h)
le_by g name f fresh d is (Some y) e z h = let a = sum_change index_name name f g y is e in omega (arith, a, h)

le_change : (g : Index → ℕ) (name : List ℕ) (f : Index → Index) (d : ℕ) (is : List Index) (o : Option Index) → find index_name name is ≡ o →
    ((i : Index) → o ≡ Some i → g (f i) ≤ g i + d) → sum_by g (change index_name name f is) ≤ sum_by g is + d
le_change g name f d is None e h = let a = ap (sum_by g) (change_none index_name name f is e) in omega (arith, a)
le_change g name f d is (Some y) e h = let a = sum_change index_name name f g y is e in let b = h y refl in omega (arith, a, b)

-- from one to the other, each number of the span once more at most
pub record Spans (old new : Catalog) : Type 0 where
  pub later : old.next_file ≤ new.next_file
  pub gains : (n : ℕ) → uses n new ≤ uses n old + span old.next_file new.next_file n

spans_none : (s : Catalog) (indexes : List Index) → ((n : ℕ) → sum_by (index_uses n) indexes ≤ uses n s) →
    (entries : List Entry) (counts : Counts) →
    Spans s (record { indexes = indexes; ledger = entries; counts = counts; next_file = s.next_file })
spans_none s indexes h entries counts = record { later = omega arith; gains = λ n. (let a = h n in omega (arith, a)) }

spans_then : (a b c : Catalog) → Spans a b → Spans b c → Spans a c
spans_then a b c g h = record {
  later = (let p = g.later in let q = h.later in omega (arith, p, q));
  gains = λ n. (let p = g.gains n in
      let q = h.gains n in
      let r = span_joins a.next_file b.next_file c.next_file n g.later h.later in
      omega (arith, p, q, r));
}

file_more : (file : ℕ) (b : Bool) → file ≤ file_after file b
file_more file true = omega arith
file_more file false = omega arith

sound_in : (s : Catalog) (name : List ℕ) → AllSound s → (o : Option Index) → find index_name name s.indexes ≡ o →
    AreSoundFrom (unwrap_or o (fresh_index name)).name 0 (unwrap_or o (fresh_index name)).slots
sound_in s name h None e = tt
sound_in s name h (Some i) e = all_found IsSound index_name name i s.indexes h e

spans_put : (force : List Kept) (moment : ℤ) (s : Catalog) (event : Event) (name : List ℕ) → AllSound s →
    Spans s (put_event force moment s event name)
spans_put force moment s event name sound =
    let i : Index = index_at s name in
    let fresh = is_fresh force event i in
    record {
      later = file_more s.next_file fresh;
      gains = λ n. le_by (index_uses n) name (filled force moment s.next_file (s.counts.placed + 1) event) (fresh_index name)
          (span s.next_file (file_after s.next_file fresh) n) s.indexes (find index_name name s.indexes) refl refl
          (placed_by n (limits force i.name) s.next_file event (s.counts.placed + 1) moment i.slots
          (goes i.name (limits force i.name) s.next_file event (s.counts.placed + 1) moment i.slots
          (sound_in s name sound (find index_name name s.indexes) refl)));
    }

spans_to : (force : List Kept) (moment : ℤ) (s : Catalog) (event : Event) (o : Option (List ℕ)) → AllSound s →
    Spans s (deal_to force moment s event o)
spans_to force moment s event None sound = spans_none s s.indexes (λ n. omega arith) _ _
spans_to force moment s event (Some name) sound = spans_put force moment s (named name event) name sound

spans_deal : (force : List Kept) (moment : ℤ) (s : Catalog) (o : Routed) → AllSound s → Spans s (deal force moment s o)
spans_deal force moment s (To event) sound = spans_to force moment s event (home force event.index) sound
spans_deal force moment s Null sound = spans_none s s.indexes (λ n. omega arith) _ _

spans_tick : (force : List Kept) (moment : ℤ) (s : Catalog) → Spans s (tick force moment s)
spans_tick force moment s = record { later = omega arith; gains = λ n. turns_all n force moment s.next_file s.indexes }

closed_uses : (n : ℕ) (slots : List Slot) → sum_by (slot_uses n) (map closed_slot slots) ≡ sum_by (slot_uses n) slots
closed_uses n [] = refl
closed_uses n (s ∷ slots) =
    rw (sum_by-cons (slot_uses n) (closed_slot s) (map closed_slot slots), sum_by-cons (slot_uses n) s slots)
    (let a = change_live_same n kept.closed (λ b. by_test (is_open b) (λ t. rw t refl) (λ t. rw t refl)) s.standing in
    let b = closed_uses n slots in
    omega (arith, a, b))

spans_roll : (index : List ℕ) (s : Catalog) → Spans s (steps.roll index s)
spans_roll index s = spans_none s _ (λ n.
    (let a = change_same (index_uses n) index closed_index (λ i. closed_uses n i.slots) s.indexes (find index_name index s.indexes) refl in
    omega (arith, a))) _ _

-- a thaw at a place
update_uses : (n file id : ℕ) (slots : List Slot) (o : Option Slot) → slice_get slots id ≡ o →
    sum_by (slot_uses n) (update id (thawed_slot file) slots) ≤ sum_by (slot_uses n) slots + span file (file_after file (can_thaw o)) n
update_uses n file id slots None e = let a = ap (sum_by (slot_uses n)) (update_none id slots e) in omega (arith, a)
  where
    update_none : (k : ℕ) (ss : List Slot) → slice_get ss k ≡ None → update k (thawed_slot file) ss ≡ ss
    update_none k [] h = refl
    update_none zero (s ∷ ss) h = absurd (some_none h)
      where
        some_none : Some s ≡ None → ⊥
        some_none c = cc
    update_none (suc k) (s ∷ ss) h = ap (λ (l : List Slot). s ∷ l) (update_none k ss h)
update_uses n file id slots (Some s) e =
    let a = sum_update (slot_uses n) id (thawed_slot file) s slots e in
    let b = thaws_uses n file s in
    omega (arith, a, b)

spans_thaw : (index : List ℕ) (id : ℕ) (s : Catalog) → Spans s (thaw index id s)
spans_thaw index id s = record {
  later = file_more s.next_file (thaws index id s);
  gains = λ n. le_change (index_uses n) index (thawed_index id s.next_file) (span s.next_file (file_after s.next_file (thaws index id s)) n)
      s.indexes
      (find index_name index s.indexes) refl
      (λ i e. subst (λ (o : Option Index). index_uses n (thawed_index id s.next_file i)
      ≤ index_uses n i + span s.next_file (file_after s.next_file (can_thaw (slice_get (unwrap_or o (fresh_index index)).slots id))) n)
      (sym e)
      (update_uses n s.next_file id i.slots (slice_get i.slots id) refl));
}

-- ---- histories

pub record IsBehind (base s : Catalog) : Type 0 where
  pub sound : AllSound s
  pub spans : Spans base s

pub keeps_spans : (base : Catalog) → Keeps (IsBehind base)
keeps_spans base = record {
  deals = λ force moment s o h. record {
    sound = keeps_sound.deals force moment s o h.sound;
    spans = spans_then base s (deal force moment s o) h.spans (spans_deal force moment s o h.sound);
  };
  ticks = λ force moment s h. record {
    sound = keeps_sound.ticks force moment s h.sound;
    spans = spans_then base s (tick force moment s) h.spans (spans_tick force moment s);
  };
  rolls = λ index s h. record {
    sound = keeps_sound.rolls index s h.sound;
    spans = spans_then base s (steps.roll index s) h.spans (spans_roll index s);
  };
  thaws = λ index id s h. record {
    sound = keeps_sound.thaws index id s h.sound;
    spans = spans_then base s (thaw index id s) h.spans (spans_thaw index id s);
  };
}

pub behind_after : (choose : Chooser) (m : State) (history : List TimedCommand) → AllSound m.catalog →
    IsBehind m.catalog (after_from choose m history).catalog
behind_after choose m history sound =
    keeps_after (IsBehind m.catalog) (keeps_spans m.catalog) choose m history
    (record { sound = sound; spans = spans_none m.catalog m.catalog.indexes (λ n. omega arith) m.catalog.ledger m.catalog.counts })

spans_after : (choose : Chooser) (m : State) (history : List TimedCommand) → AllSound m.catalog →
    Spans m.catalog (after_from choose m history).catalog
spans_after choose m history sound = (behind_after choose m history sound).spans

pub renews_after : (choose : Chooser) (m : State) (history : List TimedCommand) → AllSound m.catalog →
    Renews m.catalog (after_from choose m history).catalog
renews_after choose m history sound =
    let g = spans_after choose m history sound in
    let from = m.catalog.next_file in
    let to = (after_from choose m history).catalog.next_file in
    record {
      later = g.later;
      old_ones = λ n l. (let a = g.gains n in let b = span_below from to n l in omega (arith, a, b));
      new_ones = λ n l h. (let a = g.gains n in let b = span_most from to n in omega (arith, a, b));
      none_beyond = λ n l. (let a = g.gains n in let b = span_beyond from to n l in omega (arith, a, b));
    }

pub apart_behind : (s : Catalog) → IsBehind empty.catalog s → AreApart s
apart_behind s h =
    let g = h.spans in
    let to = s.next_file in
    record {
      one_each = λ n. (let a = g.gains n in let b = span_most 1 to n in omega (arith, a, b));
      from_one = (let a = g.gains 0 in let b = span_below 1 to 0 (omega arith) in omega (arith, a, b));
      below = λ n l. (let a = g.gains n in let b = span_beyond 1 to n l in omega (arith, a, b));
    }

pub apart_after : (choose : Chooser) (history : List TimedCommand) → AreApart (state_after choose history).catalog
apart_after choose history = apart_behind (state_after choose history).catalog (behind_after choose empty history tt)
