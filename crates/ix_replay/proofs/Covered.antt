-- What is known of a list, as items come and go.
use Rattle.std.proofs.Common.{◌≡◌, ◌⊎◌, inl, inr, ℕ, ◌+◌, ◌-◌, ◌<◌, ◌≤◌, ◌^◌, List, [], ◌∷◌, Bool, true, false}
use Rattle.std.proofs.Common.{get_or, if◌then◌else◌, Option, None, Some, Result, Ok, Err, refl, ap, subst, sym, ◌∙◌, arith}
use Rattle.std.specs.Prelude.{◌==◌, All, IfOk, IfSome, min, nat_lt, cond}
use Rattle.std.specs.BTreeMap.{is_at}
use Rattle.std.specs.BTreeSet.{UpdatesBy}
use Rattle.std.specs.List.{sum_by}
use Rattle.std.specs.List.Sorted.{IsPermutation}
use Rattle.std.specs.Ordering.{nat_cmp, is_eq}
use Rattle.std.specs.declared.cmp.Ordering.TheVariants.{Less, Equal, Greater}
use Rattle.std.proofs.lemmas.Bool.Decides.{nat_tests}
use Rattle.std.proofs.lemmas.List.Elements.{All-cons, All-tail}
use Rattle.std.proofs.lemmas.List.Sums.{sum_by-cons, get_or-le-sum_by}
use Rattle.std.proofs.lemmas.List.Sorted.{All-permutation, sum_by-IsPermutation}
use Rattle.ix_base.specs.declared.files.File.{File}
use Rattle.ix_items.specs.declared.items.Item.{Item}
use Rattle.ix_manifest.specs.Book.{empty, replay, removals_in}
use Rattle.ix_replay.specs.Amounts.{uses, bytes_in, events_in, channels_in, size_in, file_in, is_numbered, next_in}
use Rattle.ix_replay.specs.Bounds.{IsWithin, IsSpared, AreApart, KeepsBounds}
use Rattle.ix_replay.specs.Covering.{Covers, CoversAmounts, CoversFiles, Holds, has}
use Rattle.ix_replay.specs.declared.file_numbers.FileNumbers.{FileNumbers}
use Rattle.ix_replay.specs.declared.tally.Tally.{Tally}
use Rattle.ix_replay.specs.declared.totals.Totals.{Totals}

-- ---- in another order

pub covers_moved : (t : Tally) (xs ys : List Item) → IsPermutation xs ys → Covers t xs → Covers t ys
covers_moved t xs ys moved c =
    let same : (f : Item → ℕ) → sum_by f xs ≡ sum_by f ys = λ f. sym (sum_by-IsPermutation f xs ys moved) in
    record {
      within = All-permutation IsWithin xs ys moved c.within;
      amounts = record {
        bytes = subst (λ (n : ℕ). n ≤ t.totals.bytes) (same bytes_in) c.amounts.bytes;
        events = subst (λ (n : ℕ). n ≤ t.totals.events) (same events_in) c.amounts.events;
        channels = subst (λ (n : ℕ). n ≤ t.totals.channels) (same channels_in) c.amounts.channels;
        size = subst (λ (n : ℕ). n ≤ t.totals.size) (same size_in) c.amounts.size;
      };
      files = record {
        used = λ n. subst (λ (k : ℕ). k ≤ (if has t.files.held n then 1 else 0)) (same (uses n)) (c.files.used n);
        from_one = subst (λ (k : ℕ). k ≤ 0) (same (uses 0)) c.files.from_one;
        below = λ n above. subst (λ (k : ℕ). k ≤ 0) (same (uses n)) (c.files.below n above);
      };
    }

-- ---- what an item counts for

more_one : (f : Item → ℕ) (old new : ℕ) (item : Item) (items : List Item) → new ≡ min (old + f item) (2 ^ 64 - 1) → new < 2 ^ 64 - 1 →
    sum_by f items ≤ old → sum_by f (item ∷ items) ≤ new
more_one f old new item items is room up =
    let sum = sum_by-cons f item items in
    omega (arith, sum, is, room, up)

less_one : (f : Item → ℕ) (old new : ℕ) (item : Item) (items : List Item) → new ≡ old - min (f item) (2 ^ 64 - 1) →
    sum_by f (item ∷ items) ≤ old → sum_by f items ≤ new
less_one f old new item items is up =
    let sum = sum_by-cons f item items in
    omega (arith, sum, is, up)

-- totals with a further item
pub record IsMore (item : Item) (old new : Totals) : Type 0 where
  pub bytes : new.bytes ≡ min (old.bytes + bytes_in item) (2 ^ 64 - 1)
  pub events : new.events ≡ min (old.events + events_in item) (2 ^ 64 - 1)
  pub channels : new.channels ≡ min (old.channels + channels_in item) (2 ^ 64 - 1)
  pub size : new.size ≡ min (old.size + size_in item) (2 ^ 64 - 1)
  pub bytes_fit : new.bytes < 2 ^ 64 - 1
  pub events_fit : new.events < 2 ^ 64 - 1
  pub channels_fit : new.channels < 2 ^ 64 - 1
  pub size_fit : new.size < 2 ^ 64 - 1

pub amounts_more : (old new : Totals) (item : Item) (items : List Item) → IsMore item old new → CoversAmounts old items →
    CoversAmounts new (item ∷ items)
amounts_more old new item items is up = record {
  bytes = more_one bytes_in old.bytes new.bytes item items is.bytes is.bytes_fit up.bytes;
  events = more_one events_in old.events new.events item items is.events is.events_fit up.events;
  channels = more_one channels_in old.channels new.channels item items is.channels is.channels_fit up.channels;
  size = more_one size_in old.size new.size item items is.size is.size_fit up.size;
}

-- totals without one of the items
pub record IsLess (item : Item) (old new : Totals) : Type 0 where
  pub bytes : new.bytes ≡ old.bytes - min (bytes_in item) (2 ^ 64 - 1)
  pub events : new.events ≡ old.events - min (events_in item) (2 ^ 64 - 1)
  pub channels : new.channels ≡ old.channels - min (channels_in item) (2 ^ 64 - 1)
  pub size : new.size ≡ old.size - min (size_in item) (2 ^ 64 - 1)

pub amounts_less : (old new : Totals) (item : Item) (items : List Item) → IsLess item old new → CoversAmounts old (item ∷ items) →
    CoversAmounts new items
amounts_less old new item items is up = record {
  bytes = less_one bytes_in old.bytes new.bytes item items is.bytes up.bytes;
  events = less_one events_in old.events new.events item items is.events up.events;
  channels = less_one channels_in old.channels new.channels item items is.channels up.channels;
  size = less_one size_in old.size new.size item items is.size up.size;
}

-- ---- files

abbrev bit : Bool → ℕ
bit b = if b then 1 else 0

at_most : (b : Bool) → bit b ≤ 1
at_most true = omega arith
at_most false = omega arith

no_file : (item : Item) (n : ℕ) → file_in item ≡ None → uses n item ≡ 0
no_file item n none = ap (is_numbered n) none

one_file : (item : Item) (file : File) (n : ℕ) → file_in item ≡ Some file → uses n item ≡ (if file.number == n then 1 else 0)
one_file item file n some = ap (is_numbered n) some

pub files_same : (numbers : FileNumbers) (item : Item) (items : List Item) → file_in item ≡ None → CoversFiles numbers items →
    CoversFiles numbers (item ∷ items)
files_same numbers item items none up = record {
  used = λ n. subst (λ (k : ℕ). k ≤ bit (has numbers.held n)) (same n) (up.used n);
  from_one = subst (λ (k : ℕ). k ≤ 0) (same 0) up.from_one;
  below = λ n above. subst (λ (k : ℕ). k ≤ 0) (same n) (up.below n above);
}
  where
    same : (n : ℕ) → sum_by (uses n) items ≡ sum_by (uses n) (item ∷ items)
    same n =
        let sum = sum_by-cons (uses n) item items in
        let no = no_file item n none in
        omega (arith, sum, no)

pub files_fewer : (numbers : FileNumbers) (item : Item) (items : List Item) → CoversFiles numbers (item ∷ items) → CoversFiles numbers items
files_fewer numbers item items up = record {
  used = λ n. (let sum = sum_by-cons (uses n) item items in let most = up.used n in less n sum most);
  from_one = (let sum = sum_by-cons (uses 0) item items in let most = up.from_one in omega (arith, sum, most));
  below = λ n above. (let sum = sum_by-cons (uses n) item items in let most = up.below n above in omega (arith, sum, most));
}
  where
    less : (n : ℕ) → sum_by (uses n) (item ∷ items) ≡ uses n item + sum_by (uses n) items →
        sum_by (uses n) (item ∷ items) ≤ bit (has numbers.held n) → sum_by (uses n) items ≤ bit (has numbers.held n)
    less n sum most = omega (arith, sum, most)

cases : (k n : ℕ) → ((k == n) ≡ true) ⊎ ((k == n) ≡ false)
cases k n = go (k == n) refl
  where
    go : (t : Bool) → (k == n) ≡ t → ((k == n) ≡ true) ⊎ ((k == n) ≡ false)
    go true is = inl is
    go false is = inr is

at_other : (k n : ℕ) → (k == n) ≡ false → is_at (nat_cmp k) n ≡ false
at_other k n other = go (nat_lt k n) refl
  where
    go : (t : Bool) → nat_lt k n ≡ t → is_at (nat_cmp k) n ≡ false
    go true less = ap (λ (b : Bool). is_eq (cond b Less (cond (k == n) Equal Greater))) less
    go false less = ap (λ (b : Bool). is_eq (cond b Less (cond (k == n) Equal Greater))) less
        ∙ ap (λ (b : Bool). is_eq (cond b Equal Greater)) other

module _ (old new : FileNumbers) (item : Item) (file : File) (items : List Item) (some : file_in item ≡ Some file) where
  sum_one : (n : ℕ) → sum_by (uses n) (item ∷ items) ≡ bit (file.number == n) + sum_by (uses n) items
  sum_one n = sum_by-cons (uses n) item items ∙ ap (λ (k : ℕ). k + sum_by (uses n) items) (one_file item file n some)

  sum_other : (n : ℕ) → (file.number == n) ≡ false → sum_by (uses n) (item ∷ items) ≡ sum_by (uses n) items
  sum_other n other =
      let sum : sum_by (uses n) (item ∷ items) ≡ 0 + sum_by (uses n) items = sum_one n
      ∙ ap (λ (b : Bool). bit b + sum_by (uses n) items) other in
      omega (arith, sum)

  sum_same : (n : ℕ) → (file.number == n) ≡ true → sum_by (uses n) (item ∷ items) ≡ 1 + sum_by (uses n) items
  sum_same n same = sum_one n ∙ ap (λ (b : Bool). bit b + sum_by (uses n) items) same

  pub files_more : Holds file.number old new → CoversFiles old items → CoversFiles new (item ∷ items)
  files_more holds up = record {
    used = λ n. used n (cases file.number n);
    from_one = first (cases file.number 0);
    below = λ n above. high n above (cases file.number n);
  }
    where
      used : (n : ℕ) → ((file.number == n) ≡ true) ⊎ ((file.number == n) ≡ false) → sum_by (uses n) (item ∷ items) ≤ bit (has new.held n)
      used n (inl same) =
          let is : file.number ≡ n = grind (arith, nat_tests) in
          let was : sum_by (uses n) items ≤ 0 = subst (λ (b : Bool). sum_by (uses n) items ≤ bit b)
          (subst (λ (k : ℕ). has old.held k ≡ false) is holds.other) (up.used n) in
          let now : has new.held n ≡ true = subst (λ (k : ℕ). has new.held k ≡ true) is holds.held.1 in
          let sum = sum_same n same in
          subst (λ (b : Bool). sum_by (uses n) (item ∷ items) ≤ bit b) (sym now) (omega (arith, sum, was))
      used n (inr other) =
          let kept : has new.held n ≡ has old.held n = holds.held.2 n (at_other file.number n other) in
          subst (λ (k : ℕ). k ≤ bit (has new.held n)) (sym (sum_other n other))
          (subst (λ (b : Bool). sum_by (uses n) items ≤ bit b) (sym kept) (up.used n))

      first : ((file.number == 0) ≡ true) ⊎ ((file.number == 0) ≡ false) → sum_by (uses 0) (item ∷ items) ≤ 0
      first (inl same) =
          let is : file.number ≡ 0 = grind (arith, nat_tests) in
          let some = holds.from_one in
          absurd (omega (arith, is, some))
      first (inr other) = subst (λ (k : ℕ). k ≤ 0) (sym (sum_other 0 other)) up.from_one

      high : (n : ℕ) → new.next ≤ n → ((file.number == n) ≡ true) ⊎ ((file.number == n) ≡ false) → sum_by (uses n) (item ∷ items) ≤ 0
      high n above (inl same) =
          let is : file.number ≡ n = grind (arith, nat_tests) in
          let low = holds.below in
          absurd (omega (arith, is, low, above))
      high n above (inr other) =
          let further = holds.next in
          subst (λ (k : ℕ). k ≤ 0) (sym (sum_other n other)) (up.below n (omega (arith, further, above)))

  pub files_less : UpdatesBy nat_cmp (nat_cmp file.number) old.held new.held false → new.next ≡ old.next → CoversFiles old (item ∷ items) →
      CoversFiles new items
  files_less lets next up =
      let fewer = files_fewer old item items up in
      record {
        used = λ n. used n (cases file.number n);
        from_one = fewer.from_one;
        below = λ n above. fewer.below n (omega (arith, next, above));
      }
    where
      used : (n : ℕ) → ((file.number == n) ≡ true) ⊎ ((file.number == n) ≡ false) → sum_by (uses n) items ≤ bit (has new.held n)
      used n (inl same) =
          let is : file.number ≡ n = grind (arith, nat_tests) in
          let now : has new.held n ≡ false = subst (λ (k : ℕ). has new.held k ≡ false) is lets.1 in
          let most = up.used n in
          let one = at_most (has old.held n) in
          let sum = sum_same n same in
          subst (λ (b : Bool). sum_by (uses n) items ≤ bit b) (sym now) (omega (arith, most, one, sum))
      used n (inr other) =
          let kept : has new.held n ≡ has old.held n = lets.2 n (at_other file.number n other) in
          subst (λ (b : Bool). sum_by (uses n) items ≤ bit b) (sym kept)
          (subst (λ (k : ℕ). k ≤ bit (has old.held n)) (sum_other n other) (up.used n))

-- files of which no number is held are none of the items
pub none_held : (numbers : FileNumbers) (removed : List File) (items : List Item) →
    All (λ (f : File). has numbers.held f.number ≡ false) removed → CoversFiles numbers items → All (IsSpared removed) items
none_held numbers removed items none up = λ i d within. λ k e inside. λ same.
    let x = get_or items i d in
    let n = (get_or removed k e).number in
    let equal : (n == n) ≡ true = grind (arith, nat_tests) in
    let one : uses n x ≡ 1 = one_file x (get_or removed k e) n same ∙ ap bit equal in
    let least = get_or-le-sum_by (uses n) items i d within in
    let most : sum_by (uses n) items ≤ 0 = subst (λ (b : Bool). sum_by (uses n) items ≤ bit b) (none k e inside) (up.used n) in
    omega (arith, one, least, most)

-- they differ, and are below what their numbers are
pub files_apart : (numbers : FileNumbers) (items : List Item) (next : ℕ) → numbers.next ≤ next → CoversFiles numbers items →
    AreApart (λ n. sum_by (uses n) items) next
files_apart numbers items next low up = record {
  one_each = λ n. (let most = up.used n in let one = at_most (has numbers.held n) in omega (arith, most, one));
  from_one = up.from_one;
  below = λ n above. up.below n (omega (arith, low, above));
}

-- ---- all of it

pub all_more : (item : Item) (items : List Item) → IsWithin item → All IsWithin items → All IsWithin (item ∷ items)
all_more item items is all = All-cons IsWithin item items is all

pub all_less : (item : Item) (items : List Item) → All IsWithin (item ∷ items) → All IsWithin items
all_less item items all = All-tail IsWithin item items all

pub covers_none : (t : Tally) → CoversAmounts t.totals [] → CoversFiles t.files [] → Covers t []
covers_none t amounts files = record { within = λ k d within. absurd (omega (arith, within)); amounts = amounts; files = files }

-- what is known tells that the bounds are kept
pub keeps : (t : Tally) (items : List Item) (removed : List File) (next : ℕ) → t.totals.bytes < 2 ^ 63 → t.totals.events < 2 ^ 63 →
    t.totals.channels ≤ 256 → t.totals.size < 2 ^ 29 → AreApart (λ n. sum_by (uses n) items) next → All (IsSpared removed) items →
    Covers t items → removals_in (replay items empty) ≡ removed → next_in (replay items empty) ≡ next → KeepsBounds items
keeps t items removed next bytes events channels size apart spared covers are is =
    let b = covers.amounts.bytes in
    let e = covers.amounts.events in
    let c = covers.amounts.channels in
    let s = covers.amounts.size in
    record {
      within = covers.within;
      apart = subst (AreApart (λ n. sum_by (uses n) items)) (sym is) apart;
      spared = subst (λ (l : List File). All (IsSpared l) items) (sym are) spared;
      bytes = omega (arith, b, bytes);
      events = omega (arith, e, events);
      channels = omega (arith, c, channels);
      size = omega (arith, s, size);
    }

-- ---- what functions answer

pub add_file : {E : Type 0} (r : Result Bool E) (old new : FileNumbers) (item : Item) (file : File) → file_in item ≡ Some file →
    IfOk r (λ done. done ≡ true → Holds file.number old new) →
    IfOk r (λ done. done ≡ true → (items : List Item) → CoversFiles old items → CoversFiles new (item ∷ items))
add_file (Ok done) old new item file some holds = λ yes items up. files_more old new item file items some (holds yes) up
add_file (Err e) old new item file some holds = tt

pub add_all : {E : Type 0} (r : Result Bool E) (old new : Tally) (item : Item) → IsWithin item → IsMore item old.totals new.totals →
    IfOk r (λ done. done ≡ true → (items : List Item) → CoversFiles old.files items → CoversFiles new.files (item ∷ items)) →
    IfOk r (λ done. done ≡ true → (items : List Item) → Covers old items → Covers new (item ∷ items))
add_all (Ok done) old new item within more files = λ yes items covers. record {
  within = all_more item items within covers.within;
  amounts = amounts_more old.totals new.totals item items more covers.amounts;
  files = files yes items covers.files;
}
add_all (Err e) old new item within more files = tt

pub remove_all : (old new : Tally) (item : Item) (items : List Item) → IsLess item old.totals new.totals →
    CoversFiles new.files items → Covers old (item ∷ items) → Covers new items
remove_all old new item items less files covers = record {
  within = all_less item items covers.within;
  amounts = amounts_less old.totals new.totals item items less covers.amounts;
  files = files;
}

pub some_moved : (o : Option Tally) (xs ys : List Item) → IsPermutation xs ys → IfSome o (λ t. Covers t xs) → IfSome o (λ t. Covers t ys)
some_moved None xs ys moved covers = tt
some_moved (Some t) xs ys moved covers = covers_moved t xs ys moved covers
