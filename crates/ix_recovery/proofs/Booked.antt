-- A book by what is in a list of what stands in it.
use Rattle.std.proofs.Common.{◌≡◌, ℕ, ◌&&◌, Bool, true, false, List, [], ◌∷◌, ◌++◌, refl, sym, ap, ◌∙◌, inl, inr, subst}
use Rattle.std.specs.Prelude.{Option, Some, None, ◌⊎◌, if◌then◌else◌, option_to_list, bytes_eq}
use Rattle.std.specs.List.{AllByRecursion}
use Rattle.std.proofs.lemmas.Bool.Decides.{Decides-eqb}
use Rattle.std.proofs.lemmas.Slice.Eq.{bytes_eq-Decides}
use Rattle.ix_base.specs.declared.files.File.{File}
use Rattle.ix_manifest.specs.Book.{Name, NamedItems, NoneUnder, named, empty, name_of, is_same, left_by, after_item, replay}
use Rattle.ix_manifest.specs.Slots.{AreOnce}
use Rattle.ix_manifest.proofs.InPlace.{none_under}
use Rattle.ix_manifest.proofs.Renaming.{chosen_other}
use Rattle.ix_items.specs.declared.items.Item.{Item}
use Rattle.ix_items.specs.declared.items.Item.TheVariants as items
use Rattle.ix_model.proofs.Named.{by_test, bytes_same}
use Rattle.ix_replay.specs.Lists.{IsLeft, AreListed, Lists}
use Rattle.ix_model.specs.Books.{once}
use Rattle.ix_model.proofs.Saying.{same_name}
use Rattle.ix_store.specs.Written.{over}
use Rattle.ix_recovery.specs.Among.{IsAmong}
use Rattle.ix_recovery.specs.Listed.{removal_item, all_items}
use Rattle.ix_recovery.proofs.Members.{all_among, all_append, all_from, every_among, among_front, among_behind}

none_some : {X : Type 0} {x : X} → None ≡ Some x → ⊥
none_some e = cc

some_same : {X : Type 0} {x y : X} → Some x ≡ Some y → x ≡ y
some_same e = cc

true_false : true ≡ false → ⊥
true_false e = cc

-- ---- names

-- two names whose texts differ
pub other_text : (k l : ℕ) (a b : List ℕ) (m n : ℕ) → bytes_eq a b ≡ false → is_same (named k b m) (named l a n) ≡ false
other_text k l a b m n d = by_test (is_same (named k b m) (named l a n))
    (λ t. absurd (true_false (sym (bytes_same a b (sym (ap (λ (x : Name). x.text) (same_name (named k b m) (named l a n) t)))) ∙ d)))
    (λ t. t)

-- and whose numbers differ
pub other_number : (k l : ℕ) (a b : List ℕ) (m n : ℕ) → (m ≡ n → ⊥) → is_same (named k a m) (named l b n) ≡ false
other_number k l a b m n d = by_test (is_same (named k a m) (named l b n))
    (λ t. absurd (d (ap (λ (x : Name). x.number) (same_name (named k a m) (named l b n) t))))
    (λ t. t)

-- where an item that stands alone is found, it is that item
pub once_is : (item : Item) (name : Name) (x : Item) → once item name ≡ Some x → (item ≡ x) × (name_of item ≡ name)
once_is item name x e = by_test (is_same (name_of item) name)
    (λ t. (some_same (sym (ap (λ (b : Bool). if b then Some item else None) t) ∙ e), same_name (name_of item) name t))
    (λ t. absurd (none_some (sym (ap (λ (b : Bool). if b then Some item else None) t) ∙ e)))

-- ---- under names of their own

pub once_append : (a b : List Item) → AreOnce a → AreOnce b → AllByRecursion (λ (x : Item). NoneUnder (name_of x) b) a → AreOnce (a ++ b)
once_append [] b f g h = g
once_append (x ∷ a) b f g h =
    (all_append (λ (y : Item). is_same (name_of y) (name_of x) ≡ false) a b f.0 h.0, once_append a b f.1 g h.1)

-- ---- lists and books

abbrev pub StandsIn : NamedItems → Item → Type 0
StandsIn book x = book (name_of x) ≡ Some x

-- no item is under the name, or the items say what the book has there
found : (book : NamedItems) (name : Name) (said : List Item) (start : NamedItems) → AreOnce said → AllByRecursion IsLeft said →
    AllByRecursion (StandsIn book) said →
    NoneUnder name said ⊎ (replay said start name ≡ book name)
found book name [] start once left stand = inl tt
found book name (x ∷ said) start once left stand =
    by_test (is_same (name_of x) name)
    (λ t. (let one : name_of x ≡ name = same_name (name_of x) name t in
    inr (none_under said name (after_item x start) (subst (λ (n : Name). NoneUnder n said) one once.0)
    ∙ ap (λ (b : Bool). if b then left_by x else start name) t ∙ left.0 ∙ sym stand.0 ∙ ap book one)))
    (λ t. by t (found book name said (after_item x start) once.1 left.1 stand.1))
  where
    by : is_same (name_of x) name ≡ false → NoneUnder name said ⊎ (replay said (after_item x start) name ≡ book name) →
        NoneUnder name (x ∷ said) ⊎ (replay said (after_item x start) name ≡ book name)
    by t (inl none) = inl (t, none)
    by t (inr e) = inr e

pub same_names : (a : Name) → is_same a a ≡ true
same_names a =
    let kinds = (Decides-eqb a.kind a.kind).1 refl in
    let texts = (bytes_eq-Decides a.text a.text).1 refl in
    let numbers = (Decides-eqb a.number a.number).1 refl in
    λ i. kinds i && (texts i && numbers i)

same_self : (a b : Name) → a ≡ b → is_same a b ≡ true
same_self a b e = ap (λ (n : Name). is_same a n) (sym e) ∙ same_names a

other_way : (a b : Name) → is_same a b ≡ false → is_same b a ≡ false
other_way a b d = by_test (is_same b a) (λ t. absurd (true_false (sym (same_self a b (sym (same_name b a t))) ∙ d))) (λ t. t)

-- an item under the name is none of those of which none is
pub none_among : (name : Name) (x : Item) (said : List Item) → NoneUnder name said → IsAmong x said → name_of x ≡ name → ⊥
none_among name x said none at e =
    true_false (sym (same_self (name_of x) name e) ∙ all_among (λ (y : Item). is_same (name_of y) name ≡ false) x said none at)

pub lists_by : (said : List Item) (book : NamedItems) → AreListed said → AllByRecursion (StandsIn book) said →
    ((name : Name) (x : Item) → book name ≡ Some x → IsAmong x said × (name_of x ≡ name)) → Lists said book
lists_by said book listed stand among = record { stands = λ i name. at name i; listed = listed }
  where
    nothing : (name : Name) → NoneUnder name said → (o : Option Item) → book name ≡ o → book name ≡ None
    nothing name none None e = e
    nothing name none (Some x) e = let a = among name x e in absurd (none_among name x said none a.0 a.1)

    by : (name : Name) → NoneUnder name said ⊎ (replay said empty name ≡ book name) → book name ≡ replay said empty name
    by name (inl none) = nothing name none (book name) refl ∙ sym (none_under said name empty none)
    by name (inr e) = sym e

    at : (name : Name) → book name ≡ replay said empty name
    at name = by name (found book name said empty listed.once listed.left stand)

-- ---- what stands in a book is in each list of it

among_stands : (x : Item) (said : List Item) (start : NamedItems) → AreOnce said → AllByRecursion IsLeft said → IsAmong x said →
    replay said start (name_of x) ≡ Some x
among_stands x [] start once left h = absurd h
among_stands x (y ∷ said) start once left (inl e) =
    subst (λ (z : Item). replay said (after_item y start) (name_of z) ≡ Some z) e
    (none_under said (name_of y) (after_item y start) once.0
    ∙ ap (λ (b : Bool). if b then left_by y else start (name_of y)) (same_names (name_of y)) ∙ left.0)
among_stands x (y ∷ said) start once left (inr h) = among_stands x said (after_item y start) once.1 left.1 h

stands_among : (name : Name) (x : Item) (said : List Item) (start : NamedItems) → AllByRecursion IsLeft said →
    replay said start name ≡ Some x →
    (start name ≡ Some x) ⊎ (IsAmong x said × (name_of x ≡ name))
stands_among name x [] start left e = inl e
stands_among name x (y ∷ said) start left e = by (stands_among name x said (after_item y start) left.1 e)
  where
    by : (after_item y start name ≡ Some x) ⊎ (IsAmong x said × (name_of x ≡ name)) → (start name ≡ Some x)
        ⊎ (IsAmong x (y ∷ said) × (name_of x ≡ name))
    by (inr h) = inr (inr h.0, h.1)
    by (inl k) =
        by_test (is_same (name_of y) name)
        (λ t. (let same : y ≡ x = some_same (sym left.0 ∙ sym (ap (λ (b : Bool). if b then left_by y else start name) t) ∙ k) in
        inr (inl same, ap name_of (sym same) ∙ same_name (name_of y) name t)))
        (λ t. inl (sym (chosen_other (is_same (name_of y) name) (left_by y) (start name) t) ∙ k))

-- an item of the list stands under its name
pub stands : (said : List Item) (book : NamedItems) → Lists said book → (x : Item) → IsAmong x said → book (name_of x) ≡ Some x
stands said book lists x at = ap (λ (b : NamedItems). b (name_of x)) lists.stands
    ∙ among_stands x said empty lists.listed.once lists.listed.left at

-- and what stands under a name is an item of the list
pub is_in : (said : List Item) (book : NamedItems) → Lists said book → (name : Name) (x : Item) → book name ≡ Some x → IsAmong x said
    × (name_of x ≡ name)
is_in said book lists name x e = by (stands_among name x said empty lists.listed.left (sym (ap (λ (b : NamedItems). b name) lists.stands)
    ∙ e))
  where
    by : (empty name ≡ Some x) ⊎ (IsAmong x said × (name_of x ≡ name)) → IsAmong x said × (name_of x ≡ name)
    by (inl none) = absurd (none_some none)
    by (inr h) = h

-- ---- with a run and last removals

-- it stands under another name than these
abbrev pub IsOther : Item → Type 0
IsOther x = (is_same (named 2 [] 0) (name_of x) ≡ false) × (is_same (named 12 [] 0) (name_of x) ≡ false)

removal_once : (removed : Option (List File)) → AreOnce (option_to_list (removal_item removed))
removal_once None = tt
removal_once (Some files) = (tt, tt)

removal_left : (removed : Option (List File)) → AllByRecursion IsLeft (option_to_list (removal_item removed))
removal_left None = tt
removal_left (Some files) = (refl, tt)

each_removal : (P : Item → Type 0) (removed : Option (List File)) → ((files : List File) → P (items.Removals files)) →
    AllByRecursion P (option_to_list (removal_item removed))
each_removal P None k = tt
each_removal P (Some files) k = (k files, tt)

removal_in : (removed : Option (List File)) (x : Item) (name : Name) → removal_item removed ≡ Some x → named 12 [] 0 ≡ name →
    IsAmong x (option_to_list (removal_item removed)) × (name_of x ≡ name)
removal_in None x name e is = absurd (none_some e)
removal_in (Some files) x name e is = (inl (some_same e), ap name_of (sym (some_same e)) ∙ is)

module _ (run : ℕ) (removed : Option (List File)) (said : List Item) (book : NamedItems) (lists : Lists said book)
    (others : AllByRecursion IsOther said) where
  abbrev whole : NamedItems
  whole = over run (removal_item removed) book

  abbrev behind : List Item
  behind = option_to_list (removal_item removed) ++ said

  none_run : NoneUnder (named 2 [] 0) behind
  none_run =
      all_append (λ (x : Item). is_same (name_of x) (named 2 [] 0) ≡ false) (option_to_list (removal_item removed)) said
      (each_removal (λ (x : Item). is_same (name_of x) (named 2 [] 0) ≡ false) removed (λ files. refl))
      (all_from (λ (x : Item). is_same (name_of x) (named 2 [] 0) ≡ false) IsOther said (λ x h. other_way (named 2 [] 0) (name_of x) h.0)
      others)

  none_removals : NoneUnder (named 12 [] 0) said
  none_removals = all_from (λ (x : Item). is_same (name_of x) (named 12 [] 0) ≡ false) IsOther said
      (λ x h. other_way (named 12 [] 0) (name_of x) h.1) others

  listed_over : AreListed (all_items run removed said)
  listed_over = record {
    once = (
      none_run,
      once_append (option_to_list (removal_item removed)) said (removal_once removed) lists.listed.once
          (each_removal (λ (x : Item). NoneUnder (name_of x) said) removed (λ files. none_removals)),
    );
    left = (refl, all_append IsLeft (option_to_list (removal_item removed)) said (removal_left removed) lists.listed.left);
  }

  other_over : (name : Name) → is_same (named 2 [] 0) name ≡ false → is_same (named 12 [] 0) name ≡ false → whole name ≡ book name
  other_over name t u =
      ap (λ (b : Bool). if b then Some (items.Run run) else (if is_same (named 12 [] 0) name then removal_item removed else book name)) t
      ∙ ap (λ (b : Bool). if b then removal_item removed else book name) u

  removals_stand : (o : Option (List File)) → AllByRecursion (StandsIn (over run (removal_item o) book)) (option_to_list (removal_item o))
  removals_stand None = tt
  removals_stand (Some files) = (refl, tt)

  stand_over : AllByRecursion (StandsIn whole) (all_items run removed said)
  stand_over = (
    refl,
    all_append (StandsIn whole) (option_to_list (removal_item removed)) said (removals_stand removed)
        (every_among (StandsIn whole) said (λ x at. (let o = all_among IsOther x said others at in other_over (name_of x) o.0 o.1
        ∙ stands said book lists x at))),
  )

  in_over : (name : Name) (x : Item) → whole name ≡ Some x → IsAmong x (all_items run removed said) × (name_of x ≡ name)
  in_over name x e =
      by_test (is_same (named 2 [] 0) name)
      (λ t. (let is : items.Run run ≡ x = some_same (sym
      (ap (λ (b : Bool). if b then Some (items.Run run) else (if is_same (named 12 [] 0) name then removal_item removed else book name))
      t) ∙ e) in
      (inl is, ap name_of (sym is) ∙ same_name (named 2 [] 0) name t)))
      (λ t. by_test (is_same (named 12 [] 0) name)
      (λ u. (let at = removal_in removed x name
      (sym (ap (λ (b : Bool). if b then Some (items.Run run) else
      (if is_same (named 12 [] 0) name then removal_item removed else book name)) t
      ∙ ap (λ (b : Bool). if b then removal_item removed else book name) u) ∙ e) (same_name (named 12 [] 0) name u) in
      (inr (among_front x (option_to_list (removal_item removed)) said at.0), at.1)))
      (λ u. (let at = is_in said book lists name x (sym (other_over name t u) ∙ e) in
      (inr (among_behind x (option_to_list (removal_item removed)) said at.0), at.1))))

  pub lists_over : Lists (all_items run removed said) whole
  lists_over = lists_by (all_items run removed said) whole listed_over stand_over in_over
