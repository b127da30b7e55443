-- Entries of a ledger: lists of which all sums are the same are one list in two orders.
use Rattle.std.proofs.Common.{◌≡◌, ℕ, ◌≤◌, Bool, true, false, List, [], ◌∷◌, ◌++◌, refl, sym, ap, subst, arith}
use Rattle.std.specs.Prelude.{Option, Some, None, if◌then◌else◌, ◌==◌, ◌&&◌, bytes_eq}
use Rattle.std.specs.Ordering.{int_eq}
use Rattle.std.specs.List.{sum_by}
use Rattle.std.specs.List.Sorted.{IsPermutation}
use Rattle.std.proofs.lemmas.Bool.Decides.{Decides-eqb, Decides-int_eq}
use Rattle.std.proofs.lemmas.Slice.Eq.{bytes_eq-Decides}
use Rattle.std.proofs.lemmas.List.Sorted.{IsPermutation-refl, IsPermutation-cons, IsPermutation-sym, IsPermutation-trans}
use Rattle.std.proofs.lemmas.List.Sorted.{IsPermutation-middle}
use Rattle.std.proofs.lemmas.List.Sums.{sum_by-cons, sum_by-append}
use Rattle.ix_items.specs.declared.items.Entry.{Entry}
use Rattle.ix_items.specs.declared.items.Rule.{Rule}
use Rattle.ix_items.specs.declared.items.Rule.TheVariants as rules
use Rattle.ix_model.proofs.Named.{by_test}

false_true : false ≡ true → ⊥
false_true e = cc

both_are : (a b : Bool) → (a && b) ≡ true → (a ≡ true) × (b ≡ true)
both_are true b e = (refl, e)
both_are false b e = absurd (false_true e)

-- ---- whether two entries are one

same_rule : Rule → Rule → Bool
same_rule rules.Age rules.Age = true
same_rule rules.Age rules.Cold = false
same_rule rules.Age rules.Total = false
same_rule rules.Cold rules.Age = false
same_rule rules.Cold rules.Cold = true
same_rule rules.Cold rules.Total = false
same_rule rules.Total rules.Age = false
same_rule rules.Total rules.Cold = false
same_rule rules.Total rules.Total = true

rule_is : (a b : Rule) → same_rule a b ≡ true → a ≡ b
unfolding same_rule
rule_is rules.Age rules.Age e = refl
rule_is rules.Age rules.Cold e = absurd (false_true e)
rule_is rules.Age rules.Total e = absurd (false_true e)
rule_is rules.Cold rules.Age e = absurd (false_true e)
rule_is rules.Cold rules.Cold e = refl
rule_is rules.Cold rules.Total e = absurd (false_true e)
rule_is rules.Total rules.Age e = absurd (false_true e)
rule_is rules.Total rules.Cold e = absurd (false_true e)
rule_is rules.Total rules.Total e = refl

rule_self : (a : Rule) → same_rule a a ≡ true
unfolding same_rule
rule_self rules.Age = refl
rule_self rules.Cold = refl
rule_self rules.Total = refl

abbrev same_archive : Option ℕ → Option ℕ → Bool
same_archive None None = true
same_archive None (Some b) = false
same_archive (Some a) None = false
same_archive (Some a) (Some b) = a == b

archive_is : (a b : Option ℕ) → same_archive a b ≡ true → a ≡ b
archive_is None None e = refl
archive_is None (Some b) e = absurd (false_true e)
archive_is (Some a) None e = absurd (false_true e)
archive_is (Some a) (Some b) e = ap (λ n. Some n) ((Decides-eqb a b).0 e)

archive_self : (a : Option ℕ) → same_archive a a ≡ true
archive_self None = refl
archive_self (Some a) = (Decides-eqb a a).1 refl

abbrev same_numbers : Entry → Entry → Bool
same_numbers x y = x.id == y.id && (x.count == y.count && (x.bytes == y.bytes && same_archive x.archive y.archive))

abbrev same_times : Entry → Entry → Bool
same_times x y = int_eq x.moment y.moment && (int_eq x.newest y.newest && int_eq x.oldest y.oldest)

abbrev same_entry : Entry → Entry → Bool
same_entry x y = bytes_eq x.index y.index && (same_rule x.rule y.rule && (same_numbers x y && same_times x y))

entry_is : (x y : Entry) → same_entry x y ≡ true → x ≡ y
entry_is x y e =
    let index = both_are (bytes_eq x.index y.index) (same_rule x.rule y.rule && (same_numbers x y && same_times x y)) e in
    let rule = both_are (same_rule x.rule y.rule) (same_numbers x y && same_times x y) index.1 in
    let parts = both_are (same_numbers x y) (same_times x y) rule.1 in
    let id = both_are (x.id == y.id) (x.count == y.count && (x.bytes == y.bytes && same_archive x.archive y.archive)) parts.0 in
    let count = both_are (x.count == y.count) (x.bytes == y.bytes && same_archive x.archive y.archive) id.1 in
    let size = both_are (x.bytes == y.bytes) (same_archive x.archive y.archive) count.1 in
    let moment = both_are (int_eq x.moment y.moment) (int_eq x.newest y.newest && int_eq x.oldest y.oldest) parts.1 in
    let newest = both_are (int_eq x.newest y.newest) (int_eq x.oldest y.oldest) moment.1 in
    λ i. record {
      index = ((bytes_eq-Decides x.index y.index).0 index.0) i;
      id = ((Decides-eqb x.id y.id).0 id.0) i;
      rule = (rule_is x.rule y.rule rule.0) i;
      moment = ((Decides-int_eq x.moment y.moment).0 moment.0) i;
      count = ((Decides-eqb x.count y.count).0 count.0) i;
      newest = ((Decides-int_eq x.newest y.newest).0 newest.0) i;
      oldest = ((Decides-int_eq x.oldest y.oldest).0 newest.1) i;
      bytes = ((Decides-eqb x.bytes y.bytes).0 size.0) i;
      archive = (archive_is x.archive y.archive size.1) i;
    }

entry_self : (x : Entry) → same_entry x x ≡ true
entry_self x =
    let index = (bytes_eq-Decides x.index x.index).1 refl in
    let id = (Decides-eqb x.id x.id).1 refl in
    let rule = rule_self x.rule in
    let moment = (Decides-int_eq x.moment x.moment).1 refl in
    let count = (Decides-eqb x.count x.count).1 refl in
    let newest = (Decides-int_eq x.newest x.newest).1 refl in
    let oldest = (Decides-int_eq x.oldest x.oldest).1 refl in
    let size = (Decides-eqb x.bytes x.bytes).1 refl in
    let archive = archive_self x.archive in
    λ i. index i && (rule i && ((id i && (count i && (size i && archive i))) && (moment i && (newest i && oldest i))))

-- ---- lists of them

weigh : Entry → Entry → ℕ
weigh x y = if same_entry x y then 1 else 0

weighs : (x y : Entry) (b : Bool) → same_entry x y ≡ b → weigh x y ≡ (if b then 1 else 0)
unfolding weigh
weighs x y b e = ap (λ (t : Bool). if t then 1 else 0) e

-- where it weighs, it stands in the list
record StandsIn (x : Entry) (ys : List Entry) : Type 0 where
  front : List Entry
  back : List Entry
  is : ys ≡ front ++ x ∷ back

found : (x : Entry) (ys : List Entry) → 1 ≤ sum_by (weigh x) ys → StandsIn x ys
found x [] some = absurd (omega (arith, some))
found x (y ∷ ys) some =
    by_test (same_entry x y)
    (λ t. record { front = []; back = ys; is = ap (λ e. e ∷ ys) (sym (entry_is x y t)) })
    (λ t. (let none = weighs x y false t in
    let sums = sum_by-cons (weigh x) y ys in
    let rest = found x ys (omega (arith, some, none, sums)) in
    record { front = y ∷ rest.front; back = rest.back; is = ap (λ l. y ∷ l) rest.is }))

pub permuted : (xs ys : List Entry) → ((g : Entry → ℕ) → sum_by g xs ≡ sum_by g ys) → IsPermutation xs ys
permuted [] [] same = IsPermutation-refl []
permuted [] (y ∷ ys) same =
    let sums = sum_by-cons (λ (e : Entry). 1) y ys in
    let none = same (λ e. 1) in
    absurd (omega (arith, sums, none))
permuted (x ∷ xs) ys same =
    let one = weighs x x true (entry_self x) in
    let mine = sum_by-cons (weigh x) x xs in
    let all = same (weigh x) in
    go (found x ys (omega (arith, one, mine, all))) (λ zs less. permuted xs zs less)
  where
    go : StandsIn x ys → ((zs : List Entry) → ((g : Entry → ℕ) → sum_by g xs ≡ sum_by g zs) → IsPermutation xs zs) →
        IsPermutation (x ∷ xs) ys
    go at rest =
        let front = at.front in
        let back = at.back in
        let less : (g : Entry → ℕ) → sum_by g xs ≡ sum_by g (front ++ back) =
        λ g. (let first = sum_by-cons g x xs in
        let middle = sum_by-append g front (x ∷ back) in
        let there = sum_by-cons g x back in
        let joined = sum_by-append g front back in
        let all = same g in
        let split = ap (sum_by g) at.is in
        omega (arith, first, middle, there, joined, all, split)) in
        let moved = IsPermutation-cons x xs (front ++ back) (rest (front ++ back) less) in
        let back_again = IsPermutation-sym (front ++ x ∷ back) (x ∷ (front ++ back)) (IsPermutation-middle front x back) in
        subst (IsPermutation (x ∷ xs)) (sym at.is) (IsPermutation-trans (x ∷ xs) (x ∷ (front ++ back)) (front ++ x ∷ back) moved back_again)
