-- Items that say what changes under names of their kinds.
use Rattle.std.proofs.Common.{◌≡◌, ◌==◌, ◌&&◌, ◌||◌, ℕ, suc, Bool, true, false, List, [], ◌∷◌, ◌++◌, refl, sym, ap, ◌∙◌, subst, arith}
use Rattle.std.specs.Prelude.{bytes_eq}
use Rattle.std.specs.List.{AllByRecursion}
use Rattle.std.proofs.lemmas.Bool.{eqb-true}
use Rattle.std.proofs.lemmas.Bool.Decides.{Decides-eqb}
use Rattle.std.proofs.lemmas.Slice.Eq.{bytes_eq-Decides}
use Rattle.ix_manifest.specs.Book.{Name, NamedItems, NoneUnder, name_of, is_same, named, replay}
use Rattle.ix_manifest.proofs.Applying.{replay_behind}
use Rattle.ix_manifest.proofs.InPlace.{none_under}
use Rattle.ix_manifest.proofs.Renaming.{replay_at}
use Rattle.ix_items.specs.declared.items.Item.{Item}
use Rattle.ix_model.proofs.Named.{by_test}
use Rattle.ix_model.specs.Said.{SaysLead, SaysJoin}

true_false : true ≡ false → ⊥
true_false e = cc

pub both_true : (a b : Bool) → (a && b) ≡ true → (a ≡ true) × (b ≡ true)
both_true true b e = (refl, e)
both_true false b e = absurd (true_false (sym e))

pub same_kind : (a b : Name) → is_same a b ≡ true → a.kind ≡ b.kind
same_kind a b e = eqb-true a.kind b.kind (both_true (a.kind == b.kind) _ e).0

-- names that pass the test are one
pub same_name : (a b : Name) → is_same a b ≡ true → a ≡ b
same_name a b e =
    let one = both_true (a.kind == b.kind) _ e in
    let two = both_true (bytes_eq a.text b.text) _ one.1 in
    let kind : a.kind ≡ b.kind = eqb-true a.kind b.kind one.0 in
    let text : a.text ≡ b.text = (bytes_eq-Decides a.text b.text).0 two.0 in
    let number : a.number ≡ b.number = eqb-true a.number b.number two.1 in
    λ i. record { kind = kind i; text = text i; number = number i }

-- what holds of a name of this kind, by its text and number
pub at_kind : (P : Name → Type 0) (kind : ℕ) → ((text : List ℕ) (number : ℕ) → P (named kind text number)) → (name : Name) →
    kind ≡ name.kind → P name
at_kind P kind each name e = subst P (λ i. record { kind = e i; text = name.text; number = name.number }) (each name.text name.number)

-- 0 is no number behind another
pub zero_other : (n : ℕ) → (0 == suc n) ≡ false
zero_other n = by_test (0 == suc n) (λ t. absurd (let e = eqb-true 0 (suc n) t in omega (arith, e))) (λ t. t)

pub other_zero : (n : ℕ) → (suc n == 0) ≡ false
other_zero n = by_test (suc n == 0) (λ t. absurd (let e = eqb-true (suc n) 0 t in omega (arith, e))) (λ t. t)

pub and_none : (b : Bool) → (b && false) ≡ false
and_none true = refl
and_none false = refl

-- no item of these kinds stands under a name of another kind
pub none_of_kind : (kinds : ℕ → Bool) (name : Name) (said : List Item) → kinds name.kind ≡ false →
    AllByRecursion (λ (x : Item). kinds (name_of x).kind ≡ true) said → NoneUnder name said
none_of_kind kinds name [] other own = tt
none_of_kind kinds name (x ∷ said) other own = (
  by_test (is_same (name_of x) name)
      (λ t. absurd (true_false (sym own.0 ∙ ap kinds (same_kind (name_of x) name t) ∙ other)))
      (λ t. t),
  none_of_kind kinds name said other own.1,
)

pub says_lead : SaysLead
says_lead kinds said from to says others = λ i name. at name i
  where
    at : (name : Name) → to name ≡ replay said from name
    at name = by_test (kinds name.kind)
        (λ t. says.lead name t)
        (λ t. others name t ∙ sym (none_under said name from (none_of_kind kinds name said t says.own)))

or_left : (a b : Bool) → a ≡ true → (a || b) ≡ true
or_left true b e = refl
or_left false b e = absurd (true_false (sym e))

or_right : (a b : Bool) → b ≡ true → (a || b) ≡ true
or_right true b e = refl
or_right false b e = e

or_first : (a b : Bool) → (a || b) ≡ true → b ≡ false → a ≡ true
or_first true b e f = refl
or_first false b e f = absurd (true_false (sym e ∙ f))

not_true : (a : Bool) → (a ≡ true → ⊥) → a ≡ false
not_true true d = absurd (d refl)
not_true false d = refl

pub both_own : (k l : ℕ → Bool) (a b : List Item) → AllByRecursion (λ (x : Item). k (name_of x).kind ≡ true) a →
    AllByRecursion (λ (x : Item). l (name_of x).kind ≡ true) b →
    AllByRecursion (λ (x : Item). (k (name_of x).kind || l (name_of x).kind) ≡ true) (a ++ b)
both_own k l [] [] f g = tt
both_own k l [] (y ∷ b) f g = (or_right (k (name_of y).kind) (l (name_of y).kind) g.0, both_own k l [] b f g.1)
both_own k l (x ∷ a) b f g = (or_left (k (name_of x).kind) (l (name_of x).kind) f.0, both_own k l a b f.1 g)

pub says_join : SaysJoin
says_join k l a b from to apart first second = record {
  own = both_own k l a b first.own second.own;
  lead = λ name is. by_test (l name.kind)
      (λ t. (let none = none_of_kind k name a (not_true (k name.kind) (λ u. true_false (sym t ∙ apart name.kind u))) first.own in
      second.lead name t ∙ sym (replay_at b (replay a from) from name (none_under a name from none)) ∙ sym (whole name)))
      (λ t. first.lead name (or_first (k name.kind) (l name.kind) is t)
      ∙ sym (none_under b name (replay a from) (none_of_kind l name b t second.own)) ∙ sym (whole name));
}
  where
    whole : (name : Name) → replay (a ++ b) from name ≡ replay b (replay a from) name
    whole name = ap (λ (x : NamedItems). x name) (replay_behind a b from)

-- ---- items whose names have the number 0

pub none_numbered : (kind : ℕ) (text : List ℕ) (number : ℕ) (said : List Item) →
    AllByRecursion (λ (x : Item). (name_of x).number ≡ 0) said → NoneUnder (named kind text (suc number)) said
none_numbered kind text number [] h = tt
none_numbered kind text number (x ∷ said) h = (
  by_test (is_same (name_of x) (named kind text (suc number)))
      (λ t. absurd (let e = ap (λ (n : Name). n.number) (same_name (name_of x) (named kind text (suc number)) t) in let z = h.0 in
      omega (arith, e, z)))
      (λ t. t),
  none_numbered kind text number said h.1,
)

and_true : (b : Bool) → (b && true) ≡ b
and_true true = refl
and_true false = refl

-- two such names of a kind are the same where their texts are
pub same_text : (kind : ℕ) (a b : List ℕ) → is_same (named kind a 0) (named kind b 0) ≡ bytes_eq a b
same_text kind a b =
    ap (λ (t : Bool). t && (bytes_eq a b && true)) ((Decides-eqb kind kind).1 refl) ∙ and_true (bytes_eq a b)
