use Rattle.std.proofs.Common.{◌≡◌, ℕ, List, [], ◌∷◌, ◌++◌, ap, sym, subst, ◌∙◌, append-nil, append_assoc}
use Rattle.std.specs.List.{AllByRecursion}
use Rattle.ix_items.specs.Spelling.{HasSpelling}
use Rattle.ix_items.specs.declared.items.Bucket.{Bucket}
use Rattle.ix_items.specs.declared.items.Item.{Item}
use Rattle.ix_items.specs.declared.items.Item.TheVariants as items
use Rattle.ix_life.specs.declared.views.IndexView.{IndexView}
use Rattle.ix_catalog.proofs.Merging.{numbered, unnumbered}
use Rattle.ix_catalog.proofs.changes.put_index.Goals as goal
use Rattle.ix_catalog.specs.Changes.{changed, bucket_changes}
use Rattle.ix_catalog.specs.Shelves.{next_number}

pub returns-then-are_same-clause-put : goal.returns-then-are_same-clause-put
returns-then-are_same-clause-put c =
    let v = c.args.view.now in
    let same = c.are_same.ensures.0 c.if-are_same.true ∙ c.as_slice-after.ensures in
    let none = unnumbered v.name (next_number v.name v.buckets c.args.ledger.now) _ _ same in
    sym (append-nil c.args.items.now) ∙ ap (λ (l : List Item). c.args.items.now ++ l) (sym none)

pub returns-then-are_same-clause-proper : goal.returns-then-are_same-clause-proper
returns-then-are_same-clause-proper c =
    let v = c.args.view.now in
    let same = c.are_same.ensures.0 c.if-are_same.true ∙ c.as_slice-after.ensures in
    let none = unnumbered v.name (next_number v.name v.buckets c.args.ledger.now) _ _ same in
    subst (AllByRecursion HasSpelling) (sym none) tt

-- what is put where a bucket has changed
module _ (c : goal.In_ok-put_changed) where
  abbrev v : IndexView
  v = c.args.view.now

  abbrev olds : List Bucket
  olds = c.args.before.now

  abbrev number : ℕ
  number = next_number v.name v.buckets c.args.ledger.now

  item_is : c.in_ok-next_id.field-0 ≡ items.NextId v.name number
  item_is =
      let is : c.next_number-number.result ≡ number = c.next_number-number.ensures
      ∙ ap (λ (bs : List Bucket). next_number v.name bs c.args.ledger.now) c.as_slice-after.ensures in
      c.in_ok-next_id.ensures.value ∙ ap (items.NextId v.name) is

  rest_is : changed v.name olds c.as_slice-after.result.now ≡ changed v.name olds v.buckets
  rest_is i = changed v.name olds (c.as_slice-after.ensures i)

  whole_is : bucket_changes c.args.ledger.now olds v ≡ items.NextId v.name number ∷ changed v.name olds v.buckets
  whole_is =
      numbered v.name number olds v.buckets
      (λ same. let yes = c.are_same.ensures.1 (same ∙ sym c.as_slice-after.ensures) in cc)

pub returns-clause-put : goal.returns-clause-put
returns-clause-put c =
    let before = c.args.items.now in
    let rest = changed (v c).name (olds c) (v c).buckets in
    c.in_ok-put_changed.ensures.put ∙ (λ i. c.in_ok-push.ensures.ok i ++ rest_is c i)
    ∙ append_assoc before (c.in_ok-next_id.field-0 ∷ []) rest
    ∙ (λ i. before ++ (item_is c i ∷ rest)) ∙ ap (λ (l : List Item). before ++ l) (sym (whole_is c))

pub returns-clause-proper : goal.returns-clause-proper
returns-clause-proper c =
    let rest = subst (AllByRecursion HasSpelling) (rest_is c) c.in_ok-put_changed.ensures.proper in
    subst (AllByRecursion HasSpelling) (sym (whole_is c)) (subst HasSpelling (item_is c) c.in_ok-next_id.ensures.proper, rest)
