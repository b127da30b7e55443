use Rattle.ix_commit.specs.declared.committer.StageFault.TheVariants as stages
use Rattle.std.specs.Prelude.{IsErrOf}
use Rattle.std.proofs.Common.{rules, ◌≡◌, ◌+◌, ap, sym, subst, ◌∙◌, List, [], ◌∷◌, ◌++◌, length, arith, append-nil, length-append}
use Rattle.std.specs.List.{AllByRecursion}
use Rattle.std.proofs.lemmas.List.Concat.{flat_map-append}
use Rattle.ix_items.specs.Spelling.{HasSpelling, item_bytes, body_bytes}
use Rattle.ix_items.specs.declared.items.Item.{Item}
use Rattle.ix_manifest.specs.Book.{NamedItems, replay}
use Rattle.ix_manifest.proofs.Applying.{replay_behind}
use Rattle.ix_commit.specs.Snapshot.{Stages}
use Rattle.ix_commit.proofs.Cutting.{grew_self, grew_on}
use Rattle.ix_commit.proofs.Steps.{all_at, taken_front, no_items, more_than}
use Rattle.ix_commit.proofs.drafting.stage_items.Goals as goal

pub loop-item-init : goal.loop-item-init
loop-item-init c = record { staged = λ old new stages. stages; grew = grew_self c.args.committer.now; size = omega arith }

pub returns-in_err-push_item-clause-grew : goal.returns-in_err-push_item-clause-grew
returns-in_err-push_item-clause-grew c = grew_on c.args.committer.now c.loop-item.committer c.push_item.new.self c.loop-item.invariant.grew
    c.push_item.ensures.grew

pub loop-item-preserved : goal.loop-item-preserved
loop-item-preserved c =
    let xs = c.loop-item.yielded in
    let item = c.in-Some.item in
    let size : length (body_bytes (xs ++ item ∷ [])) ≡ length (body_bytes xs) + length (item_bytes item) =
    ap length (flat_map-append item_bytes xs (item ∷ [])) ∙ length-append (body_bytes xs) (body_bytes (item ∷ []))
    ∙ ap (λ (l : List _). length (body_bytes xs) + length l) (append-nil (item_bytes item)) in
    record {
      staged = λ old new stages. subst (λ (b : NamedItems). Stages c.push_item.new.self old (record { book = b; contents = new.contents }))
          (sym (replay_behind xs (item ∷ []) new.book))
          (c.in_ok-push_item.ensures.staged old (record { book = replay xs new.book; contents = new.contents })
          (c.loop-item.invariant.staged old new stages));
      grew = grew_on c.args.committer.now c.loop-item.committer c.push_item.new.self c.loop-item.invariant.grew c.push_item.ensures.grew;
      size = omega (arith, size, c.in_ok-push_item.ensures.size, c.loop-item.invariant.size);
    }

pub push_item-requires : goal.push_item-requires
push_item-requires c =
    let it = c.into_iter-item-iterator in
    let xs = c.loop-item.yielded in
    let all = sym it.ensures.into_iter_gives.0 ∙ taken_front it.result xs c.loop-item.item-iterator c.loop-item.yielded_by
    ∙ ap (λ (ys : List Item). xs ++ ys) c.in-Some.ensures.steps.0 in
    all_at HasSpelling xs c.in-Some.item _ (subst (AllByRecursion HasSpelling) all c.requires)

pub returns-clause-staged : goal.returns-clause-staged
returns-clause-staged c = λ old new stages.
    let it = c.into_iter-item-iterator in
    let last = c.loop-item.item-iterator in
    let xs = c.loop-item.yielded in
    let none = no_items last.rest.items (omega (arith, last.rest.ok, c.in-None.ensures.steps.0)) in
    let all = sym it.ensures.into_iter_gives.0 ∙ taken_front it.result xs last c.loop-item.yielded_by
    ∙ ap (λ (ys : List Item). xs ++ ys) none ∙ append-nil xs in
    subst (λ (ys : List Item). Stages c.loop-item.committer old (record { book = replay ys new.book; contents = new.contents })) (sym all)
    (c.loop-item.invariant.staged old new stages)

pub returns-in_err-push_item-clause-full : goal.returns-in_err-push_item-clause-full
returns-in_err-push_item-clause-full c = λ is.
    let it = c.into_iter-item-iterator in
    let xs = c.loop-item.yielded in
    let all = sym it.ensures.into_iter_gives.0 ∙ taken_front it.result xs c.loop-item.item-iterator c.loop-item.yielded_by
    ∙ ap (λ (ys : List Item). xs ++ ys) c.in-Some.ensures.steps.0 in
    let was : IsErrOf c.push_item.result stages.Full = search rules in
    let full = c.push_item.ensures.full was in
    let most = more_than c.args.items.items xs c.in-Some.item _ all in
    omega (arith, full, most, c.loop-item.invariant.size)

pub returns-clause-size : goal.returns-clause-size
returns-clause-size c =
    let it = c.into_iter-item-iterator in
    let last = c.loop-item.item-iterator in
    let xs = c.loop-item.yielded in
    let none = no_items last.rest.items (omega (arith, last.rest.ok, c.in-None.ensures.steps.0)) in
    let all = sym it.ensures.into_iter_gives.0 ∙ taken_front it.result xs last c.loop-item.yielded_by
    ∙ ap (λ (ys : List Item). xs ++ ys) none ∙ append-nil xs in
    c.loop-item.invariant.size ∙ ap (λ (ys : List Item). c.args.committer.now.size + length (body_bytes ys)) (sym all)
