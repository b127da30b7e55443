use Rattle.std.proofs.Common.{refl, ℕ, ◌<◌, List, [], ◌∷◌, ◌++◌, length, ap, subst, sym, ◌∙◌, arith}
use Rattle.std.proofs.lemmas.List.{map-append}
use Rattle.ix_manifest.specs.declared.staged_item.StagedItem.{StagedItem}
use Rattle.ix_manifest.specs.Slots.{items_of, in_slot}
use Rattle.ix_commit.proofs.Cutting.{grew_as, grew_slots}
use Rattle.ix_commit.proofs.Steps.{stages_item}
use Rattle.ix_commit.proofs.committer.Committer.push_item.Goals as goal

push_some : {X : Type 0} (xs : List X) (x : X) → 0 < length (xs ++ x ∷ [])
push_some [] x = omega arith
push_some (y ∷ ys) x = omega arith

pub returns-in-Err-clause-grew : goal.returns-in-Err-clause-grew
returns-in-Err-clause-grew c = grew_as _ _ (record { root = refl; log = refl; number = refl; first = refl; closed = refl }) refl refl refl
    refl

pub returns-then-size-clause-grew : goal.returns-then-size-clause-grew
returns-then-size-clause-grew c = grew_as _ _ (record { root = refl; log = refl; number = refl; first = refl; closed = refl }) refl refl
    refl refl

pub returns-in_err-push-clause-grew : goal.returns-in_err-push-clause-grew
returns-in_err-push-clause-grew c = grew_as _ _ (record { root = refl; log = refl; number = refl; first = refl; closed = refl }) refl refl
    refl c.in_err-push.ensures.err

pub returns-clause-staged : goal.returns-clause-staged
returns-clause-staged c = λ old new stages. stages_item c.args.self.now _ old new _ refl refl c.in_ok-push.ensures.ok c.requires stages

pub returns-clause-grew : goal.returns-clause-grew
returns-clause-grew c = grew_slots _ _ _ (record { root = refl; log = refl; number = refl; first = refl; closed = refl }) refl refl refl
    c.in_ok-push.ensures.ok

pub returns-clause-some : goal.returns-clause-some
returns-clause-some c = subst (λ (s : List StagedItem). 0 < length s) (sym c.in_ok-push.ensures.ok) (push_some c.args.self.now.slots _)

pub returns-clause-items : goal.returns-clause-items
returns-clause-items c = ap items_of c.in_ok-push.ensures.ok ∙ map-append in_slot c.args.self.now.slots _
