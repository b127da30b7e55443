use Rattle.std.proofs.Common.{◌≡◌, ◌<◌, ◌+◌, ◌++◌, ◌∙◌, ℕ, List, [], ◌∷◌, sym, ap, length, take, get_or, append_assoc}
use Rattle.std.proofs.lemmas.List.{map_more}
use Rattle.ix_items.specs.declared.items.Bucket.{Bucket}
use Rattle.ix_items.specs.declared.items.Rule.{Rule}
use Rattle.ix_life.specs.Housekeeping.{by_rule}
use Rattle.ix_life.proofs.housekeeping.freeze.Goals as goal

one_more : (rule : Rule) (bs : List Bucket) (i : ℕ) (b : Bucket) (before now more : List (ℕ × Rule)) → i < length bs → now ≡ before
    ++ by_rule rule (take i bs)
    → more ≡ now ++ ((get_or bs i b).id, rule) ∷ [] → more ≡ before ++ by_rule rule (take (i + 1) bs)
one_more rule bs i b before now more within so_far is =
    is ∙ ap (λ l. l ++ ((get_or bs i b).id, rule) ∷ []) so_far
    ∙ append_assoc before (by_rule rule (take i bs)) (((get_or bs i b).id, rule) ∷ [])
    ∙ ap (λ l. before ++ l) (sym (map_more (λ (x : Bucket). (x.id, rule)) bs i b within))

pub loop-bucket-preserved : goal.loop-bucket-preserved
loop-bucket-preserved c = one_more c.args.rule c.args.buckets.now c.loop-bucket.bucket-index _ _ _ _ c.loop-bucket-test.true
    c.loop-bucket.invariant c.in_ok-push.ensures.items
