use Rattle.std.proofs.Common.{◌≡◌, ℕ, List, Option, ◌++◌, length, take, ◌∙◌, ap, arith}
use Rattle.ix_conf_values.specs.declared.escapes.Part.{Part}
use Rattle.ix_conf_values.specs.declared.transforms.Key.{Key}
use Rattle.ix_transforms.specs.Writing.{written}
use Rattle.ix_transforms.specs.Queues.{limit_of, value_of}
use Rattle.ix_transforms.specs.Transforms.{destination, front}
use Rattle.ix_transforms.proofs.TextLemmas.{cut-more}
use Rattle.ix_transforms.proofs.ReplaceLemmas.{all-wider}
use Rattle.ix_transforms.proofs.transforms.value_at_match.Goals as goal

pub add_parts-requires-clause-spans : goal.add_parts-requires-clause-spans
add_parts-requires-clause-spans c =
    let found = c.args.found.now in
    rw c.as_slice-2.ensures (all-wider found.start found.end 0 (length c.args.text.now) found.groups (omega arith) c.requires.within
    c.requires.spans)

-- the same of equal parts
same : (limit limit' : ℕ) (kept kept' so_far so_far' text : List ℕ) (parts parts' : List Part) (spans spans' : List (Option (ℕ × ℕ))) →
    limit ≡ limit' → kept ≡ kept' → so_far ≡ so_far' → parts ≡ parts' → spans ≡ spans' →
    take limit (kept ++ written parts so_far text spans) ≡ take limit' (kept' ++ written parts' so_far' text spans')
same limit limit' kept kept' so_far so_far' text parts parts' spans spans' a b d e f =
    ap (λ x. take x (kept ++ written parts so_far text spans)) a
    ∙ ap (λ x. take limit' (x ++ written parts so_far text spans)) b
    ∙ ap (λ x. take limit' (kept' ++ written parts x text spans)) d
    ∙ ap (λ x. take limit' (kept' ++ written x so_far' text spans)) e
    ∙ ap (λ x. take limit' (kept' ++ written parts' so_far' text x)) f

pub returns : goal.returns
returns c =
    let t = c.args.transform.now in
    let q = c.args.queued.now in
    let key = c.destination-key.ensures in
    c.in_ok-add_parts.ensures.added
    ∙ same _ (limit_of (destination t)) _ (take (limit_of (destination t)) (front t.write_meta q.event.meta)) _ (value_of (destination t) q)
    c.args.text.now _ t.format _ c.args.found.now.groups
    (c.limit_of.ensures ∙ ap limit_of key) c.in_ok-value.ensures (c.as_slice.ensures ∙ c.in_ok-so_far.ensures
    ∙ ap (λ (k : Key). value_of k q) key) c.as_slice-3.ensures c.as_slice-2.ensures
    ∙ cut-more (limit_of (destination t)) (front t.write_meta q.event.meta)
    (written t.format (value_of (destination t) q) c.args.text.now c.args.found.now.groups)
