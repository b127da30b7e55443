use Rattle.std.proofs.Common.{◌≡◌, ◌≤◌, ◌<◌, ℕ, List, length, take, drop, sym, ap, ◌∙◌, arith, ⊎_elim}
use Rattle.std.specs.Prelude.{Option, Some, None}
use Rattle.std.specs.Option.{option_map}
use Rattle.std.proofs.lemmas.Bool.{cases_lt}
use Rattle.ix_fs.specs.declared.trees.TreeFile.{TreeFile}
use Rattle.ix_fs.specs.Trees.{bytes_at, HasSize}
use Rattle.ix_monitor.specs.declared.steps.Seen.{Seen}
use Rattle.ix_pass.specs.Blocks.{FillsAt}
use Rattle.ix_watch.specs.Visits.{seen_of}
use Rattle.ix_pass.proofs.Buffers.{if_both}
use Rattle.ix_pass.proofs.Filled.{take_all}
use Rattle.ix_pass.proofs.looking.look.Goals as goal

abbrev seen_by : ℕ → List ℕ → Option Seen
seen_by size head = Some (record { size = size; head = head })

looked : (o : Option (List ℕ)) (size n : ℕ) (buf head : List ℕ) → length buf ≡ 256 → n ≤ 256 → head ≡ take n buf → HasSize o size →
    FillsAt o 0 n buf →
    Some (record { size = size; head = head }) ≡ option_map seen_of o
looked None size n buf head long most is has fills = absurd has
looked (Some bytes) size n buf head long most is has fills =
    ap (λ (s : ℕ). seen_by s head) has ∙ ap (λ (h : List ℕ). seen_by (length bytes) h) (is ∙ fills.read ∙ whole)
  where
    same : (a b : ℕ) → a ≤ b → b ≤ a → a ≡ b
    same a b e f = omega (arith, e, f)

    whole : take n (drop 0 bytes) ≡ take 256 bytes
    whole = ⊎_elim (λ (less : n < 256).
        take_all n bytes (omega (arith, fills.whole (omega (arith, less, long))))
        ∙ sym (take_all 256 bytes (omega (arith, less, fills.whole (omega (arith, less, long))))))
        (λ (not : 256 ≤ n). ap (λ (k : ℕ). take k bytes) (same n 256 most not))
        (cases_lt n 256)

pub returns-in-Ok-copy_of-clause-seen : goal.returns-in-Ok-copy_of-clause-seen
returns-in-Ok-copy_of-clause-seen g c =
    let long : length c.read_block.new.room ≡ 256 = grind (arith, c.read_block.auto.room) in
    let most : c.in-Ok-read_block.n ≤ 256 = grind (arith, c.in-Ok-read_block.ensures.count) in
    if_both (λ (all : List TreeFile). HasSize (bytes_at all c.args.path.now) c.in-Ok.size)
    (λ (all : List TreeFile). FillsAt (bytes_at all c.args.path.now) 0 c.in-Ok-read_block.n c.read_block.new.room)
    _ (λ all size fills. looked (bytes_at all c.args.path.now) c.in-Ok.size c.in-Ok-read_block.n c.read_block.new.room _ long most
    c.in-Ok-copy_of.ensures size fills)
    (g.T.Tree.files c.args.tree.now) (g.T.Tree.files c.size.new.self) c.size.ensures.same c.in-Ok.ensures.size
    c.in-Ok-read_block.ensures.bytes
