use Rattle.std.proofs.Common.{List, ℕ, length, sym, ap, subst, ◌∙◌, arith}
use Rattle.ix_disk.specs.Contents.{seen_of, torn_of, present, torn_in, IsFirst}
use Rattle.ix_disk.specs.declared.held.Held.{Held}
use Rattle.ix_disk.proofs.Places.{push_first, push_same}
use Rattle.ix_disk.proofs.contents.Contents.place_made.Goals as goal

pub returns-clause-found : goal.returns-clause-found
returns-clause-found c =
    let held = c.args.self.now.files.items in
    let first = push_first held c.missing.result c.args.file c.missing.ensures.file c.in_default.ensures.missing in
    let pushed = subst (λ (l : List Held). IsFirst l c.args.file (length held)) (sym c.in_ok-push.ensures.items) first in
    subst (λ (n : ℕ). IsFirst c.push.new.self.items c.args.file n) (omega (arith, c.len-place.ensures, c.args.self.now.files.ok.0)) pushed

pub returns-clause-seen : goal.returns-clause-seen
returns-clause-seen c = λ f. ap (λ (l : List Held). present l f) c.in_ok-push.ensures.items
    ∙ push_same seen_of c.args.self.now.files.items c.missing.result f c.missing.ensures.seen

pub returns-clause-torn : goal.returns-clause-torn
returns-clause-torn c = λ f. ap (λ (l : List Held). torn_in l f) c.in_ok-push.ensures.items
    ∙ push_same torn_of c.args.self.now.files.items c.missing.result f c.missing.ensures.torn
