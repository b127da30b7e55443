use Rattle.std.proofs.Common.{◌≡◌, ◌<◌, ◌≤◌, List, length, get_or, ap, subst, ◌∙◌, arith}
use Rattle.std.proofs.lemmas.List.{take_all}
use Rattle.ix_disk.specs.declared.held.Held.{Held}
use Rattle.ix_disk.proofs.Copies.{AreLeft, left_more, left_seen, left_torn}
use Rattle.ix_disk.proofs.contents.Contents.left.Goals as goal

pub loop-held-preserved : goal.loop-held-preserved
loop-held-preserved c =
    let items = c.args.self.now.files.items in
    let index = c.loop-held.held-index in
    let within : c.loop-held.held-index < length c.args.self.now.files.items = omega (arith, ap length c.deref-held-items.ensures.value) in
    left_more c.args.torn c.loop-held.files.items c.push.new.self.items items index c.settled.result c.held-item.result within
    c.loop-held.invariant c.in_ok-push.ensures.items
    (subst (λ (l : List Held). c.held-item.result ≡ get_or l index c.held-item.result) c.deref-held-items.ensures.value c.held-item.is)
    (record {
      file = c.settled.ensures.file;
      seen = c.settled.ensures.seen ∙ c.in_ok-bytes.ensures;
      left = c.settled.ensures.torn
          ∙ c.in_ok-bytes.ensures;
    })

pub returns-clause-seen : goal.returns-clause-seen
returns-clause-seen c =
    let items = c.args.self.now.files.items in
    let all : length c.args.self.now.files.items ≤ c.loop-held.held-index = omega (arith, ap length c.deref-held-items.ensures.value) in
    left_seen c.args.torn c.loop-held.files.items items
    (subst (λ (l : List Held). AreLeft c.args.torn c.loop-held.files.items l) (take_all c.loop-held.held-index items all)
    c.loop-held.invariant)

pub returns-clause-torn : goal.returns-clause-torn
returns-clause-torn c =
    let items = c.args.self.now.files.items in
    let all : length c.args.self.now.files.items ≤ c.loop-held.held-index = omega (arith, ap length c.deref-held-items.ensures.value) in
    left_torn c.args.torn c.loop-held.files.items items
    (subst (λ (l : List Held). AreLeft c.args.torn c.loop-held.files.items l) (take_all c.loop-held.held-index items all)
    c.loop-held.invariant)
