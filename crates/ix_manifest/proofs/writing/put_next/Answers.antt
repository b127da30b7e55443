use Rattle.std.proofs.Common.{◌≡◌, List, Option, length, refl, ap, subst, sym, arith, length-append}
use Rattle.std.specs.List.{AllByRecursion}
use Rattle.ix_disk.proofs.Others.{apart_same}
use Rattle.ix_items.specs.Spelling.{HasSpelling, item_bytes, body_bytes}
use Rattle.ix_items.specs.declared.items.Item.{Item}
use Rattle.ix_log.specs.Log.{file_of}
use Rattle.ix_manifest.specs.Whole.{HasTold}
use Rattle.ix_manifest.proofs.PutItems.{apart_none, put_none, put_one}
use Rattle.ix_manifest.proofs.writing.put_next.Goals as goal

pub returns-in_err-next-clause-images : goal.returns-in_err-next-clause-images
returns-in_err-next-clause-images g c = apart_none g.D.Disk c.args.disk.now (file_of c.args.log.now)

pub returns-in_err-next-clause-seen : goal.returns-in_err-next-clause-seen
returns-in_err-next-clause-seen g c = apart_same (file_of c.args.log.now) (g.D.Disk.seen c.args.disk.now) (g.D.Disk.seen c.args.disk.now)
    refl

pub returns-in-None-clause-images : goal.returns-in-None-clause-images
returns-in-None-clause-images g c = apart_none g.D.Disk c.args.disk.now (file_of c.args.log.now)

pub returns-in-None-clause-seen : goal.returns-in-None-clause-seen
returns-in-None-clause-seen g c = apart_same (file_of c.args.log.now) (g.D.Disk.seen c.args.disk.now) (g.D.Disk.seen c.args.disk.now) refl

pub returns-in-None-clause-put : goal.returns-in-None-clause-put
returns-in-None-clause-put g c = λ body ready.
    let none = subst (λ (o : Option Item). HasTold o (g.W.Whole.left c.args.state.now) (g.W.Whole.left c.next.new.self)) c.in-None.is
    c.in_ok-next.ensures in
    put_none g.D.Disk c.args.log.now c.args.disk.now body _ _ ready none.0 none.1

pub returns-in-None-clause-counted : goal.returns-in-None-clause-counted
returns-in-None-clause-counted g c =
    let none = subst (λ (o : Option Item). HasTold o (g.W.Whole.left c.args.state.now) (g.W.Whole.left c.next.new.self)) c.in-None.is
    c.in_ok-next.ensures in
    omega (arith, ap (λ (l : List Item). length (body_bytes l)) none.0, ap (λ (l : List Item). length (body_bytes l)) none.1)

pub put_item-requires-clause-proper : goal.put_item-requires-clause-proper
put_item-requires-clause-proper g c =
    let told = subst (λ (o : Option Item). HasTold o (g.W.Whole.left c.args.state.now) (g.W.Whole.left c.next.new.self)) c.in-Some.is
    c.in_ok-next.ensures in
    told.0

pub put_item-requires-clause-short : goal.put_item-requires-clause-short
put_item-requires-clause-short g c =
    let left = g.W.Whole.left c.next.new.self in
    let told = subst (λ (o : Option Item). HasTold o (g.W.Whole.left c.args.state.now) left) c.in-Some.is c.in_ok-next.ensures in
    omega (
      arith,
      c.requires.short,
      ap (λ (l : List Item). length (body_bytes l)) told.1,
      length-append (item_bytes c.in-Some.item) (body_bytes left),
    )

pub returns-in_ok-put_item-in-Some-clause-put : goal.returns-in_ok-put_item-in-Some-clause-put
returns-in_ok-put_item-in-Some-clause-put g c = λ body ready.
    let told = subst (λ (o : Option Item). HasTold o (g.W.Whole.left c.args.state.now) (g.W.Whole.left c.next.new.self)) c.in-Some.is
    c.in_ok-next.ensures in
    put_one g.D.Disk c.put_item.new.log c.put_item.new.disk body c.in-Some.item _ _ (c.in_ok-put_item-in-Some.ensures.put body ready) told.1

pub returns-in_ok-put_item-in-Some-clause-proper : goal.returns-in_ok-put_item-in-Some-clause-proper
returns-in_ok-put_item-in-Some-clause-proper g c = λ all.
    let told = subst (λ (o : Option Item). HasTold o (g.W.Whole.left c.args.state.now) (g.W.Whole.left c.next.new.self)) c.in-Some.is
    c.in_ok-next.ensures in
    subst (λ (l : List Item). AllByRecursion HasSpelling l) (sym told.1) (told.0, all)

pub returns-in_ok-put_item-in-Some-clause-counted : goal.returns-in_ok-put_item-in-Some-clause-counted
returns-in_ok-put_item-in-Some-clause-counted g c =
    let left = g.W.Whole.left c.next.new.self in
    let told = subst (λ (o : Option Item). HasTold o (g.W.Whole.left c.args.state.now) left) c.in-Some.is c.in_ok-next.ensures in
    omega (
      arith,
      c.in_ok-put_item-in-Some.ensures.counted,
      ap (λ (l : List Item). length (body_bytes l)) told.1,
      length-append (item_bytes c.in-Some.item) (body_bytes left),
    )
