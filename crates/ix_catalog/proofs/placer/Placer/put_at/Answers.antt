use Rattle.std.specs.Prelude.{IsErrOf}
use Rattle.std.proofs.Common.{◌≡◌, ◌∙◌, ap, rules, List, set, get_or}
use Rattle.ix_life.specs.declared.views.IndexView.{IndexView}
use Rattle.ix_catalog.specs.declared.placer.DealFault.TheVariants as faults
use Rattle.ix_catalog.proofs.Dealt.{put_there_is, put_there_keeps, with_pieces}
use Rattle.ix_catalog.proofs.placer.Placer.put_at.Goals as goal

pub returns-clause-done : goal.returns-clause-done
returns-clause-done c = λ v there.
    let w = c.args.work.now in
    let x = c.index_mut.result.now in
    let whole : c.into_vec-indexes.result.items ≡ w.shelves.indexes = c.into_vec-indexes.ensures ∙ c.replace-taken.ensures.value in
    let read : x ≡ get_or w.shelves.indexes c.args.at x = c.index_mut.ensures.value
    ∙ ap (λ (xs : List IndexView). get_or xs c.args.at x) whole in
    let all : c.from_vec.result ≡ set w.shelves.indexes c.args.at c.put_in.new.view = c.from_vec.ensures
    ∙ ap (λ (xs : List IndexView). set xs c.args.at c.put_in.new.view) whole in
    ap (with_pieces c.put_in.new.pieces) c.count_placed.ensures
    ∙ put_there_is c.args.self.now.ledger.now c.args.self.now.moment c.args.event.now c.args.at v w c.from_vec.result x c.put_in.new.view
    c.in_ok-fresh.fresh c.put_in.new.pieces
    c.requires.within read there all c.in_ok-fresh.ensures.view c.in_ok-fresh.ensures.fresh c.in_ok-fresh.ensures.pieces

pub returns-in_err-fresh-clause-full : goal.returns-in_err-fresh-clause-full
returns-in_err-fresh-clause-full c = λ is v there keeps.
    let was : IsErrOf c.put_in.result faults.Full = search rules in
    let w = c.args.work.now in
    let x = c.index_mut.result.now in
    let whole : c.into_vec-indexes.result.items ≡ w.shelves.indexes = c.into_vec-indexes.ensures ∙ c.replace-taken.ensures.value in
    let read : x ≡ get_or w.shelves.indexes c.args.at x = c.index_mut.ensures.value
    ∙ ap (λ (xs : List IndexView). get_or xs c.args.at x) whole in
    let k = put_there_keeps c.args.self.now.ledger.now c.args.self.now.moment c.args.event.now c.args.at v w x c.requires.within read there
    keeps in
    c.put_in.ensures.full was k.0 k.1
