use Rattle.std.proofs.Common.{◌≡◌, ◌<◌, Some, length, refl, sym, ◌∙◌, ap, arith}
use Rattle.std.specs.Prelude.{slice_get}
use Rattle.std.proofs.lemmas.Option.{slice_get-get_or}
use Rattle.ix_pattern.specs.Rows.{tree}
use Rattle.ix_match.specs.Fronts.{fronts}
use Rattle.ix_match.proofs.FrontLemmas.{left-bytes, left-found, left-next}
use Rattle.ix_match.proofs.first_pieces.may_begin.Goals as goal

pub loop-k-init : goal.loop-k-init
loop-k-init g c = record { sets = fronts (tree c.args.p.now.rows); are = c.requires.pieces; is = refl }

pub accepts-requires : goal.accepts-requires
accepts-requires g c =
    let ks = c.args.front.now.pieces.items in
    let h : c.loop-k.k < length ks = omega arith in
    let got : slice_get ks c.loop-k.k ≡ Some c.index.result.now = slice_get-get_or ks c.loop-k.k c.index.result.now h
    ∙ ap Some (sym c.index.ensures) in
    left-bytes c.args.p.now.rows c.args.byte ks c.loop-k.k c.index.result.now _ got c.loop-k.invariant

pub returns-then-accepts : goal.returns-then-accepts
returns-then-accepts g c =
    let ks = c.args.front.now.pieces.items in
    let h : c.loop-k.k < length ks = omega arith in
    let got : slice_get ks c.loop-k.k ≡ Some c.index.result.now = slice_get-get_or ks c.loop-k.k c.index.result.now h
    ∙ ap Some (sym c.index.ensures) in
    sym (left-found c.args.p.now.rows c.args.byte ks c.loop-k.k c.index.result.now _ got (sym c.accepts.ensures.taken
    ∙ c.if-accepts.true) c.loop-k.invariant)

pub loop-k-preserved : goal.loop-k-preserved
loop-k-preserved g c =
    let ks = c.args.front.now.pieces.items in
    let h : c.loop-k.k < length ks = omega arith in
    let got : slice_get ks c.loop-k.k ≡ Some c.index.result.now = slice_get-get_or ks c.loop-k.k c.index.result.now h
    ∙ ap Some (sym c.index.ensures) in
    left-next c.args.p.now.rows c.args.byte ks c.loop-k.k c.index.result.now _ got (sym c.accepts.ensures.taken
    ∙ c.if-accepts.false) c.loop-k.invariant
