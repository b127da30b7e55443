use Rattle.std.proofs.Common.{◌≡◌, ◌-◌, List, ℕ, false, nat_eq, take, drop, length, subst, sym, ◌∙◌, arith}
use Rattle.std.specs.List.{starts_with}
use Rattle.std.proofs.lemmas.List.{take_all, length-drop}
use Rattle.ix_life.proofs.LimitsLemmas.{word_later}
use Rattle.ix_life.proofs.stanzas.contains.Goals as goal

pub loop-at-preserved : goal.loop-at-preserved
loop-at-preserved c =
    let rest : List ℕ = drop c.loop-at.at c.args.text.now in
    let whole : take (length c.args.text.now - c.loop-at.at) rest ≡ rest =
    take_all (length c.args.text.now - c.loop-at.at) rest (omega (arith, length-drop c.loop-at.at c.args.text.now)) in
    let P : List ℕ → Type 0 = λ l. starts_with nat_eq l c.args.word.now ≡ false in
    word_later c.args.word.now c.args.text.now c.loop-at.at c.loop-at-test.true
    (subst P whole (sym c.starts_with.ensures.value ∙ c.if-starts_with.false)) _ c.loop-at.invariant
