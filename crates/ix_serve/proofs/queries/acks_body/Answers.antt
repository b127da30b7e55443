use Rattle.std.proofs.Common.{◌≡◌, ◌∙◌, ◌≤◌, ◌&&◌, ◌++◌, ℕ, List, [], get_or, map, length, ap, codes, nat_lt, arith}
use Rattle.std.specs.Prelude.{◌==◌}
use Rattle.ix_serve.specs.Bodies.{value_text}
use Rattle.ix_serve.specs.Entries.{committed, is_acked}
use Rattle.ix_serve.proofs.Asking.{values_behind, values_next, values_end, all_values}
use Rattle.ix_serve.proofs.queries.acks_body.Goals as goal

pub loop-number-preserved : goal.loop-number-preserved
loop-number-preserved g c = λ e old at.
    let l = c.loop-number in
    let number : ℕ = get_or c.args.numbers.now l.number-index 0 in
    let value : c.acked.result ≡ is_acked e c.args.run number =
    c.acked.ensures e.choose e.history e.base e.kept old at.1 ∙ ap (λ (r : ℕ). (c.args.run == r) && nat_lt number (committed e)) at.0 in
    values_next (is_acked e c.args.run) c.args.numbers.now l.number-index 0 c.loop-number-test.true l.body l.before.now c.add_value.new.body
    (value_text c.acked.result) _
    c.in_ok-add_value.ensures (ap value_text value) (l.invariant e old at)

pub returns : goal.returns
returns g c = λ e old at.
    let l = c.loop-number in
    let past : length c.args.numbers.now ≤ l.number-index = omega (arith, c.loop-number-test.false) in
    let whole : List ℕ = codes "{\"acks\":[" ++ values_behind [] (map (is_acked e c.args.run) c.args.numbers.now) in
    let all : l.body ≡ whole = values_end (is_acked e c.args.run) c.args.numbers.now l.number-index l.body l.before.now whole past
    (l.invariant e old at) in
    c.in_ok-extend.ensures.ok ∙ ap (λ (t : List ℕ). t ++ codes "]}") (all
    ∙ ap (λ (l : List ℕ). codes "{\"acks\":[" ++ l) (all_values (map (is_acked e c.args.run) c.args.numbers.now)))
