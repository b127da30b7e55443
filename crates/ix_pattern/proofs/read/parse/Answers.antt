use Rattle.std.proofs.Common.{arith, sym, ◌∙◌, ap}
use Rattle.std.proofs.lemmas.Grind.{common_steps}
use Rattle.std.specs.Option.{option_map}
use Rattle.ix_pattern.proofs.StepLemmas.{none-waits}
use Rattle.ix_pattern.proofs.ParseLemmas.{no-state, still-waits, still-open, parsed, not-empty}
use Rattle.ix_pattern.proofs.read.parse.Goals as goal
use Rattle.ix_pattern.proofs.read.parse.Goals.{then-is_some-via-then-is_some, then-is_some-via-else-is_some+then-not-is_empty}

pub returns-in_default-2 : goal.returns-in_default-2
returns-in_default-2 c = no-state c.args.text.now c.in-Some.tokens.items _ (sym (ap (option_map (λ v. v.items)) c.in-Some.is)
    ∙ c.in_ok-tokens.ensures) c.in_ok-reader.ensures c.in_default-2.is

pub returns-then-is_some : goal.returns-then-is_some
returns-then-is_some c =
    elim c.then-is_some.branch [
      | then-is_some-via-then-is_some w ↦
          still-waits c.args.text.now c.in-Some.tokens.items _ c.in-Some-2.reader (sym (ap (option_map (λ v. v.items)) c.in-Some.is)
          ∙ c.in_ok-tokens.ensures) c.in_ok-reader.ensures c.in-Some-2.is (sym w.if-is_some.ensures)
      | then-is_some-via-else-is_some+then-not-is_empty w ↦
          still-open c.args.text.now c.in-Some.tokens.items _ c.in-Some-2.reader (sym (ap (option_map (λ v. v.items)) c.in-Some.is)
          ∙ c.in_ok-tokens.ensures) c.in_ok-reader.ensures c.in-Some-2.is
          (λ e. not-empty _ w.if-not-is_empty.ensures (grind (arith, common_steps)))
    ]

pub returns : goal.returns
returns c =
    parsed c.args.text.now c.in-Some.tokens.items _ c.in-Some-2.reader (sym (ap (option_map (λ v. v.items)) c.in-Some.is)
    ∙ c.in_ok-tokens.ensures) c.in_ok-reader.ensures c.in-Some-2.is
    (none-waits c.in-Some-2.reader.here.waiting (sym c.if-is_some.ensures)) (grind (arith, common_steps))
