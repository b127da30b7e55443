use Rattle.std.proofs.Common.{ap, sym, ◌∙◌, ◌++◌, List, ℕ, arith}
use Rattle.std.specs.Int.{w32, from_be_bytes}
use Rattle.ix_coding.specs.Spelling.{four}
use Rattle.ix_coding.proofs.Numbers.{four_found}
use Rattle.ix_coding.proofs.reading.read_u32.Goals as goal

pub returns-clause-found : goal.returns-clause-found
returns-clause-found c =
    let n = c.from_be_bytes-number.result in
    four_found c.args.bytes.now n (λ i. omega (arith, c.type_inv.bytes i)) (omega arith) (c.from_be_bytes-number.ensures
    ∙ ap (λ (l : List ℕ). from_be_bytes w32 l) c.split_at.ensures.front)
    ∙ ap (λ (l : List ℕ). four n ++ l) (sym c.split_at.ensures.back)
