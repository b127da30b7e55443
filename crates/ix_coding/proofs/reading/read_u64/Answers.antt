use Rattle.std.proofs.Common.{ap, sym, ◌∙◌, ◌++◌, List, ℕ, arith}
use Rattle.std.specs.Int.{w64, from_be_bytes}
use Rattle.ix_coding.specs.Spelling.{eight}
use Rattle.ix_coding.proofs.Numbers.{eight_found}
use Rattle.ix_coding.proofs.reading.read_u64.Goals as goal

pub returns-clause-found : goal.returns-clause-found
returns-clause-found c =
    let n = c.from_be_bytes-number.result in
    eight_found c.args.bytes.now n (λ i. omega (arith, c.type_inv.bytes i)) (omega arith) (c.from_be_bytes-number.ensures
    ∙ ap (λ (l : List ℕ). from_be_bytes w64 l) c.split_at.ensures.front)
    ∙ ap (λ (l : List ℕ). eight n ++ l) (sym c.split_at.ensures.back)
