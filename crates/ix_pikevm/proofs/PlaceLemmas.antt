-- Whether a pattern has a way at one of many places.
use Rattle.std.proofs.Common.{◌≡◌, ℕ, ◌+◌, ◌<◌, ◌≤◌, nat_lt, Bool, true, false, List, [], length, Option, Some, None, refl, sym, ◌∙◌, arith}
use Rattle.std.specs.Prelude.{replicate}
use Rattle.ix_pattern.specs.Ways.{Text}
use Rattle.ix_pattern.specs.Rows.{Rows, Shape, tree}
use Rattle.ix_pikevm.specs.declared.code.Instr.{Instr}
use Rattle.ix_pikevm.specs.Leaf.{at}
use Rattle.ix_pikevm.specs.Programs.{IsProgram}
use Rattle.ix_pikevm.specs.Aims.{aim_at}
use Rattle.ix_pikevm.specs.Seeks.{Sought}
use Rattle.ix_pikevm.specs.Places.{ways_at, NoWays, IsBefore}
use Rattle.ix_pikevm.proofs.ProgramLemmas.{mean_of, meaning-of, onward-stop}

-- from one place to another, and from there on
pub no-ways-joined : (p : Shape) (text : Text) (from middle to : ℕ) → NoWays p text from middle → NoWays p text middle to →
    NoWays p text from to
no-ways-joined p text from middle to before behind q low high = by (nat_lt q middle) refl
  where
    by : (t : Bool) → nat_lt q middle ≡ t → ways_at p text q ≡ []
    by true e = before q low (let lt : q < middle = grind (arith, e) in lt)
    by false e = behind q (let le : middle ≤ q = grind (arith, e) in le) high

-- a program begins with the ways of its piece
program-ways : (p : Shape) (code : List Instr) (start : ℕ) (text : Text) (q : ℕ) (pr : IsProgram p.rows (tree p.rows) code start) →
    q ≤ length text.bytes →
    mean_of pr.aims text (replicate p.groups None) start [] q ≡ ways_at p text q
program-ways p code start text q pr le =
    pr.meets.same text [] (at q (replicate p.groups None)) le ∙ onward-stop (ways_at p text q)

pub is-before : (known : Rows → Type 0) (p : Shape) (code : List Instr) (start : ℕ) (text : Text) (from to : ℕ) (end : Option ℕ) →
    IsProgram p.rows (tree p.rows) code start → known p.rows →
    to ≤ length text.bytes + 1 → Sought known code text start from to end → IsBefore p text from to end
is-before known p code start text from to None pr t within s = λ q low high.
    sym (program-ways p code start text q pr (omega (arith, within, high)))
    ∙ s p.rows (replicate p.groups None) (mean_of pr.aims text (replicate p.groups None)) (λ k. (aim_at pr.aims k).rank)
    (meaning-of p.rows pr.aims code text (replicate p.groups None) pr.fits) t q low high
is-before known p code start text from to (Some end) pr t within s = (
  s.0,
  λ none. s.1 p.rows (replicate p.groups None) (mean_of pr.aims text (replicate p.groups None)) (λ k. (aim_at pr.aims k).rank)
      (meaning-of p.rows pr.aims code text (replicate p.groups None) pr.fits) t
      (λ q low high. program-ways p code start text q pr (let less = s.0 in omega (arith, within, high, less)) ∙ none q low high),
)
