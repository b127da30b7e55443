-- What reading the pattern of a setting comes to.
use Rattle.std.specs.Prelude.{List, ℕ}
use Rattle.ix_pattern.specs.Rows.{Shape}
use Rattle.ix_pattern.specs.Syntax.{Syntax}
use Rattle.ix_pattern.specs.Reads.{IsReadAs, IsTooLarge, IsNoPattern, RepeatsEmpty}
use Rattle.ix_pattern.specs.declared.faults.PatternFault.{PatternFault}
use Rattle.ix_pattern.specs.declared.faults.PatternFault.TheVariants.{Syntax as syntax_fault, TooLarge, EmptyRepeat, NoMemory}

-- the text is read as this pattern
pub record ReadsAs (text : List ℕ) (shape : Shape) : Type 0 where
  pub syntax : Syntax
  pub is_read : IsReadAs text syntax shape

-- the text has this fault; want of memory is none
abbrev pub HasFault : List ℕ → PatternFault → Type 0
HasFault text syntax_fault = IsNoPattern text
HasFault text TooLarge = IsTooLarge text
HasFault text EmptyRepeat = (syntax : Syntax) × RepeatsEmpty text syntax
HasFault text NoMemory = ⊥

-- a text is refused for the fault that it has; want of memory may be answered at any time
abbrev pub Refuses : List ℕ → PatternFault → Type 0
Refuses text syntax_fault = HasFault text syntax_fault
Refuses text TooLarge = HasFault text TooLarge
Refuses text EmptyRepeat = HasFault text EmptyRepeat
Refuses text NoMemory = Unit {0}
