-- An open line, of which no more is kept than a cut needs.
use Rattle.std.specs.Prelude.{◌≡◌, ℕ, ◌+◌, ℤ, List, [], ◌∷◌, ◌++◌, Option, Some, None, take, IfSome}
use Rattle.ix_base.specs.Stream.{Dated, bytes_of}
use Rattle.ix_lines.specs.declared.kept.Kept.{Kept}
use Rattle.ix_base.specs.declared.events.Line.{Line}

abbrev pub first_moment : List Dated → Option ℤ
first_moment [] = None
first_moment (d ∷ stretch) = Some d.1

-- the first t + 1 bytes of the stretch, and its moment
pub record Keeps (t : ℕ) (stretch : List Dated) (kept : Kept) : Type 0 where
  pub bytes_are : kept.bytes ≡ take (t + 1) (bytes_of stretch)
  pub moment_is : kept.moment ≡ first_moment stretch

-- a part of a stream with these bytes, whose first one, if any, has this moment
pub record IsPart (bytes : List ℕ) (moment : ℤ) (part : List Dated) : Type 0 where
  pub bytes_are : bytes_of part ≡ bytes
  pub moment_is : IfSome (first_moment part) (λ m. m ≡ moment)

-- some of these lines, the first ones, were added
pub record AddsSome (lines old new : List Line) : Type 0 where
  pub first : List Line
  pub others : List Line
  pub lines_are : lines ≡ first ++ others
  pub written : new ≡ old ++ first
