-- How a selftest cuts what it sends into blocks.
use Rattle.std.specs.Prelude.{◌≡◌, ◌≢◌, ◌+◌, ◌-◌, ◌*◌, ◌/◌, ◌%◌, ◌^◌, ℕ, List, [], ◌∷◌, ◌++◌, take, drop}
use Rattle.indexd_selftest.specs.Lines.{lines_from}
use Rattle.indexd_selftest.specs.declared.generator.Generator.{Generator}

-- a linear congruential generator
abbrev pub next : ℕ → ℕ
next x = (x * 6364136223846793005 + 1442695040888963407) % 2 ^ 64

-- how long the block is that goes with a number of the generator
abbrev pub size : ℕ → ℕ
size x = 1 + x / 2 ^ 33 % 4096

-- A stream cut into blocks, behind a number of the generator: each goes with the next number, and
-- the last one is what is left.
abbrev pub AreCut : ℕ → List ℕ → List (List ℕ) → Type 0
AreCut x stream [] = stream ≡ []
AreCut x stream (block ∷ blocks) =
    (stream ≢ []) × (block ≡ take (size (next x)) stream) × AreCut (next x) (drop (size (next x)) stream) blocks

-- what is still to be cut: what was laid out and not taken, and the lines that come
abbrev pub left : Generator → List ℕ
left g = g.ahead ++ lines_from g.next (g.end - g.next)

-- a block was cut off
pub record IsCutOff (old new : Generator) (block : List ℕ) : Type 0 where
  pub some : left old ≢ []
  pub block_is : block ≡ take (size (next old.x)) (left old)
  pub x : new.x ≡ next old.x
  pub left_is : left new ≡ drop (size (next old.x)) (left old)
