-- What is seen of a text decides what is tested at a place.
use Rattle.std.specs.Prelude.{◌≡◌, ℕ, ◌+◌, ◌≤◌, [], List, Bool, Some, length, slice_get}
use Rattle.ix_pattern.specs.Ways.{Text, byte_before, finish_ways, word_ways, sight}
use Rattle.ix_pikevm.specs.Leaf.{at}
use Rattle.ix_pikevm.specs.declared.code.Lookahead.{Lookahead}

pub record Agrees (seen text : Text) (p : ℕ) : Type 0 where
  pub within : p ≤ length text.bytes
  pub starts : byte_before seen.before seen.bytes p ≡ byte_before text.before text.bytes p
  pub ends : (lines : Bool) → finish_ways lines seen (at p []) (slice_get seen.bytes p) ≡ finish_ways lines text (at p [])
      (slice_get text.bytes p)
  pub words : word_ways seen (at p []) (slice_get seen.bytes p) ≡ word_ways text (at p []) (slice_get text.bytes p)

-- each lookahead, if there are any, sees the same
abbrev pub SightsAgree : List Lookahead → Text → Text → ℕ → Type 0
SightsAgree asks seen text p = (k : ℕ) (ask : Lookahead) → slice_get asks k ≡ Some ask → sight (p + 255) seen ≡ sight (p + 255) text

-- so many bytes from a place on decide what is tested there
pub record AreEnough (asks : List Lookahead) (n : ℕ) : Type 0 where
  pub two : 2 ≤ n
  pub for_asks : (k : ℕ) (ask : Lookahead) → slice_get asks k ≡ Some ask → 255 ≤ n
