-- Blocks one behind the other.
use Rattle.std.proofs.Common.{◌≡◌, ℕ, ◌+◌, ◌^◌, ◌<◌, List, [], ◌∷◌, ◌++◌, length, sym, ◌∙◌, ap, append_assoc, arith, length-append}
use Rattle.std.specs.Int.{to_be_bytes, w32}
use Rattle.std.proofs.lemmas.List.{append-nil}
use Rattle.ix_log.specs.Log.{block, blocks, AreShort}

-- one block more
pub blocks_push : (bodies : List (List ℕ)) (body rest : List ℕ) → blocks (bodies ++ body ∷ []) ++ rest ≡ blocks bodies
    ++ (block body ++ rest)
blocks_push [] body rest = ap (λ (l : List ℕ). l ++ rest) (append-nil (block body))
blocks_push (b ∷ bodies) body rest =
    append_assoc (block b) (blocks (bodies ++ body ∷ [])) rest ∙ ap (λ (l : List ℕ). block b ++ l) (blocks_push bodies body rest)
    ∙ sym (append_assoc (block b) (blocks bodies) (block body ++ rest))

pub all_push : (bodies : List (List ℕ)) (body : List ℕ) → AreShort bodies → length body < 2 ^ 32 → AreShort (bodies ++ body ∷ [])
all_push [] body all lt = (lt, tt)
all_push (b ∷ bodies) body all lt = (all.0, all_push bodies body all.1 lt)

pub length-blocks_push : (bodies : List (List ℕ)) (body : List ℕ) →
    length (blocks (bodies ++ body ∷ [])) ≡ length (blocks bodies) + 5 + length body
length-blocks_push bodies body =
    omega (
      arith,
      ap length (blocks_push bodies body []),
      length-append (blocks (bodies ++ body ∷ [])) [],
      length-append (blocks bodies) (block body ++ []),
      length-append (block body) [],
      length-append (1 ∷ to_be_bytes w32 (length body)) body,
    )
