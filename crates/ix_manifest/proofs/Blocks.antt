-- The bodies that a log has read are the first of its bodies.
use Rattle.std.proofs.Common.{◌≡◌, ◌≢◌, ◌<◌, ◌^◌, ℕ, List, [], ◌∷◌, ◌++◌, length, get_or, inl, inr, refl, sym, ◌∙◌, ap, arith}
use Rattle.std.proofs.Common.{append_assoc, length-append}
use Rattle.std.specs.Int.{to_be_bytes, w32}
use Rattle.ix_log.proofs.Blocks.{blocks_push}
use Rattle.ix_log.proofs.OneList.{one_block}
use Rattle.ix_log.specs.Log.{block, blocks, AreShort, HasBodies, IsCut}

first_gate : (gate : ℕ) (rest more : List ℕ) → gate ≢ 1 → gate ∷ rest ≡ 1 ∷ more → ⊥
first_gate gate rest more ne is = ne (ap (λ (l : List ℕ). get_or l 0 0) is)

-- behind some of the bodies stands an open gate: so there are more
behind : (bodies all : List (List ℕ)) (gate : ℕ) (rest tail : List ℕ) → gate ≢ 1 → AreShort bodies → AreShort all
    → blocks all ++ gate ∷ rest ≡ blocks bodies ++ 1 ∷ tail
    → (body : List ℕ) × (others : List (List ℕ)) × (all ≡ bodies ++ body ∷ others) × (length body < 2 ^ 32)
    × (block body ++ (blocks others ++ gate ∷ rest) ≡ 1 ∷ tail)
behind [] [] gate rest tail ne short_b short_a is = absurd (first_gate gate rest tail ne is)
behind [] (body ∷ others) gate rest tail ne short_b short_a is =
    (body, others, refl, short_a.0, sym (append_assoc (block body) (blocks others) (gate ∷ rest)) ∙ is)
behind (x ∷ bodies) [] gate rest tail ne short_b short_a is =
    absurd (first_gate gate rest _ ne (is ∙ append_assoc (block x) (blocks bodies) (1 ∷ tail)))
behind (x ∷ bodies) (y ∷ all) gate rest tail ne short_b short_a is =
    let one = one_block y x (blocks all ++ gate ∷ rest) (blocks bodies ++ 1
    ∷ tail) short_a.0 short_b.0 (sym (append_assoc (block y) (blocks all) (gate ∷ rest)) ∙ is
    ∙ append_assoc (block x) (blocks bodies) (1 ∷ tail)) in
    let deep = behind bodies all gate rest tail ne short_b.1 short_a.1 one.1 in
    (deep.0, deep.1, (λ i. one.0 i ∷ deep.2 i), deep.3, deep.4)

some_cell : (l : List ℕ) → 0 < length l → (x : ℕ) × (rest : List ℕ) × (l ≡ x ∷ rest)
some_cell [] some = absurd (omega (arith, some))
some_cell (x ∷ rest) some = (x, rest, refl)

-- where no whole body stands behind an open gate, the file has no list of bodies
pub cut_none : (bodies all : List (List ℕ)) (file : List ℕ) → AreShort bodies → IsCut bodies file → HasBodies all file → ⊥
cut_none bodies all file short cut (inr none) = omega (arith, none.1, cut.long)
cut_none bodies all file short cut (inl gated) =
    let more = behind bodies all gated.gate gated.rest cut.tail gated.shut short gated.fit (sym gated.spelled ∙ cut.spelled) in
    let after = blocks more.1 ++ gated.gate ∷ gated.rest in
    let cell = some_cell after (omega (arith, length-append (blocks more.1) (gated.gate ∷ gated.rest))) in
    cut.short more.0 cell.0 cell.1 more.3
    (cut.spelled ∙ ap (λ (l : List ℕ). blocks bodies ++ l) (sym more.4) ∙ sym (blocks_push bodies more.0 after)
    ∙ ap (λ (l : List ℕ). blocks (bodies ++ more.0 ∷ []) ++ l) cell.2)

-- a whole body that stands behind them is the next of them
pub next_stands : (bodies all : List (List ℕ)) (body rest file : List ℕ) → file ≡ blocks (bodies ++ body ∷ []) ++ rest → AreShort bodies →
    length body < 2 ^ 32 → HasBodies all file
    → (others : List (List ℕ)) × (all ≡ bodies ++ body ∷ others)
next_stands bodies all body rest file spelled short fits (inr none) =
    let is = spelled ∙ blocks_push bodies body rest in
    absurd (omega (
      arith,
      none.1,
      ap length is,
      length-append (blocks bodies) (block body ++ rest),
      length-append (block body) rest,
      length-append (1 ∷ to_be_bytes w32 (length body)) body,
    ))
next_stands bodies all body rest file spelled short fits (inl gated) =
    let is = spelled ∙ blocks_push bodies body rest in
    let more = behind bodies all gated.gate gated.rest _ gated.shut short gated.fit (sym gated.spelled ∙ is) in
    let one = one_block more.0 body _ rest more.3 fits more.4 in
    (more.1, more.2 ∙ ap (λ (b : List ℕ). bodies ++ b ∷ more.1) one.0)
