-- A file has one list of bodies at the most.
use Rattle.std.proofs.Common.{◌≡◌, ◌≢◌, ◌<◌, ◌≤◌, ◌^◌, inl, inr, ℕ, List, [], ◌∷◌, ◌++◌, length, get_or, take, drop, Bool, true, false}
use Rattle.std.proofs.Common.{refl, sym, ◌∙◌, ap, arith, append_assoc, length-append}
use Rattle.std.proofs.lemmas.List.{take_at, drop_at}
use Rattle.std.proofs.lemmas.Nat.{from_be_bytes-to_be_bytes_4}
use Rattle.std.specs.Int.{to_be_bytes, from_be_bytes, w32}
use Rattle.ix_log.specs.Log.{block, blocks, AreShort, Gated, HasBodies, AtEnd}

-- the block in front, and what stands behind it
pub one_block : (x y a b : List ℕ) → length x < 2 ^ 32 → length y < 2 ^ 32 → block x ++ a ≡ block y ++ b → (x ≡ y) × (a ≡ b)
one_block x y a b short_x short_y is =
    let four_x = to_be_bytes w32 (length x) in
    let four_y = to_be_bytes w32 (length y) in
    let parts : four_x ++ (x ++ a) ≡ four_y ++ (y ++ b) =
    ap (λ (l : List ℕ). drop 1 l) (sym (append_assoc (1 ∷ four_x) x a) ∙ is ∙ append_assoc (1 ∷ four_y) y b) in
    let fours : four_x ≡ four_y = sym (take_at four_x (x ++ a) 4 refl) ∙ ap (λ (l : List ℕ). take 4 l) parts
    ∙ take_at four_y (y ++ b) 4 refl in
    let sizes : length x ≡ length y = sym (from_be_bytes-to_be_bytes_4 (length x) short_x) ∙ ap (λ (l : List ℕ). from_be_bytes w32 l) fours
    ∙ from_be_bytes-to_be_bytes_4 (length y) short_y in
    let rests : x ++ a ≡ y ++ b = sym (drop_at four_x (x ++ a) 4 refl) ∙ ap (λ (l : List ℕ). drop 4 l) parts
    ∙ drop_at four_y (y ++ b) 4 refl in (
      sym (take_at x a (length x) refl) ∙ ap (λ (l : List ℕ). take (length x) l) rests ∙ take_at y b (length x) (sym sizes),
      sym (drop_at x a (length x) refl) ∙ ap (λ (l : List ℕ). drop (length x) l) rests ∙ drop_at y b (length x) (sym sizes),
    )

first_gate : (gate : ℕ) (rest : List ℕ) (x more : List ℕ) → gate ≢ 1 → gate ∷ rest ≡ block x ++ more → ⊥
first_gate gate rest x more ne is = ne (ap (λ (l : List ℕ). get_or l 0 0) is)

one_gated : (a b : List (List ℕ)) (gate_a gate_b : ℕ) (rest_a rest_b : List ℕ) → gate_a ≢ 1 → gate_b ≢ 1 → AreShort a → AreShort b
    → blocks a ++ gate_a ∷ rest_a ≡ blocks b ++ gate_b ∷ rest_b → a ≡ b
one_gated [] [] gate_a gate_b rest_a rest_b ne_a ne_b short_a short_b is = refl
one_gated [] (y ∷ b) gate_a gate_b rest_a rest_b ne_a ne_b short_a short_b is =
    absurd (first_gate gate_a rest_a y (blocks b ++ gate_b ∷ rest_b) ne_a (is ∙ append_assoc (block y) (blocks b) (gate_b ∷ rest_b)))
one_gated (x ∷ a) [] gate_a gate_b rest_a rest_b ne_a ne_b short_a short_b is =
    absurd (first_gate gate_b rest_b x (blocks a ++ gate_a ∷ rest_a) ne_b (sym is ∙ append_assoc (block x) (blocks a) (gate_a ∷ rest_a)))
one_gated (x ∷ a) (y ∷ b) gate_a gate_b rest_a rest_b ne_a ne_b short_a short_b is =
    let one = one_block x y (blocks a ++ gate_a ∷ rest_a) (blocks b ++ gate_b
    ∷ rest_b) short_a.0 short_b.0 (sym (append_assoc (block x) (blocks a) (gate_a ∷ rest_a)) ∙ is
    ∙ append_assoc (block y) (blocks b) (gate_b ∷ rest_b)) in
    let same : a ≡ b = one_gated a b gate_a gate_b rest_a rest_b ne_a ne_b short_a.1 short_b.1 one.1 in
    let first : x ≡ y = one.0 in
    cc

none_in_short : (bodies : List (List ℕ)) (file : List ℕ) → Gated bodies file → length file ≤ 1 → bodies ≡ []
none_in_short [] file gated le = refl
none_in_short (x ∷ bodies) file gated le =
    let split = gated.spelled ∙ append_assoc (block x) (blocks bodies) (gated.gate ∷ gated.rest) in
    absurd (omega (
      arith,
      le,
      ap length split,
      length-append (block x) (blocks bodies ++ gated.gate ∷ gated.rest),
      length-append (1 ∷ to_be_bytes w32 (length x)) x,
      length-append (blocks bodies) (gated.gate ∷ gated.rest),
    ))

pub one_list_of : (a b : List (List ℕ)) (file : List ℕ) → HasBodies a file → HasBodies b file → a ≡ b
one_list_of a b file (inl p) (inl q) = one_gated a b p.gate q.gate p.rest q.rest p.shut q.shut p.fit q.fit (sym p.spelled ∙ q.spelled)
one_list_of a b file (inl p) (inr q) = none_in_short a file p q.1 ∙ sym q.0
one_list_of a b file (inr p) (inl q) = p.0 ∙ sym (none_in_short b file q p.1)
one_list_of a b file (inr p) (inr q) = p.0 ∙ sym q.0

pub end_has_bodies : (closed : Bool) (bodies : List (List ℕ)) (file : List ℕ) → AtEnd closed bodies file → HasBodies bodies file
end_has_bodies true bodies file end = inl end
end_has_bodies false bodies file end = inr end
