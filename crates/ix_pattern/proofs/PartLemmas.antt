-- What is known of a piece that is made of pieces.
use Rattle.std.proofs.Common.{◌≡◌, ℕ, zero, suc, ◌+◌, ◌*◌, ◌<◌, ◌≤◌, min, max, Bool, true, false, not, ◌&&◌, ◌||◌, nat_lt, nat_le, length}
use Rattle.std.proofs.Common.{List, Option, Some, None, Result, Ok, Err, IfOk, refl, sym, ◌∙◌, ap, arith}
use Rattle.std.specs.Prelude.{◌==◌}
use Rattle.std.proofs.lemmas.Bool.Decides.{nat_tests}
use Rattle.std.proofs.lemmas.Bool.{leb-true, leb-false}
use Rattle.std.proofs.Math.Nat.{mul-le-mul_right}
use Rattle.ix_pattern.specs.Piece.{Piece, byte_in, start, finish, word, seq, either, count, group, ahead, least_length}
use Rattle.ix_pattern.specs.Rows.{piece_at, pieces, made, one_if_bytes}
use Rattle.ix_pattern.specs.Sets.{none}
use Rattle.ix_pattern.specs.declared.pattern.Node.{Node}
use Rattle.ix_pattern.specs.declared.pattern.Node.TheVariants as node
use Rattle.ix_pattern.specs.declared.tokens.Leaf.{Leaf}
use Rattle.ix_pattern.specs.declared.tokens.Leaf.TheVariants as leaf
use Rattle.ix_pattern.specs.Made.{Made}
use Rattle.ix_pattern.specs.Parts.{IsPart, IsOptional, IsBelow, Grew, GrewBy, Adds, AddsBy}
use Rattle.ix_pattern.specs.Syntax.{repeats_empty, is_none, times_weight, repeated_weight, repeated, least_of, most_of, leaf_piece}
use Rattle.ix_pattern.specs.declared.part.Part.{Part}
use Rattle.ix_pattern.specs.declared.tokens.Times.{Times}
use Rattle.ix_pattern.specs.declared.tokens.Times.TheVariants.{Maybe, Limited, Unlimited}
use Rattle.ix_pattern.specs.declared.tokens.Repeat.{Repeat}

takes-suc : (m : ℕ) → nat_lt 0 (suc m) ≡ true
takes-suc m = grind (arith, nat_tests)

or-takes : (m n : ℕ) → (nat_lt 0 m || nat_lt 0 n) ≡ nat_lt 0 (m + n)
or-takes zero n = let none : n ≡ 0 + n = omega arith in ap (nat_lt 0) none
or-takes (suc m) n = let one : suc (m + n) ≡ suc m + n = omega arith in ap (λ b. b || nat_lt 0 n) (takes-suc m) ∙ sym (takes-suc (m + n))
    ∙ ap (nat_lt 0) one

and-takes : (m n : ℕ) → (nat_lt 0 m && nat_lt 0 n) ≡ nat_lt 0 (min m n)
and-takes zero n = let none : 0 ≡ min 0 n = omega arith in ap (nat_lt 0) none
and-takes (suc m) zero = let none : 0 ≡ min (suc m) 0 = omega arith in ap (λ b. b && nat_lt 0 0) (takes-suc m) ∙ ap (nat_lt 0) none
and-takes (suc m) (suc n) =
    let one : suc (min m n) ≡ min (suc m) (suc n) = omega arith in
    rw (takes-suc m, takes-suc n) (sym (takes-suc (min m n)) ∙ ap (nat_lt 0) one)

times-takes : (m n : ℕ) → (nat_lt 0 m && nat_lt 0 n) ≡ nat_lt 0 (m * n)
times-takes zero n = let none : 0 ≡ 0 * n = omega arith in ap (nat_lt 0) none
times-takes (suc m) zero = let none : 0 ≡ suc m * 0 = omega arith in ap (λ b. b && nat_lt 0 0) (takes-suc m) ∙ ap (nat_lt 0) none
times-takes (suc m) (suc n) =
    let one : suc (m * suc n + n) ≡ suc m * suc n = omega arith in
    rw (takes-suc m, takes-suc n) (sym (takes-suc (m * suc n + n)) ∙ ap (nat_lt 0) one)

not-takes : (n : ℕ) → not (nat_lt 0 n) ≡ (n == 0)
not-takes zero = refl
not-takes (suc n) = grind (arith, nat_tests)

-- a piece that is added, whose number, tree and facts are known
pub adds : {n : ℕ} (old new : Made) (part : Part) (piece : Piece) (weight : ℕ) → GrewBy n old new → part.piece < length new.rows →
    piece_at new.rows part.piece ≡ piece → part.weight ≡ min weight 200001 → part.takes ≡ nat_lt 0 (least_length piece) →
    part.repeats_empty ≡ repeats_empty piece → AddsBy n old new part piece weight
adds old new part piece weight g b is m t e = record {
  grew = g;
  added = record { below = b; is = is; measured = m; takes = t; empty = e };
}

pub seq-part : (old new : Made) (part first rest : Part) (p q : Piece) (v w : ℕ) → Grew old new → part.piece < length new.rows →
    piece_at new.rows part.piece ≡ seq (piece_at old.rows first.piece) (piece_at old.rows rest.piece) →
    part.weight ≡ min (first.weight + rest.weight) 200001 → part.takes ≡ (first.takes || rest.takes) →
    part.repeats_empty ≡ (first.repeats_empty || rest.repeats_empty) →
    IsPart old.rows first p v → IsPart old.rows rest q w → Adds old new part (seq p q) (v + w)
unfolding least_length
seq-part old new part first rest p q v w g b is m t e f r =
    adds old new part (seq p q) (v + w) g b (cc (f.is, r.is)) (omega (arith, f.measured, r.measured))
    (t ∙ rw (f.takes, r.takes) (or-takes (least_length p) (least_length q))) (cc (f.empty, r.empty))

pub either-part : (old new : Made) (part first other : Part) (more : ℕ) (p q : Piece) (v w : ℕ) → Grew old new →
    part.piece < length new.rows →
    piece_at new.rows part.piece ≡ either (piece_at old.rows first.piece) (piece_at old.rows other.piece) →
    part.weight ≡ min (first.weight + other.weight + more) 200001 → part.takes ≡ (first.takes && other.takes) →
    part.repeats_empty ≡ (first.repeats_empty || other.repeats_empty) →
    IsPart old.rows first p v → IsPart old.rows other q w → Adds old new part (either p q) (v + w + more)
unfolding least_length
either-part old new part first other more p q v w g b is m t e f r =
    adds old new part (either p q) (v + w + more) g b (cc (f.is, r.is)) (omega (arith, f.measured, r.measured))
    (t ∙ rw (f.takes, r.takes) (and-takes (least_length p) (least_length q))) (cc (f.empty, r.empty))

-- a product that is above the limit stays so
product-limited : (m w : ℕ) → 0 < m → min (m * (min w 200001 + 1)) 200001 ≡ min (m * (w + 1)) 200001
product-limited m w some = by (nat_le w 200001) refl
  where
    by : (b : Bool) → nat_le w 200001 ≡ b → min (m * (min w 200001 + 1)) 200001 ≡ min (m * (w + 1)) 200001
    by true e =
        let le : w ≤ 200001 = leb-true w 200001 e in
        let same : min w 200001 ≡ w = omega arith in
        ap (λ k. min (m * (k + 1)) 200001) same
    by false e =
        let lt : 200001 < w = leb-false w 200001 e in
        let same : min w 200001 ≡ 200001 = omega arith in
        let one : 1 ≤ m = omega arith in
        ap (λ k. min (m * (k + 1)) 200001) same ∙ omega (arith, mul-le-mul_right 200002 one, mul-le-mul_right (w + 1) one)

times-limited : (w : ℕ) (times : Times) → min (times_weight (min w 200001) times) 200001 ≡ min (times_weight w times) 200001
times-limited w Maybe = omega arith
times-limited w (Limited least most) =
    let some : 0 < max most 1 = omega arith in
    omega (arith, product-limited (max most 1) w some)
times-limited w (Unlimited least) =
    let some : 0 < least + 1 = omega arith in
    product-limited (least + 1) w some

pub count-part : (old new : Made) (part inside : Part) (repeat : Repeat) (p : Piece) (w : ℕ) → Grew old new → part.piece < length new.rows →
    piece_at new.rows part.piece ≡ count (piece_at old.rows inside.piece) (least_of repeat.times) (most_of repeat.times) repeat.lazy →
    part.weight ≡ min (times_weight inside.weight repeat.times) 200001 → part.takes ≡ (nat_lt 0 (least_of repeat.times) && inside.takes) →
    part.repeats_empty ≡ (inside.repeats_empty || (is_none (most_of repeat.times) && not inside.takes)) → IsPart old.rows inside p w →
    Adds old new part (repeated p (Some repeat)) (repeated_weight w (Some repeat))
unfolding least_length
count-part old new part inside repeat p w g b is m t e i =
    adds old new part (repeated p (Some repeat)) (repeated_weight w (Some repeat)) g b (cc (i.is))
    (m ∙ ap (λ k. min (times_weight k repeat.times) 200001) i.measured ∙ times-limited w repeat.times)
    (t ∙ ap (λ k. nat_lt 0 (least_of repeat.times) && k) i.takes ∙ times-takes (least_of repeat.times) (least_length p))
    (e ∙ rw (i.empty, i.takes) (ap (λ k. repeats_empty p || (is_none (most_of repeat.times) && k)) (not-takes (least_length p))))

pub leaf-part : {n : ℕ} (old new : Made) (part : Part) (piece : Piece) → GrewBy n old new → part.piece < length new.rows →
    piece_at new.rows part.piece ≡ piece → part.weight ≡ 1 → part.takes ≡ nat_lt 0 (least_length piece) →
    part.repeats_empty ≡ repeats_empty piece →
    AddsBy n old new part piece 1
leaf-part old new part piece g b is m t e = adds old new part piece 1 g b is (omega (arith, m)) t e

pub group-part : (old new : Made) (part inside : Part) (number : ℕ) (p : Piece) (w : ℕ) → Grew old new → part.piece < length new.rows →
    piece_at new.rows part.piece ≡ group number (piece_at old.rows inside.piece) → part.weight ≡ min (inside.weight + 2) 200001 →
    part.takes ≡ inside.takes → part.repeats_empty ≡ inside.repeats_empty → IsPart old.rows inside p w →
    Adds old new part (group number p) (w + 2)
unfolding least_length
group-part old new part inside number p w g b is m t e i =
    adds old new part (group number p) (w + 2) g b (cc (i.is)) (omega (arith, i.measured)) (t ∙ i.takes) (e ∙ i.empty)

pub ahead-part : (old new : Made) (part inside : Part) (wanted : Bool) (p : Piece) (w : ℕ) → Grew old new → part.piece < length new.rows →
    piece_at new.rows part.piece ≡ ahead (piece_at old.rows inside.piece) wanted → part.weight ≡ min (256 * inside.weight + 1) 200001 →
    part.takes ≡ false → part.repeats_empty ≡ inside.repeats_empty → IsPart old.rows inside p w →
    Adds old new part (ahead p wanted) (256 * w + 1)
unfolding least_length
ahead-part old new part inside wanted p w g b is m t e i =
    adds old new part (ahead p wanted) (256 * w + 1) g b (cc (i.is)) (omega (arith, i.measured)) t (e ∙ i.empty)

-- the node of a piece that has none inside, its set, and whether it takes a byte
abbrev pub leaf_row : Leaf → Node × List Bool × Bool
leaf_row (leaf.Bytes set) = (node.Bytes, set, true)
leaf_row (leaf.Start lines) = (node.Start lines, none, false)
leaf_row (leaf.Finish lines) = (node.Finish lines, none, false)
leaf_row leaf.Word = (node.Word, none, false)

at-most-one : (n : Node) → one_if_bytes n ≤ 1
at-most-one node.Nothing = omega arith
at-most-one node.Bytes = omega arith
at-most-one (node.Start lines) = omega arith
at-most-one (node.Finish lines) = omega arith
at-most-one node.Word = omega arith
at-most-one (node.Seq first rest) = omega arith
at-most-one (node.Either first other) = omega arith
at-most-one (node.Count inside least most lazy) = omega arith
at-most-one (node.Group number inside) = omega arith
at-most-one (node.Ahead inside wanted) = omega arith

pub leaf-made : (old new : Made) (part : Part) (l : Leaf) (row : Node × List Bool × Bool) → row ≡ leaf_row l →
    GrewBy (one_if_bytes row.0) old new →
    part.piece < length new.rows → piece_at new.rows part.piece ≡ made (pieces old.rows) row.0 row.1 → part.weight ≡ 1 →
    part.takes ≡ row.2 → part.repeats_empty ≡ false → AddsBy 1 old new part (leaf_piece l) 1
unfolding least_length
leaf-made old new part l row same f b is m t e =
    with_row l (is ∙ ap (λ (r : Node × List Bool × Bool). made (pieces old.rows) r.0 r.1) same) (t
    ∙ ap (λ (r : Node × List Bool × Bool). r.2) same)
  where
    g : GrewBy 1 old new
    g = record { groups = f.groups; longer = f.longer; stay = f.stay; bytes = omega (arith, f.bytes, at-most-one row.0) }

    with_row : (l : Leaf) → piece_at new.rows part.piece ≡ made (pieces old.rows) (leaf_row l).0 (leaf_row l).1 →
        part.takes ≡ (leaf_row l).2 →
        AddsBy 1 old new part (leaf_piece l) 1
    with_row (leaf.Bytes set) i k = leaf-part old new part (byte_in set) g b i m k e
    with_row (leaf.Start lines) i k = leaf-part old new part (start lines) g b i m k e
    with_row (leaf.Finish lines) i k = leaf-part old new part (finish lines) g b i m k e
    with_row leaf.Word i k = leaf-part old new part word g b i m k e

-- ---- nothing is added, or more is

pub Grew-refl : (made : Made) → Grew made made
Grew-refl made = record { groups = refl; longer = omega arith; stay = λ k h. refl; bytes = omega arith }

pub Grew-then : {n : ℕ} (old mid new : Made) → GrewBy n old mid → Grew mid new → GrewBy n old new
Grew-then old mid new f g = record {
  groups = g.groups ∙ f.groups;
  longer = omega (arith, f.longer, g.longer);
  stay = λ k h. g.stay k (omega (arith, f.longer, h)) ∙ f.stay k h;
  bytes = omega (arith, f.bytes, g.bytes);
}

pub lift-part : {n : ℕ} (old new : Made) (part : Part) (piece : Piece) (weight : ℕ) → GrewBy n old new → IsPart old.rows part piece weight →
    IsPart new.rows part piece weight
lift-part old new part piece weight g i = record {
  below = omega (arith, g.longer, i.below);
  is = g.stay part.piece i.below ∙ i.is;
  measured = i.measured;
  takes = i.takes;
  empty = i.empty;
}

pub lift-optional : {n : ℕ} (old new : Made) (part : Option Part) (piece : Option Piece) (weight : Option ℕ) → GrewBy n old new →
    IsOptional old.rows part piece weight → IsOptional new.rows part piece weight
lift-optional old new None piece weight g i = i
lift-optional old new (Some part) piece weight g i = (i.0, i.1, i.2, i.3, lift-part old new part i.0 i.1 g i.4)

pub below-optional : (old : Made) (part : Option Part) (piece : Option Piece) (weight : Option ℕ) → IsOptional old.rows part piece weight →
    IsBelow old.rows part
below-optional old None piece weight i = tt
below-optional old (Some part) piece weight i = i.4.below

pub lift-below : {n : ℕ} (old new : Made) (part : Option Part) → GrewBy n old new → IsBelow old.rows part → IsBelow new.rows part
lift-below old new None g b = tt
lift-below old new (Some part) g b = omega (arith, g.longer, b)

pub same-part : (made : Made) (part : Part) (piece : Piece) (weight : ℕ) → IsPart made.rows part piece weight →
    Adds made made part piece weight
same-part made part piece weight i = record { grew = Grew-refl made; added = i }

pub then-adds : {n : ℕ} (old mid new : Made) (part : Part) (piece : Piece) (weight : ℕ) → GrewBy n old mid →
    Adds mid new part piece weight → AddsBy n old new part piece weight
then-adds old mid new part piece weight g a = record { grew = Grew-then old mid new g a.grew; added = a.added }

pub all-add : {E : Type 0} (old mid new : Made) (r : Result Part E) (piece : Piece) (weight : ℕ) → Grew old mid →
    IfOk r (λ x. Adds mid new x piece weight) → IfOk r (λ x. Adds old new x piece weight)
all-add old mid new (Ok x) piece weight g a = then-adds old mid new x piece weight g a
all-add old mid new (Err e) piece weight g a = tt
