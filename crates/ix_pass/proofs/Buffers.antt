-- Bytes of a file that are read into the front of a buffer, piece by piece.
use Rattle.std.proofs.Common.{◌≡◌, ◌≤◌, ◌<◌, ◌+◌, ◌-◌, ℕ, List, ◌++◌, length, take, drop, sym, ap, ◌∙◌, subst, arith}
use Rattle.std.specs.Prelude.{Option, Some, None, IfSome}
use Rattle.std.proofs.lemmas.List.{length-append, length-drop, length-take-le, take-append-drop, take-append-le}
use Rattle.std.proofs.lemmas.List.{drop-drop}
use Rattle.std.proofs.Math.Seq.{take-append-add}
use Rattle.ix_fs.specs.Trees.{ReadsAt}
use Rattle.ix_pass.specs.Blocks.{FillsAt, HasFilled}

take_over : (xs ys : List ℕ) (n : ℕ) → length xs ≤ n → take n (xs ++ ys) ≡ xs ++ take (n - length xs) ys
take_over xs ys n long = ap (λ (k : ℕ). take k (xs ++ ys)) (whole n (length xs) long) ∙ take-append-add xs ys (n - length xs)
  where
    whole : (n k : ℕ) → k ≤ n → n ≡ k + (n - k)
    whole n k e = omega (arith, e)

-- ---- a part of a buffer that was read into: `whole` is the buffer behind that (these three stand
-- in TakingLemmas of ix_http)

part_len : (a : ℕ) (xs ys whole : List ℕ) → a ≤ length xs → take (a + length ys) whole ≡ take a xs ++ ys →
    length (take (a + length ys) whole) ≡ a + length ys
part_len a xs ys whole inside is =
    let text = ap length is in
    let size = length-append (take a xs) ys in
    let front = length-take-le a xs inside in
    omega (arith, text, size, front)

pub filled : (a k : ℕ) (xs ys whole : List ℕ) → a ≤ length xs → k ≤ length ys → take (a + length ys) whole ≡ take a xs ++ ys →
    take (a + k) whole ≡ take a xs ++ take k ys
filled a k xs ys whole inside fits is =
    let m : ℕ = a + length ys in
    let front = length-take-le a xs inside in
    let len = part_len a xs ys whole inside is in
    ap (take (a + k)) (sym (take-append-drop m whole))
    ∙ take-append-le (a + k) (take m whole) (drop m whole) (omega (arith, len, fits))
    ∙ ap (take (a + k)) is
    ∙ take_over (take a xs) ys (a + k) (omega (arith, front))
    ∙ ap (λ n. take a xs ++ take n ys) (omega (arith, front))

-- ----

pub take_add : (k n : ℕ) (l : List ℕ) → k ≤ length l → take (k + n) l ≡ take k l ++ take n (drop k l)
take_add k n l inside =
    let e : length (take k l) ≡ k = length-take-le k l inside in
    ap (λ (m : ℕ). take (m + n) l) (sym e)
    ∙ ap (λ (x : List ℕ). take (length (take k l) + n) x) (sym (take-append-drop k l))
    ∙ take-append-add (take k l) (drop k l) n

-- more was read
pub more_filled : (o : Option (List ℕ)) (at k n : ℕ) (room buf whole : List ℕ) → k ≤ length room → n ≤ length buf →
    take (k + length buf) whole ≡ take k room ++ buf →
    HasFilled o at k room → ReadsAt o (at + k) n buf → HasFilled o at (k + n) whole
more_filled None at k n room buf whole inside fits is has reads = absurd reads
more_filled (Some bytes) at k n room buf whole inside fits is has reads = record {
  read = filled k n room buf whole inside fits is
      ∙ ap (λ (l : List ℕ). l ++ take n buf) has.read
      ∙ ap (λ (l : List ℕ). take k (drop at bytes) ++ l) (reads.read ∙ ap (take n) (sym (drop-drop k at bytes)))
      ∙ sym (take_add k n (drop at bytes) (omega (arith, has.there, length-drop at bytes)));
  there = omega (arith, has.there, reads.there);
}

pub fill_inside : (a k : ℕ) (xs ys whole : List ℕ) → a ≤ length xs → k ≤ length ys → take (a + length ys) whole ≡ take a xs ++ ys →
    a + k ≤ length whole
fill_inside a k xs ys whole inside fits is =
    let len = part_len a xs ys whole inside is in
    let size = length-append (take (a + length ys) whole) (drop (a + length ys) whole) in
    let all = ap length (take-append-drop (a + length ys) whole) in
    omega (arith, len, size, all, fits)

at_end : (a b n : ℕ) → n ≡ 0 → (a < b → 0 < n) → b ≤ a
at_end a b n none more = grind (arith, none, more)

-- nothing more is there
pub all_filled : (o : Option (List ℕ)) (at k n : ℕ) (room buf whole : List ℕ) → n ≡ 0 → k ≤ length room → 0 < length buf →
    take (k + length buf) whole ≡ take k room ++ buf →
    HasFilled o at k room → ReadsAt o (at + k) n buf → FillsAt o at k whole
all_filled None at k n room buf whole none inside some is has reads = absurd reads
all_filled (Some bytes) at k n room buf whole none inside some is has reads =
    let more = more_filled (Some bytes) at k n room buf whole inside (omega (arith, none)) is has reads in record {
      read = ap (λ (m : ℕ). take m whole) (omega (arith, none)) ∙ more.read ∙ ap (λ (m : ℕ). take m (drop at bytes)) (omega (arith, none));
      there = has.there;
      whole = λ short. omega (arith, at_end (at + k) (length bytes) n none (reads.some some));
    }

-- the buffer is full
pub full : (o : Option (List ℕ)) (at k : ℕ) (room : List ℕ) → 0 < length room → length room ≤ k → HasFilled o at k room →
    FillsAt o at k room
full None at k room some is has = absurd (omega (arith, some, is, has))
full (Some bytes) at k room some is has = record { read = has.read; there = has.there; whole = λ short. absurd (omega (arith, short, is)) }

-- ---- where the files are told

pub if_both : {X : Type 0} (P Q R : X → Type 0) → ((x : X) → P x → Q x → R x) → (a b : Option X) → b ≡ a → IfSome a P → IfSome b Q →
    IfSome a R
if_both {X} P Q R so None b e p q = tt
if_both {X} P Q R so (Some x) b e p q = so x p (subst (λ (o : Option X). IfSome o Q) e q)

pub if_one : {X : Type 0} (P R : X → Type 0) → ((x : X) → P x → R x) → (a : Option X) → IfSome a P → IfSome a R
if_one P R so None p = tt
if_one P R so (Some x) p = so x p
