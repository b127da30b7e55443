-- Laws of the pieces of bytes.
use Rattle.std.proofs.Common.{◌≡◌, ◌≢◌, ℕ, zero, suc, ◌-◌, ◌<◌, Bool, true, false, eqb, cond, List, [], ◌∷◌, length, get_or, take, drop}
use Rattle.std.proofs.Common.{refl, sym, ◌∙◌, arith, eq-eqb}
use Rattle.std.specs.Prelude.{Some, None}
use Rattle.std.specs.Option.{option_map}
use Rattle.std.proofs.lemmas.Bool.{ne_eqb}
use Rattle.ix_conf.specs.Lines.{cut_at, before_last}

-- the first such byte is at i
pub cut_first : (byte : ℕ) (bs : List ℕ) (i : ℕ) → i < length bs → ((k : ℕ) → k < i → get_or bs k 0 ≢ byte) → get_or bs i 0 ≡ byte
    → cut_at byte bs ≡ Some (take i bs, drop (suc i) bs)
cut_first byte [] i h other here = absurd (omega arith)
cut_first byte (b ∷ bs) zero h other here = rw (eq-eqb b byte here) refl
cut_first byte (b ∷ bs) (suc i) h other here =
    let first : eqb b byte ≡ false = ne_eqb b byte (other 0 (omega arith)) in
    let rest = cut_first byte bs i (omega arith) (λ k l. other (suc k) (omega arith)) here in
    rw (first, rest) refl

-- there is no such byte
pub cut_none : (byte : ℕ) (bs : List ℕ) → ((k : ℕ) → k < length bs → get_or bs k 0 ≢ byte) → cut_at byte bs ≡ None
cut_none byte [] other = refl
cut_none byte (b ∷ bs) other =
    let first : eqb b byte ≡ false = ne_eqb b byte (other 0 (omega arith)) in
    let rest = cut_none byte bs (λ k l. other (suc k) (omega arith)) in
    rw (first, rest) refl

-- a list by its last byte
pub before_last_is : (byte : ℕ) (bs : List ℕ) (n : ℕ) → length bs ≡ suc n
    → before_last byte bs ≡ cond (eqb (get_or bs n 0) byte) (Some (take n bs)) None
before_last_is byte [] n h = absurd (omega arith)
before_last_is byte (b ∷ []) zero h = refl
before_last_is byte (b ∷ []) (suc n) h = absurd (omega arith)
before_last_is byte (b ∷ c ∷ bs) zero h = absurd (omega arith)
before_last_is byte (b ∷ c ∷ bs) (suc n) h = rw (before_last_is byte (c ∷ bs) n (omega arith)) (by (eqb (get_or (c ∷ bs) n 0) byte))
  where
    by : (t : Bool) → option_map (λ (front : List ℕ). b ∷ front) (cond t (Some (take n (c ∷ bs))) None)
        ≡ cond t (Some (b ∷ take n (c ∷ bs))) None
    by true = refl
    by false = refl

pub before_last_found : (byte : ℕ) (bs : List ℕ) → 0 < length bs → get_or bs (length bs - 1) 0 ≡ byte
    → Some (take (length bs - 1) bs) ≡ before_last byte bs
before_last_found byte bs some here =
    sym (before_last_is byte bs (length bs - 1) (omega arith) ∙ rw (eq-eqb (get_or bs (length bs - 1) 0) byte here) refl)

pub before_last_none : (byte : ℕ) (bs : List ℕ) → 0 < length bs → get_or bs (length bs - 1) 0 ≢ byte → None ≡ before_last byte bs
before_last_none byte bs some other =
    sym (before_last_is byte bs (length bs - 1) (omega arith) ∙ rw (ne_eqb (get_or bs (length bs - 1) 0) byte other) refl)

pub before_last_empty : (byte : ℕ) (bs : List ℕ) → length bs ≡ 0 → None ≡ before_last byte bs
before_last_empty byte [] h = refl
before_last_empty byte (b ∷ bs) h = absurd (omega arith)
