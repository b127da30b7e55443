-- An attempt that goes on from look to look.
use Rattle.std.proofs.Common.{Ok, Err, rules, ◌≡◌, ℕ, zero, suc, ◌+◌, ◌-◌, ◌*◌, ◌<◌, ◌≤◌, Bool, true, false, List, [], ◌++◌, length, take}
use Rattle.std.proofs.Common.{drop, Option, ◌⊎◌, inl, inr, refl, sym, ◌∙◌, ap, subst, arith, append_assoc}
use Rattle.std.specs.Prelude.{Result, OnOk}
use Rattle.std.proofs.lemmas.List.{append-nil, length-drop}
use Rattle.std.proofs.lemmas.Bool.{false≢true}
use Rattle.std.proofs.Math.Nat.{mul-le-mul_left}
use Rattle.ix_pattern.specs.Rows.{Shape}
use Rattle.ix_match.specs.Scans.{Scanned, GoesOn, emptied}
use Rattle.ix_lines.specs.Begun.{Breaking, IsBegun, Attends}
use Rattle.ix_lines.specs.Seek.{last_byte}
use Rattle.ix_lines.proofs.ListLemmas.{drop-drop}
use Rattle.ix_lines.proofs.SeekLemmas.{last_byte-on}

pub any-ok : {T E : Type 0} {P : Type 0} (r : Result T E) → P → OnOk r P
any-ok (Ok x) p = p
any-ok (Err e) p = search rules

-- begun anew
pub anew : (scan old : Scanned) (before : Option ℕ) (text : List ℕ) → scan ≡ emptied old → GoesOn scan before text
anew scan old before text e = inl (ap (λ s. s.given) e)

-- it was given these bytes
pub given-these : (scan old : Scanned) (before : Option ℕ) (text : List ℕ) → scan ≡ record old { before = before; given = text } →
    GoesOn scan before text
given-these scan old before text e =
    inr (ap (λ s. s.before) e, ([], sym (append-nil text) ∙ ap (λ s. s.given ++ []) (sym e)))

-- more bytes came
pub goes-more : (scan : Scanned) (before : Option ℕ) (text later : List ℕ) → GoesOn scan before text → GoesOn scan before (text ++ later)
goes-more scan before text later (inl none) = inl none
goes-more scan before text later (inr on) = inr (
  on.0,
  (
    on.1.0 ++ later,
    ap (λ l. l ++ later) on.1.1
        ∙ append_assoc scan.given on.1.0 later,
  ),
)

-- at the first place it goes on, and at another one it begins anew
pub stood : (first old new : Breaking) (before r : Option ℕ) (bytes slice : List ℕ) (at place : ℕ) → at ≤ place → (place ≡ 0 → new ≡ old) →
    (0 < place → new.scan ≡ emptied old.scan) →
    (at ≡ 0 → old ≡ first) → GoesOn first.scan before bytes → r ≡ last_byte before (take place bytes) → slice ≡ drop place bytes →
    GoesOn new.scan r slice
stood first old new before r bytes slice at zero h same other begins on b s =
    subst (λ (x : Breaking). GoesOn x.scan r slice) (sym (same refl ∙ begins (omega (arith, h))))
    (subst (λ x. GoesOn first.scan x slice) (sym b) (subst (GoesOn first.scan before) (sym s) on))
stood first old new before r bytes slice at (suc n) h same other begins on b s = anew new.scan old.scan r slice (other (omega arith))

-- it goes on from a later place
pub moved-on : (scan : Scanned) (before first : Option ℕ) (bytes slice : List ℕ) (at n : ℕ) → first ≡ last_byte before (take at bytes) →
    slice ≡ drop at bytes →
    GoesOn scan (last_byte first (take n slice)) (drop n slice) → GoesOn scan (last_byte before (take (at + n) bytes)) (drop (at + n) bytes)
moved-on scan before first bytes slice at n f s on =
    subst (λ b. GoesOn scan b (drop (at + n) bytes)) (ap (λ b. last_byte b (take n slice)) f
    ∙ ap (λ l. last_byte (last_byte before (take at bytes)) (take n l)) s ∙ last_byte-on before at n bytes)
    (subst (GoesOn scan (last_byte first (take n slice))) (ap (drop n) s ∙ drop-drop at n bytes) on)

-- said of equal places
pub there : (scan : Scanned) (before r : Option ℕ) (text slice : List ℕ) → r ≡ before → slice ≡ text → GoesOn scan r slice →
    GoesOn scan before text
there scan before r text slice b s on = subst (λ x. GoesOn scan x text) b (subst (GoesOn scan r) s on)

-- it goes on with the bytes that are left
pub left-attends : (b : Breaking) (before r : Option ℕ) (all left : List ℕ) (stop : ℕ) → r ≡ last_byte before (take stop all) →
    left ≡ drop stop all →
    GoesOn b.scan (last_byte before (take stop all)) (drop stop all) → (stop < length all → IsBegun b) → Attends b r left
left-attends b before r all left stop is e on begun = record {
  goes_on = there b.scan r (last_byte before (take stop all)) left (drop stop all) (sym is) (sym e) on;
  begun = λ some. begun (omega (arith, some, ap length e, length-drop stop all));
}

-- a look that goes on makes no test
pub no-tests : (scan : Scanned) (counts : Bool) (T : Type 0) → counts ≡ false → ((scan.given ≡ [] → ⊥) → T) → (counts ≡ true)
    ⊎ (0 < length scan.given) → T
no-tests scan counts T off made (inl on) = absurd (false≢true (sym off ∙ on))
no-tests scan counts T off made (inr some) = made (λ none. absurd (omega (arith, some, ap length none)))

-- one look more
pub one-more : (p q : Shape) (at k first now new : ℕ) → q ≡ p → at + 1 ≤ k → now ≤ first + p.weight * 512 * at →
    new ≤ now + q.weight * 512 →
    new ≤ first + p.weight * 512 * k
one-more p q at k first now new same h a b =
    let unit : ℕ = p.weight * 512 in
    let w : q.weight * 512 ≡ unit = ap (λ (s : Shape). s.weight * 512) same in
    let e : unit * (at + 1) ≡ unit * at + unit = grind arith in
    let more : unit * (at + 1) ≤ unit * k = mul-le-mul_left unit h in
    omega (arith, w, e, more, a, b)

-- as many at the most where the search stops before another look
pub no-more : (p : Shape) (at k first now : ℕ) → at ≤ k → now ≤ first + p.weight * 512 * at → now ≤ first + p.weight * 512 * k
no-more p at k first now h a =
    let more : p.weight * 512 * at ≤ p.weight * 512 * k = mul-le-mul_left (p.weight * 512) h in omega (arith, more, a)

-- those of the next search
pub searched : (p q : Shape) (at n k first now new : ℕ) → q ≡ p → k ≡ at + n → now ≤ first + p.weight * 512 * at →
    new ≤ now + q.weight * 512 * n →
    new ≤ first + p.weight * 512 * k
searched p q at n k first now new same is a b =
    let unit : ℕ = p.weight * 512 in
    let w : q.weight * 512 * n ≡ unit * n = ap (λ (s : Shape). s.weight * 512 * n) same in
    let e : unit * (at + n) ≡ unit * at + unit * n = grind arith in
    let f : unit * k ≡ unit * (at + n) = ap (λ m. unit * m) is in
    omega (arith, w, e, f, a, b)

-- one look more, where the one at the first place goes on
pub one-again : (p q : Shape) (first old new : Breaking) (at place k start now then : ℕ) → q ≡ p → at ≤ place → place ≤ k →
    (place ≡ 0 → new ≡ old) → (at ≡ 0 → old ≡ first) → IsBegun first →
    now ≤ start + p.weight * 512 * (at - 1) → then ≤ now + q.weight * 512 → (IsBegun new → then ≡ now) → then ≤ start + p.weight * 512 * k
one-again p q first old new at zero k start now then same h low stays begins begun a b again =
    let none = again (subst IsBegun (sym (stays refl ∙ begins (omega (arith, h)))) begun) in
    no-more p (at - 1) k start then (omega (arith, h)) (omega (arith, none, a))
one-again p q first old new at (suc n) k start now then same h low stays begins begun a b again =
    one-more p q (at - 1) k start now then same (omega (arith, h, low)) a b

-- the next search, where the one at the first place goes on
pub searched-again : (p q : Shape) (first old : Breaking) (at n k start now then : ℕ) → q ≡ p → 0 < n → k + 1 ≡ at + n →
    (at ≡ 0 → old ≡ first) → IsBegun first →
    now ≤ start + p.weight * 512 * (at - 1) → then ≤ now + q.weight * 512 * n → (IsBegun old → then ≤ now + q.weight * 512 * (n - 1)) →
    then ≤ start + p.weight * 512 * k
searched-again p q first old zero n k start now then same some is begins begun a b again =
    searched p q 0 (n - 1) k start now then same (omega (arith, some, is)) a (again (subst IsBegun (sym (begins refl)) begun))
searched-again p q first old (suc m) n k start now then same some is begins begun a b again =
    let one : suc m - 1 ≡ m = omega arith in
    searched p q m n k start now then same (omega (arith, is)) (subst (λ (x : ℕ). now ≤ start + p.weight * 512 * x) one a) b

-- more bytes came to those that it goes on with
pub attends-more : (b : Breaking) (before r : Option ℕ) (text later all : List ℕ) → Attends b before text → r ≡ before → all ≡ text
    ++ later → GoesOn b.scan r all
attends-more b before r text later all on is e = there b.scan r before all (text
    ++ later) (sym is) (sym e) (goes-more b.scan before text later on.goes_on)
