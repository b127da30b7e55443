-- Runs of equal moments.
use Rattle.std.proofs.Common.{◌≡◌, ℕ, zero, suc, ◌+◌, ◌-◌, ◌<◌, ◌≤◌, ℤ, pos, List, [], ◌∷◌, ◌++◌, length, drop, get_or, replicate, refl}
use Rattle.std.proofs.Common.{sym, ◌∙◌, ap, arith, append_assoc, w64, to_z, of_z}
use Rattle.std.proofs.lemmas.List.{append-nil, length-drop, get_or-drop}
use mir.Val.{SFits}
use Rattle.std.proofs.Math.Facts.{to_z-of_z}
use Rattle.std.specs.Prelude.{slice_set}
use Rattle.ix_lines.specs.Moments.{moments_of, PointsInto}
use Rattle.ix_lines.specs.declared.moments.Run.{Run}
use Rattle.ix_lines.specs.declared.moments.Cursor.{Cursor}
use Rattle.ix_lines.proofs.ListLemmas.{drop-past, drop-drop}

abbrev pub no_run : Run
no_run = record { count = 0; moment = pos 0 }

pub replicate-add : (a b : ℕ) (x : ℤ) → replicate (a + b) x ≡ replicate a x ++ replicate b x
replicate-add zero b x = ap (λ n. replicate n x) (plus b)
  where
    plus : (k : ℕ) → 0 + k ≡ k
    plus k = omega arith
replicate-add (suc a) b x = let e : suc a + b ≡ suc (a + b) = omega arith in rw e (ap (λ l. x ∷ l) (replicate-add a b x))

drop-replicate : (n c : ℕ) (x : ℤ) (ys : List ℤ) → c ≤ n → drop n (replicate c x ++ ys) ≡ drop (n - c) ys
drop-replicate n zero x ys h = let e : n ≡ n - 0 = omega arith in ap (λ k. drop k ys) e
drop-replicate zero (suc c) x ys h = absurd (omega arith)
drop-replicate (suc n) (suc c) x ys h = let e : n - c ≡ suc n - suc c = omega arith in drop-replicate n c x ys (omega arith)
    ∙ ap (λ k. drop k ys) e

pub shorter-replicate : (n c : ℕ) (x : ℤ) (ys : List ℤ) → n ≤ c → replicate (c - n) x ++ ys ≡ drop n (replicate c x ++ ys)
shorter-replicate zero c x ys h = let e : c - 0 ≡ c = omega arith in ap (λ k. replicate k x ++ ys) e
shorter-replicate (suc n) zero x ys h = absurd (omega arith)
shorter-replicate (suc n) (suc c) x ys h = let e : suc c - suc n ≡ c - n = omega arith in ap (λ k. replicate k x ++ ys) e
    ∙ shorter-replicate n c x ys (omega arith)

get_or-replicate : (i c : ℕ) (x d : ℤ) (ys : List ℤ) → i < c → get_or (replicate c x ++ ys) i d ≡ x
get_or-replicate i zero x d ys h = absurd (omega arith)
get_or-replicate zero (suc c) x d ys h = refl
get_or-replicate (suc i) (suc c) x d ys h = get_or-replicate i c x d ys (omega arith)

drop-run : (runs : List Run) (i : ℕ) → i < length runs → drop i runs ≡ get_or runs i no_run ∷ drop (i + 1) runs
drop-run [] i h = absurd (omega arith)
drop-run (r ∷ runs) zero h = refl
drop-run (r ∷ runs) (suc i) h = let e : suc i + 1 ≡ suc (i + 1) = omega arith in rw e (drop-run runs i (omega arith))

-- whole runs are passed
pub run-past : (runs : List Run) (i left : ℕ) → i < length runs → (get_or runs i no_run).count ≤ left →
    drop left (moments_of (drop i runs)) ≡ drop (left - (get_or runs i no_run).count) (moments_of (drop (i + 1) runs))
run-past runs i left h c =
    ap (λ rs. drop left (moments_of rs)) (drop-run runs i h)
    ∙ drop-replicate left (get_or runs i no_run).count (get_or runs i no_run).moment (moments_of (drop (i + 1) runs)) c

-- a cursor moves on
pub points-on : (runs : List Run) (old new : Cursor) → PointsInto runs old → old.run < length runs →
    new.run ≡ old.run + 1 → new.passed ≡ old.passed + (get_or runs old.run no_run).count → PointsInto runs new
points-on runs old new p h r s =
    let n : ℕ = (get_or runs old.run no_run).count in
    let none : n - n ≡ 0 = omega arith in
    record {
      within = omega (arith, r);
      others = ap (λ k. drop k (moments_of runs)) s ∙ sym (drop-drop old.passed n (moments_of runs)) ∙ ap (drop n) p.others
          ∙ run-past runs old.run n h (omega arith) ∙ ap (λ k. drop k (moments_of (drop (old.run + 1) runs))) none
          ∙ ap (λ k. moments_of (drop k runs)) (sym r);
    }

-- the moment at a place, by the cursor
pub in-run : (runs : List Run) (c : Cursor) (place : ℕ) → PointsInto runs c → c.passed ≤ place → c.run < length runs →
    place - c.passed < (get_or runs c.run no_run).count →
    (get_or runs c.run no_run).moment ≡ get_or (moments_of runs) place (pos 0)
in-run runs c place p on h near =
    let k : ℕ = place - c.passed in
    let r : Run = get_or runs c.run no_run in
    let e : c.passed + k ≡ place = omega arith in
    sym (ap (λ n. get_or (moments_of runs) n (pos 0)) (sym e) ∙ sym (get_or-drop c.passed (moments_of runs) k (pos 0))
    ∙ ap (λ l. get_or l k (pos 0)) p.others
    ∙ ap (λ rs. get_or (moments_of rs) k (pos 0)) (drop-run runs c.run h)
    ∙ get_or-replicate k r.count r.moment (pos 0) (moments_of (drop (c.run + 1) runs)) near)

pub past-all : (runs : List Run) (c : Cursor) (place : ℕ) → PointsInto runs c → c.passed ≤ place → length runs ≤ c.run →
    length (moments_of runs) ≤ place
past-all runs c place p on h =
    let e : drop c.passed (moments_of runs) ≡ [] = p.others ∙ ap moments_of (drop-past c.run runs h) in
    omega (arith, ap length e, length-drop c.passed (moments_of runs))

pub get_or-any : (runs : List Run) (i : ℕ) (d e : Run) → i < length runs → get_or runs i d ≡ get_or runs i e
get_or-any [] i d e h = absurd (omega arith)
get_or-any (r ∷ runs) zero d e h = refl
get_or-any (r ∷ runs) (suc i) d e h = get_or-any runs i d e (omega arith)

-- the last run grows by equal moments
pub last-grows : (runs : List Run) (i n : ℕ) (r : Run) (m : ℤ) → i + 1 ≡ length runs → r ≡ get_or runs i no_run → r.moment ≡ m →
    moments_of (slice_set runs i (record { count = r.count + n; moment = r.moment })) ≡ moments_of runs ++ replicate n m
last-grows [] i n r m h is e = absurd (omega arith)
last-grows (q ∷ []) (suc i) n r m h is e = absurd (omega arith)
last-grows (q ∷ s ∷ runs) zero n r m h is e = absurd (omega arith)
last-grows (q ∷ []) zero n r m h is e =
    append-nil (replicate (r.count + n) r.moment) ∙ replicate-add r.count n r.moment
    ∙ ap (λ (x : Run). replicate x.count x.moment ++ replicate n r.moment) is
    ∙ ap (λ z. replicate q.count q.moment ++ replicate n z) e
    ∙ ap (λ l. l ++ replicate n m) (sym (append-nil (replicate q.count q.moment)))
last-grows (q ∷ s ∷ runs) (suc i) n r m h is e =
    ap (λ l. replicate q.count q.moment ++ l) (last-grows (s ∷ runs) i n r m (omega arith) is e)
    ∙ sym (append_assoc (replicate q.count q.moment) (moments_of (s ∷ runs)) (replicate n m))

pub last-added : (runs : List Run) (r : Run) → moments_of (runs ++ r ∷ []) ≡ moments_of runs ++ replicate r.count r.moment
last-added [] r = append-nil (replicate r.count r.moment)
last-added (q ∷ runs) r =
    ap (λ l. replicate q.count q.moment ++ l) (last-added runs r)
    ∙ sym (append_assoc (replicate q.count q.moment) (moments_of runs) (replicate r.count r.moment))

pub shortened : (runs : List Run) (n : ℕ) (r : Run) → 0 < length runs → r ≡ get_or runs 0 no_run → n ≤ (get_or runs 0 no_run).count →
    moments_of (slice_set runs 0 (record { count = r.count - n; moment = r.moment })) ≡ drop n (moments_of runs)
shortened [] n r some e h = absurd (omega arith)
shortened (q ∷ runs) n r some e h =
    ap (λ s. moments_of (record { count = s.count - n; moment = s.moment } ∷ runs)) e
    ∙ shorter-replicate n q.count q.moment (moments_of runs) h

-- a run in use, and the others from a place on
abbrev pub waiting : Run → List Run → ℕ → List ℤ
waiting now runs i = replicate now.count now.moment ++ moments_of (drop i runs)

-- the next run takes its place
pub run-next : (runs : List Run) (i : ℕ) → i < length runs → moments_of (drop i runs) ≡ waiting (get_or runs i no_run) runs (i + 1)
run-next runs i h = ap moments_of (drop-run runs i h)

-- or its moments become a part of the run in use, as they are equal or none
pub run-joins : (runs : List Run) (i : ℕ) (now grown : Run) → i < length runs →
    grown ≡ record { count = now.count + (get_or runs i no_run).count; moment = now.moment } →
    replicate (get_or runs i no_run).count (get_or runs i no_run).moment ≡ replicate (get_or runs i no_run).count now.moment →
    waiting grown runs (i + 1) ≡ waiting now runs i
run-joins runs i now grown h is same =
    let p : Run = get_or runs i no_run in
    let more : List ℤ = moments_of (drop (i + 1) runs) in
    ap (λ r. waiting r runs (i + 1)) is
    ∙ ap (λ l. l ++ more) (replicate-add now.count p.count now.moment)
    ∙ append_assoc (replicate now.count now.moment) (replicate p.count now.moment) more
    ∙ ap (λ l. replicate now.count now.moment ++ (l ++ more)) (sym same)
    ∙ ap (λ l. replicate now.count now.moment ++ l) (sym (run-next runs i h))

pub none-equal : (n : ℕ) (x y : ℤ) → n ≤ 0 → replicate n x ≡ replicate n y
none-equal zero x y h = refl
none-equal (suc n) x y h = absurd (omega arith)

-- moments as words
pub same-words : (x y : ℤ) → SFits w64 x → SFits w64 y → of_z w64 x ≡ of_z w64 y → x ≡ y
same-words x y f g e = sym (to_z-of_z f) ∙ ap (to_z w64) e ∙ to_z-of_z g
