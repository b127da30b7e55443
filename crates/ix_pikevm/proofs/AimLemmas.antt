-- Instructions that come behind others.
use Rattle.std.proofs.Common.{◌≡◌, ℕ, zero, suc, ◌+◌, ◌<◌, ◌≤◌, ◌⊎◌, inl, inr, Bool, true, false, List, [], ◌∷◌, ◌++◌, length, Some, refl}
use Rattle.std.proofs.Common.{sym, ◌∙◌, ap, subst, arith, append_assoc, length-append, eqb}
use Rattle.std.specs.Prelude.{slice_get, unwrap_or}
use Rattle.std.proofs.lemmas.Option.{slice_get_within, slice_get_past}
use Rattle.ix_pattern.specs.Ways.{onward, here, is_start, byte_before, byte_ways, finish_ways, word_ways, ways}
use Rattle.ix_pattern.specs.Rows.{Rows, piece_at}
use Rattle.ix_pikevm.specs.declared.code.Instr.{Instr}
use Rattle.ix_pikevm.specs.declared.code.Instr.TheVariants.{Match, Byte, Split, Jump, Begin, Finish, TextStart, TextEnd, Word, Look}
use Rattle.ix_pikevm.specs.Code.{set_in, sets_of, ended, Targets}
use Rattle.ix_pikevm.specs.Aims.{Aim, stop_aim, aim_at, Same, Meets, IsFor, Even, HasRow, IsRight, AreAims, Written}
use Rattle.ix_pikevm.proofs.HistoryLemmas.{get-left, get-seam}

pub aim-stays : (aims more : List Aim) (k : ℕ) → k < length aims → aim_at (aims ++ more) k ≡ aim_at aims k
aim-stays aims more k h = ap (λ o. unwrap_or o stop_aim) (get-left aims more k h)

pub aim-new : (aims : List Aim) (a : Aim) (k : ℕ) → k ≡ length aims → aim_at (aims ++ a ∷ []) k ≡ a
aim-new aims a k e = ap (λ n. aim_at (aims ++ a ∷ []) n) e ∙ ap (λ o. unwrap_or o stop_aim) (get-seam aims a [])

pub for-stays : (rows : Rows) (aims more : List Aim) (a : Aim) (i : Instr) → Targets (length aims) i → IsFor rows aims a i →
    IsFor rows (aims ++ more) a i
for-stays rows aims more a Match t f = f
for-stays rows aims more a (Byte set next) t f =
    subst (λ n. Same a.gives (λ text began r. onward (n.gives text began)
    (byte_ways (set_in (sets_of rows) set) text r (slice_get text.bytes r.place)))) (sym (aim-stays aims more next t)) f
for-stays rows aims more a (Split x y) t f =
    subst (λ n. Same a.gives (λ text began r. n.gives text began r ++ (aim_at (aims ++ more) y).gives text began r) × (n.rank < a.rank)
    × ((aim_at (aims ++ more) y).rank < a.rank)) (sym (aim-stays aims more x t.0))
    (subst (λ n. Same a.gives (λ text began r. (aim_at aims x).gives text began r ++ n.gives text began r) × ((aim_at aims x).rank < a.rank)
    × (n.rank < a.rank)) (sym (aim-stays aims more y t.1)) f)
for-stays rows aims more a (Jump x) t f = subst (λ n. Same a.gives n.gives × (n.rank < a.rank)) (sym (aim-stays aims more x t)) f
for-stays rows aims more a (Begin x) t f =
    subst (λ n. Same a.gives (λ text began r. n.gives text (r.place ∷ began) r) × (n.rank < a.rank)) (sym (aim-stays aims more x t)) f
for-stays rows aims more a (Finish number x) t f =
    subst (λ n. Same a.gives (λ text began r. n.gives text (ended number r.place r.groups began).began
    (record { place = r.place; groups = (ended number r.place r.groups began).groups }))
    × (n.rank < a.rank)) (sym (aim-stays aims more x t)) f
for-stays rows aims more a (TextStart lines x) t f =
    subst (λ n. Same a.gives (λ text began r. onward (n.gives text began)
    (here (is_start lines (byte_before text.before text.bytes r.place)) r)) × (n.rank < a.rank)) (sym (aim-stays aims more x t)) f
for-stays rows aims more a (TextEnd lines x) t f =
    subst (λ n. Same a.gives (λ text began r. onward (n.gives text began) (finish_ways lines text r (slice_get text.bytes r.place)))
    × (n.rank < a.rank)) (sym (aim-stays aims more x t)) f
for-stays rows aims more a (Word x) t f =
    subst (λ n. Same a.gives (λ text began r. onward (n.gives text began) (word_ways text r (slice_get text.bytes r.place)))
    × (n.rank < a.rank)) (sym (aim-stays aims more x t)) f
for-stays rows aims more a (Look piece x) t f =
    subst (λ n. Same a.gives (λ text began r. onward (n.gives text began) (ways (piece_at rows piece) text r))
    × (n.rank < a.rank)) (sym (aim-stays aims more x t)) f

pub targets-more : (n m : ℕ) (i : Instr) → n ≤ m → Targets n i → Targets m i
targets-more n m Match h t = tt
targets-more n m (Byte set next) h t = omega (arith, h, t)
targets-more n m (Split x y) h t = (omega (arith, h, t.0), omega (arith, h, t.1))
targets-more n m (Jump x) h t = omega (arith, h, t)
targets-more n m (Begin x) h t = omega (arith, h, t)
targets-more n m (Finish number x) h t = omega (arith, h, t)
targets-more n m (TextStart lines x) h t = omega (arith, h, t)
targets-more n m (TextEnd lines x) h t = omega (arith, h, t)
targets-more n m (Word x) h t = omega (arith, h, t)
targets-more n m (Look piece x) h t = omega (arith, h, t)

-- an index in a list with one more
pub get-snoc : {A : Type 0} (xs : List A) (x y : A) (k : ℕ) → slice_get (xs ++ x ∷ []) k ≡ Some y → (slice_get xs k ≡ Some y)
    ⊎ ((k ≡ length xs) × (x ≡ y))
get-snoc [] x y zero e = inr (refl, cc)
get-snoc [] x y (suc k) e = absurd (let h = slice_get_within (x ∷ []) (suc k) y e in omega (arith, h))
get-snoc (z ∷ xs) x y zero e = inl e
get-snoc (z ∷ xs) x y (suc k) e = up (get-snoc xs x y k e)
  where
    up : (slice_get xs k ≡ Some y) ⊎ ((k ≡ length xs) × (x ≡ y)) → (slice_get xs k ≡ Some y) ⊎ ((suc k ≡ suc (length xs)) × (x ≡ y))
    up (inl f) = inl f
    up (inr f) = inr (ap suc f.0, f.1)

-- an aim comes with its instruction, which may be a hole
pub aims-push : (rows : Rows) (aims : List Aim) (hole : ℕ → Bool) (code new : List Instr) (a : Aim) (i : Instr) →
    AreAims rows aims hole code → new ≡ code ++ i ∷ [] →
    Even a → Targets (length code) i → HasRow rows i → (hole (length code) ≡ false → IsFor rows aims a i) →
    AreAims rows (aims ++ a ∷ []) hole new
aims-push rows aims hole code new a i f is ev t s for =
    subst (AreAims rows (aims ++ a ∷ []) hole) (sym is)
    (record {
      all = length-append aims (a ∷ []) ∙ ap (λ n. n + 1) f.all ∙ sym (length-append code (i ∷ []));
      even = λ pc. even-at pc (lt-or pc);
      right = λ pc j e. right-at pc j (get-snoc code i j pc e);
    })
  where
    lt-or : (pc : ℕ) → (pc < length aims) ⊎ (length aims ≤ pc)
    lt-or pc = grind arith

    even-at : (pc : ℕ) → (pc < length aims) ⊎ (length aims ≤ pc) → Even (aim_at (aims ++ a ∷ []) pc)
    even-at pc (inl h) = subst Even (sym (aim-stays aims (a ∷ []) pc h)) (f.even pc)
    even-at pc (inr h) = at-or-past (eqb pc (length aims)) refl
      where
        at-or-past : (b : Bool) → eqb pc (length aims) ≡ b → Even (aim_at (aims ++ a ∷ []) pc)
        at-or-past true e = subst Even (sym (aim-new aims a pc (grind (arith, e)))) ev
        at-or-past false e =
            subst Even (sym (ap (λ o. unwrap_or o stop_aim) (slice_get_past (aims ++ a ∷ []) pc (rw length-append (grind (arith, e, h))))))
            (λ text began starts r s p. (p, tt))

    right-at : (pc : ℕ) (j : Instr) → (slice_get code pc ≡ Some j) ⊎ ((pc ≡ length code) × (i ≡ j)) →
        IsRight rows (aims ++ a ∷ []) hole (length (code ++ i ∷ [])) pc j
    right-at pc j (inl e) =
        let r = f.right pc j e in
        let h : pc < length code = slice_get_within code pc j e in
        record {
          is = λ no. subst (λ b. IsFor rows (aims ++ a ∷ []) b j) (sym (aim-stays aims (a ∷ []) pc (omega (arith, h, f.all))))
              (for-stays rows aims (a ∷ []) (aim_at aims pc) j (subst (λ n. Targets n j) (sym f.all) r.targets) (r.is no));
          targets = targets-more (length code) (length (code ++ i ∷ [])) j (rw length-append (omega arith)) r.targets;
          row = r.row;
        }
    right-at pc j (inr e) =
        subst (λ k. IsRight rows (aims ++ a ∷ []) hole (length (code ++ i ∷ [])) pc k) e.1
        (record {
          is = λ no. subst (λ b. IsFor rows (aims ++ a ∷ []) b i) (sym (aim-new aims a pc (e.0 ∙ sym f.all)))
              (for-stays rows aims (a ∷ []) a i (subst (λ n. Targets n i) (sym f.all) t) (for (subst (λ n. hole n ≡ false) e.0 no)));
          targets = targets-more (length code) (length (code ++ i ∷ [])) i (rw length-append (omega arith)) t;
          row = s;
        })

pub meets-refl : (a : Aim) → Meets a a
meets-refl a = record { same = λ text began r h. refl; low = omega arith }

pub meets-trans : (a b d : Aim) → Meets a b → Meets b d → Meets a d
meets-trans a b d m n = record { same = λ text began r h. m.same text began r h ∙ n.same text began r h; low = omega (arith, m.low, n.low) }

-- one instruction is written
pub written-one : (rows : Rows) (aims : List Aim) (hole : ℕ → Bool) (code new : List Instr) (a want : Aim) (i : Instr) (begin : ℕ) →
    AreAims rows aims hole code → new ≡ code ++ i ∷ [] → begin ≡ length code →
    Even a → Targets (length code) i → HasRow rows i → IsFor rows aims a i → Meets a want → Written rows want aims hole new begin
written-one rows aims hole code new a want i begin f is at ev t s for m =
    record {
      now = aims ++ a ∷ [];
      grown = (a ∷ [], refl);
      fits = aims-push rows aims hole code new a i f is ev t s (λ no. for);
      within = rw length-append (omega (arith, at, f.all));
      meets = subst (λ b. Meets b want) (sym (aim-new aims a begin (at ∙ sym f.all))) m;
    }

-- one is written behind what was written
pub written-then : (rows : Rows) (aims : List Aim) (hole : ℕ → Bool) (mid new : List Instr) (first want : Aim) (x begin : ℕ) →
    (w : Written rows first aims hole mid x) →
    Written rows want w.now hole new begin → Written rows want aims hole new begin
written-then rows aims hole mid new first want x begin w v =
    record {
      now = v.now;
      grown = (w.grown.0 ++ v.grown.0, v.grown.1 ∙ ap (λ l. l ++ v.grown.0) w.grown.1 ∙ append_assoc aims w.grown.0 v.grown.0);
      fits = v.fits;
      within = v.within;
      meets = v.meets;
    }

pub written-want : (rows : Rows) (aims : List Aim) (hole : ℕ → Bool) (new : List Instr) (a b : Aim) (begin : ℕ) → Meets a b →
    Written rows a aims hole new begin → Written rows b aims hole new begin
written-want rows aims hole new a b begin m w =
    record { now = w.now; grown = w.grown; fits = w.fits; within = w.within; meets = meets-trans (aim_at w.now begin) a b w.meets m }

-- what stood before stands in what was written
pub now-stays : (rows : Rows) (want : Aim) (aims : List Aim) (hole : ℕ → Bool) (new : List Instr) (begin : ℕ) →
    (w : Written rows want aims hole new begin) → (k : ℕ) → k < length aims → aim_at w.now k ≡ aim_at aims k
now-stays rows want aims hole new begin w k h = ap (λ l. aim_at l k) w.grown.1 ∙ aim-stays aims w.grown.0 k h

pub now-longer : (rows : Rows) (want : Aim) (aims : List Aim) (hole : ℕ → Bool) (new : List Instr) (begin : ℕ) →
    (w : Written rows want aims hole new begin) → length aims ≤ length w.now
now-longer rows want aims hole new begin w = rw (w.grown.1, length-append) (omega arith)
