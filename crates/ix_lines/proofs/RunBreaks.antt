-- What the attempts of a group of one or more bytes of a set come to.
use Rattle.std.proofs.Common.{◌≡◌, ℕ, zero, suc, ◌+◌, ◌<◌, ◌≤◌, Bool, true, false, ◌&&◌, List, [], ◌∷◌, ◌++◌, length, take, get_or, Option}
use Rattle.std.proofs.Common.{Some, None, if◌then◌else◌, nat_le, nat_lt, cond, refl, sym, ◌∙◌, ap, arith}
use Rattle.std.specs.Prelude.{◌==◌, slice_get, slice_set, replicate}
use Rattle.std.specs.List.{prefix_len}
use Rattle.std.proofs.Math.Path.{fun_ext}
use Rattle.std.proofs.lemmas.List.{length-take}
use Rattle.std.proofs.lemmas.List.Folds.{length-prefix_len}
use Rattle.std.proofs.lemmas.List.Sums.{prefix_len-le-length}
use Rattle.std.proofs.lemmas.Bool.{leb-true, leb-false}
use Rattle.std.proofs.lemmas.Bool.Decides.{nat_tests}
use Rattle.ix_pattern.specs.Piece.{byte_in, in_set}
use Rattle.ix_pattern.specs.Ways.{Text, Reached, Way, ends_at, edge, onward, optional, here, byte_ways, close_group, sight, ways}
use Rattle.ix_pattern.specs.Rows.{Shape, tree}
use Rattle.ix_match.specs.Attempt.{reach}
use Rattle.ix_match.specs.Starts.{AreStarts, may_begin}
use Rattle.ix_lines.specs.Walk.{Look, match, no_match, more}
use Rattle.ix_lines.specs.Breaks.{look_at, breaks_by}
use Rattle.ix_lines.specs.ByteRuns.{run_length, runs_by, run_tree, IsByteRun}
use Rattle.ix_lines.proofs.ListLemmas.{take-past}

-- the set has the bytes that pass the test
abbrev pub HasBytes : (ℕ → Bool) → List Bool → Type 0
HasBytes test set = (b : ℕ) → in_set set b ≡ test b

-- tests on the length of a run
lengths : (m l : ℕ) → (1 + m == suc l) ≡ (m == l)
lengths m l = grind (arith, nat_tests)

some-run : (m : ℕ) → (1 + m == 0) ≡ false
some-run m = grind (arith, nat_tests)

none-run : (l : ℕ) → (0 == suc l) ≡ false
none-run l = grind (arith, nat_tests)

none-ne : (w : Way) → None ≡ Some w → ⊥
none-ne w e = grind arith

head-first : (xs ys : List Way) (w : Way) → slice_get xs 0 ≡ Some w → slice_get (xs ++ ys) 0 ≡ Some w
head-first [] ys w h = absurd (none-ne w h)
head-first (x ∷ xs) ys w h = h

-- a place up to which no group has taken part
abbrev from : ℕ → Reached
from k = record { place = k; groups = None ∷ [] }

-- where the longest run ends, or the edge where it touches the end of a text that may go on
abbrev run_way : (ℕ → Bool) → Bool → Reached → List ℕ → Way
run_way test u r [] = if u then edge else ends_at r
run_way test u r (b ∷ rest) = if test b then run_way test u (record r { place = r.place + 1 }) rest else ends_at r

-- a greedy count takes the longest run; `rest` has the bytes from the place on
run-head : (test : ℕ → Bool) (set : List Bool) → HasBytes test set → (text : Text) (rest : List ℕ) (n : ℕ) (r : Reached) →
    ((k : ℕ) → slice_get text.bytes (r.place + k) ≡ slice_get rest k) → length rest < n →
    slice_get (optional false (ways (byte_in set) text) n r) 0 ≡ Some (run_way test text.unfinished r rest)
unfolding ways
run-head test set has text rest zero r same long = absurd (omega arith)
run-head test set has text [] (suc n) r same long =
    ap (λ o. slice_get (onward (optional false (ways (byte_in set) text) n) (byte_ways set text r o) ++ ends_at r ∷ []) 0)
    (ap (slice_get text.bytes) (omega arith) ∙ same 0)
    ∙ by text.unfinished (optional false (ways (byte_in set) text) n)
  where
    by : (u : Bool) (next : Reached → List Way) → slice_get (onward next (if u then edge ∷ [] else []) ++ ends_at r
        ∷ []) 0 ≡ Some (if u then edge else ends_at r)
    by true next = refl
    by false next = refl
run-head test set has text (b ∷ rest) (suc n) r same long =
    ap (λ o. slice_get (onward (optional false (ways (byte_in set) text) n) (byte_ways set text r o) ++ ends_at r ∷ []) 0)
    (ap (slice_get text.bytes) (omega arith) ∙ same 0)
    ∙ by (in_set set b) (optional false (ways (byte_in set) text) n)
    (run-head test set has text rest n (record r { place = r.place + 1 }) (λ k. ap (slice_get text.bytes) (omega arith)
    ∙ same (suc k)) (omega arith))
    ∙ ap (λ t. Some (if t then run_way test text.unfinished (record r { place = r.place + 1 }) rest else ends_at r)) (has b)
  where
    by : (t : Bool) (next : Reached → List Way) → slice_get (next (record r { place = r.place + 1 })) 0 ≡ Some
        (run_way test text.unfinished (record r { place = r.place + 1 }) rest) →
        slice_get (onward next (here t (record r { place = r.place + 1 })) ++ ends_at r ∷ []) 0
        ≡ Some (if t then run_way test text.unfinished (record r { place = r.place + 1 }) rest else ends_at r)
    by true next h =
        let next_head = head-first (next (record r { place = r.place + 1 })) []
        (run_way test text.unfinished (record r { place = r.place + 1 }) rest) h in
        head-first (next (record r { place = r.place + 1 }) ++ []) (ends_at r
        ∷ []) (run_way test text.unfinished (record r { place = r.place + 1 }) rest) next_head
    by false next h = refl

-- a way on whose end group 1 is closed, which began at the first place
abbrev closed : Way → Way
closed edge = edge
closed (ends_at r) = ends_at (record r { groups = slice_set r.groups 0 (Some (0, r.place)) })

close-head : (xs : List Way) (w : Way) → slice_get xs 0 ≡ Some w → slice_get (onward (close_group 1 0) xs) 0 ≡ Some (closed w)
close-head [] w h = absurd (none-ne w h)
close-head (edge ∷ xs) w h = let e : edge ≡ w = cc in ap (λ v. Some (closed v)) e
close-head (ends_at r ∷ xs) w h = let e : ends_at r ≡ w = cc in ap (λ v. Some (closed v)) e

-- what a look comes to where the run goes on over the rest behind k bytes
look-run : (test : ℕ → Bool) (u : Bool) (k : ℕ) (rest : List ℕ) → look_at (Some (closed (run_way test u (from k) rest)))
    ≡ if u && (prefix_len test rest == length rest) then more else match 0 (k + prefix_len test rest) (k + prefix_len test rest)
look-run test true k [] = refl
look-run test false k [] = ap (λ n. match 0 n n) (omega arith)
look-run test u k (b ∷ rest) = by (test b) u (look-run test u (k + 1) rest)
  where
    here-run : (v : Bool) → (if v && false then more else match 0 (k + 0) (k + 0)) ≡ match 0 k k
    here-run true = ap (λ n. match 0 n n) (omega arith)
    here-run false = ap (λ n. match 0 n n) (omega arith)

    by : (t v : Bool) →
        look_at (Some (closed (run_way test v (from (k + 1)) rest)))
        ≡ (if v && (prefix_len test rest == length rest) then more else match 0 (k + 1 + prefix_len test rest)
        (k + 1 + prefix_len test rest)) →
        look_at (Some (closed (if t then run_way test v (from (k + 1)) rest else ends_at (from k))))
        ≡ if v && (cond t (1 + prefix_len test rest) 0 == suc (length rest)) then more
        else match 0 (k + cond t (1 + prefix_len test rest) 0) (k + cond t (1 + prefix_len test rest) 0)
    by true v ih =
        ih ∙ ap (λ n. if v && (prefix_len test rest == length rest) then more else match 0 n n) (omega arith)
        ∙ ap (λ t. if v && t then more else match 0 (k + (1 + prefix_len test rest)) (k + (1 + prefix_len test rest)))
        (sym (lengths (prefix_len test rest) (length rest)))
    by false v ih = sym (ap (λ t. if v && t then more else match 0 (k + 0) (k + 0)) (none-run (length rest)) ∙ here-run v)

-- what a look comes to by the length of the run at the front of a text, and by that of the text
abbrev by_run : ℕ → ℕ → Bool → Look
by_run n len u = if u && (n == len) then more else if n == 0 then no_match else match 0 n n

look-text : (test : ℕ → Bool) (set : List Bool) → HasBytes test set → (before : Option ℕ) (bytes : List ℕ) (u : Bool) →
    look_at (slice_get (ways (run_tree set) (record { before = before; bytes = bytes; unfinished = u }) (from 0)) 0)
    ≡ by_run (prefix_len test bytes) (length bytes) u
unfolding ways
look-text test set has before [] true = refl
look-text test set has before [] false = refl
look-text test set has before (b ∷ bytes) u =
    by (in_set set b) (optional false (ways (byte_in set) (record { before = before; bytes = b ∷ bytes; unfinished = u }))
    (suc (suc (length bytes))))
    (run-head test set has (record { before = before; bytes = b ∷ bytes; unfinished = u }) bytes (suc (suc (length bytes))) (from 1)
    (λ k. ap (slice_get (b ∷ bytes)) (one-more k)) (omega arith))
    ∙ ap (λ t. by_run (cond t (1 + prefix_len test bytes) 0) (suc (length bytes)) u) (has b)
  where
    one-more : (k : ℕ) → 1 + k ≡ suc k
    one-more k = omega arith

    none : (v : Bool) → no_match ≡ (if v && false then more else no_match)
    none true = refl
    none false = refl

    by : (t : Bool) (next : Reached → List Way) → slice_get (next (from 1)) 0 ≡ Some (run_way test u (from 1) bytes) →
        look_at (slice_get (onward (close_group 1 0) (onward next (here t (from 1)))) 0)
        ≡ by_run (cond t (1 + prefix_len test bytes) 0) (suc (length bytes)) u
    by true next h =
        ap look_at (close-head (next (from 1) ++ []) (run_way test u (from 1) bytes)
        (head-first (next (from 1)) [] (run_way test u (from 1) bytes) h))
        ∙ look-run test u 1 bytes
        ∙ ap (λ t. if u && t then more else match 0 (1 + prefix_len test bytes) (1 + prefix_len test bytes))
        (sym (lengths (prefix_len test bytes) (length bytes)))
        ∙ ap (λ t. if u && (1 + prefix_len test bytes == suc (length bytes)) then more else if t then no_match else match 0
        (1 + prefix_len test bytes) (1 + prefix_len test bytes))
        (sym (some-run (prefix_len test bytes)))
    by false next h = none u ∙ ap (λ t. if u && t then more else no_match) (sym (none-run (length bytes)))

-- The same of a text of which an attempt sees the first bytes. An attempt can't tell of a text with
-- no byte yet.
abbrev pub by_sight : ℕ → ℕ → Bool → Look
by_sight n len u = if u && (n == len) && nat_lt n reach then more else if n == 0 then no_match else match 0 n n

look-sight : (test : ℕ → Bool) (set : List Bool) → HasBytes test set → (before : Option ℕ) (bytes : List ℕ) (u : Bool) →
    look_at (slice_get (ways (run_tree set) (sight reach (record { before = before; bytes = bytes; unfinished = u }))
    (from 0)) 0)
    ≡ by_sight (run_length test bytes) (length bytes) u
look-sight test set has before bytes u = by (nat_le reach (length bytes)) refl
  where
    seen : Text → Look
    seen text = look_at (slice_get (ways (run_tree set) text (from 0)) 0)

    run-is : run_length test bytes ≡ prefix_len test (take reach bytes)
    run-is = length-prefix_len test (take reach bytes)

    true-ne : true ≡ false → ⊥
    true-ne e = grind arith

    same : (a b v : Bool) → (a ≡ true → b ≡ false) → (v && a && b) ≡ false
    same true true v f = absurd (true-ne (f refl))
    same true false true f = refl
    same true false false f = refl
    same false b true f = refl
    same false b false f = refl

    far : reach ≤ length bytes → (run_length test bytes == length bytes) ≡ true → nat_lt (run_length test bytes) reach ≡ false
    far h e = grind (arith, nat_tests)

    near : length bytes < reach → nat_lt (run_length test bytes) reach ≡ true
    near h =
        let a = run-is in
        let b = prefix_len-le-length test (take reach bytes) in
        let c = length-take reach bytes in
        let d : run_length test bytes < reach = omega arith in
        grind (arith, nat_tests)

    within : (a v : Bool) → (v && a) ≡ (v && a && true)
    within true true = refl
    within true false = refl
    within false true = refl
    within false false = refl

    by : (full : Bool) → nat_le reach (length bytes) ≡ full →
        seen (if full then record { before = before; bytes = take reach bytes; unfinished = false } else record {
          before = before;
          bytes = bytes;
          unfinished = u;
        })
        ≡ by_sight (run_length test bytes) (length bytes) u
    by true e =
        look-text test set has before (take reach bytes) false
        ∙ ap (λ n. if n == 0 then no_match else match 0 n n) (sym run-is)
        ∙ ap (λ t. if t then more else if run_length test bytes == 0 then no_match else match 0 (run_length test bytes)
        (run_length test bytes))
        (sym (same (run_length test bytes == length bytes) (nat_lt (run_length test bytes) reach) u
        (far (leb-true reach (length bytes) e))))
    by false e =
        let short : length bytes < reach = leb-false reach (length bytes) e in
        look-text test set has before bytes u
        ∙ ap (λ l. by_run (prefix_len test l) (length bytes) u) (sym (take-past reach bytes (omega arith)))
        ∙ ap (λ n. by_run n (length bytes) u) (sym run-is)
        ∙ ap (λ t. if t then more else if run_length test bytes == 0 then no_match else match 0 (run_length test bytes)
        (run_length test bytes))
        (within (run_length test bytes == length bytes) u
        ∙ ap (λ t. u && (run_length test bytes == length bytes) && t) (sym (near short)))

-- the breaks of a pattern with this tree
pub run-look : (test : ℕ → Bool) (set : List Bool) → HasBytes test set → (p : Shape) → tree p.rows ≡ run_tree set → p.groups ≡ 1 →
    (before : Option ℕ) (bytes : List ℕ) (u : Bool) → breaks_by p before bytes u ≡ by_sight (run_length test bytes) (length bytes) u
run-look test set has p tree_is groups_are before bytes u =
    ap (λ piece. look_at (slice_get (ways piece (sight reach (record { before = before; bytes = bytes; unfinished = u }))
    (record { place = 0; groups = replicate p.groups None })) 0)) tree_is
    ∙ ap (λ n. look_at (slice_get (ways (run_tree set) (sight reach (record { before = before; bytes = bytes; unfinished = u }))
    (record { place = 0; groups = replicate n None })) 0)) groups_are
    ∙ look-sight test set has before bytes u

-- the same, as an equation of functions
pub run-breaks : (test : ℕ → Bool) (set : List Bool) → HasBytes test set → (p : Shape) → tree p.rows ≡ run_tree set → p.groups ≡ 1 →
    breaks_by p ≡ (λ before bytes u. by_sight (run_length test bytes) (length bytes) u)
run-breaks test set has p tree_is groups_are =
    fun_ext (λ before. fun_ext (λ bytes. fun_ext (λ u. run-look test set has p tree_is groups_are before bytes u)))

-- ---- the table of the bytes with which a match may begin

-- a table that agrees on all bytes counts the same run
same-run : (f g : ℕ → Bool) → ((b : ℕ) → b < 256 → f b ≡ g b) → (n : ℕ) (bytes : List ℕ) → ((k : ℕ) → get_or bytes k 0 < 256) →
    prefix_len f (take n bytes) ≡ prefix_len g (take n bytes)
same-run f g same zero bytes low = refl
same-run f g same (suc n) [] low = refl
same-run f g same (suc n) (b ∷ bytes) low =
    ap (λ t. cond t (1 + prefix_len f (take n bytes)) 0) (same b (low 0))
    ∙ ap (λ k. cond (g b) (1 + k) 0) (same-run f g same n bytes (λ k. low (suc k)))

begins-run : (p : Shape) (starts : List Bool) (run : IsByteRun p) → AreStarts p starts → (b : ℕ) → b < 256 →
    in_set starts b ≡ in_set run.set b
unfolding may_begin
begins-run p starts run are b h = are b h ∙ ap (λ piece. may_begin piece b) run.tree_is

-- so it tells the breaks
pub counted-look : (p : Shape) (starts : List Bool) → AreStarts p starts → IsByteRun p → (before : Option ℕ) (bytes : List ℕ) (u : Bool) →
    ((k : ℕ) → get_or bytes k 0 < 256) → runs_by (λ b. in_set starts b) None bytes u ≡ breaks_by p before bytes u
counted-look p starts are run before bytes u low =
    let e : run_length (λ b. in_set starts b) bytes ≡ run_length (λ b. in_set run.set b) bytes =
    length-prefix_len (λ b. in_set starts b) (take reach bytes)
    ∙ same-run (λ b. in_set starts b) (λ b. in_set run.set b) (begins-run p starts run are) reach bytes low
    ∙ sym (length-prefix_len (λ b. in_set run.set b) (take reach bytes)) in
    ap (λ n. by_sight n (length bytes) u) e ∙ sym (run-look (λ b. in_set run.set b) run.set (λ b. refl) p run.tree_is run.groups_are before
    bytes u)

-- the code's tests on a run that it has counted
waits-is : (test : ℕ → Bool) (bytes : List ℕ) (u waits b : Bool) (n : ℕ) → n ≡ run_length test bytes →
    waits ≡ (u && (n == length bytes) && nat_lt n reach) → waits ≡ b →
    (u && (run_length test bytes == length bytes) && nat_lt (run_length test bytes) reach) ≡ b
waits-is test bytes u waits b n e w t = ap (λ k. u && (k == length bytes) && nat_lt k reach) (sym e) ∙ sym w ∙ t

pub run-more : (test : ℕ → Bool) (bytes : List ℕ) (u waits : Bool) (n : ℕ) → n ≡ run_length test bytes →
    waits ≡ (u && (n == length bytes) && nat_lt n reach) → waits ≡ true →
    more ≡ runs_by test None bytes u
run-more test bytes u waits n e w t =
    let r : ℕ = run_length test bytes in
    sym (ap (λ c. if c then more else if r == 0 then no_match else match 0 r r) (waits-is test bytes u waits true n e w t))

run-ends : (test : ℕ → Bool) (bytes : List ℕ) (u waits : Bool) (n : ℕ) → n ≡ run_length test bytes →
    waits ≡ (u && (n == length bytes) && nat_lt n reach) → waits ≡ false →
    (if n == 0 then no_match else match 0 n n) ≡ runs_by test None bytes u
run-ends test bytes u waits n e w t =
    let r : ℕ = run_length test bytes in
    ap (λ k. if k == 0 then no_match else match 0 k k) e
    ∙ sym (ap (λ c. if c then more else if r == 0 then no_match else match 0 r r) (waits-is test bytes u waits false n e w t))

is-zero : (n : ℕ) → n ≡ 0 → (n == 0) ≡ true
is-zero n e = grind (arith, nat_tests)

not-zero : (n : ℕ) → ¬ (n ≡ 0) → (n == 0) ≡ false
not-zero n e = grind (arith, nat_tests)

pub run-none : (test : ℕ → Bool) (bytes : List ℕ) (u waits : Bool) (n : ℕ) → n ≡ run_length test bytes →
    waits ≡ (u && (n == length bytes) && nat_lt n reach) → waits ≡ false →
    n ≡ 0 → no_match ≡ runs_by test None bytes u
run-none test bytes u waits n e w t z = sym (ap (λ c. if c then no_match else match 0 n n) (is-zero n z))
    ∙ run-ends test bytes u waits n e w t

pub run-some : (test : ℕ → Bool) (bytes : List ℕ) (u waits : Bool) (n : ℕ) → n ≡ run_length test bytes →
    waits ≡ (u && (n == length bytes) && nat_lt n reach) → waits ≡ false →
    ¬ (n ≡ 0) → match 0 n n ≡ runs_by test None bytes u
run-some test bytes u waits n e w t z = sym (ap (λ c. if c then no_match else match 0 n n) (not-zero n z))
    ∙ run-ends test bytes u waits n e w t
