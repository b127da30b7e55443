-- Runs that are read one behind the other, as a loop does.
use Rattle.std.proofs.Common.{◌≡◌, ℕ, suc, ◌-◌, ◌+◌, ◌≤◌, ◌<◌, List, [], ◌∷◌, ◌++◌, Option, Some, None, refl, sym, ap, ◌∙◌, append_assoc}
use Rattle.std.proofs.Common.{arith}
use Rattle.std.proofs.lemmas.List.{append-nil}
use Rattle.std.proofs.lemmas.Grind.{flat_map-append}
use Rattle.std.proofs.lemmas.List.Concat.{flat_map-cons}
use Rattle.std.specs.List.{flat_map, AllByRecursion}
use Rattle.ix_base.specs.declared.events.Line.{Line}
use Rattle.ix_coding.specs.Reading.{◌>>=◌}
use Rattle.ix_parse.specs.declared.carry.ResumeFault.{ResumeFault}
use Rattle.ix_parse.specs.declared.carry.ResumeFault.TheVariants as faults
use Rattle.ix_parse.specs.Spelling.{line_bytes}
use Rattle.ix_parse.specs.Form.{IsRun}
use Rattle.ix_parse.specs.Reading.{Fails, run_at, run_list_at}

-- what was read before, and what is still read
abbrev pub with_front : List Line → Option (List Line × List ℕ) → Option (List Line × List ℕ)
with_front front read = read >>= λ x. Some (front ++ x.0, x.1)

regroup : (front : List Line) (x : Line) (read : Option (List Line × List ℕ)) →
    with_front front (read >>= λ y. Some (x ∷ y.0, y.1)) ≡ with_front (front ++ x ∷ []) read
regroup front x (Some y) = ap (λ (l : List Line). Some (l, y.1)) (simp append_assoc)
regroup front x None = refl

pub goes_on : (front : List Line) (count i : ℕ) (bytes : List ℕ) (x : Line) (after : List ℕ) (total : Option (List Line × List ℕ)) →
    i < count → run_at bytes ≡ Some (x, after)
    → with_front front (run_list_at (count - i) bytes) ≡ total → with_front (front ++ x ∷ []) (run_list_at (count - (i + 1)) after) ≡ total
unfolding run_list_at
goes_on front count i bytes x after total lt h so_far =
    let k : count - i ≡ suc (count - (i + 1)) = omega arith in
    let first : with_front front (run_list_at (count - i) bytes) ≡ with_front (front ++ x ∷ []) (run_list_at (count - (i + 1)) after) =
    rw (k, h) (regroup front x (run_list_at (count - (i + 1)) after)) in
    sym first ∙ so_far

pub ends : (e : ResumeFault) (front : List Line) (count i : ℕ) (bytes : List ℕ) (total : Option (List Line × List ℕ)) → i < count →
    Fails e (run_at bytes)
    → with_front front (run_list_at (count - i) bytes) ≡ total → Fails e total
unfolding run_list_at
ends faults.NoMemory front count i bytes total lt h so_far = tt
ends faults.BadCarry front count i bytes total lt h so_far =
    let k : count - i ≡ suc (count - (i + 1)) = omega arith in
    let first : with_front front (run_list_at (count - i) bytes) ≡ None = rw (k, h) refl in
    sym so_far ∙ first

pub is_done : (front : List Line) (count i : ℕ) (bytes : List ℕ) (total : Option (List Line × List ℕ)) → count ≤ i →
    with_front front (run_list_at (count - i) bytes) ≡ total → total ≡ Some (front, bytes)
unfolding run_list_at
is_done front count i bytes total le so_far =
    let k : count - i ≡ 0 = omega arith in
    let first : with_front front (run_list_at (count - i) bytes) ≡ Some (front, bytes) =
    rw k (ap (λ (l : List Line). Some (l, bytes)) (append-nil front)) in
    sym so_far ∙ first

-- one run more
pub push_found : (list : List Line) (x : Line) (bytes rest after : List ℕ) → bytes ≡ flat_map line_bytes list ++ rest → rest ≡ line_bytes x
    ++ after → bytes ≡ flat_map line_bytes (list ++ x ∷ []) ++ after
push_found list x bytes rest after h e =
    let last : flat_map line_bytes (x ∷ []) ≡ line_bytes x = flat_map-cons line_bytes x [] ∙ append-nil (line_bytes x) in
    let more : flat_map line_bytes (list ++ x ∷ []) ≡ flat_map line_bytes list ++ line_bytes x = flat_map-append line_bytes list (x ∷ [])
    ∙ ap (λ (l : List ℕ). flat_map line_bytes list ++ l) last in
    h ∙ ap (λ (l : List ℕ). flat_map line_bytes list ++ l) e ∙ sym (append_assoc (flat_map line_bytes list) (line_bytes x) after)
    ∙ sym (ap (λ (l : List ℕ). l ++ after) more)

pub all_push : (list : List Line) (x : Line) → AllByRecursion IsRun list → IsRun x → AllByRecursion IsRun (list ++ x ∷ [])
all_push [] x all p = (p, tt)
all_push (y ∷ list) x all p = (all.0, all_push list x all.1 p)
