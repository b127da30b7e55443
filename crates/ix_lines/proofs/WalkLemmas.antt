-- A walk goes on from where it stopped.
use Rattle.std.proofs.Common.{◌≡◌, ℕ, zero, suc, ◌-◌, ◌≤◌, Bool, true, false, List, [], ◌∷◌, ◌++◌, length, take, drop, Option, Some, None}
use Rattle.std.proofs.Common.{refl, sym, ◌∙◌, ap, arith, append_assoc}
use Rattle.std.specs.List.{flat_map}
use Rattle.std.proofs.lemmas.List.{map-append, length-map, take-append-le, drop-append-le, length-drop}
use Rattle.std.proofs.lemmas.Grind.{flat_map-append}
use Rattle.ix_base.specs.Stream.{Dated, bytes_of}
use Rattle.ix_lines.specs.Walk.{Look, match, no_match, more, BreakFinder, Walked, preceded, after, walk, walk_of}
use Rattle.ix_lines.specs.Lines.{line_of, settled, all_lines}
use Rattle.ix_lines.specs.Laws.{IsStable, LinesStay}
use Rattle.ix_base.specs.declared.events.Line.{Line}

pub bytes_of-append : (xs ys : List Dated) → bytes_of (xs ++ ys) ≡ bytes_of xs ++ bytes_of ys
bytes_of-append xs ys = map-append (λ (d : Dated). d.0) xs ys

pub length-bytes_of : (xs : List Dated) → length (bytes_of xs) ≡ length xs
length-bytes_of xs = length-map {B = ℕ} xs (λ d. d.0)

pub preceded-preceded : (xs ys : List (List Dated)) (w : Walked) → preceded xs (preceded ys w) ≡ preceded (xs ++ ys) w
preceded-preceded xs ys w = λ i. record { done = sym (append_assoc xs ys w.done) i; rest = w.rest; before = w.before; pending = w.pending }

-- the walk from where this one stopped
abbrev pub on_from : BreakFinder → Bool → Walked → List Dated → Walked
on_from look u w later = preceded w.done (walk look u w.before w.rest 0 (w.pending ++ later))

pub walk-append : (look : BreakFinder) → IsStable look →
    (u : Bool) (before : Option ℕ) (rest : List Dated) (within : ℕ) (stream later : List Dated) →
    within ≤ length stream → walk look u before rest within (stream
    ++ later) ≡ on_from look u (walk look true before rest within stream) later
walk-append look stable u before rest zero [] later h = refl
walk-append look stable u before rest (suc n) [] later h = absurd (omega arith)
walk-append look stable u before rest (suc n) (d ∷ stream) later h = walk-append look stable u (Some d.0) rest n stream later (omega arith)
walk-append look stable u before rest zero (d ∷ stream) later h =
    by (look before (bytes_of (d ∷ stream)) true) refl
    (λ since within le. walk-append look stable u (Some d.0) since within stream later le)
  where
    next : List Dated → ℕ → Walked
    next since within = walk look u (Some d.0) since within (stream ++ later)

    open_next : List Dated → ℕ → Walked
    open_next since within = walk look true (Some d.0) since within stream

    by : (l : Look) → look before (bytes_of (d ∷ stream)) true ≡ l →
        ((since : List Dated) (within : ℕ) → within ≤ length stream →
        walk look u (Some d.0) since within (stream ++ later) ≡ on_from look u (walk look true (Some d.0) since within stream) later) →
        after before rest (d ∷ (stream ++ later)) (λ since within. walk look u (Some d.0) since within (stream ++ later))
        (look before (bytes_of (d ∷ (stream ++ later))) u)
        ≡ on_from look u (after before rest (d ∷ stream) (λ since within. walk look true (Some d.0) since within stream) l) later
    by more e ih = refl
    by no_match e ih =
        let now : look before (bytes_of (d ∷ (stream ++ later))) u ≡ no_match =
        ap (λ bs. look before (d.0 ∷ bs) u) (bytes_of-append stream later)
        ∙ stable.none_stays before (bytes_of (d ∷ stream)) (bytes_of later) u (omega arith) e in
        rw now (ih (rest ++ d ∷ []) 0 (omega arith))
    by (match from to n) e ih =
        let now : look before (bytes_of (d ∷ (stream ++ later))) u ≡ match from to n =
        ap (λ bs. look before (d.0 ∷ bs) u) (bytes_of-append stream later)
        ∙ stable.match_stays before (bytes_of (d ∷ stream)) (bytes_of later) u from to n e in
        let sized = stable.sized before (bytes_of (d ∷ stream)) true from to n e in
        let len : length (bytes_of stream) ≡ length stream = length-bytes_of stream in
        let a : from ≤ length (d ∷ stream) = omega (arith, sized.0, sized.1, sized.3, len) in
        let b : to ≤ length (d ∷ stream) = omega (arith, sized.1, sized.3, len) in
        let c : n - to ≤ length (drop to (d ∷ stream)) = omega (arith, sized.1, sized.3, len, length-drop to (d ∷ stream)) in
        let le : n - 1 ≤ length stream = omega (arith, sized.2, sized.3, len) in
        let since : List Dated = take (n - to) (drop to (d ∷ stream)) in
        rw now (
        ap (λ l. preceded ((rest ++ l) ∷ []) (walk look u (Some d.0) (take (n - to) (drop to (d ∷ (stream ++ later)))) (n - 1) (stream
        ++ later)))
        (take-append-le from (d ∷ stream) later a)
        ∙ ap (λ s. preceded ((rest ++ take from (d ∷ stream)) ∷ []) (walk look u (Some d.0) s (n - 1) (stream ++ later)))
        (ap (take (n - to)) (drop-append-le to (d ∷ stream) later b) ∙ take-append-le (n - to) (drop to (d ∷ stream)) later c)
        ∙ ap (preceded ((rest ++ take from (d ∷ stream)) ∷ [])) (ih since (n - 1) le)
        ∙ preceded-preceded ((rest ++ take from (d ∷ stream)) ∷ []) (walk look true (Some d.0) since (n - 1) stream).done
        (walk look u (walk look true (Some d.0) since (n - 1) stream).before (walk look true (Some d.0) since (n - 1) stream).rest 0
        ((walk look true (Some d.0) since (n - 1) stream).pending ++ later)))

pub walk_of-append : (look : BreakFinder) → IsStable look → (u : Bool) (stream later : List Dated) →
    walk_of look u (stream ++ later) ≡ on_from look u (walk_of look true stream) later
walk_of-append look stable u stream later = walk-append look stable u None [] 0 stream later (omega arith)

-- the lines that further bytes settle
pub lines-on : (look : BreakFinder) → IsStable look → (t : ℕ) (stream later : List Dated) →
    let w = walk_of look true stream in
    settled look t (stream ++ later) ≡ settled look t stream
    ++ flat_map (line_of t) (walk look true w.before w.rest 0 (w.pending ++ later)).done
lines-on look stable t stream later =
    let w : Walked = walk_of look true stream in
    let v : Walked = walk look true w.before w.rest 0 (w.pending ++ later) in
    ap (λ x. flat_map (line_of t) x.done) (walk_of-append look stable true stream later) ∙ flat_map-append (line_of t) w.done v.done

-- those of a stream that ends with them, of which the last rest is a line too
abbrev pub last_lines : ℕ → Walked → List Line
last_lines t w = flat_map (line_of t) w.done ++ line_of t (w.rest ++ w.pending)

pub lines-end : (look : BreakFinder) → IsStable look → (t : ℕ) (stream later : List Dated) →
    let w = walk_of look true stream in
    all_lines look t (stream ++ later) ≡ settled look t stream ++ last_lines t (walk look false w.before w.rest 0 (w.pending ++ later))
lines-end look stable t stream later =
    let w : Walked = walk_of look true stream in
    let v : Walked = walk look false w.before w.rest 0 (w.pending ++ later) in
    ap (last_lines t) (walk_of-append look stable false stream later)
    ∙ ap (λ l. l ++ line_of t (v.rest ++ v.pending)) (flat_map-append (line_of t) w.done v.done)
    ∙ append_assoc (flat_map (line_of t) w.done) (flat_map (line_of t) v.done) (line_of t (v.rest ++ v.pending))

-- the lines of an open stream are the first of each continuation's
pub lines-stay : (look : BreakFinder) → IsStable look → LinesStay look
lines-stay look stable t stream later = ((_, lines-on look stable t stream later), (_, lines-end look stable t stream later))
