-- What is carried of a stream decides what further bytes come to.
use Rattle.std.proofs.Common.{◌≡◌, ℕ, zero, suc, ◌+◌, ◌-◌, Bool, true, false, List, [], ◌∷◌, ◌++◌, length, take, drop, Option, Some, None}
use Rattle.std.proofs.Common.{refl, sym, ◌∙◌, ap, subst}
use Rattle.std.specs.List.{flat_map}
use Rattle.ix_base.specs.Stream.{Dated, bytes_of}
use Rattle.ix_lines.specs.Walk.{Look, match, no_match, more, BreakFinder, Walked, after, walk, walk_of}
use Rattle.ix_lines.specs.Lines.{cut, unless_empty, line_of}
use Rattle.ix_lines.specs.Carry.{runs_of, open_line, carry_of, dated_of}
use Rattle.ix_lines.specs.Laws.{IsStable, CarryDecides}
use Rattle.ix_lines.specs.declared.carry.LineParts.{LineParts}
use Rattle.ix_base.specs.declared.events.Line.{Line}
use Rattle.ix_lines.proofs.ListLemmas.{take-joined}
use Rattle.ix_lines.proofs.WalkLemmas.{bytes_of-append, walk_of-append, lines-on, last_lines, lines-end}
use Rattle.ix_lines.proofs.KeptLemmas.{cut-take}
use Rattle.ix_lines.proofs.CarryLemmas.{dated-runs}

-- an open line that goes on
abbrev open_on : ℕ → Option Line → List Dated → Option Line
open_on t None stretch = open_line t stretch
open_on t (Some line) stretch =
    Some (record { bytes = line.bytes ++ take (t + 1 - length line.bytes) (bytes_of stretch); moment = line.moment })

open-more : (t : ℕ) (rest stretch : List Dated) → open_line t (rest ++ stretch) ≡ open_on t (open_line t rest) stretch
open-more t [] stretch = refl
open-more t (d ∷ rest) stretch =
    ap (λ (bs : List ℕ). Some (record { bytes = bs; moment = d.1 }))
    (ap (take (t + 1)) (bytes_of-append (d ∷ rest) stretch) ∙ sym (take-joined (t + 1) (bytes_of (d ∷ rest)) (bytes_of stretch)))

same-open : (t : ℕ) (rest other stretch : List Dated) → open_line t rest ≡ open_line t other →
    open_line t (rest ++ stretch) ≡ open_line t (other ++ stretch)
same-open t rest other stretch e = open-more t rest stretch ∙ ap (λ o. open_on t o stretch) e ∙ sym (open-more t other stretch)

-- the line that an open one ends as
abbrev ended : ℕ → Option Line → List Line
ended t None = []
ended t (Some line) = unless_empty (cut t line.bytes) line.moment

open-ended : (t : ℕ) (rest : List Dated) → line_of t rest ≡ ended t (open_line t rest)
open-ended t [] = refl
open-ended t (d ∷ rest) = ap (λ bs. unless_empty bs d.1) (sym (cut-take t (bytes_of (d ∷ rest))))

same-line : (t : ℕ) (rest other stretch : List Dated) → open_line t rest ≡ open_line t other →
    line_of t (rest ++ stretch) ≡ line_of t (other ++ stretch)
same-line t rest other stretch e =
    open-ended t (rest ++ stretch) ∙ ap (ended t) (same-open t rest other stretch e) ∙ sym (open-ended t (other ++ stretch))

-- two walks with the same lines, of which the same is carried
record WalkAlike (t : ℕ) (w v : Walked) : Type 0 where
  lines : flat_map (line_of t) w.done ≡ flat_map (line_of t) v.done
  rests : open_line t w.rest ≡ open_line t v.rest
  befores : w.before ≡ v.before
  pendings : w.pending ≡ v.pending

walk-alike : (look : BreakFinder) (t : ℕ) (u : Bool) (before : Option ℕ) (rest other : List Dated) (within : ℕ) (stream : List Dated) →
    open_line t rest ≡ open_line t other → WalkAlike t (walk look u before rest within stream) (walk look u before other within stream)
walk-alike look t u before rest other within [] e = record { lines = refl; rests = e; befores = refl; pendings = refl }
walk-alike look t u before rest other (suc n) (d ∷ stream) e = walk-alike look t u (Some d.0) rest other n stream e
walk-alike look t u before rest other zero (d ∷ stream) e =
    by (look before (bytes_of (d ∷ stream)) u) (λ first second same. walk-alike look t u (Some d.0) first second 0 stream same)
  where
    next : List Dated → ℕ → Walked
    next since within = walk look u (Some d.0) since within stream

    by : (l : Look) →
        ((first second : List Dated) → open_line t first ≡ open_line t second →
        WalkAlike t (walk look u (Some d.0) first 0 stream) (walk look u (Some d.0) second 0 stream)) →
        WalkAlike t (after before rest (d ∷ stream) (λ since within. walk look u (Some d.0) since within stream) l)
        (after before other (d ∷ stream) (λ since within. walk look u (Some d.0) since within stream) l)
    by more ih = record { lines = refl; rests = e; befores = refl; pendings = refl }
    by no_match ih = ih (rest ++ d ∷ []) (other ++ d ∷ []) (same-open t rest other (d ∷ []) e)
    by (match from to n) ih =
        let last : Walked = walk look u (Some d.0) (take (n - to) (drop to (d ∷ stream))) (n - 1) stream in
        record {
          lines = ap (λ l. l ++ flat_map (line_of t) last.done) (same-line t rest other (take from (d ∷ stream)) e);
          rests = refl;
          befores = refl;
          pendings = refl;
        }

-- the walk over further bytes, from where the walk over these stopped
abbrev on : BreakFinder → Bool → List Dated → List Dated → Walked
on look u stream later = let w = walk_of look true stream in walk look u w.before w.rest 0 (w.pending ++ later)

on-alike : (look : BreakFinder) (t : ℕ) (u : Bool) (stream other later : List Dated) → carry_of look t stream ≡ carry_of look t other →
    WalkAlike t (on look u stream later) (on look u other later)
on-alike look t u stream other later e =
    let w : Walked = walk_of look true stream in
    let v : Walked = walk_of look true other in
    let before : w.before ≡ v.before = ap (λ (p : LineParts). p.before) e in
    let pending : w.pending ≡ v.pending = sym (dated-runs w.pending) ∙ ap (λ (p : LineParts). dated_of p.pending) e
    ∙ dated-runs v.pending in
    subst (λ (x : Walked). WalkAlike t (on look u stream later) x)
    (ap (λ b. walk look u b v.rest 0 (w.pending ++ later)) before ∙ ap (λ l. walk look u v.before v.rest 0 (l ++ later)) pending)
    (walk-alike look t u w.before w.rest v.rest 0 (w.pending ++ later) (ap (λ (p : LineParts). p.line) e))

-- what is carried where a walk stopped
abbrev carried : ℕ → Walked → LineParts
carried t w = record { before = w.before; pending = runs_of w.pending; line = open_line t w.rest }

carried-on : (look : BreakFinder) → IsStable look → (t : ℕ) (stream later : List Dated) →
    carry_of look t (stream ++ later) ≡ carried t (on look true stream later)
carried-on look stable t stream later = ap (carried t) (walk_of-append look stable true stream later)

carried-alike : (t : ℕ) (w v : Walked) → WalkAlike t w v → carried t w ≡ carried t v
carried-alike t w v a = λ i. record { before = a.befores i; pending = runs_of (a.pendings i); line = a.rests i }

last-alike : (t : ℕ) (w v : Walked) → WalkAlike t w v → last_lines t w ≡ last_lines t v
last-alike t w v a =
    ap (λ l. l ++ line_of t (w.rest ++ w.pending)) a.lines
    ∙ ap (λ l. flat_map (line_of t) v.done ++ l) (same-line t w.rest v.rest w.pending a.rests)
    ∙ ap (λ l. flat_map (line_of t) v.done ++ line_of t (v.rest ++ l)) a.pendings

pub carry-decides : (look : BreakFinder) → IsStable look → CarryDecides look
carry-decides look stable t stream other later e =
    let more = on-alike look t true stream other later e in
    let end = on-alike look t false stream other later e in
    record {
      settles = record {
        added = flat_map (line_of t) (on look true stream later).done;
        to_first = lines-on look stable t stream later;
        to_second = lines-on look stable t other later ∙ ap (λ l. flat_map (line_of t) (walk_of look true other).done
            ++ l) (sym more.lines);
      };
      ends = record {
        added = last_lines t (on look false stream later);
        to_first = lines-end look stable t stream later;
        to_second = lines-end look stable t other later
            ∙ ap (λ l. flat_map (line_of t) (walk_of look true other).done
            ++ l) (sym (last-alike t (on look false stream later) (on look false other later) end));
      };
      carries = carried-on look stable t stream later ∙ carried-alike t (on look true stream later) (on look true other later) more
          ∙ sym (carried-on look stable t other later);
    }
