-- The lines of a channel.
use Rattle.std.proofs.Common.{◌≡◌, ℕ, ◌<◌, List, [], ◌++◌, length, sym, ◌∙◌, ap, subst}
use Rattle.ix_base.specs.Stream.{Dated}
use Rattle.ix_base.specs.declared.events.Line.{Line}
use Rattle.ix_lines.specs.Walk.{BreakFinder}
use Rattle.ix_lines.specs.Carry.{carry_of, dated_of}
use Rattle.ix_lines.specs.Breaks.{breaks_by}
use Rattle.ix_lines.specs.Lines as lines
use Rattle.ix_lines.specs.declared.carry.LineParts.{LineParts}
use Rattle.ix_match.specs.Attempt.{reach}
use Rattle.ix_pattern.specs.Rows.{Shape}
use Rattle.ix_lines.specs.Parts.{Parts, StandsFor, Held, Holds, Adds, Ends}

-- lines that hold a stream stand for it, by whatever names their breaks and their length have
pub stands : (look : BreakFinder) (t : ℕ) (stream : List Dated) (h : Held) → breaks_by h.breaker ≡ look → h.parts.truncate ≡ t →
    Holds stream h → StandsFor look t stream h.parts
stands look t stream h breaks cut holds =
    subst (λ (n : ℕ). StandsFor look n stream h.parts) cut
    (subst (λ (l : BreakFinder). StandsFor l h.parts.truncate stream h.parts) breaks holds)

-- and so do copies of them
holds : (look : BreakFinder) (t : ℕ) (stream : List Dated) (old copy : Held) → breaks_by old.breaker ≡ look →
    StandsFor look t stream old.parts → copy ≡ old →
    (breaks_by copy.breaker ≡ look) × (copy.parts.truncate ≡ t) × Holds stream copy
holds look t stream old copy breaks is same =
    let breaks' : breaks_by copy.breaker ≡ look = ap (λ (h : Held). breaks_by h.breaker) same ∙ breaks in
    let is' : StandsFor look t stream copy.parts = ap (λ (h : Held). h.parts) same ∙ is in
    let cut : copy.parts.truncate ≡ t = ap (λ (p : Parts). p.truncate) is' in (
      breaks',
      cut,
      subst (λ (l : BreakFinder). StandsFor l copy.parts.truncate stream copy.parts) (sym breaks')
          (subst (λ (n : ℕ). StandsFor look n stream copy.parts) (sym cut) is'),
    )

-- a copy of lines that stand for a stream, and then later bytes
pub fed-lines : (look : BreakFinder) (t : ℕ) (stream later : List Dated) (old copy new : Held) (none out : List Line) →
    breaks_by old.breaker ≡ look → StandsFor look t stream old.parts → copy ≡ old → none ≡ [] →
    new.breaker ≡ copy.breaker → new.parts.truncate ≡ copy.parts.truncate →
    ((s : List Dated) → Holds s copy → Holds (s ++ later) new × Adds (breaks_by copy.breaker) copy.parts.truncate s later none out) →
    (breaks_by new.breaker ≡ look) × StandsFor look t (stream ++ later) new.parts
    × (lines.settled look t (stream ++ later) ≡ lines.settled look t stream ++ out)
fed-lines look t stream later old copy new none out breaks is same empty breaker cut feeds =
    let h = holds look t stream old copy breaks is same in
    let f = feeds stream h.2 in
    let breaks' : breaks_by new.breaker ≡ look = ap breaks_by breaker ∙ h.0 in
    let r : Adds look t stream later none out =
    subst (λ (n : ℕ). Adds look n stream later none out) h.1
    (subst (λ (l : BreakFinder). Adds l copy.parts.truncate stream later none out) h.0 f.1) in (
      breaks',
      stands look t (stream ++ later) new breaks' (cut ∙ h.1) f.0,
      r.settles ∙ ap (λ (l : List Line). lines.settled look t stream ++ l) (sym (r.written ∙ ap (λ (l : List Line). l ++ r.added) empty)),
    )

-- a copy of lines that stand for a stream, and then its end
pub ended-lines : (look : BreakFinder) (t : ℕ) (stream : List Dated) (old copy : Held) (none out : List Line) →
    breaks_by old.breaker ≡ look → StandsFor look t stream old.parts → copy ≡ old → none ≡ [] →
    ((s : List Dated) → Holds s copy → Ends (breaks_by copy.breaker) copy.parts.truncate s none out) →
    lines.all_lines look t stream ≡ lines.settled look t stream ++ out
ended-lines look t stream old copy none out breaks is same empty ends =
    let h = holds look t stream old copy breaks is same in
    let r : Ends look t stream none out =
    subst (λ (n : ℕ). Ends look n stream none out) h.1
    (subst (λ (l : BreakFinder). Ends l copy.parts.truncate stream none out) h.0 (ends stream h.2)) in
    r.settles ∙ ap (λ (l : List Line). lines.settled look t stream ++ l) (sym (r.written ∙ ap (λ (l : List Line). l ++ r.added) empty))

-- what is carried of a copy of lines that stand for a stream
pub carried-lines : (look : BreakFinder) (t : ℕ) (stream : List Dated) (old copy : Held) (parts : LineParts) →
    breaks_by old.breaker ≡ look → StandsFor look t stream old.parts → copy ≡ old →
    ((s : List Dated) → Holds s copy → parts ≡ carry_of (breaks_by copy.breaker) copy.parts.truncate s) →
    ((s : List Dated) → Holds s copy → length (dated_of parts.pending) < reach) →
    (parts ≡ carry_of look t stream) × (length (dated_of (carry_of look t stream).pending) < reach)
carried-lines look t stream old copy parts breaks is same carries few =
    let h = holds look t stream old copy breaks is same in
    let e : parts ≡ carry_of look t stream =
    subst (λ (n : ℕ). parts ≡ carry_of look n stream) h.1
    (subst (λ (l : BreakFinder). parts ≡ carry_of l copy.parts.truncate stream) h.0 (carries stream h.2)) in (
      e,
      subst (λ (p : LineParts). length (dated_of p.pending) < reach) e (few stream h.2),
    )

-- lines that go on from parts stand for each stream of which these are the parts
pub resumed-lines : (look : BreakFinder) (t : ℕ) (stream : List Dated) (breaker : Shape) (new : Held) (parts : LineParts) →
    breaks_by breaker ≡ look → new.breaker ≡ breaker → new.parts.truncate ≡ t → parts ≡ carry_of look t stream →
    ((s : List Dated) → parts ≡ carry_of (breaks_by breaker) t s → Holds s new) →
    (breaks_by new.breaker ≡ look) × StandsFor look t stream new.parts
resumed-lines look t stream breaker new parts breaks same cut is goes-on =
    let breaks' : breaks_by new.breaker ≡ look = ap breaks_by same ∙ breaks in (
      breaks',
      stands look t stream new breaks' cut (goes-on stream (subst (λ (l : BreakFinder). parts ≡ carry_of l t stream) (sym breaks) is)),
    )
