-- What is carried of any stream, by settings that can be used, has the form of a carry.
use Rattle.std.proofs.Common.{◌≡◌, ℕ, ◌-◌, ◌≤◌, ℤ, Bool, true, false, List, [], ◌∷◌, ◌++◌, length, map, Option, None, refl, sym, ap, subst}
use Rattle.std.proofs.Common.{arith, append_assoc}
use Rattle.std.specs.Prelude.{nat_le, nat_lt, ◌==◌, ◌||◌}
use Rattle.std.specs.List.{AllByRecursion, flat_map}
use Rattle.std.specs.Option.{ForSome}
use Rattle.std.proofs.lemmas.Bool.Decides.{nat_tests}
use Rattle.std.proofs.lemmas.List.{append-nil, length-take}
use Rattle.ix_base.specs.Stream.{Dated, bytes_of}
use Rattle.ix_base.specs.declared.events.Line.{Line}
use Rattle.ix_parse.specs.Form.{HasForm}
use Rattle.ix_lines.specs.Breaks.{breaks_by}
use Rattle.ix_lines.specs.Lines.{cut, step_back, unless_empty, line_of, effective}
use Rattle.ix_lines.specs.Walk.{walk_of}
use Rattle.ix_lines.proofs.Attempts.{breaks-wait}
use Rattle.ix_lines.proofs.CarryLemmas.{dated-runs, few-wait}
use Rattle.ix_model.proofs.Named.{by_test}
use Rattle.ix_match.specs.Attempt.{reach}
use Rattle.ix_match.proofs.StartLemmas.{reach-some}
use Rattle.ix_merge.specs.Carry as merging
use Rattle.ix_merge.specs.Events.{event_of, groups}
use Rattle.ix_merge.specs.Place.{placed}
use Rattle.ix_merge.specs.Sizes as merged
use Rattle.ix_merge.specs.Sizes.{IsSized}
use Rattle.ix_merge.specs.Starts.{MarkedLine, last, starts}
use Rattle.ix_merge.specs.declared.events.Whole.{Whole}
use Rattle.ix_merge.proofs.Adding.{step, both-sized}
use Rattle.ix_merge.proofs.Laws.{groups-keep}
use Rattle.ix_parse.specs.Carry.{rules_of, carry_of, HasMoments}
use Rattle.ix_parse.specs.Marks.{marked}
use Rattle.ix_parse.specs.Settled.{channel_lines}
use Rattle.ix_parse.proofs.FormLemmas.{carry-form, both}
use Rattle.ix_props.specs.Settings.{AreUsable}
use Rattle.ix_props.specs.declared.settings.MergeSettings.{MergeSettings}
use Rattle.ix_props.specs.declared.settings.Settings.{Settings}
use Rattle.ix_props.specs.declared.settings.TimeSettings.{TimeSettings}

-- ---- the lengths of lines

abbrev IsShort : Line → Type 0
IsShort line = length line.bytes ≤ 1048576

most : (truncate : ℕ) → effective truncate ≤ 1048576
most truncate = by_test ((truncate == 0) || nat_lt 1048576 truncate) (λ t. rw t (omega arith)) (λ t. rw t (below (truncate == 0) refl t))
  where
    below : (b : Bool) → (truncate == 0) ≡ b → (b || nat_lt 1048576 truncate) ≡ false → truncate ≤ 1048576
    below true e t = let no : true ≡ false = t in cc
    below false e t = grind (arith, nat_tests)

cut_short : (t : ℕ) (line : List ℕ) → t ≤ 1048576 → length (cut t line) ≤ 1048576
cut_short t line most =
    by_test (nat_le (length line) t)
    (λ e. rw e (let fits : length line ≤ t = grind (arith, nat_tests) in omega (arith, fits, most)))
    (λ e. rw e (let taken = length-take (t - step_back t line) line in omega (arith, taken, most)))

unless_short : (bytes : List ℕ) (moment : ℤ) → length bytes ≤ 1048576 → AllByRecursion IsShort (unless_empty bytes moment)
unless_short [] moment h = tt
unless_short (b ∷ bytes) moment h = (h, tt)

line_short : (t : ℕ) (stretch : List Dated) → t ≤ 1048576 → AllByRecursion IsShort (line_of t stretch)
line_short t [] most = tt
line_short t (d ∷ stretch) most = unless_short (cut t (bytes_of (d ∷ stretch))) d.1 (cut_short t (bytes_of (d ∷ stretch)) most)

lines_short : (t : ℕ) (done : List (List Dated)) → t ≤ 1048576 → AllByRecursion IsShort (flat_map (line_of t) done)
lines_short t [] most = tt
lines_short t (stretch ∷ done) most =
    both IsShort (line_of t stretch) (flat_map (line_of t) done) (line_short t stretch most) (lines_short t done most)

abbrev IsShortMarked : MarkedLine → Type 0
IsShortMarked m = IsShort m.line

marked_short : (merge : MergeSettings) (time : TimeSettings) (lines : List Line) → AllByRecursion IsShort lines →
    AllByRecursion IsShortMarked (marked merge time lines)
marked_short merge time [] h = tt
marked_short merge time (line ∷ lines) h = (h.0, marked_short merge time lines h.1)

-- ---- the size of the open event

abbrev open_event : ℕ → List MarkedLine → Option Whole
open_event max lines = last (map event_of (groups max lines))

sized_behind : (max : ℕ) (before later : List MarkedLine) → 1 ≤ max → AllByRecursion IsShortMarked later →
    ForSome (open_event max before) (λ e. IsSized max e) →
    ForSome (open_event max (before ++ later)) (λ e. IsSized max e)
sized_behind max before [] some short sized = subst (λ l. ForSome (open_event max l) (λ e. IsSized max e)) (sym (append-nil before)) sized
sized_behind max before (m ∷ later) some short sized =
    let begins = starts before m.marks in
    let next : Option Whole × Option Whole = placed max begins (open_event max before) m.line in
    let sizes = both-sized max begins (open_event max before) m.line next.0 next.1 some short.0 sized refl in
    let opened = (step max before m).«open» in
    subst (λ l. ForSome (open_event max l) (λ e. IsSized max e)) (append_assoc before (m ∷ []) later)
    (sized_behind max (before ++ m ∷ []) later some short.1 (subst (λ o. ForSome o (λ e. IsSized max e)) opened sizes.0))

none_sized : (max : ℕ) → ForSome (open_event max []) (λ e. IsSized max e)
none_sized max = λ event is. cc

merge_form : (on : Bool) (max : ℕ) (lines : List MarkedLine) → 1 ≤ max → AllByRecursion IsShortMarked lines →
    merged.HasForm on max (merging.carry_of on max lines)
merge_form false max lines some short = record { sized = λ event is. cc; off = refl }
merge_form true max lines some short = record { sized = sized_behind max [] lines some short (none_sized max); off = tt }

-- ---- all parts

pub form_of : (s : Settings) (stream : List Dated) → AreUsable s → HasMoments stream → HasForm (rules_of s) (carry_of s stream)
form_of s stream usable moments =
    let look = breaks_by s.breaker in
    let t = effective s.truncate in
    let pending = (walk_of look true stream).pending in
    let few = few-wait look reach (breaks-wait s.breaker) reach-some None [] 0 stream in
    let same = ap length (dated-runs pending) in
    let lines = marked s.merge s.time (channel_lines s stream false) in
    carry-form s stream usable moments (groups-keep s.merge.max_lines) (omega (arith, few, same))
    (merge_form s.merge.on s.merge.max_lines lines usable.lines
    (marked_short s.merge s.time (channel_lines s stream false) (lines_short t (walk_of look true stream).done (most s.truncate))))
