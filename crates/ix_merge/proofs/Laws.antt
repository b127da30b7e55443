-- What further lines leave as it was.
use Rattle.std.proofs.Common.{◌≡◌, ℕ, Bool, true, false, if◌then◌else◌, List, [], ◌∷◌, ◌++◌, map, Option, refl, sym, ◌∙◌, ap, append_assoc}
use Rattle.std.proofs.Common.{option_to_list}
use Rattle.std.specs.List.{flat_map}
use Rattle.std.proofs.lemmas.List.{append-nil, map-append}
use Rattle.std.proofs.lemmas.Grind.{flat_map-append}
use Rattle.ix_base.specs.declared.events.Line.{Line}
use Rattle.ix_merge.specs.Starts.{MarkedLine, starts}
use Rattle.ix_merge.specs.Events.{event_of, has_room, runs_from, runs, pieces_from, pieces, groups, settled, all_events, single_lines}
use Rattle.ix_merge.specs.Carry.{carry_of}
use Rattle.ix_merge.specs.Laws.{EventsStay, KeepsLines, AddSame, CarryDecides}
use Rattle.ix_merge.specs.declared.events.Whole.{Whole}
use Rattle.ix_merge.specs.Place.{starts_by, placed}
use Rattle.ix_merge.specs.declared.carry.MergeParts.{MergeParts}
use Rattle.ix_merge.proofs.Adding.{step, taken, closes}

-- with merging on, each line more settles no event, or one
settles-more : (max : ℕ) (lines later : List MarkedLine) → (added : List Whole)
    × (settled true max (lines ++ later) ≡ settled true max lines ++ added)
settles-more max lines [] = ([], ap (settled true max) (append-nil lines) ∙ sym (append-nil (settled true max lines)))
settles-more max lines (m ∷ later) =
    let s = step max lines m in
    let more = settles-more max (lines ++ m ∷ []) later in (
      option_to_list _ ++ more.0,
      ap (settled true max) (sym (append_assoc lines (m ∷ []) later)) ∙ more.1 ∙ ap (λ l. l ++ more.0) s.settles
          ∙ append_assoc (settled true max lines) (option_to_list _) more.0,
    )

pub events-stay : (on : Bool) (max : ℕ) → EventsStay on max
events-stay true max lines later =
    let more = settles-more max lines later in (
      more,
      (
        more.0 ++ option_to_list (carry_of true max (lines ++ later)).event,
        closes true max (lines ++ later) (carry_of true max (lines ++ later)) refl
            ∙ ap (λ l. l ++ option_to_list (carry_of true max (lines ++ later)).event) more.1
            ∙ append_assoc (settled true max lines) more.0 (option_to_list (carry_of true max (lines ++ later)).event),
      ),
    )
events-stay false max lines later =
    let more = map-append (λ (m : MarkedLine). event_of (m.line ∷ [])) lines later in
    ((map (λ m. event_of (m.line ∷ [])) later, more), (map (λ m. event_of (m.line ∷ [])) later, more))

-- ---- what is carried decides what further lines come to

-- further lines settle the same behind two lists, and leave the same to be carried
record Alike (on : Bool) (max : ℕ) (lines others later : List MarkedLine) : Type 0 where
  settles : AddSame (settled on max lines) (settled on max (lines ++ later)) (settled on max others) (settled on max (others ++ later))
  carries : carry_of on max (lines ++ later) ≡ carry_of on max (others ++ later)

longer : (max : ℕ) (lines : List MarkedLine) (m : MarkedLine) (later : List MarkedLine) (first more : List Whole) →
    settled true max (lines ++ m ∷ []) ≡ settled true max lines ++ first →
    settled true max ((lines ++ m ∷ []) ++ later) ≡ settled true max (lines ++ m ∷ []) ++ more →
    settled true max (lines ++ m ∷ later) ≡ settled true max lines ++ (first ++ more)
longer max lines m later first more p q =
    ap (settled true max) (sym (append_assoc lines (m ∷ []) later)) ∙ q ∙ ap (λ l. l ++ more) p
    ∙ append_assoc (settled true max lines) first more

alike : (max : ℕ) (lines others later : List MarkedLine) → carry_of true max lines ≡ carry_of true max others →
    Alike true max lines others later
alike max lines others [] e = record {
  settles = record {
    added = [];
    to_first = ap (settled true max) (append-nil lines) ∙ sym (append-nil (settled true max lines));
    to_second = ap (settled true max) (append-nil others) ∙ sym (append-nil (settled true max others));
  };
  carries = ap (carry_of true max) (append-nil lines) ∙ e ∙ sym (ap (carry_of true max) (append-nil others));
}
alike max lines others (m ∷ later) e =
    let parts : MergeParts = carry_of true max lines in
    let p : Option Whole × Option Whole = placed max (starts_by parts m.marks) parts.event m.line in
    let t = taken max lines m parts p.0 p.1 refl refl in
    let u = taken max others m parts p.0 p.1 e refl in
    let more = alike max (lines ++ m ∷ []) (others ++ m ∷ []) later (sym t.carried ∙ u.carried) in
    record {
      settles = record {
        added = option_to_list p.1 ++ more.settles.added;
        to_first = longer max lines m later (option_to_list p.1) more.settles.added t.settles more.settles.to_first;
        to_second = longer max others m later (option_to_list p.1) more.settles.added u.settles more.settles.to_second;
      };
      carries = ap (carry_of true max) (sym (append_assoc lines (m ∷ []) later)) ∙ more.carries
          ∙ ap (carry_of true max) (append_assoc others (m ∷ []) later);
    }

alike-any : (on : Bool) (max : ℕ) (lines others later : List MarkedLine) → carry_of on max lines ≡ carry_of on max others →
    Alike on max lines others later
alike-any true max lines others later e = alike max lines others later e
alike-any false max lines others later e = record {
  settles = record {
    added = single_lines later;
    to_first = map-append (λ (m : MarkedLine). event_of (m.line ∷ [])) lines later;
    to_second = map-append (λ (m : MarkedLine). event_of (m.line ∷ [])) others later;
  };
  carries = refl;
}

-- the open event is the last one of a closed list
ended : (on : Bool) (max : ℕ) (lines later : List MarkedLine) (parts : MergeParts) (added : List Whole) →
    parts ≡ carry_of on max (lines ++ later) →
    settled on max (lines ++ later) ≡ settled on max lines ++ added →
    all_events on max (lines ++ later) ≡ settled on max lines ++ (added ++ option_to_list parts.event)
ended on max lines later parts added is e =
    closes on max (lines ++ later) parts is ∙ ap (λ l. l ++ option_to_list parts.event) e
    ∙ append_assoc (settled on max lines) added (option_to_list parts.event)

pub carry-decides : (on : Bool) (max : ℕ) → CarryDecides on max
carry-decides on max lines others later e =
    let a = alike-any on max lines others later e in
    let parts : MergeParts = carry_of on max (lines ++ later) in
    record {
      settles = a.settles;
      ends = record {
        added = a.settles.added ++ option_to_list parts.event;
        to_first = ended on max lines later parts a.settles.added refl a.settles.to_first;
        to_second = ended on max others later parts a.settles.added a.carries a.settles.to_second;
      };
      carries = a.carries;
    }

-- ---- each line is in one group
abbrev whole_list : List (List Line) → List Line
whole_list groups = flat_map (λ group. group) groups

pieces-keep : (max : ℕ) (piece lines : List Line) → whole_list (pieces_from max piece lines) ≡ piece ++ lines
pieces-keep max piece [] = refl
pieces-keep max piece (line ∷ lines) =
    elim (has_room max piece line) as (λ b. whole_list (if b then pieces_from max (piece ++ line ∷ []) lines else piece
    ∷ pieces_from max (line ∷ []) lines) ≡ piece ++ line ∷ lines) [
      | true ↦ pieces-keep max (piece ++ line ∷ []) lines ∙ append_assoc piece (line ∷ []) lines
      | false ↦ ap (λ l. piece ++ l) (pieces-keep max (line ∷ []) lines)
    ]

pieces-all : (max : ℕ) (run : List Line) → whole_list (pieces max run) ≡ run
pieces-all max [] = refl
pieces-all max (line ∷ lines) = pieces-keep max (line ∷ []) lines

cuts-keep : (max : ℕ) (rs : List (List Line)) → whole_list (flat_map (pieces max) rs) ≡ whole_list rs
cuts-keep max [] = refl
cuts-keep max (run ∷ rs) =
    flat_map-append (λ (group : List Line). group) (pieces max run) (flat_map (pieces max) rs)
    ∙ ap (λ l. l ++ whole_list (flat_map (pieces max) rs)) (pieces-all max run) ∙ ap (λ l. run ++ l) (cuts-keep max rs)

runs-keep : (earlier : List MarkedLine) (run : List Line) (later : List MarkedLine) → whole_list (runs_from earlier run later) ≡ run
    ++ map (λ m. m.line) later
runs-keep earlier run [] = refl
runs-keep earlier run (m ∷ later) =
    elim (starts earlier m.marks) as (λ b.
    whole_list (if b then run ∷ runs_from (earlier ++ m ∷ []) (m.line ∷ []) later else runs_from (earlier ++ m ∷ []) (run ++ m.line
    ∷ []) later)
    ≡ run ++ m.line ∷ map (λ m. m.line) later) [
      | true ↦ ap (λ l. run ++ l) (runs-keep (earlier ++ m ∷ []) (m.line ∷ []) later)
      | false ↦ runs-keep (earlier ++ m ∷ []) (run ++ m.line ∷ []) later ∙ append_assoc run (m.line ∷ []) (map (λ m. m.line) later)
    ]

pub groups-keep : (max : ℕ) → KeepsLines max
groups-keep max [] = refl
groups-keep max (m ∷ later) = cuts-keep max (runs (m ∷ later)) ∙ runs-keep (m ∷ []) (m.line ∷ []) later
