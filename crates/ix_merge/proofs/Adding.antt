-- What one line more makes of the events and of what is carried.
use Rattle.std.proofs.Common.{◌≡◌, ℕ, ◌+◌, ◌≤◌, Bool, true, false, not, ◌&&◌, ◌||◌, if◌then◌else◌, nat_lt, nat_le, List, [], ◌∷◌, ◌++◌}
use Rattle.std.proofs.Common.{length, map, Option, Some, None, refl, sym, subst, ◌∙◌, ap, arith, rules, length-append, append_assoc}
use Rattle.std.proofs.Common.{option_to_list}
use Rattle.std.specs.List.{join_with_byte}
use Rattle.std.specs.Option.{ForSome}
use Rattle.std.specs.Prelude.{unwrap_or}
use Rattle.std.proofs.lemmas.List.{append-nil, map-append}
use Rattle.std.proofs.lemmas.Option.{none-some}
use Rattle.ix_base.specs.declared.events.Line.{Line}
use Rattle.ix_merge.specs.Starts.{MarkedLine, last, starts, is_held}
use Rattle.ix_merge.specs.Events.{raw_of, event_of, has_room, groups, all_but_last, all_events, settled}
use Rattle.ix_merge.specs.Carry.{carry_of}
use Rattle.ix_merge.specs.Sizes.{IsSized}
use Rattle.ix_merge.specs.Place.{fits, joined, starts_by, placed, passed, Takes}
use Rattle.ix_merge.specs.Stands.{Merging, Holds, Adds}
use Rattle.ix_merge.specs.declared.events.Whole.{Whole}
use Rattle.ix_merge.specs.declared.carry.MergeParts.{MergeParts}
use Rattle.ix_merge.proofs.ListLemmas.{last-more, all_but_last-more, join-more}
use Rattle.ix_merge.proofs.MarkLemmas.{forced-more, held-more}
use Rattle.ix_merge.proofs.GroupLemmas.{GroupsSplit, groups-split}

-- an event with one line more
raw-more : (head : Line) (rest : List Line) (line : Line) → raw_of (head ∷ (rest ++ line ∷ [])) ≡ raw_of (head ∷ rest) ++ 10 ∷ line.bytes
raw-more head rest line =
    ap (λ l. join_with_byte 10 (head.bytes ∷ l)) (map-append (λ (l : Line). l.bytes) rest (line ∷ []))
    ∙ join-more 10 head.bytes (map (λ l. l.bytes) rest) line.bytes

joined-more : (head : Line) (rest : List Line) (line : Line) → event_of (head ∷ (rest ++ line ∷ [])) ≡ joined (event_of (head ∷ rest)) line
joined-more head rest line =
    let longer : length (head ∷ (rest ++ line ∷ [])) ≡ length (head ∷ rest) + 1 = omega (arith, length-append rest (line ∷ [])) in
    λ i. record { raw = raw-more head rest line i; moment = head.moment; lines = longer i }

fits-more : (max : ℕ) (head : Line) (rest : List Line) (line : Line) →
    has_room max (head ∷ rest) line ≡ fits max (event_of (head ∷ rest)) line
fits-more max head rest line = ap (λ (l : List ℕ). nat_lt (length (head ∷ rest)) max && nat_le (length l) 4194304) (raw-more head rest line)

-- the last one of some groups
map-last : (front : List (List Line)) (group : List Line) → map event_of (front ++ group ∷ []) ≡ map event_of front ++ event_of group ∷ []
map-last front group = map-append event_of front (group ∷ [])

-- the open event behind these groups, and the event that was ended
record Placed (front whole : List (List Line)) (p : Option Whole × Option Whole) : Type 0 where
  «open» : p.0 ≡ last (map event_of whole)
  settles : all_but_last (map event_of whole) ≡ map event_of front ++ option_to_list p.1

placed-by : (front : List (List Line)) (head : Line) (rest : List Line) (line : Line) (c : Bool) (whole : List (List Line)) →
    whole ≡ front ++ (if c then (head ∷ (rest ++ line ∷ [])) ∷ [] else (head ∷ rest) ∷ (line ∷ []) ∷ []) →
    Placed front whole (if c then (Some (joined (event_of (head ∷ rest)) line), None) else (
      Some (event_of (line ∷ [])),
      Some (event_of (head ∷ rest)),
    ))
placed-by front head rest line true whole is =
    let e : map event_of whole ≡ map event_of front ++ event_of (head ∷ (rest ++ line ∷ [])) ∷ [] =
    ap (map event_of) is ∙ map-last front (head ∷ (rest ++ line ∷ [])) in
    record {
      «open» = ap Some (sym (joined-more head rest line))
          ∙ sym (ap last e ∙ last-more (map event_of front) (event_of (head ∷ (rest ++ line ∷ []))));
      settles = ap all_but_last e ∙ all_but_last-more (map event_of front) (event_of (head ∷ (rest ++ line ∷ [])))
          ∙ sym (append-nil (map event_of front));
    }
placed-by front head rest line false whole is =
    let e : map event_of whole ≡ (map event_of front ++ event_of (head ∷ rest) ∷ []) ++ event_of (line ∷ []) ∷ [] =
    ap (map event_of) is ∙ map-append event_of front ((head ∷ rest) ∷ (line ∷ []) ∷ [])
    ∙ sym (append_assoc (map event_of front) (event_of (head ∷ rest) ∷ []) (event_of (line ∷ []) ∷ [])) in
    record {
      «open» = sym (ap last e ∙ last-more (map event_of front ++ event_of (head ∷ rest) ∷ []) (event_of (line ∷ [])));
      settles = ap all_but_last e ∙ all_but_last-more (map event_of front ++ event_of (head ∷ rest) ∷ []) (event_of (line ∷ []));
    }

-- the events of some lines: the last one, and those before it
last-is : (max : ℕ) (lines : List MarkedLine) (g : GroupsSplit max lines) →
    last (map event_of (groups max lines)) ≡ Some (event_of (g.head ∷ g.rest))
last-is max lines g = ap (λ l. last (map event_of l)) g.is ∙ ap last (map-last g.front (g.head ∷ g.rest))
    ∙ last-more (map event_of g.front) (event_of (g.head ∷ g.rest))

others-are : (max : ℕ) (lines : List MarkedLine) (g : GroupsSplit max lines) →
    all_but_last (map event_of (groups max lines)) ≡ map event_of g.front
others-are max lines g =
    ap (λ l. all_but_last (map event_of l)) g.is ∙ ap all_but_last (map-last g.front (g.head ∷ g.rest))
    ∙ all_but_last-more (map event_of g.front) (event_of (g.head ∷ g.rest))

-- the open event behind one line more, and the event that the line ended
pub record Steps (max : ℕ) (lines : List MarkedLine) (m : MarkedLine) (p : Option Whole × Option Whole) : Type 0 where
  pub «open» : p.0 ≡ last (map event_of (groups max (lines ++ m ∷ [])))
  pub settles : settled true max (lines ++ m ∷ []) ≡ settled true max lines ++ option_to_list p.1

steps-of : (max : ℕ) (lines : List MarkedLine) (m : MarkedLine) (g : GroupsSplit max lines) (p : Option Whole × Option Whole) →
    Placed g.front (groups max (lines ++ m ∷ [])) p → Steps max lines m p
steps-of max lines m g p is = record {
  «open» = is.«open»;
  settles = is.settles ∙ ap (λ l. l ++ option_to_list p.1) (sym (others-are max lines g));
}

pub step : (max : ℕ) (lines : List MarkedLine) (m : MarkedLine) →
    Steps max lines m (placed max (starts lines m.marks) (last (map event_of (groups max lines))) m.line)
step max [] m = record { «open» = refl; settles = refl }
step max (a ∷ later) m =
    let lines : List MarkedLine = a ∷ later in
    let g = groups-split max a later in
    let b = starts lines m.marks in
    let c = not b && has_room max (g.head ∷ g.rest) m.line in
    let s = steps-of max lines m g _ (placed-by g.front g.head g.rest m.line c (groups max (lines ++ m ∷ [])) (g.next m)) in
    subst (λ (o : Option Whole). Steps max lines m (placed max b o m.line)) (sym (last-is max lines g))
    (subst (λ (r : Bool). Steps max lines m (if not b && r then (
      Some (joined (event_of (g.head ∷ g.rest)) m.line),
      None,
    ) else (Some (event_of (m.line ∷ [])), Some (event_of (g.head ∷ g.rest)))))
    (fits-more max g.head g.rest m.line) s)

-- what is carried behind one line more
pub taken : (max : ℕ) (lines : List MarkedLine) (m : MarkedLine) (parts : MergeParts) (event ended : Option Whole) →
    parts ≡ carry_of true max lines →
    placed max (starts_by parts m.marks) parts.event m.line ≡ (event, ended) →
    Takes max lines m (record (passed parts m.marks) { event = event }) ended
taken max lines m parts event ended is gives =
    let e : placed max (starts lines m.marks) (last (map event_of (groups max lines))) m.line ≡ (event, ended) =
    ap (λ (p : MergeParts). placed max (starts_by p m.marks) p.event m.line) (sym is) ∙ gives in
    let s : Steps max lines m (event, ended) = subst (Steps max lines m) e (step max lines m) in
    let held : (not m.marks.forces && (m.marks.holds || parts.held)) ≡ is_held (lines ++ m ∷ []) =
    ap (λ (p : MergeParts). not m.marks.forces && (m.marks.holds || p.held)) is ∙ sym (held-more lines m) in
    record {
      carried = λ i. record { event = s.«open» i; held = held i; forced = sym (forced-more lines m) i };
      settles = s.settles;
    }

-- sizes
for-some : (P : Whole → Type 0) (event : Whole) → P event → ForSome (Some event) P
for-some P event holds = λ other is. subst P (ap (λ o. unwrap_or o event) is) holds

for-none : (P : Whole → Type 0) → ForSome None P
for-none P = λ other is. absurd (none-some other is)

one-sized : (max : ℕ) (line : Line) → 1 ≤ max → length line.bytes ≤ 1048576 → IsSized max (event_of (line ∷ []))
one-sized max line some few = record { some_line = omega arith; few_lines = some; few_bytes = omega (arith, few) }

joined-sized : (max : ℕ) (old : Whole) (line : Line) → fits max old line ≡ true → IsSized max (joined old line)
joined-sized max old line e =
    let r = both-true (nat_lt old.lines max) (nat_le (length (old.raw ++ 10 ∷ line.bytes)) 4194304) e in
    record { some_line = omega arith; few_lines = search (rules, r.0); few_bytes = search (rules, r.1) }
  where
    both-true : (a b : Bool) → (a && b) ≡ true → (a ≡ true) × (b ≡ true)
    both-true true b e = (refl, e)
    both-true false b e = cc

abbrev BothSized : ℕ → Option Whole × Option Whole → Type 0
BothSized max p = ForSome p.0 (λ e. IsSized max e) × ForSome p.1 (λ e. IsSized max e)

placed-sized : (max : ℕ) (begins : Bool) (event : Option Whole) (line : Line) → 1 ≤ max → length line.bytes ≤ 1048576 →
    ForSome event (λ e. IsSized max e) → BothSized max (placed max begins event line)
placed-sized max begins None line some few sized = (
  for-some (IsSized max) (event_of (line ∷ [])) (one-sized max line some few),
  for-none (IsSized max),
)
placed-sized max begins (Some old) line some few sized = by (not begins) (fits max old line) refl
  where
    by : (c r : Bool) → fits max old line ≡ r →
        BothSized max (if c && r then (Some (joined old line), None) else (Some (event_of (line ∷ [])), Some old))
    by true true e = (for-some (IsSized max) (joined old line) (joined-sized max old line e), for-none (IsSized max))
    by true false e = (for-some (IsSized max) (event_of (line ∷ [])) (one-sized max line some few), sized)
    by false r e = (for-some (IsSized max) (event_of (line ∷ [])) (one-sized max line some few), sized)

pub both-sized : (max : ℕ) (begins : Bool) (event : Option Whole) (line : Line) (after ended : Option Whole) → 1 ≤ max →
    length line.bytes ≤ 1048576 →
    ForSome event (λ e. IsSized max e) → placed max begins event line ≡ (after, ended) →
    ForSome after (λ e. IsSized max e) × ForSome ended (λ e. IsSized max e)
both-sized max begins event line after ended some few sized gives =
    subst (BothSized max) gives (placed-sized max begins event line some few sized)

-- the end of the lines
pub closes : (on : Bool) (max : ℕ) (lines : List MarkedLine) (parts : MergeParts) → parts ≡ carry_of on max lines →
    all_events on max lines ≡ settled on max lines ++ option_to_list parts.event
closes on max lines parts is = by on lines ∙ ap (λ (p : MergeParts). settled on max lines ++ option_to_list p.event) (sym is)
  where
    by : (on : Bool) (lines : List MarkedLine) → all_events on max lines ≡ settled on max lines
        ++ option_to_list (carry_of on max lines).event
    by false lines = sym (append-nil (settled false max lines))
    by true [] = refl
    by true (a ∷ later) =
        let lines : List MarkedLine = a ∷ later in
        let g = groups-split max a later in
        ap (map event_of) g.is ∙ map-last g.front (g.head ∷ g.rest)
        ∙ ap (λ l. l ++ event_of (g.head ∷ g.rest) ∷ []) (sym (others-are max lines g))
        ∙ ap (λ o. all_but_last (map event_of (groups max lines)) ++ option_to_list o) (sym (last-is max lines g))

-- one line more, for a value
pub adds : (lines : List MarkedLine) (m : MarkedLine) (old : Merging) (on : Bool) (max : ℕ) (parts : MergeParts) (broken : Bool)
    (new : MergeParts) (ended : Option Whole) →
    record { on = on; max_lines = max; parts = parts; broken = broken } ≡ old → on ≡ true →
    (parts ≡ carry_of true max lines → Takes max lines m new ended) → Holds lines old →
    Adds lines m old (record { on = on; max_lines = max; parts = new; broken = false }) ended
adds lines m old on max parts broken new ended view is takes =
    subst (λ (o : Merging). Holds lines o → Adds lines m o (record { on = on; max_lines = max; parts = new; broken = false }) ended) view
    (subst (λ (b : Bool). Holds lines (record { on = b; max_lines = max; parts = parts; broken = broken })
    → Adds lines m (record { on = b; max_lines = max; parts = parts; broken = broken })
    (record { on = b; max_lines = max; parts = new; broken = false }) ended)
    (sym is)
    (λ holds. let t = takes holds.parts in record { holds = record { parts = t.carried; whole = refl }; settles = t.settles }))
