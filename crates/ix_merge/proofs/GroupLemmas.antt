-- The groups of lines, and what one line more makes of them.
use Rattle.std.proofs.Common.{◌≡◌, ℕ, Bool, true, false, not, ◌&&◌, if◌then◌else◌, List, [], ◌∷◌, ◌++◌, flat_map, refl, sym, ◌∙◌, ap}
use Rattle.std.proofs.Common.{append_assoc}
use Rattle.std.proofs.lemmas.List.{append-nil}
use Rattle.std.proofs.lemmas.Grind.{flat_map-append}
use Rattle.ix_base.specs.declared.events.Line.{Line}
use Rattle.ix_merge.specs.Starts.{MarkedLine, starts}
use Rattle.ix_merge.specs.Events.{has_room, runs_from, pieces_from, pieces, groups}

-- runs of which the last one may go on
record RunsSplit (whole : List MarkedLine → List (List Line)) (behind : List MarkedLine) : Type 0 where
  front : List (List Line)
  head : Line
  rest : List Line
  is : (more : List MarkedLine) → whole more ≡ front ++ runs_from behind (head ∷ rest) more

runs-split : (earlier : List MarkedLine) (head : Line) (rest : List Line) (later : List MarkedLine) →
    RunsSplit (λ more. runs_from earlier (head ∷ rest) (later ++ more)) (earlier ++ later)
runs-split earlier head rest [] = record {
  front = [];
  head = head;
  rest = rest;
  is = λ more. ap (λ e. runs_from e (head ∷ rest) more) (sym (append-nil earlier));
}
runs-split earlier head rest (m ∷ later) =
    by (starts earlier m.marks) (runs-split (earlier ++ m ∷ []) m.line [] later)
    (runs-split (earlier ++ m ∷ []) head (rest ++ m.line ∷ []) later)
  where
    by : (b : Bool) →
        RunsSplit (λ more. runs_from (earlier ++ m ∷ []) (m.line ∷ []) (later ++ more)) ((earlier ++ m ∷ []) ++ later) →
        RunsSplit (λ more. runs_from (earlier ++ m ∷ []) (head ∷ (rest ++ m.line ∷ [])) (later ++ more)) ((earlier ++ m ∷ []) ++ later) →
        RunsSplit (λ more. if b then (head ∷ rest) ∷ runs_from (earlier ++ m ∷ []) (m.line ∷ []) (later ++ more)
        else runs_from (earlier ++ m ∷ []) (head ∷ (rest ++ m.line ∷ [])) (later ++ more)) (earlier ++ m ∷ later)
    by true s t = record {
      front = (head ∷ rest) ∷ s.front;
      head = s.head;
      rest = s.rest;
      is = λ more. ap (λ l. (head ∷ rest) ∷ l) (s.is more
          ∙ ap (λ e. s.front ++ runs_from e (s.head ∷ s.rest) more) (append_assoc earlier (m ∷ []) later));
    }
    by false s t = record {
      front = t.front;
      head = t.head;
      rest = t.rest;
      is = λ more. t.is more ∙ ap (λ e. t.front ++ runs_from e (t.head ∷ t.rest) more) (append_assoc earlier (m ∷ []) later);
    }

-- the pieces of a run of which the last one may go on
record PiecesSplit (max : ℕ) (whole : List Line → List (List Line)) : Type 0 where
  front : List (List Line)
  head : Line
  rest : List Line
  is : (more : List Line) → whole more ≡ front ++ pieces_from max (head ∷ rest) more

pieces-split : (max : ℕ) (head : Line) (rest lines : List Line) → PiecesSplit max (λ more. pieces_from max (head ∷ rest) (lines ++ more))
pieces-split max head rest [] = record { front = []; head = head; rest = rest; is = λ more. refl }
pieces-split max head rest (line ∷ lines) =
    by (has_room max (head ∷ rest) line) (pieces-split max line [] lines) (pieces-split max head (rest ++ line ∷ []) lines)
  where
    by : (b : Bool) →
        PiecesSplit max (λ more. pieces_from max (line ∷ []) (lines ++ more)) →
        PiecesSplit max (λ more. pieces_from max (head ∷ (rest ++ line ∷ [])) (lines ++ more)) →
        PiecesSplit max (λ more. if b then pieces_from max (head ∷ (rest ++ line ∷ [])) (lines ++ more)
        else (head ∷ rest) ∷ pieces_from max (line ∷ []) (lines ++ more))
    by true s t = t
    by false s t = record {
      front = (head ∷ rest) ∷ s.front;
      head = s.head;
      rest = s.rest;
      is = λ more. ap (λ l. (head ∷ rest) ∷ l) (s.is more);
    }

-- the groups of some lines: the last one, which may go on, and those before it
pub record GroupsSplit (max : ℕ) (lines : List MarkedLine) : Type 0 where
  pub front : List (List Line)
  pub head : Line
  pub rest : List Line
  pub is : groups max lines ≡ front ++ (head ∷ rest) ∷ []
  pub next : (n : MarkedLine) → groups max (lines ++ n ∷ []) ≡
      front ++ (if not (starts lines n.marks) && has_room max (head ∷ rest) n.line then (head ∷ (rest ++ n.line ∷ [])) ∷ []
      else (head ∷ rest) ∷ (n.line ∷ []) ∷ [])

pub groups-split : (max : ℕ) (m : MarkedLine) (later : List MarkedLine) → GroupsSplit max (m ∷ later)
groups-split max m later =
    let r = runs-split (m ∷ []) m.line [] later in
    let p = pieces-split max r.head [] r.rest in
    record {
      front = flat_map (pieces max) r.front ++ p.front;
      head = p.head;
      rest = p.rest;
      is =
          ap (λ l. flat_map (pieces max) (runs_from (m ∷ []) (m.line ∷ []) l)) (sym (append-nil later))
          ∙ ap (flat_map (pieces max)) (r.is [])
          ∙ flat_map-append (pieces max) r.front ((r.head ∷ r.rest) ∷ [])
          ∙ ap (λ l. flat_map (pieces max) r.front ++ l) (append-nil (pieces max (r.head ∷ r.rest))
          ∙ ap (pieces_from max (r.head ∷ [])) (sym (append-nil r.rest)) ∙ p.is [])
          ∙ sym (append_assoc (flat_map (pieces max) r.front) p.front ((p.head ∷ p.rest) ∷ []));
      next = λ n.
          ap (flat_map (pieces max)) (r.is (n ∷ []))
          ∙ flat_map-append (pieces max) r.front (runs_from (m ∷ later) (r.head ∷ r.rest) (n ∷ []))
          ∙ ap (λ l. flat_map (pieces max) r.front ++ l) (last-run n r.head r.rest p (starts (m ∷ later) n.marks))
          ∙ sym (append_assoc (flat_map (pieces max) r.front) p.front _);
    }
  where
    last-run : (n : MarkedLine) (head : Line) (rest : List Line) (p : PiecesSplit max (λ more. pieces_from max (head ∷ []) (rest ++ more)))
        (b : Bool) →
        flat_map (pieces max) (if b then (head ∷ rest) ∷ runs_from ((m ∷ later) ++ n ∷ []) (n.line ∷ []) [] else runs_from ((m ∷ later) ++ n
        ∷ []) (head ∷ (rest ++ n.line ∷ [])) [])
        ≡ p.front ++ (if not b && has_room max (p.head ∷ p.rest) n.line then (p.head ∷ (p.rest ++ n.line ∷ [])) ∷ [] else (p.head ∷ p.rest)
        ∷ (n.line ∷ []) ∷ [])
    last-run n head rest p true =
        ap (λ l. pieces_from max (head ∷ []) l ++ (n.line ∷ []) ∷ []) (sym (append-nil rest))
        ∙ ap (λ l. l ++ (n.line ∷ []) ∷ []) (p.is [])
        ∙ append_assoc p.front ((p.head ∷ p.rest) ∷ []) ((n.line ∷ []) ∷ [])
    last-run n head rest p false = append-nil (pieces_from max (head ∷ []) (rest ++ n.line ∷ [])) ∙ p.is (n.line ∷ [])
