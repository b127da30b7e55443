-- A value that stands for a stream, and the next bytes or the end.
use Rattle.std.proofs.Common.{◌≡◌, ℕ, ◌+◌, ◌-◌, ◌≤◌, ℤ, Bool, true, false, List, [], ◌++◌, length, take, drop, replicate, Option, refl}
use Rattle.std.proofs.Common.{sym, ◌∙◌, ap, subst, arith, append_assoc, length-append}
use Rattle.std.specs.List.{flat_map, zip}
use Rattle.std.proofs.lemmas.List.{append-nil}
use Rattle.std.proofs.lemmas.Grind.{flat_map-append}
use Rattle.ix_base.specs.Stream.{Dated, bytes_of, dated}
use Rattle.ix_lines.specs.Walk.{BreakFinder, Walked, walk, walk_of}
use Rattle.ix_lines.specs.Lines.{line_of, settled, all_lines}
use Rattle.ix_lines.specs.Laws.{IsStable}
use Rattle.ix_lines.specs.Kept.{Keeps, IsPart, AddsSome, first_moment}
use Rattle.ix_lines.specs.Settle.{Settles}
use Rattle.ix_lines.specs.Parts.{Parts, StandsFor, Adds, AddsPart, Ends, EndsPart}
use Rattle.ix_lines.specs.declared.kept.Kept.{Kept}
use Rattle.ix_base.specs.declared.events.Line.{Line}
use Rattle.std.proofs.lemmas.List.{length-drop}
use Rattle.std.proofs.lemmas.Slice.Zip.{length-zip}
use Rattle.ix_lines.specs.Moments.{moments_of}
use Rattle.ix_lines.specs.Pending.{IsPaired, dated_in}
use Rattle.ix_lines.specs.declared.pending.Pending.{Pending}
use Rattle.ix_lines.proofs.ListLemmas.{drop-zip, zip-append}
use Rattle.ix_lines.proofs.WalkLemmas.{walk_of-append}

-- what is kept of the open line of a stream
pub kept-is : (look : BreakFinder) (t : ℕ) (stream : List Dated) (old : Parts) (kept : Kept) → StandsFor look t stream old →
    kept.bytes ≡ old.kept → kept.moment ≡ old.moment → Keeps t (walk_of look true stream).rest kept
kept-is look t stream old kept stands b m = record { bytes_are = b ∙ ap (λ p. p.kept) stands; moment_is = m ∙ ap (λ p. p.moment) stands }

-- the walk goes on from the parts of the stream
pub goes-on : (look : BreakFinder) (u : Bool) (t : ℕ) (stream later all : List Dated) (first : Option ℕ) (old : Parts) →
    StandsFor look t stream old → first ≡ old.before →
    all ≡ old.pending ++ later →
    walk look u first (walk_of look true stream).rest 0 all
    ≡ walk look u (walk_of look true stream).before (walk_of look true stream).rest 0 ((walk_of look true stream).pending ++ later)
goes-on look u t stream later all first old stands f e =
    ap (λ b. walk look u b (walk_of look true stream).rest 0 all) f
    ∙ ap (λ l. walk look u old.before (walk_of look true stream).rest 0 l) e
    ∙ ap (λ p. walk look u p.before (walk_of look true stream).rest 0 (p.pending ++ later)) stands

settles-more : (look : BreakFinder) → IsStable look → (t : ℕ) (stream later : List Dated) (v : Walked) →
    v ≡ walk look true (walk_of look true stream).before (walk_of look true stream).rest 0 ((walk_of look true stream).pending ++ later) →
    settled look t (stream ++ later) ≡ settled look t stream ++ flat_map (line_of t) v.done
settles-more look stable t stream later v e =
    let w : Walked = walk_of look true stream in
    let x : Walked = walk look true w.before w.rest 0 (w.pending ++ later) in
    ap (λ y. flat_map (line_of t) y.done) (walk_of-append look stable true stream later) ∙ flat_map-append (line_of t) w.done x.done
    ∙ ap (λ y. settled look t stream ++ flat_map (line_of t) y.done) (sym e)

pub fed-adds : (look : BreakFinder) → IsStable look → (t : ℕ) (stream later all left : List Dated) (first before : Option ℕ) (old : Parts)
    (kept kept' : Kept) (out out' : List Line) →
    StandsFor look t stream old → kept.bytes ≡ old.kept → kept.moment ≡ old.moment → first ≡ old.before → all ≡ old.pending ++ later →
    ((stretch : List Dated) → Keeps t stretch kept → Settles t (walk look true first stretch 0 all) before kept' left out out') →
    Adds look t stream later out out'
fed-adds look stable t stream later all left first before old kept kept' out out' stands b m f e settles =
    let w : Walked = walk_of look true stream in
    record {
      added = flat_map (line_of t) (walk look true first w.rest 0 all).done;
      settles = settles-more look stable t stream later (walk look true first w.rest 0 all)
          (goes-on look true t stream later all first old stands f e);
      written = (settles w.rest (kept-is look t stream old kept stands b m)).written;
    }

pub all-some : (lines old new : List Line) → new ≡ old ++ lines → AddsSome lines old new
all-some lines old new e = record { first = lines; others = []; lines_are = sym (append-nil lines); written = e }

pub no-some : (lines old : List Line) → AddsSome lines old old
no-some lines old = record { first = []; others = lines; lines_are = refl; written = sym (append-nil old) }

pub adds-part : (look : BreakFinder) (t : ℕ) (stream later : List Dated) (out out' : List Line) → Adds look t stream later out out' →
    AddsPart look t stream later out out'
adds-part look t stream later out out' a = record { added = a.added; settles = a.settles; written = all-some a.added out out' a.written }

pub fed-some : (look : BreakFinder) → IsStable look → (t : ℕ) (stream later all : List Dated) (first : Option ℕ) (old : Parts) (kept : Kept)
    (out out' : List Line) →
    StandsFor look t stream old → kept.bytes ≡ old.kept → kept.moment ≡ old.moment → first ≡ old.before → all ≡ old.pending ++ later →
    ((stretch : List Dated) → Keeps t stretch kept → AddsSome (flat_map (line_of t) (walk look true first stretch 0 all).done) out out') →
    AddsPart look t stream later out out'
fed-some look stable t stream later all first old kept out out' stands b m f e some =
    let w : Walked = walk_of look true stream in
    record {
      added = flat_map (line_of t) (walk look true first w.rest 0 all).done;
      settles = settles-more look stable t stream later (walk look true first w.rest 0 all)
          (goes-on look true t stream later all first old stands f e);
      written = some w.rest (kept-is look t stream old kept stands b m);
    }

pub fed-none : (look : BreakFinder) → IsStable look → (t : ℕ) (stream later : List Dated) (out : List Line) →
    AddsPart look t stream later out out
fed-none look stable t stream later out =
    let w : Walked = walk_of look true stream in
    let v : Walked = walk look true w.before w.rest 0 (w.pending ++ later) in
    record {
      added = flat_map (line_of t) v.done;
      settles = settles-more look stable t stream later v refl;
      written = no-some (flat_map (line_of t) v.done) out;
    }

pub fed-stands : (look : BreakFinder) → IsStable look →
    (t : ℕ) (stream later all : List Dated) (first : Option ℕ) (old new : Parts) (kept kept' : Kept) (out out' : List Line) →
    StandsFor look t stream old → kept.bytes ≡ old.kept → kept.moment ≡ old.moment → first ≡ old.before → all ≡ old.pending ++ later →
    ((stretch : List Dated) → Keeps t stretch kept → Settles t (walk look true first stretch 0 all) new.before kept' new.pending out out') →
    new.kept ≡ kept'.bytes → new.moment ≡ kept'.moment → new.truncate ≡ t → new.broken ≡ false →
    StandsFor look t (stream ++ later) new
fed-stands look stable t stream later all first old new kept kept' out out' stands b m f e settles kb km nt nb =
    let w : Walked = walk_of look true stream in
    let v : Walked = walk look true w.before w.rest 0 (w.pending ++ later) in
    let s = subst (λ (x : Walked). Settles t x new.before kept' new.pending out out')
    (goes-on look true t stream later all first old stands f e)
    (settles w.rest (kept-is look t stream old kept stands b m)) in
    by v (walk_of look true (stream ++ later)) (walk_of-append look stable true stream later) s
  where
    by : (v x : Walked) → x ≡ record v { done = (walk_of look true stream).done ++ v.done } →
        Settles t v new.before kept' new.pending out out' →
        new ≡ record {
          truncate = t;
          before = x.before;
          pending = x.pending;
          kept = take (t + 1) (bytes_of x.rest);
          moment = first_moment x.rest;
          broken = false;
        }
    by v x f s = λ i. record {
      truncate = nt i;
      before = (s.before_is ∙ ap (λ y. y.before) (sym f)) i;
      pending = (s.left_is ∙ ap (λ y. y.pending) (sym f)) i;
      kept = (kb ∙ s.keeps.bytes_are ∙ ap (λ y. take (t + 1) (bytes_of y.rest)) (sym f)) i;
      moment = (km ∙ s.keeps.moment_is ∙ ap (λ y. first_moment y.rest) (sym f)) i;
      broken = nb i;
    }

-- the bytes that are walked, and those that are left
pub all-is : (xs bs all : List ℕ) (ms all' : List ℤ) (m : ℤ) → all ≡ xs ++ bs → all' ≡ ms ++ replicate (length bs) m →
    length xs ≡ length ms →
    zip all all' ≡ zip xs ms ++ dated bs m
all-is xs bs all ms all' m p q h =
    ap (λ l. zip l all') p ∙ ap (zip (xs ++ bs)) q ∙ zip-append xs bs ms (replicate (length bs) m) h

pub left-is : (stop : ℕ) (all left : List ℕ) (all' left' : List ℤ) → left ≡ drop stop all → left' ≡ drop stop all' →
    drop stop (zip all all') ≡ zip left left'
left-is stop all left all' left' p q =
    drop-zip stop all all' ∙ ap (λ l. zip l (drop stop all')) (sym p) ∙ ap (zip left) (sym q)

-- the end of the stream
settles-all : (look : BreakFinder) → IsStable look → (t : ℕ) (stream : List Dated) (old : Parts) → StandsFor look t stream old →
    let v = walk look false old.before (walk_of look true stream).rest 0 old.pending in
    all_lines look t stream ≡ settled look t stream ++ (flat_map (line_of t) v.done ++ line_of t (v.rest ++ v.pending))
settles-all look stable t stream old stands =
    let w : Walked = walk_of look true stream in
    let x : Walked = walk look false w.before w.rest 0 (w.pending ++ []) in
    let v : Walked = walk look false old.before w.rest 0 old.pending in
    let e : v ≡ x = goes-on look false t stream [] old.pending old.before old stands refl (sym (append-nil old.pending)) in
    ap (all_lines look t) (sym (append-nil stream))
    ∙ ap (λ y. flat_map (line_of t) y.done ++ line_of t (y.rest ++ y.pending)) (walk_of-append look stable false stream [])
    ∙ ap (λ l. l ++ line_of t (x.rest ++ x.pending)) (flat_map-append (line_of t) w.done x.done)
    ∙ append_assoc (flat_map (line_of t) w.done) (flat_map (line_of t) x.done) (line_of t (x.rest ++ x.pending))
    ∙ ap (λ y. settled look t stream ++ (flat_map (line_of t) y.done ++ line_of t (y.rest ++ y.pending))) (sym e)

pub closed : (look : BreakFinder) → IsStable look → (t : ℕ) (stream left : List Dated) (before : Option ℕ) (old : Parts)
    (kept kept' kept'' : Kept) (out out' out'' : List Line)
    (bytes : List ℕ) (moment : ℤ) →
    StandsFor look t stream old → kept.bytes ≡ old.kept → kept.moment ≡ old.moment →
    ((stretch : List Dated) → Keeps t stretch kept → Settles t (walk look false old.before stretch 0 old.pending) before kept' left out
    out') →
    IsPart bytes moment left →
    ((stretch part : List Dated) → Keeps t stretch kept' → IsPart bytes moment part → Keeps t [] kept''
    × (out'' ≡ out' ++ line_of t (stretch ++ part))) →
    Ends look t stream out out''
closed look stable t stream left before old kept kept' kept'' out out' out'' bytes moment stands b m settles is ends =
    let w : Walked = walk_of look true stream in
    let v : Walked = walk look false old.before w.rest 0 old.pending in
    let s = settles w.rest (kept-is look t stream old kept stands b m) in
    record {
      added = flat_map (line_of t) v.done ++ line_of t (v.rest ++ v.pending);
      settles = settles-all look stable t stream old stands;
      written = (ends v.rest left s.keeps is).1 ∙ ap (λ l. l ++ line_of t (v.rest ++ left)) s.written
          ∙ append_assoc out (flat_map (line_of t) v.done) (line_of t (v.rest ++ left))
          ∙ ap (λ l. out ++ (flat_map (line_of t) v.done ++ line_of t (v.rest ++ l))) s.left_is;
    }

-- where there was no room, the first lines were added
pub closed-some : (look : BreakFinder) → IsStable look → (t : ℕ) (stream : List Dated) (old : Parts) (kept : Kept) (out out' : List Line) →
    StandsFor look t stream old → kept.bytes ≡ old.kept → kept.moment ≡ old.moment →
    ((stretch : List Dated) → Keeps t stretch kept → AddsSome (flat_map (line_of t) (walk look false old.before stretch 0 old.pending).done)
    out out') →
    EndsPart look t stream out out'
closed-some look stable t stream old kept out out' stands b m some =
    let w : Walked = walk_of look true stream in
    let v : Walked = walk look false old.before w.rest 0 old.pending in
    let s = some w.rest (kept-is look t stream old kept stands b m) in
    record {
      added = flat_map (line_of t) v.done ++ line_of t (v.rest ++ v.pending);
      settles = settles-all look stable t stream old stands;
      written = record {
        first = s.first;
        others = s.others ++ line_of t (v.rest ++ v.pending);
        lines_are = ap (λ l. l ++ line_of t (v.rest ++ v.pending)) s.lines_are
            ∙ append_assoc s.first s.others (line_of t (v.rest ++ v.pending));
        written = s.written;
      };
    }

pub settles-some : (t : ℕ) (w : Walked) (before : Option ℕ) (kept : Kept) (left : List Dated) (out out' out'' : List Line) →
    Settles t w before kept left out out' →
    out'' ≡ out' → AddsSome (flat_map (line_of t) w.done) out out''
settles-some t w before kept left out out' out'' s e = all-some (flat_map (line_of t) w.done) out out'' (e ∙ s.written)

-- how far the scan place moved on
pub fed-moved : (old all left : Pending) (bytes : List ℕ) (stop : ℕ) → IsPaired old → IsPaired left → all.bytes ≡ old.bytes ++ bytes →
    left.bytes ≡ drop stop all.bytes →
    stop ≤ length all.bytes → length (dated_in old) + length bytes - length (dated_in left) ≡ stop
fed-moved old all left bytes stop p q a l h =
    let before = length-zip old.bytes (moments_of old.runs.items) in
    let behind = length-zip left.bytes (moments_of left.runs.items) in
    let whole : length all.bytes ≡ length old.bytes + length bytes = ap length a ∙ length-append old.bytes bytes in
    let rest : length left.bytes ≡ length (drop stop all.bytes) = ap length l in
    omega (arith, before, behind, whole, rest, length-drop stop all.bytes, p, q, h)
