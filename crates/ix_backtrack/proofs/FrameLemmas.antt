-- What becomes of the ways of frames.
use Rattle.std.proofs.Common.{◌≡◌, ℕ, ◌+◌, ◌≤◌, if◌then◌else◌, not, Bool, true, false, List, [], ◌∷◌, ◌++◌, length, Option, Some, None}
use Rattle.std.proofs.Common.{refl, sym, ◌∙◌, ap, subst, arith, append_assoc, length-append}
use Rattle.std.specs.Prelude.{slice_get}
use Rattle.std.proofs.lemmas.Option.{slice_get_within}
use Rattle.std.proofs.lemmas.List.{append-nil}
use Rattle.ix_pattern.specs.Piece.{in_set}
use Rattle.ix_pattern.specs.Ways.{Text, Way, edge, here, byte_ways, ways}
use Rattle.ix_pattern.specs.Rows.{Rows, tree}
use Rattle.ix_pikevm.specs.declared.code.Instr.{Instr}
use Rattle.ix_pikevm.specs.declared.cells.Event.{Event}
use Rattle.ix_pikevm.specs.declared.cells.Cell.{Cell}
use Rattle.ix_pikevm.specs.declared.cells.Best.{Best}
use Rattle.ix_pikevm.specs.declared.code.Lookahead.{Lookahead}
use Rattle.ix_pikevm.specs.declared.program.Program.{Program}
use Rattle.ix_pikevm.specs.Looks.{HasNoLook}
use Rattle.ix_pikevm.specs.Programs.{IsProgram, AllAsked}
use Rattle.ix_pikevm.specs.Written.{IsWritten}
use Rattle.ix_pikevm.proofs.ProgramLemmas.{program-code, program-sets, program-head}
use Rattle.ix_backtrack.specs.Tried.{IsPlainCode}
use Rattle.ix_pikevm.specs.declared.cells.Best.TheVariants.{No, End as BestEnd, More}
use Rattle.ix_pikevm.specs.Leaf.{at}
use Rattle.ix_pikevm.specs.Code.{Mean, Meaning, history, tested, best_ways}
use Rattle.ix_pikevm.specs.Ran.{Ends, IsOf, Grown}
use Rattle.ix_pikevm.proofs.HistoryLemmas.{history-new}
use Rattle.ix_backtrack.specs.declared.frames.Frame.{Frame}
use Rattle.ix_backtrack.specs.declared.frames.Turn.{Turn}
use Rattle.ix_backtrack.specs.declared.frames.Turn.TheVariants.{On, Fork, Back, End, Edge}
use Rattle.ix_backtrack.specs.Frames.{frame_ways, stack_ways, turn_ways, IsFrame, AreFrames, Turns, Goes}

-- ---- a byte

pub byte-here : (next : ℕ → List Way) (set : List Bool) (text : Text) (p b : ℕ) (t : Bool) → slice_get text.bytes p ≡ Some b →
    t ≡ in_set set b →
    tested next (byte_ways set text (at p []) (slice_get text.bytes p)) ≡ (if t then next (p + 1) else [])
byte-here next set text p b t got is =
    ap (λ o. tested next (byte_ways set text (at p []) o)) got ∙ ap (λ x. tested next (here x (at (p + 1) []))) (sym is) ∙ split t
  where
    split : (x : Bool) → tested next (here x (at (p + 1) [])) ≡ (if x then next (p + 1) else [])
    split true = append-nil (next (p + 1))
    split false = refl

pub byte-past : (next : ℕ → List Way) (set : List Bool) (text : Text) (p : ℕ) (u : Bool) → slice_get text.bytes p ≡ None →
    text.unfinished ≡ u →
    tested next (byte_ways set text (at p []) (slice_get text.bytes p)) ≡ (if u then edge ∷ [] else [])
byte-past next set text p u got is =
    ap (λ o. tested next (byte_ways set text (at p []) o)) got ∙ ap (λ x. tested next (if x then edge ∷ [] else [])) is ∙ split u
  where
    split : (x : Bool) → tested next (if x then edge ∷ [] else []) ≡ (if x then edge ∷ [] else [])
    split true = refl
    split false = refl

-- ---- an event

-- the frame behind an event has the ways of that event and those before
pub event-ways : (mean : Mean) (cells new later : List Cell) (trail p next : ℕ) (event : Event) (f : Frame) → trail ≤ length cells →
    f ≡ record { pc = next; trail = length cells + 1; place = p } → new ≡ cells ++ record { event = event; earlier = trail } ∷ [] →
    mean next (event ∷ history (new ++ later) trail) p ≡ frame_ways mean (new ++ later) f
event-ways mean cells new later trail p next event f known is made =
    ap (λ h. mean next h p) (sym (subst (λ n. history (n ++ later) (length cells + 1) ≡ event ∷ history (n ++ later) trail) (sym made)
    (history-new cells later (record { event = event; earlier = trail }) known)))
    ∙ ap (frame_ways mean (new ++ later)) (sym is)

-- ---- the stack

pub stack-pushed : (w : Frame → List Way) (fs : List Frame) (f : Frame) → stack_ways w (fs ++ f ∷ []) ≡ w f ++ stack_ways w fs
stack-pushed w [] f = sym (append-nil (w f))
stack-pushed w (g ∷ fs) f = ap (λ l. l ++ w g) (stack-pushed w fs f) ∙ append_assoc (w f) (stack_ways w fs) (w g)

pub frames-pushed : (n c bytes : ℕ) (fs : List Frame) (f : Frame) → AreFrames n c bytes fs → IsFrame n c bytes f →
    AreFrames n c bytes (fs ++ f ∷ [])
frames-pushed n c bytes [] f a k = (k, tt)
frames-pushed n c bytes (g ∷ fs) f a k = (a.0, frames-pushed n c bytes fs f a.1 k)

pub frames-popped : (n c bytes : ℕ) (fs : List Frame) (f : Frame) → AreFrames n c bytes (fs ++ f ∷ []) → AreFrames n c bytes fs
    × IsFrame n c bytes f
frames-popped n c bytes [] f a = (tt, a.0)
frames-popped n c bytes (g ∷ fs) f a = let r = frames-popped n c bytes fs f a.1 in ((a.0, r.0), r.1)

pub frame-later : (n c d bytes : ℕ) (f : Frame) → c ≤ d → IsFrame n c bytes f → IsFrame n d bytes f
frame-later n c d bytes f h k = record { pc = k.pc; trail = (let t = k.trail in omega (arith, h, t)); place = k.place }

pub frames-later : (n c d bytes : ℕ) (fs : List Frame) → c ≤ d → AreFrames n c bytes fs → AreFrames n d bytes fs
frames-later n c d bytes [] h a = tt
frames-later n c d bytes (f ∷ fs) h a = (frame-later n c d bytes f h a.0, frames-later n c d bytes fs h a.1)

-- ---- from turn to turn

pub goes-init : (code : List Instr) (rows : Rows) (text : Text) (start place : ℕ) (cells : List Cell) (stack : List Frame) → stack ≡ [] →
    Goes code rows text start place cells (record { pc = start; trail = 0; place = place }) stack
goes-init code rows text start place cells stack is blank mean rank m later =
    sym (ap (λ s. mean start [] place ++ stack_ways (frame_ways mean (cells ++ later)) s) is ∙ append-nil (mean start [] place))

-- cells may come
pub goes-grown : (code : List Instr) (rows : Rows) (text : Text) (start place : ℕ) (cells new : List Cell) (f : Frame)
    (stack : List Frame) → Grown cells new →
    Goes code rows text start place cells f stack → Goes code rows text start place new f stack
goes-grown code rows text start place cells new f stack g goes blank mean rank m later =
    subst (λ c. mean start [] place ≡ frame_ways mean c f ++ stack_ways (frame_ways mean c) stack)
    (sym (append_assoc cells g.added later) ∙ ap (λ c. c ++ later) (sym g.is))
    (goes blank mean rank m (g.added ++ later))

pub goes-on : (code : List Instr) (rows : Rows) (text : Text) (start place : ℕ) (cells : List Cell) (f g : Frame) (stack : List Frame) →
    Turns code rows text cells f (On g) → Goes code rows text start place cells f stack → Goes code rows text start place cells g stack
goes-on code rows text start place cells f g stack t goes blank mean rank m later =
    goes blank mean rank m later ∙ ap (λ l. l ++ stack_ways (frame_ways mean (cells ++ later)) stack) (t blank mean rank m later)

pub goes-fork : (code : List Instr) (rows : Rows) (text : Text) (start place : ℕ) (cells : List Cell) (f a b : Frame)
    (stack new : List Frame) → new ≡ stack ++ b ∷ [] →
    Turns code rows text cells f (Fork a b) → Goes code rows text start place cells f stack → Goes code rows text start place cells a new
goes-fork code rows text start place cells f a b stack new is t goes blank mean rank m later =
    goes blank mean rank m later ∙ ap (λ l. l ++ stack_ways (frame_ways mean (cells ++ later)) stack) (t blank mean rank m later)
    ∙ append_assoc (frame_ways mean (cells ++ later) a) (frame_ways mean (cells ++ later) b)
    (stack_ways (frame_ways mean (cells ++ later)) stack)
    ∙ ap (λ l. frame_ways mean (cells ++ later) a ++ l)
    (sym (ap (stack_ways (frame_ways mean (cells ++ later))) is ∙ stack-pushed (frame_ways mean (cells ++ later)) stack b))

pub goes-back : (code : List Instr) (rows : Rows) (text : Text) (start place : ℕ) (cells : List Cell) (f g : Frame)
    (stack new : List Frame) → stack ≡ new ++ g ∷ [] →
    Turns code rows text cells f Back → Goes code rows text start place cells f stack → Goes code rows text start place cells g new
goes-back code rows text start place cells f g stack new is t goes blank mean rank m later =
    goes blank mean rank m later ∙ ap (λ l. l ++ stack_ways (frame_ways mean (cells ++ later)) stack) (t blank mean rank m later)
    ∙ ap (stack_ways (frame_ways mean (cells ++ later))) is ∙ stack-pushed (frame_ways mean (cells ++ later)) new g

-- ---- the end

same-rows : (code : List Instr) (pattern rows : Rows) (text : Text) (blank : List (Option (ℕ × ℕ))) (mean : Mean) (rank : ℕ → ℕ) →
    rows ≡ pattern →
    Meaning code rows text blank mean rank → Meaning code pattern text blank mean rank
same-rows code pattern rows text blank mean rank e m = subst (λ r. Meaning code r text blank mean rank) e m

-- at the end of the cells
goes-now : (code : List Instr) (rows : Rows) (text : Text) (start place : ℕ) (cells : List Cell) (f : Frame) (stack : List Frame)
    (t : Turn) →
    Turns code rows text cells f t → Goes code rows text start place cells f stack →
    (blank : List (Option (ℕ × ℕ))) (mean : Mean) (rank : ℕ → ℕ) → Meaning code rows text blank mean rank →
    mean start [] place ≡ turn_ways mean blank cells f t ++ stack_ways (frame_ways mean cells) stack
goes-now code rows text start place cells f stack t turns goes blank mean rank m =
    subst (λ c. mean start [] place ≡ turn_ways mean blank c f t ++ stack_ways (frame_ways mean c) stack) (append-nil cells)
    (goes blank mean rank m [] ∙ ap (λ l. l ++ stack_ways (frame_ways mean (cells ++ [])) stack) (turns blank mean rank m []))

pub ends-here : (code : List Instr) (pattern : Rows) (text : Text) (start place : ℕ) (cells : List Cell) (f : Frame) (stack : List Frame) →
    Turns code pattern text cells f End → Goes code pattern text start place cells f stack →
    Ends (IsOf pattern) code text start place cells (BestEnd f.place f.trail)
ends-here code pattern text start place cells f stack t goes rows blank mean rank m e =
    ap (λ l. slice_get l 0) (goes-now code pattern text start place cells f stack End t goes blank mean rank
    (same-rows code pattern rows text blank mean rank e m))

pub ends-edge : (code : List Instr) (pattern : Rows) (text : Text) (start place : ℕ) (cells : List Cell) (f : Frame) (stack : List Frame) →
    Turns code pattern text cells f Edge → Goes code pattern text start place cells f stack →
    Ends (IsOf pattern) code text start place cells More
ends-edge code pattern text start place cells f stack t goes rows blank mean rank m e =
    ap (λ l. slice_get l 0) (goes-now code pattern text start place cells f stack Edge t goes blank mean rank
    (same-rows code pattern rows text blank mean rank e m))

pub ends-none : (code : List Instr) (pattern : Rows) (text : Text) (start place : ℕ) (cells : List Cell) (f : Frame) (stack : List Frame) →
    stack ≡ [] →
    Turns code pattern text cells f Back → Goes code pattern text start place cells f stack →
    Ends (IsOf pattern) code text start place cells No
ends-none code pattern text start place cells f stack none t goes rows blank mean rank m e =
    ap (λ l. slice_get l 0) (goes-now code pattern text start place cells f stack Back t goes blank mean rank
    (same-rows code pattern rows text blank mean rank e m)
    ∙ ap (stack_ways (frame_ways mean cells)) none)

pub grown-more : {cells new : List Cell} → Grown cells new → length cells ≤ length new
grown-more {cells} {new} g = let n = ap length g.is in omega (arith, n, length-append cells g.added)

-- ---- a pattern that was written out

no-look : (asks : List Lookahead) (code : List Instr) → asks ≡ [] → AllAsked asks code → HasNoLook code
no-look asks code none all pc piece next e =
    let a = all pc piece next e in
    let got : slice_get [] a.k ≡ Some a.ask = subst (λ l. slice_get l a.k ≡ Some a.ask) none a.at in
    let h = slice_get_within [] a.k a.ask got in
    omega (arith, h)

pub plain-code : (rows : Rows) (program : Program) (code : List Instr) → code ≡ program.code.items → program.asks.items ≡ [] →
    IsWritten rows program → IsPlainCode rows code
plain-code rows program code is none w =
    subst (IsPlainCode rows) (sym is)
    (record {
      targets = program-code rows (tree rows) program.code.items program.start w.code;
      sets = program-sets rows (tree rows) program.code.items program.start (length rows) w.code refl;
      plain = no-look program.asks.items program.code.items none w.asked;
    })

-- what stands for the head of the ways of the code does so for those of the pattern
pub settled-head : (rows : Rows) (program : Program) (code : List Instr) (text : Text) (place : ℕ) (cells : List Cell) (best : Best)
    (blank : List (Option (ℕ × ℕ))) →
    code ≡ program.code.items → IsWritten rows program → place ≤ length text.bytes →
    Ends (IsOf rows) code text program.start place cells best →
    slice_get (ways (tree rows) text (at place blank)) 0 ≡ slice_get (best_ways blank cells best) 0
settled-head rows program code text place cells best blank is w le e =
    program-head (IsOf rows) rows (tree rows) code text program.start place cells best blank
    (subst (λ c. IsProgram rows (tree rows) c program.start) (sym is) w.code) refl le e

-- ---- a look at the next byte

pub not-true : (b : Bool) → not b ≡ true → b ≡ false
not-true true e = sym e
not-true false e = refl
