-- A history written anew comes to the same.
use Rattle.std.proofs.Common.{◌≡◌, ℕ, zero, suc, ◌+◌, ◌*◌, ◌-◌, ◌<◌, ◌≤◌, List, [], ◌∷◌, ◌++◌, length, Some, None, refl, sym, ◌∙◌, ap}
use Rattle.std.proofs.Common.{subst, arith, length-append, length-set, reverse, replicate, drop, take}
use Rattle.std.specs.Prelude.{slice_get, slice_set}
use Rattle.std.proofs.lemmas.List.{append-nil, reverse-append}
use Rattle.std.proofs.lemmas.Option.{slice_get_within}
use Rattle.ix_pattern.specs.Ways.{Text, ends_at}
use Rattle.ix_pattern.specs.Rows.{Rows}
use Rattle.ix_pikevm.specs.declared.code.Instr.{Instr}
use Rattle.ix_pikevm.specs.declared.cells.Event.{Event}
use Rattle.ix_pikevm.specs.declared.cells.Event.TheVariants.{Began, Ended}
use Rattle.ix_pikevm.specs.declared.cells.Cell.{Cell}
use Rattle.ix_pikevm.specs.declared.cells.Thread.{Thread}
use Rattle.ix_pikevm.specs.declared.cells.Best.{Best}
use Rattle.ix_pikevm.specs.declared.cells.Best.TheVariants.{No, End, More}
use Rattle.ix_pikevm.specs.Code.{Mean, Meaning, Spans, ended, replay, history, thread_ways, list_ways, best_ways}
use Rattle.ix_pikevm.specs.Replays.{replay_one, spans}
use Rattle.ix_pikevm.specs.Acts.{AllKnown}
use Rattle.ix_pikevm.specs.Ran.{Goes, Grown}
use Rattle.ix_pikevm.specs.Tidied.{Groups, AllFit, over, ComesTo, comes, IsAnew, AreAnew, IsBestAnew, IsNarrow, AllNarrow, Tidies}
use Rattle.ix_pikevm.proofs.HistoryLemmas.{history-stays, history-newest}
use Rattle.ix_pikevm.proofs.ReplayLemmas.{replay-cons}
use Rattle.ix_pikevm.proofs.CoverLemmas.{list_ways-append}
use Rattle.ix_pikevm.proofs.StepLemmas.{drop-get}

-- ---- groups over groups

over-nil : (before : Groups) → over before [] ≡ before
over-nil [] = refl
over-nil (g ∷ before) = refl

over-none : (before : Groups) (n : ℕ) → over before (replicate n None) ≡ before
over-none [] n = refl
over-none (g ∷ before) zero = refl
over-none (g ∷ before) (suc n) = ap (λ l. g ∷ l) (over-none before n)

over-set : (before groups : Groups) (k : ℕ) (span : ℕ × ℕ) → k < length groups →
    over before (slice_set groups k (Some span)) ≡ slice_set (over before groups) k (Some span)
over-set [] groups k span h = refl
over-set (g ∷ before) [] k span h = absurd (omega (arith, h))
over-set (g ∷ before) (None ∷ groups) zero span h = refl
over-set (g ∷ before) (Some s ∷ groups) zero span h = refl
over-set (g ∷ before) (None ∷ groups) (suc k) span h = ap (λ l. g ∷ l) (over-set before groups k span (omega (arith, h)))
over-set (g ∷ before) (Some s ∷ groups) (suc k) span h = ap (λ l. Some s ∷ l) (over-set before groups k span (omega (arith, h)))

-- the last of them
over-last : (before groups : Groups) (span : ℕ × ℕ) → over before (groups ++ Some span
    ∷ []) ≡ slice_set (over before groups) (length groups) (Some span)
over-last [] groups span = refl
over-last (g ∷ before) [] span = ap (λ l. Some span ∷ l) (over-nil before)
over-last (g ∷ before) (None ∷ groups) span = ap (λ l. g ∷ l) (over-last before groups span)
over-last (g ∷ before) (Some s ∷ groups) span = ap (λ l. Some s ∷ l) (over-last before groups span)

over-left : (before groups : Groups) → over before (groups ++ None ∷ []) ≡ over before groups
over-left [] groups = refl
over-left (g ∷ before) [] = ap (λ l. g ∷ l) (over-nil before)
over-left (g ∷ before) (None ∷ groups) = ap (λ l. g ∷ l) (over-left before groups)
over-left (g ∷ before) (Some s ∷ groups) = ap (λ l. Some s ∷ l) (over-left before groups)

-- ---- what events come to, by what they come to where no group has taken part

abbrev pub apart : ℕ → List Event → Spans
apart n events = replay (replicate n None) events

ended-length : (number place : ℕ) (groups : Groups) (began : List ℕ) → length (ended number place groups began).groups ≡ length groups
ended-length number place groups [] = refl
ended-length number place groups (from ∷ began) = length-set groups (number - 1) (Some (from, place))

abbrev nones : ℕ → Groups
nones n = replicate n None

none-length : (n : ℕ) → length (nones n) ≡ n
none-length zero = refl
none-length (suc n) = ap suc (none-length n)

apart-length : (n : ℕ) (events : List Event) → length (apart n events).groups ≡ n
apart-length n [] = none-length n
apart-length n (Began place ∷ events) = apart-length n events
apart-length n (Ended number place ∷ events) = ended-length number place (apart n events).groups (apart n events).began
    ∙ apart-length n events

abbrev spread : Groups → Spans → Spans
spread before s = record { began = s.began; groups = over before s.groups }

ended-over : (number place : ℕ) (before groups : Groups) (began : List ℕ) → number - 1 < length groups →
    ended number place (over before groups) began ≡ spread before (ended number place groups began)
ended-over number place before groups [] h = refl
ended-over number place before groups (from ∷ began) h =
    ap (λ g. record { began = began; groups = g }) (sym (over-set before groups (number - 1) (from, place) h))

replay-over : (n : ℕ) (events : List Event) → AllFit n events → (before : Groups) → replay before events ≡ spread before (apart n events)
replay-over n [] fit before = ap (λ g. record { began = []; groups = g }) (sym (over-none before n))
replay-over n (Began place ∷ events) fit before = ap (λ s. record { began = place ∷ s.began; groups = s.groups })
    (replay-over n events fit before)
replay-over n (Ended number place ∷ events) fit before =
    ap (λ s. ended number place s.groups s.began) (replay-over n events fit.1 before)
    ∙ ended-over number place before (apart n events).groups (apart n events).began (let l = apart-length n events in
    omega (arith, l, fit.0))

pub comes-apart : (n : ℕ) (cells : List Cell) (trail : ℕ) (events : List Event) (began : List ℕ) (groups before : Groups) →
    events ≡ history cells trail → AllFit n events →
    spans began groups ≡ apart n events → record { began = reverse began; groups = over before groups } ≡ comes cells trail before
comes-apart n cells trail events began groups before is fit s =
    ap (spread before) s ∙ sym (replay-over n events fit before) ∙ ap (replay before) is

-- ---- room for the groups

AllFit-more : (m n : ℕ) (events : List Event) → m ≤ n → AllFit m events → AllFit n events
AllFit-more m n [] h f = tt
AllFit-more m n (Began place ∷ events) h f = AllFit-more m n events h f
AllFit-more m n (Ended number place ∷ events) h f = (omega (arith, h, f.0), AllFit-more m n events h f.1)

pub fit-began : (n i k : ℕ) (place : ℕ) (events : List Event) → k ≡ suc i → slice_get events i ≡ Some (Began place) →
    AllFit n (drop k events) → AllFit n (drop i events)
fit-began n i k place events e got f =
    subst (AllFit n) (sym (drop-get events i (Began place) got)) (subst (λ j. AllFit n (drop j events)) e f)

pub fit-ended : (m n i k : ℕ) (number place : ℕ) (events : List Event) → k ≡ suc i → slice_get events i ≡ Some (Ended number place) →
    m ≤ n → number - 1 < n →
    AllFit m (drop k events) → AllFit n (drop i events)
fit-ended m n i k number place events e got h lt f =
    subst (AllFit n) (sym (drop-get events i (Ended number place) got)) (
      lt,
      AllFit-more m n (drop (suc i) events) h (subst (λ j. AllFit m (drop j events)) e f),
    )

pub fit-none : (n : ℕ) (events : List Event) → AllFit n (drop (length events) events)
fit-none n [] = tt
fit-none n (e ∷ events) = fit-none n events

fit-rest : (n : ℕ) (e : Event) (events : List Event) → AllFit n (e ∷ events) → AllFit n events
fit-rest n (Began place) events f = f
fit-rest n (Ended number place) events f = f.1

pub fit-at : (n : ℕ) (events : List Event) (i number place : ℕ) → slice_get events i ≡ Some (Ended number place) → AllFit n events →
    number - 1 < n
fit-at n [] i number place e f = absurd (let h = slice_get_within [] i (Ended number place) e in omega (arith, h))
fit-at n (x ∷ events) zero number place e f = let is : x ≡ Ended number place = cc in (subst (λ y. AllFit n (y ∷ events)) is f).0
fit-at n (x ∷ events) (suc i) number place e f = fit-at n events i number place e (fit-rest n x events f)

length-reverse : {A : Type 0} (xs : List A) → length (reverse xs) ≡ length xs
length-reverse [] = refl
length-reverse (x ∷ xs) = ap length (reverse-append (x ∷ []) xs) ∙ length-append (reverse xs) (x ∷ [])
    ∙ (let l = length-reverse xs in omega (arith, l))

pub trail-short : (m groups nested : ℕ) (cells : List Cell) (trail : ℕ) (events : List Event) (began : List ℕ) (made : Groups) →
    events ≡ history cells trail → AllFit m events →
    ((n : ℕ) → AllFit n events → m ≤ n) → spans began made ≡ apart m events → IsNarrow groups nested (history cells trail) →
    2 * length made + length began ≤ 2 * groups + nested
trail-short m groups nested cells trail events began made is fit least s narrow =
    let few = least groups (subst (AllFit groups) (sym is) narrow.fit) in
    let all : length made ≡ m = ap (λ t. length t.groups) s ∙ apart-length m events in
    let same : (replay [] events).began ≡ reverse began = ap (λ t. t.began) (replay-over m events fit []) ∙ sym (ap (λ t. t.began) s) in
    let long : length began ≡ length (replay [] (history cells trail)).began = sym (length-reverse began) ∙ ap length (sym same)
    ∙ ap (λ h. length (replay [] h).began) is in
    let left = narrow.left in
    omega (arith, few, all, long, left)

pub narrow-at : (groups nested : ℕ) (cells : List Cell) (ts : List Thread) (i : ℕ) (t : Thread) → slice_get ts i ≡ Some t →
    AllNarrow groups nested cells ts → IsNarrow groups nested (history cells t.trail)
narrow-at groups nested cells [] i t e a = absurd (let h = slice_get_within [] i t e in omega (arith, h))
narrow-at groups nested cells (s ∷ ts) zero t e a = let is : s ≡ t = cc in
    subst (λ u. IsNarrow groups nested (history cells u.trail)) is a.0
narrow-at groups nested cells (s ∷ ts) (suc i) t e a = narrow-at groups nested cells ts i t e a.1

pub times-more : (k w : ℕ) → (k + 1) * w ≡ k * w + w
times-more k w = omega arith

-- ---- trails

pub take-next : {A : Type 0} (xs : List A) (i : ℕ) (x : A) → slice_get xs i ≡ Some x → take (i + 1) xs ≡ take i xs ++ x ∷ []
take-next {A = A} xs i x e = ap (λ n. take n xs) (let f : i + 1 ≡ suc i = omega arith in f) ∙ next xs i e
  where
    next : (ys : List A) (k : ℕ) → slice_get ys k ≡ Some x → take (suc k) ys ≡ take k ys ++ x ∷ []
    next [] k e = absurd (let h = slice_get_within [] k x e in omega (arith, h))
    next (y ∷ ys) zero e = let f : y ≡ x = cc in ap (λ z. z ∷ []) f
    next (y ∷ ys) (suc k) e = ap (λ l. y ∷ l) (next ys k e)

pub comes-grown : (old new : List Cell) (trail : ℕ) (f : Groups → Spans) → Grown old new → ComesTo old trail f → ComesTo new trail f
comes-grown old new trail f g c =
    record {
      within = (let l = ap length g.is in let k = length-append old g.added in omega (arith, l, k, c.within));
      same = λ before. ap (replay before) (ap (λ l. history l trail) g.is ∙ history-stays old g.added trail c.within) ∙ c.same before;
    }

pub comes-same : (cells : List Cell) (trail : ℕ) (f g : Groups → Spans) → ((before : Groups) → f before ≡ g before) →
    ComesTo cells trail f → ComesTo cells trail g
comes-same cells trail f g e c = record { within = c.within; same = λ before. c.same before ∙ e before }

pub comes-added : (old new : List Cell) (event : Event) (earlier t : ℕ) (f : Groups → Spans) → t ≡ length old + 1 → new ≡ old
    ++ record { event = event; earlier = earlier } ∷ [] →
    ComesTo old earlier f → ComesTo new t (λ before. replay_one event (f before))
comes-added old new event earlier t f at is c =
    record {
      within = (let l = ap length is in let k = length-append old (record { event = event; earlier = earlier } ∷ []) in
          omega (arith, l, k, at));
      same = λ before.
          ap (replay before) (ap (λ n. history new n) at ∙ ap (λ l. history l (length old + 1)) is
          ∙ history-newest old (record { event = event; earlier = earlier }))
          ∙ replay-cons before event (history old earlier) ∙ ap (replay_one event) (c.same before);
    }

pub comes-nothing : (cells : List Cell) → ComesTo cells 0 (λ before. record { began = []; groups = over before [] })
comes-nothing cells = record { within = omega arith; same = λ before. ap (λ g. record { began = []; groups = g }) (sym (over-nil before)) }

pub comes-left : (cells : List Cell) (trail : ℕ) (groups : Groups) →
    ComesTo cells trail (λ before. record { began = []; groups = over before groups }) →
    ComesTo cells trail (λ before. record { began = []; groups = over before (groups ++ None ∷ []) })
comes-left cells trail groups c =
    comes-same cells trail (λ before. record { began = []; groups = over before groups })
    (λ before. record { began = []; groups = over before (groups ++ None ∷ []) })
    (λ before. ap (λ g. record { began = []; groups = g }) (sym (over-left before groups))) c

pub comes-group : (cells : List Cell) (trail number from place : ℕ) (groups : Groups) → number ≡ length groups + 1 →
    ComesTo cells trail (λ before. replay_one (Ended number place)
    (replay_one (Began from) (record { began = []; groups = over before groups }))) →
    ComesTo cells trail (λ before. record { began = []; groups = over before (groups ++ Some (from, place) ∷ []) })
comes-group cells trail number from place groups e c =
    comes-same cells trail (λ before. record { began = []; groups = slice_set (over before groups) (number - 1) (Some (from, place)) })
    (λ before. record { began = []; groups = over before (groups ++ Some (from, place) ∷ []) })
    (λ before. ap (λ g. record { began = []; groups = g })
    (ap (λ k. slice_set (over before groups) k (Some (from, place))) (let f : number - 1 ≡ length groups = omega (arith, e) in f)
    ∙ sym (over-last before groups (from, place)))) c

pub comes-open : (cells : List Cell) (trail place : ℕ) (began : List ℕ) (groups : Groups → Groups) →
    ComesTo cells trail (λ before. replay_one (Began place) (record { began = reverse began; groups = groups before })) →
    ComesTo cells trail (λ before. record { began = reverse (began ++ place ∷ []); groups = groups before })
comes-open cells trail place began groups c =
    comes-same cells trail (λ before. record { began = place ∷ reverse began; groups = groups before })
    (λ before. record { began = reverse (began ++ place ∷ []); groups = groups before })
    (λ before. ap (λ l. record { began = l; groups = groups before }) (sym (reverse-append began (place ∷ [])))) c

-- ---- threads

pub anew-grown : (old : List Cell) (ts : List Thread) (new more : List Cell) (us : List Thread) → Grown new more → AreAnew old ts new us →
    AreAnew old ts more us
anew-grown old [] new more [] g a = tt
anew-grown old [] new more (u ∷ us) g a = absurd a
anew-grown old (t ∷ ts) new more [] g a = absurd a
anew-grown old (t ∷ ts) new more (u ∷ us) g a =
    (record { pc = a.0.pc; trail = comes-grown new more u.trail (comes old t.trail) g a.0.trail }, anew-grown old ts new more us g a.1)

pub anew-push : (old : List Cell) (ts : List Thread) (new : List Cell) (us : List Thread) (t u : Thread) → AreAnew old ts new us →
    IsAnew old t new u → AreAnew old (ts ++ t ∷ []) new (us ++ u ∷ [])
anew-push old [] new [] t u a is = (is, tt)
anew-push old [] new (v ∷ us) t u a is = absurd a
anew-push old (s ∷ ts) new [] t u a is = absurd a
anew-push old (s ∷ ts) new (v ∷ us) t u a is = (a.0, anew-push old ts new us t u a.1 is)

pub anew-known : (n c : ℕ) (old : List Cell) (ts : List Thread) (new : List Cell) (us : List Thread) → AreAnew old ts new us →
    AllKnown n c ts → AllKnown n (length new) us
anew-known n c old [] new [] a k = tt
anew-known n c old [] new (u ∷ us) a k = absurd a
anew-known n c old (t ∷ ts) new [] a k = absurd a
anew-known n c old (t ∷ ts) new (u ∷ us) a k = ((omega (arith, a.0.pc, k.0.0), a.0.trail.within), anew-known n c old ts new us a.1 k.1)

pub anew-after : (from old : List Cell) (ts threads : List Thread) (new more : List Cell) (us : List Thread) → from ≡ old → ts ≡ threads →
    AreAnew from ts new us → Grown new more → AreAnew old threads more us
anew-after from old ts threads new more us e f a g = anew-grown old threads new more us g
    (subst (λ l. AreAnew old l new us) f (subst (λ l. AreAnew l ts new us) e a))

-- ---- the ways of them

anew-history : (old new later : List Cell) (t u : ℕ) → ComesTo new u (comes old t) → (before : Groups) →
    replay before (history (new ++ later) u) ≡ replay before (history (old ++ []) t)
anew-history old new later t u c before =
    ap (replay before) (history-stays new later u c.within) ∙ c.same before ∙ ap (λ l. replay before (history l t)) (sym (append-nil old))

anew-ways : (code : List Instr) (rows : Rows) (text : Text) (blank : Groups) (mean : Mean) (rank : ℕ → ℕ) →
    Meaning code rows text blank mean rank → (p : ℕ) (old new later : List Cell) (t u : Thread) →
    IsAnew old t new u → thread_ways mean (new ++ later) p u ≡ thread_ways mean (old ++ []) p t
anew-ways code rows text blank mean rank m p old new later t u a =
    ap (λ pc. mean pc (history (new ++ later) u.trail) p) a.pc
    ∙ m.spans t.pc p (history (new ++ later) u.trail) (history (old ++ []) t.trail)
    (anew-history old new later t.trail u.trail a.trail blank)

all-ways : (code : List Instr) (rows : Rows) (text : Text) (blank : Groups) (mean : Mean) (rank : ℕ → ℕ) →
    Meaning code rows text blank mean rank → (p : ℕ) (old new later : List Cell) (ts us : List Thread) →
    AreAnew old ts new us → list_ways (thread_ways mean (new ++ later) p) (reverse us) ≡ list_ways (thread_ways mean (old ++ []) p)
    (reverse ts)
all-ways code rows text blank mean rank m p old new later [] [] a = refl
all-ways code rows text blank mean rank m p old new later [] (u ∷ us) a = absurd a
all-ways code rows text blank mean rank m p old new later (t ∷ ts) [] a = absurd a
all-ways code rows text blank mean rank m p old new later (t ∷ ts) (u ∷ us) a =
    ap (list_ways (thread_ways mean (new ++ later) p)) (reverse-append (u ∷ []) us)
    ∙ list_ways-append (thread_ways mean (new ++ later) p) (reverse us) (u ∷ [])
    ∙ ap (λ l. l ++ (thread_ways mean (new ++ later) p u ++ [])) (all-ways code rows text blank mean rank m p old new later ts us a.1)
    ∙ ap (λ l. list_ways (thread_ways mean (old ++ []) p) (reverse ts)
    ++ (l ++ [])) (anew-ways code rows text blank mean rank m p old new later t u a.0)
    ∙ sym (list_ways-append (thread_ways mean (old ++ []) p) (reverse ts) (t ∷ []))
    ∙ ap (list_ways (thread_ways mean (old ++ []) p)) (sym (reverse-append (t ∷ []) ts))

anew-best : (blank : Groups) (old new later : List Cell) (before after : Best) → IsBestAnew old before new after →
    best_ways blank (new ++ later) after ≡ best_ways blank (old ++ []) before
anew-best blank old new later No after a = ap (best_ways blank (new ++ later)) a
anew-best blank old new later (End place trail) after a =
    ap (best_ways blank (new ++ later)) a.1
    ∙ ap (λ s. ends_at (record { place = place; groups = s.groups }) ∷ []) (anew-history old new later trail a.0 a.2 blank)
anew-best blank old new later More after a = ap (best_ways blank (new ++ later)) a

pub tidies : (code : List Instr) (old : List Cell) (ts : List Thread) (before : Best) (new : List Cell) (us : List Thread) (after : Best) →
    AreAnew old ts new us → IsBestAnew old before new after →
    Tidies code old ts before new us after
tidies code old ts before new us after a b rows text blank mean rank m p goal head later =
    ap (λ l. slice_get (l ++ best_ways blank (new ++ later) after) 0) (all-ways code rows text blank mean rank m p old new later ts us a)
    ∙ ap (λ l. slice_get (list_ways (thread_ways mean (old ++ []) p) (reverse ts) ++ l) 0) (anew-best blank old new later before after b)
    ∙ head []

pub goes-tidied : (known : Rows → Type 0) (code : List Instr) (text : Text) (start place p : ℕ) (old : List Cell) (ts : List Thread)
    (before : Best) (new : List Cell) (us : List Thread) (after : Best) →
    Tidies code old ts before new us after → Goes known code text start place p old ts before →
    Goes known code text start place p new us after
goes-tidied known code text start place p old ts before new us after d g rows blank mean rank m kn =
    d rows text blank mean rank m p (slice_get (mean start [] place) 0) (g rows blank mean rank m kn)

-- ---- cells that are added

pub room-both : (old mid new groups began made nested : ℕ) → groups ≡ made → began ≡ nested → mid ≤ old + 2 * groups → new ≤ mid + began →
    new ≤ old + (2 * made + nested)
room-both old mid new groups began made nested g b first more = omega arith

pub room-less : (old new few many : ℕ) → new ≤ old + few → few ≤ many → new ≤ old + many
room-less old new few many fits less = omega arith
