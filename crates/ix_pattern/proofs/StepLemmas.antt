-- What a step of the reader comes to.
use Rattle.std.proofs.Common.{◌≡◌, ℕ, ◌+◌, ◌≤◌, true, false, List, [], ◌∷◌, ◌++◌, Option, Some, None, Vec, Global, refl, sym, ◌∙◌, ap}
use Rattle.std.proofs.Common.{subst, arith, add-zero}
use Rattle.std.specs.Option.{is_some}
use Rattle.ix_pattern.specs.Rows.{Rows, byte_pieces}
use Rattle.ix_pattern.specs.Made.{Made}
use Rattle.ix_pattern.specs.Parts.{Grew, GrewBy}
use Rattle.ix_pattern.specs.Syntax.{Syntax, done, bar, leaf, paren, groups, opened, may_hold}
use Rattle.ix_pattern.specs.Run.{Level, level, State, state, step, opened_level}
use Rattle.ix_pattern.specs.Frames.{IsFrame, AreFrames, IsReading, Holds, Goes, Stepped}
use Rattle.ix_pattern.specs.declared.frames.Frame.{Frame}
use Rattle.ix_pattern.specs.declared.reader.Reader.{Reader}
use Rattle.ix_pattern.specs.declared.tokens.Leaf.{Leaf}
use Rattle.ix_pattern.specs.declared.tokens.Opening.{Opening}
use Rattle.ix_pattern.specs.declared.tokens.Repeat.{Repeat}
use Rattle.ix_pattern.specs.declared.tokens.Token.TheVariants as token
use Rattle.ix_pattern.proofs.FrameLemmas.{lift-frames, frame-holds}

pub reading-holds : (reader : Reader) (st : State) → IsReading reader st → Holds reader.work.rows reader.here
reading-holds reader (state (level times s) levels) r = frame-holds reader.work reader.opened reader.here times s r.0

pub leaf-stepped : (old : Reader) (work : Made) (here : Frame) (l : Leaf) → GrewBy 1 old.work work →
    ((n : ℕ) (times : Option Repeat) (s : Syntax) → IsFrame old.work.rows n old.here times s →
    IsFrame work.rows n here None (leaf l times s)) →
    Stepped (token.Leaf l) true old (record old { work = work; here = here })
leaf-stepped old work here l g m = record { goes = goes; left = λ t. add-zero old.opened; known = g.groups; bytes = g.bytes }
  where
    goes : (st : State) → IsReading old st → Goes true (step (token.Leaf l) st) (record old { work = work; here = here })
    goes (state (level times s) levels) r = (
      m old.opened times s r.0,
      lift-frames old.work work (old.opened + groups s) old.outer.items levels g r.1,
    )

pub bar-stepped : (old : Reader) (work : Made) (here : Frame) → old.here.waiting ≡ None → Grew old.work work →
    ((n : ℕ) (s : Syntax) → IsFrame old.work.rows n old.here None s → IsFrame work.rows n here None (bar s)) →
    Stepped token.Bar true old (record old { work = work; here = here })
bar-stepped old work here e g m = record { goes = goes; left = λ t. add-zero old.opened; known = g.groups; bytes = g.bytes }
  where
    goes : (st : State) → IsReading old st → Goes true (step token.Bar st) (record old { work = work; here = here })
    goes (state (level None s) levels) r = (
      m old.opened s r.0,
      lift-frames old.work work (old.opened + groups s) old.outer.items levels g r.1,
    )
    goes (state (level (Some times) s) levels) r = absurd (let w = r.0.waits in cc)

pub close-stepped : (old : Reader) (outer : Vec Frame Global) (here : Frame) → outer.items ≡ old.outer.items ++ old.here ∷ [] →
    ((rows : Rows) (n : ℕ) → IsFrame rows n here None done) →
    Stepped token.Close true old (record old { here = here; outer = outer })
close-stepped old outer here e m = record { goes = goes; left = λ t. add-zero old.opened; known = refl; bytes = omega arith }
  where
    goes : (st : State) → IsReading old st → Goes true (step token.Close st) (record old { here = here; outer = outer })
    goes (state (level times s) levels) r = (
      m old.work.rows old.opened,
      subst (λ k. AreFrames old.work.rows k outer.items (level times s ∷ levels)) (sym (add-zero old.opened))
          (old.outer.items, old.here, e, r.0, r.1),
    )

-- ---- an opening parenthesis

pub snoc-nil : {A : Type 0} (xs : List A) (x : A) → xs ++ x ∷ [] ≡ [] → ⊥
snoc-nil [] x e = absurd (cc)
snoc-nil (y ∷ xs) x e = absurd (cc)

snoc-same : {A : Type 0} (xs ys : List A) (x y : A) → xs ++ x ∷ [] ≡ ys ++ y ∷ [] → (xs ≡ ys) × (x ≡ y)
snoc-same [] [] x y e = (refl, cc)
snoc-same [] (b ∷ ys) x y e = absurd (snoc-nil ys y (let f : [] ≡ ys ++ y ∷ [] = cc in sym f))
snoc-same (a ∷ xs) [] x y e = absurd (snoc-nil xs x (let f : xs ++ x ∷ [] ≡ [] = cc in f))
snoc-same (a ∷ xs) (b ∷ ys) x y e =
    let f : xs ++ x ∷ [] ≡ ys ++ y ∷ [] = cc in
    let g : a ≡ b = cc in
    let i = snoc-same xs ys x y f in
    (rw (g, i.0) refl, i.1)

-- the innermost of some levels
pub record Popped (rows : Rows) (n : ℕ) (front : List Frame) (f : Frame) (levels : List Level) : Type 0 where
  pub times : Option Repeat
  pub s : Syntax
  pub rest : List Level
  pub levels_are : levels ≡ level times s ∷ rest
  pub here : IsFrame rows n f times s
  pub outer : AreFrames rows (n + groups s) front rest

popped : (rows : Rows) (n : ℕ) (items front : List Frame) (f : Frame) (levels : List Level) → AreFrames rows n items levels →
    items ≡ front ++ f ∷ [] → Popped rows n front f levels
popped rows n items front f [] a e = absurd (snoc-nil front f (sym e ∙ a))
popped rows n items front f (level times s ∷ rest) a e =
    let same = snoc-same a.0 front a.1 f (sym a.2 ∙ e) in
    record {
      times = times;
      s = s;
      rest = rest;
      levels_are = refl;
      here = subst (λ g. IsFrame rows n g times s) same.1 a.3;
      outer = subst (λ g. AreFrames rows (n + groups s) g rest) same.0 a.4;
    }

pub popped-holds : (reader : Reader) (st : State) (front : List Frame) (f : Frame) → IsReading reader st → reader.outer.items ≡ front ++ f
    ∷ [] →
    Holds reader.work.rows f
popped-holds reader (state (level times s) levels) front f r e =
    let p = popped reader.work.rows (reader.opened + groups s) reader.outer.items front f levels r.1 e in
    frame-holds reader.work (reader.opened + groups s) f p.times p.s p.here

not-opened : (old new : Reader) (opening : Opening) → new.work ≡ old.work →
    ((st : State) → IsReading old st → step (token.Open opening) st ≡ None) → Stepped (token.Open opening) false old new
not-opened old new opening g m = record {
  goes = λ st r. subst (λ o. Goes false o new) (sym (m st r)) tt;
  left = λ t. absurd (cc);
  known = ap (λ (m : Made). m.groups) g;
  bytes = omega (arith, ap (λ (m : Made). byte_pieces m.rows) g);
}

pub waiting-stepped : (old : Reader) (opening : Opening) → is_some old.here.waiting ≡ true → Stepped (token.Open opening) false old old
waiting-stepped old opening e = not-opened old old opening refl none
  where
    none : (st : State) → IsReading old st → step (token.Open opening) st ≡ None
    none (state (level None within) levels) r = absurd (let w = r.0.waits in let f : is_some old.here.waiting ≡ false = rw w refl in cc)
    none (state (level (Some times) within) levels) r = refl

pub held-stepped : (old : Reader) (opening : Opening) → may_hold opening old.here.plain ≡ false → Stepped (token.Open opening) false old old
held-stepped old opening e = not-opened old old opening refl none
  where
    none : (st : State) → IsReading old st → step (token.Open opening) st ≡ None
    none (state (level None within) []) r = refl
    none (state (level None within) (level times s ∷ levels)) r = rw (sym r.0.plain, e) refl
    none (state (level (Some times) within) levels) r = refl

pub outermost-stepped : (old : Reader) (outer : Vec Frame Global) (opening : Opening) → old.outer.items ≡ [] →
    Stepped (token.Open opening) false old (record old { outer = outer })
outermost-stepped old outer opening e = not-opened old (record old { outer = outer }) opening refl none
  where
    none : (st : State) → IsReading old st → step (token.Open opening) st ≡ None
    none (state (level None within) []) r = refl
    none (state (level None within) (level times s ∷ levels)) r = absurd (snoc-nil r.1.0 r.1.1 (sym r.1.2 ∙ e))
    none (state (level (Some times) within) levels) r = refl

pub open-stepped : (old : Reader) (work : Made) (here f : Frame) (outer : Vec Frame Global) (left : ℕ) (opening : Opening) →
    old.here.waiting ≡ None → may_hold opening old.here.plain ≡ true → old.outer.items ≡ outer.items ++ f ∷ [] → Grew old.work work →
    left + opened opening ≡ old.opened →
    ((n : ℕ) (times : Option Repeat) (within s : Syntax) → old.opened ≡ n + opened opening →
    IsFrame old.work.rows old.opened old.here None within →
    IsFrame old.work.rows (old.opened + groups within) f times s → IsFrame work.rows n here None (paren opening within times s)) →
    Stepped (token.Open opening) true old (record { work = work; here = here; outer = outer; opened = left })
open-stepped old work here f outer left opening w h e g l m = record { goes = goes; left = λ t. l; known = g.groups; bytes = g.bytes }
  where
    go : (within : Syntax) (levels : List Level) → IsFrame old.work.rows old.opened old.here None within →
        Popped old.work.rows (old.opened + groups within) outer.items f levels →
        Goes true (opened_level opening within levels) (record { work = work; here = here; outer = outer; opened = left })
    go within levels r p =
        rw (p.levels_are, sym r.plain, h) (
          m left p.times within p.s (sym l) r p.here,
          subst (λ k. AreFrames work.rows k outer.items p.rest) (omega (arith, l))
              (lift-frames old.work work (old.opened + groups within + groups p.s) outer.items p.rest g p.outer),
        )

    goes : (st : State) → IsReading old st → Goes true (step (token.Open opening) st)
        (record { work = work; here = here; outer = outer; opened = left })
    goes (state (level None within) levels) r =
        go within levels r.0 (popped old.work.rows (old.opened + groups within) old.outer.items outer.items f levels r.1 e)
    goes (state (level (Some times) within) levels) r = absurd (let v = r.0.waits in cc)

pub none-waits : {A : Type 0} (o : Option A) → is_some o ≡ false → o ≡ None
none-waits None e = refl
none-waits (Some x) e = absurd (cc)
