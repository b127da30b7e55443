-- Reading all tokens.
use Rattle.std.proofs.Common.{◌≡◌, ℕ, ◌+◌, ◌≤◌, Bool, true, false, List, [], ◌∷◌, ◌++◌, Option, Some, None, refl, sym, ◌∙◌, ap, subst}
use Rattle.std.proofs.Common.{arith, append-nil, append_assoc, count_by, cond, Vec, Global}
use Rattle.ix_pattern.specs.Syntax.{opened, done}
use Rattle.ix_pattern.specs.Rows.{Rows, byte_pieces}
use Rattle.ix_pattern.specs.Made.{Made}
use Rattle.ix_pattern.specs.declared.frames.Frame.{Frame}
use Rattle.std.proofs.lemmas.List.Sums.{sum_by-cons}
use Rattle.ix_pattern.specs.Tokens.{◌>>=◌}
use Rattle.ix_pattern.specs.Run.{level, State, state, step, run}
use Rattle.ix_pattern.specs.Frames.{IsFrame, Goes, Stepped, CanStep, captures, leaves, leaf_of, opened_by, is_capture, HasRead, ReadsAll}
use Rattle.ix_pattern.specs.declared.reader.Reader.{Reader}
use Rattle.ix_pattern.specs.declared.tokens.Opening.TheVariants.{Capture, Plain, Ahead}
use Rattle.ix_pattern.specs.declared.tokens.Token.{Token}
use Rattle.ix_pattern.specs.declared.tokens.Token.TheVariants.{Leaf, Open, Close, Bar, Count}

captures-snoc : (xs : List Token) (t : Token) → captures (xs ++ t ∷ []) ≡ captures xs + opened_by t
captures-snoc [] t = omega arith
captures-snoc (x ∷ xs) t = omega (arith, captures-snoc xs t)

pub captures-append : (xs ys : List Token) → captures (xs ++ ys) ≡ captures xs + captures ys
captures-append [] ys = omega arith
captures-append (x ∷ xs) ys = omega (arith, captures-append xs ys)

pub leaves-append : (xs ys : List Token) → leaves (xs ++ ys) ≡ leaves xs + leaves ys
leaves-append [] ys = omega arith
leaves-append (x ∷ xs) ys = omega (arith, leaves-append xs ys)

one-capture : (t : Token) → cond (is_capture t) 1 0 ≡ opened_by t
one-capture (Leaf l) = refl
one-capture (Open Capture) = refl
one-capture (Open Plain) = refl
one-capture (Open (Ahead wanted)) = refl
one-capture Close = refl
one-capture Bar = refl
one-capture (Count repeat) = refl

pub captures-count : (ts : List Token) → count_by is_capture ts ≡ captures ts
captures-count [] = refl
captures-count (t ∷ ts) =
    sum_by-cons (λ x. cond (is_capture x) 1 0) t ts
    ∙ ap (λ n. cond (is_capture t) 1 0 + n) (captures-count ts)
    ∙ ap (λ n. n + captures ts) (one-capture t)

-- the reader has read the tokens behind those that are left
pub record HasCome (reader : Reader) (all left : List Token) : Type 0 where
  pub read : List Token
  pub all_are : all ≡ left ++ read
  pub st : State
  pub has : HasRead reader read st
  pub opens : reader.opened ≡ captures left
  pub known : reader.work.groups ≡ captures all
  pub bytes : byte_pieces reader.work.rows ≤ leaves read

pub come-can : (reader : Reader) (all left before : List Token) (t : Token) → HasCome reader all left → left ≡ before ++ t ∷ [] →
    CanStep t reader
come-can reader all left before t h e = record {
  left = omega (arith, h.opens, ap captures e, captures-snoc before t);
  known = omega (arith, h.opens, h.known, ap captures h.all_are, captures-append left h.read);
}

pub come-on : (old new : Reader) (all left before : List Token) (t : Token) → HasCome old all left → left ≡ before ++ t ∷ [] →
    Stepped t true old new → HasCome new all before
come-on old new all left before t h e s = by (step t h.st) refl (s.goes h.st h.has.reading)
  where
    by : (o : Option State) → step t h.st ≡ o → Goes true o new → HasCome new all before
    by None f g = absurd g
    by (Some st) f g = record {
      read = t ∷ h.read;
      all_are = h.all_are ∙ ap (λ l. l ++ h.read) e ∙ append_assoc before (t ∷ []) h.read;
      st = st;
      has = record { run = ap (λ o. o >>= step t) h.has.run ∙ f; reading = g };
      opens = omega (arith, s.left refl, h.opens, ap captures e, captures-snoc before t);
      known = s.known ∙ h.known;
      bytes = omega (arith, s.bytes, h.bytes);
    }

run-none : (xs ys : List Token) → run ys ≡ None → run (xs ++ ys) ≡ None
run-none [] ys e = e
run-none (x ∷ xs) ys e = ap (λ o. o >>= step x) (run-none xs ys e)

pub come-not : (old new : Reader) (all left before : List Token) (t : Token) → HasCome old all left → left ≡ before ++ t ∷ [] →
    Stepped t false old new → run all ≡ None
come-not old new all left before t h e s = by (step t h.st) refl (s.goes h.st h.has.reading)
  where
    by : (o : Option State) → step t h.st ≡ o → Goes false o new → run all ≡ None
    by None f g =
        ap run (h.all_are ∙ ap (λ l. l ++ h.read) e ∙ append_assoc before (t ∷ []) h.read)
        ∙ run-none before (t ∷ h.read) (ap (λ o. o >>= step t) h.has.run ∙ f)
    by (Some st) f g = absurd g

pub come-all : (reader : Reader) (all left : List Token) → HasCome reader all left → left ≡ [] → ReadsAll (Some reader) all
come-all reader all left h e =
    let same : h.read ≡ all = sym (h.all_are ∙ ap (λ l. l ++ h.read) e) in
    ((h.st, subst (λ l. HasRead reader l h.st) same h.has), h.opens ∙ ap captures e, h.known, omega (arith, h.bytes, ap leaves same))

pub come-begins : (work : Made) (here : Frame) (outer : Vec Frame Global) (opened : ℕ) (all : List Token) → opened ≡ captures all →
    ((rows : Rows) (n : ℕ) → IsFrame rows n here None done) → outer.items ≡ [] → work.groups ≡ opened → work.rows ≡ [] →
    HasCome (record { work = work; here = here; outer = outer; opened = opened }) all all
come-begins work here outer opened all e m o g none = record {
  read = [];
  all_are = sym (append-nil all);
  st = state (level None done) [];
  has = record { run = refl; reading = (m work.rows opened, o) };
  opens = e;
  known = g ∙ e;
  bytes = omega (arith, ap byte_pieces none);
}

pub going-on : (t : Token) (going : Bool) (old new : Reader) → going ≡ true → Stepped t going old new → Stepped t true old new
going-on t going old new e s = subst (λ g. Stepped t g old new) e s

pub gone : (t : Token) (going : Bool) (old new : Reader) → going ≡ false → Stepped t going old new → Stepped t false old new
gone t going old new e s = subst (λ g. Stepped t g old new) e s
