-- The pattern of a syntax.
use Rattle.std.proofs.Common.{◌≡◌, ℕ, zero, suc, ◌+◌, ◌*◌, ◌<◌, ◌≤◌, max, Bool, true, false, ◌&&◌, ◌||◌, [], ◌∷◌, ◌++◌, Option, Some, None}
use Rattle.std.proofs.Common.{unwrap_or, refl, sym, ◌∙◌, ap, arith}
use Rattle.std.specs.Prelude.{◌==◌}
use Rattle.ix_pattern.specs.Piece.{Piece, nothing, least_length, IsSound, IsPlain, TakesIfUnlimited}
use Rattle.ix_pattern.specs.Syntax.{Syntax, done, bar, leaf, paren, spelled, spelled_count, groups, opened, pieces, whole, alternatives}
use Rattle.ix_pattern.specs.Syntax.{joined, repeated, leaf_piece, paren_piece, is_plain, is_plain_opening, is_allowed, may_hold}
use Rattle.ix_pattern.specs.Syntax.{repeats_empty, is_none, most_of, times_weight, repeated_weight, paren_weight, alternatives_weight}
use Rattle.ix_pattern.specs.Syntax.{whole_weight, weights, weight_of}
use Rattle.ix_pattern.specs.Run.{level, state, run}
use Rattle.ix_pattern.specs.Frames.{captures, leaves}
use Rattle.ix_pattern.specs.Reads.{OneSyntax}
use Rattle.ix_pattern.specs.declared.tokens.Leaf.{Leaf}
use Rattle.ix_pattern.specs.declared.tokens.Leaf.TheVariants.{Bytes, Start, Finish, Word}
use Rattle.ix_pattern.specs.declared.tokens.Opening.{Opening}
use Rattle.ix_pattern.specs.declared.tokens.Opening.TheVariants.{Capture, Plain, Ahead}
use Rattle.ix_pattern.specs.declared.tokens.Repeat.{Repeat}
use Rattle.ix_pattern.specs.declared.tokens.Times.{Times}
use Rattle.ix_pattern.specs.declared.tokens.Times.TheVariants.{Maybe, Limited, Unlimited}
use Rattle.ix_pattern.specs.declared.tokens.Token.{Token}
use Rattle.ix_pattern.specs.declared.tokens.Token.TheVariants as token
use Rattle.ix_pattern.proofs.Grammar.{spelled-is-given}
use Rattle.ix_pattern.proofs.ReadLemmas.{captures-append, leaves-append}

pub one-syntax : OneSyntax
one-syntax text s t p q =
    let same : spelled s ≡ spelled t = let a = p.tokens in let b = q.tokens in cc in
    let f = spelled-is-given s p.allowed in
    let g = spelled-is-given t q.allowed in
    let h : Some (state (level None s) []) ≡ Some (state (level None t) []) = sym f ∙ ap run same ∙ g in
    cc

captures-times : (times : Option Repeat) → captures (spelled_count times) ≡ 0
captures-times None = refl
captures-times (Some repeat) = omega arith

pub captures-spelled : (s : Syntax) → captures (spelled s) ≡ groups s
captures-spelled done = refl
captures-spelled (bar rest) = omega (arith, captures-spelled rest)
captures-spelled (leaf l times rest) =
    omega (arith, captures-append (spelled_count times) (spelled rest), captures-times times, captures-spelled rest)
captures-spelled (paren opening inside times rest) =
    omega (
      arith,
      captures-append (spelled inside) (token.Close ∷ (spelled_count times ++ spelled rest)),
      captures-append (spelled_count times) (spelled rest),
      captures-times times,
      captures-spelled inside,
      captures-spelled rest,
    )

-- ---- what a syntax weighs at least

-- how many pieces without others inside it has
abbrev pub leaf_count : Syntax → ℕ
leaf_count done = 0
leaf_count (bar rest) = leaf_count rest
leaf_count (leaf l times rest) = 1 + leaf_count rest
leaf_count (paren opening inside times rest) = leaf_count inside + leaf_count rest

leaves-times : (times : Option Repeat) → leaves (spelled_count times) ≡ 0
leaves-times None = refl
leaves-times (Some repeat) = omega arith

leaves-spelled : (s : Syntax) → leaves (spelled s) ≡ leaf_count s
leaves-spelled done = refl
leaves-spelled (bar rest) = omega (arith, leaves-spelled rest)
leaves-spelled (leaf l times rest) =
    omega (arith, leaves-append (spelled_count times) (spelled rest), leaves-times times, leaves-spelled rest)
leaves-spelled (paren opening inside times rest) =
    omega (
      arith,
      leaves-append (spelled inside) (token.Close ∷ (spelled_count times ++ spelled rest)),
      leaves-append (spelled_count times) (spelled rest),
      leaves-times times,
      leaves-spelled inside,
      leaves-spelled rest,
    )

grows : (k w : ℕ) → 0 < k → w ≤ k * (w + 1)
grows zero w h = absurd (omega arith)
grows (suc k) w h = let more : suc k * (w + 1) ≡ (w + 1) + k * (w + 1) = omega arith in omega (arith, more)

times-weigh : (w : ℕ) (times : Times) → w ≤ times_weight w times
times-weigh w Maybe = omega arith
times-weigh w (Limited least most) = omega (arith, grows (max most 1) w (omega arith))
times-weigh w (Unlimited least) = grows (least + 1) w (omega arith)

repeated-weigh : (w : ℕ) (times : Option Repeat) → w ≤ repeated_weight w times
repeated-weigh w None = omega arith
repeated-weigh w (Some repeat) = times-weigh w repeat.times

paren-weigh : (opening : Opening) (w : ℕ) → w ≤ paren_weight opening w
paren-weigh Capture w = omega arith
paren-weigh Plain w = omega arith
paren-weigh (Ahead wanted) w = omega arith

all-weigh : (first others : Option ℕ) (more : ℕ) → unwrap_or first 0 + unwrap_or others 0 ≤ alternatives_weight (unwrap_or first 1) others
    more
all-weigh None None more = omega arith
all-weigh (Some f) None more = omega arith
all-weigh None (Some o) more = omega arith
all-weigh (Some f) (Some o) more = omega arith

leaves-weigh : (s : Syntax) → leaf_count s ≤ unwrap_or (weights s).first 0 + unwrap_or (weights s).others 0
leaves-weigh done = omega arith
leaves-weigh (bar rest) = omega (arith, leaves-weigh rest, all-weigh (weights rest).first (weights rest).others 0)
leaves-weigh (leaf l times rest) = omega (arith, leaves-weigh rest, repeated-weigh 1 times)
leaves-weigh (paren opening inside times rest) =
    omega (
      arith,
      leaves-weigh inside,
      leaves-weigh rest,
      all-weigh (weights inside).first (weights inside).others 1,
      paren-weigh opening (whole_weight (weights inside)),
      repeated-weigh (paren_weight opening (whole_weight (weights inside))) times,
    )

pub tokens-weigh : (s : Syntax) → leaves (spelled s) ≤ weight_of s
tokens-weigh s = omega (arith, leaves-spelled s, leaves-weigh s, all-weigh (weights s).first (weights s).others 1)

-- ---- what is plain, and what is sound

pub or-none : (a b : Bool) → (a || b) ≡ false → (a ≡ false) × (b ≡ false)
or-none true b e = absurd (cc)
or-none false b e = (refl, e)

and-both : (a b : Bool) → (a && b) ≡ true → (a ≡ true) × (b ≡ true)
and-both true b e = (refl, e)
and-both false b e = absurd (cc)

-- of a half, if it is there
abbrev Of : (Piece → Type 0) → Option Piece → Type 0
Of P None = Unit {0}
Of P (Some p) = P p

repeated-plain : (p : Piece) (times : Option Repeat) → IsPlain p → IsPlain (repeated p times)
repeated-plain p None h = h
repeated-plain p (Some repeat) h = h

joined-plain : (p : Piece) (rest : Option Piece) → IsPlain p → Of IsPlain rest → IsPlain (joined p rest)
joined-plain p None h i = h
joined-plain p (Some q) h i = (h, i)

leaf-plain : (l : Leaf) → IsPlain (leaf_piece l)
leaf-plain (Bytes set) = tt
leaf-plain (Start lines) = tt
leaf-plain (Finish lines) = tt
leaf-plain Word = tt

first-plain : (o : Option Piece) → Of IsPlain o → IsPlain (unwrap_or o nothing)
first-plain None h = tt
first-plain (Some p) h = h

alternatives-plain : (p : Piece) (o : Option Piece) → IsPlain p → Of IsPlain o → IsPlain (alternatives p o)
alternatives-plain p None h i = h
alternatives-plain p (Some q) h i = (h, i)

paren-plain : (opening : Opening) (n : ℕ) (p : Piece) → is_plain_opening opening ≡ true → IsPlain p → IsPlain (paren_piece opening n p)
paren-plain Capture n p e h = absurd (cc)
paren-plain Plain n p e h = h
paren-plain (Ahead wanted) n p e h = absurd (cc)

-- both halves of a plain syntax are
pieces-plain : (s : Syntax) (n : ℕ) → is_plain s ≡ true → Of IsPlain (pieces n s).first × Of IsPlain (pieces n s).others
pieces-plain done n e = (tt, tt)
pieces-plain (bar rest) n e =
    let behind = pieces-plain rest n e in (
      tt,
      alternatives-plain (unwrap_or (pieces n rest).first nothing) (pieces n rest).others (first-plain (pieces n rest).first behind.0)
          behind.1,
    )
pieces-plain (leaf l times rest) n e =
    let behind = pieces-plain rest n e in (
      joined-plain (repeated (leaf_piece l) times) (pieces n rest).first (repeated-plain (leaf_piece l) times (leaf-plain l)) behind.0,
      behind.1,
    )
pieces-plain (paren opening inside times rest) n e =
    let both = and-both (is_plain_opening opening && is_plain inside) (is_plain rest) e in
    let front = and-both (is_plain_opening opening) (is_plain inside) both.0 in
    let behind = pieces-plain rest (n + opened opening + groups inside) both.1 in
    let within = pieces-plain inside (n + opened opening) front.1 in
    let held : IsPlain (whole (pieces (n + opened opening) inside)) =
    alternatives-plain (unwrap_or (pieces (n + opened opening) inside).first nothing) (pieces (n + opened opening) inside).others
    (first-plain (pieces (n + opened opening) inside).first within.0) within.1 in
    let piece : Piece = paren_piece opening (n + opened opening) (whole (pieces (n + opened opening) inside)) in (
      joined-plain (repeated piece times) (pieces (n + opened opening + groups inside) rest).first
          (repeated-plain piece times (paren-plain opening (n + opened opening) (whole (pieces (n + opened opening) inside)) front.0 held))
          behind.0,
      behind.1,
    )

abbrev IsFine : Piece → Type 0
IsFine p = repeats_empty p ≡ false → IsSound p

takes-some : (n : ℕ) → (n == 0) ≡ false → 0 < n
takes-some zero e = absurd (cc)
takes-some (suc n) e = omega arith

repeated-fine : (p : Piece) (times : Option Repeat) → IsFine p → IsFine (repeated p times)
repeated-fine p None h e = h e
repeated-fine p (Some repeat) h e =
    let both = or-none (repeats_empty p) (is_none (most_of repeat.times) && (least_length p == 0)) e in
    (h both.0, limited (most_of repeat.times) both.1)
  where
    limited : (most : Option ℕ) → (is_none most && (least_length p == 0)) ≡ false → TakesIfUnlimited most p
    limited None f = takes-some (least_length p) f
    limited (Some n) f = tt

joined-fine : (p : Piece) (rest : Option Piece) → IsFine p → Of IsFine rest → IsFine (joined p rest)
joined-fine p None h i e = h e
joined-fine p (Some q) h i e = let both = or-none (repeats_empty p) (repeats_empty q) e in (h both.0, i both.1)

leaf-fine : (l : Leaf) → IsFine (leaf_piece l)
leaf-fine (Bytes set) e = tt
leaf-fine (Start lines) e = tt
leaf-fine (Finish lines) e = tt
leaf-fine Word e = tt

first-fine : (o : Option Piece) → Of IsFine o → IsFine (unwrap_or o nothing)
first-fine None h e = tt
first-fine (Some p) h e = h e

alternatives-fine : (p : Piece) (o : Option Piece) → IsFine p → Of IsFine o → IsFine (alternatives p o)
alternatives-fine p None h i e = h e
alternatives-fine p (Some q) h i e = let both = or-none (repeats_empty p) (repeats_empty q) e in (h both.0, i both.1)

paren-fine : (opening : Opening) (n : ℕ) (p : Piece) (plain : Bool) → may_hold opening plain ≡ true → (plain ≡ true → IsPlain p) →
    IsFine p →
    IsFine (paren_piece opening n p)
paren-fine Capture n p plain m q h e = h e
paren-fine Plain n p plain m q h e = h e
paren-fine (Ahead wanted) n p plain m q h e = (h e, q m)

-- a syntax that is allowed is sound where no empty piece repeats
pieces-fine : (s : Syntax) (n : ℕ) → is_allowed s ≡ true → Of IsFine (pieces n s).first × Of IsFine (pieces n s).others
pieces-fine done n a = (tt, tt)
pieces-fine (bar rest) n a =
    let behind = pieces-fine rest n a in (
      tt,
      alternatives-fine (unwrap_or (pieces n rest).first nothing) (pieces n rest).others (first-fine (pieces n rest).first behind.0)
          behind.1,
    )
pieces-fine (leaf l times rest) n a =
    let behind = pieces-fine rest n a in (
      joined-fine (repeated (leaf_piece l) times) (pieces n rest).first (repeated-fine (leaf_piece l) times (leaf-fine l)) behind.0,
      behind.1,
    )
pieces-fine (paren opening inside times rest) n a =
    let both = and-both (may_hold opening (is_plain inside) && is_allowed inside) (is_allowed rest) a in
    let front = and-both (may_hold opening (is_plain inside)) (is_allowed inside) both.0 in
    let behind = pieces-fine rest (n + opened opening + groups inside) both.1 in
    let within = pieces-fine inside (n + opened opening) front.1 in
    let held : IsFine (whole (pieces (n + opened opening) inside)) =
    alternatives-fine (unwrap_or (pieces (n + opened opening) inside).first nothing) (pieces (n + opened opening) inside).others
    (first-fine (pieces (n + opened opening) inside).first within.0) within.1 in
    let plain : is_plain inside ≡ true → IsPlain (whole (pieces (n + opened opening) inside)) = λ e.
    let half = pieces-plain inside (n + opened opening) e in
    alternatives-plain (unwrap_or (pieces (n + opened opening) inside).first nothing) (pieces (n + opened opening) inside).others
    (first-plain (pieces (n + opened opening) inside).first half.0) half.1 in
    let piece : Piece = paren_piece opening (n + opened opening) (whole (pieces (n + opened opening) inside)) in (
      joined-fine (repeated piece times) (pieces (n + opened opening + groups inside) rest).first
          (repeated-fine piece times
          (paren-fine opening (n + opened opening) (whole (pieces (n + opened opening) inside)) (is_plain inside) front.0 plain held))
          behind.0,
      behind.1,
    )

pub syntax-sound : (s : Syntax) (n : ℕ) → is_allowed s ≡ true → repeats_empty (whole (pieces n s)) ≡ false → IsSound (whole (pieces n s))
syntax-sound s n a e =
    let halves = pieces-fine s n a in
    alternatives-fine (unwrap_or (pieces n s).first nothing) (pieces n s).others (first-fine (pieces n s).first halves.0) halves.1 e
