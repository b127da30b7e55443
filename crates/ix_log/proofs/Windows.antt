-- What a window gives of its file.
use Rattle.std.proofs.Common.{◌≡◌, ◌≢◌, ◌≤◌, ◌<◌, ◌+◌, ◌-◌, ◌^◌, ℕ, min, Bool, false, Result, List, [], ◌++◌, length, take, drop, refl}
use Rattle.std.proofs.Common.{sym, ◌∙◌, ap, arith, append_assoc, length-append, length-take, length-drop, take-append-drop}
use Rattle.std.specs.Prelude.{if◌then◌else◌, is_ok, not}
use Rattle.std.proofs.lemmas.List.{take_at, take_rest, take-append-le, drop_at, drop-drop, drop-append-le, append-nil, drop_all}
use Rattle.std.proofs.Math.Seq.{take-add}
use Rattle.ix_base.specs.Told.{IsFrontOf}
use Rattle.ix_log.specs.declared.window.Window.{Window}
use Rattle.ix_log.specs.Window.{IsWindowOn}

pub empty_on : (window : Window) (file : List ℕ) → window.held.items ≡ [] → IsWindowOn window file
empty_on window file none = record { rest = drop window.start file; whole_is = rw none refl }

-- what was read into a buffer, cut to its count
pub read_on : (n : ℕ) (l rest buf : List ℕ) → n ≤ length l → buf ≡ take n l ++ rest → IsFrontOf (take n buf) l
read_on n l rest buf le is =
    let same : take n buf ≡ take n l = ap (take n) is ∙ take_at (take n l) rest n (omega (arith, length-take n l)) in
    record { rest = drop n l; whole_is = sym (take-append-drop n l) ∙ ap (λ (x : List ℕ). x ++ drop n l) (sym same) }

pub none_on : (l : List ℕ) → IsFrontOf [] l
none_on l = record { rest = l; whole_is = refl }

-- what it holds from a place on
pub ahead_on : (window : Window) (at : ℕ) (file : List ℕ) → window.start ≤ at → at - window.start ≤ length window.held.items →
    IsWindowOn window file
    → IsFrontOf (drop (at - window.start) window.held.items) (drop at file)
ahead_on window at file le within on =
    let skip = at - window.start in
    let place : window.start + skip ≡ at = omega arith in
    record {
      rest = on.rest;
      whole_is = sym (drop-drop skip window.start file ∙ ap (λ (k : ℕ). drop k file) place)
          ∙ ap (drop skip) on.whole_is ∙ drop-append-le skip window.held.items on.rest within;
    }

module _ (at : ℕ) (file ahead : List ℕ) (front : IsFrontOf ahead (drop at file)) where
  front_size : length ahead + length front.rest ≡ length file - at
  front_size = omega (arith, ap length front.whole_is, length-append ahead front.rest, length-drop at file)

  front_take : (n : ℕ) → n ≤ length ahead → take n (drop at file) ≡ take n ahead
  front_take n le = ap (take n) front.whole_is ∙ take-append-le n ahead front.rest le

  -- the bytes at hand are enough
  pub read_held : (n : ℕ) (buf copied : List ℕ) → n ≡ min (length ahead) (length buf) → n ≡ length (copied ++ drop n buf) →
      copied ≡ take n ahead
      → (n ≡ min (length buf) (length file - at)) × (copied ++ drop n buf ≡ take n (drop at file) ++ drop n buf)
  read_held n buf copied least all is =
      let size : length copied ≡ n = omega (arith, ap length is, length-take n ahead, least) in (
        omega (arith, front_size, least, all, size, length-append copied (drop n buf), length-drop n buf),
        ap (λ (l : List ℕ). l ++ drop n buf) (is ∙ sym (front_take n (omega (arith, least)))),
      )

  -- the rest is read behind them
  pub read_rest : (n more : ℕ) (buf copied behind : List ℕ) → n ≡ min (length ahead) (length buf) → n ≢ length (copied ++ drop n buf) →
      copied ≡ take n ahead
      → (let mid = copied ++ drop n buf in let part = take (length mid - n) (drop n mid) in
      (more ≡ min (length part) (length file - (at + n))) × (behind ≡ take more (drop (at + n) file) ++ drop more part))
      → (let mid = copied ++ drop n buf in (n + more ≡ min (length buf) (length file - at))
      × (take n mid ++ (behind ++ drop (length mid - n) (drop n mid)) ≡ take (n + more) (drop at file) ++ drop (n + more) buf))
  read_rest n more buf copied behind least some is read =
      let mid = copied ++ drop n buf in
      let size : length copied ≡ n = omega (arith, ap length is, length-take n ahead, least) in
      let size_mid : length mid ≡ length buf = omega (arith, size, least, length-append copied (drop n buf), length-drop n buf) in
      let front : take n mid ≡ copied = take_at copied (drop n buf) n size in
      let back : drop n mid ≡ drop n buf = drop_at copied (drop n buf) n size in
      let part : take (length mid - n) (drop n mid) ≡ drop n buf = take_rest mid n ∙ back in
      let none : drop (length mid - n) (drop n mid) ≡ [] = drop_all (length mid - n) (drop n mid) (omega (arith, length-drop n mid)) in
      let all : n ≡ length ahead = omega (arith, least, some, size_mid) in
      let two : take (n + more) (drop at file) ≡ copied ++ take more (drop (at + n) file) =
      take-add n more (drop at file) ∙ ap (λ (l : List ℕ). l ++ take more (drop n (drop at file))) (front_take n (omega (arith, all))
      ∙ sym is) ∙ ap (λ (l : List ℕ). copied ++ take more l) (drop-drop n at file) in (
        omega (arith, read.0, front_size, length-drop n buf, ap length part, all),
        ap (λ (l : List ℕ). l ++ (behind ++ drop (length mid - n) (drop n mid))) front
            ∙ ap (λ (l : List ℕ). copied ++ (behind ++ l)) none ∙ ap (λ (l : List ℕ). copied ++ l) (append-nil behind ∙ read.1)
            ∙ ap (λ (l : List ℕ). copied ++ (take more (drop (at + n) file) ++ l)) (ap (drop more) part ∙ drop-drop more n buf)
            ∙ sym (append_assoc copied (take more (drop (at + n) file)) (drop (n + more) buf))
            ∙ ap (λ (l : List ℕ). l ++ drop (n + more) buf) (sym two),
      )

-- a head that is read into the front of five bytes
module _ (at room : ℕ) (file buf none : List ℕ) (five : length none ≡ 5) where
  pub head_size : room ≤ 5 → length buf ≡ length (take room none) → length (buf ++ drop room none) ≡ 5
  head_size le size = omega (arith, length-append buf (drop room none), length-take room none, length-drop room none, size, five)

  pub head_read : (n left : ℕ) → room ≡ min left 5 → left ≡ length (drop at file)
      → (n ≡ min (length (take room none)) (length file - at)) × (buf ≡ take n (drop at file) ++ drop n (take room none))
      → (buf ++ drop room none ≡ take n (drop at file) ++ (drop n (take room none) ++ drop room none)) × (n ≡ min 5 (length (drop at file)))
  head_read n left room_is left_is read = (
    ap (λ (l : List ℕ). l ++ drop room none) read.1 ∙ append_assoc (take n (drop at file)) (drop n (take room none)) (drop room none),
    omega (arith, read.0, room_is, left_is, five, length-take room none, length-drop at file),
  )

-- a vector that was filled up to a length has it
pub filled_up : {T E : Type 0} (result : Result T E) (failed : Bool) (now len before : ℕ) → now ≡ (if is_ok result then len else before) →
    is_ok result ≡ not failed → failed ≡ false → now ≡ len
filled_up result failed now len before is by filled = is ∙ ap (λ (b : Bool). if b then len else before) (by ∙ ap not filled)

-- what was read into the whole of a vector's bytes
module _ (len room : ℕ) (before buf : List ℕ) (is_room : room ≡ len) (long : length before ≡ room) where
  pub body_fits : (at : ℕ) → at < 2 ^ 63 → len < 2 ^ 32 → at + 5 + length before < 2 ^ 64
  body_fits at place fits = omega (arith, place, fits, long, is_room)

  module _ (size : length buf ≡ length before) where
    pub body_size : (rest out : List ℕ) → out ≡ take room (buf ++ rest) → length out ≡ len
    body_size rest out is = ap length (is ∙ take_at buf rest room (size ∙ long)) ∙ size ∙ long ∙ is_room

    module _ (file : List ℕ) (at n : ℕ) (read : (n ≡ min (length before) (length file - at))
        × (buf ≡ take n (drop at file) ++ drop n before)) where
      pub body_cut : n < len → length file < at + len
      body_cut lt = omega (arith, read.0, long, is_room)

      pub body_whole : len ≤ n → (rest out : List ℕ) → out ≡ take room (buf ++ rest) → out ≡ take len (drop at file)
      body_whole le rest out is =
          let all : n ≡ len = omega (arith, read.0, long, is_room) in
          let none : drop n before ≡ [] = drop_all n before (omega (arith, all, long, is_room)) in
          is ∙ take_at buf rest room (size ∙ long)
          ∙ read.1 ∙ ap (λ (l : List ℕ). take n (drop at file) ++ l) none ∙ append-nil (take n (drop at file))
          ∙ ap (λ (k : ℕ). take k (drop at file)) all
