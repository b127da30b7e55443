-- The loop of the walk.
use Rattle.std.proofs.Common.{◌≡◌, ℕ, zero, suc, ◌+◌, ◌-◌, ◌<◌, ◌≤◌, ℤ, pos, Bool, List, [], ◌∷◌, ◌++◌, length, take, drop, get_or, Option}
use Rattle.std.proofs.Common.{refl, sym, ◌∙◌, ap, subst, arith, rules, append_assoc}
use Rattle.std.specs.Prelude.{IfSome}
use Rattle.std.specs.List.{flat_map, zip}
use Rattle.std.proofs.lemmas.List.{append-nil, length-drop}
use Rattle.std.proofs.lemmas.Grind.{flat_map-append}
use Rattle.std.proofs.lemmas.Slice.Zip.{length-zip}
use Rattle.ix_base.specs.Stream.{Dated, bytes_of}
use Rattle.ix_lines.specs.Walk.{BreakFinder, Walked, preceded, walk}
use Rattle.ix_lines.specs.Lines.{line_of}
use Rattle.ix_lines.specs.Laws.{IsStable}
use Rattle.ix_lines.specs.Kept.{Keeps, IsPart, AddsSome, first_moment}
use Rattle.ix_lines.specs.Moments.{moments_of}
use Rattle.ix_lines.specs.Seek.{last_byte, seek, IsWithin}
use Rattle.ix_lines.specs.Settle.{CameTo, Settles, part}
use Rattle.ix_lines.specs.declared.kept.Kept.{Kept}
use Rattle.ix_base.specs.declared.events.Line.{Line}
use Rattle.ix_lines.specs.declared.moments.Run.{Run}
use Rattle.ix_lines.specs.declared.breaks.Found.{Found}
use Rattle.ix_lines.specs.declared.breaks.Found.TheVariants.{Break, Stop}
use Rattle.ix_lines.proofs.ListLemmas.{take-add, drop-drop, part-on, part-behind, bytes_of-zip, bytes_of-take, bytes_of-drop, take-past}
use Rattle.ix_lines.proofs.WalkLemmas.{preceded-preceded, bytes_of-append}
use Rattle.ix_lines.proofs.SeekLemmas.{by_found, walk-seek, last_byte-append, rest-is}

-- before the first step
pub came-first : (look : BreakFinder) (u : Bool) (t : ℕ) (first : Option ℕ) (all stretch : List Dated) (kept : Kept) (out : List Line) →
    Keeps t stretch kept →
    CameTo look u t (walk look u first stretch 0 all) first all 0 0 kept out out
came-first look u t first all stretch kept out keeps = record {
  stretch = stretch;
  done = [];
  keeps = keeps;
  written = sym (append-nil out);
  walk_on = ap (λ s. walk look u first s 0 all) (sym (append-nil stretch));
}

-- where the search stops, and a break with its match, lie within the bytes
pub stop-within : (all : List ℕ) (at n most : ℕ) (f : Found) → f ≡ Stop n → at ≤ length all →
    IsWithin f (length (take (length all - at) (drop at all))) most →
    (at + n ≤ length all) × (length all < at + n + most)
stop-within all at n most f is h w =
    let m = subst (λ (x : Found). IsWithin x (length (take (length all - at) (drop at all))) most) is w in
    let e : length (take (length all - at) (drop at all)) ≡ length all - at = ap length (rest-is all at) ∙ length-drop at all in
    (omega (arith, m.0, e, h), omega (arith, m.1, e, h))

pub break-within : (all : List ℕ) (at from to end most : ℕ) (f : Found) → f ≡ Break from to end → at ≤ length all →
    IsWithin f (length (take (length all - at) (drop at all))) most → (from ≤ to) × (to ≤ end) × (0 < end) × (at + end ≤ length all)
break-within all at from to end most f is h w =
    let m = subst (λ (x : Found). IsWithin x (length (take (length all - at) (drop at all))) most) is w in
    let e : length (take (length all - at) (drop at all)) ≡ length all - at = ap length (rest-is all at) ∙ length-drop at all in
    (m.0, m.1, m.2, omega (arith, m.3, e, h))

-- a part of bytes and moments side by side
first-part : (k s : ℕ) (bs : List ℕ) (ms : List ℤ) (m : ℤ) → (s < length ms → m ≡ get_or ms s (pos 0)) →
    IfSome (first_moment (take k (drop s (zip bs ms)))) (λ x. x ≡ m)
first-part zero s bs ms m h = search rules
first-part (suc k) zero [] ms m h = search rules
first-part (suc k) zero (b ∷ bs) [] m h = search rules
first-part (suc k) zero (b ∷ bs) (x ∷ ms) m h = sym (h (omega arith))
first-part (suc k) (suc s) [] ms m h = search rules
first-part (suc k) (suc s) (b ∷ bs) [] m h = search rules
first-part (suc k) (suc s) (b ∷ bs) (x ∷ ms) m h = first-part (suc k) s bs ms m (λ l. h (omega arith))

pub part-is : (bs : List ℕ) (ms : List ℤ) (start end : ℕ) (m : ℤ) → length bs ≡ length ms →
    (start < length ms → m ≡ get_or ms start (pos 0)) →
    IsPart (part start end bs) m (part start end (zip bs ms))
part-is bs ms start end m same h = record {
  bytes_are = bytes_of-take (end - start) (drop start (zip bs ms))
      ∙ ap (take (end - start)) (bytes_of-drop start (zip bs ms) ∙ ap (drop start) (bytes_of-zip bs ms same));
  moment_is = first-part (end - start) start bs ms m h;
}

pub bytes-taken : (bs : List ℕ) (ms : List ℤ) (n : ℕ) → length bs ≡ length ms → bytes_of (take n (zip bs ms)) ≡ take n bs
bytes-taken bs ms n same = bytes_of-take n (zip bs ms) ∙ ap (take n) (bytes_of-zip bs ms same)

-- the code's search, at the place that the walk has come to
pub sought : (look : BreakFinder) (u : Bool) (first r : Option ℕ) (bs slice : List ℕ) (ms : List ℤ) (at : ℕ) (f : Found) →
    length bs ≡ length ms →
    r ≡ last_byte first (take at bs) → slice ≡ drop at bs → f ≡ seek look u r slice →
    seek look u (last_byte first (bytes_of (take at (zip bs ms)))) (bytes_of (drop at (zip bs ms))) ≡ f
sought look u first r bs slice ms at f same p q e =
    ap (λ l. seek look u (last_byte first l) (bytes_of (drop at (zip bs ms)))) (bytes-taken bs ms at same)
    ∙ ap (λ b. seek look u b (bytes_of (drop at (zip bs ms)))) (sym p)
    ∙ ap (seek look u r) (bytes_of-drop at (zip bs ms) ∙ ap (drop at) (bytes_of-zip bs ms same) ∙ sym q)
    ∙ sym e

before-on : (first : Option ℕ) (all : List Dated) (at n : ℕ) →
    last_byte (last_byte first (bytes_of (take at all))) (bytes_of (take n (drop at all))) ≡ last_byte first (bytes_of (take (at + n) all))
before-on first all at n =
    last_byte-append first (bytes_of (take at all)) (bytes_of (take n (drop at all)))
    ∙ ap (last_byte first) (sym (bytes_of-append (take at all) (take n (drop at all))))
    ∙ ap (λ l. last_byte first (bytes_of l)) (take-add at n all)

rest-on : (stretch all : List Dated) (start at n : ℕ) → start ≤ at → (stretch ++ part start at all) ++ take n (drop at all) ≡ stretch
    ++ part start (at + n) all
rest-on stretch all start at n h =
    append_assoc stretch (part start at all) (take n (drop at all)) ∙ ap (λ l. stretch ++ l) (part-on start at n all h)

pub came-break : (look : BreakFinder) → IsStable look →
    (u : Bool) (t : ℕ) (whole : Walked) (first : Option ℕ) (all : List Dated) (start at from to n : ℕ)
    (kept kept' : Kept) (old out out' : List Line) (bytes : List ℕ) (m : ℤ) →
    CameTo look u t whole first all start at kept old out → start ≤ at → to ≤ n →
    seek look u (last_byte first (bytes_of (take at all))) (bytes_of (drop at all)) ≡ Break from to n →
    IsPart bytes m (part start (at + from) all) →
    ((stretch part : List Dated) → Keeps t stretch kept → IsPart bytes m part → Keeps t [] kept'
    × (out' ≡ out ++ line_of t (stretch ++ part))) →
    CameTo look u t whole first all (at + to) (at + n) kept' old out'
came-break look stable u t whole first all start at from to n kept kept' old out out' bytes m c sa tn f is ends =
    let b : Option ℕ = last_byte first (bytes_of (take at all)) in
    let rest : List Dated = c.stretch ++ part start at all in
    let left : List Dated = drop at all in
    let x : List Dated = c.stretch ++ part start (at + from) all in
    let both = ends c.stretch (part start (at + from) all) c.keeps is in
    record {
      stretch = [];
      done = c.done ++ x ∷ [];
      keeps = both.0;
      written = both.1 ∙ ap (λ l. l ++ line_of t x) c.written
          ∙ append_assoc old (flat_map (line_of t) c.done) (line_of t x)
          ∙ ap (λ l. old ++ (flat_map (line_of t) c.done ++ l)) (sym (append-nil (line_of t x)))
          ∙ ap (λ l. old ++ l) (sym (flat_map-append (line_of t) c.done (x ∷ [])));
      walk_on = c.walk_on
          ∙ ap (preceded c.done) (walk-seek look stable u b rest left ∙ ap (by_found look u b rest left) f)
          ∙ preceded-preceded c.done ((rest ++ take from left) ∷ [])
          (walk look u (last_byte b (bytes_of (take n left))) (drop to (take n left)) 0 (drop n left))
          ∙ ap (λ y. preceded (c.done ++ y ∷ []) (walk look u (last_byte b (bytes_of (take n left))) (drop to (take n left)) 0
          (drop n left)))
          (rest-on c.stretch all start at from sa)
          ∙ ap (λ q. preceded (c.done ++ x ∷ []) (walk look u q (drop to (take n left)) 0 (drop n left))) (before-on first all at n)
          ∙ ap (λ s. preceded (c.done ++ x ∷ []) (walk look u (last_byte first (bytes_of (take (at + n) all))) s 0 (drop n left)))
          (part-behind at to n all tn)
          ∙ ap (λ l. preceded (c.done ++ x ∷ []) (walk look u (last_byte first (bytes_of (take (at + n) all))) (part (at + to) (at + n) all)
          0 l)) (drop-drop at n all);
    }

pub came-stop : (look : BreakFinder) → IsStable look → (u : Bool) (t : ℕ) (whole : Walked) (first : Option ℕ) (all : List Dated)
    (start at n : ℕ)
    (kept kept' : Kept) (old out : List Line) (bytes : List ℕ) (m : ℤ) →
    CameTo look u t whole first all start at kept old out → start ≤ at →
    seek look u (last_byte first (bytes_of (take at all))) (bytes_of (drop at all)) ≡ Stop n →
    IsPart bytes m (part start (at + n) all) →
    ((stretch part : List Dated) → Keeps t stretch kept → IsPart bytes m part → Keeps t (stretch ++ part) kept') →
    Settles t whole (last_byte first (bytes_of (take (at + n) all))) kept' (drop (at + n) all) old out
came-stop look stable u t whole first all start at n kept kept' old out bytes m c sa f is adds =
    let b : Option ℕ = last_byte first (bytes_of (take at all)) in
    let rest : List Dated = c.stretch ++ part start at all in
    let left : List Dated = drop at all in
    let x : List Dated = c.stretch ++ part start (at + n) all in
    let e : whole ≡ record {
      done = c.done ++ [];
      rest = x;
      before = last_byte first (bytes_of (take (at + n) all));
      pending = drop (at + n) all;
    } =
    c.walk_on ∙ ap (preceded c.done) (walk-seek look stable u b rest left ∙ ap (by_found look u b rest left) f)
    ∙ (λ i. record {
      done = c.done ++ [];
      rest = rest-on c.stretch all start at n sa i;
      before = before-on first all at n i;
      pending = drop-drop at n all i;
    }) in
    let P : Walked → Type 0 = λ w. Settles t w (last_byte first (bytes_of (take (at + n) all))) kept' (drop (at + n) all) old out in
    subst P (sym e) (record {
      keeps = adds c.stretch (part start (at + n) all) c.keeps is;
      before_is = refl;
      left_is = refl;
      written = c.written ∙ ap (λ d. old ++ flat_map (line_of t) d) (sym (append-nil c.done));
    })

-- the part up to the end
pub rest-part : (bs : List ℕ) (ms : List ℤ) (start : ℕ) (m : ℤ) → length bs ≡ length ms →
    (start < length ms → m ≡ get_or ms start (pos 0)) →
    IsPart (take (length bs - start) (drop start bs)) m (drop start (zip bs ms))
rest-part bs ms start m same h =
    subst (λ (l : List Dated). IsPart (take (length bs - start) (drop start bs)) m l)
    (take-past (length bs - start) (drop start (zip bs ms)) (omega (arith, length-drop start (zip bs ms), length-zip bs ms)))
    (part-is bs ms start (length bs) m same h)

-- what was added so far are the first lines of the walk
pub came-some : (look : BreakFinder) (u : Bool) (t : ℕ) (whole : Walked) (first : Option ℕ) (all : List Dated) (start at : ℕ) (kept : Kept)
    (old out new : List Line) →
    CameTo look u t whole first all start at kept old out → new ≡ out → AddsSome (flat_map (line_of t) whole.done) old new
came-some look u t whole first all start at kept old out new c e =
    let later : Walked = walk look u (last_byte first (bytes_of (take at all))) (c.stretch ++ part start at all) 0 (drop at all) in
    record {
      first = flat_map (line_of t) c.done;
      others = flat_map (line_of t) later.done;
      lines_are = ap (λ w. flat_map (line_of t) w.done) c.walk_on ∙ flat_map-append (line_of t) c.done later.done;
      written = e ∙ c.written;
    }

-- ---- what the code was lent of the bytes and of the runs of their moments

pub moment-is : (runs lent : List Run) (start : ℕ) (m : ℤ) → lent ≡ runs →
    (start < length (moments_of lent) → m ≡ get_or (moments_of lent) start (pos 0)) →
    start < length (moments_of runs) → m ≡ get_or (moments_of runs) start (pos 0)
moment-is runs lent start m e h = subst (λ (rs : List Run). start < length (moments_of rs) → m ≡ get_or (moments_of rs) start (pos 0)) e h

pub part-lent : (bs all : List ℕ) (start end : ℕ) (m w : ℤ) (p : List Dated) → all ≡ bs → w ≡ m → IsPart (part start end bs) m p →
    IsPart (part start end all) w p
part-lent bs all start end m w p e f is =
    subst (λ (l : List ℕ). IsPart (part start end l) w p) (sym e) (subst (λ (z : ℤ). IsPart (part start end bs) z p) (sym f) is)

pub rest-lent : (bs all : List ℕ) (start : ℕ) (m w : ℤ) (p : List Dated) → all ≡ bs → w ≡ m →
    IsPart (take (length bs - start) (drop start bs)) m p →
    IsPart (take (length all - start) (drop start all)) w p
rest-lent bs all start m w p e f is =
    subst (λ (l : List ℕ). IsPart (take (length l - start) (drop start l)) w p) (sym e)
    (subst (λ (z : ℤ). IsPart (take (length bs - start) (drop start bs)) z p) (sym f) is)
