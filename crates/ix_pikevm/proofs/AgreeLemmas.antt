-- What is seen of a text that goes on decides the tests before its last two bytes, and those of
-- lookaheads before its last 255.
use Rattle.std.proofs.Common.{◌≡◌, ℕ, zero, suc, ◌+◌, ◌<◌, ◌≤◌, inl, inr, take, ◌&&◌, if◌then◌else◌, Bool, true, false, List, [], ◌∷◌}
use Rattle.std.proofs.Common.{◌++◌, length, Option, Some, refl, sym, ◌∙◌, ap, arith, length-append}
use Rattle.std.specs.Prelude.{slice_get, ◌==◌, nat_le}
use Rattle.ix_pattern.specs.Ways.{Text, ends_at, byte_before, at_end, here, finish_ways, is_word, is_word_byte, differ, word_ways, sight}
use Rattle.ix_pattern.specs.Laws.{Continues}
use Rattle.ix_pattern.proofs.Refining.{sight-improves}
use Rattle.ix_pikevm.specs.Leaf.{at}
use Rattle.ix_pikevm.specs.Agrees.{Agrees, SightsAgree, AreEnough}
use Rattle.ix_pikevm.specs.declared.code.Lookahead.{Lookahead}
use Rattle.ix_pikevm.specs.Ran.{Sees}
use Rattle.ix_pikevm.proofs.HistoryLemmas.{get-left}
use Rattle.std.proofs.lemmas.Option.{slice_get-get_or}
use Rattle.std.proofs.Math.ListN.{get_or}

pub agrees-refl : (text : Text) (p : ℕ) → p ≤ length text.bytes → Agrees text text p
agrees-refl text p h = record { within = h; starts = refl; ends = λ lines. refl; words = refl }

before-same : (o : Option ℕ) (bytes more : List ℕ) (p : ℕ) → p ≤ length bytes → byte_before o bytes p ≡ byte_before o (bytes ++ more) p
before-same o bytes more zero h = refl
before-same o bytes more (suc n) h = sym (get-left bytes more n (omega arith))

-- a place that is not before the last byte
not-last : (n m : ℕ) → n < m → (n == m) ≡ false
not-last n m h = grind (arith, h)

finish-some : (lines : Bool) (text : Text) (p b : ℕ) → p + 1 < length text.bytes →
    finish_ways lines text (at p []) (Some b) ≡ (if lines then here (b == 10) (at p []) else [])
finish-some true text p b h = refl
finish-some false text p b h =
    ap (λ t. if (b == 10) && t then at_end text (ends_at (at p []) ∷ []) else []) (not-last (p + 1) (length text.bytes) h) ∙ none (b == 10)
  where
    none : (t : Bool) → (if t && false then at_end text (ends_at (at p []) ∷ []) else []) ≡ []
    none true = refl
    none false = refl

-- where there are so many bytes, sight ends there
sight-stops : (n : ℕ) (text : Text) → n ≤ length text.bytes → (sight n text).unfinished ≡ false
sight-stops n text h = by (nat_le n (length text.bytes)) refl
  where
    by : (b : Bool) → nat_le n (length text.bytes) ≡ b →
        (if b then record text { bytes = take n text.bytes; unfinished = false } else text).unfinished ≡ false
    by true e = refl
    by false e = absurd (grind (arith, e, h))

sight-same : (n : ℕ) (seen text : Text) → Continues seen text → n ≤ length seen.bytes → sight n seen ≡ sight n text
sight-same n seen text c h = elim (sight-improves n seen text c) [
  | inl e ↦ e
  | inr d ↦ absurd (let e : true ≡ false = sym d.unfinished ∙ sight-stops n seen h in grind (arith, e))
]

pub agrees-on : (seen text : Text) (p : ℕ) → Continues seen text → p + 2 ≤ length seen.bytes → Agrees seen text p
agrees-on seen text p c h =
    let longer : length text.bytes ≡ length seen.bytes + length c.more = ap length c.bytes ∙ length-append seen.bytes c.more in
    let got : slice_get seen.bytes p ≡ Some (get_or seen.bytes p 0) = slice_get-get_or seen.bytes p 0 (omega (arith, h)) in
    let same : slice_get text.bytes p ≡ Some (get_or seen.bytes p 0) = ap (λ l. slice_get l p) c.bytes
    ∙ get-left seen.bytes c.more p (omega (arith, h)) ∙ got in
    let starts : byte_before seen.before seen.bytes p ≡ byte_before text.before text.bytes p =
    before-same seen.before seen.bytes c.more p (omega (arith, h))
    ∙ ap (λ l. byte_before seen.before l p) (sym c.bytes) ∙ ap (λ o. byte_before o text.bytes p) (sym c.before) in
    record {
      within = omega (arith, h, longer);
      starts = starts;
      ends = λ lines.
          ap (finish_ways lines seen (at p [])) got ∙ finish-some lines seen p (get_or seen.bytes p 0) (omega (arith, h))
          ∙ sym (ap (finish_ways lines text (at p [])) same ∙ finish-some lines text p (get_or seen.bytes p 0) (omega (arith, h, longer)));
      words =
          ap (word_ways seen (at p [])) got
          ∙ ap (λ o. here (differ (is_word o) (is_word_byte (get_or seen.bytes p 0))) (at p [])) starts
          ∙ sym (ap (word_ways text (at p [])) same);
    }

pub sights-on : (asks : List Lookahead) (n : ℕ) (seen text : Text) (p : ℕ) → Continues seen text → AreEnough asks n →
    p + n ≤ length seen.bytes → SightsAgree asks seen text p
sights-on asks n seen text p c e h k ask got = sight-same (p + 255) seen text c (let some = e.for_asks k ask got in omega (arith, h, some))

-- a text that goes on from what is seen of it has its tests and bytes up to a place with enough
-- bytes behind it
pub sees-on : (asks : List Lookahead) (n : ℕ) (seen text : Text) (to : ℕ) → Continues seen text → AreEnough asks n →
    to + n ≤ length seen.bytes → Sees asks seen text to
sees-on asks n seen text to c e h k lt = (
  agrees-on seen text k c (let two = e.two in omega (arith, h, lt, two)),
  sights-on asks n seen text k c e (omega (arith, h, lt)),
  ap (λ l. slice_get l k) c.bytes ∙ get-left seen.bytes c.more k (let two = e.two in omega (arith, h, lt, two)),
)

pub sees-refl : (asks : List Lookahead) (text : Text) (to : ℕ) → to ≤ length text.bytes → Sees asks text text to
sees-refl asks text to h k lt = (agrees-refl text k (omega (arith, h, lt)), λ i ask got. refl, refl)
