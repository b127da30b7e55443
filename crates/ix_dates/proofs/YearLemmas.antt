-- No instant of a late year is near an early arrival.
use Rattle.std.proofs.Common.{inl, inr, ◌≡◌, ℕ, zero, suc, ◌+◌, ◌-◌, ◌*◌, ◌≤◌, ◌<◌, ℤ, pos, ◌+ℤ◌, ◌-ℤ◌, ◌*ℤ◌, ◌≤ℤ◌, ◌<ℤ◌, Bool, true}
use Rattle.std.proofs.Common.{false, cond, Option, Some, None, unsigned_abs, ◌/◌, refl, arith}
use Rattle.std.proofs.lemmas.Int.{ints}
use Rattle.std.proofs.lemmas.Bool.Decides.{nat_tests, leb_tells}
use Rattle.std.specs.Prelude.{option_map, int_le, int_lt, not}
use Rattle.std.proofs.lemmas.Bool.{and_parts}
use Rattle.std.proofs.Common.{add-zero, add-suc, subst, sym, ◌∙◌}
use Rattle.jiff_core.specs.Calendar.{day_count}
use Rattle.jiff_core.specs.declared.Offset.{Offset}
use Rattle.jiff_core.proofs.CalendarLemmas.{day_count-epoch, day_count-next_year, day_count-day_of_year, days_in_year_bounds}
use Rattle.jiff_core.proofs.CalendarLemmas.{days_from_civil-day_count}
use Rattle.jiff_core.proofs.SignedLemmas.{signed_arith}
use Rattle.jiff_tz.specs.PosixRule.{match_some, in_span, in_window, saturating_add, saturating_sub}
use Rattle.jiff_tz.specs.PosixText.{tz_view, dst_view}
use Rattle.jiff_tz.specs.declared.posix.Dst.{Dst}
use Rattle.jiff_tz.specs.declared.posix.TimeZone.{TimeZone}
use Rattle.ix_dates.specs.declared.wall.CivilTime.{CivilTime}
use Rattle.ix_dates.specs.declared.wall.YearDay.{YearDay}
use Rattle.ix_dates.specs.declared.wall.YearDay.TheVariants.{InMonth, Ordinal}
use Rattle.ix_dates.specs.Civil.{day_number, exists, has_day, wall_micros}
use Rattle.ix_dates.specs.Instant.{is_offset, instant_in, instant_at_offset, at_seconds, held, is_instant}
use Rattle.ix_dates.specs.Year.{GivesGreatest, IsGreatest, at_most_a_day_after, greatest, in_year, instant_in_year}
use Rattle.ix_dates.specs.Zone.{zone_seconds, seconds_by, seconds_ahead, seconds_behind, moment, shift}

-- one of two numbers is at most what both are
cond_bound : (b : Bool) (x y limit : ℤ) → x ≤ℤ limit → y ≤ℤ limit → cond b x y ≤ℤ limit
cond_bound true x y limit p q = p
cond_bound false x y limit p q = q

-- the offset that a rule takes is one of its two
seconds_by-bound : (std dst : ℤ) (w : ℤ × ℤ) (at limit : ℤ) → std ≤ℤ limit → dst ≤ℤ limit → seconds_by std dst w at ≤ℤ limit
seconds_by-bound std dst w at limit p q =
    let up = cond_bound (in_span w.0 (saturating_add w.0 (shift std dst)) at) std
    (cond (in_span (saturating_sub w.1 (shift std dst)) w.1 at) dst dst) limit p
    (cond_bound (in_span (saturating_sub w.1 (shift std dst)) w.1 at) dst dst limit q q) in
    let down = cond_bound (in_span (saturating_add w.0 (shift std dst)) w.0 at) std
    (cond (in_span w.1 (saturating_sub w.1 (shift std dst)) at) dst std) limit p
    (cond_bound (in_span w.1 (saturating_sub w.1 (shift std dst)) at) dst std limit q p) in
    cond_bound (int_lt dst std) (seconds_behind std dst w at) (cond (int_lt std dst) (seconds_ahead std dst w at) std) limit
    (cond_bound (in_window w at) dst _ limit q down)
    (cond_bound (int_lt std dst) (seconds_ahead std dst w at) std limit (cond_bound (not (in_window w at)) std _ limit p up) p)

zone_seconds-bound-by : (std : Offset) (dst : Option Dst) (y at : ℤ) →
    match_some (option_map dst_view dst) std.seconds (λ d. seconds_by std.seconds d.seconds (moment y d.start, moment y d.finish) at) ≤ℤ pos
    93_599
zone_seconds-bound-by std None y at = std.in_range.1
zone_seconds-bound-by std (Some d) y at = seconds_by-bound std.seconds d.offset.seconds (
  moment y (dst_view d).start,
  moment y (dst_view d).finish,
) at (pos 93_599) std.in_range.1 d.offset.in_range.1

-- no rule has an offset of 26 hours
pub zone_seconds-bound : (tz : TimeZone) (y at : ℤ) → zone_seconds (tz_view tz) y at ≤ℤ pos 93_599
unfolding zone_seconds
zone_seconds-bound tz y at = zone_seconds-bound-by tz.std_offset tz.dst y at

-- each year has 365 days or more
year_start : (k : ℕ) → 4_371_953 + 365 * k ≤ day_count (pos (1970 + k)) 1 1
year_start zero = omega (arith, day_count-epoch)
year_start (suc k) =
    let before = year_start k in
    let next = day_count-next_year (pos (1970 + k)) (pos (1970 + suc k)) (omega (arith, signed_arith)) (omega (arith, signed_arith)) in
    omega (arith, days_in_year_bounds (pos (1970 + k)))

-- a day of a year has at least the number of the year's first day
day_number-year : (y : ℕ) (d : YearDay) → has_day y d ≡ true → (pos (day_count (pos y) 1 1) -ℤ pos 4_371_953) ≤ℤ day_number (pos y) d
day_number-year y (InMonth m d) e =
    let low : 1 ≤ d = grind (arith, nat_tests) in
    let count = day_count-day_of_year (pos y) m d low in
    let first = day_count-day_of_year (pos y) 1 1 (omega arith) in
    omega (arith, signed_arith, days_from_civil-day_count (pos y) m d)
day_number-year y (Ordinal n) e =
    let low : 1 ≤ n = grind (arith, nat_tests) in
    omega (arith, signed_arith, days_from_civil-day_count (pos y) 1 1)

-- an instant too late is none
held-late : (arrival m : ℤ) → (arrival +ℤ pos 86_400_000_000) <ℤ m → at_most_a_day_after arrival (held m) ≡ None
held-late arrival m late =
    let out : int_le m (arrival +ℤ pos 86_400_000_000) ≡ false = grind (arith, ints) in
    elim (is_instant (m *ℤ pos 1000)) as (λ b. at_most_a_day_after arrival (cond b (Some m) None) ≡ None) [
      | true ↦ rw out refl
      | false ↦ refl
    ]

-- a civil time of a late year is late on the wall clock
wall_micros-late : (c : CivilTime) (k : ℕ) → has_day (1970 + k) c.date ≡ true →
    pos (k * 31_536_000_000_000) ≤ℤ wall_micros (in_year c (1970 + k))
unfolding wall_micros
wall_micros-late c k there =
    let first = year_start k in
    let day = day_number-year (1970 + k) c.date there in
    omega (arith, signed_arith)

-- and so is its instant, at any offset
at_seconds-late : (arrival seconds wall : ℤ) (k : ℕ) → (arrival +ℤ pos 86_400_000_000) <ℤ
    (pos (k * 31_536_000_000_000) -ℤ pos 93_599_000_000) → seconds ≤ℤ pos 93_599 → pos (k * 31_536_000_000_000) ≤ℤ wall →
    at_most_a_day_after arrival (at_seconds seconds wall) ≡ None
unfolding at_seconds
at_seconds-late arrival seconds wall k far low late =
    held-late arrival (wall -ℤ seconds *ℤ pos 1_000_000) (omega (arith, signed_arith))

-- an offset is at most jiff's greatest
offset_bound : (s : ℤ) → is_offset s ≡ true → s ≤ℤ pos 93_599
offset_bound s e = grind (arith, ints)

-- the day exists where the civil time does
exists-day : (c : CivilTime) → exists c ≡ true → has_day c.year c.date ≡ true
exists-day c e = (and_parts _ _ e).0

-- no instant of a late year at an offset is near the arrival
instant_at_offset-late : (s : ℤ) (c : CivilTime) (arrival : ℤ) (k : ℕ) → s ≤ℤ pos 93_599 →
    (arrival +ℤ pos 86_400_000_000) <ℤ (pos (k * 31_536_000_000_000) -ℤ pos 93_599_000_000) →
    at_most_a_day_after arrival (instant_at_offset s (in_year c (1970 + k))) ≡ None
unfolding instant_at_offset
instant_at_offset-late s c arrival k low far =
    elim (exists (in_year c (1970 + k))) as (λ b. exists (in_year c (1970 + k)) ≡ b →
    at_most_a_day_after arrival (cond b (at_seconds s (wall_micros (in_year c (1970 + k)))) None) ≡ None) [
      | true ↦ λ e. at_seconds-late arrival s (wall_micros (in_year c (1970 + k))) k far low
          (wall_micros-late c k (exists-day (in_year c (1970 + k)) e))
      | false ↦ λ e. refl
    ] refl

-- no instant of a late year is near the arrival
pub instant_in_year-late : (tz : TimeZone) (offset : Option ℤ) (c : CivilTime) (arrival : ℤ) (k : ℕ) →
    (arrival +ℤ pos 86_400_000_000) <ℤ (pos (k * 31_536_000_000_000) -ℤ pos 93_599_000_000) →
    instant_in_year (tz_view tz) offset c arrival (1970 + k) ≡ None
unfolding instant_in
instant_in_year-late tz None c arrival k far =
    elim (exists (in_year c (1970 + k))) as (λ b. exists (in_year c (1970 + k)) ≡ b →
    at_most_a_day_after arrival (cond b (at_seconds
    (zone_seconds (tz_view tz) (pos (1970 + k)) (wall_micros (in_year c (1970 + k)) *ℤ pos 1000)) (wall_micros (in_year c (1970 + k))))
    None) ≡ None) [
      | true ↦ λ e. at_seconds-late arrival _ _ k far (zone_seconds-bound tz _ _)
          (wall_micros-late c k (exists-day (in_year c (1970 + k)) e))
      | false ↦ λ e. refl
    ] refl
instant_in_year-late tz (Some s) c arrival k far =
    elim (is_offset s) as (λ b. is_offset s ≡ b → at_most_a_day_after arrival
    (cond b (instant_at_offset s (in_year c (1970 + k))) None) ≡ None) [
      | true ↦ λ e. instant_at_offset-late s c arrival k (offset_bound s e) far
      | false ↦ λ e. refl
    ] refl

-- a number that gives nothing leaves the greatest to the one below
pub greatest-less : (f : ℕ → Option ℤ) (n : ℕ) → 0 < n → f n ≡ None → greatest f n ≡ greatest f (n - 1)
unfolding greatest
greatest-less f zero low none = absurd (omega arith)
greatest-less f (suc n) low none =
    let back : suc n - 1 ≡ n = omega arith in
    rw (none, back) refl

-- numbers that give nothing may be left out
pub greatest-skip : (f : ℕ → Option ℤ) (n k : ℕ) → ((y : ℕ) → n < y → f y ≡ None) → greatest f (n + k) ≡ greatest f n
unfolding greatest
greatest-skip f n zero none = rw (add-zero n) refl
greatest-skip f n (suc k) none = rw (add-suc n k, none (suc (n + k)) (omega arith)) (greatest-skip f n k none)

-- the greatest from a later number on
pub greatest-from : (f : ℕ → Option ℤ) (n top : ℕ) → n ≤ top → ((y : ℕ) → n < y → f y ≡ None) → greatest f top ≡ greatest f n
greatest-from f n top low none =
    let sum : n + (top - n) ≡ top = omega arith in
    subst (λ t. greatest f t ≡ greatest f n) sum (greatest-skip f n (top - n) none)

-- the greatest number is the first from above that gives something
pub greatest-found : (f : ℕ → Option ℤ) (n : ℕ) (t : ℤ) → f n ≡ Some t → greatest f n ≡ Some t
unfolding greatest
greatest-found f zero t e = e
greatest-found f (suc n) t e = rw e refl

-- where nothing is left below
pub greatest-zero : (f : ℕ → Option ℤ) (n : ℕ) → n ≤ 0 → greatest f n ≡ f 0
unfolding greatest
greatest-zero f zero h = refl
greatest-zero f (suc n) h = absurd (omega arith)

-- no instant of a year past the arrival's is near the arrival
pub instant_in_year-behind : (tz : TimeZone) (offset : Option ℤ) (c : CivilTime) (arrival : ℤ) (y : ℕ) → pos 0 ≤ℤ arrival →
    1971 + (unsigned_abs arrival + 172_800_000_000) / 31_536_000_000_000 < y → instant_in_year (tz_view tz) offset c arrival y ≡ None
instant_in_year-behind tz offset c arrival y low late =
    let sum : 1970 + (y - 1970) ≡ y = omega arith in
    let far : (arrival +ℤ pos 86_400_000_000) <ℤ (pos ((y - 1970) * 31_536_000_000_000) -ℤ pos 93_599_000_000) =
    omega (arith, signed_arith) in
    subst (λ t. instant_in_year (tz_view tz) offset c arrival t ≡ None) sum (instant_in_year-late tz offset c arrival (y - 1970) far)

-- `greatest` is what its name says
pub greatest-is : (f : ℕ → Option ℤ) (n : ℕ) (t : ℤ) → greatest f n ≡ Some t → IsGreatest f n t
unfolding greatest
greatest-is f zero t e = record { at = 0; bound = omega arith; gives = e; last = λ z low high. absurd (omega arith) }
greatest-is f (suc n) t e =
    elim (f (suc n)) as (λ o. f (suc n) ≡ o → match_some o (greatest f n) Some ≡ Some t → IsGreatest f (suc n) t) [
      | None ↦ λ none rest. let below = greatest-is f n t rest in record {
        at = below.at;
        bound = let b = below.bound in omega arith;
        gives = below.gives;
        last = λ z low high. elim (leb_tells z n) [
          | inl small ↦ below.last z low small.1
          | inr big ↦ let over = big.1 in let top : suc n ≡ z = omega arith in subst (λ y. f y ≡ None) top none
        ];
      }
      | Some s ↦ λ here same. record { at = suc n; bound = omega arith; gives = here ∙ same; last = λ z low high. absurd (omega arith) }
    ] refl e

-- where the greatest gives nothing, none does
greatest-none : (f : ℕ → Option ℤ) (n : ℕ) → greatest f n ≡ None → (z : ℕ) → z ≤ n → f z ≡ None
unfolding greatest
greatest-none f zero e z low = let same : z ≡ 0 = omega arith in rw same e
greatest-none f (suc n) e z low =
    elim (f (suc n)) as (λ o. f (suc n) ≡ o → match_some o (greatest f n) Some ≡ None → f z ≡ None) [
      | None ↦ λ none rest. elim (leb_tells z n) [
        | inl small ↦ greatest-none f n rest z small.1
        | inr big ↦ let over = big.1 in let top : suc n ≡ z = omega arith in subst (λ y. f y ≡ None) top none
      ]
      | Some s ↦ λ here same. cc
    ] refl e

-- the same of an answer that may be missing
pub greatest-if : (f : ℕ → Option ℤ) (n : ℕ) (o : Option ℤ) → o ≡ greatest f n → GivesGreatest f n o
greatest-if f n None e = greatest-none f n (sym e)
greatest-if f n (Some t) e = greatest-is f n t (sym e)
