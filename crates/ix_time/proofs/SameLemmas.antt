-- Settings that mean the same read the same times.
use Rattle.std.specs.Prelude.{slice_get, replicate, option_and_then}
use Rattle.std.proofs.Common.{◌≡◌, ℕ, zero, suc, ℤ, List, ◌+◌, Option, None, Some, refl, ◌∙◌, ap, length}
use Rattle.jiff_tz.specs.PosixReader.{read_whole}
use Rattle.ix_base.specs.Clocks.{clamped}
use Rattle.ix_dates.specs.Text.{or_else}
use Rattle.ix_match.specs.Matches.{ways_from, closed}
use Rattle.ix_pattern.specs.Piece.{Piece}
use Rattle.ix_pattern.specs.Rows.{Shape, tree}
use Rattle.ix_pattern.specs.Ways.{Way, ways}
use Rattle.ix_props.specs.Same.{MeanSame, BothMeanSame, AreSameTime}
use Rattle.ix_props.specs.declared.settings.TimeSettings.{TimeSettings}
use Rattle.ix_time.specs.Chosen as chosen
use Rattle.ix_time.specs.Times.{read_in, read, time}
use Rattle.ix_time.specs.Window.{end_of, end_at, first_end, place_of, window}

abbrev ways_by : Piece → List ℕ → ℕ → ℕ → List Way
ways_by t text place n = ways t (closed text) (record { place = place; groups = replicate n None })

pub same-ways : (p q : Shape) (text : List ℕ) (place : ℕ) → MeanSame p q → ways_from p text place ≡ ways_from q text place
same-ways p q text place same = ap (λ (t : Piece). ways_by t text place p.groups) same.trees
    ∙ ap (ways_by (tree q.rows) text place) same.groups

-- ---- times

same-end_at : (p q : Shape) (text : List ℕ) (place : ℕ) → MeanSame p q → end_at p text place ≡ end_at q text place
unfolding end_at
same-end_at p q text place same = ap (λ (w : List Way). end_of (slice_get w 0)) (same-ways p q text place same)

same-first_end : (p q : Shape) (text : List ℕ) (place more : ℕ) → MeanSame p q → first_end p text place more ≡ first_end q text place more
unfolding first_end
same-first_end p q text place zero same = same-end_at p q text place same
same-first_end p q text place (suc more) same =
    ap (λ (o : Option ℕ). or_else o (first_end p text (place + 1) more)) (same-end_at p q text place same)
    ∙ ap (or_else (end_at q text place)) (same-first_end p q text (place + 1) more same)

pub same-place : (p q : Option Shape) (text : List ℕ) → BothMeanSame p q → place_of p text ≡ place_of q text
same-place None None text same = refl
same-place None (Some q) text same = absurd same
same-place (Some p) None text same = absurd same
same-place (Some p) (Some q) text same = same-first_end p q text 0 (length text) same

abbrev with_prefix : TimeSettings → Option Shape → TimeSettings
with_prefix t p = record t { prefix = p }

same-read : (t : TimeSettings) (p : Option Shape) (text : List ℕ) (moment : ℤ) → BothMeanSame p t.prefix →
    read (with_prefix t p) text moment ≡ read t text moment
unfolding read
same-read t p text moment same =
    ap (λ (o : Option ℕ). option_and_then (λ zone. option_and_then (λ place.
    read_in zone (clamped moment) t.format (window t.lookahead text place)) o) (read_whole t.zone)) (same-place p t.prefix text same)

pub same-reads : (a b : TimeSettings) (text : List ℕ) (moment : ℤ) → AreSameTime a b → read a text moment ≡ read b text moment
same-reads a b text moment same = ap (λ (t : TimeSettings). read t text moment) same.others ∙ same-read b a.prefix text moment same.prefix

same-time : (t : TimeSettings) (p : Option Shape) (text : List ℕ) (arrival : ℤ) (last : Option ℤ) → BothMeanSame p t.prefix →
    time (with_prefix t p) text arrival last ≡ time t text arrival last
unfolding time
same-time t p text arrival last same =
    ap (λ (o : Option ℤ). chosen.settle o (clamped arrival) t.days_ago t.days_hence last) (same-read t p text arrival same)

pub same-times : (a b : TimeSettings) (text : List ℕ) (arrival : ℤ) (last : Option ℤ) → AreSameTime a b →
    time a text arrival last ≡ time b text arrival last
same-times a b text arrival last same = ap (λ (t : TimeSettings). time t text arrival last) same.others
    ∙ same-time b a.prefix text arrival last same.prefix
