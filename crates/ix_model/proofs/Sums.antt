-- Sums and bounds over events, with one event more.
use Rattle.std.proofs.Common.{◌≡◌, ℕ, ◌+◌, ℤ, List, [], ◌∷◌, ◌++◌, length, refl, sym, ap, ◌∙◌, length-append}
use Rattle.std.specs.Int.{int_min, int_max}
use Rattle.std.proofs.lemmas.List.{append-nil, length_push}
use Rattle.std.proofs.lemmas.Grind.{flat_map-append}
use Rattle.ix_base.specs.declared.events.Event.{Event}
use Rattle.ix_bucket.specs.Record.{event_bytes, records}
use Rattle.ix_catalog.specs.Buckets.{size}
use Rattle.ix_model.specs.Sums.{latest, earliest, AreSums}

latest_push : (t : ℤ) (es : List Event) (e : Event) → latest t (es ++ e ∷ []) ≡ int_max (latest t es) e.time
latest_push t [] e = refl
latest_push t (x ∷ es) e = latest_push (int_max t x.time) es e

earliest_push : (t : ℤ) (es : List Event) (e : Event) → earliest t (es ++ e ∷ []) ≡ int_min (earliest t es) e.time
earliest_push t [] e = refl
earliest_push t (x ∷ es) e = earliest_push (int_min t x.time) es e

records_push : (es : List Event) (e : Event) → length (records (es ++ e ∷ [])) ≡ length (records es) + size e
records_push es e =
    ap length (flat_map-append event_bytes es (e ∷ []) ∙ ap (λ (bytes : List ℕ). records es ++ bytes) (append-nil (event_bytes e)))
    ∙ length-append (records es) (event_bytes e)

pub sums_one : (e : Event) → AreSums (e ∷ []) 1 (size e) e.time e.time
sums_one e = record {
  first = e;
  rest = [];
  events_are = refl;
  count_is = refl;
  bytes_are = ap length (sym (append-nil (event_bytes e)));
  newest_is = refl;
  oldest_is = refl;
}

pub sums_more : (es : List Event) (e : Event) (count bytes : ℕ) (newest oldest : ℤ) → AreSums es count bytes newest oldest →
    AreSums (es ++ e ∷ []) (count + 1) (bytes + size e) (int_max newest e.time) (int_min oldest e.time)
sums_more es e count bytes newest oldest h = record {
  first = h.first;
  rest = h.rest ++ e ∷ [];
  events_are = ap (λ (l : List Event). l ++ e ∷ []) h.events_are;
  count_is = ap (λ (n : ℕ). n + 1) h.count_is ∙ sym (length_push es e);
  bytes_are = ap (λ (n : ℕ). n + size e) h.bytes_are ∙ sym (records_push es e);
  newest_is = ap (λ (t : ℤ). int_max t e.time) h.newest_is ∙ sym (latest_push h.first.time h.rest e);
  oldest_is = ap (λ (t : ℤ). int_min t e.time) h.oldest_is ∙ sym (earliest_push h.first.time h.rest e);
}
