-- What was read of a link, and what it asks.
use Rattle.std.proofs.Common.{◌≡◌, ℕ, ◌<◌, ◌⊎◌, List, ◌++◌, length, map, take, Bool, true, false, not, ◌&&◌, cond, refl, sym, ap, ◌∙◌}
use Rattle.std.proofs.Common.{subst, inl, inr, arith, append_assoc}
use Rattle.std.specs.Prelude.{Option, Some, None, Result, Ok, Err, nat_le}
use Rattle.std.proofs.lemmas.Bool.Decides.{nat_tests}
use Rattle.std.proofs.lemmas.List.{append_cancel_right, length-map}
use Rattle.httparse.specs.Grammar.{RequestHead, print_request}
use Rattle.httparse.specs.Spans.{name_and_value, header_bytes, span_bytes}
use Rattle.httparse.specs.declared.spans.HeaderSpan.{HeaderSpan}
use Rattle.httparse.specs.declared.spans.RequestSpans.{RequestSpans}
use Rattle.ix_heads.specs.Limits.{max_lines}
use Rattle.ix_heads.specs.Heads.{Heading, heading, IsHeadless, IsCrowded, IsWhole, FitsHead}
use Rattle.ix_heads.specs.Lengths.{declared_length}
use Rattle.ix_heads.specs.declared.faults.LinkFault.{LinkFault}
use Rattle.ix_heads.specs.declared.faults.LinkFault.TheVariants.{Failed, Cut, NoMemory}
use Rattle.ix_http.specs.declared.kinds.HttpFault.{HttpFault}
use Rattle.ix_http.specs.declared.kinds.HttpFault.TheVariants.{BadHead, NoRoute}
use Rattle.ix_http.specs.declared.kinds.Incoming.{Incoming}
use Rattle.ix_http.specs.declared.kinds.Incoming.TheVariants.{Refused}
use Rattle.ix_http.specs.Routes.{Route, route_of, path_of, query_of}
use Rattle.ix_http.specs.Verdicts.{is_wrong, is_good, is_chunked, body_length, delimited_length, head_fault, route_fault}
use Rattle.ix_http.specs.Asked.{asked_of, by_fault, judged, TakesBody, Follows, Asks, Fits, TakesRequest}
use Rattle.ix_http.specs.Behind.{TakesCount, FitsAsked, FitsBehind}

-- ---- judging

pub judged_refused : (h : Heading) (fault : HttpFault) (body : List ℕ) → head_fault h ≡ Some fault → Refused fault true ≡ judged h body
unfolding judged
judged_refused h fault body is = sym (ap (λ o. by_fault o (route_of (path_of h.target)) (query_of h.target) body) is)

pub judged_lost : (h : Heading) (body : List ℕ) → head_fault h ≡ None → route_of (path_of h.target) ≡ None →
    Refused NoRoute true ≡ judged h body
unfolding judged
judged_lost h body good lost =
    sym (ap (λ o. by_fault o (route_of (path_of h.target)) (query_of h.target) body) good
    ∙ ap (λ r. by_fault None r (query_of h.target) body) lost)

pub judged_asked : (h : Heading) (route : Route) (body : List ℕ) (incoming : Incoming) → head_fault h ≡ None →
    route_of (path_of h.target) ≡ Some route
    → incoming ≡ asked_of route (query_of h.target) body → incoming ≡ judged h body
unfolding judged
judged_asked h route body incoming good found is =
    is ∙ sym (ap (λ o. by_fault o (route_of (path_of h.target)) (query_of h.target) body) good
    ∙ ap (λ r. by_fault None r (query_of h.target) body) found)

pub refused_fits : (n : ℕ) (h : Heading) (fault : HttpFault) → head_fault h ≡ Some fault → (old new : List ℕ) → TakesCount n old new →
    FitsAsked n h (Ok (Refused fault true)) old new
refused_fits n h fault is old new took = (took.0, took.1, judged_refused h fault took.0 is)

pub asked_fits : (n : ℕ) (h : Heading) (body : List ℕ) (incoming : Incoming) → incoming ≡ judged h body → (old new : List ℕ) →
    TakesBody n body old new → FitsAsked n h (Ok incoming) old new
asked_fits n h body incoming is old new took = (body, took, is)

-- ---- heads with too many lines

lines_over : (n : ℕ) → 64 < n → nat_le n 64 ≡ false
lines_over n more = grind (arith, nat_tests)

and_false : (a b : Bool) → a ≡ false → (a && b) ≡ false
and_false true b h = cc
and_false false b h = refl

map_len : (h : RequestHead) → length (map name_and_value h.fields) ≡ length h.fields
map_len h = length-map h.fields name_and_value

not_good : (h : RequestHead) → max_lines < length h.fields → is_good (heading h) ≡ false
not_good h many =
    let len = map_len h in
    and_false (nat_le (length (map name_and_value h.fields)) 64) (not (is_wrong (declared_length (heading h).lines)))
    (lines_over _ (omega (arith, len, many)))

crowded_open : (h : RequestHead) → max_lines < length h.fields → delimited_length (heading h) ≡ None
unfolding delimited_length
crowded_open h many = ap (λ b. cond (b && (not (is_chunked (heading h)) && nat_le (body_length (heading h)) 1048576))
    (Some (body_length (heading h))) None) (not_good h many)

crowded_bad : (h : RequestHead) → max_lines < length h.fields → head_fault (heading h) ≡ Some BadHead
unfolding head_fault
crowded_bad h many = ap (λ b. cond (not b) (Some BadHead) (route_fault (heading h) (route_of (path_of (heading h).target))))
    (not_good h many)

pub bad_asks : (old new : List ℕ) → IsHeadless old new ⊎ IsCrowded old new → Asks (Refused BadHead false) old new
bad_asks old new (inl none) = inr (inl (none, refl))
bad_asks old new (inr (h, has, many)) =
    let P : Option ℕ → Type 0 = λ o. Follows o (heading h) (Refused BadHead false) new new in
    inr (inr (h, new, has, subst P (sym (crowded_open h many)) (BadHead, crowded_bad h many, refl, refl)))

-- ---- failures

pub head_fails : (bytes : List ℕ) (headers : List HeaderSpan) (fault : LinkFault) (old new : List ℕ) →
    FitsHead bytes headers (Err fault) old new → Fits (Err fault) old new
head_fails bytes headers Cut old new fits = (inl fits.0, fits.1)
head_fails bytes headers Failed old new fits = fits
head_fails bytes headers (NoMemory true) old new fits = absurd (true_false fits.0)
  where
    true_false : true ≡ false → ⊥
    true_false e = cc
head_fails bytes headers (NoMemory false) old new fits = ((fits.1.0, fits.1.1), no)
  where
    none_some : (n : ℕ) → None ≡ Some n → ⊥
    none_some n e = cc

    no : ¬ (TakesRequest old new)
    no (h, rest, has, n, is, (body, took)) =
        let whole : (print_request h ++ body) ++ new ≡ fits.1.0 ++ new =
        append_assoc (print_request h) body new ∙ ap (λ t. print_request h ++ t) (sym took.0) ∙ sym has.reads.1 ∙ fits.1.1 in
        let same = append_cancel_right (print_request h ++ body) fits.1.0 new whole in
        none_some n (sym (crowded_open h (fits.1.2 h body (has.reads.0, sym same))) ∙ is)

-- ---- a head and what stands behind it

heading_is : (r : Heading) (h : RequestHead) → r.method ≡ h.method → r.target ≡ h.target → r.lines ≡ map name_and_value h.fields →
    r ≡ heading h
heading_is r h method target lines =
    ap (λ m. record { method = m; target = r.target; lines = r.lines }) method
    ∙ ap (λ t. record { method = h.method; target = t; lines = r.lines }) target
    ∙ ap (λ l. record { method = h.method; target = h.target; lines = l }) lines

-- the values of the code are those of the head
pub record IsLent (bytes : List ℕ) (headers : List HeaderSpan) (spans : RequestSpans) (r : Heading) : Type 0 where
  pub method : r.method ≡ span_bytes bytes spans.method
  pub target : r.target ≡ span_bytes bytes spans.path
  pub lines : r.lines ≡ map (header_bytes bytes) (take spans.headers headers)

pub behind_fits : (bytes : List ℕ) (headers : List HeaderSpan) (spans : RequestSpans) (r : Heading) (result : Result Incoming LinkFault) →
    IsLent bytes headers spans r
    → (old mid new : List ℕ) → IsWhole bytes headers spans old mid → FitsBehind r result mid new → Fits result old new
behind_fits bytes headers spans r result lent old mid new whole fits = by result fits
  where
    h : RequestHead
    h = whole.head

    is : r ≡ heading h
    is = heading_is r h (lent.method ∙ whole.at.method) (lent.target ∙ whole.at.path) (lent.lines ∙ whole.at.fields)

    same_length : delimited_length r ≡ delimited_length (heading h)
    same_length = ap delimited_length is

    by : (result : Result Incoming LinkFault) → FitsBehind r result mid new → Fits result old new
    by (Ok incoming) fits =
        let P : Heading → Type 0 = λ r. Follows (delimited_length r) r incoming mid new in
        inr (inr (h, mid, whole.has, subst P is fits))
    by (Err Cut) fits = (inr (h, mid, whole.has, fits.0, sym same_length ∙ fits.1, fits.2.0), fits.2.1)
    by (Err Failed) fits = (
      print_request h ++ fits.0,
      whole.has.reads.1 ∙ ap (λ t. print_request h ++ t) fits.1
          ∙ sym (append_assoc (print_request h) fits.0 new),
    )
    by (Err (NoMemory true)) fits = (h, mid, whole.has, fits.1.0, sym same_length ∙ fits.1.1, fits.1.2)
    by (Err (NoMemory false)) fits = absurd (false_true fits.0)
      where
        false_true : false ≡ true → ⊥
        false_true e = cc
