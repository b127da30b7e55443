-- What was taken of a link, and what it is.
use Rattle.std.proofs.Common.{◌≡◌, ℕ, ◌<◌, ◌≤◌, ◌⊎◌, List, [], ◌∷◌, ◌++◌, length, take, drop, false, refl, sym, ap, ◌∙◌, subst, inl, inr}
use Rattle.std.proofs.Common.{arith, append_assoc}
use Rattle.std.proofs.lemmas.List.{append-nil, drop_all}
use Rattle.std.proofs.Math.Seq.{take-append_seam}
use Rattle.std.specs.Prelude.{Option, Some, None, Result, Ok, Err}
use Rattle.httparse.specs.Grammar.{RequestHead, ReadsRequest, print_request, HasNoRequest, NeverHasRequest}
use Rattle.httparse.specs.Spans.{IsRequestAt}
use Rattle.httparse.specs.declared.spans.HeaderSpan.{HeaderSpan}
use Rattle.httparse.specs.declared.spans.RequestSpans.{RequestSpans}
use Rattle.ix_base.specs.Told.{Told, Took}
use Rattle.ix_heads.specs.declared.faults.LinkFault.{LinkFault}
use Rattle.ix_heads.specs.declared.faults.LinkFault.TheVariants.{Failed, Cut, NoMemory}
use Rattle.ix_heads.specs.declared.reading.HeadRead.{HeadRead}
use Rattle.ix_heads.specs.declared.reading.HeadRead.TheVariants.{Ended, Bad, Whole}
use Rattle.ix_heads.specs.Limits.{max_head, max_lines}
use Rattle.ix_heads.specs.Heads.{IsSoon, IsHeadless, IsCut, IsCrowded, IsWhole, FitsEnd, FitsHead}
use Rattle.ix_heads.specs.Judging.{OnlyCrowded, IsHeadAt}
use Rattle.ix_heads.proofs.FrontLemmas.{longer_than_front}

-- nothing was taken
pub took_nothing : (x : Option (List ℕ)) → Told (Took []) x x
took_nothing None = tt
took_nothing (Some x) = refl

-- a byte behind what was taken
pub took_byte : (part more : List ℕ) (b : ℕ) (old mid new : List ℕ) → more ≡ part ++ b ∷ [] → Took part old mid → mid ≡ b ∷ new →
    Took more old new
took_byte part more b old mid new is took next =
    took ∙ ap (λ t. part ++ t) next ∙ sym (append_assoc part (b ∷ []) new) ∙ ap (λ t. t ++ new) (sym is)

-- bytes that are no head, with bytes behind them: a head would be longer
pub longer_head : (part old new : List ℕ) → HasNoRequest part → Took part old new → (h : RequestHead) (rest : List ℕ) →
    ReadsRequest old h rest → length part < length (print_request h)
longer_head part old new none took h rest reads =
    let P : List ℕ → Type 0 = λ t. HasNoRequest t in
    longer_than_front old (length part) (subst P (sym (ap (take (length part)) took ∙ take-append_seam part new)) none) h rest reads

-- what was refused, where nothing makes it a head
pub never_headless : (part old new : List ℕ) → length part ≤ max_head → NeverHasRequest part → IsSoon part → Took part old new →
    IsHeadless old new
never_headless part old new size never soon took = record {
  refused = part;
  before = took;
  size = size;
  none = λ h rest has. never new h rest (has.reads.0, sym took ∙ has.reads.1);
  settled = inr never;
  soon = soon;
}

-- what was refused, where it is as long as a head may be
pub full_headless : (part old new : List ℕ) → length part ≡ max_head → HasNoRequest part → IsSoon part → Took part old new →
    IsHeadless old new
full_headless part old new size none soon took = record {
  refused = part;
  before = took;
  size = omega (arith, size);
  none = λ h rest has. let longer = longer_head part old new none took h rest has.reads in let fits = has.size in
      omega (arith, longer, fits, size);
  settled = inl size;
  soon = soon;
}

pub end_fits : (bytes : List ℕ) (headers : List HeaderSpan) (result : Result HeadRead LinkFault) (part old mid new : List ℕ) →
    length part ≤ max_head → HasNoRequest part → IsSoon part
    → FitsEnd part result → Took part old mid → (mid ≡ []) × (new ≡ []) → FitsHead bytes headers result old new
end_fits bytes headers (Ok Ended) part old mid new size none soon fits took end = (took ∙ ap (λ t. t ++ mid) fits ∙ end.0, end.1)
end_fits bytes headers (Ok Bad) part old mid new size none soon fits took end = inl (by fits)
  where
    all : Took part old new
    all = took ∙ ap (λ t. part ++ t) (end.0 ∙ sym end.1)

    by : (length part ≡ max_head) ⊎ NeverHasRequest part → IsHeadless old new
    by (inl full) = full_headless part old new full none soon all
    by (inr never) = never_headless part old new size never soon all
end_fits bytes headers (Ok (Whole spans)) part old mid new size none soon fits took end = absurd fits
end_fits bytes headers (Err Cut) part old mid new size none soon fits took end =
    let whole : part ≡ old = sym (took ∙ ap (λ t. part ++ t) end.0 ∙ append-nil part) in
    let P : List ℕ → Type 0 = λ t. IsCut t in
    (subst P whole fits, end.1)
end_fits bytes headers (Err Failed) part old mid new size none soon fits took end = absurd fits
end_fits bytes headers (Err (NoMemory whole)) part old mid new size none soon fits took end =
    (fits, (part, took ∙ ap (λ t. part ++ t) (end.0 ∙ sym end.1), λ h rest reads. absurd (none h rest reads)))

pub bad_fits : (part old new : List ℕ) → length part ≤ max_head → IsSoon part
    → NeverHasRequest part ⊎ ((h : RequestHead) × ReadsRequest part h [] × (max_lines < length h.fields))
    → Took part old new → IsHeadless old new ⊎ IsCrowded old new
bad_fits part old new size soon (inl never) took = inl (never_headless part old new size never soon took)
bad_fits part old new size soon (inr found) took =
    let is : part ≡ print_request found.0 = found.1.1 ∙ append-nil (print_request found.0) in
    let len = ap length is in
    inr (found.0, record { reads = (found.1.0, took ∙ ap (λ t. t ++ new) is); size = omega (arith, len, size) }, found.2)

pub whole_fits : (part bytes : List ℕ) (headers : List HeaderSpan) (spans : RequestSpans) (old new : List ℕ) → length part ≤ max_head →
    take spans.len bytes ≡ part
    → IsHeadAt part headers spans → Took part old new → IsWhole (take spans.len bytes) headers spans old new
whole_fits part bytes headers spans old new size is head took =
    let none : drop spans.len part ≡ [] = drop_all spans.len part (omega (arith, head.len)) in
    let text : part ≡ print_request head.head = head.at.reads.1 ∙ ap (λ t. print_request head.head ++ t) none
    ∙ append-nil (print_request head.head) in
    let len = ap length text in
    let P : List ℕ → Type 0 = λ t. IsRequestAt t headers spans head.head in
    record {
      head = head.head;
      has = record { reads = (head.at.reads.0, took ∙ ap (λ t. t ++ new) text); size = omega (arith, len, size) };
      at = subst P (sym is) head.at;
    }

pub memory_fits : (bytes : List ℕ) (headers : List HeaderSpan) (part old new : List ℕ) → OnlyCrowded part → Took part old new →
    FitsHead bytes headers (Err (NoMemory false)) old new
memory_fits bytes headers part old new only took = (refl, (part, took, only))
