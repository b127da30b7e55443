-- What is read of links, one request behind the other, and of connections.
use Rattle.std.proofs.Common.{◌≡◌, ◌+◌, ◌<◌, ◌≤◌, ◌⊎◌, ◌∙◌, ℕ, List, [], ◌∷◌, length, refl, sym, subst, inl, inr, Option, Some, None}
use Rattle.std.proofs.Common.{Result, Ok, Err, arith}
use Rattle.ix_base.specs.Told.{Told}
use Rattle.ix_http.specs.Asked.{Fits}
use Rattle.ix_commit.specs.declared.fault.CommitFault.{CommitFault}
use Rattle.ix_net.specs.Links.{Standing, LinkStep}
use Rattle.ix_net.specs.Listeners.{Begins, TakesFirst, Adds, handed_back}
use Rattle.ix_serve.specs.Answer.{Found}
use Rattle.ix_serve.specs.Serving.{ComesOf, Reads}
use Rattle.ix_serve.specs.declared.served.Served.{Served}
use Rattle.ix_serve.specs.declared.served.ServeFault.{ServeFault}
use Rattle.ix_serve.specs.declared.served.ServeFault.TheVariants as fault
use Rattle.ix_sessions.specs.Connections.{Listened}
use Rattle.ix_sessions.specs.Feeding.{end_of, most_requests}
use Rattle.ix_sessions.specs.Reading.{AreWhole, AsMany, EndsBehind, HearsMany, IsFailure, IsHeard, ReadsOn, ReadsTo, end_by}
use Rattle.ix_sessions.specs.declared.feed.Fed.{Fed}
use Rattle.ix_sessions.specs.declared.feed.Fed.TheVariants as fed
use Rattle.ix_sessions.specs.declared.serve.Heard.{Heard}
use Rattle.ix_sessions.specs.declared.serve.Heard.TheVariants as heard
use Rattle.ix_sessions.proofs.Known.{read_ends}

-- ---- over one link

some_is : (a b : Fed) → Some a ≡ Some b → a ≡ b
some_is a b is = cc

-- a run that goes on was not ended by what was read
goes_on : (request : ℕ) (read : Found) (result : Result Served ServeFault) → ComesOf read result → end_of request result ≡ None →
    end_by request read ≡ None
goes_on request read (Ok value) comes none = sym (read_ends request read (Ok value) comes refl (λ is. cc is)) ∙ none
goes_on request read (Err fault.Disk) comes none = absurd (cc none)
goes_on request read (Err (fault.Damaged file at)) comes none = absurd (cc none)
goes_on request read (Err fault.Link) comes none = absurd (cc none)
goes_on request read (Err fault.Cut) comes none = absurd (cc none)

-- one that ends was, or the link or the disk has failed
ends_so : (request : ℕ) (read : Found) (result : Result Served ServeFault) (end : Fed) → ComesOf read result →
    end_of request result ≡ Some end → (end_by request read ≡ Some end) ⊎ IsFailure end
ends_so request read (Ok value) end comes is = inl (sym (read_ends request read (Ok value) comes refl (λ is. cc is)) ∙ is)
ends_so request read (Err fault.Disk) end comes is = inr (subst IsFailure (some_is _ end is) tt)
ends_so request read (Err (fault.Damaged file at)) end comes is = inr (subst IsFailure (some_is _ end is) tt)
ends_so request read (Err fault.Link) end comes is = inr (subst IsFailure (some_is _ end is) tt)
ends_so request read (Err fault.Cut) end comes is = inl (sym (read_ends request read (Err fault.Cut) comes refl (λ is. cc is)) ∙ is)

module _ (count : ℕ) (left mid left' : Option (List ℕ)) (result : Result Served ServeFault) (before : ReadsOn count left mid)
    (reads : Reads result mid left') where
  pub read_on : end_of (count + 1) result ≡ None → ReadsOn (count + 1) left left'
  read_on none = record {
    reads = reads.read ∷ before.reads;
    are = (mid, before.are, reads.took);
    made = omega (arith, before.made);
    whole = (
      subst (λ (n : ℕ). end_by (n + 1) reads.read ≡ None) (sym before.made) (goes_on (count + 1) reads.read result reads.comes none),
      before.whole,
    );
  }

  pub read_end : (end : Fed) → end_of (count + 1) result ≡ Some end → ReadsTo end left left'
  read_end end is = record {
    reads = reads.read ∷ before.reads;
    are = (mid, before.are, reads.took);
    ends = inl (
      subst (λ (n : ℕ). (end_by (n + 1) reads.read ≡ Some end)
          ⊎ IsFailure end) (sym before.made) (ends_so (count + 1) reads.read result end reads.comes is),
      before.whole,
    );
  }

pub read_all : (count : ℕ) (left left' : Option (List ℕ)) → count ≡ most_requests → ReadsOn count left left' →
    ReadsTo fed.Endless left left'
read_all count left left' most before = record {
  reads = before.reads;
  are = before.are;
  ends = inr (refl, before.made ∙ most, before.whole);
}

fails : (first end : Fed) → IsFailure end → (reads : List Found) → EndsBehind first reads
    ⊎ ((first ≡ fed.Endless) × (length reads ≡ most_requests) × AreWhole reads) → EndsBehind end reads
fails first end is [] (inl none) = absurd none
fails first end is [] (inr all) = absurd (omega (arith, all.1))
fails first end is (last ∷ earlier) (inl ends) = (inr is, ends.1)
fails first end is (last ∷ earlier) (inr all) = (inr is, all.2.1)

-- a failure may come behind any end
pub read_failed : (first end : Fed) (left left' : Option (List ℕ)) → IsFailure end → ReadsTo first left left' → ReadsTo end left left'
read_failed first end left left' is to = record { reads = to.reads; are = to.are; ends = inl (fails first end is to.reads to.ends) }

-- ---- over a connection each

-- the request of a connection, which was handed back
pub hearing : (came : Result Served ServeFault) (from to : Listened) (begun ended : Standing) (faults faults' : ℕ)
    (left left' given given' : Option (List ℕ)) →
    Begins begun left given faults → LinkStep begun ended → Told (TakesFirst left) from.waiting to.waiting →
    Told (Adds (handed_back ended given' faults')) from.handed to.handed →
    Reads came left left' → (read : Found) × IsHeard read from to
hearing came from to begun ended faults faults' left left' given given' begins goes waits backs reads =
    let held : ended.held ≡ left = goes.held ∙ begins.held in (
      reads.read,
      record {
        left = left';
        back = handed_back ended given' faults';
        took = subst (λ (x : Option (List ℕ)). Told (Fits reads.read) x left') (sym held) reads.took;
        waits = subst (λ (x : Option (List ℕ)). Told (TakesFirst x) from.waiting to.waiting) (sym held) waits;
        backs = backs;
      },
    )

-- one more
pub hear_on : (count : ℕ) (from mid to : Listened) → HearsMany (λ n. n ≡ count) from mid → (read : Found) × IsHeard read mid to →
    HearsMany (λ n. n ≡ count + 1) from to
hear_on count from mid to before next =
    let so_far : length before.reads ≡ count = before.made in
    let now : length (next.0 ∷ before.reads) ≡ count + 1 = omega (arith, so_far) in
    record { reads = next.0 ∷ before.reads; are = (mid, before.are, next.1); made = now }

pub hear_as : (count : ℕ) (many : ℕ → Type 0) (from to : Listened) → many count → HearsMany (λ n. n ≡ count) from to →
    HearsMany many from to
hear_as count many from to is hears =
    let made : length hears.reads ≡ count = hears.made in
    record { reads = hears.reads; are = hears.are; made = subst many (sym made) is }

-- the listener failed, which left all as it was
pub hear_stopped : (count requests : ℕ) (from to last : Listened) → count < requests → last.waiting ≡ to.waiting → last.handed ≡ to.handed →
    HearsMany (λ n. n ≡ count) from to → HearsMany (AsMany requests heard.Listener) from last
hear_stopped count requests from to last less w b hears =
    let same : last ≡ to = λ i. record { waiting = w i; handed = b i } in
    subst (λ (x : Listened). HearsMany (AsMany requests heard.Listener) from x) (sym same)
    (hear_as count (AsMany requests heard.Listener) from to less hears)

at_most : (requests count : ℕ) (end : Heard) → AsMany requests end count → count ≤ requests
at_most requests count heard.Done is = omega (arith, is)
at_most requests count heard.Listener is = omega (arith, is)
at_most requests count (heard.Broken cause) is = is

-- the disk may fail behind any end
pub hear_failed : (requests : ℕ) (first : Heard) (cause : CommitFault) (from to : Listened) → HearsMany (AsMany requests first) from to →
    HearsMany (AsMany requests (heard.Broken cause)) from to
hear_failed requests first cause from to hears = record {
  reads = hears.reads;
  are = hears.are;
  made = at_most requests (length hears.reads) first hears.made;
}
